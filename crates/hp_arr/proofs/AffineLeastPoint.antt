-- There is a least point off affine hyperplanes. The rows are turned so that the constant stands in front, and points begin with 1: then the search for coordinates is that of linear forms, begun behind the 1.
use Rattle.std.proofs.Common.{◌≡◌, ℕ, zero, suc, ◌+◌, ◌-◌, ◌<◌, List, [], ◌∷◌, ◌++◌, map, take, drop, All, length, get_or, sym, ap, ◌∙◌, refl, subst, inl, inr, arith, length-append, append-nil, append_assoc}
use Rattle.std.proofs.lemmas.Bool.{false≢true, cases_Bool}
use Rattle.std.proofs.lemmas.List.{length-map, get_or-map, length-take-le}
use Rattle.std.proofs.lemmas.List.Elements.{All-nil, All-cons, All-map, All-push, All-take}
use Rattle.std.proofs.lemmas.List.FromFn.{length-range_with_len, get_or-range_with_len}
use Rattle.hp_algebra.specs.Ring.{RingOf, Numbering, IsRing, IsDomain, IsNumbering, dot_of}
use Rattle.hp_algebra.specs.Rows.{IsRow, entry}
use Rattle.hp_algebra.proofs.Rings.{field-domain}
use Rattle.hp_algebra.proofs.Dots.{dot_of_value, dot_of-push}
use Rattle.hp_arr.specs.Arrangement.{indices, ComesBefore, lies_in, LiesOff, IsLeastPointOff}
use Rattle.hp_arr.specs.PointSearch.{IsClosed, NoneClosed, HasRoom, IsNext, constant_first}
use Rattle.hp_arr.proofs.Closing.{zero_row-all, closed_whole}
use Rattle.hp_arr.proofs.LeastPoint.{IsOff, NoLater, some_open, next_is, next_no_later}
use Rattle.hp_arr.proofs.LeastPointExists.{least_open}
use Rattle.hp_arr.proofs.ConePoints.{AffineSetting, n, split-height, entry-height}
use Rattle.std.proofs.Math.Seq.{take-append_seam}

module _ {K : Type 0} (numbers : Numbering K) where
  not_before : (x y : List K) → NoLater numbers x y → ¬ (ComesBefore numbers y x)
  not_before [] [] n b = b
  not_before [] (y ∷ ys) n b = b
  not_before (x ∷ xs) [] n b = n
  not_before (x ∷ xs) (y ∷ ys) n b =
      elim n [
        | inl less ↦ elim b [ inl more ↦ omega arith | inr more ↦ (let e = ap numbers.place more.0 in omega (arith, e)) ]
        | inr same ↦ elim b [ inl more ↦ (let e = ap numbers.place same.0 in omega (arith, e)) | inr more ↦ not_before xs ys same.1 more.1 ]
      ]

-- ---- the search, behind any beginning that closes no form

module _ {K : Type 0} {ring : RingOf K} (laws : IsRing ring) {numbers : Numbering K} (domain : IsDomain ring) (numbering : IsNumbering ring numbers) (width : ℕ) (forms : List (List K))
    (rows : All (λ f. (length f ≡ width) × All ring.IsValue f) forms) (few : length forms < numbers.order) where
  room : (prefix : List K) → length prefix < width → All ring.IsValue prefix → HasRoom ring prefix forms
  room prefix shorter values = record {
    values = λ k d h. (rows k d h).1;
    prefix_values = values;
    longer = λ k d h. (let e = (rows k d h).0 in omega (arith, e, shorter));
  }

  -- a whole list that closes no form, and is no later than those off that are no later than the beginning
  abbrev pub IsEarliest : List K → List K → Type 0
  IsEarliest prefix x = (length x ≡ width) × NoneClosed ring x forms
      × ((y : List K) → length y ≡ width → All ring.IsValue y → IsOff ring forms y → NoLater numbers prefix y → NoLater numbers x y)

  pub search-from : (m : ℕ) (prefix : List K) → length prefix + m ≡ width → All ring.IsValue prefix → NoneClosed ring prefix forms
      → (rest : List K) × All ring.IsValue rest × IsEarliest prefix (prefix ++ rest)
  search-from zero prefix e values none =
      ([], All-nil ring.IsValue, subst (IsEarliest prefix) (sym (append-nil prefix)) (omega (arith, e), none, λ y ey vy off later. later))
  search-from (suc m) prefix e values none =
      let shorter : length prefix < width = omega (arith, e) in
      let has = room prefix shorter values in
      elim (least_open laws domain numbering prefix forms has (length forms + 1) (omega (arith, few))) [
        | inl each ↦ absurd (some_open laws domain numbering prefix forms has none few each)
        | inr found ↦ (
            let v = numbers.nth found.0 in
            let inside : found.0 < numbers.order = (let below = found.1 in omega (arith, below, few)) in
            let next : IsNext ring numbers prefix forms v = next_is laws domain numbering prefix forms found.0 v inside refl found.2 found.3 in
            let more = search-from m (prefix ++ v ∷ []) (omega (arith, e, length-append prefix (v ∷ []))) (All-push ring.IsValue prefix v values next.value) next.none_closed in (
              v ∷ more.0,
              All-cons ring.IsValue v more.0 next.value more.1,
              subst (IsEarliest prefix) (append_assoc prefix (v ∷ []) more.0) (
                more.2.0,
                more.2.1,
                λ y ey vy off later. more.2.2 y ey vy off
                    (next_no_later laws domain numbering prefix y forms v next vy off (omega (arith, ey, shorter)) later),
              ),
            ))
      ]

-- a list that begins with x still does with more behind
pub begins-more : {X : Type 0} (x : X) (xs ys : List X) → xs ≡ x ∷ drop 1 xs → xs ++ ys ≡ x ∷ drop 1 (xs ++ ys)
begins-more x [] ys e = absurd (cc e)
begins-more x (y ∷ xs) ys e = ap (λ s. s ++ ys) e

module _ {K : Type 0} (A : AffineSetting K) where
  open A use {ring, inverse, numbers, arr, field, num, lawful}

  abbrev pub turned : List (List K)
  turned = map (constant_first A.ring A.arr.dim) A.arr.forms

  turned-is : (f : List K) (rf : IsRow ring (arr.dim + 1) f) → constant_first ring arr.dim f ≡ (split-height ring arr.dim f rf).1 ∷ (split-height ring arr.dim f rf).0
  turned-is f rf =
      let d = split-height ring arr.dim f rf in
      λ j. (ap (λ g. entry ring g arr.dim) d.4 ∙ entry-height ring arr.dim d.0 d.1 d.2.0) j ∷ (ap (take arr.dim) d.4 ∙ front d.0 (d.1 ∷ []) arr.dim d.2.0) j
    where
      front : (xs ys : List K) (m : ℕ) → length xs ≡ m → take m (xs ++ ys) ≡ xs
      front xs ys m e = ap (λ k. take k (xs ++ ys)) (sym e) ∙ take-append_seam xs ys

  -- a turned row has the value of the row
  turned-value : (f x : List K) → IsRow ring (arr.dim + 1) f → IsRow ring arr.dim x → dot_of ring (constant_first ring arr.dim f) (ring.one ∷ x) ≡ dot_of ring f (x ++ ring.one ∷ [])
  turned-value f x rf rx =
      let L = field.is_ring in
      let d = split-height ring arr.dim f rf in
      let product = L.mul_value d.1 ring.one d.3 L.one_value in
      let value = dot_of_value L d.0 x d.2.1 rx.1 in
      ap (λ g. dot_of ring g (ring.one ∷ x)) (turned-is f rf)
      ∙ L.add_comm (ring.mul d.1 ring.one) (dot_of ring d.0 x) product value
      ∙ sym (dot_of-push L d.0 x d.1 ring.one (d.2.0 ∙ sym rx.0) d.2.1 rx.1 d.3 L.one_value)
      ∙ ap (λ g. dot_of ring g (x ++ ring.one ∷ [])) (sym d.4)

  pub turned-rows : All (λ f. (length f ≡ arr.dim + 1) × All ring.IsValue f) turned
  turned-rows = All-map (λ f. (length f ≡ arr.dim + 1) × All ring.IsValue f) (constant_first ring arr.dim) arr.forms (λ k d h.
      let r = lawful.rows k d h in
      let f = get_or arr.forms k d in
      let c = entry ring f arr.dim in (
        next (length (take arr.dim f)) arr.dim (length-take-le arr.dim f (let e = r.0 in omega (arith, e))),
        All-cons ring.IsValue c (take arr.dim f) (r.1 arr.dim ring.zero (let e = r.0 in omega (arith, e))) (All-take ring.IsValue arr.dim f r.1),
      ))
    where
      next : (t d : ℕ) → t ≡ d → suc t ≡ d + 1
      next t d e = omega (arith, e)

  turned-at : (k : ℕ) (d : List K) → k < length arr.forms → get_or turned k d ≡ constant_first ring arr.dim (get_or arr.forms k [])
  turned-at k d h = get_or-map (constant_first ring arr.dim) arr.forms k [] d h

  -- the 1 closes no row, since each has a coefficient that is not zero
  pub one_closes_none : NoneClosed ring (ring.one ∷ []) turned
  one_closes_none k d h closed =
      let inside : k < length arr.forms = (let e = length-map arr.forms (constant_first ring arr.dim) in omega (arith, e, h)) in
      let f = get_or arr.forms k [] in
      let r = lawful.rows k [] inside in
      let at : IsClosed ring (ring.one ∷ []) (constant_first ring arr.dim f) = subst (IsClosed ring (ring.one ∷ [])) (turned-at k d inside) closed in
      false≢true (sym (lawful.no_zero k [] inside) ∙ (zero_row-all field.is_ring (take arr.dim f) (All-take ring.IsValue arr.dim f r.1)).1 at.rest)

  lies-at : (k e : ℕ) (x : List K) → k < length arr.forms → lies_in ring arr (get_or (indices arr) k e) x ≡ ring.is_zero (dot_of ring (get_or arr.forms k []) (x ++ ring.one ∷ []))
  lies-at k e x h =
      let number : get_or (indices arr) k e ≡ 1 + k = get_or-range_with_len 1 (length arr.forms) k e h in
      let place : get_or (indices arr) k e - 1 ≡ k = omega (arith, number) in
      ap (λ i. ring.is_zero (dot_of ring (get_or arr.forms i []) (x ++ ring.one ∷ []))) place

  value-is : (k : ℕ) (x : List K) → k < length arr.forms → IsRow ring arr.dim x → ring.IsValue (dot_of ring (get_or arr.forms k []) (x ++ ring.one ∷ []))
  value-is k x h r = dot_of_value field.is_ring (get_or arr.forms k []) (x ++ ring.one ∷ []) (lawful.rows k [] h).1 (All-push ring.IsValue x ring.one r.1 field.is_ring.one_value)

  -- a point is off the hyperplanes exactly where, behind the 1, it is off the turned rows
  pub off-turned : (x : List K) → IsRow ring arr.dim x → LiesOff ring arr x → IsOff ring turned (ring.one ∷ x)
  off-turned x r off k d h z =
      let inside : k < length arr.forms = (let e = length-map arr.forms (constant_first ring arr.dim) in omega (arith, e, h)) in
      let listed : length (indices arr) ≡ length arr.forms = length-range_with_len 1 (length arr.forms) in
      let value = sym (turned-value (get_or arr.forms k []) x (lawful.rows k [] inside) r) ∙ ap (λ f. dot_of ring f (ring.one ∷ x)) (sym (turned-at k d inside)) ∙ z in
      false≢true (sym (off k 0 (omega (arith, listed, inside))) ∙ lies-at k 0 x inside ∙ (field.is_ring.zero_test _ (value-is k x inside r)).1 value)

  turned-off : (x : List K) → IsRow ring arr.dim x → IsOff ring turned (ring.one ∷ x) → LiesOff ring arr x
  turned-off x r off k e h =
      let listed : length (indices arr) ≡ length arr.forms = length-range_with_len 1 (length arr.forms) in
      let inside : k < length arr.forms = omega (arith, listed, h) in
      let long : k < length turned = (let m = length-map arr.forms (constant_first ring arr.dim) in omega (arith, m, inside)) in
      lies-at k e x inside
      ∙ elim (cases_Bool (ring.is_zero (dot_of ring (get_or arr.forms k []) (x ++ ring.one ∷ [])))) [
        | inl t ↦ absurd (off k [] long (ap (λ f. dot_of ring f (ring.one ∷ x)) (turned-at k [] inside) ∙ turned-value (get_or arr.forms k []) x (lawful.rows k [] inside) r ∙ (field.is_ring.zero_test _ (value-is k x inside r)).0 t))
        | inr other ↦ other
      ]

  -- Coordinates behind the 1 that close no turned row, and are no later than those of any point off, are the least point off.
  pub affine-least_is : (x : List K) → IsRow ring arr.dim x → NoneClosed ring (ring.one ∷ x) turned
      → ((y : List K) → IsRow ring arr.dim y → IsOff ring turned (ring.one ∷ y) → NoLater numbers (ring.one ∷ x) (ring.one ∷ y)) → IsLeastPointOff ring numbers arr x
  affine-least_is x point none earliest = record {
    point = point;
    off = turned-off x point (λ k d h z. none k d h (closed_whole (get_or turned k d) (ring.one ∷ x) (let e = (turned-rows k d h).0 in omega (arith, e, point.0)) z));
    least = λ y row off before. not_before numbers x y (tail y (earliest y row (off-turned y row off))) before;
  }
    where
      tail : (y : List K) → NoLater numbers (ring.one ∷ x) (ring.one ∷ y) → NoLater numbers x y
      tail y (inl less) = absurd (below (numbers.place ring.one) less)
        where
          below : (m : ℕ) → m < m → ⊥
          below m h = omega (arith, h)
      tail y (inr more) = more.1

  -- There is one.
  pub affine-least_exists : (x : List K) × IsLeastPointOff ring numbers arr x
  affine-least_exists =
      let w = search-from field.is_ring (field-domain field) num (arr.dim + 1) turned turned-rows few arr.dim (ring.one ∷ [])
      (omega arith) (All-cons ring.IsValue ring.one [] field.is_ring.one_value (All-nil ring.IsValue)) one_closes_none in
      let x = w.0 in
      let row : IsRow ring arr.dim x = (less (length x) arr.dim w.2.0, w.1) in
      (x, affine-least_is x row w.2.1 (λ y r off. w.2.2 (ring.one ∷ y) (more (length y) arr.dim r.0) (All-cons ring.IsValue ring.one y field.is_ring.one_value r.1) off (inr (refl, tt))))
    where
      few : length turned < numbers.order
      few = let e = length-map arr.forms (constant_first ring arr.dim) in let b = lawful.below_order in omega (arith, e, b)

      less : (m d : ℕ) → suc m ≡ d + 1 → m ≡ d
      less m d e = omega (arith, e)

      more : (m d : ℕ) → m ≡ d → suc m ≡ d + 1
      more m d e = omega (arith, e)
