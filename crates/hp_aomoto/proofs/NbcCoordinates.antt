-- Elements of degree k modulo the Orlik-Solomon ideal, by their coordinates at the sets without broken circuit of size k.
use Rattle.std.proofs.Common.{◌≡◌, ◌≢◌, ◌⊎◌, ℕ, ◌==◌, Bool, true, false, cond, List, [], ◌∷◌, map, length, filter, All, Contains, replicate, refl, sym, ap, subst, ◌∙◌, arith, inl, inr, Some}
use Rattle.std.specs.Option.{unwrap_or}
use Rattle.std.specs.FinMap.Entries.{find}
use Rattle.std.specs.Cmp.{tied_itself}
use Rattle.std.specs.Ordering.{is_eq}
use Rattle.std.proofs.lemmas.Bool.{cases_eq, eqb-true, eq-eqb, false≢true}
use Rattle.std.proofs.lemmas.List.{length-map}
use Rattle.std.proofs.lemmas.List.Elements.{All-nil, All-cons, All-head, All-tail, All-map}
use Rattle.hp_algebra.specs.Ring.{dot_of}
use Rattle.hp_algebra.specs.Rows.{IsRow, row_plus, row_scale, row_times}
use Rattle.hp_algebra.proofs.Rings.{mul_zero, zero_add}
use Rattle.hp_lists.proofs.Members.{Contains-here, Contains-later, Contains-cases, Contains-none, Contains-filter, filter-Contains, Contains-map, map-Contains, each-All}
use Rattle.hp_lists.proofs.Ordered.{Ordered-filter}
use Rattle.hp_lists.specs.Lists.{Ordered}
use Rattle.hp_sets.specs.Sets.{Set, IsSetWithin, cmp_listed, sets_within}
use Rattle.hp_sets.specs.ListedOrder.{cmp_listed_total, cmp_listed_same}
use Rattle.hp_sets.proofs.SetLists.{IsListedBefore, sets-complete, sets-rise}
use Rattle.hp_sums.specs.FiniteSums.{coefficient}
use Rattle.hp_sums.proofs.Collected.{collect-keys, sum-total, tie}
use Rattle.hp_sums.proofs.SumLaws.{plus-keys, negative-keys}
use Rattle.hp_sums.proofs.WeightedSums.{delta, total-delta, weighted_ext, weighted-none}
use Rattle.hp_arr.specs.Circuits.{is_nbc, nbc_sets, nbc_sets_of_size}
use Rattle.hp_arr.proofs.Setting.{Setting, n}
use Rattle.hp_circuits.proofs.NbcLaw.{Nbc}
use Rattle.hp_exterior.specs.Exterior.{Ext, IsOfDegree, ext_of, ext_plus, ext_coefficient, wedge}
use Rattle.hp_exterior.proofs.Inserted.{set_up}
use Rattle.hp_exterior.proofs.DegreeLaws.{at_second, at-second}
use Rattle.hp_os.specs.OrlikSolomon.{ext_minus, multiple, basis_element}
use Rattle.hp_os.proofs.IdealSetting.{Congruent, Element, In, NbcOnly, Normal, Summed, Terms, W, commutes, laws, sums}
use Rattle.hp_os.proofs.ElementLaws.{okay, summed-collect, summed-monomial, summed-wedge, element-okay, element-minus, element-wedge, make-element, w-value, w-collect, w-plus, w-minus, w-multiple, w-rest}
use Rattle.hp_os.proofs.Congruences.{congruent-wedge, congruent-in}
use Rattle.hp_os.proofs.NbcDuals.{IsDual, dual, dual-graded}
use Rattle.hp_os.proofs.NbcIndependence.{null-ideal}
use Rattle.hp_os.proofs.NormalExists.{normal-exists}

-- maps that agree on the members are equal, and the other way round
module _ {X Y : Type 0} where
  pub map_same : (f g : X → Y) (xs : List X) → ((x : X) → Contains xs x → f x ≡ g x) → map f xs ≡ map g xs
  map_same f g [] h = refl
  map_same f g (x ∷ xs) h =
      let e = h x (Contains-here x xs) in
      let r = map_same f g xs (λ y c. h y (Contains-later x xs y c)) in
      λ i. e i ∷ r i

  pub same_map : (f g : X → Y) (xs : List X) → map f xs ≡ map g xs → (x : X) → Contains xs x → f x ≡ g x
  same_map f g [] e x c = absurd (Contains-none x c)
  same_map f g (y ∷ xs) e x c = pick (Contains-cases y xs x c) (λ k. same_map f g xs (ap rest_of e) x k)
    where
      head_or : Y → List Y → Y
      head_or d [] = d
      head_or d (y ∷ ys) = y

      rest_of : List Y → List Y
      rest_of [] = []
      rest_of (y ∷ ys) = ys

      pick : (y ≡ x) ⊎ Contains xs x → (Contains xs x → f x ≡ g x) → f x ≡ g x
      pick (inl q) r = sym (ap f q) ∙ ap (head_or (f y)) e ∙ ap g q
      pick (inr k) r = r k

pub map_map : {X Y Z : Type 0} (f : Y → Z) (g : X → Y) (xs : List X) → map f (map g xs) ≡ map (λ x. f (g x)) xs
map_map f g [] = refl
map_map f g (x ∷ xs) = ap (λ ys. f (g x) ∷ ys) (map_map f g xs)

module _ {K : Type 0} (S : Setting K) where
  open S use {ring, inverse, numbers, arr, field}

  -- ---- the sets without broken circuit of one size

  abbrev pub N : ℕ → List Set
  N k = nbc_sets_of_size S.ring S.numbers S.arr k

  pub nbc-is : (k : ℕ) (s : Set) → Contains (N k) s → IsSetWithin (n S) s × Nbc S s × (length s ≡ k)
  unfolding nbc_sets_of_size nbc_sets
  nbc-is k s c =
      let a = filter-Contains (λ s. length s == k) (filter (is_nbc ring numbers arr) (sets_within (n S))) s c in
      let b = filter-Contains (is_nbc ring numbers arr) (sets_within (n S)) s a.0 in
      ((sets-complete (n S) s).0 b.0, b.1, eqb-true (length s) k a.1)

  pub nbc-has : (k : ℕ) (s : Set) → IsSetWithin (n S) s → Nbc S s → length s ≡ k → Contains (N k) s
  unfolding nbc_sets_of_size nbc_sets
  nbc-has k s h b e =
      Contains-filter (λ s. length s == k) (filter (is_nbc ring numbers arr) (sets_within (n S))) s
      (Contains-filter (is_nbc ring numbers arr) (sets_within (n S)) s ((sets-complete (n S) s).1 h) b) (eq-eqb (length s) k e)

  nbc-ordered : (k : ℕ) → Ordered IsListedBefore (N k)
  unfolding nbc_sets_of_size nbc_sets
  nbc-ordered k = Ordered-filter IsListedBefore (λ s. length s == k) _ (Ordered-filter IsListedBefore (is_nbc ring numbers arr) (sets_within (n S)) (sets-rise (n S)))

  -- ---- readers

  -- A set without broken circuit, with the functional that reads off its coefficient modulo the ideal.
  pub record Reader : Type 0 where
    pub set : Set
    pub within : IsSetWithin (n S) set
    pub nbc : Nbc S set
    pub value : Set → K
    pub is_dual : IsDual S set value
    pub graded : (t : Set) → (length t ≡ length set → ⊥) → value t ≡ S.ring.zero

  reader : (t : Set) → IsSetWithin (n S) t → Nbc S t → (d : Reader) × (d.set ≡ t)
  reader t h b =
      let u = set_up (n S) t h in
      let w = dual S t u b in
      (record { set = t; within = h; nbc = b; value = w.0; is_dual = w.1; graded = dual-graded S t u b }, refl)

  -- what a reader says of an element
  abbrev pub read : Reader → Ext K → K
  read d x = W S d.value x

  pub read-value : (d : Reader) (x : Ext K) → Terms S x → ring.IsValue (read d x)
  read-value d x o = w-value S d.value d.is_dual.values x o

  pub read-in : (d : Reader) (x : Ext K) → In S x → read d x ≡ ring.zero
  read-in d x h = null-ideal S d.value d.is_dual.values d.is_dual.null x h

  pub read-congruent : (d : Reader) (x y : Ext K) → Summed S x → Summed S y → Congruent S x y → read d x ≡ read d y
  read-congruent d x y h k c =
      w-rest S d.value d.is_dual.values x y h k ∙ ap (ring.add (read d y)) (read-in d _ c)
      ∙ (laws S).add_zero _ (w-value S d.value d.is_dual.values y (okay S y k))

  elsewhere : (d : Reader) (t : Set) → IsSetWithin (n S) t → Nbc S t → (t ≡ d.set → ⊥) → d.value t ≡ ring.zero
  elsewhere d t h b f = d.is_dual.elsewhere t (set_up (n S) t h) b f

  -- of terms without broken circuit it gives the coefficient
  pub read-coefficient : (d : Reader) (r : Ext K) → Element S r → NbcOnly S r → read d r ≡ ext_coefficient ring r d.set
  read-coefficient d r h b =
      weighted_ext (sums S) d.value (delta (sums S) d.set) r (λ i e l. here _ (h.1 i e l) (b i e l))
      ∙ sym (total-delta (sums S) d.set r (element-okay S r h)) ∙ sum-total (sums S) r d.set h.0.is_sum
    where
      here : (s : Set) → IsSetWithin (n S) s → Nbc S s → d.value s ≡ delta (sums S) d.set s
      here s hs hb = pick (is_eq (cmp_listed d.set s)) refl
        where
          pick : (c : Bool) → is_eq (cmp_listed d.set s) ≡ c → d.value s ≡ cond c ring.one ring.zero
          pick true e = ap d.value (sym (cmp_listed_same d.set s (tie (cmp_listed d.set s) e))) ∙ d.is_dual.at_self
          pick false e = elsewhere d s hs hb (λ q. false≢true (sym e ∙ ap (λ z. is_eq (cmp_listed d.set z)) q ∙ ap is_eq (tied_itself cmp_listed_total d.set)))

  -- it reads the coefficient of the normal form from the element itself
  pub normal-coefficient : (d : Reader) (x r : Ext K) → Summed S x → Normal S x r
      → ext_coefficient ring r d.set ≡ read d x
  normal-coefficient d x r h p = sym (read-coefficient d r p.element p.reduced) ∙ sym (read-congruent d x r h p.element.0.is_sum p.congruent)

  -- ---- the readers of one size

  abbrev pub set_of : Reader → Set
  set_of d = d.set

  readers_of : (ns : List Set) → ((s : Set) → Contains ns s → IsSetWithin (n S) s × Nbc S s) → (ds : List Reader) × (map set_of ds ≡ ns)
  readers_of [] h = ([], refl)
  readers_of (s ∷ ns) h =
      let w = h s (Contains-here s ns) in
      let d = reader s w.0 w.1 in
      let ds = readers_of ns (λ t c. h t (Contains-later s ns t c)) in
      (d.0 ∷ ds.0, λ i. d.1 i ∷ ds.1 i)

  pub all_readers : (k : ℕ) → (ds : List Reader) × (map set_of ds ≡ N k)
  all_readers k = readers_of (N k) (λ s c. let w = nbc-is k s c in (w.0, w.1))

  abbrev pub readers : ℕ → List Reader
  readers k = (all_readers k).0

  pub readers-sets : (k : ℕ) → map set_of (readers k) ≡ N k
  readers-sets k = (all_readers k).1

  pub readers-length : (k : ℕ) → length (readers k) ≡ length (N k)
  readers-length k = sym (length-map (readers k) set_of) ∙ ap (λ xs. length xs) (readers-sets k)

  pub readers-size : (k : ℕ) (d : Reader) → Contains (readers k) d → length d.set ≡ k
  readers-size k d c = (nbc-is k d.set (subst (λ (ts : List Set). Contains ts d.set) (readers-sets k) (Contains-map set_of (readers k) d c))).2

  -- no two have one set
  abbrev Distinct : List Reader → Type 0
  Distinct ds = Ordered (λ d e. d.set ≡ e.set → ⊥) ds

  distinct-from : (ds : List Reader) → Ordered IsListedBefore (map set_of ds) → Distinct ds
  distinct-from [] h = tt
  distinct-from (d ∷ ds) h = ((λ e c. apart d.set e.set (h.0 e.set (Contains-map set_of ds e c))), distinct-from ds h.1)
    where
      apart : (s t : Set) → IsListedBefore s t → s ≡ t → ⊥
      apart s t l e = false≢true (sym (ap is_eq l) ∙ ap (λ z. is_eq (cmp_listed s z)) (sym e) ∙ ap is_eq (tied_itself cmp_listed_total s))

  readers-distinct : (k : ℕ) → Distinct (readers k)
  readers-distinct k = distinct-from (readers k) (subst (λ ts. Ordered IsListedBefore ts) (sym (readers-sets k)) (nbc-ordered k))

  -- ---- coordinates

  abbrev pub coords : List Reader → Ext K → List K
  coords ds x = map (λ d. read d x) ds

  pub coords-row : (ds : List Reader) (x : Ext K) → Terms S x → IsRow ring (length ds) (coords ds x)
  coords-row ds x o = (length-map ds (λ d. read d x), All-map ring.IsValue (λ d. read d x) ds (each-All (λ d. ring.IsValue (read d x)) ds (λ d c. read-value d x o)))

  pub plus-map : {D : Type 0} (f h : D → K) (ds : List D)
      → row_plus ring (map f ds) (map h ds) ≡ map (λ d. ring.add (f d) (h d)) ds
  plus-map f h [] = refl
  plus-map f h (d ∷ ds) = ap (λ r. ring.add (f d) (h d) ∷ r) (plus-map f h ds)

  pub constant-map : {D : Type 0} (z : K) (ds : List D) → map (λ d. z) ds ≡ replicate (length ds) z
  constant-map z [] = refl
  constant-map z (d ∷ ds) = ap (λ r. z ∷ r) (constant-map z ds)

  pub coords-plus : (ds : List Reader) (x y : Ext K) → Summed S x → Summed S y
      → coords ds (ext_plus ring x y) ≡ row_plus ring (coords ds x) (coords ds y)
  coords-plus ds x y h k =
      map_same (λ d. read d (ext_plus ring x y)) (λ d. ring.add (read d x) (read d y)) ds (λ d c. w-plus S d.value d.is_dual.values x y h k)
      ∙ sym (plus-map (λ d. read d x) (λ d. read d y) ds)

  pub coords-multiple : (ds : List Reader) (c : K) (x : Ext K) → ring.IsValue c → Element S x
      → coords ds (multiple ring c x) ≡ row_scale ring c (coords ds x)
  coords-multiple ds c x v h =
      map_same (λ d. read d (multiple ring c x)) (λ d. ring.mul c (read d x)) ds (λ d m. w-multiple S d.value d.is_dual.values c x v h)
      ∙ sym (map_map (ring.mul c) (λ d. read d x) ds)

  pub coords-congruent : (ds : List Reader) (x y : Ext K) → Summed S x → Summed S y → Congruent S x y → coords ds x ≡ coords ds y
  coords-congruent ds x y h k c = map_same (λ d. read d x) (λ d. read d y) ds (λ d m. read-congruent d x y h k c)

  pub degree-minus : (k : ℕ) (x y : Ext K) → IsOfDegree ring k x → IsOfDegree ring k y → IsOfDegree ring k (ext_minus ring x y)
  degree-minus k x y h d = plus-keys (sums S) (λ s. length s ≡ k) x _ h (negative-keys (sums S) (λ s. length s ≡ k) y d)

  -- ---- an element from its coordinates

  abbrev pub terms_of : List Reader → List K → Ext K
  terms_of [] v = []
  terms_of (d ∷ ds) [] = []
  terms_of (d ∷ ds) (c ∷ v) = (d.set, c) ∷ terms_of ds v

  abbrev pub element_of : List Reader → List K → Ext K
  element_of ds v = ext_of S.ring (terms_of ds v)

  abbrev Val : Set × K → Type 0
  Val t = S.ring.IsValue t.1

  pub terms-values : (ds : List Reader) (v : List K) → All ring.IsValue v → Terms S (terms_of ds v)
  terms-values [] v h = All-nil Val
  terms-values (d ∷ ds) [] h = All-nil Val
  terms-values (d ∷ ds) (c ∷ v) h = All-cons Val (d.set, c) _ (All-head ring.IsValue c v h) (terms-values ds v (All-tail ring.IsValue c v h))

  pub terms-keys : (P : Set → Type 0) (ds : List Reader) (v : List K) → ((d : Reader) → Contains ds d → P d.set)
      → All (λ (t : Set × K). P t.0) (terms_of ds v)
  terms-keys P [] v h = All-nil (λ (t : Set × K). P t.0)
  terms-keys P (d ∷ ds) [] h = All-nil (λ (t : Set × K). P t.0)
  terms-keys P (d ∷ ds) (c ∷ v) h = All-cons (λ (t : Set × K). P t.0) (d.set, c) _ (h d (Contains-here d ds)) (terms-keys P ds v (λ e m. h e (Contains-later d ds e m)))

  pub element-keys : (P : Set → Type 0) (ds : List Reader) (v : List K) → ((d : Reader) → Contains ds d → P d.set)
      → All (λ (t : Set × K). P t.0) (element_of ds v)
  element-keys P ds v h = collect-keys (sums S) P _ (terms-keys P ds v h)

  pub element-element : (ds : List Reader) (v : List K) → All ring.IsValue v → Element S (element_of ds v)
  element-element ds v h = make-element S _ (summed-collect S _ (terms-values ds v h)) (element-keys (IsSetWithin (n S)) ds v (λ d c. d.within))

  pub element-degree : (k : ℕ) (v : List K) → IsOfDegree ring k (element_of (readers k) v)
  element-degree k v = element-keys (λ s. length s ≡ k) (readers k) v (λ d c. readers-size k d c)

  w-terms : (g : Set → K) (ds : List Reader) (v : List K) → W S g (terms_of ds v) ≡ dot_of ring v (map (λ d. g d.set) ds)
  w-terms g [] [] = refl
  w-terms g [] (c ∷ v) = refl
  w-terms g (d ∷ ds) [] = refl
  w-terms g (d ∷ ds) (c ∷ v) = ap (ring.add (ring.mul c (g d.set))) (w-terms g ds v)

  units : (ds : List Reader) (v : List K) → Distinct ds → IsRow ring (length ds) v
      → map (λ d. W S d.value (terms_of ds v)) ds ≡ v
  units [] [] p r = refl
  units [] (c ∷ v) p r = absurd (omega (arith, r.0))
  units (d ∷ ds) [] p r = absurd (omega (arith, r.0))
  units (d ∷ ds) (c ∷ v) p r =
      let L = laws S in
      let vc = All-head ring.IsValue c v r.1 in
      let vv = All-tail ring.IsValue c v r.1 in
      let o = terms-values ds v vv in
      let others : W S d.value (terms_of ds v) ≡ ring.zero = none d ds v vv (λ e m q. p.0 e m (sym q)) in
      let first = (λ i. ring.add (ring.mul c (d.is_dual.at_self i)) (others i)) ∙ L.add_zero _ (L.mul_value c _ vc L.one_value) ∙ L.mul_one c vc in
      let rest = map_same (λ b. ring.add (ring.mul c (b.value d.set)) (W S b.value (terms_of ds v))) (λ b. W S b.value (terms_of ds v)) ds (λ b m.
      ap (λ z. ring.add z (W S b.value (terms_of ds v))) (ap (ring.mul c) (elsewhere b d.set d.within d.nbc (p.0 b m)) ∙ mul_zero L c vc) ∙ zero_add L _ (w-value S b.value b.is_dual.values _ o))
      ∙ units ds v p.1 (omega (arith, r.0), vv) in
      λ i. first i ∷ rest i
    where
      none : (d : Reader) (ds : List Reader) (v : List K) → All ring.IsValue v
          → ((e : Reader) → Contains ds e → e.set ≡ d.set → ⊥) → W S d.value (terms_of ds v) ≡ ring.zero
      none d [] v h f = refl
      none d (e ∷ ds) [] h f = refl
      none d (e ∷ ds) (c ∷ v) h f =
          let L = laws S in
          let z = elsewhere d e.set e.within e.nbc (f e (Contains-here e ds)) in
          let r = none d ds v (All-tail ring.IsValue c v h) (λ b m. f b (Contains-later e ds b m)) in
          (λ i. ring.add (ring.mul c (z i)) (r i)) ∙ ap (λ y. ring.add y ring.zero) (mul_zero L c (All-head ring.IsValue c v h)) ∙ L.add_zero _ L.zero_value

  -- its coordinates are the given ones
  pub coords-element : (k : ℕ) (v : List K) → IsRow ring (length (readers k)) v → coords (readers k) (element_of (readers k) v) ≡ v
  coords-element k v r =
      map_same (λ d. read d (element_of (readers k) v)) (λ d. W S d.value (terms_of (readers k) v)) (readers k)
      (λ d c. w-collect S d.value d.is_dual.values _ (terms-values (readers k) v r.1)) ∙ units (readers k) v (readers-distinct k) r

  -- ---- products by matrices

  row-columns : {D E : Type 0} (f : D → E → K) (v : List K) (ds : List D) (es : List E)
      → row_times ring (length es) v (map (λ d. map (f d) es) ds) ≡ map (λ e. dot_of ring v (map (λ d. f d e) ds)) es
  row-columns f [] [] es = sym (constant-map ring.zero es)
  row-columns f [] (d ∷ ds) es = sym (constant-map ring.zero es)
  row-columns f (c ∷ v) [] es = sym (constant-map ring.zero es)
  row-columns f (c ∷ v) (d ∷ ds) es =
      (λ i. row_plus ring (map_map (ring.mul c) (f d) es i) (row-columns f v ds es i))
      ∙ plus-map (λ e. ring.mul c (f d e)) (λ e. dot_of ring v (map (λ d. f d e) ds)) es

  -- the coordinates of the products of w with the basis elements
  abbrev pub product_rows : Ext K → List Reader → List Reader → List (List K)
  product_rows w ds es = map (λ d. coords es (wedge S.ring w (basis_element S.ring d.set))) ds

  pub product-rows : (w : Ext K) (ds es : List Reader) → Summed S w → All (IsRow ring (length es)) (product_rows w ds es)
  product-rows w ds es h = All-map (IsRow ring (length es)) (λ d. coords es (wedge ring w (basis_element ring d.set))) ds
      (λ i d l. coords-row es _ (okay S _ (summed-wedge S w _ h (summed-monomial S ring.one _ (laws S).one_value))))

  -- of a product with an element of given coordinates they are the product with the matrix
  pub coords-product_of : (w : Ext K) (ds es : List Reader) (v : List K) → Summed S w → All ring.IsValue v
      → coords es (wedge ring w (element_of ds v)) ≡ row_times ring (length es) v (product_rows w ds es)
  coords-product_of w ds es v h vv =
      map_same (λ e. read e (wedge ring w (element_of ds v))) (λ e. dot_of ring v (map (λ d. at_second (laws S) (commutes S) e.value w d.set) ds)) es
      (λ e c. at-second (laws S) (commutes S) e.value e.is_dual.values w (terms_of ds v) (okay S w h) (terms-values ds v vv) ∙ w-terms (at_second (laws S) (commutes S) e.value w) ds v)
      ∙ sym (row-columns (λ d e. at_second (laws S) (commutes S) e.value w d.set) v ds es)

  -- an element of degree k whose coordinates are zero is in the ideal
  pub in-coords : (k : ℕ) (x : Ext K) → Element S x → IsOfDegree ring k x
      → ((d : Reader) → Contains (readers k) d → read d x ≡ ring.zero) → In S x
  in-coords k x h deg z = let w = normal-exists S x h in nothing w.0 w.1
    where
      own : (t : Set × K) (r : Ext K) → coefficient cmp_listed ring (t ∷ r) t.0 ≡ t.1
      own t r = ap (λ o. unwrap_or (cond (is_eq o) (Some t.1) (find cmp_listed t.0 r)) ring.zero) (tied_itself cmp_listed_total t.0)

      -- the readers of other sizes see nothing of x either
      sees : (s : Set) → IsSetWithin (n S) s → Nbc S s → (length s ≡ k) ⊎ (length s ≡ k → ⊥) → (d : Reader) × (d.set ≡ s) × (read d x ≡ ring.zero)
      sees s hs b (inl e) =
          let m = map-Contains set_of (readers k) s (subst (λ (ts : List Set). Contains ts s) (sym (readers-sets k)) (nbc-has k s hs b e)) in
          (m.0, m.2, z m.0 m.1)
      sees s hs b (inr f) =
          let d = reader s hs b in
          (d.0, d.1, weighted-none (sums S) d.0.value x (element-okay S x h) (λ i e l. d.0.graded _ (λ q. f (ap (λ u. length u) (sym d.1) ∙ sym q ∙ deg i e l))))

      nothing : (r : Ext K) → Normal S x r → In S x
      nothing [] p = congruent-in S x h.0.is_sum p.congruent
      nothing (t ∷ r) p =
          let T : Set × K → Type 0 = λ t. ring.IsValue t.1 × (t.1 ≢ ring.zero) in
          let w = sees t.0 (All-head (λ t. IsSetWithin (n S) t.0) t r p.element.1) (All-head (λ t. Nbc S t.0) t r p.reduced) (cases_eq (length t.0) k) in
          let e : coefficient cmp_listed ring (t ∷ r) t.0 ≡ ring.zero = ap (coefficient cmp_listed ring (t ∷ r)) (sym w.1) ∙ normal-coefficient w.0 x (t ∷ r) h.0.is_sum p ∙ w.2 in
          absurd ((All-head T t r p.element.0.is_sum.values).1 (sym (own t r) ∙ e))

  -- elements of degree k with the same coordinates are congruent
  pub congruent-coords : (k : ℕ) (x y : Ext K) → Element S x → Element S y → IsOfDegree ring k x → IsOfDegree ring k y
      → coords (readers k) x ≡ coords (readers k) y → Congruent S x y
  congruent-coords k x y h j d e q =
      in-coords k _ (element-minus S x y h j) (degree-minus k x y d e) (λ r c.
      w-minus S r.value r.is_dual.values x y h.0.is_sum j.0.is_sum
      ∙ ap (λ z. ring.add z (ring.neg (read r y))) (same_map (λ d. read d x) (λ d. read d y) (readers k) q r c)
      ∙ (laws S).add_neg _ (read-value r y (element-okay S y j)))

  -- The coordinates of w ∧ z are those of z times the matrix of the products of w with the basis elements.
  pub coords-product : (k : ℕ) (w z : Ext K) (es : List Reader) → Element S w → Element S z → IsOfDegree ring k z
      → coords es (wedge ring w z) ≡ row_times ring (length es) (coords (readers k) z) (product_rows w (readers k) es)
  coords-product k w z es hw hz dz =
      let v = coords (readers k) z in
      let r = coords-row (readers k) z (element-okay S z hz) in
      let y = element_of (readers k) v in
      let hy = element-element (readers k) v r.1 in
      let c = congruent-coords k z y hz hy dz (element-degree k v) (sym (coords-element k v r)) in
      coords-congruent es _ _ (element-wedge S w z hw hz).0.is_sum (element-wedge S w y hw hy).0.is_sum (congruent-wedge S w z y hw hz hy c)
      ∙ coords-product_of w (readers k) es v hw.0.is_sum r.1
