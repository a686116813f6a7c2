-- The value of a form at the beginning of a point, and the values that close a form.
use Rattle.std.proofs.Common.{◌≡◌, ◌↔◌, ℕ, ◌+◌, ◌<◌, ◌≤◌, true, List, [], ◌∷◌, ◌++◌, All, length, get_or, drop, sym, ap, ◌∙◌, arith, refl, inl, inr, length-append, subst}
use Rattle.std.proofs.lemmas.Bool.{cases_lt, and_parts, and_from}
use Rattle.std.proofs.lemmas.List.{get_or_past, get_or_read, drop_more, drop_all}
use Rattle.std.proofs.lemmas.List.Elements.{All-head, All-tail, All-cons, All-nil, All-get_or}
use Rattle.hp_algebra.specs.Ring.{RingOf, IsRing, IsDomain, dot_of}
use Rattle.hp_algebra.proofs.Dots.{dot_of_value, dot_of-nil}
use Rattle.hp_algebra.proofs.Rings.{zero_mul, add_cancel, mul_cancel}
use Rattle.hp_algebra.specs.Rows.{is_zero_row}
use Rattle.hp_arr.specs.PointSearch.{IsClosed}

-- what is left behind the prefix and one coordinate
pub drop-snoc : {K : Type 0} (f prefix : List K) (v : K) → drop (length (prefix ++ v ∷ [])) f ≡ drop (length prefix + 1) f
drop-snoc f prefix v = ap (λ n. drop n f) (length-append prefix (v ∷ []))

module _ {K : Type 0} {ring : RingOf K} (laws : IsRing ring) where
  dot_of-zeros : (f x : List K) → All (λ c. c ≡ ring.zero) f → All ring.IsValue x → dot_of ring f x ≡ ring.zero
  dot_of-zeros [] x z v = refl
  dot_of-zeros (c ∷ f) [] z v = refl
  dot_of-zeros (c ∷ f) (y ∷ x) z v =
      let Zero : K → Type 0 = λ c. c ≡ ring.zero in
      ap (λ s. ring.add (ring.mul s y) (dot_of ring f x)) (All-head Zero c f z)
      ∙ ap (λ s. ring.add s (dot_of ring f x)) (zero_mul laws y (All-head ring.IsValue y x v))
      ∙ ap (λ s. ring.add ring.zero s) (dot_of-zeros f x (All-tail Zero c f z) (All-tail ring.IsValue y x v))
      ∙ laws.add_zero _ laws.zero_value

  -- what follows a closed beginning does not change the value
  dot_of-closed : (f prefix rest : List K) → All (λ c. c ≡ ring.zero) (drop (length prefix) f) → All ring.IsValue rest → dot_of ring f (prefix ++ rest) ≡ dot_of ring f prefix
  dot_of-closed f [] rest z v = dot_of-zeros f rest z v ∙ sym (dot_of-nil ring f)
  dot_of-closed [] (x ∷ prefix) rest z v = refl
  dot_of-closed (c ∷ f) (x ∷ prefix) rest z v = ap (λ s. ring.add (ring.mul c x) s) (dot_of-closed f prefix rest z v)

  -- a form that is closed is zero at each point that begins so
  pub closed_value : (f prefix rest : List K) → IsClosed ring prefix f → All ring.IsValue rest → dot_of ring f (prefix ++ rest) ≡ ring.zero
  closed_value f prefix rest closed v = dot_of-closed f prefix rest closed.rest v ∙ closed.value

  -- the test of a row for zero
  pub zero_row-all : (f : List K) → All ring.IsValue f → (is_zero_row ring f ≡ true) ↔ All (λ c. c ≡ ring.zero) f
  zero_row-all [] v = (λ t. All-nil (λ c. c ≡ ring.zero), λ z. refl)
  zero_row-all (c ∷ f) v =
      let Zero : K → Type 0 = λ c. c ≡ ring.zero in
      let at = laws.zero_test c (All-head ring.IsValue c f v) in
      let rest = zero_row-all f (All-tail ring.IsValue c f v) in (
        λ t. (let parts = and_parts (ring.is_zero c) (is_zero_row ring f) t in All-cons Zero c f (at.0 parts.0) (rest.0 parts.1)),
        λ z. and_from _ _ (at.1 (All-head Zero c f z)) (rest.1 (All-tail Zero c f z)),
      )

  get_or_value : (f : List K) (i : ℕ) → All ring.IsValue f → ring.IsValue (get_or f i ring.zero)
  get_or_value f i p = elim (cases_lt i (length f)) [ inl within ↦ All-get_or ring.IsValue f i ring.zero within p | inr past ↦ let P : K → Type 0 = ring.IsValue in subst P (sym (get_or_past f i ring.zero past)) laws.zero_value ]

  -- one coordinate more
  dot_of-snoc : (f prefix : List K) (x : K) → All ring.IsValue f → All ring.IsValue prefix → ring.IsValue x → length prefix < length f → dot_of ring f (prefix ++ x ∷ []) ≡ ring.add (dot_of ring f prefix) (ring.mul (get_or f (length prefix) ring.zero) x)
  dot_of-snoc [] prefix x p q v h = absurd (omega arith)
  dot_of-snoc (c ∷ f) [] x p q v h =
      let product = laws.mul_value c x (All-head ring.IsValue c f p) v in
      ap (λ s. ring.add (ring.mul c x) s) (dot_of-nil ring f) ∙ laws.add_comm _ _ product laws.zero_value
  dot_of-snoc (c ∷ f) (y ∷ prefix) x p q v h =
      let pf = All-tail ring.IsValue c f p in
      let qp = All-tail ring.IsValue y prefix q in
      let within : length prefix < length f = omega arith in
      let first = laws.mul_value c y (All-head ring.IsValue c f p) (All-head ring.IsValue y prefix q) in
      let last = laws.mul_value _ x (get_or_value f (length prefix) pf) v in
      ap (λ s. ring.add (ring.mul c y) s) (dot_of-snoc f prefix x pf qp v within)
      ∙ sym (laws.add_assoc _ _ _ first (dot_of_value laws f prefix pf qp) last)

  -- the value at one coordinate more, as it is computed
  pub sum_is : (f prefix : List K) (x v : K) (s t sum : K) → All ring.IsValue f → All ring.IsValue prefix → ring.IsValue v → length prefix < length f → x ≡ get_or f (length prefix) x → s ≡ dot_of ring f prefix → t ≡ ring.mul x v → sum ≡ ring.add s t → sum ≡ dot_of ring f (prefix ++ v ∷ [])
  sum_is f prefix x v s t sum pf pp vv h read es et e =
      e
      ∙ ap (λ a. ring.add a t) es
      ∙ ap (λ a. ring.add (dot_of ring f prefix) a) (et ∙ ap (λ a. ring.mul a v) (get_or_read f (length prefix) x h read ring.zero))
      ∙ sym (dot_of-snoc f prefix v pf pp vv h)

  -- one value at most closes a form that is not closed before
  pub one_closes : IsDomain ring → (f prefix : List K) (v w : K) → All ring.IsValue f → All ring.IsValue prefix → length prefix < length f → ¬ (IsClosed ring prefix f) → ring.IsValue v → ring.IsValue w → IsClosed ring (prefix ++ v ∷ []) f → IsClosed ring (prefix ++ w ∷ []) f → v ≡ w
  one_closes domain f prefix v w pf pp h not_closed vv vw cv cw =
      let k = length prefix in
      let c = get_or f k ring.zero in
      let s = dot_of ring f prefix in
      let value_c = All-get_or ring.IsValue f k ring.zero h pf in
      let value_s = dot_of_value laws f prefix pf pp in
      let at_v = sym (dot_of-snoc f prefix v pf pp vv h) ∙ cv.value in
      let at_w = sym (dot_of-snoc f prefix w pf pp vw h) ∙ cw.value in
      let same = add_cancel laws s _ _ value_s (laws.mul_value c v value_c vv) (laws.mul_value c w value_c vw) (at_v ∙ sym at_w) in
      mul_cancel laws domain c v w value_c vv vw (λ e. not_closed (record {
        value = sym (laws.add_zero s value_s) ∙ ap (λ x. ring.add s x) (sym (zero_mul laws v vv)) ∙ ap (λ x. ring.add s (ring.mul x v)) (sym e) ∙ at_v;
        rest = all_rest e;
      })) same
    where
      all_rest : get_or f (length prefix) ring.zero ≡ ring.zero → All (λ c. c ≡ ring.zero) (drop (length prefix) f)
      all_rest e =
          let Zero : K → Type 0 = λ c. c ≡ ring.zero in
          let longer : length (prefix ++ v ∷ []) ≡ length prefix + 1 = length-append prefix (v ∷ []) in
          let Zeros : ℕ → Type 0 = λ n. All Zero (drop n f) in
          let Rest : List K → Type 0 = All Zero in
          subst Rest (sym (drop_more f (length prefix) ring.zero h)) (All-cons Zero _ _ e (subst Zeros longer cv.rest))

-- a form that is zero at a whole point is closed by it
pub closed_whole : {K : Type 0} {ring : RingOf K} (f x : List K) → length f ≤ length x → dot_of ring f x ≡ ring.zero → IsClosed ring x f
closed_whole {ring = ring} f x h zero_there = record {
  value = zero_there;
  rest = let Zeros : List _ → Type 0 = All (λ c. c ≡ ring.zero) in subst Zeros (sym (drop_all (length x) f h)) (All-nil (λ c. c ≡ ring.zero));
}
