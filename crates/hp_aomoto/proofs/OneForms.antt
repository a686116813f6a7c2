-- Elements of degree one: their products raise the degree by one, and their squares are zero.
use Rattle.std.proofs.Common.{◌≡◌, ℕ, suc, ◌+◌, ◌≤◌, List, [], ◌∷◌, map, zip, length, All, refl, sym, ap, subst, ◌∙◌, arith}
use Rattle.std.proofs.lemmas.List.Elements.{All-nil, All-cons, All-head, All-tail}
use Rattle.hp_lists.specs.Lists.{one_to}
use Rattle.hp_sets.specs.Sets.{Set}
use Rattle.hp_sets.proofs.SetLaws.{single-set, one_to-set}
use Rattle.hp_sums.proofs.Collected.{collect-keys}
use Rattle.hp_sums.proofs.SumLaws.{plus-keys}
use Rattle.hp_arr.proofs.Setting.{Setting, n}
use Rattle.hp_exterior.specs.Exterior.{Ext, IsOfDegree, monomial, wedge}
use Rattle.hp_exterior.specs.ExteriorRing.{ext_is_ring}
use Rattle.hp_exterior.proofs.DegreeLaws.{degree-wedge}
use Rattle.hp_exterior.proofs.GradedLaws.{wedge_square}
use Rattle.hp_os.specs.OrlikSolomon.{ext_sum, one_form}
use Rattle.hp_os.proofs.IdealSetting.{Element, commutes, laws, sums}
use Rattle.hp_os.proofs.ElementLaws.{element-monomial, element-nothing, element-plus}
use Rattle.hp_algebra.proofs.Rings.{zero_mul}

module _ {K : Type 0} (S : Setting K) where
  open S use {ring, numbers, arr}

  abbrev Deg : ℕ → Set × K → Type 0
  Deg k t = length t.0 ≡ k

  -- a value, and the number of a hyperplane
  abbrev Good : K × ℕ → Type 0
  Good t = S.ring.IsValue t.0 × (1 ≤ t.1) × (t.1 ≤ n S)

  abbrev form_of : List (K × ℕ) → Ext K
  form_of ts = ext_sum S.ring (map (λ t. monomial S.ring t.0 (t.1 ∷ [])) ts)

  form-parts : (ts : List (K × ℕ)) → All Good ts → Element S (form_of ts) × IsOfDegree ring 1 (form_of ts)
  form-parts [] h = (element-nothing S, All-nil (Deg 1))
  form-parts (t ∷ ts) h =
      let g = All-head Good t ts h in
      let w = form-parts ts (All-tail Good t ts h) in
      let one = element-monomial S t.0 (t.1 ∷ []) g.0 (single-set (n S) t.1 g.1 g.2) in (
        element-plus S _ _ one w.0,
        plus-keys (sums S) (λ s. length s ≡ 1) _ _ (collect-keys (sums S) (λ s. length s ≡ 1) ((t.1 ∷ [], t.0) ∷ []) (All-cons (Deg 1) (t.1 ∷ [], t.0) [] refl (All-nil (Deg 1)))) w.1,
      )

  abbrev Number : ℕ → Type 0
  Number i = (1 ≤ i) × (i ≤ n S)

  zipped : (ws : List K) (js : List ℕ) → All ring.IsValue ws → All Number js → All Good (zip ws js)
  zipped [] js v h = All-nil Good
  zipped (w ∷ ws) [] v h = All-nil Good
  zipped (w ∷ ws) (j ∷ js) v h =
      let g = All-head Number j js h in
      All-cons Good (w, j) (zip ws js) (All-head ring.IsValue w ws v, g.0, g.1)
      (zipped ws js (All-tail ring.IsValue w ws v) (All-tail Number j js h))

  module _ (weights : List K) (values : All S.ring.IsValue weights) where
    -- the sum of w_i e_i
    abbrev pub ω : Ext K
    ω = one_form S.ring S.numbers S.arr weights

    all : Element S ω × IsOfDegree S.ring 1 ω
    all = form-parts (zip weights (one_to (n S))) (zipped weights (one_to (n S)) values (one_to-set (n S)).members)

    pub omega-element : Element S ω
    omega-element = all.0

    pub omega-degree : IsOfDegree S.ring 1 ω
    omega-degree = all.1

    -- the product with an element of degree k has degree k + 1
    pub omega-chain : (k : ℕ) (y : Ext K) → Element S y → IsOfDegree S.ring k y
        → IsOfDegree S.ring (suc k) (wedge S.ring ω y)
    omega-chain k y h d =
        subst (λ j. IsOfDegree ring j (wedge ring ω y)) (next k)
        (degree-wedge (laws S) (commutes S) 1 k ω y omega-element.0 h.0 omega-degree d)
      where
        next : (k : ℕ) → 1 + k ≡ suc k
        next k = omega arith

    -- ω ∧ ω ∧ y = 0
    pub omega-twice : (y : Ext K) → Element S y → wedge S.ring ω (wedge S.ring ω y) ≡ []
    omega-twice y h =
        let E = ext_is_ring (laws S) (commutes S) in
        sym (E.mul_assoc ω ω y omega-element.0 omega-element.0 h.0)
        ∙ ap (λ z. wedge ring z y) (wedge_square (laws S) (commutes S) 1 ω omega-element.0 omega-degree refl) ∙ zero_mul E y h.0
