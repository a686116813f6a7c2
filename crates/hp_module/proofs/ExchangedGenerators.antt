-- Exchange of homogeneous generators: where a vector of no higher degree needs the last generator, that generator needs it.
use Rattle.std.specs.Prelude.{◌≡◌, ◌≢◌, ◌⊎◌, ℕ, ◌+◌, ◌-◌, ◌<◌, ◌≤◌, true, false, cond, List, [], ◌∷◌, ◌++◌, length, All, slice_index_or}
use Rattle.std.specs.Ordering.{eq_by_cmp}
use Rattle.std.proofs.lemmas.Bool.{cases_lt}
use Rattle.std.proofs.Common.{append-nil}
use Rattle.std.proofs.lemmas.List.{append_assoc, get_or_append_left, length-append}
use Rattle.std.proofs.lemmas.List.Elements.{All-nil, All-cons, All-append}
use Rattle.std.proofs.Math.Seq.{get_or-append_seam}
use mathlib.Core.Logic.{inl, inr}
use mathlib.Core.Path.{refl, sym, ap, ◌∙◌, subst}
use native.Mathlib.Omega.{arith}
use Rattle.hp_algebra.specs.Ring.{IsRing, IsCommutative}
use Rattle.hp_algebra.proofs.Rings.{neg_mul, zero_mul}
use Rattle.hp_mono.specs.declared.term.Term.{Term}
use Rattle.hp_mono.specs.Monomials as mono
use Rattle.hp_mono.specs.Monomials.{Monomial, IsMonomial, degree}
use Rattle.hp_mono.specs.TermOrders.{IsTermWithin}
use Rattle.hp_mono.proofs.MonomialLaws.{product-degree_zero, product-one, product_comm}
use Rattle.hp_sums.specs.FiniteSums.{total}
use Rattle.hp_sums.proofs.SumSetting.{SumSetting}
use Rattle.hp_sums.proofs.Collected.{tie}
use Rattle.hp_sums.proofs.EqualTotals.{eq-itself}
use Rattle.hp_module.specs.Vectors.{Vector, IsVector, IsGenerated, combination, vector_plus}
use Rattle.hp_module.specs.FreeModules.{FreeModule, IsFreeModule, IsIn, HasDegree, as_listed, coefficient_at, degree_of, plus_term, terms}
use Rattle.hp_module.proofs.VectorSums.{as_listed_same, term_setting}
use Rattle.hp_module.proofs.VectorCoefficients.{all-terms, at-term, coefficient-ext, coefficient-plus, coefficient-plus_term, coefficient-value, combination-plus_term, combination-vector, family, image, plus-vector, plus_term-vector, within}
use Rattle.hp_module.proofs.ShiftedTerms.{shifted-one}
use Rattle.hp_module.proofs.MonicVectors.{coefficient-constant, constant-vector, times_constant}
use Rattle.hp_module.proofs.Symbols.{generated-member, generated-multiple, generated-plus, generated-through}
use Rattle.hp_module.proofs.HomogeneousParts.{IsPart, part_generated}
use Rattle.hp_module.proofs.KeptVectors.{generated-last, generated-more}

-- a monomial of degree 0 is one
pub degree-zero : (m : Monomial) → IsMonomial m → degree m ≡ 0 → m ≡ mono.one
degree-zero m h z = sym (product-one m h) ∙ product_comm mono.one m ∙ product-degree_zero m mono.one h z

module _ {F : Type 0} {M : FreeModule F} (L : IsFreeModule M) where
  open M use {ring, inverse, width, cmp}

  abbrev laws : IsRing ring
  laws = L.field.is_ring

  abbrev comm : IsCommutative ring
  comm = L.field.commutes

  abbrev T : SumSetting Term F
  T = term_setting laws comm

  abbrev co : Vector F → Term → F
  co v b = coefficient_at ring v b

  -- a homogeneous vector is its part of its degree
  part-itself : (e : ℕ) (v : Vector F) → IsIn M v → HasDegree M e v → IsPart L e v v
  part-itself e v h d = record {
    vector = h;
    of_degree = d;
    inside = λ b q. refl;
    outside = λ b n. Rattle.hp_sums.proofs.EqualTotals.total-absent T (terms v) b
        (Rattle.std.proofs.lemmas.List.Elements.All-weaker (λ (t : Term × F). degree_of M t.0 ≡ e) (λ t. b ≢ t.0) (λ t q p. n (ap (degree_of M) p ∙ q)) (terms v) d);
  }

  module _ (X : List (Vector F)) (vectors : All (IsVector M.ring M.width) X) (D : ℕ → ℕ)
      (homogeneous : (i : ℕ) → i < length X → HasDegree M (D i) (slice_index_or X i []))
      (a k : Vector F) (ha : IsIn M a) (hk : IsIn M k) (e : ℕ) (le : e ≤ D (length X)) (da : HasDegree M (D (length X)) a)
      (dk : HasDegree M e k) where
    abbrev H : List (Vector F)
    H = X ++ a ∷ []

    one_more : length H ≡ length X + 1
    one_more = length-append X (a ∷ [])

    all_in : All (IsVector ring width) H
    all_in = All-append (IsVector ring width) X (a ∷ []) vectors (All-cons (IsVector ring width) a [] ha (All-nil (IsVector ring width)))

    earlier : (i : ℕ) → i < length X → slice_index_or H i [] ≡ slice_index_or X i []
    earlier i l = get_or_append_left X (a ∷ []) [] i l

    last : slice_index_or H (length X) [] ≡ a
    last = get_or-append_seam X a [] []

    all_homogeneous : (i : ℕ) → i < length H → HasDegree M (D i) (slice_index_or H i [])
    all_homogeneous i l =
        elim (cases_lt i (length X)) [
          | inl low ↦ subst (HasDegree M (D i)) (sym (earlier i low)) (homogeneous i low)
          | inr high ↦
              let q : length X ≡ i = omega (arith, l, high, one_more) in
              subst (λ j. HasDegree M (D j) (slice_index_or H j [])) q (subst (HasDegree M (D (length X))) (sym last) da)
        ]

    -- the symbol of the last generator itself
    abbrev t0 : Term
    t0 = record { mono = mono.one; comp = length X + 1 }

    t0_in : IsTermWithin (length H) t0
    t0_in = (refl, omega arith, omega (arith, one_more))

    -- the coefficient of that symbol at b
    last_image : (b : Term) → image laws comm (family laws comm H) b t0 ≡ co a b
    last_image b =
        let back : (length X + 1) - 1 ≡ length X = omega arith in
        let monos = Rattle.std.proofs.lemmas.List.Elements.All-weaker (λ (t : Term × F). IsTermWithin width t.0) (λ t. IsMonomial t.0.mono) (λ t w. w.0) (terms a) (within laws comm width a ha) in
        ap (λ i. total as_listed ring (Rattle.hp_module.proofs.VectorSums.shifted mono.one (terms (slice_index_or H i []))) b) back
        ∙ ap (λ v. total as_listed ring (Rattle.hp_module.proofs.VectorSums.shifted mono.one (terms v)) b) last
        ∙ ap (λ xs. total as_listed ring xs b) (shifted-one (terms a) monos)

    pub exchange : IsGenerated ring width (X ++ a ∷ []) k
        → IsGenerated ring width X k ⊎ IsGenerated ring width (X ++ k ∷ []) a
    exchange g =
        let q = part_generated L H all_in D all_homogeneous e k k g (part-itself e k hk dk) in
        let ps = q.0 in
        let f = q.1 in
        let c = co ps t0 in
        let vc = coefficient-value laws comm (length H) ps t0 f in
        let nc = laws.neg_value c vc in
        let ps' = plus_term ring ps t0 (ring.neg c) in
        let f' = plus_term-vector laws comm (length H) ps t0 (ring.neg c) f t0_in nc in
        let w = combination ring width ps' H in
        let hw = combination-vector laws comm width ps' H f'.1 all_in in
        let at : (b : Term) → co ps' b ≡ cond (eq_by_cmp as_listed b t0) (ring.add (co ps b) (ring.neg c)) (co ps b) =
        λ b. coefficient-plus_term laws comm (length H) ps t0 (ring.neg c) b f t0_in nc in
        let gone : co ps' t0 ≡ ring.zero =
        at t0 ∙ ap (λ z. cond z (ring.add c (ring.neg c)) c) (eq-itself T t0) ∙ laws.add_neg c vc in
        -- what is left has no symbol of the last generator
        let inside = all-terms laws comm (length H) ps' (λ u. u.comp - 1 < length X) f' (λ u hu n.
        elim (cases_lt (u.comp - 1) (length X)) [
          | inl low ↦ low
          | inr high ↦
              let other : co ps u ≢ ring.zero =
              (λ z. elim (eq_by_cmp as_listed u t0) as (λ y. eq_by_cmp as_listed u t0 ≡ y → ⊥) [
                | true ↦ λ y. n (ap (co ps') (as_listed_same u t0 (tie (as_listed u t0) y)) ∙ gone)
                | false ↦ λ y. n (at u ∙ ap (λ o. cond o (ring.add (co ps u) (ring.neg c)) (co ps u)) y ∙ z)
              ] refl) in
              let d = at-term laws comm (length H) ps (λ x. degree x.mono + D (x.comp - 1) ≡ e) u f q.3 other in
              let is_last : u.comp - 1 ≡ length X = omega (arith, high, hu.1, hu.2, one_more) in
              let d' = subst (λ i. degree u.mono + D i ≡ e) is_last d in
              let m : u.mono ≡ mono.one = degree-zero u.mono hu.0 (omega (arith, d', le)) in
              let comp : u.comp ≡ length X + 1 = omega (arith, is_last, hu.1) in
              let same : u ≡ t0 = (λ i. record { mono = m i; comp = comp i }) in
              absurd (n (ap (co ps') same ∙ gone))
        ]) in
        let gw = generated-through laws comm width X H vectors all_in w ps' f' refl (λ i y l.
        let low = inside i y l in
        subst (IsGenerated ring width X) (sym (earlier ((slice_index_or (terms ps') i y).0.comp - 1) low))
        (generated-member laws comm width X vectors ((slice_index_or (terms ps') i y).0.comp - 1) low)) in
        let w_at : (b : Term) → co w b ≡ ring.add (co k b) (ring.mul (ring.neg c) (co a b)) =
        λ b. combination-plus_term laws comm width ps H t0 (ring.neg c) f all_in t0_in nc b
        ∙ (λ i. ring.add (ap (λ v. co v b) (sym q.2) i) (ring.mul (ring.neg c) (last_image b i))) in
        elim (ring.is_zero c) as (λ z. ring.is_zero c ≡ z → IsGenerated ring width X k ⊎ IsGenerated ring width (X ++ k ∷ []) a) [
          | true ↦ λ z.
              let c0 : c ≡ ring.zero = (laws.zero_test c vc).0 z in
              let same : w ≡ k = coefficient-ext laws comm width w k hw hk (λ b.
              let va = coefficient-value laws comm width a b ha in
              let x : ring.mul (ring.neg c) (co a b) ≡ ring.neg ring.zero =
              neg_mul laws c (co a b) vc va ∙ ap (λ u. ring.neg (ring.mul u (co a b))) c0 ∙ ap ring.neg (zero_mul laws (co a b) va) in
              let nz : ring.neg ring.zero ≡ ring.zero =
              sym (Rattle.hp_algebra.proofs.Rings.zero_add laws (ring.neg ring.zero) (laws.neg_value ring.zero laws.zero_value)) ∙ laws.add_neg ring.zero laws.zero_value in
              w_at b ∙ ap (ring.add (co k b)) (x ∙ nz) ∙ laws.add_zero (co k b) (coefficient-value laws comm width k b hk)) in
              inl (subst (IsGenerated ring width X) same gw)
          | false ↦ λ z.
              let cn : c ≢ ring.zero = (λ p. let o = (laws.zero_test c vc).1 p in let x : true ≡ false = sym o ∙ z in absurd (cc)) in
              let i = inverse c in
              let vi = L.field.inverse_value c vc cn in
              let ni = laws.neg_value i vi in
              let K : List (Vector F) = X ++ k ∷ [] in
              let one : All (IsVector ring width) (k ∷ []) = All-cons (IsVector ring width) k [] hk (All-nil (IsVector ring width)) in
              let kv = All-append (IsVector ring width) X (k ∷ []) vectors one in
              let gk = generated-multiple laws comm width K kv i mono.one k vi refl (generated-last laws comm width X k vectors hk) in
              let gw' = generated-multiple laws comm width K kv (ring.neg i) mono.one w ni refl (generated-more laws comm width X (k ∷ []) vectors one w gw) in
              let hik = constant-vector L i k vi hk in
              let hiw = constant-vector L (ring.neg i) w ni hw in
              let same : vector_plus ring (times_constant L i k) (times_constant L (ring.neg i) w) ≡ a =
              coefficient-ext laws comm width _ a (plus-vector laws comm width _ _ hik hiw) ha (λ b.
              let va = coefficient-value laws comm width a b ha in
              let vk = coefficient-value laws comm width k b hk in
              let x = coefficient-constant L i k b vi hk in
              let y = coefficient-constant L (ring.neg i) w b ni hw in
              coefficient-plus laws comm width _ _ b hik hiw ∙ (λ j. ring.add (x j) (y j))
              ∙ ap (λ u. ring.add (ring.mul i (co k b)) (ring.mul (ring.neg i) u)) (w_at b)
              ∙ solved i c (co k b) (co a b) vi vc vk va (L.field.commutes i c vi vc ∙ L.field.mul_inverse c vc cn)) in
              inr (subst (IsGenerated ring width K) same (generated-plus laws comm width K kv _ _ gk gw'))
        ] refl
      where
        -- i k - i (k - c a) = a where i c = 1
        solved : (i c k a : F) → ring.IsValue i → ring.IsValue c → ring.IsValue k → ring.IsValue a
            → ring.mul i c ≡ ring.one
            → ring.add (ring.mul i k) (ring.mul (ring.neg i) (ring.add k (ring.mul (ring.neg c) a))) ≡ a
        solved i c k a vi vc vk va h =
            let ni = laws.neg_value i vi in
            let nc = laws.neg_value c vc in
            let na = laws.mul_value (ring.neg c) a nc va in
            let ik = laws.mul_value i k vi vk in
            let nik = laws.mul_value (ring.neg i) k ni vk in
            let last = laws.mul_value (ring.neg i) _ ni na in
            let first : ring.add (ring.mul i k) (ring.mul (ring.neg i) k) ≡ ring.zero =
            ap (ring.add (ring.mul i k)) (neg_mul laws i k vi vk) ∙ laws.add_neg _ ik in
            let ca = laws.mul_value c a vc va in
            let ica = laws.mul_value i _ vi ca in
            let second : ring.mul (ring.neg i) (ring.mul (ring.neg c) a) ≡ a =
            ap (ring.mul (ring.neg i)) (neg_mul laws c a vc va) ∙ neg_mul laws i _ vi (laws.neg_value _ ca)
            ∙ ap ring.neg (comm i (ring.neg (ring.mul c a)) vi (laws.neg_value _ ca) ∙ neg_mul laws (ring.mul c a) i ca vi ∙ ap ring.neg (comm _ i ca vi))
            ∙ Rattle.hp_algebra.proofs.Rings.neg_neg laws _ ica
            ∙ sym (laws.mul_assoc i c a vi vc va) ∙ ap (λ u. ring.mul u a) h ∙ laws.one_mul a va in
            ap (ring.add (ring.mul i k)) (laws.mul_add (ring.neg i) k _ ni vk na) ∙ sym (laws.add_assoc _ _ _ ik nik last)
            ∙ ap (λ u. ring.add u (ring.mul (ring.neg i) (ring.mul (ring.neg c) a))) first
            ∙ Rattle.hp_algebra.proofs.Rings.zero_add laws _ last ∙ second

  -- ---- vectors that none of the others replaces

  module _ (D : ℕ → ℕ) (k : Vector F) (hk : IsIn M k) (e : ℕ) (dk : HasDegree M e k) where
    -- Homogeneous vectors of no lower degree that follow X: none is generated by those before it and k.
    abbrev pub FollowOn : List (Vector F) → List (Vector F) → Type 0
    FollowOn X [] = Unit {0}
    FollowOn X (a ∷ after) =
        IsIn M a × HasDegree M (D (length X)) a × (e ≤ D (length X)) × (¬ (IsGenerated ring width (X ++ k ∷ []) a))
        × FollowOn (X ++ a ∷ []) after

    -- Such a k that X does not generate isn't in the submodule of all the others.
    pub not_by_others : (after X : List (Vector F)) → All (IsVector M.ring M.width) X
        → ((i : ℕ) → i < length X → HasDegree M (D i) (slice_index_or X i [])) → ¬ (IsGenerated ring width X k)
        → FollowOn X after → ¬ (IsGenerated ring width (X ++ after) k)
    not_by_others [] X vectors homogeneous new h g = new (subst (λ zs. IsGenerated ring width zs k) (append-nil X) g)
    not_by_others (a ∷ after) X vectors homogeneous new h g =
        let X' = X ++ a ∷ [] in
        let ha = h.0 in
        let da = h.1 in
        let le = h.2 in
        let only = h.3 in
        let longer : ¬ (IsGenerated ring width X' k) =
        (λ p. elim (exchange X vectors D homogeneous a k ha hk e le da dk p) [ inl x ↦ new x | inr y ↦ only y ]) in
        not_by_others after X' (all_in X vectors D homogeneous a k ha hk e le da dk)
        (all_homogeneous X vectors D homogeneous a k ha hk e le da dk) longer h.4
        (subst (λ zs. IsGenerated ring width zs k) (sym (append_assoc X (a ∷ []) after)) g)
