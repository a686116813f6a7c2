-- Homogeneous parts of vectors. With homogeneous generators the parts of a member of the submodule are members, and each
-- lead is that of a homogeneous member.
use Rattle.std.specs.Prelude.{◌≡◌, ◌≢◌, ℕ, ◌+◌, ◌-◌, ◌<◌, nat_eq, Bool, true, false, cond, List, [], ◌∷◌, filter, length, All, slice_index_or}
use Rattle.std.specs.Ordering.{eq_by_cmp}
use Rattle.std.proofs.lemmas.Bool.{cases_eq, eq-eqb, eqb-true, eqb-false}
use Rattle.std.proofs.lemmas.List.Elements.{All-filter, All-map, All-weaker}
use mathlib.Core.Logic.{inl, inr}
use mathlib.Core.Path.{refl, sym, ap, ◌∙◌, subst}
use native.Mathlib.Omega.{arith}
use Rattle.hp_algebra.specs.Ring.{IsRing, IsCommutative}
use Rattle.hp_mono.specs.declared.term.Term.{Term}
use Rattle.hp_mono.specs.Monomials.{IsMonomial, degree}
use Rattle.hp_mono.specs.TermOrders.{IsTermWithin, times}
use Rattle.hp_sums.specs.FiniteSums.{HasValues, total}
use Rattle.hp_sums.proofs.SumSetting.{SumSetting}
use Rattle.hp_sums.proofs.Collected.{tie}
use Rattle.hp_sums.proofs.WeightedSums.{weighted, weighted-none}
use Rattle.hp_sums.proofs.EqualTotals.{total-absent}
use Rattle.hp_module.specs.Vectors.{Vector, IsVector, IsGenerated, combination}
use Rattle.hp_module.specs.FreeModules.{FreeModule, IsFreeModule, IsIn, HasDegree, as_listed, coefficient_at, degree_of, terms}
use Rattle.hp_module.specs.Leads.{IsGreatestTerm}
use Rattle.hp_module.proofs.VectorSums.{as_listed_same, shifted, term_setting, terms-values}
use Rattle.hp_module.proofs.VectorCoefficients.{all-terms, coefficient-combination, family, family-values, image, image-value, within}
use Rattle.hp_module.proofs.GreatestTerms.{greatest-above, greatest-at, greatest-from}
use Rattle.hp_module.proofs.OrderedTerms.{degree-times}
use Rattle.hp_module.proofs.Symbols.{from_symbols_with, vector_of}

module _ {F : Type 0} {M : FreeModule F} (L : IsFreeModule M) where
  open M use {ring, width, cmp}

  abbrev laws : IsRing ring
  laws = L.field.is_ring

  abbrev comm : IsCommutative ring
  comm = L.field.commutes

  abbrev T : SumSetting Term F
  T = term_setting laws comm

  abbrev co : Vector F → Term → F
  co v b = coefficient_at ring v b

  -- ---- the terms that pass a test

  total-where : (p : Term → Bool) (xs : List (Term × F)) (b : Term)
      → total as_listed ring (filter (λ t. p t.0) xs) b ≡ cond (p b) (total as_listed ring xs b) ring.zero
  total-where p [] b = none (p b)
    where
      none : (z : Bool) → ring.zero ≡ cond z ring.zero ring.zero
      none true = refl
      none false = refl
  total-where p (x ∷ xs) b =
      let ys = filter (λ (t : Term × F). p t.0) xs in
      out (p x.0) ys ∙ go (p x.0) (eq_by_cmp as_listed b x.0) (p b) (total as_listed ring ys b) (total as_listed ring xs b) (total-where p xs b)
      (λ e. ap p (sym (as_listed_same b x.0 (tie (as_listed b x.0) e))))
    where
      out : (z : Bool) (ys : List (Term × F)) → total as_listed ring (cond z (x ∷ ys) ys) b
          ≡ cond z (total as_listed ring (x ∷ ys) b) (total as_listed ring ys b)
      out true ys = refl
      out false ys = refl

      go : (z e q : Bool) (y w : F) → y ≡ cond q w ring.zero → (e ≡ true → z ≡ q)
          → cond z (cond e (ring.add y x.1) y) y ≡ cond q (cond e (ring.add w x.1) w) ring.zero
      go true true true y w h f = ap (λ u. ring.add u x.1) h
      go true true false y w h f = let k = f refl in absurd (cc)
      go true false q y w h f = h
      go false true true y w h f = let k = f refl in absurd (cc)
      go false true false y w h f = h
      go false false q y w h f = h

  -- ---- the part of one degree

  -- A vector that has the coefficients of v in degree e, and no others.
  pub record IsPart (e : ℕ) (v w : Vector F) : Type 0 where
    pub vector : IsIn M w
    pub of_degree : HasDegree M e w
    pub inside : (b : Term) → degree_of M b ≡ e → coefficient_at ring w b ≡ coefficient_at ring v b
    pub outside : (b : Term) → degree_of M b ≢ e → coefficient_at ring w b ≡ ring.zero

  abbrev test : ℕ → Term → Bool
  test e b = nat_eq (degree_of M b) e

  -- each vector has one
  pub part_of : (e : ℕ) (v : Vector F) → IsIn M v → (w : Vector F) × IsPart e v w
  part_of e v h =
      let xs = filter (λ (t : Term × F). test e t.0) (terms v) in
      let V : Term × F → Type 0 = λ t. ring.IsValue t.1 in
      let W : Term × F → Type 0 = λ t. IsTermWithin width t.0 in
      let xv = All-filter (λ (t : Term × F). test e t.0) V (terms v) (terms-values laws comm 1 v h.1) in
      let xw = All-filter (λ (t : Term × F). test e t.0) W (terms v) (within laws comm width v h) in
      let r = vector_of laws comm width xs xv xw in
      let at : (b : Term) → co r.0 b ≡ cond (test e b) (co v b) ring.zero = λ b. r.2 b ∙ total-where (test e) (terms v) b in
      let out : (b : Term) → degree_of M b ≢ e → co r.0 b ≡ ring.zero =
      λ b n. elim (test e b) as (λ z. test e b ≡ z → co r.0 b ≡ ring.zero) [
        | true ↦ λ q. absurd (n (eqb-true (degree_of M b) e q))
        | false ↦ λ q. at b ∙ ap (λ z. cond z (co v b) ring.zero) q
      ] refl in (
        r.0,
        record {
          vector = r.1;
          of_degree = all-terms laws comm width r.0 (λ b. degree_of M b ≡ e) r.1 (λ b hb n.
              elim (cases_eq (degree_of M b) e) [ inl q ↦ q | inr o ↦ absurd (n (out b o)) ]);
          inside = λ b q. at b ∙ ap (λ z. cond z (co v b) ring.zero) (eq-eqb (degree_of M b) e q);
          outside = out;
        },
      )

  -- a greatest term is that of the part of its degree
  pub part-greatest : (v w : Vector F) (t : Term) (c : F) → IsIn M v → IsGreatestTerm cmp v t c
      → IsPart (degree_of M t) v w → IsGreatestTerm cmp w t c
  part-greatest v w t c h g p =
      let at = greatest-at L v t c h g in
      let e = p.inside t refl ∙ at.1 in
      subst (IsGreatestTerm cmp w t) e (greatest-from L w t p.vector (λ z. at.2 (sym e ∙ z)) (λ b hb n.
      greatest-above L v t c h g b (λ z.
      elim (cases_eq (degree_of M b) (degree_of M t)) [
        | inl q ↦ n (p.inside b q ∙ z)
        | inr o ↦ n (p.outside b o)
      ])))

  -- ---- parts of members

  module _ (gens : List (Vector F)) (vectors : All (IsVector M.ring M.width) gens) (D : ℕ → ℕ)
      (homogeneous : (i : ℕ) → i < length gens → HasDegree M (D i) (slice_index_or gens i [])) where
    abbrev fam : ℕ → List (Term × F)
    fam = family laws comm gens

    abbrev fv : (i : ℕ) → HasValues ring (family laws comm gens i)
    fv = family-values laws comm width gens vectors

    -- the degree of a symbol
    abbrev pub symbol_degree : Term → ℕ
    symbol_degree a = degree a.mono + D (a.comp - 1)

    -- a symbol has no coefficient in another degree
    other : (a b : Term) → IsTermWithin (length gens) a → symbol_degree a ≢ degree_of M b
        → image laws comm (family laws comm gens) b a ≡ ring.zero
    other a b h n =
        let l : a.comp - 1 < length gens = omega (arith, h.1, h.2) in
        let g = slice_index_or gens (a.comp - 1) [] in
        let gw = within laws comm width g (vectors (a.comp - 1) [] l) in
        let gd = homogeneous (a.comp - 1) l in
        let at : (u : Term) → IsMonomial u.mono → degree_of M u ≡ D (a.comp - 1) → b ≢ times a.mono u =
        λ u iu e q. n (ap (λ k. degree a.mono + k) (sym e) ∙ sym (degree-times M a.mono u h.0 iu) ∙ sym (ap (degree_of M) q)) in
        total-absent T (shifted a.mono (terms g)) b (All-map (λ (t : Term × F). b ≢ t.0) (λ t. (times a.mono t.0, t.1)) (terms g)
        (λ i z m. at (slice_index_or (terms g) i z).0 (gw i z m).0 (gd i z m)))

    -- The part of a member is a combination whose symbols have its degree.
    pub part_generated : (e : ℕ) (v w : Vector F) → IsGenerated ring width gens v → IsPart e v w
        → (ps : Vector F) × IsVector ring (length gens) ps × (w ≡ combination ring width ps gens)
        × All (λ a. degree a.0.mono + D (a.0.comp - 1) ≡ e) (terms ps)
    part_generated e v w g p =
        let qs = g.0 in
        let f = g.1 in
        let keep : Term → Bool = λ a. nat_eq (symbol_degree a) e in
        let V : Term × F → Type 0 = λ t. ring.IsValue t.1 in
        let W : Term × F → Type 0 = λ t. IsTermWithin (length gens) t.0 in
        let qv = terms-values laws comm 1 qs f.1 in
        let qw = within laws comm (length gens) qs f in
        let xs = filter (λ (a : Term × F). keep a.0) (terms qs) in
        let xv = All-filter (λ (a : Term × F). keep a.0) V (terms qs) qv in
        let xw = All-filter (λ (a : Term × F). keep a.0) W (terms qs) qw in
        let whole : (b : Term) → co v b ≡ weighted ring (image laws comm fam b) (terms qs) =
        λ b. ap (λ u. co u b) g.2 ∙ coefficient-combination laws comm width qs gens f vectors b in
        let same : (b : Term) → co w b ≡ weighted ring (image laws comm fam b) xs =
        λ b. elim (cases_eq (degree_of M b) e) [
          | inl q ↦ p.inside b q ∙ whole b ∙ kept-at e b q (terms qs) qv qw
          | inr o ↦ p.outside b o ∙ sym (weighted-none T (image laws comm fam b) xs xv
              (λ i y l. other (slice_index_or xs i y).0 b (xw i y l) (λ z. o (sym z ∙ kept-degree e (terms qs) i y l))))
        ] in
        let r = from_symbols_with laws comm width gens vectors w p.vector (record {
          symbols = xs;
          symbol_values = xv;
          inside = xw;
          values = terms-values laws comm 1 w p.vector.1;
          same = same;
        }) in (
          r.0,
          r.1,
          r.2,
          all-terms laws comm (length gens) r.0 (λ a. symbol_degree a ≡ e) r.1 (λ a ha n.
              elim (keep a) as (λ z. keep a ≡ z → symbol_degree a ≡ e) [
                | true ↦ λ q. eqb-true (symbol_degree a) e q
                | false ↦ λ q. absurd (n (r.3 a ∙ total-where keep (terms qs) a
                    ∙ ap (λ z. cond z (total as_listed ring (terms qs) a) ring.zero) q))
              ] refl),
        )
      where
        kept-degree : (e : ℕ) (xs : List (Term × F))
            → All (λ a. symbol_degree a.0 ≡ e) (filter (λ a. nat_eq (symbol_degree a.0) e) xs)
        kept-degree e [] = Rattle.std.proofs.lemmas.List.Elements.All-nil (λ (a : Term × F). symbol_degree a.0 ≡ e)
        kept-degree e (x ∷ xs) =
            let P : Term × F → Type 0 = λ a. symbol_degree a.0 ≡ e in
            let rest = filter (λ (a : Term × F). nat_eq (symbol_degree a.0) e) xs in
            elim (nat_eq (symbol_degree x.0) e) as (λ z. nat_eq (symbol_degree x.0) e ≡ z → All P (cond z (x ∷ rest) rest)) [
              | true ↦ λ q. Rattle.std.proofs.lemmas.List.Elements.All-cons P x rest (eqb-true (symbol_degree x.0) e q) (kept-degree e xs)
              | false ↦ λ q. kept-degree e xs
            ] refl

        kept-at : (e : ℕ) (b : Term) → degree_of M b ≡ e → (xs : List (Term × F)) → HasValues ring xs
            → All (λ a. IsTermWithin (length gens) a.0) xs
            → weighted ring (image laws comm fam b) xs
            ≡ weighted ring (image laws comm fam b) (filter (λ a. nat_eq (symbol_degree a.0) e) xs)
        kept-at e b db [] v h = refl
        kept-at e b db (x ∷ xs) v h =
            let V : Term × F → Type 0 = λ t. ring.IsValue t.1 in
            let W : Term × F → Type 0 = λ t. IsTermWithin (length gens) t.0 in
            let vs = Rattle.std.proofs.lemmas.List.Elements.All-tail V x xs v in
            let hs = Rattle.std.proofs.lemmas.List.Elements.All-tail W x xs h in
            let r = kept-at e b db xs vs hs in
            let g = image laws comm fam b in
            let rest = filter (λ (a : Term × F). nat_eq (symbol_degree a.0) e) xs in
            elim (nat_eq (symbol_degree x.0) e) as (λ z. nat_eq (symbol_degree x.0) e ≡ z → weighted ring g (x ∷ xs) ≡ weighted ring g (cond z (x ∷ rest) rest)) [
              | true ↦ λ q. ap (ring.add (ring.mul x.1 (g x.0))) r
              | false ↦ λ q.
                  let n = eqb-false (symbol_degree x.0) e q in
                  let z = other x.0 b (Rattle.std.proofs.lemmas.List.Elements.All-head W x xs h) (λ k. n (k ∙ db)) in
                  ap (λ u. ring.add (ring.mul x.1 u) (weighted ring g xs)) z
                  ∙ ap (λ u. ring.add u (weighted ring g xs)) (Rattle.hp_algebra.proofs.Rings.mul_zero laws x.1 (Rattle.std.proofs.lemmas.List.Elements.All-head V x xs v))
                  ∙ Rattle.hp_algebra.proofs.Rings.zero_add laws _ (Rattle.hp_sums.proofs.WeightedSums.weighted-value T g (image-value laws comm fam fv b) xs vs) ∙ r
            ] refl
