-- The terms of a vector that pass a test. Where a test of symbols agrees with it, what is selected of a member of a
-- submodule is a member.
use Rattle.std.specs.Prelude.{◌≡◌, ◌≢◌, Bool, true, false, cond, filter, List, [], ◌∷◌, length, All}
use Rattle.std.specs.Ordering.{eq_by_cmp}
use Rattle.std.proofs.lemmas.List.Elements.{All-filter, All-head, All-map, All-tail, All-weaker, filter_passes}
use mathlib.Core.Path.{refl, sym, ap, ◌∙◌}
use Rattle.hp_algebra.specs.Ring.{IsRing, IsCommutative}
use Rattle.hp_algebra.proofs.Rings.{mul_zero, zero_add}
use Rattle.hp_lists.proofs.Members.{not_both}
use Rattle.hp_mono.specs.declared.term.Term.{Term}
use Rattle.hp_mono.specs.TermOrders.{IsTermWithin, times}
use Rattle.hp_sums.specs.FiniteSums.{HasValues, total}
use Rattle.hp_sums.proofs.SumSetting.{SumSetting}
use Rattle.hp_sums.proofs.Collected.{tie}
use Rattle.hp_sums.proofs.WeightedSums.{weighted, weighted-value}
use Rattle.hp_sums.proofs.EqualTotals.{total-absent}
use Rattle.hp_module.specs.Vectors.{Vector, IsVector, IsGenerated, combination}
use Rattle.hp_module.specs.FreeModules.{FreeModule, IsFreeModule, IsIn, as_listed, coefficient_at, terms}
use Rattle.hp_module.proofs.VectorSums.{as_listed_same, shifted, term_setting, terms-values}
use Rattle.hp_module.proofs.VectorCoefficients.{all-terms, family, family-values, image, image-value, within}
use Rattle.hp_module.proofs.Symbols.{AreTermsOf, from_symbols_with, to_symbols, vector_of}

module _ {F : Type 0} {M : FreeModule F} (L : IsFreeModule M) where
  open M use {ring, width}

  abbrev laws : IsRing ring
  laws = L.field.is_ring

  abbrev comm : IsCommutative ring
  comm = L.field.commutes

  abbrev S : SumSetting Term F
  S = term_setting laws comm

  abbrev co : Vector F → Term → F
  co v b = coefficient_at ring v b

  abbrev Val : Term × F → Type 0
  Val t = ring.IsValue t.1

  pub total-where : (test : Term → Bool) (xs : List (Term × F)) (b : Term)
      → total as_listed ring (filter (λ t. test t.0) xs) b ≡ cond (test b) (total as_listed ring xs b) ring.zero
  total-where test [] b = none (test b)
    where
      none : (z : Bool) → ring.zero ≡ cond z ring.zero ring.zero
      none true = refl
      none false = refl
  total-where test (x ∷ xs) b =
      let ys = filter (λ (t : Term × F). test t.0) xs in
      out (test x.0) ys ∙ go (test x.0) (eq_by_cmp as_listed b x.0) (test b) (total as_listed ring ys b)
      (total as_listed ring xs b) (total-where test xs b)
      (λ e. ap test (sym (as_listed_same b x.0 (tie (as_listed b x.0) e))))
    where
      out : (z : Bool) (ys : List (Term × F)) → total as_listed ring (cond z (x ∷ ys) ys) b
          ≡ cond z (total as_listed ring (x ∷ ys) b) (total as_listed ring ys b)
      out true ys = refl
      out false ys = refl

      go : (z e q : Bool) (y w : F) → y ≡ cond q w ring.zero → (e ≡ true → z ≡ q)
          → cond z (cond e (ring.add y x.1) y) y ≡ cond q (cond e (ring.add w x.1) w) ring.zero
      go true true true y w h f = ap (λ u. ring.add u x.1) h
      go true true false y w h f = absurd (not_both true refl (f refl))
      go true false q y w h f = h
      go false true true y w h f = absurd (not_both false (f refl) refl)
      go false true false y w h f = h
      go false false q y w h f = h

  -- A vector with the coefficients of v at the terms that pass the test, and no others.
  pub record IsSelection (test : Term → Bool) (v w : Vector F) : Type 0 where
    pub vector : IsIn M w
    pub inside : (b : Term) → test b ≡ true → coefficient_at ring w b ≡ coefficient_at ring v b
    pub outside : (b : Term) → test b ≡ false → coefficient_at ring w b ≡ ring.zero

  pub selection-of : (test : Term → Bool) (v : Vector F) → IsIn M v → (w : Vector F) × IsSelection test v w
  selection-of test v h =
      let p : Term × F → Bool = λ t. test t.0 in
      let In : Term × F → Type 0 = λ t. IsTermWithin width t.0 in
      let r = vector_of laws comm width (filter p (terms v)) (All-filter p Val (terms v) (terms-values laws comm 1 v h.1))
      (All-filter p In (terms v) (within laws comm width v h)) in
      let at : (b : Term) → co r.0 b ≡ cond (test b) (co v b) ring.zero = λ b. r.2 b ∙ total-where test (terms v) b in (
        r.0,
        record {
          vector = r.1;
          inside = λ b q. at b ∙ ap (λ z. cond z (co v b) ring.zero) q;
          outside = λ b q. at b ∙ ap (λ z. cond z (co v b) ring.zero) q;
        },
      )

  pub selection-passes : (test : Term → Bool) (v w : Vector F) → IsSelection test v w
      → All (λ t. test t.0 ≡ true) (terms w)
  selection-passes test v w s =
      all-terms laws comm width w (λ b. test b ≡ true) s.vector (λ b hb n.
      elim (test b) as (λ z. test b ≡ z → test b ≡ true) [ true ↦ λ q. q | false ↦ λ q. absurd (n (s.outside b q)) ] refl)

  -- a vector whose terms pass the test is selected as a whole
  pub selection-itself : (test : Term → Bool) (v : Vector F) → IsIn M v → All (λ t. test t.0 ≡ true) (terms v)
      → IsSelection test v v
  selection-itself test v h f = record {
    vector = h;
    inside = λ b q. refl;
    outside = λ b q. total-absent S (terms v) b (All-weaker (λ (t : Term × F). test t.0 ≡ true) (λ t. b ≢ t.0)
        (λ t p e. not_both (test b) (ap test e ∙ p) q) (terms v) f);
  }

  -- ---- selections of members

  module _ (gens : List (Vector F)) (vectors : All (IsVector M.ring M.width) gens) where
    abbrev g : Term → Term → F
    g b a = image laws comm (family laws comm gens) b a

    abbrev gv : (b a : Term) → ring.IsValue (g b a)
    gv b a = image-value laws comm (family laws comm gens) (family-values laws comm width gens vectors) b a

    abbrev In : Term × F → Type 0
    In t = IsTermWithin (length gens) t.0

    -- a symbol has coefficients only at the multiples of the terms of its member
    pub symbol-absent : (a b : Term)
        → All (λ t. b ≢ times a.mono t.0) (family L.field.is_ring L.field.commutes gens a.comp)
        → image L.field.is_ring L.field.commutes (family L.field.is_ring L.field.commutes gens) b a ≡ M.ring.zero
    symbol-absent a b f =
        let xs = family laws comm gens a.comp in
        total-absent S (shifted a.mono xs) b (All-map (λ (t : Term × F). b ≢ t.0) (λ t. (times a.mono t.0, t.1)) xs f)

    -- Where a symbol and a term have different answers, the symbol has no coefficient at the term.
    abbrev pub Agree : (Term → Bool) → (Term → Bool) → Type 0
    Agree keep test = (a b : Term) → IsTermWithin (length gens) a → keep a ≢ test b
        → image L.field.is_ring L.field.commutes (family L.field.is_ring L.field.commutes gens) b a ≡ M.ring.zero

    module _ (keep test : Term → Bool) (agree : Agree keep test) where
      kept-at : (b : Term) (xs : List (Term × F)) → HasValues ring xs → All (λ a. IsTermWithin (length gens) a.0) xs
          → weighted ring (g b) (filter (λ a. keep a.0) xs) ≡ cond (test b) (weighted ring (g b) xs) ring.zero
      kept-at b [] v h = none (test b)
        where
          none : (z : Bool) → ring.zero ≡ cond z ring.zero ring.zero
          none true = refl
          none false = refl
      kept-at b (x ∷ xs) v h =
          let vs = All-tail Val x xs v in
          go (keep x.0) (test b) refl refl vs (kept-at b xs vs (All-tail In x xs h))
        where
          rest : F
          rest = weighted ring (λ a. image laws comm (family laws comm gens) b a) xs

          ys : List (Term × F)
          ys = filter (λ (a : Term × F). keep a.0) xs

          nothing : (keep x.0 ≢ test b) → (y : F) → ring.IsValue y → ring.add (ring.mul x.1 (g b x.0)) y ≡ y
          nothing n y vy =
              ap (λ u. ring.add (ring.mul x.1 u) y) (agree x.0 b (All-head In x xs h) n)
              ∙ ap (λ u. ring.add u y) (mul_zero laws x.1 (All-head Val x xs v)) ∙ zero_add laws y vy

          sum-value : (zs : List (Term × F)) → HasValues ring zs → ring.IsValue (weighted ring (g b) zs)
          sum-value zs vz = weighted-value S (g b) (gv b) zs vz

          go : (k z : Bool) → keep x.0 ≡ k → test b ≡ z → HasValues ring xs
              → weighted ring (g b) (filter (λ (a : Term × F). keep a.0) xs)
              ≡ cond (test b) (weighted ring (g b) xs) ring.zero
              → weighted ring (g b) (cond k (x ∷ filter (λ (a : Term × F). keep a.0) xs) (filter (λ (a : Term × F). keep a.0) xs))
              ≡ cond z (ring.add (ring.mul x.1 (g b x.0)) (weighted ring (g b) xs)) ring.zero
          go true true p q vs r = ap (ring.add (ring.mul x.1 (g b x.0))) (r ∙ ap (λ z. cond z (weighted ring (g b) xs) ring.zero) q)
          go true false p q vs r =
              nothing (λ e. not_both (keep x.0) p (e ∙ q)) _ (sum-value _ (All-filter (λ (a : Term × F). keep a.0) Val xs vs)) ∙ r
              ∙ ap (λ z. cond z (weighted ring (g b) xs) ring.zero) q
          go false true p q vs r =
              r ∙ ap (λ z. cond z (weighted ring (g b) xs) ring.zero) q
              ∙ sym (nothing (λ e. not_both (test b) q (sym e ∙ p)) _ (sum-value xs vs))
          go false false p q vs r = r ∙ ap (λ z. cond z (weighted ring (g b) xs) ring.zero) q

      pub selected_symbols : (v w : Vector F) → IsSelection test v w → IsGenerated ring width gens v
          → (s : AreTermsOf L.field.is_ring L.field.commutes M.width gens vectors (terms w))
          × All (λ a. keep a.0 ≡ true) s.symbols
      selected_symbols v w c g =
          let p = to_symbols laws comm width gens vectors v g in
          let f : Term × F → Bool = λ a. keep a.0 in (
            record {
              symbols = filter f p.symbols;
              symbol_values = All-filter f Val p.symbols p.symbol_values;
              inside = All-filter f In p.symbols p.inside;
              values = terms-values laws comm 1 w c.vector.1;
              same = λ b. part b (test b) refl ∙ sym (kept-at b p.symbols p.symbol_values p.inside
                  ∙ ap (λ u. cond (test b) u ring.zero) (sym (p.same b)));
            },
            filter_passes f p.symbols,
          )
        where
          part : (b : Term) (z : Bool) → test b ≡ z → co w b ≡ cond (test b) (co v b) ring.zero
          part b true q = c.inside b q ∙ sym (ap (λ z. cond z (co v b) ring.zero) q)
          part b false q = c.outside b q ∙ sym (ap (λ z. cond z (co v b) ring.zero) q)

      -- What is selected of a member is a member, by coefficients whose symbols pass the test.
      pub selected_generated : (v w : Vector F) → IsSelection test v w → IsGenerated ring width gens v
          → (ps : Vector F) × IsVector ring (length gens) ps × (w ≡ combination ring width ps gens)
          × All (λ a. keep a.0 ≡ true) (terms ps)
      selected_generated v w c g =
          let s = selected_symbols v w c g in
          let r = from_symbols_with laws comm width gens vectors w c.vector s.0 in (
            r.0,
            r.1,
            r.2,
            all-terms laws comm (length gens) r.0 (λ a. keep a ≡ true) r.1 (λ a ha n. passes a s.0.symbols s.1 (λ z. n (r.3 a ∙ z)) (keep a) refl),
          )
        where
          passes : (a : Term) (ys : List (Term × F)) → All (λ t. keep t.0 ≡ true) ys
              → total as_listed ring ys a ≢ ring.zero → (z : Bool) → keep a ≡ z → keep a ≡ true
          passes a ys f n true e = e
          passes a ys f n false e =
              absurd (n (total-absent S ys a (All-weaker (λ (t : Term × F). keep t.0 ≡ true) (λ t. a ≢ t.0)
              (λ t p q. not_both (keep a) (ap keep q ∙ p) e) ys f)))
