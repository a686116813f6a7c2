-- Pairs that are not covered, one candidate at a time, and one later lead after the other.
use Rattle.std.specs.Prelude.{◌≡◌, ℕ, suc, ◌<◌, Bool, true, false, cond, not, List, [], ◌∷◌, ◌++◌, length, filter, All, AllPairs, Contains, slice_index_or}
use Rattle.std.proofs.lemmas.Bool.{cases_eq}
use Rattle.std.proofs.lemmas.List.{get_or_default}
use Rattle.std.proofs.lemmas.List.Kept.{AllPairs-cons, AllPairs-filter}
use Rattle.std.proofs.lemmas.List.Quantifiers.{all_pairs_push}
use Rattle.std.proofs.lemmas.List.Elements.{All-append, All-cons, All-filter, All-nil, All-contains, Contains-append_left, Contains-append_right, Contains-get_or, filter_passes}
use Rattle.std.proofs.lemmas.List.Folds.{Any-from_list_any, list_any_at}
use mathlib.Core.Logic.{inl, inr}
use mathlib.Core.Path.{refl, sym, ap, ◌∙◌, subst}
use native.Mathlib.Omega.{arith}
use Rattle.hp_lists.proofs.Members.{Contains-filter, Contains-here, Contains-later, each-All, filter-Contains}
use Rattle.hp_mono.specs.declared.term.Term.{Term}
use Rattle.hp_mono.specs.Monomials.{IsMonomial}
use Rattle.hp_mono.specs.TermOrders.{TermDivides}
use Rattle.hp_mono.proofs.MonomialLaws.{cofactor-monomial}
use Rattle.hp_module.specs.Leads.{no_term}
use Rattle.hp_module.proofs.DividingTerms.{divides-chain, divides-itself}
use Rattle.hp_syzygy.specs.DividingTests.{keep_next, some_divides, term_divides}
use Rattle.hp_syzygy.specs.FrameLevels.{AreApart, ArePairs, ArePairsAt, IsPair, pair_lead}
use Rattle.hp_syzygy.proofs.DividingTermTests.{term-test, test-term}

-- the pairs whose later lead is one of the first m
pub record ArePairsBelow (leads : List Term) (ranks : List ℕ) (m : ℕ) (pairs : List (Term × ℕ)) : Type 0 where
  pub each : All (λ q. (i : ℕ) × (i < m) × IsPair leads ranks q.1 i × (q.0 ≡ pair_lead leads i q.1)) pairs
  pub covered : (j i : ℕ) → i < m → IsPair leads ranks j i
      → (q : Term × ℕ) × Contains pairs q × TermDivides q.0 (pair_lead leads i j)
  pub apart : AllPairs AreApart pairs

module _ (leads : List Term) (ranks : List ℕ) (monos : (i : ℕ) → i < length leads → IsMonomial (slice_index_or leads i no_term).mono) where
  abbrev Listed : ℕ → Term × ℕ → Type 0
  Listed i q = IsPair leads ranks q.1 i × (q.0 ≡ pair_lead leads i q.1)

  lead-mono : (i j : ℕ) → IsPair leads ranks j i → IsMonomial (pair_lead leads i j).mono
  lead-mono i j h = cofactor-monomial _ _ (monos i h.later) (monos j h.earlier)

  listed-mono : (i : ℕ) (q : Term × ℕ) → Listed i q → IsMonomial q.0.mono
  listed-mono i q h = subst (λ t. IsMonomial t.mono) (sym h.1) (lead-mono i q.1 h.0)

  Covering : ℕ → ℕ → List (Term × ℕ) → Type 0
  Covering i j pairs = (q : Term × ℕ) × Contains pairs q × TermDivides q.0 (pair_lead leads i j)

  -- none so far
  pub pairs-none : (i : ℕ) → ArePairsAt leads ranks i 0 []
  pairs-none i = record {
    each = All-nil (Listed i);
    covered = λ j l h. absurd (omega (arith, l));
    apart = λ a b d l m. absurd (omega (arith, m));
  }

  -- no pair
  pub pairs-skip : (i j : ℕ) (pairs : List (Term × ℕ)) → ArePairsAt leads ranks i j pairs → ¬ (IsPair leads ranks j i)
      → ArePairsAt leads ranks i (suc j) pairs
  pairs-skip i j pairs p n = record {
    each = p.each;
    covered = λ k l h. elim (cases_eq k j) [
      | inl e ↦ absurd (n (subst (λ x. IsPair leads ranks x i) e h))
      | inr o ↦ p.covered k (omega (arith, l, o)) h
    ];
    apart = p.apart;
  }

  module _ (i j : ℕ) (pairs : List (Term × ℕ)) (p : ArePairsAt leads ranks i j pairs) (h : IsPair leads ranks j i) where
    abbrev t : Term
    t = pair_lead leads i j

    abbrev new : Term × ℕ
    new = (t, j)

    new-listed : Listed i new
    new-listed = (h, refl)

    t-mono : IsMonomial t.mono
    t-mono = lead-mono i j h

    divided : Term × ℕ → Bool
    divided q = term_divides q.0 t

    kept : Term × ℕ → Bool
    kept q = not (term_divides t q.0)

    -- a listed pair divides the new one
    with-divisor : some_divides pairs t ≡ true → ArePairsAt leads ranks i (suc j) pairs
    with-divisor e =
        let a = Any-from_list_any (λ q. term_divides q.0 t) pairs e in
        let k = a.0 in
        let q = slice_index_or pairs k (no_term, 0) in
        let same : q ≡ a.1 = get_or_default pairs k (no_term, 0) a.1 a.2 ∙ a.3 in
        let listed = p.each k (no_term, 0) a.2 in
        let d = test-term q.0 t (listed-mono i q listed) t-mono (ap (λ u. term_divides u.0 t) same ∙ a.4) in
        record {
          each = p.each;
          covered = λ m l g. elim (cases_eq m j) [
            | inl e ↦ subst (λ x. (u : Term × ℕ) × Contains pairs u × TermDivides u.0 (pair_lead leads i x)) (sym e) (q, Contains-get_or pairs k (no_term, 0) a.2, d)
            | inr o ↦ p.covered m (omega (arith, l, o)) g
          ];
          apart = p.apart;
        }

    abbrev rest : List (Term × ℕ)
    rest = filter (λ q. not (term_divides t q.0)) pairs

    abbrev longer : List (Term × ℕ)
    longer = rest ++ (t, j) ∷ []

    true_not : (z : Bool) → not z ≡ true → z ≡ false
    true_not true e = sym e
    true_not false e = refl

    false_not : (z : Bool) → z ≡ false → not z ≡ true
    false_not z e = ap not e

    different : {z : Bool} → z ≡ true → z ≡ false → ⊥
    different e f = let q : true ≡ false = sym e ∙ f in cc

    -- none does
    without-divisor : some_divides pairs t ≡ false → ArePairsAt leads ranks i (suc j) longer
    without-divisor none =
        let here = Contains-append_right rest ((t, j) ∷ []) (t, j) (Contains-here (t, j) []) in
        let itself = divides-itself t t-mono in
        let still : (m : ℕ) → (u : Term × ℕ) × Contains pairs u × TermDivides u.0 (pair_lead leads i m)
        → (u : Term × ℕ) × Contains longer u × TermDivides u.0 (pair_lead leads i m) =
        λ m c.
        let q = c.0 in
        let listed = All-contains (Listed i) pairs q p.each c.1 in
        elim (term_divides t q.0) as (λ z. term_divides t q.0 ≡ z → (u : Term × ℕ) × Contains longer u × TermDivides u.0 (pair_lead leads i m)) [
          | true ↦ λ e. ((t, j), here, divides-chain t q.0 (pair_lead leads i m) (test-term t q.0 t-mono (listed-mono i q listed) e) c.2)
          | false ↦ λ e. (q, Contains-append_left rest ((t, j) ∷ []) q (Contains-filter (λ q. not (term_divides t q.0)) pairs q c.1 (false_not (term_divides t q.0) e)), c.2)
        ] refl in
        record {
          each = All-append (Listed i) rest ((t, j) ∷ []) (All-filter (λ q. not (term_divides t q.0)) (Listed i) pairs p.each)
              (All-cons (Listed i) (t, j) [] (h, refl) (All-nil (Listed i)));
          covered = λ m l g. elim (cases_eq m j) [
            | inl e ↦ subst (λ x. (u : Term × ℕ) × Contains longer u × TermDivides u.0 (pair_lead leads i x)) (sym e) ((t, j), here, itself)
            | inr o ↦ still m (p.covered m (omega (arith, l, o)) g)
          ];
          apart = all_pairs_push AreApart rest (t, j) (AllPairs-filter AreApart (λ q. not (term_divides t q.0)) pairs p.apart) (λ k d l.
              let q = slice_index_or rest k d in
              let listed = All-filter (λ q. not (term_divides t q.0)) (Listed i) pairs p.each k d l in
              let passes = filter_passes (λ (q : Term × ℕ). not (term_divides t q.0)) pairs k d l in
              let inside = filter-Contains (λ (q : Term × ℕ). not (term_divides t q.0)) pairs q (Contains-get_or rest k d l) in (
                λ x. different (list_any_at (λ q. term_divides q.0 t) pairs inside.0.0 q inside.0.1
                    (subst (λ (u : Term × ℕ). term_divides u.0 t ≡ true) (sym inside.0.2) (term-test q.0 t (listed-mono i q listed) x))) none,
                λ x. different (term-test t q.0 t-mono x) (true_not (term_divides t q.0) passes),
              ));
        }

    pub pairs-next : ArePairsAt leads ranks i (suc j) (keep_next pairs (pair_lead leads i j) j)
    pairs-next =
        elim (some_divides pairs t) as (λ z. some_divides pairs t ≡ z → ArePairsAt leads ranks i (suc j) (cond z pairs longer)) [
          | true ↦ with-divisor
          | false ↦ without-divisor
        ] refl

  -- ---- one later lead after the other

  pub below-none : ArePairsBelow leads ranks 0 []
  below-none = record {
    each = All-nil (λ (q : Term × ℕ). (i : ℕ) × (i < 0) × IsPair leads ranks q.1 i × (q.0 ≡ pair_lead leads i q.1));
    covered = λ j i l h. absurd (omega (arith, l));
    apart = λ a b d l m. absurd (omega (arith, m));
  }

  pairs-append : {X : Type 0} (R : X → X → Type 0) (xs ys : List X) → AllPairs R xs → AllPairs R ys
      → ((x y : X) → Contains xs x → Contains ys y → R x y) → AllPairs R (xs ++ ys)
  pairs-append R [] ys f g h = g
  pairs-append R (x ∷ xs) ys f g h =
      AllPairs-cons R x (xs ++ ys)
      (All-append (R x) xs ys (λ k d l. f 0 (suc k) d (omega arith) (omega (arith, l)))
      (each-All (R x) ys (λ y c. h x y (Contains-here x xs) c)))
      (pairs-append R xs ys (λ a b d l m. f (suc a) (suc b) d (omega (arith, l)) (omega (arith, m))) g
      (λ u y c e. h u y (Contains-later x xs u c) e))

  pub below-next : (m : ℕ) (pairs block : List (Term × ℕ)) → ArePairsBelow leads ranks m pairs → ArePairsAt leads ranks m (length leads) block
      → ArePairsBelow leads ranks (suc m) (pairs ++ block)
  below-next m pairs block p b =
      let Each : Term × ℕ → Type 0 = λ q. (i : ℕ) × (i < suc m) × IsPair leads ranks q.1 i × (q.0 ≡ pair_lead leads i q.1) in
      let old : All Each pairs = λ k d l. let e = p.each k d l in (e.0, omega (arith, e.1), e.2, e.3) in
      let fresh : All Each block = λ k d l. let e = b.each k d l in (m, omega arith, e.0, e.1) in
      record {
        each = All-append Each pairs block old fresh;
        covered = λ j i l h. elim (cases_eq i m) [
          | inl e ↦
              let c = b.covered j (h.earlier) (subst (IsPair leads ranks j) e h) in
              (c.0, Contains-append_right pairs block c.0 c.1, subst (λ x. TermDivides c.0.0 (pair_lead leads x j)) (sym e) c.2)
          | inr o ↦
              let c = p.covered j i (omega (arith, l, o)) h in
              (c.0, Contains-append_left pairs block c.0 c.1, c.2)
        ];
        apart = pairs-append AreApart pairs block p.apart b.apart (λ x y cx cy.
            let ex = All-contains (λ (q : Term × ℕ). (i : ℕ) × (i < m) × IsPair leads ranks q.1 i × (q.0 ≡ pair_lead leads i q.1)) pairs x p.each cx in
            let ey = All-contains (Listed m) block y b.each cy in
            let compx : x.0.comp ≡ suc ex.0 = ap (λ t. t.comp) ex.3 in
            let compy : y.0.comp ≡ suc m = ap (λ t. t.comp) ey.1 in
            let low = ex.1 in (
              λ d. let e : x.0.comp ≡ y.0.comp = ap (λ t. t.comp) d.2 in absurd (omega (arith, compx, compy, e, low)),
              λ d. let e : y.0.comp ≡ x.0.comp = ap (λ t. t.comp) d.2 in absurd (omega (arith, compx, compy, e, low)),
            ));
      }

  pub below-all : (pairs : List (Term × ℕ)) → ArePairsBelow leads ranks (length leads) pairs → ArePairs leads ranks pairs
  below-all pairs p = record {
    each = λ k d l. let e = p.each k d l in (e.0, e.2, e.3);
    covered = λ j i h. p.covered j i h.later h;
    apart = p.apart;
  }
