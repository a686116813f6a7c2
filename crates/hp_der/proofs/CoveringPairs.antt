-- Pairs of leads that cover all pairs, one lead more.
use Rattle.std.specs.Prelude.{◌≡◌, ℕ, ◌+◌, ◌<◌, List, [], ◌++◌, map, length, take, All, Contains, slice_index_or}
use Rattle.std.proofs.lemmas.Bool.{cases_lt}
use Rattle.std.proofs.lemmas.List.{get_or_default, get_or-take, length-take-le}
use Rattle.std.proofs.lemmas.List.Elements.{All-append, All-contains, All-map, All-nil, All-weaker, Contains-append_left, Contains-append_right}
use mathlib.Core.Logic.{inl, inr}
use mathlib.Core.Path.{sym, ap, ◌∙◌, subst}
use native.Mathlib.Omega.{arith}
use Rattle.hp_lists.proofs.Members.{Contains-map}
use Rattle.hp_mono.specs.declared.term.Term.{Term}
use Rattle.hp_mono.specs.Monomials.{Divides, Monomial, cofactor}
use Rattle.hp_module.specs.Leads.{no_term}
use Rattle.hp_groebner.specs.PairQueues.{AreMinimalCofactors, IsCompanion, IsCover, IsPair, nth}
use Rattle.hp_der.specs.CoveringPairs.{AreCoveringPairs}

pub cover-begin : (leads : List Term) {pairs : List (ℕ × ℕ)} → pairs ≡ [] → AreCoveringPairs leads 0 pairs
cover-begin leads {pairs} e = subst (AreCoveringPairs leads 0) (sym e) (record {
  within = All-nil (λ (x : ℕ × ℕ). (x.0 < x.1) × (x.1 < 0));
  covering = λ j i l p. absurd (omega (arith, l));
})

abbrev named : ℕ → Monomial × ℕ → ℕ × ℕ
named i x = (x.1, i)

before-long : (leads : List Term) (i : ℕ) → i < length leads → length (take i leads) ≡ i
before-long leads i l = length-take-le i leads (omega (arith, l))

before-at : (leads : List Term) (i j : ℕ) → j < i → nth (take i leads) j ≡ nth leads j
before-at leads i j m = get_or-take i leads j no_term m

module _ {leads : List Term} {i : ℕ} (l : i < length leads) {t : Term} (at : t ≡ nth leads i) {xs : List (Monomial × ℕ)}
    (minimal : AreMinimalCofactors (take i leads) t xs) where
  module _ {pairs : List (ℕ × ℕ)} (have : AreCoveringPairs leads i pairs) where
    within : All (λ (x : ℕ × ℕ). (x.0 < x.1) × (x.1 < i + 1)) (pairs ++ map (named i) xs)
    within =
        let P : ℕ × ℕ → Type 0 = λ x. (x.0 < x.1) × (x.1 < i + 1) in
        All-append P pairs (map (named i) xs)
        (All-weaker (λ (x : ℕ × ℕ). (x.0 < x.1) × (x.1 < i)) P (λ x h. (h.0, omega (arith, h.1))) pairs have.within)
        (All-map P (named i) xs (All-weaker (λ (x : Monomial × ℕ). IsCompanion (take i leads) t x.1 × (x.0 ≡ cofactor t.mono (nth (take i leads) x.1).mono))
        (λ x. P (named i x)) (λ x h. (let w = h.0.within in omega (arith, w, before-long leads i l), omega arith)) xs minimal.each))

    covering : (j m : ℕ) → m < i + 1 → IsPair leads j m → (k : ℕ) × Contains (pairs ++ map (named i) xs) (k, m) × IsCover leads j m k
    covering j m h p = elim (cases_lt m i) [
      | inl q ↦ let c = have.covering j m q p in (c.0, Contains-append_left pairs (map (named i) xs) (c.0, m) c.1, c.2)
      | inr g ↦ subst (λ n. IsPair leads j n → (k : ℕ) × Contains (pairs ++ map (named i) xs) (k, n) × IsCover leads j n k) (omega (arith, g, h)) here p
    ]
      where
        here : IsPair leads j i → (k : ℕ) × Contains (pairs ++ map (named i) xs) (k, i) × IsCover leads j i k
        here p =
            let c = minimal.covered j (record {
              within = omega (arith, p.earlier, before-long leads i l);
              same_component = ap (λ (s : Term). s.comp) (before-at leads i j p.earlier) ∙ p.same_component ∙ ap (λ (s : Term). s.comp) (sym at);
            }) in
            let x = c.0 in
            let e = All-contains (λ (y : Monomial × ℕ). IsCompanion (take i leads) t y.1 × (y.0 ≡ cofactor t.mono (nth (take i leads) y.1).mono)) xs x minimal.each c.1 in
            let earlier : x.1 < i = (let w = e.0.within in omega (arith, w, before-long leads i l)) in
            let first : x.0 ≡ cofactor (nth leads i).mono (nth leads x.1).mono = e.1 ∙ (λ z. cofactor (at z).mono (before-at leads i x.1 earlier z).mono) in
            let second : cofactor t.mono (nth (take i leads) j).mono ≡ cofactor (nth leads i).mono (nth leads j).mono = λ z. cofactor (at z).mono (before-at leads i j p.earlier z).mono in (
              x.1,
              Contains-append_right pairs (map (named i) xs) (x.1, i) (Contains-map (named i) xs x c.1),
              record {
                pair = record {
                  earlier = earlier;
                  within = l;
                  same_component = ap (λ (s : Term). s.comp) (sym (before-at leads i x.1 earlier)) ∙ e.0.same_component ∙ ap (λ (s : Term). s.comp) at;
                };
                divides = subst (λ q. Divides q (cofactor (nth leads i).mono (nth leads j).mono)) first (subst (λ q. Divides x.0 q) second c.2);
              },
            )

    cover-more : AreCoveringPairs leads (i + 1) (pairs ++ map (named i) xs)
    cover-more = record { within = within; covering = covering }

-- one lead more
pub cover-next : {leads before : List Term} {i : ℕ} {t : Term} {xs ys : List (Monomial × ℕ)} {pairs after : List (ℕ × ℕ)}
    → AreCoveringPairs leads i pairs → i < length leads → t ≡ slice_index_or leads i t → before ≡ take i leads
    → AreMinimalCofactors before t xs → ys ≡ xs → after ≡ pairs ++ map (λ x. (x.1, i)) ys → AreCoveringPairs leads (i + 1) after
cover-next {leads} {before} {i} {t} {xs} {ys} {pairs} {after} have l at eb minimal ey ea =
    subst (AreCoveringPairs leads (i + 1)) (sym (ea ∙ ap (λ zs. pairs ++ map (λ (x : Monomial × ℕ). (x.1, i)) zs) ey))
    (cover-more l (at ∙ get_or_default leads i t no_term l) (subst (λ bs. AreMinimalCofactors bs t xs) eb minimal) have)

pub read-cover : {us ws : List Term} {n : ℕ} {xs ys : List (ℕ × ℕ)} → us ≡ ws → length ws ≡ n → ys ≡ xs
    → AreCoveringPairs us (length us) xs → AreCoveringPairs ws n ys
read-cover {us} {ws} {n} {xs} {ys} e m q h =
    subst (AreCoveringPairs ws n) (sym q) (subst (λ k. AreCoveringPairs ws k xs) m (subst (λ ts. AreCoveringPairs ts (length ts) xs) e h))
