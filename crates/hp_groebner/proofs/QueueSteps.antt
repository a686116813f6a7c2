-- A queue with one lead more.
use Rattle.std.specs.Prelude.{◌≡◌, ◌⊎◌, ◌↔◌, ℕ, suc, ◌+◌, ◌==◌, ◌<◌, ◌≤◌, Bool, true, false, cond, IsTrue, List, [], ◌∷◌, ◌++◌, length, filter, All, Contains, set}
use Rattle.std.proofs.Common.{get_or}
use Rattle.std.proofs.lemmas.Bool.{cases_eq, cases_lt}
use Rattle.std.proofs.lemmas.List.{append-nil, append_assoc, get_or-set_other, get_or-set_same, get_or_append_left, get_or_default, get_or_push, length-set, length_push}
use Rattle.std.proofs.lemmas.List.Elements.{All-append, All-cons, All-contains, All-nil, Contains-append_left, Contains-append_right}
use mathlib.Core.Logic.{inl, inr}
use mathlib.Core.Path.{refl, sym, ap, ◌∙◌, subst}
use native.Mathlib.Omega.{arith}
use Rattle.hp_lists.proofs.Members.{Contains-here, not_both}
use Rattle.hp_mono.specs.declared.term.Term.{Term}
use Rattle.hp_mono.specs.Monomials.{Divides, Monomial, cofactor, one, product}
use Rattle.hp_module.specs.Leads.{no_term}
use Rattle.hp_module.specs.CriticalPairs.{lcm_degree}
use Rattle.hp_groebner.specs.declared.limits.Limits.{Limits}
use Rattle.hp_groebner.specs.KeptCofactors.{AreMonomials}
use Rattle.hp_groebner.specs.NewPairs.{AreAdded, IsNewPair, new_degree, pairs_of, place_at}
use Rattle.hp_groebner.specs.PairQueues.{AreMinimalCofactors, HasHighPair, IsCompanion, IsCover, IsLonger, IsPair, IsQueue, Queue, bucket, nth, pair_degree}
use Rattle.hp_groebner.proofs.PairCounts.{pairs-push}
use Rattle.hp_groebner.proofs.PairDegrees.{cover-low}

-- what passes a test is no more than all
pub filter-short : {X : Type 0} (p : X → Bool) (xs : List X) → length (filter p xs) ≤ length xs
filter-short p [] = omega arith
filter-short p (x ∷ xs) =
    let r = filter-short p xs in
    elim (p x) as (λ b. length (cond b (x ∷ filter p xs) (filter p xs)) ≤ suc (length xs)) [
      | true ↦ omega (arith, r)
      | false ↦ omega (arith, r)
    ]

-- one pair more in a degree
abbrev pub with_pair : List (List (ℕ × ℕ)) → ℕ → ℕ × ℕ → List (List (ℕ × ℕ))
with_pair due e u = set due e (pairs_of due e ++ u ∷ [])

-- ---- the pairs of a new lead

module _ (leads : List Term) (t : Term) (limit : ℕ) (xs : List (Monomial × ℕ)) where
  pub added-none : (due : List (List (ℕ × ℕ))) → AreAdded leads t limit xs 0 due due
  added-none due = record {
    long = refl;
    more = λ e. ([], sym (append-nil (pairs_of due e)), All-nil (IsNewPair leads t e));
    listed = λ h l d. absurd (omega (arith, l));
  }

  module _ (k : ℕ) (due due' : List (List (ℕ × ℕ))) (a : AreAdded leads t limit xs k due due') where
    -- a pair above the limit is not listed
    pub added-past : limit < new_degree leads t (place_at xs k) → AreAdded leads t limit xs (k + 1) due due'
    added-past n = record {
      long = a.long;
      more = a.more;
      listed = λ h l d. elim (cases_lt h k) [
        | inl b ↦ a.listed h b d
        | inr b ↦
            let e : h ≡ k = omega (arith, l, b) in
            let f = ap (λ i. new_degree leads t (place_at xs i)) e in
            absurd (omega (arith, d, f, n))
      ];
    }

    module _ (j e : ℕ) (is : place_at xs k ≡ j) (companion : IsCompanion leads t j)
        (of_degree : new_degree leads t j ≡ e) (within : e < length due') where
      at-same : pairs_of (with_pair due' e (j, length leads)) e ≡ pairs_of due' e ++ (j, length leads) ∷ []
      at-same = get_or-set_same due' e (pairs_of due' e ++ (j, length leads) ∷ []) [] within

      at-other : (f : ℕ) → ¬ (f ≡ e)
          → pairs_of (with_pair due' e (j, length leads)) f ≡ pairs_of due' f
      at-other f n = get_or-set_other due' e f (pairs_of due' e ++ (j, length leads) ∷ []) [] n

      still : (f : ℕ) (u : ℕ × ℕ) → Contains (pairs_of due' f) u
          → Contains (pairs_of (with_pair due' e (j, length leads)) f) u
      still f u c = elim (cases_eq f e) [
        | inl g ↦ subst (λ i. Contains (pairs_of (with_pair due' e (j, length leads)) i) u) (sym g)
            (subst (λ us. Contains us u) (sym at-same)
            (Contains-append_left (pairs_of due' e) ((j, length leads) ∷ []) u (subst (λ i. Contains (pairs_of due' i) u) g c)))
        | inr n ↦ subst (λ us. Contains us u) (sym (at-other f n)) c
      ]

      more' : (f : ℕ) → (us : List (ℕ × ℕ))
          × (pairs_of (with_pair due' e (j, length leads)) f ≡ pairs_of due f ++ us)
          × All (IsNewPair leads t f) us
      more' f = elim (cases_eq f e) [
        | inl g ↦
            let old = a.more f in
            let same = ap (pairs_of (with_pair due' e (j, length leads))) g ∙ at-same
            ∙ ap (λ i. pairs_of due' i ++ (j, length leads) ∷ []) (sym g)
            ∙ ap (λ us. us ++ (j, length leads) ∷ []) old.1
            ∙ append_assoc (pairs_of due f) old.0 ((j, length leads) ∷ []) in
            let one_more = All-cons (IsNewPair leads t f) (j, length leads) [] (companion, refl, of_degree ∙ sym g)
            (All-nil (IsNewPair leads t f)) in (
              old.0 ++ (j, length leads) ∷ [],
              same,
              All-append (IsNewPair leads t f) old.0 ((j, length leads) ∷ []) old.2 one_more,
            )
        | inr n ↦ let old = a.more f in (old.0, at-other f n ∙ old.1, old.2)
      ]

      -- a pair within the limit is listed
      pub added-next : AreAdded leads t limit xs (k + 1) due (with_pair due' e (j, length leads))
      added-next = record {
        long = length-set due' e (pairs_of due' e ++ (j, length leads) ∷ []) ∙ a.long;
        more = more';
        listed = λ h l d. elim (cases_lt h k) [
          | inl b ↦ still (new_degree leads t (place_at xs h)) (place_at xs h, length leads) (a.listed h b d)
          | inr b ↦
              let g : h ≡ k = omega (arith, l, b) in
              let p : place_at xs h ≡ j = ap (place_at xs) g ∙ is in
              let f : new_degree leads t (place_at xs h) ≡ e = ap (new_degree leads t) p ∙ of_degree in
              let due'' = with_pair due' e (j, length leads) in
              subst (λ i. Contains (pairs_of due'' i) (place_at xs h, length leads)) (sym f)
              (subst (λ us. Contains us (place_at xs h, length leads)) (sym at-same)
              (subst (λ i. Contains (pairs_of due' e ++ (j, length leads) ∷ []) (i, length leads)) (sym p)
              (Contains-append_right (pairs_of due' e) ((j, length leads) ∷ []) (j, length leads)
              (Contains-here (j, length leads) []))))
        ];
      }

-- ---- one lead more

abbrev pushed : List Term → Term → List Term
pushed leads t = leads ++ t ∷ []

-- a pair of a degree
abbrev IsListed : List Term → ℕ → ℕ × ℕ → Type 0
IsListed leads e u = IsPair leads u.0 u.1 × (pair_degree leads u.0 u.1 ≡ e)

-- the new lead has a pair above a limit
abbrev HasHighWith : ℕ → List Term → Term → Type 0
HasHighWith limit leads t = (j : ℕ) × IsCompanion leads t j × (limit < new_degree leads t j)

module _ (leads : List Term) (t : Term) where
  old-nth : (i : ℕ) → i < length leads → nth (pushed leads t) i ≡ nth leads i
  old-nth i l = get_or_append_left leads (t ∷ []) no_term i l

  new-nth : nth (pushed leads t) (length leads) ≡ t
  new-nth = get_or_push leads t no_term (length leads) refl

  old-pair : (j i : ℕ) → IsPair leads j i → IsPair (pushed leads t) j i
  old-pair j i p =
      let n = length_push leads t in
      let lj = p.earlier in
      let li = p.within in
      record {
        earlier = p.earlier;
        within = omega (arith, n, li);
        same_component = ap (λ s. s.comp) (old-nth j (omega (arith, lj, li))) ∙ p.same_component
            ∙ ap (λ s. s.comp) (sym (old-nth i li));
      }

  old-degree : (j i : ℕ) → IsPair leads j i → pair_degree (pushed leads t) j i ≡ pair_degree leads j i
  old-degree j i p =
      let lj = p.earlier in
      let li = p.within in
      let ej = old-nth j (omega (arith, lj, li)) in
      let ei = old-nth i li in
      λ k. lcm_degree (ej k, ei k)

  new-pair : (j : ℕ) → IsCompanion leads t j → IsPair (pushed leads t) j (length leads)
  new-pair j c =
      let n = length_push leads t in
      record {
        earlier = c.within;
        within = omega (arith, n);
        same_component = ap (λ s. s.comp) (old-nth j c.within) ∙ c.same_component ∙ ap (λ s. s.comp) (sym new-nth);
      }

  new-pair_degree : (j : ℕ) → j < length leads
      → pair_degree (pushed leads t) j (length leads) ≡ new_degree leads t j
  new-pair_degree j l =
      let ej = old-nth j l in
      let ei = new-nth in
      λ k. lcm_degree (ej k, ei k)

  -- a pair is an old one, or one of the new lead
  pair-cases : (j i : ℕ) → IsPair (pushed leads t) j i
      → IsPair leads j i ⊎ ((i ≡ length leads) × IsCompanion leads t j)
  pair-cases j i p =
      let n = length_push leads t in
      let lj = p.earlier in
      let li = p.within in
      elim (cases_lt i (length leads)) [
        | inl l ↦
            let jl : j < length leads = omega (arith, l, lj) in
            inl (record {
              earlier = p.earlier;
              within = l;
              same_component = ap (λ s. s.comp) (sym (old-nth j jl)) ∙ p.same_component
                  ∙ ap (λ s. s.comp) (old-nth i l);
            })
        | inr g ↦
            let e : i ≡ length leads = omega (arith, n, li, g) in
            let jl : j < length leads = omega (arith, e, lj) in
            inr (
              e,
              record {
                within = jl;
                same_component = ap (λ s. s.comp) (sym (old-nth j jl)) ∙ p.same_component
                    ∙ ap (λ k. (nth (pushed leads t) k).comp) e ∙ ap (λ s. s.comp) new-nth;
              },
            )
      ]

  same-divides : (s s' a a' b b' : Term) → s ≡ s' → a ≡ a' → b ≡ b'
      → Divides (cofactor s.mono a.mono) (cofactor s.mono b.mono)
      → Divides (cofactor s'.mono a'.mono) (cofactor s'.mono b'.mono)
  same-divides s s' a a' b b' p q r d = (
    d.0,
    d.1,
    (λ k. product d.0 (cofactor (sym p k).mono (sym q k).mono)) ∙ d.2 ∙ (λ k. cofactor (p k).mono (r k).mono),
  )

  old-cover : (j i k : ℕ) → IsPair leads j i → IsCover leads j i k → IsCover (pushed leads t) j i k
  old-cover j i k p c =
      let lj = p.earlier in
      let li = p.within in
      let lk = c.pair.earlier in
      record {
        pair = old-pair k i c.pair;
        divides = same-divides (nth leads i) (nth (pushed leads t) i) (nth leads k) (nth (pushed leads t) k) (nth leads j)
            (nth (pushed leads t) j) (sym (old-nth i li)) (sym (old-nth k (omega (arith, lk, li))))
            (sym (old-nth j (omega (arith, lj, li)))) c.divides;
      }

  new-cover : (j k : ℕ) → IsCompanion leads t j → IsCompanion leads t k
      → Divides (cofactor t.mono (nth leads k).mono) (cofactor t.mono (nth leads j).mono)
      → IsCover (pushed leads t) j (length leads) k
  new-cover j k cj ck d = record {
    pair = new-pair k ck;
    divides = same-divides t (nth (pushed leads t) (length leads)) (nth leads k) (nth (pushed leads t) k) (nth leads j)
        (nth (pushed leads t) j) (sym new-nth) (sym (old-nth k ck.within)) (sym (old-nth j cj.within)) d;
  }

-- What a queue becomes: the pairs of the new lead are listed, and what is counted is counted on.
pub record IsGrown (limits : Limits) (q : Queue) (t : Term) (xs : List (Monomial × ℕ)) (q' : Queue) : Type 0 where
  pub leads : q'.leads ≡ q.leads ++ t ∷ []
  pub due : AreAdded q.leads t limits.degree xs (length xs) q.due q'.due
  pub pairs : q'.pairs ≡ q.pairs + length (filter (λ s. s.comp == t.comp) q.leads)
  pub high : IsTrue q'.high
      ↔ (IsTrue q.high ⊎ HasHighWith limits.degree q.leads t)

module _ (limits : Limits) (q : Queue) (t : Term) (xs : List (Monomial × ℕ)) (q' : Queue) (is : IsQueue limits q)
    (monomials : AreMonomials q.leads t (length q.leads)) (minimal : AreMinimalCofactors q.leads t xs)
    (grown : IsGrown limits q t xs q') where
  pub grown-longer : IsLonger q t q'
  grown-longer = record {
    leads = grown.leads;
    buckets = λ e. let m = grown.due.more e in (m.0, m.1, λ k d l. (m.2 k d l).1);
  }

  new-high : IsTrue q'.high ↔ HasHighPair limits (pushed q.leads t)
  new-high = (λ h. there (grown.high.0 h), λ w. grown.high.1 (back w))
    where
      there : IsTrue q.high ⊎ HasHighWith limits.degree q.leads t
          → HasHighPair limits (pushed q.leads t)
      there (inl h) =
          let w = is.high.0 h in (
            w.0,
            w.1,
            old-pair q.leads t w.0 w.1 w.2,
            subst (λ d. limits.degree < d) (sym (old-degree q.leads t w.0 w.1 w.2)) w.3,
          )
      there (inr (j, c, l)) = (
        j,
        length q.leads,
        new-pair q.leads t j c,
        subst (λ d. limits.degree < d) (sym (new-pair_degree q.leads t j c.within)) l,
      )

      back : HasHighPair limits (pushed q.leads t)
          → IsTrue q.high ⊎ HasHighWith limits.degree q.leads t
      back (j, i, p, l) = elim (pair-cases q.leads t j i p) [
        | inl o ↦ inl (is.high.1 (j, i, o, subst (λ d. limits.degree < d) (old-degree q.leads t j i o) l))
        | inr (e, c) ↦
            let d = ap (pair_degree (pushed q.leads t) j) e ∙ new-pair_degree q.leads t j c.within in
            inr (j, c, subst (λ d. limits.degree < d) d l)
      ]

  new-listed : (e : ℕ)
      → All (IsListed (pushed q.leads t) e) (bucket q' e)
  new-listed e =
      let m = grown.due.more e in
      subst (All (IsListed (pushed q.leads t) e)) (sym m.1)
      (All-append (IsListed (pushed q.leads t) e) (bucket q e) m.0
      (λ k d l. let o = is.listed e k d l in old (get_or (bucket q e) k d) o.0 o.1)
      (λ k d l. let o = m.2 k d l in new (get_or m.0 k d) o.0 o.1 o.2))
    where
      old : (u : ℕ × ℕ) → IsPair q.leads u.0 u.1 → pair_degree q.leads u.0 u.1 ≡ e
          → IsListed (pushed q.leads t) e u
      old u p d = (old-pair q.leads t u.0 u.1 p, old-degree q.leads t u.0 u.1 p ∙ d)

      new : (u : ℕ × ℕ) → IsCompanion q.leads t u.0 → u.1 ≡ length q.leads → new_degree q.leads t u.0 ≡ e
          → IsListed (pushed q.leads t) e u
      new u c i d = (
        subst (IsPair (pushed q.leads t) u.0) (sym i) (new-pair q.leads t u.0 c),
        ap (pair_degree (pushed q.leads t) u.0) i ∙ new-pair_degree q.leads t u.0 c.within ∙ d,
      )

  -- an old pair has its old cover
  old-covered : (j i : ℕ) → IsPair q.leads j i → pair_degree q.leads j i ≤ limits.degree
      → (k : ℕ) × IsCover (pushed q.leads t) j i k × Contains (bucket q' (pair_degree (pushed q.leads t) k i)) (k, i)
  old-covered j i p d =
      let v = is.covered j i p d in
      let e = pair_degree q.leads v.0 i in
      let m = grown.due.more (pair_degree q.leads v.0 i) in
      let there = subst (λ us. Contains us (v.0, i)) (sym m.1)
      (Contains-append_left (bucket q (pair_degree q.leads v.0 i)) m.0 (v.0, i) v.2) in (
        v.0,
        old-cover q.leads t j i v.0 p v.1,
        subst (λ f. Contains (bucket q' f) (v.0, i)) (sym (old-degree q.leads t v.0 i v.1.pair)) there,
      )

  -- a new one has the pair with the minimal cofactor that divides its own
  new-covered : (j : ℕ) → IsCompanion q.leads t j → new_degree q.leads t j ≤ limits.degree
      → (k : ℕ) × IsCover (pushed q.leads t) j (length q.leads) k
      × Contains (bucket q' (pair_degree (pushed q.leads t) k (length q.leads))) (k, length q.leads)
  new-covered j c d =
      let v = minimal.covered j c in
      let x = v.0 in
      let h = v.1.0 in
      let e = All-contains (λ x. IsCompanion q.leads t x.1 × (x.0 ≡ cofactor t.mono (nth q.leads x.1).mono)) xs v.0
      minimal.each v.1 in
      let divides = subst (λ m. Divides m (cofactor t.mono (nth q.leads j).mono)) e.1 v.2 in
      let mj = monomials j c c.within in
      let mk = monomials v.0.1 e.0 e.0.within in
      let low = cover-low t.mono (nth q.leads j).mono (nth q.leads v.0.1).mono mj.0 mj.1 mk.1 divides in
      let at : place_at xs v.1.0 ≡ v.0.1 = ap (λ y. y.1) (get_or_default xs v.1.0 (one, 0) v.0 v.1.1 ∙ v.1.2) in
      let listed = grown.due.listed v.1.0 v.1.1
      (subst (λ i. new_degree q.leads t i ≤ limits.degree) (sym at) (omega (arith, low, d))) in
      let there = subst (λ i. Contains (bucket q' (new_degree q.leads t i)) (i, length q.leads)) at listed in (
        v.0.1,
        new-cover q.leads t j v.0.1 c e.0 divides,
        subst (λ f. Contains (bucket q' f) (v.0.1, length q.leads)) (sym (new-pair_degree q.leads t v.0.1 e.0.within))
            there,
      )

  new-all_covered : (j i : ℕ) → IsPair (pushed q.leads t) j i → pair_degree (pushed q.leads t) j i ≤ limits.degree
      → (k : ℕ) × IsCover (pushed q.leads t) j i k × Contains (bucket q' (pair_degree (pushed q.leads t) k i)) (k, i)
  new-all_covered j i p d = elim (pair-cases q.leads t j i p) [
    | inl o ↦ old-covered j i o (subst (λ f. f ≤ limits.degree) (old-degree q.leads t j i o) d)
    | inr (e, c) ↦
        let f = ap (pair_degree (pushed q.leads t) j) e ∙ new-pair_degree q.leads t j c.within in
        subst (λ n. (k : ℕ) × IsCover (pushed q.leads t) j n k
        × Contains (bucket q' (pair_degree (pushed q.leads t) k n)) (k, n))
        (sym e) (new-covered j c (subst (λ f. f ≤ limits.degree) f d))
  ]

  grown-at : IsQueue limits (record { leads = q.leads ++ t ∷ []; due = q'.due; pairs = q'.pairs; high = q'.high })
  grown-at = record {
    long = grown.due.long ∙ is.long;
    counted = grown.pairs ∙ ap (λ n. n + length (filter (λ s. s.comp == t.comp) q.leads)) is.counted
        ∙ sym (pairs-push q.leads t);
    high = new-high;
    listed = new-listed;
    covered = new-all_covered;
  }

  -- it is the queue of the leads with the new one
  pub grown-queue : IsQueue limits q'
  grown-queue =
      let e = grown.leads in
      subst (IsQueue limits) (λ k. record { leads = sym e k; due = q'.due; pairs = q'.pairs; high = q'.high }) grown-at

-- whether one is above the limit: where it was so before, and else where the new lead has such a pair
pub high-before : {P : Type 0} (old new : Bool) → old ≡ true → new ≡ true → IsTrue new ↔ (IsTrue old ⊎ P)
high-before old new p r = (λ h. inl p, λ h. r)

pub high-new : {P : Type 0} (old new r : Bool) → old ≡ false → new ≡ r → (IsTrue r ↔ P) → IsTrue new ↔ (IsTrue old ⊎ P)
high-new {P} old new r p e h = (λ x. inr (h.0 (subst IsTrue e x)), back)
  where
    back : IsTrue old ⊎ P → IsTrue new
    back (inl x) = absurd (not_both old x p)
    back (inr x) = subst IsTrue (sym e) (h.1 x)
