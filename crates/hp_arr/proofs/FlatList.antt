-- The list of all flats of an affine arrangement has each flat once, in order; and its rank is that of the linear parts.
use Rattle.std.specs.Prelude.{◌≡◌, ◌≢◌, ◌↔◌, ℕ, zero, suc, ◌+◌, ◌<◌, ◌≤◌, ◌==◌, Bool, ◌&&◌, List, [], ◌∷◌, map, length, flat_map, Contains}
use Rattle.std.specs.List.{range_with_len}
use Rattle.std.specs.List.Sorted.{IsStrictlySortedBy}
use Rattle.std.specs.declared.cmp.Ordering.{Ordering}
use Rattle.std.specs.declared.cmp.Ordering.TheVariants.{Less, Equal, Greater}
use Rattle.std.specs.Ordering.{ordering_then}
use Rattle.std.specs.FinMap.{nat_cmp-IsAntisymmetric}
use Rattle.std.specs.Cmp.{IsTotalOrder, nat_cmp_total, on_total, then_total}
use Rattle.std.proofs.lemmas.Cmp.{tied_itself}
use Rattle.std.proofs.lemmas.Bool.{and_from, eqb-true, eq-eqb}
use mathlib.Core.Path.{refl, sym, ap, ◌∙◌, subst}
use native.Mathlib.Omega.{arith}
use Rattle.hp_lists.specs.Lists.{below, Ordered, one_to}
use Rattle.hp_lists.proofs.Members.{first_true, second_true, Contains-filter, filter-Contains, Contains-map, map-Contains, Contains-flat_map, flat_map-Contains}
use Rattle.hp_lists.proofs.Ordered.{Ordered-append, Ordered-filter, sorted_of, sorted-ext, Ordered-weaker}
use Rattle.hp_lists.proofs.Ranges.{range_members, members_below}
use Rattle.hp_sets.specs.Sets.{Set, cmp_listed, sets_within}
use Rattle.hp_sets.specs.ListedOrder.{cmp_listed_same, cmp_listed_total}
use Rattle.hp_sets.specs.declared.flat.Flat.{Flat}
use Rattle.hp_sets.proofs.SetLists.{IsListedBefore, sets-complete, sets-rise, nat_less, nat_same}
use Rattle.hp_arr.specs.Flats.{cmp_ranked, total_rank, rank, IsFlat, is_flat, flats_of_rank, flats}
use Rattle.hp_arr.specs.Arrangement.{indices, linear_part}
use Rattle.hp_arr.proofs.Ranks.{rank-dim}
use Rattle.hp_arr.proofs.Cuts.{set-indices}
use Rattle.hp_matroid.proofs.CentralSets.{central-closure}
use Rattle.hp_matroid.proofs.Expansion.{closure_closure}
use Rattle.hp_matroid.proofs.RisingSets.{set-from_rises}
use Rattle.hp_matroid.proofs.Infinity as infinity
use Rattle.hp_arr.proofs.ConePoints.{AffineSetting, n, cone_over, cone-count}
use Rattle.hp_arr.proofs.ConeMatroids.{greatest-is, greatest-low, cone_matroid, affine_matroid, central, central-laws, indices-within, rank-matroid, flat-central, central-flat, flat-set, flat-has_point, is_flat-IsFlat, linear-total}

pub cmp_ranked_total : IsTotalOrder cmp_ranked
cmp_ranked_total = then_total (on_total (λ (f : Flat). f.rank) nat_cmp_total) (on_total (λ (f : Flat). f.set) cmp_listed_total)

-- what comes before another flat differs from it
pub ranked-differ : (f g : Flat) → cmp_ranked f g ≡ Less → f ≢ g
ranked-differ f g l e = clash (sym (tied_itself cmp_ranked_total f) ∙ ap (cmp_ranked f) e ∙ l)
  where
    clash : Equal ≡ Less → ⊥
    clash e = cc

-- flats that compare equal are equal
pub ranked-same : (f g : Flat) → cmp_ranked f g ≡ Equal → f ≡ g
ranked-same f g e =
    let w = both _ _ e in
    λ i. record { rank = nat_cmp-IsAntisymmetric f.rank g.rank w.0 i; set = cmp_listed_same f.set g.set w.1 i }
  where
    both : (r s : Ordering) → ordering_then r s ≡ Equal → (r ≡ Equal) × (s ≡ Equal)
    both Less s e = cc
    both Equal s e = (refl, e)
    both Greater s e = cc

module _ {K : Type 0} (A : AffineSetting K) where
  open A use {ring, numbers, arr}

  -- the rank of a flat is at most the dimension
  below-top : (f : Set) → IsFlat ring numbers arr f → suc (rank ring numbers arr f) ≤ (cone_matroid A).rank (one_to (cone_matroid A).size)
  below-top f is =
      let c = flat-central A f is in
      let h = set-indices arr f c.set in
      subst (λ r. suc r ≤ (cone_matroid A).rank (one_to (cone_matroid A).size)) (sym (rank-matroid A f h (flat-has_point A f is)))
      (infinity.rank-below (cone_matroid A) (n A) (cone-count A) f (indices-within A f h) c.pointed)

  pub flat-rank_dim : (f : Set) → IsFlat ring numbers arr f → rank ring numbers arr f ≤ arr.dim
  flat-rank_dim f is = let b = below-top f is in let d = rank-dim (cone_over A) (one_to (cone_matroid A).size) in omega (arith, b, d)

  -- ---- the flats of one rank

  pub flats_of_rank-complete : (r : ℕ) (f : Set) → Contains (flats_of_rank ring numbers arr r) f ↔ (IsFlat ring numbers arr f × (rank ring numbers arr f ≡ r))
  unfolding flats_of_rank
  flats_of_rank-complete r f = (
    (λ c.
        let d = filter-Contains test (sets_within (length arr.forms)) f c in
        let h = (sets-complete (length arr.forms) f).0 d.0 in
        ((is_flat-IsFlat A f h).0 (first_true _ _ d.1), eqb-true _ _ (second_true _ _ d.1))),
    λ h.
        let s = flat-set A f h.0 in
        Contains-filter test (sets_within (length arr.forms)) f ((sets-complete (length arr.forms) f).1 s) (and_from _ _ ((is_flat-IsFlat A f s).1 h.0) (eq-eqb _ _ h.1)),
  )
    where
      test : Set → Bool
      test s = is_flat ring numbers arr s && (rank ring numbers arr s == r)

  pub flats_of_rank-rise : (r : ℕ) → Ordered IsListedBefore (flats_of_rank ring numbers arr r)
  unfolding flats_of_rank
  flats_of_rank-rise r = Ordered-filter IsListedBefore (λ s. is_flat ring numbers arr s && (rank ring numbers arr s == r)) (sets_within (length arr.forms)) (sets-rise (length arr.forms))

  -- ---- all flats

  abbrev ranked : ℕ → Set → Flat
  ranked r s = record { rank = r; set = s }

  abbrev with_rank : ℕ → List Flat
  with_rank r = map (ranked r) (flats_of_rank ring numbers arr r)

  -- The list has exactly the flats, each with its rank.
  pub flats-complete : (f : Flat) → Contains (flats ring numbers arr) f ↔ (IsFlat ring numbers arr f.set × (f.rank ≡ rank ring numbers arr f.set))
  unfolding flats
  flats-complete f = (
    (λ c.
        let d = flat_map-Contains with_rank (below (arr.dim + 1)) f c in
        let m = map-Contains (ranked d.0) (flats_of_rank ring numbers arr d.0) f d.2 in
        let h = (flats_of_rank-complete d.0 m.0).0 m.1 in
        let e : m.0 ≡ f.set = ap (λ (g : Flat). g.set) m.2 in
        (subst (IsFlat ring numbers arr) e h.0, ap (λ (g : Flat). g.rank) (sym m.2) ∙ sym h.1 ∙ ap (rank ring numbers arr) e)),
    λ h.
        Contains-flat_map with_rank (below (arr.dim + 1)) f.rank f (members_below f.rank (arr.dim + 1) (high f.rank _ arr.dim h.1 (flat-rank_dim f.set h.0)))
        (Contains-map (ranked f.rank) (flats_of_rank ring numbers arr f.rank) f.set ((flats_of_rank-complete f.rank f.set).1 (h.0, sym h.1))),
  )
    where
      high : (a r d : ℕ) → a ≡ r → r ≤ d → a < d + 1
      high a r d e l = omega arith

  abbrev IsRankedBefore : Flat → Flat → Type 0
  IsRankedBefore f g = cmp_ranked f g ≡ Less

  with_rank-rise : (r : ℕ) (fs : List Set) → Ordered IsListedBefore fs → Ordered IsRankedBefore (map (ranked r) fs)
  with_rank-rise r [] p = tt
  with_rank-rise r (f ∷ fs) p = (
    (λ q c.
        let m = map-Contains (ranked r) fs q c in
        subst (IsRankedBefore (ranked r f)) m.2 (ap (λ o. ordering_then o (cmp_listed f m.0)) (nat_same r r refl) ∙ p.0 m.0 m.1)),
    with_rank-rise r fs p.1,
  )

  ranks-rise : (a k : ℕ) → Ordered IsRankedBefore (flat_map with_rank (range_with_len a k))
  ranks-rise a zero = tt
  ranks-rise a (suc k) =
      Ordered-append IsRankedBefore (with_rank a) _ (with_rank-rise a (flats_of_rank ring numbers arr a) (flats_of_rank-rise a)) (ranks-rise (a + 1) k)
      (λ p q c d.
      let m = map-Contains (ranked a) (flats_of_rank ring numbers arr a) p c in
      let e = flat_map-Contains with_rank (range_with_len (a + 1) k) q d in
      let w = map-Contains (ranked e.0) (flats_of_rank ring numbers arr e.0) q e.2 in
      subst (λ z. IsRankedBefore z q) m.2 (subst (IsRankedBefore (ranked a m.0)) w.2 (ap (λ o. ordering_then o (cmp_listed m.0 w.0)) (nat_less a e.0 (above e.0 (range_members e.0 (a + 1) k e.1))))))
    where
      above : (r : ℕ) → (a + 1 ≤ r) × (r < (a + 1) + k) → a < r
      above r h = omega arith

  flats-order : Ordered IsRankedBefore (flats ring numbers arr)
  unfolding flats
  flats-order = ranks-rise 0 (arr.dim + 1)

  -- It strictly rises.
  pub flats-rise : IsStrictlySortedBy cmp_ranked (flats ring numbers arr)
  flats-rise = sorted_of cmp_ranked (flats ring numbers arr) flats-order

  -- No member stands twice.
  pub flats-distinct : Ordered (λ f g. f ≢ g) (flats ring numbers arr)
  flats-distinct = Ordered-weaker IsRankedBefore (λ f g. f ≢ g) (flats ring numbers arr) (λ f g c d less. ranked-differ f g less) flats-order

  -- So it is the one list that strictly rises and has exactly the flats with their ranks.
  pub flats-unique : (fs : List Flat) → IsStrictlySortedBy cmp_ranked fs → ((f : Flat) → Contains fs f ↔ (IsFlat ring numbers arr f.set × (f.rank ≡ rank ring numbers arr f.set))) → fs ≡ flats ring numbers arr
  flats-unique fs p h = sorted-ext cmp_ranked cmp_ranked_total fs (flats ring numbers arr) p flats-rise (λ f. ((λ c. (flats-complete f).1 ((h f).0 c)), λ c. (h f).1 ((flats-complete f).0 c)))

  -- ---- the rank of the arrangement

  -- some flat has the greatest rank
  top-flat : (f : Set) × IsFlat ring numbers arr f × (suc (rank ring numbers arr f) ≡ (cone_matroid A).rank (one_to (cone_matroid A).size))
  top-flat =
      let M = affine_matroid A in
      let g = infinity.greatest-central (cone_matroid A) (n A) (cone-count A) in
      let s = g.0 in
      let f = M.closure s in
      let is = central-flat A f (record {
        set = set-from_rises (n A) f (M.laws.closure_rises s) (M.laws.closure_within s);
        pointed = central-closure M (central A) (central-laws A) s g.1 ∙ g.2;
        closed = closure_closure M s;
      }) in
      (f, is, ap suc (rank-matroid A f (set-indices arr f (flat-set A f is)) (flat-has_point A f is) ∙ M.laws.rank_closure s g.1) ∙ g.3)

  -- The rank of the arrangement is that of the linear parts of all its rows.
  pub total-rank : total_rank ring numbers arr ≡ rank ring numbers (linear_part ring arr) (indices (linear_part ring arr))
  unfolding total_rank
  total-rank =
      let t = top-flat in
      let r = rank ring numbers arr t.0 in
      let top : Flat = record { rank = r; set = t.0 } in
      greatest-is (map (λ (f : Flat). f.rank) (flats ring numbers arr)) r
      (Contains-map (λ (f : Flat). f.rank) (flats ring numbers arr) top ((flats-complete top).1 (t.1, refl)))
      (λ x c. let w = map-Contains (λ (f : Flat). f.rank) (flats ring numbers arr) x c in let h = (flats-complete w.0).0 w.1 in
      low x w.0.rank _ _ r w.2 h.1 (below-top w.0.set h.0) t.2)
      ∙ sym (linear-total A r t.2)
    where
      low : (x k m w r : ℕ) → k ≡ x → k ≡ m → suc m ≤ w → suc r ≡ w → x ≤ r
      low x k m w r e f l g = omega (arith, e, f, l, g)

  -- no flat has a greater rank
  pub flat-rank_total : (f : Set) → IsFlat ring numbers arr f → rank ring numbers arr f ≤ total_rank ring numbers arr
  flat-rank_total f is = let b = below-top f is in let t = top-flat in let e = linear-total A (rank ring numbers arr t.0) t.2 in let u = total-rank in low _ _ _ _ _ b t.2 e u
    where
      low : (m w r k v : ℕ) → suc m ≤ w → suc r ≡ w → k ≡ r → v ≡ k → m ≤ v
      low m w r k v b e f g = omega (arith, b, e, f, g)

  -- so it is at most the dimension
  pub total-rank_dim : total_rank ring numbers arr ≤ arr.dim
  unfolding total_rank
  total-rank_dim = greatest-low arr.dim (map (λ (f : Flat). f.rank) (flats ring numbers arr)) (λ x c.
      let w = map-Contains (λ (f : Flat). f.rank) (flats ring numbers arr) x c in
      let h = (flats-complete w.0).0 w.1 in
      low x w.0.rank _ arr.dim w.2 h.1 (flat-rank_dim w.0.set h.0))
    where
      low : (x k m d : ℕ) → k ≡ x → k ≡ m → m ≤ d → x ≤ d
      low x k m d e f l = omega (arith, e, f, l)
