-- The vectors of a list that those before them do not generate: they are determined, and generate the whole list.
use Rattle.std.specs.Prelude.{◌≡◌, ℕ, zero, suc, ◌<◌, List, [], ◌∷◌, ◌++◌, length, take, All, slice_index_or}
use Rattle.std.proofs.lemmas.List.{append_assoc, get_or_append_left, length-append}
use Rattle.std.proofs.lemmas.List.Elements.{All-nil, All-cons, All-head, All-tail, All-append, All-weaker}
use Rattle.std.proofs.Math.Seq.{get_or-append_seam}
use Rattle.std.proofs.Common.{append-nil as append_nil}
use mathlib.Core.Logic.{inl, inr}
use mathlib.Core.Path.{sym, ap, ◌∙◌, subst}
use native.Mathlib.Omega.{arith}
use Rattle.hp_algebra.specs.Ring.{RingOf, IsRing, IsCommutative}
use Rattle.hp_module.specs.Vectors.{Vector, IsVector, IsGenerated, IsKept, IsKeptAfter}
use Rattle.hp_module.proofs.Symbols.{generated-chain, generated-member}

module _ {F : Type 0} {ring : RingOf F} (laws : IsRing ring) (commutes : IsCommutative ring) (width : ℕ) where
  abbrev Are : List (Vector F) → Type 0
  Are vs = All (IsVector ring width) vs

  abbrev Gen : List (Vector F) → Vector F → Type 0
  Gen vs v = IsGenerated ring width vs v

  -- ---- more generators

  -- what a list generates, a longer one does
  pub generated-more : (vs ws : List (Vector F)) → All (IsVector ring width) vs → All (IsVector ring width) ws
      → (v : Vector F) → IsGenerated ring width vs v → IsGenerated ring width (vs ++ ws) v
  generated-more vs ws hv hw v g =
      let both = All-append (IsVector ring width) vs ws hv hw in
      generated-chain laws commutes width (vs ++ ws) vs both hv (λ i l.
      subst (Gen (vs ++ ws)) (get_or_append_left vs ws [] i l)
      (generated-member laws commutes width (vs ++ ws) both i (omega (arith, l, length-append vs ws)))) v g

  -- the last of a list
  pub generated-last : (vs : List (Vector F)) (v : Vector F) → All (IsVector ring width) vs → IsVector ring width v
      → IsGenerated ring width (vs ++ v ∷ []) v
  generated-last vs v hv h =
      let both = All-append (IsVector ring width) vs (v ∷ []) hv (All-cons (IsVector ring width) v [] h (All-nil (IsVector ring width))) in
      subst (Gen (vs ++ v ∷ [])) (get_or-append_seam vs v [] [])
      (generated-member laws commutes width (vs ++ v ∷ []) both (length vs) (omega (arith, length-append vs (v ∷ []))))

  -- what generated vectors generate
  pub generated-by_all : (us vs : List (Vector F)) → All (IsVector ring width) us → All (IsVector ring width) vs
      → All (IsGenerated ring width vs) us → (v : Vector F) → IsGenerated ring width us v → IsGenerated ring width vs v
  generated-by_all us vs hu hv g v h = generated-chain laws commutes width vs us hv hu (λ i l. g i [] l) v h

  -- ---- the kept vectors

  -- there is one list of kept vectors
  pub kept-after_unique : (before vs kept other : List (Vector F)) → IsKeptAfter ring width before vs kept
      → IsKeptAfter ring width before vs other → kept ≡ other
  kept-after_unique before [] kept other p q = p ∙ sym q
  kept-after_unique before (v ∷ vs) kept other (inl p) (inl q) = kept-after_unique (before ++ v ∷ []) vs kept other p.1 q.1
  kept-after_unique before (v ∷ vs) kept other (inl p) (inr q) = absurd (q.0 p.0)
  kept-after_unique before (v ∷ vs) kept other (inr p) (inl q) = absurd (p.0 q.0)
  kept-after_unique before (v ∷ vs) kept other (inr p) (inr q) =
      p.1.1 ∙ ap (λ xs. v ∷ xs) (kept-after_unique (before ++ v ∷ []) vs p.1.0 q.1.0 p.1.2 q.1.2) ∙ sym q.1.1

  pub kept-unique : (vs kept other : List (Vector F)) → IsKept ring width vs kept → IsKept ring width vs other
      → kept ≡ other
  kept-unique vs kept other p q = kept-after_unique [] vs kept other p q

  -- what holds of the list holds of the kept vectors
  pub kept-all : (P : Vector F → Type 0) (before vs kept : List (Vector F)) → All P vs
      → IsKeptAfter ring width before vs kept
      → All P kept
  kept-all P before [] kept h p = subst (All P) (sym p) (All-nil P)
  kept-all P before (v ∷ vs) kept h (inl p) = kept-all P (before ++ v ∷ []) vs kept (All-tail P v vs h) p.1
  kept-all P before (v ∷ vs) kept h (inr p) =
      subst (All P) (sym p.1.1) (All-cons P v p.1.0 (All-head P v vs h) (kept-all P (before ++ v ∷ []) vs p.1.0 (All-tail P v vs h) p.1.2))

  -- with a list that generates what stands before, the kept vectors generate the rest
  kept-generate_after : (before vs kept base : List (Vector F)) → Are before → Are vs → Are base → All (Gen base) before
      → IsKeptAfter ring width before vs kept → All (Gen (base ++ kept)) vs
  kept-generate_after before [] kept base hb hv hk g p = All-nil (Gen (base ++ kept))
  kept-generate_after before (v ∷ vs) kept base hb hv hk g (inl p) =
      let h = All-head (IsVector ring width) v vs hv in
      let hs = All-tail (IsVector ring width) v vs hv in
      let one : Are (v ∷ []) = All-cons (IsVector ring width) v [] h (All-nil (IsVector ring width)) in
      let gv = generated-by_all before base hb hk g v p.0 in
      let kv = kept-all (IsVector ring width) (before ++ v ∷ []) vs kept hs p.1 in
      let rest = kept-generate_after (before ++ v ∷ []) vs kept base (All-append (IsVector ring width) before (v ∷ []) hb one) hs hk
      (All-append (Gen base) before (v ∷ []) g (All-cons (Gen base) v [] gv (All-nil (Gen base)))) p.1 in
      All-cons (Gen (base ++ kept)) v vs (generated-more base kept hk kv v gv) rest
  kept-generate_after before (v ∷ vs) kept base hb hv hk g (inr p) =
      let h = All-head (IsVector ring width) v vs hv in
      let hs = All-tail (IsVector ring width) v vs hv in
      let one : Are (v ∷ []) = All-cons (IsVector ring width) v [] h (All-nil (IsVector ring width)) in
      let tail = p.1.0 in
      let base' = base ++ v ∷ [] in
      let hk' = All-append (IsVector ring width) base (v ∷ []) hk one in
      let kv = kept-all (IsVector ring width) (before ++ v ∷ []) vs tail hs p.1.2 in
      let gv = generated-last base v hk h in
      let g' = All-append (Gen base') before (v ∷ [])
      (All-weaker (Gen base) (Gen base') (λ u x. generated-more base (v ∷ []) hk one u x) before g) (All-cons (Gen base') v [] gv (All-nil (Gen base'))) in
      let rest = kept-generate_after (before ++ v ∷ []) vs tail base' (All-append (IsVector ring width) before (v ∷ []) hb one) hs hk' g' p.1.2 in
      let same : base' ++ tail ≡ base ++ kept = append_assoc base (v ∷ []) tail ∙ ap (λ xs. base ++ xs) (sym p.1.1) in
      subst (λ zs. All (Gen zs) (v ∷ vs)) same (All-cons (Gen (base' ++ tail)) v vs (generated-more base' tail hk' kv v gv) rest)

  -- The kept vectors generate what the list generates.
  pub kept-generates : (vs kept : List (Vector F)) → All (IsVector ring width) vs → IsKept ring width vs kept
      → All (IsGenerated ring width kept) vs
  kept-generates vs kept h p =
      kept-generate_after [] vs kept [] (All-nil (IsVector ring width)) h (All-nil (IsVector ring width)) (All-nil (Gen [])) p

  -- none is generated by a list that what stands before it generates, and the kept ones before it
  kept-new_after : (before vs kept base : List (Vector F)) → Are before → Are vs → Are base → All (Gen before) base
      → IsKeptAfter ring width before vs kept → (k : ℕ) → k < length kept
      → ¬ (Gen (base ++ take k kept) (slice_index_or kept k []))
  kept-new_after before [] kept base hb hv hk g p k l q = absurd (omega (arith, l, ap length p))
  kept-new_after before (v ∷ vs) kept base hb hv hk g (inl p) k l q =
      let h = All-head (IsVector ring width) v vs hv in
      let hs = All-tail (IsVector ring width) v vs hv in
      let one : Are (v ∷ []) = All-cons (IsVector ring width) v [] h (All-nil (IsVector ring width)) in
      let before' = before ++ v ∷ [] in
      let g' = All-weaker (Gen before) (Gen before') (λ u x. generated-more before (v ∷ []) hb one u x) base g in
      kept-new_after before' vs kept base (All-append (IsVector ring width) before (v ∷ []) hb one) hs hk g' p.1 k l q
  kept-new_after before (v ∷ vs) kept base hb hv hk g (inr p) k l q =
      let h = All-head (IsVector ring width) v vs hv in
      let hs = All-tail (IsVector ring width) v vs hv in
      let one : Are (v ∷ []) = All-cons (IsVector ring width) v [] h (All-nil (IsVector ring width)) in
      let tail = p.1.0 in
      let before' = before ++ v ∷ [] in
      let base' = base ++ v ∷ [] in
      let hb' = All-append (IsVector ring width) before (v ∷ []) hb one in
      let hk' = All-append (IsVector ring width) base (v ∷ []) hk one in
      let g' = All-append (Gen before') base (v ∷ [])
      (All-weaker (Gen before) (Gen before') (λ u x. generated-more before (v ∷ []) hb one u x) base g)
      (All-cons (Gen before') v [] (generated-last before v hb h) (All-nil (Gen before'))) in
      at k l (subst (λ ks. Gen (base ++ take k ks) (slice_index_or ks k [])) p.1.1 q) p.1.1
      (λ x. p.0 (generated-by_all base before hk hb g v x))
      (λ j m x. kept-new_after before' vs tail base' hb' hs hk' g' p.1.2 j m x)
    where
      at : (k : ℕ) → k < length kept → Gen (base ++ take k (v ∷ p.1.0)) (slice_index_or (v ∷ p.1.0) k [])
          → kept ≡ v ∷ p.1.0 → ¬ (Gen base v)
          → ((j : ℕ) → j < length p.1.0 → ¬ (Gen ((base ++ v ∷ []) ++ take j p.1.0) (slice_index_or p.1.0 j []))) → ⊥
      at zero l x e f r = f (subst (λ zs. Gen zs v) (append_nil base) x)
      at (suc j) l x e f r =
          r j (omega (arith, l, ap length e)) (subst (λ zs. Gen zs (slice_index_or p.1.0 j [])) (sym (append_assoc base (v ∷ []) (take j p.1.0))) x)

  -- No kept vector is generated by the kept ones before it.
  pub kept-new : (vs kept : List (Vector F)) → All (IsVector ring width) vs → IsKept ring width vs kept → (k : ℕ)
      → k < length kept → ¬ (IsGenerated ring width (take k kept) (slice_index_or kept k []))
  kept-new vs kept h p k l q =
      kept-new_after [] vs kept [] (All-nil (IsVector ring width)) h (All-nil (IsVector ring width)) (All-nil (Gen [])) p k l q
