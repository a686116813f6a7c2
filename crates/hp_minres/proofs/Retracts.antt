-- Exactness passes to retracts.
use Rattle.std.specs.Prelude.{◌≡◌, ℕ}
use mathlib.Core.Path.{refl, sym, ap, ◌∙◌}
use Rattle.hp_algebra.specs.Ring.{RingOf, IsRing}
use Rattle.hp_minres.specs.Grids.{zeros, combine, IsRowOf, IsGrid, IsExactAt}
use Rattle.hp_minres.proofs.GridRows.{combine_row}

module _ {R : Type 0} (ring : RingOf R) where
  -- The rows of length n' are a retract of those of length n.
  pub record Retract (n n' : ℕ) : Type 0 where
    pub to : (ℕ → R) → ℕ → R
    pub from : (ℕ → R) → ℕ → R
    pub to_row : (c : ℕ → R) → IsRowOf ring n c → IsRowOf ring n' (to c)
    pub from_row : (c : ℕ → R) → IsRowOf ring n' c → IsRowOf ring n (from c)
    pub to_zeros : to (zeros ring) ≡ zeros ring
    pub from_zeros : from (zeros ring) ≡ zeros ring
    pub to_from : (c : ℕ → R) → IsRowOf ring n' c → to (from c) ≡ c

  abbrev pub unchanged : (n : ℕ) → Retract n n
  unchanged n = record { to = λ c. c; from = λ c. c; to_row = λ c h. h; from_row = λ c h. h; to_zeros = refl; from_zeros = refl; to_from = λ c h. refl }

  -- The retracts of the rows and of the columns go with the matrices.
  pub record IsSquare (n n' m m' : ℕ) (above : Retract n n') (below : Retract m m') (A A' : ℕ → ℕ → R) : Type 0 where
    pub to : (c : ℕ → R) → IsRowOf ring n c → combine ring n' (above.to c) A' ≡ below.to (combine ring n c A)
    pub from : (c : ℕ → R) → IsRowOf ring n' c → combine ring n (above.from c) A ≡ below.from (combine ring n' c A')

module _ {R : Type 0} {ring : RingOf R} (laws : IsRing ring) where
  pub retract_exact : (n n' m m' q q' : ℕ) (top : Retract ring q q') (middle : Retract ring n n') (bottom : Retract ring m m') (A A' N N' : ℕ → ℕ → R) → IsGrid ring m' A' → IsGrid ring n' N'
      → IsSquare ring n n' m m' middle bottom A A' → IsSquare ring q q' n n' top middle N N' → IsExactAt ring n A q N → IsExactAt ring n' A' q' N'
  retract_exact n n' m m' q q' top middle bottom A A' N N' ga gn lower upper e = record {
    in_image = λ c h z.
        let d = e.in_image (middle.from c) (middle.from_row c h) (lower.from c h ∙ ap bottom.from z ∙ bottom.from_zeros) in
        (top.to d.0, top.to_row d.0 d.1, sym (middle.to_from c h) ∙ ap middle.to d.2 ∙ sym (upper.to d.0 d.1));
    of_image = λ d h.
        let c = combine ring q' d N' in
        let hc = combine_row laws q' n' d N' h.value gn in
        let w = combine ring n' c A' in
        sym (bottom.to_from w (combine_row laws n' m' c A' hc.value ga))
        ∙ ap bottom.to (sym (lower.from c hc) ∙ ap (λ u. combine ring n u A) (sym (upper.from d h)) ∙ e.of_image (top.from d) (top.from_row d h))
        ∙ bottom.to_zeros;
  }
