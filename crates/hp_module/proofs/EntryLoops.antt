-- Rows that a loop writes entry by entry.
use Rattle.std.specs.Prelude.{◌≡◌, ℕ, zero, suc, ◌<◌, ◌≤◌, List, [], ◌∷◌, length}
use Rattle.std.proofs.Common.{get_or}
use Rattle.std.proofs.lemmas.List.{same_lists, get_or-map}
use mathlib.Core.Path.{sym, ◌∙◌, subst}
use native.Mathlib.Omega.{arith}
use Rattle.hp_algebra.specs.Ring.{RingOf, greatest_weight_of}
use Rattle.hp_algebra.specs.Rows.{row_plus, row_scale}
use Rattle.hp_algebra.proofs.Rows.{length-plus, length-scale, get_or-plus}

module _ {R : Type 0} (ring : RingOf R) where
  pub plus_entries : (a b s : List R) → length a ≡ length b → length s ≡ length a
      → ((j : ℕ) (d : R) → j < length a → get_or s j d ≡ ring.add (get_or a j d) (get_or b j d)) → s ≡ row_plus ring a b
  plus_entries a b s e l each =
      same_lists s (row_plus ring a b) (l ∙ sym (length-plus ring a b e)) (λ j d h.
      let i : j < length a = subst (λ n. j < n) l h in
      each j d i ∙ sym (get_or-plus ring a b j d i e))

  pub scale_entries : (c : R) (a s : List R) → length s ≡ length a
      → ((j : ℕ) (d : R) → j < length a → get_or s j d ≡ ring.mul c (get_or a j d)) → s ≡ row_scale ring c a
  scale_entries c a s l each =
      same_lists s (row_scale ring c a) (l ∙ sym (length-scale ring c a)) (λ j d h.
      let i : j < length a = subst (λ n. j < n) l h in
      each j d i ∙ sym (get_or-map (ring.mul c) a j d d i))

  -- no entry has more weight than the row
  pub weight_at : (a : List R) (j : ℕ) (d : R) → j < length a → ring.weight (get_or a j d) ≤ greatest_weight_of ring a
  weight_at [] j d h = absurd (omega arith)
  weight_at (x ∷ a) zero d h = omega arith
  weight_at (x ∷ a) (suc j) d h = omega (arith, weight_at a j d (omega arith))
