use Rattle.std.specs.Prelude.{◌≡◌, ◌*ℤ◌, map}
use Rattle.hp_algebra.specs.Integers.{sign}
use Rattle.hp_lists.specs.Lists.{below}
use Rattle.hp_arr.specs.Moebius.{rank_sum}
use Rattle.hp_mobius.proofs.polynomials.poincare.Given as goal

-- the coefficients so far
abbrev pub invariant-loop-k : goal.invariant-loop-k
invariant-loop-k g l = l.coefficients.items ≡ map (λ k. rank_sum g.K.Ring.ring g.K.FiniteField.numbers l.aff k *ℤ sign k) (below l.k)
