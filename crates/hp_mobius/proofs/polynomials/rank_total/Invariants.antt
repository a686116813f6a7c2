use Rattle.std.specs.Prelude.{◌≡◌, ◌==◌, cond, take, pos}
use Rattle.hp_algebra.specs.Integers.{sum_over}
use Rattle.hp_arr.specs.Flats.{flats}
use Rattle.hp_arr.specs.Moebius.{mobius}
use Rattle.hp_mobius.proofs.polynomials.rank_total.Given as goal

-- the sum over the flats so far
abbrev pub invariant-loop-k : goal.invariant-loop-k
invariant-loop-k g l =
    l.total ≡ sum_over (λ f. cond (f.rank == l.rank) (mobius g.K.Ring.ring g.K.FiniteField.numbers l.aff f.set) (pos 0)) (take l.k (flats g.K.Ring.ring g.K.FiniteField.numbers l.aff))
