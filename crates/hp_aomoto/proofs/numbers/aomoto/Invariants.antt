use Rattle.std.proofs.Common.{◌≡◌, ◌≤◌, ℕ, length}
use Rattle.hp_arr.specs.Circuits.{nbc_sets_of_size}
use Rattle.hp_aomoto.specs.AomotoCohomology.{AreCohomologyDimensions}
use Rattle.hp_aomoto.specs.ProductMatrices.{IsRankBefore}
use Rattle.hp_aomoto.proofs.numbers.aomoto.Given as goal

-- the dimensions of the degrees below k, and the rank of the matrix of degree k - 1
abbrev pub invariant-loop-k : goal.invariant-loop-k
invariant-loop-k g l =
    let ring = g.K.Ring.ring in
    let numbers = g.K.FiniteField.numbers in
    record {
      sets : l.sets.items ≡ nbc_sets_of_size ring numbers l.arr l.k;
      before : IsRankBefore ring numbers l.arr l.weights l.k l.before;
      dimensions : AreCohomologyDimensions ring numbers l.arr l.weights l.k l.out.items;
      few : (j : ℕ) → j ≤ l.k → length (nbc_sets_of_size ring numbers l.arr j) ≤ 1000;
    }
