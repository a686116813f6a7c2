use Rattle.hp_arr.specs.Arrangement.{max_forms}
use Rattle.std.proofs.Common.{◌≡◌, ◌↔◌, ◌+◌, ◌≤◌, ℕ, true, sym, subst, arith}
use Rattle.hp_sets.specs.Sets.{IsSetWithin}
use Rattle.hp_sets.proofs.SetLaws.{set-wider}
use Rattle.hp_flats.specs.Levels.{IsParallelFrom}
use Rattle.hp_sets.proofs.ClassSteps.{TakesUp, takes-none, takes-step, takes-all, takes-set}
use Rattle.hp_flats.proofs.values.with_parallel.Goals as goal

pub loop-k-init : goal.loop-k-init
loop-k-init g c =
    let P : ℕ → Type 0 = λ m. IsParallelFrom g.K.Ring.ring c.args.rows.now c.args.covered c.args.q c.args.i c.args.from c.args.to m in
    record { set = c.requires.set; members = takes-none c.args.set P c.args.from (λ m p l. omega (arith, p.0, l)) }

pub loop-k-preserved : goal.loop-k-preserved
loop-k-preserved g c =
    let n = c.args.to in
    let k = c.loop-k.k in
    let found = c.loop-k.found in
    let P : ℕ → Type 0 = λ m. IsParallelFrom g.K.Ring.ring c.args.rows.now c.args.covered c.args.q c.args.i c.args.from n m in
    let low : 1 ≤ k = omega (arith, c.requires.from, c.loop-k.auto.k) in
    let high : k ≤ n = omega (arith, c.loop-k-test.true) in
    let few : n ≤ max_forms = c.requires.to in
    let word = set-wider n 64 found (omega (arith, few)) c.loop-k.invariant.set in
    let h : (c.is_of_class.result ≡ true) ↔ P k =
    ((λ t. let w = c.is_of_class.ensures.0 t in (c.loop-k.auto.k, high, w.0, w.1)), λ p. c.is_of_class.ensures.1 (p.2, p.3)) in
    record {
      set = subst (IsSetWithin n) (sym c.with_if-found.ensures) (takes-set n k found c.is_of_class.result c.loop-k.invariant.set high);
      members = subst (TakesUp c.args.set P (k + 1)) (sym c.with_if-found.ensures)
          (takes-step c.args.set P k found word low (omega (arith, high, few)) c.loop-k.invariant.members c.is_of_class.result h);
    }

pub returns-clause-set : goal.returns-clause-set
returns-clause-set g c = c.loop-k.invariant.set

pub returns-clause-members : goal.returns-clause-members
returns-clause-members g c =
    let n = c.args.to in
    let P : ℕ → Type 0 = λ m. IsParallelFrom g.K.Ring.ring c.args.rows.now c.args.covered c.args.q c.args.i c.args.from n m in
    takes-all c.args.set P c.loop-k.k c.loop-k.found (λ m p. let h : m ≤ n = p.1 in omega (arith, h, c.loop-k-test.false)) c.loop-k.invariant.members
