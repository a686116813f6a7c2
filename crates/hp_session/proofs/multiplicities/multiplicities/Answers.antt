use Rattle.std.proofs.Common.{rules, ◌≤◌, All, List, ℕ, sym, subst}
use Rattle.hp_der.specs.DerivationModules.{most_multiplicity}
use Rattle.hp_session.proofs.MultiplicityBounds.{multiplicities-within}
use Rattle.hp_session.proofs.multiplicities.multiplicities.Goals as goal

pub returns-in_ok-taken-in-Some-clause-within : goal.returns-in_ok-taken-in-Some-clause-within
returns-in_ok-taken-in-Some-clause-within g c =
    let P : List ℕ → Type 0 = All (λ n. n ≤ most_multiplicity) in
    subst P (sym c.in_ok-taken-in-Some.ensures) (multiplicities-within c.numbers-numbers.result.now (search rules))
