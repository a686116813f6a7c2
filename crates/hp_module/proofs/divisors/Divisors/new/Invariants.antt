use Rattle.std.proofs.Common.{◌≡◌, ◌<◌, ℕ, List, [], get_or, length}
use Rattle.hp_mono.specs.Monomials.{Monomial}
use Rattle.hp_module.proofs.divisors.Divisors.new.Given as goal

abbrev pub invariant-loop : goal.invariant-loop
invariant-loop g l =
    let listed = l.listed.items in record {
      long : length listed ≡ l.counter;
      each : (j : ℕ) (d : List (Monomial × ℕ)) → j < l.counter → get_or listed j d ≡ [];
    }
