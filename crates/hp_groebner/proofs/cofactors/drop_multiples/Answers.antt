use Rattle.std.proofs.Common.{ℕ, not, rules}
use Rattle.std.proofs.lemmas.Fn.{filter_same}
use Rattle.hp_mono.specs.Monomials.{Monomial}
use Rattle.hp_groebner.specs.KeptCofactors.{divides}
use Rattle.hp_groebner.proofs.cofactors.drop_multiples.Goals as goal

pub returns : goal.returns
returns c =
    filter_same _ (λ (x : Monomial × ℕ). not (divides c.args.q.now x.0)) _ (λ x b f' k. search rules) _ _
    c.retain.ensures.filtered
