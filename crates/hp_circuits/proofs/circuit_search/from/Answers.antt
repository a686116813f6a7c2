use Rattle.std.proofs.lemmas.List.{take_rest}
use Rattle.hp_circuits.proofs.circuit_search.from.Goals as goal

pub returns : goal.returns
returns g c = take_rest c.args.later.now c.args.k
