use Rattle.hp_script.proofs.ExactLine.{found, stopped}
use Rattle.hp_script.proofs.commands.spelled.Goals as goal

pub returns : goal.returns
returns c = record { found = found c.read.result c.args.tokens.now c.read.ensures.given; stopped = stopped c.read.result c.args.tokens.now c.read.ensures.given }
