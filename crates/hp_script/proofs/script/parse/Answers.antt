use Rattle.hp_script.proofs.OneReading.{one_reading}
use Rattle.hp_script.proofs.script.parse.Goals as goal

pub returns-clause-one_reading : goal.returns-clause-one_reading
returns-clause-one_reading c = one_reading c.args.bytes.now
