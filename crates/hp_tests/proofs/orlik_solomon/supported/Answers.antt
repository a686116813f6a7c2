use Rattle.hp_tests.proofs.orlik_solomon.supported.Goals as goal

pub returns-then-is_supported : goal.returns-then-is_supported
returns-then-is_supported g c = c.is_supported.ensures.0 c.if-is_supported.true
