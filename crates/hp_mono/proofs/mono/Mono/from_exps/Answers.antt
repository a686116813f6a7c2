use Rattle.std.proofs.Common.{◌≡◌, length, rules}
use Rattle.hp_mono.proofs.DigitWords.{exponents-made}
use Rattle.hp_mono.proofs.mono.Mono.from_exps.Goals as goal

pub returns-clause-value : goal.returns-clause-value
returns-clause-value c =
    let size : length c.args.e ≡ 10 = search rules in
    exponents-made c.args.e size c.requires c.word-low.result c.word-high.result c.word-low.ensures c.word-high.ensures
