use Rattle.std.proofs.Common.{◌≡◌, ◌<◌, ◌^◌, take}
use Rattle.hp_script.specs.Tokens.{number_of}
use Rattle.hp_script.proofs.digits.number_of.Given as goal

abbrev pub invariant-digit : goal.invariant-digit
invariant-digit l = record { value : l.n ≡ number_of (take l.b-index l.digits); short : l.n < 10 ^ l.b-index }
