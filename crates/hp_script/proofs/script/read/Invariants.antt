use Rattle.std.proofs.Common.{◌≡◌, map}
use Rattle.hp_script.proofs.Parsing.{Parsing}
use Rattle.hp_script.proofs.script.read.Given as goal

abbrev pub invariant-line : goal.invariant-line
invariant-line l = record { parsing : Parsing l.bytes (map (λ x. x.now) l.text-items) l.number l.found.items; counted : l.number ≡ l.text-index }
