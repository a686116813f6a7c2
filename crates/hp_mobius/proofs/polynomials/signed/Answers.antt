use Rattle.std.specs.Prelude.{◌≡◌, ℤ, pos, neg_ℤ, ◌-ℤ◌}
use Rattle.std.proofs.Common.{w64, to_z, of_z, SFits, rules}
use Rattle.std.proofs.lemmas.Int.{ints, to_z-of_z}
use mathlib.Core.Path.{ap, ◌∙◌}
use native.Mathlib.Omega.{arith}
use Rattle.hp_mobius.proofs.SignedSums.{even-signed, odd-signed}
use Rattle.hp_mobius.proofs.polynomials.signed.Goals as goal

pub returns-then-k-eq0 : goal.returns-then-k-eq0
returns-then-k-eq0 c = to_z-of_z w64 c.args.x c.ranges.x ∙ even-signed c.args.x c.args.k c.if-k-eq0.true

turned : (x : ℤ) → pos 0 -ℤ x ≡ neg_ℤ x
turned x = omega (arith, ints)

pub returns-else-k-eq0 : goal.returns-else-k-eq0
returns-else-k-eq0 c =
    let kept : to_z w64 (of_z w64 c.args.x) ≡ c.args.x = to_z-of_z w64 c.args.x c.ranges.x in
    let small = c.requires.low in
    let great = c.requires.high in
    let fits : SFits w64 (pos 0 -ℤ c.args.x) = search rules in
    ap (λ z. to_z w64 (of_z w64 (pos 0 -ℤ z))) kept ∙ to_z-of_z w64 (pos 0 -ℤ c.args.x) fits ∙ turned c.args.x ∙ odd-signed c.args.x c.args.k c.if-k-eq0.false
