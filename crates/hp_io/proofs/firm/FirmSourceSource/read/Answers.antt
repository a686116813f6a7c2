use Rattle.std.proofs.Common.{◌≡◌, ◌-◌, length, min, arith}
use Rattle.hp_io.proofs.Kept.{kept_read}
use Rattle.hp_io.proofs.firm.FirmSourceSource.read.Goals as goal

pub returns-clause-bytes : goal.returns-clause-bytes
returns-clause-bytes c =
    let kept = c.self.inside.bytes.items in
    let len : c.len.result ≡ length kept = omega (arith, c.len.ensures, c.self.inside.bytes.ok.0) in
    let count : c.min-count.result ≡ min (length kept - c.self.inside.at) (length c.args.buf.now) = rw len at c.min-count.ensures in
    let copied = rw c.deref.ensures.value at c.copy_from_slice.ensures.after in
    rw (← c.self.view_is) (kept_read kept c.copy_from_slice.new.self _ c.self.inside.at c.min-count.result (length c.args.buf.now) c.self.invariant c.requires count copied)
