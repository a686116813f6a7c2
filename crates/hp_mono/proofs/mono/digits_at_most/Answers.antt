use Rattle.std.proofs.lemmas.Bool.{eqb-true, eq-eqb}
use Rattle.hp_mono.proofs.Borrows.{no_borrow-at_most, at_most-no_borrow}
use Rattle.hp_mono.proofs.mono.digits_at_most.Goals as goal

pub returns : goal.returns
returns c =
    let a = c.args.a in
    let b = c.args.b in (
      λ t. no_borrow-at_most a b c.requires.left c.requires.right (eqb-true _ 0 t),
      λ h. eq-eqb _ 0 (at_most-no_borrow a b c.requires.left c.requires.right h),
    )
