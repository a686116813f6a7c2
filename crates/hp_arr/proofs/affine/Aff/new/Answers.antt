use Rattle.std.proofs.Common.{◌≡◌, ◌+◌, List, length}
use Rattle.std.proofs.lemmas.List.Elements.{All-map}
use Rattle.hp_arr.proofs.affine.Aff.new.Goals as goal

pub of_lists-requires-clause-widths : goal.of_lists-requires-clause-widths
of_lists-requires-clause-widths g c =
    let Wide : List g.row.K.Denot → Type 0 = λ row. length row ≡ c.args.l + 1 in
    rw c.in_ok-lists_of.ensures (All-map Wide (λ row. row.items) c.args.rows.items c.requires.widths)
