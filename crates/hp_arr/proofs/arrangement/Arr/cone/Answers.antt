use Rattle.std.proofs.Common.{◌≡◌, ◌+◌, List, map, length}
use Rattle.std.proofs.lemmas.List.Elements.{All-map, All-push}
use Rattle.std.proofs.lemmas.List.FromFn.{length-map-range_with_len}
use Rattle.hp_algebra.specs.Rows.{unit_row}
use Rattle.hp_arr.proofs.arrangement.Arr.cone.Goals as goal

pub of_lists-requires-clause-widths : goal.of_lists-requires-clause-widths
of_lists-requires-clause-widths g c =
    let rows = c.args.rows.items in
    let l = c.args.l in
    let Wide : List g.row.K.Denot → Type 0 = λ form. length form ≡ l + 1 in
    let last : Wide (unit_row g.K.Ring.ring (l + 1) (l + 1)) = length-map-range_with_len _ 1 (l + 1) in
    rw c.in_ok-cone_forms.ensures (All-push Wide (map (λ row. row.items) rows) (unit_row g.K.Ring.ring (l + 1) (l + 1)) (All-map Wide (λ row. row.items) rows c.requires.widths) last)
