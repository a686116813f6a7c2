use Rattle.std.proofs.Common.{All, ◌≡◌, ◌≤◌, ◌<◌, ◌+◌, ◌∙◌, [], get_or, length, remove, sym, subst}
use Rattle.hp_poly.specs.Polynomials.{poly_degree}
use Rattle.hp_mono.specs.Monomials.{max_degree}
use Rattle.hp_minres.specs.Reductions.{pivot_row, rows_at}
use Rattle.hp_minres.proofs.EliminatedRows.{cancelled_chain, columns_in, map_in, pivot_lengths, products_low, second_map}
use Rattle.hp_minres.proofs.cancel.cancel.Goals as goal

pub eliminated-requires-clause-columns : goal.eliminated-requires-clause-columns
eliminated-requires-clause-columns g c =
    let field = g.met.F.Field.field_laws in
    let q = c.requires in
    let x = q.complex.1 in
    let here = c.replace-rows.ensures.value ∙ second_map c.args.maps.now.items c.args.h c.cut_row.new.maps.items
    (remove (rows_at c.args.maps.now.items c.args.h) c.args.c) c.index_mut.result.now c.cut_row.ensures c.index_mut.ensures.value
    (map_in field x c.args.h c.args.r c.args.c q.row q.column q.degree q.entry) in
    subst (λ R. All (λ row. c.args.c < length row) R) (sym here) (columns_in field x c.args.h c.args.r c.args.c q.row q.column q.degree q.entry)

pub eliminated-requires-clause-lengths : goal.eliminated-requires-clause-lengths
eliminated-requires-clause-lengths g c =
    let field = g.met.F.Field.field_laws in
    let q = c.requires in
    let x = q.complex.1 in
    let here = c.replace-rows.ensures.value ∙ second_map c.args.maps.now.items c.args.h c.cut_row.new.maps.items
    (remove (rows_at c.args.maps.now.items c.args.h) c.args.c) c.index_mut.result.now c.cut_row.ensures c.index_mut.ensures.value
    (map_in field x c.args.h c.args.r c.args.c q.row q.column q.degree q.entry) in
    subst (λ R. All (λ row. length (pivot_row g.F.Ring.ring g.F.Field.inverse (get_or R c.args.r []) c.args.c) + 1 ≡ length row) R) (sym here)
    (pivot_lengths field x c.args.h c.args.r c.args.c q.row q.column q.degree q.entry)

pub eliminated-requires-clause-degrees : goal.eliminated-requires-clause-degrees
eliminated-requires-clause-degrees g c =
    let field = g.met.F.Field.field_laws in
    let q = c.requires in
    let x = q.complex.1 in
    let here = c.replace-rows.ensures.value ∙ second_map c.args.maps.now.items c.args.h c.cut_row.new.maps.items
    (remove (rows_at c.args.maps.now.items c.args.h) c.args.c) c.index_mut.result.now c.cut_row.ensures c.index_mut.ensures.value
    (map_in field x c.args.h c.args.r c.args.c q.row q.column q.degree q.entry) in
    subst (λ R. All (λ row. All (λ z. poly_degree g.F.Ring.ring (get_or row c.args.c []) + poly_degree g.F.Ring.ring z ≤ max_degree)
    (pivot_row g.F.Ring.ring g.F.Field.inverse (get_or R c.args.r []) c.args.c)) R) (sym here)
    (products_low field x c.args.h c.args.r c.args.c q.row q.column q.degree q.entry)

pub returns-clause-maps : goal.returns-clause-maps
returns-clause-maps g c =
    let field = g.met.F.Field.field_laws in
    let q = c.requires in
    let x = q.complex.1 in
    let here = c.replace-rows.ensures.value ∙ second_map c.args.maps.now.items c.args.h c.cut_row.new.maps.items
    (remove (rows_at c.args.maps.now.items c.args.h) c.args.c) c.index_mut.result.now c.cut_row.ensures c.index_mut.ensures.value
    (map_in field x c.args.h c.args.r c.args.c q.row q.column q.degree q.entry) in
    cancelled_chain field c.args.maps.now.items c.args.h c.args.r c.args.c c.cut_row.new.maps.items c.replace-rows.new.dest c.in_ok-maps.field-0
    c.replace-rows.result c.cut_column.new.maps.items c.cut_row.ensures c.in_ok-maps.ensures here c.in_ok-cut_column.ensures
