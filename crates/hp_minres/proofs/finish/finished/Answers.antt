use Rattle.std.proofs.Common.{take, sym, subst}
use Rattle.hp_resolution.specs.Resolutions.{IsMinimalResolution}
use Rattle.hp_minres.specs.Reductions.{AreFull, AreMatricesOf}
use Rattle.hp_minres.proofs.FinishedResolutions.{finished_minimal}
use Rattle.hp_minres.proofs.ReduceLoops.{cut-of, cut-widths, full-some}
use Rattle.hp_minres.proofs.finish.finished.Goals as goal

pub matrices-requires : goal.matrices-requires
matrices-requires g c =
    let ms = c.args.maps.items in
    let n = c.full_maps-many.result in
    let full : AreFull ms n = subst (λ xs. AreFull xs n) c.deref.ensures.value c.full_maps-many.ensures in
    cut-widths g.F.Ring.ring c.args.width n ms c.args.degrees.items c.truncate.new.self.items c.requires.reduced.1.complex full.within c.truncate.ensures.items

pub new-requires-2 : goal.new-requires-2
new-requires-2 g c =
    let ms = c.args.maps.items in
    let ds = c.args.degrees.items in
    let width = c.args.width in
    let n = c.full_maps-many.result in
    let mats = c.in_ok-mats.mats.items in
    let kept = c.truncate-2.new.self.items in
    let full : AreFull ms n = subst (λ xs. AreFull xs n) c.deref.ensures.value c.full_maps-many.ensures in
    let are : AreMatricesOf width (take n ms) mats = subst (λ xs. AreMatricesOf width xs mats) c.truncate.ensures.items c.in_ok-mats.ensures in
    let cut = cut-of width n ms ds mats kept full are c.truncate-2.ensures.items in
    subst (λ m. IsMinimalResolution g.F.Ring.ring (record { maps = m; degrees = kept })) (sym c.new.ensures.value)
    (finished_minimal g.met.F.Field.field_laws width c.requires.reduced.0 ms ds c.requires.reduced.1 n mats kept cut (full-some ms n full c.requires.some_row))
