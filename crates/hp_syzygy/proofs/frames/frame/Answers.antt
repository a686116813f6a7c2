use Rattle.std.proofs.Common.{◌≡◌, ◌≤◌, ◌++◌, ◌∷◌, ◌∙◌, [], length, ap, sym, subst, arith}
use Rattle.std.proofs.lemmas.Bool.{eqb-true, eqb-false}
use Rattle.std.proofs.lemmas.List.{length-append}
use Rattle.hp_resolution.specs.Resolutions.{IsFrame}
use Rattle.hp_syzygy.specs.FrameLevels.{level_matrix, member_degrees}
use Rattle.hp_syzygy.proofs.FrameSteps.{IsFrameUpTo, frame-end, frame-first, frame-more, no-length}
use Rattle.hp_syzygy.proofs.frames.frame.Goals as goal

pub loop-init : goal.loop-init
loop-init g c =
    let ring = g.F.Ring.ring in
    let inverse = g.F.Field.inverse in
    let basis = c.args.basis.now in
    let v = c.in_ok-level.level in
    let e = c.in_ok-level.ensures in
    let some : 1 ≤ length v.members = omega (arith, ap length e.members, c.requires.some_member) in
    let first = frame-first v basis.width e.level e.first_width e.width e.left e.degrees some in
    let maps : c.push.new.self.items ≡ level_matrix v ∷ [] =
    c.in_ok-push.ensures.items ∙ (λ k. c.new-maps.ensures.items k ++ c.in_ok-matrix.ensures k ∷ []) in
    let degrees : c.push-2.new.self.items ≡ member_degrees v ∷ [] =
    c.in_ok-push-2.ensures.items ∙ (λ k. c.new-degrees.ensures.items k ++ (c.of.ensures ∙ c.in_ok-degrees_of.ensures) k ∷ []) in
    record {
      frame = subst (λ vs. IsFrameUpTo ring inverse vs basis.width v (record { maps = c.push.new.self.items; degrees = c.push-2.new.self.items })) e.members
          (subst (IsFrameUpTo ring inverse v.members basis.width v) (λ k. record { maps = sym maps k; degrees = sym degrees k }) first);
      passed = ap length maps;
    }

pub new-requires-then-is_empty : goal.new-requires-then-is_empty
new-requires-then-is_empty g c =
    let ring = g.F.Ring.ring in
    let w = c.in_ok-next.next in
    let members = ap (λ v. v.members) c.next.view_is in
    let zero = eqb-true _ 0 (sym c.is_empty.ensures ∙ c.if-is_empty.true) in
    let none : w.members ≡ [] = sym members ∙ no-length c.next.inside.members.items (omega (arith, zero, c.next.inside.members.ok.0)) in
    let same : record { maps = c.loop.maps.items; degrees = c.loop.degrees.items } ≡ record { maps = c.new.result; degrees = c.loop.degrees.items } =
    λ k. record { maps = sym c.new.ensures.value k; degrees = c.loop.degrees.items } in
    subst (IsFrame ring) same (frame-end c.loop.invariant.frame c.in_ok-next.ensures none)

pub matrix-requires-in-loop : goal.matrix-requires-in-loop
matrix-requires-in-loop g c =
    let w = c.in_ok-next.next in
    let members = ap (λ v. v.members) c.next.view_is in
    let some = eqb-false _ 0 (sym c.is_empty.ensures ∙ c.if-is_empty.false) in
    let one : 1 ≤ length w.members = omega (arith, some, c.next.inside.members.ok.0, ap length members) in
    record { level = (c.in_ok-next.ensures.level one).0 }

pub degrees_of-requires-in-loop : goal.degrees_of-requires-in-loop
degrees_of-requires-in-loop g c =
    let w = c.in_ok-next.next in
    let members = ap (λ v. v.members) c.next.view_is in
    let some = eqb-false _ 0 (sym c.is_empty.ensures ∙ c.if-is_empty.false) in
    let one : 1 ≤ length w.members = omega (arith, some, c.next.inside.members.ok.0, ap length members) in
    record { level = (c.in_ok-next.ensures.level one).0 }

pub loop-preserved : goal.loop-preserved
loop-preserved g c =
    let ring = g.F.Ring.ring in
    let inverse = g.F.Field.inverse in
    let basis = c.args.basis.now in
    let w = c.in_ok-next.next in
    let members = ap (λ v. v.members) c.next.view_is in
    let some = eqb-false _ 0 (sym c.is_empty.ensures ∙ c.if-is_empty.false) in
    let one : 1 ≤ length w.members = omega (arith, some, c.next.inside.members.ok.0, ap length members) in
    let more = frame-more c.loop.invariant.frame c.in_ok-next.ensures one in
    let maps : c.push-in-loop.new.self.items ≡ c.loop.maps.items ++ level_matrix w ∷ [] =
    c.in_ok-push-3.ensures.items ∙ (λ k. c.loop.maps.items ++ c.in_ok-matrix-2.ensures k ∷ []) in
    let degrees : c.push-in-loop-2.new.self.items ≡ c.loop.degrees.items ++ member_degrees w ∷ [] =
    c.in_ok-push-4.ensures.items ∙ (λ k. c.loop.degrees.items ++ (c.of-in-loop.ensures ∙ c.in_ok-degrees_of-2.ensures) k ∷ []) in
    record {
      frame = subst (IsFrameUpTo ring inverse basis.members basis.width w) (λ k. record { maps = sym maps k; degrees = sym degrees k }) more;
      passed = omega (arith, ap length maps, length-append c.loop.maps.items (level_matrix w ∷ []), c.loop.invariant.passed);
    }
