use Rattle.std.proofs.Common.{rules, ◌≡◌, ◌⊎◌, ℕ, ◌+◌, ◌<◌, ◌≤◌, List, [], ◌∷◌, ◌++◌, IfErr, Contains, filter, length, take, drop, sym, ap, subst, ◌∙◌, arith, inl, inr}
use Rattle.std.proofs.lemmas.List.{append_assoc, length-append, take_more, take-append-drop}
use Rattle.std.proofs.lemmas.List.Elements.{Contains-get_or}
use Rattle.std.proofs.lemmas.Result.{IfErr-weaker}
use Rattle.hp_lists.proofs.Members.{Contains-here, Contains-later}
use Rattle.hp_arr.specs.Operations.{first_place}
use Rattle.hp_sets.specs.Sets.{Set}
use Rattle.hp_circuits.specs.Bounds.{most_circuits}
use Rattle.hp_circuits.specs.CircuitSteps.{closed, is_open, moved, moved_all}
use Rattle.hp_circuits.specs.declared.circuit_search.Later.{Later}
use Rattle.hp_circuits.specs.declared.stop.CircuitStop.{CircuitStop}
use Rattle.hp_circuits.specs.declared.stop.CircuitStop.TheVariants.{Memory}
use Rattle.hp_circuits.proofs.CircuitLoops.{above-both, open-more, closed-more, closed-few}
use Rattle.hp_circuits.proofs.circuit_search.children.Goals as goal

pub joined-both-requires-clause-low : goal.joined-both-requires-clause-low
joined-both-requires-clause-low g c = (c.requires.later.numbers c.args.d.now (Contains-here c.args.d.now c.args.later.now)).0

pub joined-both-requires-clause-high : goal.joined-both-requires-clause-high
joined-both-requires-clause-high g c = (c.requires.later.numbers c.args.d.now (Contains-here c.args.d.now c.args.later.now)).1

pub joined-both-requires-clause-above : goal.joined-both-requires-clause-above
joined-both-requires-clause-above g c = c.requires.later.above c.args.d.now (Contains-here c.args.d.now c.args.later.now)

pub moved-requires-clause-within : goal.moved-requires-clause-within
moved-requires-clause-within g c =
    let d = c.args.d.now in
    let w = c.w-item.result in
    let has : Contains c.args.later.now w = subst (Contains c.args.later.now) (sym c.w-item.is) (Contains-get_or c.args.later.now c.loop-w.w-index w c.loop-w-test.true) in
    let e = c.requires.later.widths d w (Contains-here d c.args.later.now) (Contains-later d c.args.later.now w has) in
    subst (λ n. c.first_entry-place.result.0 < n) (ap (λ (v : List g.row.K.Denot). length v) c.as_slice.ensures ∙ e) c.first_entry-place.ensures.within

pub moved-requires-clause-widths : goal.moved-requires-clause-widths
moved-requires-clause-widths g c =
    let d = c.args.d.now in
    let w = c.w-item.result in
    let has : Contains c.args.later.now w = subst (Contains c.args.later.now) (sym c.w-item.is) (Contains-get_or c.args.later.now c.loop-w.w-index w c.loop-w-test.true) in
    c.requires.later.widths d w (Contains-here d c.args.later.now) (Contains-later d c.args.later.now w has)

pub moved-requires-clause-counts : goal.moved-requires-clause-counts
moved-requires-clause-counts g c =
    let d = c.args.d.now in
    let w = c.w-item.result in
    let has : Contains c.args.later.now w = subst (Contains c.args.later.now) (sym c.w-item.is) (Contains-get_or c.args.later.now c.loop-w.w-index w c.loop-w-test.true) in
    c.requires.later.counts d (Contains-here d c.args.later.now) ∙ sym (c.requires.later.counts w (Contains-later d c.args.later.now w has))

pub take_in-requires-clause-low : goal.take_in-requires-clause-low
take_in-requires-clause-low g c =
    let d = c.args.d.now in
    let w = c.w-item.result in
    let has : Contains c.args.later.now w = subst (Contains c.args.later.now) (sym c.w-item.is) (Contains-get_or c.args.later.now c.loop-w.w-index w c.loop-w-test.true) in
    subst (λ (z : Later g.row.K.Denot). 1 ≤ z.name) (sym c.in_ok-form.ensures) (c.requires.later.numbers w (Contains-later d c.args.later.now w has)).0

pub take_in-requires-clause-high : goal.take_in-requires-clause-high
take_in-requires-clause-high g c =
    let d = c.args.d.now in
    let w = c.w-item.result in
    let has : Contains c.args.later.now w = subst (Contains c.args.later.now) (sym c.w-item.is) (Contains-get_or c.args.later.now c.loop-w.w-index w c.loop-w-test.true) in
    subst (λ (z : Later g.row.K.Denot). z.name ≤ 64) (sym c.in_ok-form.ensures) (c.requires.later.numbers w (Contains-later d c.args.later.now w has)).1

pub take_in-requires-clause-above : goal.take_in-requires-clause-above
take_in-requires-clause-above g c =
    let d = c.args.d.now in
    let w = c.w-item.result in
    let has : Contains c.args.later.now w = subst (Contains c.args.later.now) (sym c.w-item.is) (Contains-get_or c.args.later.now c.loop-w.w-index w c.loop-w-test.true) in
    subst (λ (z : Later g.row.K.Denot). (k : ℕ) → Contains c.joined-both.result k → k < z.name) (sym c.in_ok-form.ensures)
    (subst (λ (s : Set). (k : ℕ) → Contains s k → k < w.name) (sym c.joined-both.ensures) (above-both c.args.set d c.args.later.now c.requires.later w has))

pub returns-in_err-take_in-clause-stop : goal.returns-in_err-take_in-clause-stop
returns-in_err-take_in-clause-stop g c =
    let ring = g.K.Ring.ring in
    let inverse = g.K.Field.inverse in
    let d = c.args.d.now in
    let w = c.w-item.result in
    let form = c.in_ok-form.form in
    let later = c.args.later.now in
    let i = c.loop-w.w-index in
    let both = c.joined-both.result in
    let T : Set = c.args.set ++ d.name ∷ [] in
    let same : form ≡ moved ring inverse (first_place ring d.rest) d w = c.in_ok-form.ensures ∙ ap (λ q. moved ring inverse q d w) (c.first_entry-place.ensures.place ∙ ap (first_place ring) c.as_slice.ensures) in
    let next : take (i + 1) later ≡ take i later ++ w ∷ [] = take_more later i w c.loop-w-test.true ∙ ap (λ z. take i later ++ z ∷ []) (sym c.w-item.is) in
    let total : List Set = c.args.found.now.items ++ closed ring T (moved_all ring inverse d later) in
    let now : c.loop-w.found.items ++ closed ring both (form ∷ []) ≡ c.args.found.now.items ++ closed ring T (moved_all ring inverse d (take (i + 1) later)) =
    (λ j. c.loop-w.invariant.found j ++ closed ring (c.joined-both.ensures j) (form ∷ []))
    ∙ append_assoc c.args.found.now.items (closed ring T (moved_all ring inverse d (take i later))) (closed ring T (form ∷ []))
    ∙ ap (λ zs. c.args.found.now.items ++ zs) (sym (closed-more ring inverse T d (take i later) w form same) ∙ ap (λ zs. closed ring T (moved_all ring inverse d zs)) (sym next)) in
    let few = closed-few ring inverse T d (take (i + 1) later) (drop (i + 1) later) later (take-append-drop (i + 1) later) in
    let a = length-append c.args.found.now.items (closed ring T (moved_all ring inverse d (take (i + 1) later))) in
    let b = length-append c.args.found.now.items (closed ring T (moved_all ring inverse d later)) in
    let e = ap (λ (zs : List Set). length zs) now in
    let h : IfErr c.from_residual-in_err-take_in.result (λ (z : CircuitStop). (z ≡ Memory) ⊎ (most_circuits < length (c.loop-w.found.items ++ closed ring both (form ∷ [])))) = search rules in
    IfErr-weaker c.from_residual-in_err-take_in.result _ _ (λ z p. elim p [ inl m ↦ inl m | inr l ↦ inr (omega (arith, l, e, a, b, few)) ]) h

pub loop-w-preserved : goal.loop-w-preserved
loop-w-preserved g c =
    let ring = g.K.Ring.ring in
    let inverse = g.K.Field.inverse in
    let d = c.args.d.now in
    let w = c.w-item.result in
    let form = c.in_ok-form.form in
    let later = c.args.later.now in
    let i = c.loop-w.w-index in
    let T : Set = c.args.set ++ d.name ∷ [] in
    let same : form ≡ moved ring inverse (first_place ring d.rest) d w = c.in_ok-form.ensures ∙ ap (λ q. moved ring inverse q d w) (c.first_entry-place.ensures.place ∙ ap (first_place ring) c.as_slice.ensures) in
    let next : take (i + 1) later ≡ take i later ++ w ∷ [] = take_more later i w c.loop-w-test.true ∙ ap (λ z. take i later ++ z ∷ []) (sym c.w-item.is) in
    record {
      kept = c.in_ok-take_in.ensures.open ∙ ap (λ zs. zs ++ filter (is_open ring) (form ∷ [])) c.loop-w.invariant.kept
          ∙ sym (open-more ring inverse d (take i later) w form same) ∙ ap (λ zs. filter (is_open ring) (moved_all ring inverse d zs)) (sym next);
      found = c.in_ok-take_in.ensures.found
          ∙ (λ j. c.loop-w.invariant.found j ++ closed ring (c.joined-both.ensures j) (form ∷ []))
          ∙ append_assoc c.args.found.now.items (closed ring T (moved_all ring inverse d (take i later))) (closed ring T (form ∷ []))
          ∙ ap (λ zs. c.args.found.now.items ++ zs) (sym (closed-more ring inverse T d (take i later) w form same) ∙ ap (λ zs. closed ring T (moved_all ring inverse d zs)) (sym next));
      few = c.in_ok-take_in.ensures.few;
    }
