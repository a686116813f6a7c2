use Rattle.std.proofs.Common.{rules, ◌≡◌, ◌⊎◌, ◌+◌, ◌<◌, true, false, List, [], ◌∷◌, ◌++◌, IfErr, Contains, filter, length, drop, refl, sym, ap, subst, ◌∙◌, arith, inl, inr}
use Rattle.std.proofs.lemmas.List.{append-nil, drop_more, drop_all, length-drop, length-map}
use Rattle.std.proofs.lemmas.List.Elements.{Contains-get_or}
use Rattle.std.proofs.lemmas.Result.{IfErr-weaker}
use Rattle.hp_arr.specs.Operations.{first_place}
use Rattle.hp_lists.proofs.Members.{each-All}
use Rattle.hp_matroid.proofs.NbcCounts.{length-filter_low}
use Rattle.hp_sets.specs.Sets.{Set}
use Rattle.hp_circuits.specs.Bounds.{most_circuits}
use Rattle.hp_circuits.specs.CircuitSteps.{closed, is_dead, is_open, moved, moved_all, searched}
use Rattle.hp_circuits.specs.Laters.{AreLater}
use Rattle.hp_circuits.specs.declared.circuit_search.Later.{Later}
use Rattle.hp_circuits.specs.declared.stop.CircuitStop.{CircuitStop}
use Rattle.hp_circuits.specs.declared.stop.CircuitStop.TheVariants.{Memory}
use Rattle.hp_circuits.proofs.CircuitLoops.{later-drop, later-child, extend-dead, extend-turn, extend-longer, extend-ready}
use Rattle.hp_circuits.proofs.CircuitPruning.{searched-nothing}
use Rattle.hp_circuits.proofs.circuit_search.+extend.Goals as goal

pub loop-k-init : goal.loop-k-init
loop-k-init g t c = record { all = refl; few = c.requires.few }

pub is_dead-requires : goal.is_dead-requires
is_dead-requires g t c =
    let ring = g.K.Ring.ring in
    let inverse = g.K.Field.inverse in
    let T : Set = c.args.set in
    let later : List (Later g.row.K.Denot) = c.args.later.now in
    let k = c.loop-k.k in
    let left : List (Later g.row.K.Denot) = c.from-left.result.now in
    each-All (λ (d : Later g.row.K.Denot). length d.coefficients ≡ length T) left
    (λ d m. (later-drop T later k c.requires.later).counts d (subst (λ (zs : List (Later g.row.K.Denot)). Contains zs d) c.from-left.ensures m))

pub returns-then-is_dead-clause-found : goal.returns-then-is_dead-clause-found
returns-then-is_dead-clause-found g t c =
    let ring = g.K.Ring.ring in
    let inverse = g.K.Field.inverse in
    let T : Set = c.args.set in
    let later : List (Later g.row.K.Denot) = c.args.later.now in
    let k = c.loop-k.k in
    let found : List Set = c.loop-k.found.items in
    let dead : is_dead ring T (drop k later) ≡ true = ap (is_dead ring T) (sym c.from-left.ensures) ∙ sym c.is_dead.ensures ∙ c.if-is_dead.true in
    sym (append-nil found) ∙ ap (λ zs. found ++ zs) (sym (extend-dead ring inverse T (drop k later) dead)) ∙ c.loop-k.invariant.all

pub returns-then-is_dead-clause-few : goal.returns-then-is_dead-clause-few
returns-then-is_dead-clause-few g t c = c.loop-k.invariant.few

pub children-requires-clause-later : goal.children-requires-clause-later
children-requires-clause-later g t c =
    let ring = g.K.Ring.ring in
    let inverse = g.K.Field.inverse in
    let T : Set = c.args.set in
    let later : List (Later g.row.K.Denot) = c.args.later.now in
    let k = c.loop-k.k in
    let d : Later g.row.K.Denot = c.index-later-k.result in
    let rest : List (Later g.row.K.Denot) = c.from-rest.result.now in
    let split : drop k later ≡ d ∷ rest = drop_more later k d c.loop-k-test.true ∙ (λ j. sym c.index-later-k.is j ∷ sym c.from-rest.ensures j) in
    subst (λ (zs : List (Later g.row.K.Denot)). AreLater ring T zs) split (later-drop T later k c.requires.later)

pub children-requires-clause-few : goal.children-requires-clause-few
children-requires-clause-few g t c = c.loop-k.invariant.few

pub returns-in_err-next-clause-stop : goal.returns-in_err-next-clause-stop
returns-in_err-next-clause-stop g t c =
    let ring = g.K.Ring.ring in
    let inverse = g.K.Field.inverse in
    let T : Set = c.args.set in
    let later : List (Later g.row.K.Denot) = c.args.later.now in
    let k = c.loop-k.k in
    let d : Later g.row.K.Denot = c.index-later-k.result in
    let rest : List (Later g.row.K.Denot) = c.from-rest.result.now in
    let split : drop k later ≡ d ∷ rest = drop_more later k d c.loop-k-test.true ∙ (λ j. sym c.index-later-k.is j ∷ sym c.from-rest.ensures j) in
    let alive : is_dead ring T (d ∷ rest) ≡ false = ap (is_dead ring T) (sym split ∙ sym c.from-left.ensures) ∙ sym c.is_dead.ensures ∙ c.if-is_dead.false in
    let found : List Set = c.loop-k.found.items in
    let total : List Set = c.args.found.now.items ++ searched ring inverse T later in
    let start : found ++ searched ring inverse T (d ∷ rest) ≡ total = ap (λ zs. found ++ searched ring inverse T zs) (sym split) ∙ c.loop-k.invariant.all in
    let low = extend-ready ring inverse T d rest alive found total start in
    let h : IfErr c.from_residual.result (λ (z : CircuitStop). (z ≡ Memory) ⊎ (most_circuits < length (found ++ closed ring (T ++ d.name ∷ []) (moved_all ring inverse d rest)))) = search rules in
    IfErr-weaker c.from_residual.result _ _ (λ z p. elim p [ inl m ↦ inl m | inr l ↦ inr (omega (arith, l, low)) ]) h

pub joined-requires-clause-low : goal.joined-requires-clause-low
joined-requires-clause-low g t c =
    let d = c.index-later-k.result in
    (c.requires.later.numbers d (subst (Contains c.args.later.now) (sym c.index-later-k.is) (Contains-get_or c.args.later.now c.loop-k.k d c.loop-k-test.true))).0

pub joined-requires-clause-high : goal.joined-requires-clause-high
joined-requires-clause-high g t c =
    let d = c.index-later-k.result in
    (c.requires.later.numbers d (subst (Contains c.args.later.now) (sym c.index-later-k.is) (Contains-get_or c.args.later.now c.loop-k.k d c.loop-k-test.true))).1

pub joined-requires-clause-above : goal.joined-requires-clause-above
joined-requires-clause-above g t c =
    let d = c.index-later-k.result in
    c.requires.later.above d (subst (Contains c.args.later.now) (sym c.index-later-k.is) (Contains-get_or c.args.later.now c.loop-k.k d c.loop-k-test.true))

pub extend-requires : goal.extend-requires
extend-requires g t c κs within =
    let ring = g.K.Ring.ring in
    let inverse = g.K.Field.inverse in
    let T : Set = c.args.set in
    let later : List (Later g.row.K.Denot) = c.args.later.now in
    let k = c.loop-k.k in
    let d : Later g.row.K.Denot = c.index-later-k.result in
    let rest : List (Later g.row.K.Denot) = c.from-rest.result.now in
    let split : drop k later ≡ d ∷ rest = drop_more later k d c.loop-k-test.true ∙ (λ j. sym c.index-later-k.is j ∷ sym c.from-rest.ensures j) in
    let all : AreLater ring T (d ∷ rest) = subst (λ (zs : List (Later g.row.K.Denot)). AreLater ring T zs) split (later-drop T later k c.requires.later) in
    let child = later-child g.met.K.Field.field_laws T d rest all in
    let opens : List (Later g.row.K.Denot) = filter (is_open ring) (moved_all ring inverse d rest) in
    let is : c.deref.result.now ≡ opens = c.deref.ensures.value ∙ c.in_ok-next.ensures.open in
    let a = length-filter_low (is_open ring) (moved_all ring inverse d rest) in
    let b = length-map rest (moved ring inverse (first_place ring d.rest) d) in
    let e = ap (λ (zs : List (Later g.row.K.Denot)). length zs) is in
    let f = ap (λ (zs : List (Later g.row.K.Denot)). length zs) c.from-rest.ensures in
    let l = length-drop (k + 1) later in
    let shorter : length c.deref.result.now < length later = omega (arith, a, b, e, f, l, c.loop-k-test.true) in (
      omega (arith, shorter, c.decreases),
      (
        within,
        (
          subst (λ (s : Set). AreLater ring s c.deref.result.now) (sym c.joined.ensures) (subst (λ (zs : List (Later g.row.K.Denot)). AreLater ring (T ++ d.name ∷ []) zs) (sym is) child),
          c.in_ok-next.ensures.few,
        ),
      ),
    )

pub returns-in_err-extend-clause-stop : goal.returns-in_err-extend-clause-stop
returns-in_err-extend-clause-stop g t c =
    let ring = g.K.Ring.ring in
    let inverse = g.K.Field.inverse in
    let T : Set = c.args.set in
    let later : List (Later g.row.K.Denot) = c.args.later.now in
    let k = c.loop-k.k in
    let d : Later g.row.K.Denot = c.index-later-k.result in
    let rest : List (Later g.row.K.Denot) = c.from-rest.result.now in
    let split : drop k later ≡ d ∷ rest = drop_more later k d c.loop-k-test.true ∙ (λ j. sym c.index-later-k.is j ∷ sym c.from-rest.ensures j) in
    let alive : is_dead ring T (d ∷ rest) ≡ false = ap (is_dead ring T) (sym split ∙ sym c.from-left.ensures) ∙ sym c.is_dead.ensures ∙ c.if-is_dead.false in
    let found : List Set = c.loop-k.found.items in
    let total : List Set = c.args.found.now.items ++ searched ring inverse T later in
    let start : found ++ searched ring inverse T (d ∷ rest) ≡ total = ap (λ zs. found ++ searched ring inverse T zs) (sym split) ∙ c.loop-k.invariant.all in
    let mid : List Set = c.children.new.found.items in
    let opens : List (Later g.row.K.Denot) = filter (is_open ring) (moved_all ring inverse d rest) in
    let same : mid ++ searched ring inverse c.joined.result c.deref.result.now ≡ mid ++ searched ring inverse (T ++ d.name ∷ []) opens =
    (λ j. mid ++ searched ring inverse (c.joined.ensures j) ((c.deref.ensures.value ∙ c.in_ok-next.ensures.open) j)) in
    let low = extend-longer ring inverse T d rest alive found total start mid c.in_ok-next.ensures.found in
    let e = ap (λ (zs : List Set). length zs) same in
    let h : IfErr c.from_residual-in_err-extend.result (λ (z : CircuitStop). (z ≡ Memory) ⊎ (most_circuits < length (mid ++ searched ring inverse c.joined.result c.deref.result.now))) = search rules in
    IfErr-weaker c.from_residual-in_err-extend.result _ _ (λ z p. elim p [ inl m ↦ inl m | inr l ↦ inr (omega (arith, l, low, e)) ]) h

pub loop-k-preserved : goal.loop-k-preserved
loop-k-preserved g t c =
    let ring = g.K.Ring.ring in
    let inverse = g.K.Field.inverse in
    let T : Set = c.args.set in
    let later : List (Later g.row.K.Denot) = c.args.later.now in
    let k = c.loop-k.k in
    let d : Later g.row.K.Denot = c.index-later-k.result in
    let rest : List (Later g.row.K.Denot) = c.from-rest.result.now in
    let split : drop k later ≡ d ∷ rest = drop_more later k d c.loop-k-test.true ∙ (λ j. sym c.index-later-k.is j ∷ sym c.from-rest.ensures j) in
    let alive : is_dead ring T (d ∷ rest) ≡ false = ap (is_dead ring T) (sym split ∙ sym c.from-left.ensures) ∙ sym c.is_dead.ensures ∙ c.if-is_dead.false in
    let found : List Set = c.loop-k.found.items in
    let total : List Set = c.args.found.now.items ++ searched ring inverse T later in
    let start : found ++ searched ring inverse T (d ∷ rest) ≡ total = ap (λ zs. found ++ searched ring inverse T zs) (sym split) ∙ c.loop-k.invariant.all in
    let mid : List Set = c.children.new.found.items in
    let opens : List (Later g.row.K.Denot) = filter (is_open ring) (moved_all ring inverse d rest) in
    let same : mid ++ searched ring inverse c.joined.result c.deref.result.now ≡ mid ++ searched ring inverse (T ++ d.name ∷ []) opens =
    (λ j. mid ++ searched ring inverse (c.joined.ensures j) ((c.deref.ensures.value ∙ c.in_ok-next.ensures.open) j)) in
    let after : List Set = c.extend.new.found.items in
    record {
      all = ap (λ zs. after ++ searched ring inverse T zs) (sym c.from-rest.ensures)
          ∙ extend-turn ring inverse T d rest alive found total start mid after c.in_ok-next.ensures.found (c.in_ok-extend.ensures.found ∙ same);
      few = c.in_ok-extend.ensures.few;
    }

pub returns-clause-found : goal.returns-clause-found
returns-clause-found g t c =
    let ring = g.K.Ring.ring in
    let inverse = g.K.Field.inverse in
    let T : Set = c.args.set in
    let later : List (Later g.row.K.Denot) = c.args.later.now in
    let k = c.loop-k.k in
    let found : List Set = c.loop-k.found.items in
    let none : drop k later ≡ [] = drop_all k later (omega (arith, c.loop-k-test.false)) in
    sym (append-nil found) ∙ ap (λ zs. found ++ zs) (sym (ap (searched ring inverse T) none ∙ searched-nothing ring inverse T)) ∙ c.loop-k.invariant.all

pub returns-clause-few : goal.returns-clause-few
returns-clause-few g t c = c.loop-k.invariant.few
