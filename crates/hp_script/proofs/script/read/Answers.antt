use Rattle.std.proofs.Common.{◌+◌, ◌≤◌, ◌<◌, length, map, get_or, arith, ℕ, List, [], Bor, sym, ap, subst}
use Rattle.std.proofs.lemmas.Result.{err_from_is_err_and}
use Rattle.hp_script.specs.Script.{most_bytes}
use Rattle.hp_script.specs.Reading.{AddsLine, IsFaultAt}
use Rattle.hp_script.proofs.Parsing.{number_small, line_within, fault_of, has_all, adds_line, text_is, is_within, is_over}
use Rattle.hp_script.proofs.script.read.Goals as goal

pub overflow_add-number : goal.overflow_add-number
overflow_add-number c =
    let texts : List (List ℕ) = map (λ (x : Bor (List ℕ)). x.now) c.deref-text-items.result.now in
    let below : c.line.number < length texts = is_within c.deref-text-items.result.now c.line.number c.line.text-index c.line.invariant.counted c.line-test.true in
    omega (arith, number_small c.args.bytes.now texts c.line.number c.line.invariant.parsing.lines_are below c.requires)

pub with_line-requires : goal.with_line-requires
with_line-requires c =
    let texts : List (List ℕ) = map (λ (x : Bor (List ℕ)). x.now) c.deref-text-items.result.now in
    let below : c.line.number < length texts = is_within c.deref-text-items.result.now c.line.number c.line.text-index c.line.invariant.counted c.line-test.true in
    let short : length (get_or texts c.line.number []) ≤ length c.args.bytes.now = line_within c.args.bytes.now texts c.line.number c.line.invariant.parsing.lines_are below in
    subst (λ t. length t ≤ most_bytes) (sym (text_is c.deref-text-items.result.now c.line.number c.line.text-index c.line.invariant.counted)) (omega (arith, short, c.requires))

pub returns-in_err-found-clause-fault : goal.returns-in_err-found-clause-fault
returns-in_err-found-clause-fault c =
    let texts : List (List ℕ) = map (λ (x : Bor (List ℕ)). x.now) c.deref-text-items.result.now in
    let below : c.line.number < length texts = is_within c.deref-text-items.result.now c.line.number c.line.text-index c.line.invariant.counted c.line-test.true in
    let p = err_from_is_err_and c.from_residual-in_err-found.result c.from_residual-in_err-found.ensures.1 in
    rw (p.1, p.2)
    (fault_of c.args.bytes.now texts c.line.number c.line.found.items c.in_err-found.field-0.0 c.line.invariant.parsing below
    (subst (λ t. IsFaultAt (c.line.number + 1) t c.in_err-found.field-0.0) (text_is c.deref-text-items.result.now c.line.number c.line.text-index c.line.invariant.counted) c.in_err-found.ensures.fault))

pub line-preserved : goal.line-preserved
line-preserved c =
    let texts : List (List ℕ) = map (λ (x : Bor (List ℕ)). x.now) c.deref-text-items.result.now in
    let below : c.line.number < length texts = is_within c.deref-text-items.result.now c.line.number c.line.text-index c.line.invariant.counted c.line-test.true in
    record {
      parsing = adds_line c.args.bytes.now texts c.line.number c.line.found.items c.in_ok-found.found.items c.line.invariant.parsing below
          (subst (λ t. AddsLine (c.line.number + 1) t c.line.found.items c.in_ok-found.found.items) (text_is c.deref-text-items.result.now c.line.number c.line.text-index c.line.invariant.counted) c.in_ok-found.ensures.added);
      counted = ap (λ n. n + 1) c.line.invariant.counted;
    }

pub returns-clause-commands : goal.returns-clause-commands
returns-clause-commands c =
    has_all c.args.bytes.now (map (λ (x : Bor (List ℕ)). x.now) c.deref-text-items.result.now) c.line.number c.line.found.items c.line.invariant.parsing
    (is_over c.deref-text-items.result.now c.line.number c.line.text-index c.line.invariant.counted c.line.auto.text-index-end c.line-test.false)
