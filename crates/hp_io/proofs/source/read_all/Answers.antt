use Rattle.std.proofs.Common.{◌≡◌, ◌++◌, length, take, arith, length-append, refl}
use Rattle.std.proofs.lemmas.List.{length-take-le}
use Rattle.hp_io.proofs.Takings.{took_more, took_no_more, took_over, took_within}
use Rattle.hp_io.proofs.source.read_all.Goals as goal

pub returns-in_default-clause-too_long : goal.returns-in_default-clause-too_long
returns-in_default-clause-too_long g c =
    took_within _ _ c.loop.all.items _ _ (took_no_more _ (g.S.Source.left c.loop.src) _ _ c.loop.invariant.bytes c.in_default.ensures.bytes) c.loop.invariant.short (λ e. cc)

pub returns-then-count-max-clause-too_long : goal.returns-then-count-max-clause-too_long
returns-then-count-max-clause-too_long g c =
    let before = c.loop.all.items in
    let now = take c.in-Ok.count c.read.new.buf in
    let all = took_more _ (g.S.Source.left c.loop.src) _ before now c.loop.invariant.bytes c.in-Ok.ensures.bytes.0 in
    let most : length now ≡ c.in-Ok.count = length-take-le c.in-Ok.count c.read.new.buf c.in-Ok.ensures.bound in
    took_over _ _ (before ++ now) _ _ all (omega (arith, length-append before now, most)) refl

pub returns-then-count-max-clause-rest : goal.returns-then-count-max-clause-rest
returns-then-count-max-clause-rest g c =
    (c.loop.all.items ++ take c.in-Ok.count c.read.new.buf, took_more _ (g.S.Source.left c.loop.src) _ _ _ c.loop.invariant.bytes c.in-Ok.ensures.bytes.0)

pub returns-then-is_err-clause-too_long : goal.returns-then-is_err-clause-too_long
returns-then-is_err-clause-too_long g c =
    let before = c.loop.all.items in
    let now = take c.in-Ok.count c.read.new.buf in
    let all = took_more _ (g.S.Source.left c.loop.src) _ before now c.loop.invariant.bytes c.in-Ok.ensures.bytes.0 in
    let most : length now ≡ c.in-Ok.count = length-take-le c.in-Ok.count c.read.new.buf c.in-Ok.ensures.bound in
    took_within _ _ (before ++ now) _ _ all (omega (arith, length-append before now, most)) (λ e. cc)

pub returns-then-is_err-clause-rest : goal.returns-then-is_err-clause-rest
returns-then-is_err-clause-rest g c =
    (c.loop.all.items ++ take c.in-Ok.count c.read.new.buf, took_more _ (g.S.Source.left c.loop.src) _ _ _ c.loop.invariant.bytes c.in-Ok.ensures.bytes.0)
