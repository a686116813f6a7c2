use Rattle.std.proofs.Common.{◌≡◌, ◌<◌, ◌∙◌, ℕ, List, [], length, replicate, sym, arith}
use Rattle.std.proofs.lemmas.List.{ext_get_or, get_or-replicate, length-replicate}
use Rattle.hp_mono.specs.Monomials.{Monomial}
use Rattle.hp_module.proofs.divisors.Divisors.new.Goals as goal

pub returns : goal.returns
returns g c =
    let listed = c.loop.listed.items in
    let long : length listed ≡ c.args.width = omega (arith, c.loop.invariant.long, c.loop-test.false) in
    let same : listed ≡ replicate c.args.width [] =
    ext_get_or [] listed (replicate c.args.width []) (long ∙ sym (length-replicate {A = List (Monomial × ℕ)} c.args.width [])) (λ j l.
    let h : j < c.args.width = omega (arith, l, long) in
    c.loop.invariant.each j [] (omega (arith, l, c.loop.invariant.long)) ∙ sym (get_or-replicate c.args.width j [] [] h)) in
    λ i. record { members = c.new-2.ensures.items i; listed = same i }
