use Rattle.std.proofs.Common.{◌≡◌, ◌+◌, ◌-◌, ◌∷◌, All, length, drop, sym, ap, ◌∙◌, subst, arith}
use Rattle.std.proofs.lemmas.List.{drop_more}
use Rattle.std.proofs.lemmas.List.Elements.{All-cons}
use Rattle.hp_module.specs.Vectors.{IsVector, Vector}
use Rattle.hp_groebner.proofs.basis.greatest_width.Goals as goal

pub loop-k-preserved : goal.loop-k-preserved
loop-k-preserved g c =
    let xs = c.args.gens.now in
    let k = c.loop-k.k - 1 in
    let x = c.index-gens-k.result in
    let Q = λ (v : Vector g.row.F.Denot). IsVector g.F.Ring.ring (length v) v in
    let same : k + 1 ≡ c.loop-k.k = omega (arith, c.loop-k-test.true) in
    let front : drop k xs ≡ x ∷ drop c.loop-k.k xs =
    drop_more xs k x (omega (arith, c.loop-k-test.true, c.loop-k.invariant.within)) ∙ ap (λ y. y ∷ drop (k + 1) xs) (sym c.index-gens-k.is) ∙ ap (λ n. x ∷ drop n xs) same in
    let vector = subst (λ w. IsVector g.F.Ring.ring w x) c.width.ensures.value c.width.ensures.of in
    record {
      within = omega (arith, c.loop-k.invariant.within);
      vectors = subst (All Q) (sym front) (All-cons Q x (drop c.loop-k.k xs) vector c.loop-k.invariant.vectors);
    }
