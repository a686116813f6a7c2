use Rattle.std.proofs.Common.{◌≡◌, ◌+◌, ◌-◌, max, List, ◌∷◌, All, drop, sym, ap, ◌∙◌, subst, arith}
use Rattle.std.proofs.lemmas.List.{drop_more}
use Rattle.std.proofs.lemmas.List.Elements.{All-cons}
use Rattle.hp_algebra.specs.Ring.{greatest_weight_of}
use Rattle.hp_algebra.proofs.values.greatest_weight.Goals as goal

pub loop-k-preserved : goal.loop-k-preserved
loop-k-preserved g c =
    let ring = g.R.Ring.ring in
    let xs = c.args.values.now in
    let k = c.loop-k.k - 1 in
    let x = c.index-values-k.result in
    let same : k + 1 ≡ c.loop-k.k = omega arith in
    let front : drop k xs ≡ x ∷ drop c.loop-k.k xs =
    drop_more xs k x (omega arith) ∙ ap (λ y. y ∷ drop (k + 1) xs) (sym c.index-values-k.is) ∙ ap (λ n. x ∷ drop n xs) same in
    record {
      within = omega arith;
      values = let P : List g.row.R.Denot → Type 0 = All ring.IsValue in subst P (sym front) (All-cons ring.IsValue x (drop c.loop-k.k xs) c.weight.ensures.of c.loop-k.invariant.values);
      greatest =
          c.max-greatest.ensures
          ∙ ap (λ w. max w c.loop-k.greatest) c.weight.ensures.value
          ∙ ap (λ w. max (ring.weight x) w) c.loop-k.invariant.greatest
          ∙ ap (greatest_weight_of ring) (sym front);
    }
