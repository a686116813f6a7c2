use Rattle.std.proofs.Common.{◌≡◌, ◌+◌, ◌-◌, List, ◌∷◌, All, drop, sym, ap, ◌∙◌, subst, arith}
use Rattle.std.proofs.lemmas.List.{drop_more}
use Rattle.std.proofs.lemmas.List.Elements.{All-cons}
use Rattle.hp_algebra.specs.Ring.{dot_of}
use Rattle.hp_algebra.proofs.sums.dot.Goals as goal

pub loop-k-preserved : goal.loop-k-preserved
loop-k-preserved g c =
    let ring = g.R.Ring.ring in
    let a = c.args.a.now in
    let b = c.args.b.now in
    let k = c.loop-k.k - 1 in
    let x = c.index-a-k.result in
    let y = c.index-b-k.result in
    let same : k + 1 ≡ c.loop-k.k = omega arith in
    let P : List g.row.R.Denot → Type 0 = All ring.IsValue in
    let left : drop k a ≡ x ∷ drop c.loop-k.k a =
    drop_more a k x (omega arith) ∙ ap (λ z. z ∷ drop (k + 1) a) (sym c.index-a-k.is) ∙ ap (λ n. x ∷ drop n a) same in
    let right : drop k b ≡ y ∷ drop c.loop-k.k b =
    drop_more b k y (omega (arith, c.requires.lengths)) ∙ ap (λ z. z ∷ drop (k + 1) b) (sym c.index-b-k.is) ∙ ap (λ n. y ∷ drop n b) same in
    record {
      within = omega arith;
      left = subst P (sym left) (All-cons ring.IsValue x (drop c.loop-k.k a) c.in_ok-mul.ensures.left c.loop-k.invariant.left);
      right = subst P (sym right) (All-cons ring.IsValue y (drop c.loop-k.k b) c.in_ok-mul.ensures.right c.loop-k.invariant.right);
      value =
          c.in_ok-sum-2.ensures.value
          ∙ ap (λ s. ring.add s c.loop-k.sum) c.in_ok-mul.ensures.value
          ∙ ap (λ s. ring.add (ring.mul x y) s) c.loop-k.invariant.value
          ∙ (λ i. dot_of ring (sym left i) (sym right i));
      answer = c.in_ok-sum-2.ensures.answer;
    }
