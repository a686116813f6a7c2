use Rattle.std.proofs.Common.{◌≡◌, ◌+◌, ◌-◌, List, ◌∷◌, All, drop, sym, ap, ◌∙◌, subst, arith}
use Rattle.std.proofs.lemmas.List.{drop_more}
use Rattle.std.proofs.lemmas.List.Elements.{All-cons}
use Rattle.hp_algebra.specs.Modules.{combination_of}
use Rattle.hp_algebra.proofs.module.combine.Goals as goal

pub loop-k-preserved : goal.loop-k-preserved
loop-k-preserved g c =
    let ring = g.R.Ring.ring in
    let vectors = g.M.Module.vectors in
    let laws = g.met.M.Module.module_laws in
    let cs = c.args.c.now in
    let vs = c.args.v.now in
    let k = c.loop-k.k - 1 in
    let x = c.index-c-k.result in
    let y = c.index-v-k.result in
    let old = c.loop-k.sum in
    let same : k + 1 ≡ c.loop-k.k = omega arith in
    let scalars : drop k cs ≡ x ∷ drop c.loop-k.k cs =
    drop_more cs k x (omega arith) ∙ ap (λ z. z ∷ drop (k + 1) cs) (sym c.index-c-k.is) ∙ ap (λ n. x ∷ drop n cs) same in
    let values : drop k vs ≡ y ∷ drop c.loop-k.k vs =
    drop_more vs k y (omega (arith, c.requires.lengths)) ∙ ap (λ z. z ∷ drop (k + 1) vs) (sym c.index-v-k.is) ∙ ap (λ n. y ∷ drop n vs) same in
    let wide : vectors.width y ≡ c.args.width =
    ap vectors.width c.index-v-k.is ∙ c.requires.widths k y (omega (arith, c.requires.lengths)) in
    let vx = c.m_scale.ensures.scalar in
    let vy = c.m_scale.ensures.of in
    let scaled = laws.scale_value x y vx vy in
    let scaled_wide : vectors.width (vectors.scale x y) ≡ c.args.width = laws.width_scale x y vx vy ∙ wide in
    let value : c.in_ok-sum-2.sum ≡ vectors.add (vectors.scale x y) old =
    c.in_ok-sum-2.ensures.value ∙ ap (λ s. vectors.add s old) c.in_ok-m_scale.ensures.value in
    record {
      within = omega arith;
      scalars =
          let P : List g.row.R.Denot → Type 0 = All ring.IsValue in
          subst P (sym scalars) (All-cons ring.IsValue x (drop c.loop-k.k cs) vx c.loop-k.invariant.scalars);
      values =
          let P : List g.row.M.Denot → Type 0 = All vectors.IsValue in
          subst P (sym values) (All-cons vectors.IsValue y (drop c.loop-k.k vs) vy c.loop-k.invariant.values);
      value =
          value
          ∙ ap (vectors.add (vectors.scale x y)) c.loop-k.invariant.value
          ∙ (λ i. combination_of vectors c.args.width (sym scalars i) (sym values i));
      answer = c.in_ok-sum-2.ensures.answer;
      wide =
          ap vectors.width value
          ∙ laws.width_add (vectors.scale x y) old scaled c.loop-k.invariant.answer (scaled_wide ∙ sym c.loop-k.invariant.wide)
          ∙ scaled_wide;
    }
