use Rattle.std.proofs.Common.{◌≡◌, ℕ, min, max, IfOk, map, subst, ap, ◌∙◌}
use Rattle.std.proofs.lemmas.Simd.{map-map}
use Rattle.hp_build.specs.Families.{difference}
use Rattle.hp_build.proofs.edges.edge_forms.Goals as goal

pub returns : goal.returns
returns g c =
    let ring = g.K.Ring.ring in
    let v = c.args.v in
    let edges = c.args.edges.now in
    let joined = ap (map (λ (e : ℕ × ℕ). difference ring v e.0 e.1)) (c.deref.ensures.value ∙ c.in_ok-ends.ensures) ∙ map-map (λ (e : ℕ × ℕ). difference ring v e.0 e.1) (λ (e : ℕ × ℕ). (min e.0 e.1, max e.0 e.1)) edges in
    subst (λ forms. IfOk c.differences.result (λ made. made.items ≡ forms)) joined c.differences.ensures
