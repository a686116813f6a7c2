use Rattle.std.proofs.Common.{◌≡◌, ◌↔◌, Bool, IsTrue, IfOk, Result, Ok, Err, List, sym, ◌∙◌, subst}
use Rattle.hp_linear.specs.Matrices.{Matrix}
use Rattle.hp_complex.specs.Complexes.{AreMaps, IsComplex, IsExact}
use Rattle.hp_complex.proofs.ExactComplexes.{exact-complex}
use Rattle.hp_complex.proofs.complex.Complex.compose_is_zero.Goals as goal

true_where : {E X Z : Type 0} (r : Result Bool E) → (X → Z) → IfOk r (λ b. IsTrue b ↔ Z) → IfOk r (λ b. X → IsTrue b)
true_where (Ok b) f h = λ x. h.1 (f x)
true_where (Err e) f h = tt

pub returns-clause-exact : goal.returns-clause-exact
returns-clause-exact g c =
    let ring = g.R.Ring.ring in
    let maps : List (Matrix g.row.R.Denot) = c.args.self.now in
    let are : AreMaps ring maps = subst (AreMaps ring) c.self.view_is c.self.invariant in
    let lent : maps ≡ c.deref.result.now = sym c.self.view_is ∙ sym c.deref.ensures.value in
    true_where c.products_are_zero.result
    (λ (e : IsExact ring maps). subst (IsComplex ring) lent (exact-complex g.met.R.Ring.ring_laws maps are e))
    c.products_are_zero.ensures
