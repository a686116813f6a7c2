-- Steps of the loops that substitute polynomials for the variables.
use Rattle.std.specs.Prelude.{◌≡◌, ℕ, suc, zero, ◌+◌, ◌<◌, ◌≤◌, List, [], ◌∷◌, drop, length, sum, slice_index_or}
use Rattle.std.proofs.lemmas.List.{drop_more}
use Rattle.std.proofs.lemmas.List.Sums.{sum_by-cons, sum_by-drop_more}
use mathlib.Core.Path.{sym, ap, ◌∙◌, subst}
use native.Mathlib.Omega.{arith}
use Rattle.hp_algebra.specs.Ring.{RingOf, power}
use Rattle.hp_poly.specs.Polynomials.{monomial_value}

pub drop-least : (m : List ℕ) (k : ℕ) → sum (drop k m) ≤ sum m
drop-least m zero = omega arith
drop-least [] (suc k) = omega arith
drop-least (x ∷ m) (suc k) =
    let e = sum_by-cons (λ n. n) x m in
    let h = drop-least m k in
    omega (arith, e, h)

pub rest-degree : (m : List ℕ) (k n : ℕ) → k + 1 ≡ n → k < length m → sum (drop k m) ≡ slice_index_or m k 0 + sum (drop n m)
rest-degree m k n e l =
    subst (λ j. sum (drop k m) ≡ slice_index_or m k 0 + sum (drop j m)) e (sum_by-drop_more (λ i. i) m k 0 l)

-- one variable more
pub image-step : {F : Type 0} (ring : RingOf F) (xs : List F) (m : List ℕ) (k n : ℕ) (x : F) → k + 1 ≡ n → k < length xs → k < length m
    → ring.mul (power ring (slice_index_or xs k x) (slice_index_or m k 0)) (monomial_value ring (drop n xs) (drop n m))
    ≡ monomial_value ring (drop k xs) (drop k m)
image-step ring xs m k n x e lx lm =
    ap (λ j. ring.mul (power ring (slice_index_or xs k x) (slice_index_or m k 0)) (monomial_value ring (drop j xs) (drop j m))) (sym e)
    ∙ sym (λ i. monomial_value ring (drop_more xs k x lx i) (drop_more m k 0 lm i))
