-- The powers of the variables one by one.
use Rattle.std.proofs.Common.{◌≡◌, ℕ, ◌+◌, ◌-◌, ◌<◌, ◌≤◌, List, ◌++◌, length, take, ap, ◌∙◌, arith}
use Rattle.std.proofs.Math.Seq.{take-length}
use Rattle.hp_mono.specs.Monomials.{Monomial, IsMonomial, exponent, vars}
use Rattle.hp_render.specs.VectorText.{power_text, powers_text}
use Rattle.hp_render.proofs.NextNumbered.{numbered-next}

-- the power of x_i behind those before it
pub next_power : (i : ℕ) (m : Monomial) (e : ℕ) (old : List ℕ) → 1 ≤ i → i ≤ length m → e ≡ exponent m i
    → (old ++ powers_text 1 (take (i - 1) m)) ++ power_text i e ≡ old ++ powers_text 1 (take (i + 1 - 1) m)
next_power i m e old low high here =
    let inside : i - 1 < length m = omega (arith, low, high) in
    let same : i ≡ 1 + (i - 1) = omega (arith, low) in
    let further : i - 1 + 1 ≡ i + 1 - 1 = omega (arith, low) in
    ap (λ k. (old ++ powers_text 1 (take (i - 1) m)) ++ power_text k e) same
    ∙ numbered-next power_text 1 (i - 1) m 0 e old inside here
    ∙ ap (λ k. old ++ powers_text 1 (take k m)) further

-- those of all variables
pub all_powers : (i : ℕ) (m : Monomial) (old : List ℕ) → IsMonomial m → i ≡ vars + 1
    → old ++ powers_text 1 (take (i - 1) m) ≡ old ++ powers_text 1 m
all_powers i m old within end =
    let whole : i - 1 ≡ length m = omega (arith, within, end) in
    ap (λ t. old ++ powers_text 1 t) (ap (λ k. take k m) whole ∙ take-length m)
