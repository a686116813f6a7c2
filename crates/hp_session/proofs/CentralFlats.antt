-- The flats and the polynomials of a central arrangement, of its deletions and of its restrictions are those of the forms with constants zero.
use Rattle.std.specs.Prelude.{◌≡◌, ℕ, ◌-◌, ◌≤◌, [], ◌∷◌, ◌++◌, length}
use mathlib.Core.Path.{sym, ap, ◌∙◌, subst}
use Rattle.hp_lists.proofs.Removals.{remove-map}
use Rattle.hp_arr.specs.Arrangement.{Arrangement, IsArrangement, with_constants}
use Rattle.hp_arr.specs.Flats.{flats, total_rank}
use Rattle.hp_arr.specs.Moebius.{characteristic, poincare}
use Rattle.hp_arr.specs.Operations.{deletion, restriction}
use Rattle.hp_arr.proofs.Setting.{Setting, setting}
use Rattle.hp_arr.proofs.LawfulDeletion.{deletion-lawful}
use Rattle.hp_arr.proofs.LawfulRestriction.{kept-lawful}
use Rattle.hp_arr.proofs.CentralRestriction.{restriction-central, restriction-constants}
use Rattle.hp_arr.proofs.CentralCase.{constants-central, total-central, flats-central, poincare-central, characteristic-central}

module _ {K : Type 0} (S : Setting K) (B : Arrangement K) (e : B ≡ with_constants S.ring S.arr) where
  open S use {ring, inverse, numbers, arr, field, num, lawful}

  pub total-same : total_rank ring numbers B ≡ total_rank ring numbers arr
  total-same = ap (total_rank ring numbers) e ∙ total-central S (with_constants ring arr) (constants-central S)

  pub flats-same : flats ring numbers B ≡ flats ring numbers arr
  flats-same = ap (flats ring numbers) e ∙ flats-central S (with_constants ring arr) (constants-central S)

  pub poincare-same : poincare ring numbers B ≡ poincare ring numbers arr
  poincare-same = ap (poincare ring numbers) e ∙ poincare-central S (with_constants ring arr) (constants-central S)

  pub characteristic-same : characteristic ring numbers B ≡ characteristic ring numbers arr
  characteristic-same = ap (characteristic ring numbers) e ∙ characteristic-central S (with_constants ring arr) (constants-central S)

  module _ (i : ℕ) (low : 1 ≤ i) (high : i ≤ length arr.forms) where
    pub deleted-same : poincare ring numbers (deletion B i) ≡ poincare ring numbers (deletion arr i)
    deleted-same =
        let D = setting field num (deletion-lawful ring numbers arr lawful i low high) in
        ap (λ b. poincare ring numbers (deletion b i)) e
        ∙ ap (λ forms. poincare ring numbers (record { dim = arr.dim; forms = forms })) (remove-map (λ f. f ++ ring.zero ∷ []) (i - 1) arr.forms)
        ∙ poincare-central D (with_constants ring (deletion arr i)) (constants-central D)

    pub restricted-same : 2 ≤ arr.dim → poincare ring numbers (restriction ring inverse B i) ≡ poincare ring numbers (restriction ring inverse arr i)
    restricted-same two =
        let R = setting field num (subst (IsArrangement ring numbers) (sym (restriction-central field numbers arr lawful i low high)) (kept-lawful field numbers arr lawful i low high two)) in
        ap (λ b. poincare ring numbers (restriction ring inverse b i)) e
        ∙ ap (poincare ring numbers) (restriction-constants field numbers arr lawful i low high)
        ∙ poincare-central R (with_constants ring (restriction ring inverse arr i)) (constants-central R)
