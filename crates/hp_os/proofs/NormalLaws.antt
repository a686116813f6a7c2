-- Normal forms decide congruence modulo the Orlik-Solomon ideal.
use Rattle.std.specs.Prelude.{◌≡◌, ◌↔◌, []}
use Rattle.std.proofs.lemmas.List.Elements.{All-nil}
use mathlib.Core.Path.{sym, subst}
use Rattle.hp_sets.specs.Sets.{Set}
use Rattle.hp_arr.proofs.Setting.{Setting}
use Rattle.hp_circuits.proofs.NbcLaw.{Nbc}
use Rattle.hp_exterior.specs.Exterior.{Ext}
use Rattle.hp_os.proofs.IdealSetting.{Congruent, Element, In, NbcOnly, Normal, Summed}
use Rattle.hp_os.proofs.ElementLaws.{element-nothing}
use Rattle.hp_os.proofs.Congruences.{congruent-in, congruent-same, in-congruent}
use Rattle.hp_os.proofs.NbcIndependence.{congruent-normal, normal-congruent, normal_unique}

module _ {K : Type 0} (S : Setting K) where
  -- an element whose sets contain no broken circuit is its own normal form
  pub normal-itself : (r : Ext K) → Element S r → NbcOnly S r → Normal S r r
  normal-itself r h b = record { element = h; reduced = b; congruent = congruent-same S r h.0.is_sum }

  pub in-normal : (x : Ext K) → In S x → Normal S x []
  in-normal x h = record {
    element = element-nothing S;
    reduced = All-nil (λ (t : Set × K). Nbc S t.0);
    congruent = in-congruent S x h;
  }

  -- An element is in the ideal exactly where zero is its normal form.
  pub in_exact : (x r : Ext K) → Summed S x → Normal S x r → In S x ↔ (r ≡ [])
  in_exact x r h p = (
    (λ i. normal_unique S x r [] h p (in-normal x i)),
    λ e. congruent-in S x h (subst (λ z. Congruent S x z) e p.congruent),
  )

  -- Two elements are congruent exactly where their normal forms are equal.
  pub congruent_exact : (x y r s : Ext K) → Summed S x → Summed S y → Normal S x r → Normal S y s
      → Congruent S x y ↔ (r ≡ s)
  congruent_exact x y r s h k p q = (
    (λ c. normal_unique S x r s h p (normal-congruent S x y s h k q c)),
    λ e. congruent-normal S x y r h k p (subst (λ z. Normal S y z) (sym e) q),
  )
