-- The members of a level as vectors to divide by: none is zero, and their leads are those of the level.
use Rattle.std.specs.Prelude.{◌≡◌, ℕ, ◌<◌, [], length, All, slice_index_or}
use Rattle.std.proofs.lemmas.List.{get_or_default}
use mathlib.Core.Path.{sym, ap, ◌∙◌, subst}
use Rattle.hp_algebra.specs.Ring.{RingOf}
use Rattle.hp_module.specs.Vectors.{Vector, zero_vector}
use Rattle.hp_module.specs.FreeModules.{IsHomogeneousBy, degree_of}
use Rattle.hp_module.specs.Leads.{AreLed}
use Rattle.hp_module.specs.FallingTerms.{AreDivisors, Divisors, with_leads as divisor_leads}
use Rattle.hp_module.proofs.GreatestTerms.{greatest-nonzero}
use Rattle.hp_module.proofs.HeldDivisions.{divisors-led, same-leads}
use Rattle.hp_syzygy.specs.ChainOrders.{chain_order}
use Rattle.hp_syzygy.specs.FrameLevels.{IsLevel, Level, level_lead, level_module, level_width, with_leads}

module _ {F : Type 0} {ring : RingOf F} {inverse : F → F} {v : Level F} (is : IsLevel ring inverse v) where
  pub member-nonzero : (k : ℕ) (x : Vector F) → k < length v.members → x ≡ slice_index_or v.members k x
      → ¬ (x ≡ zero_vector ring (length x))
  member-nonzero k x l e z =
      let same = e ∙ get_or_default v.members k x [] l in
      let g = slice_index_or v.members k [] in
      let h = is.led.vectors k [] l in
      greatest-nonzero is.module_laws g (level_lead v k) ring.one h (is.monic k l)
      (sym same ∙ z ∙ ap (zero_vector ring) (ap length same ∙ h.0))

  homogeneous : All (IsHomogeneousBy v.degrees) v.members
  homogeneous k d l =
      (degree_of (level_module ring inverse v) (level_lead v k), subst (Rattle.hp_module.specs.FreeModules.IsGraded v.degrees (degree_of (level_module ring inverse v) (level_lead v k))) (get_or_default v.members k [] d l) (is.led.homogeneous k l))

  pub level-divisors : {d : Divisors F} → AreDivisors ring (chain_order v.chain) (level_width v) d
      → (divisor_leads ring d).members ≡ v.members → divisor_leads ring d ≡ with_leads v
  level-divisors {d} a e =
      let M = level_module ring inverse v in
      let field = is.module_laws.field in
      let order = is.module_laws.order in
      let led = divisors-led field (chain_order v.chain) (level_width v) order v.degrees a e homogeneous in
      let same = same-leads field (chain_order v.chain) (level_width v) order v.degrees led
      (subst (λ m. AreLed M (record { members = m; leads = v.leads })) (sym e) is.led) in
      λ i. record { members = e i; leads = same i }
