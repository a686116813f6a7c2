-- A basis prepared for division: its leads, and its members as divisors.
use Rattle.std.specs.Prelude.{◌≡◌, ◌≢◌, ℕ, ◌<◌, List, [], length, replicate, All, slice_index_or}
use mathlib.Core.Path.{sym, ap, ◌∙◌, subst}
use Rattle.hp_algebra.specs.Ring.{RingOf, IsField}
use Rattle.hp_mono.specs.declared.term.Term.{Term}
use Rattle.hp_module.specs.Vectors.{Vector, zero_vector}
use Rattle.hp_module.specs.FreeModules.{HasDegree}
use Rattle.hp_module.specs.Leads.{AreLed, IsGreatestTerm, no_term}
use Rattle.hp_module.specs.ElimOrders.{elimination_order}
use Rattle.hp_module.specs.EliminationLaws.{elimination-is_order}
use Rattle.hp_module.specs.FallingTerms.{AreDivisors, Divisors, with_leads}
use Rattle.hp_module.specs.ReducedBases.{Basis, IsBasis}
use Rattle.hp_module.proofs.GreatestTerms.{greatest-degree, greatest-nonzero}
use Rattle.hp_module.proofs.HeldDivisions.{divisors-led, same-leads}
use Rattle.hp_graded.proofs.BasisMembers.{basis-homogeneous, basis_lawful, basis_module}
use Rattle.hp_der.specs.BasisSettings.{HaveDegrees, IsPrepared, led_by}

module _ {F : Type 0} {ring : RingOf F} {inverse : F → F} (field : IsField ring inverse) {b : Basis F} (is : IsBasis ring b) where
  -- no member is zero
  pub members-nonzero : All (λ v. v ≢ zero_vector ring b.width) b.members
  members-nonzero i d l z =
      let m = is.reduced.monic i d l in
      greatest-nonzero (basis_lawful field b is) _ m.0 ring.one (is.vectors i d l) m.1 z

  pub members-wide : All (λ v. length v ≡ b.width) b.members
  members-wide i d l = (is.vectors i d l).0

  module _ {leads : List Term} (many : length leads ≡ length b.members)
      (greatest : (i : ℕ) → i < length b.members
      → (c : F) × IsGreatestTerm (elimination_order b.split) (slice_index_or b.members i []) (slice_index_or leads i no_term) c) where
    members-led : AreLed (basis_module ring inverse b) (led_by b leads)
    members-led = record {
      vectors = is.vectors;
      same_length = many;
      led = greatest;
      homogeneous = λ i l.
          let h = basis-homogeneous field b is i [] l in
          let g = greatest i l in
          subst (λ n. HasDegree (basis_module ring inverse b) n (slice_index_or b.members i []))
          (sym (greatest-degree (basis_lawful field b is) (slice_index_or b.members i []) (slice_index_or leads i no_term) g.0 h.0 g.1 h.1)) h.1;
    }

    pub is_prepared : HaveDegrees ring b.members → {divisors : Divisors F}
        → AreDivisors ring (elimination_order b.split) b.width divisors → (with_leads ring divisors).members ≡ b.members
        → {shifts : List ℕ} → shifts ≡ replicate b.width 0
        → IsPrepared ring inverse b (record { leads = leads; divisors = divisors; shifts = shifts })
    is_prepared degrees {divisors} lawful members {shifts} plain = record {
      field = field;
      basis = is;
      degrees = degrees;
      plain = plain;
      led = members-led;
      lawful = lawful;
      divisors_are =
          let order = elimination-is_order b.split b.width in
          let zeros = replicate b.width 0 in
          let s = with_leads ring divisors in
          let own = divisors-led field (elimination_order b.split) b.width order zeros lawful members (basis-homogeneous field b is) in
          let e = same-leads field (elimination_order b.split) b.width order zeros own
          (subst (λ ms. AreLed (basis_module ring inverse b) (record { members = ms; leads = leads })) (sym members) members-led) in
          λ z. record { members = members z; leads = e z };
    }

  -- ---- what a program reads

  module _ {xs : List (Vector F)} (ex : xs ≡ b.members) {w : ℕ} (ew : w ≡ b.width) where
    pub read-nonzero : All (λ v. v ≢ zero_vector ring w) xs
    read-nonzero =
        subst (λ ms. All (λ v. v ≢ zero_vector ring w) ms) (sym ex)
        (subst (λ n. All (λ v. v ≢ zero_vector ring n) b.members) (sym ew) members-nonzero)

    pub read-prepared : HaveDegrees ring b.members → {sp : ℕ} → sp ≡ b.split → {leads : List Term} → length leads ≡ length xs
        → ((i : ℕ) → i < length xs
        → (c : F) × IsGreatestTerm (elimination_order sp) (slice_index_or xs i []) (slice_index_or leads i no_term) c)
        → {divisors : Divisors F} → AreDivisors ring (elimination_order sp) w divisors → (with_leads ring divisors).members ≡ xs
        → {shifts : List ℕ} → shifts ≡ replicate w 0
        → IsPrepared ring inverse b (record { leads = leads; divisors = divisors; shifts = shifts })
    read-prepared degrees {sp} es {leads} many greatest {divisors} lawful members {shifts} plain =
        is_prepared (many ∙ ap length ex)
        (subst (λ ms. (i : ℕ) → i < length ms → (c : F) × IsGreatestTerm (elimination_order b.split) (slice_index_or ms i []) (slice_index_or leads i no_term) c) ex
        (subst (λ n. (i : ℕ) → i < length xs → (c : F) × IsGreatestTerm (elimination_order n) (slice_index_or xs i []) (slice_index_or leads i no_term) c) es greatest))
        degrees
        (subst (λ n. AreDivisors ring (elimination_order n) b.width divisors) es (subst (λ n. AreDivisors ring (elimination_order sp) n divisors) ew lawful))
        (members ∙ ex) (plain ∙ ap (λ n. replicate n 0) ew)
