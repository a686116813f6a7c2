-- The members of a basis with their leads: monic, no lead divides another, a Gröbner basis, in order of degree.
use Rattle.std.specs.Prelude.{◌≡◌, ◌≢◌, ℕ, ◌+◌, ◌<◌, ◌≤◌, List, [], length, replicate, All, Contains, Some, slice_get, slice_index_or}
use Rattle.std.specs.declared.cmp.Ordering.{Ordering}
use Rattle.std.specs.declared.cmp.Ordering.TheVariants.{Less, Greater}
use Rattle.std.specs.Ordering.{is_gt, nat_cmp, ordering_then}
use Rattle.std.specs.Cmp.{nat_cmp_is}
use Rattle.std.proofs.lemmas.Bool.{cases_eq, cases_lt}
use Rattle.std.proofs.lemmas.List.{get_or_default}
use Rattle.std.proofs.lemmas.Option.{slice_get-get_or}
use Rattle.std.proofs.lemmas.List.Elements.{All-weaker}
use mathlib.Core.Logic.{inl, inr}
use mathlib.Core.Path.{sym, ap, ◌∙◌, subst}
use native.Mathlib.Omega.{arith}
use Rattle.hp_algebra.specs.Ring.{RingOf, IsField, IsRing, IsCommutative}
use Rattle.hp_lists.specs.Lists.{Ordered}
use Rattle.hp_mono.specs.declared.term.Term.{Term}
use Rattle.hp_mono.specs.Monomials.{degree}
use Rattle.hp_mono.specs.TermOrders.{TermDivides}
use Rattle.hp_module.specs.Vectors.{Vector, IsVector, IsGenerated, IsHomogeneousVector}
use Rattle.hp_module.specs.FreeModules.{FreeModule, IsFreeModule, HasDegree, degree_of, terms}
use Rattle.hp_module.specs.Leads.{AreLed, IsGreatestTerm, IsGroebner, IsLeastLead, WithLeads, lead_at, member_at}
use Rattle.hp_module.specs.ElimOrders.{elimination_order}
use Rattle.hp_module.specs.EliminationLaws.{elimination-is_order}
use Rattle.hp_module.specs.FallingTerms.{free_module}
use Rattle.hp_module.specs.ReducedBases.{Basis, IsBasis}
use Rattle.hp_module.proofs.EntryTerms.{terms_all}
use Rattle.hp_module.proofs.GreatestTerms.{greatest-degree, greatest-unique}
use Rattle.hp_module.proofs.LeastLeads.{lead_divided}
use Rattle.hp_module.proofs.Symbols.{generated-vector}
use Rattle.hp_module.proofs.TruncatedBases.{unshifted}
use Rattle.hp_graded.specs.RelationConstants.{AreRising, degree_at}
use Rattle.hp_graded.proofs.IrredundantLists.{InOrder, has-vector_degree, in-order, vector_degree}

-- homogeneous by the degrees of the monomials alone
pub homogeneous-graded : {F : Type 0} (ring : RingOf F) (width d : ℕ) (v : Vector F) → IsHomogeneousVector ring d v
    → All (λ t. Rattle.hp_module.specs.FreeModules.term_degree (replicate width 0) t.0 ≡ d) (terms v)
homogeneous-graded {F} ring width d v h =
    terms_all (λ t. Rattle.hp_module.specs.FreeModules.term_degree (replicate width 0) t.0 ≡ d) 1 v (λ j l.
    λ i e m. unshifted width (record { mono = (slice_index_or (slice_index_or v j []) i e).0; comp = 1 + j }) ∙ h j [] l i e m)

-- the free module of a basis, with all shifts 0
abbrev pub basis_module : {F : Type 0} → RingOf F → (F → F) → Basis F → FreeModule F
basis_module ring inverse b = free_module ring inverse b.width (replicate b.width 0) (elimination_order b.split)

module _ {F : Type 0} {ring : RingOf F} {inverse : F → F} (field : IsField ring inverse) (b : Basis F) (is : IsBasis ring b) where
  abbrev laws : IsRing ring
  laws = field.is_ring

  abbrev comm : IsCommutative ring
  comm = field.commutes

  abbrev M : FreeModule F
  M = basis_module ring inverse b

  abbrev pub basis_lawful : IsFreeModule (basis_module ring inverse b)
  basis_lawful = record { field = field; order = elimination-is_order b.split b.width }

  abbrev N : Vector F → Type 0
  N v = IsGenerated ring b.width b.members v

  N-vectors : (v : Vector F) → N v → IsVector ring b.width v
  N-vectors v g = generated-vector laws comm b.width b.members is.vectors v g

  pub basis-homogeneous : All (λ v. (d : ℕ) × HasDegree (basis_module ring inverse b) d v) b.members
  basis-homogeneous = All-weaker (λ v. (d : ℕ) × IsHomogeneousVector ring d v) (λ v. (d : ℕ) × HasDegree M d v)
      (λ v h. (h.0, homogeneous-graded ring b.width h.0 v h.1)) b.members is.homogeneous

  pub basis-plain : (t : Term) → degree_of (basis_module ring inverse b) t ≡ degree t.mono
  basis-plain t = unshifted b.width t

  module _ (leads : List Term) (led : AreLed (basis_module ring inverse b) (record { members = b.members; leads = leads })) where
    abbrev s : WithLeads F
    s = record { members = b.members; leads = leads }

    at : (i : ℕ) → i < length b.members → slice_get b.members i ≡ Some (slice_index_or b.members i [])
    at i l = slice_get-get_or b.members i [] l

    -- the lead, with coefficient 1, is a least lead
    least : (i : ℕ) → i < length b.members
        → IsGreatestTerm (elimination_order b.split) (member_at s i) (lead_at s i) ring.one × IsLeastLead (elimination_order b.split) N (lead_at s i)
    least i l =
        let m = is.reduced.monic i [] l in
        let g = led.led i l in
        let e = (greatest-unique basis_lawful (member_at s i) m.0 (lead_at s i) ring.one g.0 (is.vectors i [] l) m.1 g.1).0 in
        (subst (λ t. IsGreatestTerm (elimination_order b.split) (member_at s i) t ring.one) e m.1, subst (IsLeastLead (elimination_order b.split) N) e m.2)

    pub basis-monic_at : (i : ℕ) → i < length b.members
        → IsGreatestTerm (elimination_order b.split) (slice_index_or b.members i []) (lead_at s i) ring.one
    basis-monic_at i l = (least i l).0

    pub basis-apart : (j i : ℕ) → j < length b.members → i < length b.members
        → TermDivides (lead_at s j) (lead_at s i) → j ≡ i
    basis-apart j i lj li d =
        let x = least j lj in
        let y = least i li in
        let e = y.1.least (lead_at s j) x.1.lead d in
        is.reduced.only_one j i (member_at s j) (member_at s i) (lead_at s j) ring.one ring.one (at j lj) (at i li) x.0
        (subst (λ t. IsGreatestTerm (elimination_order b.split) (member_at s i) t ring.one) (sym e) y.0)

    pub basis-is_groebner : IsGroebner (basis_module ring inverse b) (record { members = b.members; leads = leads })
    basis-is_groebner v t c g gt =
        let d = lead_divided basis_lawful N-vectors is.reduced t (v, c, g, gt) in
        let a = is.reduced.complete d.0 d.1 in
        let l : a.0 < length b.members = a.2 in
        let own : member_at s a.0 ≡ a.1 = get_or_default b.members a.0 [] a.1 l ∙ a.3 in
        let same = (greatest-unique basis_lawful (member_at s a.0) (lead_at s a.0) d.0 ring.one ring.one (is.vectors a.0 [] l) (least a.0 l).0
        (subst (λ w. IsGreatestTerm (elimination_order b.split) w d.0 ring.one) (sym own) a.4)).0 in
        (a.0, l, subst (λ u. TermDivides u t) (sym same) d.2)

    pub basis-rising : AreRising (record { members = b.members; leads = leads })
    basis-rising i j l m = elim (cases_eq i j) [
      | inl e ↦ let q = ap (degree_at s) e in omega (arith, q)
      | inr n ↦ low (degree_at s i) (degree_at s j) _ (is.reduced.in_order i j (member_at s i) (member_at s j) (lead_at s i) (lead_at s j) ring.one ring.one
          (at i (omega (arith, l, m))) (at j m) (least i (omega (arith, l, m))).0 (least j m).0 (omega (arith, l, n)))
    ]
      where
        low : (x y : ℕ) (r : Ordering) → ordering_then (nat_cmp x y) r ≡ Less → x ≤ y
        low x y r e = elim (cases_lt y x) [
          | inl g ↦ absurd (subst (λ o. Rattle.std.specs.Prelude.T (is_gt o)) (ap (λ o. ordering_then o r) (nat_cmp_is x y Greater g) ∙ e) tt)
          | inr l ↦ l
        ]

    -- the members are in order of degree
    pub basis-in_order : Ordered (InOrder basis_lawful) b.members
    basis-in_order = in-order basis_lawful b.members (λ i j l m.
        let r = basis-rising i j l m in
        let x = member-degree i (omega (arith, l, m)) in
        let y = member-degree j m in
        omega (arith, r, x, y))
      where
        member-degree : (i : ℕ) → i < length b.members → vector_degree basis_lawful (slice_index_or b.members i []) ≡ degree_at s i
        member-degree i l =
            let g = led.led i l in
            let h = has-vector_degree basis_lawful (member_at s i) (degree_of M (lead_at s i)) (led.homogeneous i l) in
            sym (greatest-degree basis_lawful (member_at s i) (lead_at s i) g.0 _ g.1 h) ∙ basis-plain (lead_at s i)
