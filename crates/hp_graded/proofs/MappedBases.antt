-- The reduced basis of a set of vectors, mapped, is the reduced basis of the mapped set, where the map keeps first terms
-- and each least lead that divides a term of an image divides a term of the vector.
use Rattle.std.specs.Prelude.{◌≡◌, ◌≢◌, ◌↔◌, ℕ, ◌<◌, List, [], map, length, All, Any, Contains, Some, slice_get, slice_index_or}
use Rattle.std.specs.declared.cmp.Ordering.TheVariants.{Less, Equal, Greater}
use Rattle.std.proofs.lemmas.List.{get_or-map, length-map}
use Rattle.std.proofs.lemmas.List.Elements.{All-contains, All-map, All-weaker}
use Rattle.std.proofs.lemmas.Option.{get_or_from_slice_get, slice_get-get_or, slice_get_within}
use mathlib.Core.Path.{refl, sym, ap, ◌∙◌, subst}
use native.Mathlib.Omega.{arith}
use Rattle.hp_algebra.specs.Ring.{IsRing, IsCommutative}
use Rattle.hp_lists.proofs.Members.{Contains-map, map-Contains}
use Rattle.hp_mono.specs.declared.term.Term.{Term}
use Rattle.hp_mono.specs.Monomials.{degree, vars}
use Rattle.hp_mono.specs.TermOrders.{IsTermWithin, TermDivides}
use Rattle.hp_mono.proofs.MonomialLaws.{degree_product, product-degree_zero}
use Rattle.hp_poly.specs.Polynomials.{Poly}
use Rattle.hp_poly.specs.Substitutions.{IsPolyMap, KeepsFirst}
use Rattle.hp_module.specs.Vectors.{Vector}
use Rattle.hp_module.specs.FreeModules.{FreeModule, IsFreeModule, IsIn, coefficient_at, terms}
use Rattle.hp_module.specs.Leads.{IsGreatestTerm, IsLead, IsLeastLead, IsReducedBasis}
use Rattle.hp_module.proofs.DividingTerms.{divides-chain}
use Rattle.hp_module.proofs.VectorCoefficients.{occurs, own, within}
use Rattle.hp_module.proofs.GreatestTerms.{greatest-at, greatest-unique}
use Rattle.hp_module.proofs.LeastLeads.{lead_divided}
use Rattle.hp_graded.proofs.MappedVectors.{IsMapped, mapped-vector}
use Rattle.hp_graded.proofs.MappedLeads.{IsByMonomials, greatest-mapped, greatest-unmapped, leads-same, least-same}

-- A term of the vector over a term of its image: of the same degree, and each least lead that divides the latter divides it.
pub record IsOver {F : Type 0} (M : FreeModule F) (N : Vector F → Type 0) (v : Vector F) (s : Term) : Type 0 where
  pub top : Term
  pub inside : IsTermWithin M.width top
  pub occurs : coefficient_at M.ring v top ≢ M.ring.zero
  pub same_degree : degree s.mono ≡ degree top.mono
  pub divided : (u : Term) → IsLeastLead M.cmp N u → TermDivides u s → TermDivides u top

module _ {F : Type 0} {M : FreeModule F} (L : IsFreeModule M) (by : IsByMonomials M.cmp) {f : Poly F → Poly F}
    (is : IsPolyMap M.ring f) (keeps : KeepsFirst M.ring f) {N N' : Vector F → Type 0} (vectors : (v : Vector F) → N v → IsIn M v)
    (same : (w : Vector F) → N' w ↔ IsMapped f N w) {G : List (Vector F)} (basis : IsReducedBasis M.ring M.cmp N G) where
  open M use {ring, width, cmp}

  abbrev laws : IsRing ring
  laws = L.field.is_ring

  abbrev comm : IsCommutative ring
  comm = L.field.commutes

  abbrev co : Vector F → Term → F
  co v b = coefficient_at ring v b

  abbrev H : List (Vector F)
  H = map (map f) G

  member-in : (v : Vector F) → Contains G v → IsIn M v
  member-in v at = vectors v (All-contains N G v basis.members at)

  up : (v : Vector F) (t : Term) (c : F) → IsIn M v → IsGreatestTerm cmp v t c → IsGreatestTerm cmp (map f v) t c
  up v t c h g = greatest-mapped L by is keeps v t c h g

  down : (v : Vector F) (t : Term) (c : F) → IsIn M v → IsGreatestTerm cmp (map f v) t c → IsGreatestTerm cmp v t c
  down v t c h g = greatest-unmapped L by is keeps v t c h g

  -- a member of the mapped list by its place
  at-place : (i : ℕ) (g : Vector F) → slice_get H i ≡ Some g
      → (v : Vector F) × (slice_get G i ≡ Some v) × (map f v ≡ g) × Contains G v
  at-place i g e =
      let l : i < length G = (let a = slice_get_within H i g e in let b = length-map G (map f) in omega (arith, a, b)) in
      let v = slice_index_or G i [] in
      let own = slice_get-get_or G i [] l in
      (v, own, sym (get_or-map (map f) G i [] [] l) ∙ get_or_from_slice_get H i g [] e, (i, l, get_or_from_slice_get G i v v own))

  module _ (over : (v : Vector F) → Contains G v → (s : Term) → coefficient_at M.ring (map f v) s ≢ M.ring.zero → IsOver M N v s) where
    same-term : (r t s u m : Term) → IsTermWithin width t → IsTermWithin width s → degree s.mono ≡ degree r.mono → r ≡ t → u ≡ t
        → TermDivides u s → s ≡ t
    same-term r t s u m wt ws d e q k =
        let dv = subst (λ x. TermDivides x s) q k in
        let n = dv.0 in
        let p = degree_product vars n t.mono dv.1 wt.0 in
        let a = ap (λ x. degree x.mono) dv.2 in
        let b = ap (λ x. degree x.mono) e in
        let z : degree n ≡ 0 = omega (arith, d, p, a, b) in
        let same = product-degree_zero n t.mono (dv.1 ∙ sym wt.0) z in
        sym dv.2 ∙ (λ i. record { mono = same i; comp = t.comp })

    mapped-tails : (g : Vector F) (t s : Term) (c d : F) → Contains H g → IsGreatestTerm cmp g t c → Contains (terms g) (s, d)
        → s ≢ t → (u : Term) → IsLead cmp N' u → ¬ (TermDivides u s)
    mapped-tails g t s c d at gt os ne u lu du =
        let m = map-Contains (map f) G g at in
        let v = m.0 in
        let hv = member-in v m.1 in
        let hm = mapped-vector laws comm is width v hv in
        let gv = down v t c hv (subst (λ w. IsGreatestTerm cmp w t c) (sym m.2) gt) in
        let os' : Contains (terms (map f v)) (s, d) = subst (λ w. Contains (terms w) (s, d)) (sym m.2) os in
        let o = own laws comm width (map f v) s d hm os' in
        let ws = All-contains (λ (x : Term × F). IsTermWithin width x.0) (terms (map f v)) (s, d) (within laws comm width (map f v) hm) os' in
        let r = over v m.1 s (λ z. o.1 (sym o.0 ∙ z)) in
        let low = lead_divided L vectors basis u ((leads-same L by is keeps vectors same u).1 lu) in
        let dr = r.divided low.0 low.1 (divides-chain low.0 u s low.2 du) in
        let wt = (greatest-at L v t c hv gv).0 in
        let other : r.top ≢ t → ⊥ = λ n.
        basis.tails v t r.top c (co v r.top) m.1 gv (occurs laws comm width v r.top hv r.occurs) n low.0 low.1.lead dr in
        let equal : r.top ≡ t → ⊥ = λ e.
        let k = All-contains (λ w. (x : Term) × IsGreatestTerm cmp w x ring.one × IsLeastLead cmp N x) G v basis.monic m.1 in
        let same_lead = (greatest-unique L v k.0 t ring.one c hv k.1 gv).0 in
        let least = subst (IsLeastLead cmp N) same_lead k.2 in
        let q = least.least low.0 low.1.lead (subst (TermDivides low.0) e dr) in
        ne (same-term r.top t s low.0 t wt ws r.same_degree e q (divides-chain low.0 u s low.2 du)) in
        elim (cmp r.top t) as (λ z. cmp r.top t ≡ z → ⊥) [
          | Less ↦ λ p. other (λ e. let i = sym p ∙ ap (λ x. cmp x t) e ∙ L.order.itself t wt in absurd (cc))
          | Equal ↦ λ p. equal (L.order.same r.top t r.inside wt p)
          | Greater ↦ λ p. other (λ e. let i = sym p ∙ ap (λ x. cmp x t) e ∙ L.order.itself t wt in absurd (cc))
        ] refl

    abbrev IsMonicLeast : Vector F → Type 0
    IsMonicLeast g = (t : Term) × IsGreatestTerm cmp g t ring.one × IsLeastLead cmp N' t

    mapped-member : (v : Vector F) → N v → N' (map f v)
    mapped-member v h = (same (map f v)).1 (v, h, refl)

    mapped-members : All (λ v. N' (map f v)) G
    mapped-members = All-weaker N (λ v. N' (map f v)) mapped-member G basis.members

    monic-least : (v : Vector F) → N v → (t : Term) → IsGreatestTerm cmp v t ring.one → IsLeastLead cmp N t → IsMonicLeast (map f v)
    monic-least v h t g least = (t, up v t ring.one (vectors v h) g, (least-same L by is keeps vectors same t).0 least)

    mapped-monic : All (λ v. IsMonicLeast (map f v)) G
    mapped-monic i d l = let m = basis.monic i d l in monic-least (slice_index_or G i d) (basis.members i d l) m.0 m.1 m.2

    mapped-any : (t : Term) → Any (λ g. IsGreatestTerm cmp g t ring.one) G → Any (λ g. IsGreatestTerm cmp g t ring.one) (map (map f) G)
    mapped-any t a =
        let k = Contains-map (map f) G a.1 (a.0, a.2, a.3) in
        (k.0, map f a.1, k.1, k.2, up a.1 t ring.one (member-in a.1 (a.0, a.2, a.3)) a.4)

    mapped-complete : (t : Term) → IsLeastLead cmp N' t → Any (λ g. IsGreatestTerm cmp g t ring.one) (map (map f) G)
    mapped-complete t ll = mapped-any t (basis.complete t ((least-same L by is keeps vectors same t).1 ll))

    -- The mapped list is the reduced basis of the mapped set.
    pub mapped-reduced : IsReducedBasis M.ring M.cmp N' (map (map f) G)
    mapped-reduced = record {
      members = All-map N' (map f) G mapped-members;
      monic = All-map IsMonicLeast (map f) G mapped-monic;
      complete = mapped-complete;
      only_one = λ i j g h t c d ei ej gi gj.
          let x = at-place i g ei in
          let y = at-place j h ej in
          basis.only_one i j x.0 y.0 t c d x.1 y.1 (down x.0 t c (member-in x.0 x.3) (subst (λ w. IsGreatestTerm cmp w t c) (sym x.2) gi))
          (down y.0 t d (member-in y.0 y.3) (subst (λ w. IsGreatestTerm cmp w t d) (sym y.2) gj));
      tails = mapped-tails;
      in_order = λ i j g h t s c d ei ej gi gj less.
          let x = at-place i g ei in
          let y = at-place j h ej in
          basis.in_order i j x.0 y.0 t s c d x.1 y.1 (down x.0 t c (member-in x.0 x.3) (subst (λ w. IsGreatestTerm cmp w t c) (sym x.2) gi))
          (down y.0 s d (member-in y.0 y.3) (subst (λ w. IsGreatestTerm cmp w s d) (sym y.2) gj)) less;
    }
