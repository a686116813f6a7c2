-- Elimination: from the reduced basis of a submodule, the second blocks of the members with first block zero are the
-- reduced basis of the vectors that are, after zeros, in the submodule; and they generate them.
use Rattle.std.specs.Prelude.{◌≡◌, ◌≢◌, ℕ, zero, suc, ◌+◌, ◌-◌, ◌<◌, ◌≤◌, true, cond, List, [], ◌∷◌, map, filter, length, drop, replicate, All, Contains, Some, slice_get, slice_index_or}
use Rattle.std.specs.Ordering.{is_eq, nat_cmp, ordering_then}
use Rattle.std.proofs.lemmas.Bool.{cases_eq, cases_lt}
use Rattle.std.proofs.lemmas.List.{length-append, length-drop, length-map, length-replicate}
use Rattle.std.proofs.lemmas.Option.{get_or_from_slice_get, slice_get_within}
use Rattle.std.proofs.lemmas.List.Elements.{All-append, All-contains, All-drop, All-head, All-map, All-replicate, All-tail, All-weaker}
use mathlib.Core.Logic.{inl, inr}
use mathlib.Core.Path.{refl, sym, ap, ◌∙◌, subst}
use native.Mathlib.Omega.{arith}
use Rattle.hp_algebra.specs.Ring.{RingOf, IsField, IsRing, IsCommutative}
use Rattle.hp_algebra.proofs.Rings.{mul_zero}
use Rattle.hp_lists.proofs.Members.{Contains-filter, Contains-map, each-All, filter-Contains, map-Contains}
use Rattle.hp_mono.specs.declared.term.Term.{Term}
use Rattle.hp_mono.specs.Monomials.{degree}
use Rattle.hp_mono.specs.TermOrders.{TermDivides}
use Rattle.hp_sums.specs.FiniteSums.{total}
use Rattle.hp_sums.proofs.EqualTotals.{total-absent}
use Rattle.hp_poly.specs.Polynomials.{Poly, IsPoly, from_greatest, term_poly}
use Rattle.hp_poly.specs.PolyRing.{poly_is_ring, term_poly-IsPoly}
use Rattle.hp_module.specs.Vectors.{Vector, IsVector, IsGenerated, IsHomogeneousVector, combination, vector_plus, vector_scale, zero_vector}
use Rattle.hp_module.specs.FreeModules.{FreeModule, IsFreeModule, HasDegree, as_listed, coefficient_at, degree_of, terms}
use Rattle.hp_module.specs.Leads.{AreLed, IsGreatestTerm, IsLead, IsLeastLead, IsReducedBasis, WithLeads, member_at}
use Rattle.hp_module.specs.ElimOrders.{elimination_order}
use Rattle.hp_module.specs.EliminationLaws.{elimination-is_order}
use Rattle.hp_module.specs.FallingTerms.{free_module}
use Rattle.hp_module.proofs.BasisLeads.{basis-divided, basis-led, basis-members, basis_leads}
use Rattle.hp_module.proofs.GreatestTerms.{greatest-at}
use Rattle.hp_module.proofs.HomogeneousParts.{IsPart, part_generated}
use Rattle.hp_module.proofs.LeadsGenerate.{IsDividedBy, leads_generate}
use Rattle.hp_module.proofs.LeastLeads.{lead_divided}
use Rattle.hp_module.proofs.Symbols.{generated-chain, generated-multiple, generated-plus, generated-vector}
use Rattle.hp_module.proofs.TruncatedBases.{unshifted}
use Rattle.hp_module.proofs.VectorCoefficients.{multiple-vector, plus-vector}
use Rattle.hp_module.proofs.VectorSums.{later-components, term_setting}
use Rattle.hp_graded.proofs.BasisMembers.{homogeneous-graded}
use Rattle.hp_graded.proofs.IrredundantLists.{has-vector_degree, vector_degree}
use Rattle.hp_graded.proofs.PartSums.{parts_generate}
use Rattle.hp_der.specs.DerivationModules.{has_zero_block, second_blocks}
use Rattle.hp_der.proofs.ExtendedModules.{padded}
use Rattle.hp_der.proofs.SecondBlocks.{IsPlaceOf, block-zeros, compare-up, down-divides, filtered_places, lead-down, lead-up, order-up, padded-Contains, padded-terms, second-block, up, up-divides, up-same}

module _ {F : Type 0} {ring : RingOf F} {inverse : F → F} (field : IsField ring inverse) (n l : ℕ) where
  abbrev laws : IsRing ring
  laws = field.is_ring

  abbrev comm : IsCommutative ring
  comm = field.commutes

  -- the larger module, and that of the second blocks
  abbrev pub larger_module : FreeModule F
  larger_module = free_module ring inverse (n + l) (replicate (n + l) 0) (elimination_order n)

  abbrev pub second_module : FreeModule F
  second_module = free_module ring inverse l (replicate l 0) (elimination_order 0)

  abbrev pub larger_lawful : IsFreeModule larger_module
  larger_lawful = record { field = field; order = elimination-is_order n (n + l) }

  abbrev pub second_lawful : IsFreeModule second_module
  second_lawful = record { field = field; order = elimination-is_order 0 l }

  -- ---- padded vectors

  pub padded-vector : (v : Vector F) → IsVector ring l v → IsVector ring (n + l) (padded n v)
  padded-vector v h = (
    length-append (replicate n []) v ∙ (λ i. length-replicate {A = Poly F} n [] i + h.0 i),
    All-append (IsPoly ring) (replicate n []) v (All-replicate (IsPoly ring) n [] (poly_is_ring laws comm).zero_value) h.1,
  )

  pad-plus : (m : ℕ) (v w : Vector F) → vector_plus ring (padded m v) (padded m w) ≡ padded m (vector_plus ring v w)
  pad-plus zero v w = refl
  pad-plus (suc m) v w = ap (λ u. [] ∷ u) (pad-plus m v w)

  pad-scale : (m : ℕ) (q : Poly F) (v : Vector F) → IsPoly ring q → vector_scale ring q (padded m v) ≡ padded m (vector_scale ring q v)
  pad-scale zero q v h = refl
  pad-scale (suc m) q v h =
      let z = mul_zero (poly_is_ring laws comm) q h in
      λ i. z i ∷ pad-scale m q v h i

  pad-zeros : (m k w : ℕ) → m + k ≡ w → zero_vector ring w ≡ padded m (zero_vector ring k)
  pad-zeros zero k w e = let q : w ≡ k = omega (arith, e) in ap (zero_vector ring) q
  pad-zeros (suc m) k zero e = absurd (omega (arith, e))
  pad-zeros (suc m) k (suc w) e = ap (λ u. [] ∷ u) (pad-zeros m k w (omega (arith, e)))

  pad-combination : (qs : Vector F) (vs : List (Vector F)) → All (IsPoly ring) qs
      → combination ring (n + l) qs (map (padded n) vs) ≡ padded n (combination ring l qs vs)
  pad-combination [] vs h = pad-zeros n l (n + l) refl
  pad-combination (q ∷ qs) [] h = pad-zeros n l (n + l) refl
  pad-combination (q ∷ qs) (v ∷ vs) h =
      (λ i. vector_plus ring (pad-scale n q v (All-head (IsPoly ring) q qs h) i) (pad-combination qs vs (All-tail (IsPoly ring) q qs h) i))
      ∙ pad-plus n (vector_scale ring q v) (combination ring l qs vs)

  module _ (gens : List (Vector F)) (vectors : All (IsVector ring (n + l)) gens)
      (homogeneous : All (λ v. (d : ℕ) × IsHomogeneousVector ring d v) gens) {G : List (Vector F)}
      (basis : IsReducedBasis ring (elimination_order n) (IsGenerated ring (n + l) gens) G)
      (degrees : All (λ v. (d : ℕ) × IsHomogeneousVector ring d v) G) where
    abbrev N : Vector F → Type 0
    N v = IsGenerated ring (n + l) gens v

    N-vectors : (v : Vector F) → N v → IsVector ring (n + l) v
    N-vectors v g = generated-vector laws comm (n + l) gens vectors v g

    -- the vectors that are, after zeros, in the submodule
    abbrev pub IsSecond : Vector F → Type 0
    IsSecond v = IsVector ring l v × IsGenerated ring (n + l) gens (padded n v)

    abbrev E : List (Vector F)
    E = second_blocks n G

    abbrev cmp : Term → Term → Rattle.std.specs.declared.cmp.Ordering.Ordering
    cmp = elimination_order 0

    -- ---- the members with first block zero

    unpadded : (g : Vector F) → Contains G g → has_zero_block n g ≡ true → padded n (drop n g) ≡ g
    unpadded g at z =
        let h = N-vectors g (All-contains N G g basis.members at) in
        block-zeros n g (omega (arith, h.0)) z

    pub kept-second : (g : Vector F) → Contains G g → has_zero_block n g ≡ true → IsSecond (drop n g)
    kept-second g at z =
        let mg = All-contains N G g basis.members at in
        let h = N-vectors g mg in
        let e = length-drop n g in
        ((omega (arith, e, h.0), All-drop (IsPoly ring) n g h.1), subst N (sym (unpadded g at z)) mg)

    -- a member of the list comes from a member of the basis
    from-basis : (h : Vector F) → Contains E h → (g : Vector F) × Contains G g × (has_zero_block n g ≡ true) × (drop n g ≡ h)
    from-basis h at =
        let m = map-Contains (drop n) (filter (has_zero_block n) G) h at in
        let f = filter-Contains (has_zero_block n) G m.0 m.1 in
        (m.0, f.0, f.1, m.2)

    pub each-second : (Q : Vector F → Type 0) → ((g : Vector F) → Contains G g → has_zero_block n g ≡ true → Q (drop n g)) → All Q E
    each-second Q f = each-All Q E (λ h at. let r = from-basis h at in subst Q r.3 (f r.0 r.1 r.2))

    pub second-members : All IsSecond (second_blocks n G)
    second-members = each-second IsSecond kept-second

    pub second-vectors : All (IsVector ring l) (second_blocks n G)
    second-vectors = All-weaker IsSecond (IsVector ring l) (λ v s. s.0) E second-members

    -- ---- leads

    lead-of_second : (v : Vector F) (t : Term) (c : F) → IsSecond v → IsGreatestTerm cmp v t c → IsLead (elimination_order n) N (up n t)
    lead-of_second v t c s g = (padded n v, c, s.1, lead-up laws comm n v t c g)

    comp-low : (v : Vector F) (t : Term) (c : F) → IsVector ring l v → IsGreatestTerm cmp v t c → 1 ≤ t.comp
    comp-low v t c h g = (greatest-at second_lawful v t c h g).0.1

    -- each lead of a second block is a multiple of the lead of a member of the list
    pub lead-found : (v : Vector F) (t : Term) (c : F) → IsSecond v → IsGreatestTerm (elimination_order 0) v t c
        → (h : Vector F) × (s : Term) × Contains (second_blocks n G) h × IsGreatestTerm (elimination_order 0) h s ring.one × TermDivides s t
    lead-found v t c sv g =
        let d = lead_divided larger_lawful N-vectors basis (up n t) (lead-of_second v t c sv g) in
        let a = basis.complete d.0 d.1 in
        let at : Contains G a.1 = (a.0, a.2, a.3) in
        let low = comp-low v t c sv.0 g in
        let comp = ap (λ u. u.comp) d.2.2 in
        let z = second-block n a.1 d.0 ring.one a.4 (omega (arith, comp, low)) in
        let p = lead-down laws comm n (drop n a.1) d.0 ring.one (subst (λ w. IsGreatestTerm (elimination_order n) w d.0 ring.one) (sym (unpadded a.1 at z)) a.4) in (
          drop n a.1,
          p.0,
          Contains-map (drop n) (filter (has_zero_block n) G) a.1 (Contains-filter (has_zero_block n) G a.1 at z),
          p.2,
          down-divides n p.0 t (subst (λ u. TermDivides u (up n t)) (sym p.1) d.2),
        )

    abbrev IsMonicLead : Vector F → Type 0
    IsMonicLead h = (t : Term) × IsGreatestTerm (elimination_order 0) h t ring.one × IsLeastLead (elimination_order 0) IsSecond t

    kept-lead : (g : Vector F) → Contains G g → has_zero_block n g ≡ true → IsMonicLead (drop n g)
    kept-lead g at z =
        let m = All-contains (λ h. (t : Term) × IsGreatestTerm (elimination_order n) h t ring.one × IsLeastLead (elimination_order n) N t) G g basis.monic at in
        let p = lead-down laws comm n (drop n g) m.0 ring.one (subst (λ w. IsGreatestTerm (elimination_order n) w m.0 ring.one) (sym (unpadded g at z)) m.1) in (
          p.0,
          p.2,
          record {
            lead = (drop n g, ring.one, kept-second g at z, p.2);
            least = λ s ls ds. up-same n s p.0
                (m.2.least (up n s) (lead-of_second ls.0 s ls.1 ls.2 ls.3) (subst (TermDivides (up n s)) p.1 (up-divides n s p.0 ds)) ∙ sym p.1);
          },
        )

    -- a member of the list and the vector that it is cut from have corresponding leads
    whole-lead : (g h : Vector F) (t : Term) (c : F) → Contains G g → has_zero_block n g ≡ true → drop n g ≡ h
        → IsGreatestTerm cmp h t c → IsGreatestTerm (elimination_order n) g (up n t) c
    whole-lead g h t c at z e gt =
        subst (λ w. IsGreatestTerm (elimination_order n) w (up n t) c) (ap (padded n) (sym e) ∙ unpadded g at z) (lead-up laws comm n h t c gt)

    Contains-at : {X : Type 0} (xs : List X) (i : ℕ) (x : X) → slice_get xs i ≡ Some x → Contains xs x
    Contains-at xs i x e = (i, slice_get_within xs i x e, get_or_from_slice_get xs i x x e)

    place-lead : (h : Vector F) (t : Term) (c : F) (a : ℕ) (p : IsPlaceOf (has_zero_block n) (drop n) G h a) → IsGreatestTerm cmp h t c
        → IsGreatestTerm (elimination_order n) p.member (up n t) c
    place-lead h t c a p gt = whole-lead p.member h t c (Contains-at G a p.member p.at) p.passes p.image gt

    not-before : (i j : ℕ) (g h : Vector F) (t : Term) (c d : F) → slice_get E i ≡ Some g → slice_get E j ≡ Some h
        → IsGreatestTerm cmp g t c → IsGreatestTerm cmp h t d → i < j → ⊥
    not-before i j g h t c d eg eh gg gh m =
        let r = filtered_places (has_zero_block n) (drop n) G i j g h m eg eh in
        let same = basis.only_one r.0 r.1 r.3.member r.4.member (up n t) c d r.3.at r.4.at (place-lead g t c r.0 r.3 gg) (place-lead h t d r.1 r.4 gh) in
        let less = r.2 in
        absurd (omega (arith, less, same))

    comp-at : (i : ℕ) (h : Vector F) (t : Term) (c : F) → slice_get E i ≡ Some h → IsGreatestTerm cmp h t c → 1 ≤ t.comp
    comp-at i h t c e gt = comp-low h t c (All-contains (IsVector ring l) E h second-vectors (Contains-at E i h e)) gt

    -- The list is the reduced basis.
    pub second-basis : IsReducedBasis ring (elimination_order 0) IsSecond (second_blocks n G)
    second-basis = record {
      members = second-members;
      monic = each-second IsMonicLead kept-lead;
      complete = λ t ll.
          let v = ll.lead in
          let f = lead-found v.0 t v.1 v.2 v.3 in
          let same : f.1 ≡ t = ll.least f.1 (f.0, ring.one, All-contains IsSecond E f.0 second-members f.2, f.3) f.4 in
          (f.2.0, f.0, f.2.1, f.2.2, subst (λ s. IsGreatestTerm (elimination_order 0) f.0 s ring.one) same f.3);
      only_one = λ i j g h t c d eg eh gg gh.
          elim (cases_lt i j) [
            | inl less ↦ absurd (not-before i j g h t c d eg eh gg gh less)
            | inr more ↦ elim (cases_eq i j) [ inl e ↦ e | inr o ↦ absurd (not-before j i h g t d c eh eg gh gg (omega (arith, more, o))) ]
          ];
      tails = λ g t s c d at gt os ne u lu du.
          let r = from-basis g at in
          basis.tails r.0 (up n t) (up n s) c d r.1 (whole-lead r.0 g t c r.1 r.2 r.3 gt)
          (subst (λ w. Contains (terms w) (up n s, d)) (ap (padded n) (sym r.3) ∙ unpadded r.0 r.1 r.2) (padded-Contains n g s d os))
          (λ e. ne (up-same n s t e)) (up n u) (lead-of_second lu.0 u lu.1 lu.2 lu.3) (up-divides n u s du);
      in_order = λ i j g h t s c d eg eh gg gh m.
          let r = filtered_places (has_zero_block n) (drop n) G i j g h m eg eh in
          ap (λ o. ordering_then (nat_cmp (degree t.mono) (degree s.mono)) o) (sym (order-up n s t (comp-at j h s d eh gh) (comp-at i g t c eg gg)))
          ∙ basis.in_order r.0 r.1 r.3.member r.4.member (up n t) (up n s) c d r.3.at r.4.at (place-lead g t c r.0 r.3 gg) (place-lead h s d r.1 r.4 gh) r.2;
    }

    -- ---- the list generates

    pub second-degrees : All (λ v. (d : ℕ) × IsHomogeneousVector ring d v) (second_blocks n G)
    second-degrees = each-second (λ v. (d : ℕ) × IsHomogeneousVector ring d v) (λ g at z.
        let h = All-contains (λ v. (d : ℕ) × IsHomogeneousVector ring d v) G g degrees at in
        (h.0, All-drop (λ p. All (λ t. degree t.0 ≡ h.0) p) n g h.1))

    -- the coefficients of padded vectors
    total-up : (xs : List (Term × F)) (t : Term)
        → total as_listed ring (map (λ x. (up n x.0, x.1)) xs) (up n t) ≡ total as_listed ring xs t
    total-up [] t = refl
    total-up (x ∷ xs) t =
        let e = ap (λ r. is_eq (ordering_then r (from_greatest t.mono x.0.mono))) (compare-up n t.comp x.0.comp) in
        let r = total-up xs t in
        λ i. cond (e i) (ring.add (r i) x.1) (r i)

    abbrev back : Term → Term
    back b = record { mono = b.mono; comp = b.comp - n }

    pad-at : (v : Vector F) (b : Term) → n < b.comp → coefficient_at ring (padded n v) b ≡ coefficient_at ring v (back b)
    pad-at v b m =
        let c : b.comp ≡ n + (b.comp - n) = omega (arith, m) in
        let e : b ≡ up n (back b) = λ i. record { mono = b.mono; comp = c i } in
        ap (λ xs. total as_listed ring xs b) (padded-terms n v)
        ∙ ap (total as_listed ring (map (λ x. (up n x.0, x.1)) (terms v))) e ∙ total-up (terms v) (back b)

    pad-none : (v : Vector F) (b : Term) → b.comp ≤ n → coefficient_at ring (padded n v) b ≡ ring.zero
    pad-none v b m =
        ap (λ xs. total as_listed ring xs b) (padded-terms n v)
        ∙ total-absent (term_setting laws comm) (map (λ x. (up n x.0, x.1)) (terms v)) b
        (All-map (λ (x : Term × F). b ≢ x.0) (λ x. (up n x.0, x.1)) (terms v) (λ i d k e.
        let low = later-components laws comm 1 v i d k in
        let c = ap (λ u. u.comp) e in
        absurd (omega (arith, low, c, m))))

    degree-up : (t : Term) → degree_of larger_module (up n t) ≡ degree_of second_module t
    degree-up t = unshifted (n + l) (up n t) ∙ sym (unshifted l t)

    degree-back : (b : Term) → degree_of larger_module b ≡ degree_of second_module (back b)
    degree-back b = unshifted (n + l) b ∙ sym (unshifted l (back b))

    -- a part, after zeros, is a part
    padded-part : (e : ℕ) (v w : Vector F) → IsPart second_lawful e v w → IsPart larger_lawful e (padded n v) (padded n w)
    padded-part e v w p = record {
      vector = padded-vector w p.vector;
      of_degree = subst (All (λ (t : Term × F). degree_of larger_module t.0 ≡ e)) (sym (padded-terms n w))
          (All-map (λ (t : Term × F). degree_of larger_module t.0 ≡ e) (λ t. (up n t.0, t.1)) (terms w)
          (λ i d m. degree-up (slice_index_or (terms w) i d).0 ∙ p.of_degree i d m));
      inside = λ b q. elim (cases_lt n b.comp) [
        | inl high ↦ pad-at w b high ∙ p.inside (back b) (sym (degree-back b) ∙ q) ∙ sym (pad-at v b high)
        | inr low ↦ pad-none w b low ∙ sym (pad-none v b low)
      ];
      outside = λ b o. elim (cases_lt n b.comp) [
        | inl high ↦ pad-at w b high ∙ p.outside (back b) (λ q. o (degree-back b ∙ q))
        | inr low ↦ pad-none w b low
      ];
    }

    generator-degree : (i : ℕ) → i < length gens → HasDegree larger_module (vector_degree larger_lawful (slice_index_or gens i [])) (slice_index_or gens i [])
    generator-degree i m =
        let h = homogeneous i [] m in
        has-vector_degree larger_lawful (slice_index_or gens i []) h.0 (homogeneous-graded ring (n + l) h.0 (slice_index_or gens i []) h.1)

    part-second : (e : ℕ) (v w : Vector F) → IsSecond v → IsPart second_lawful e v w → IsSecond w
    part-second e v w s p =
        let r = part_generated larger_lawful gens vectors (λ i. vector_degree larger_lawful (slice_index_or gens i [])) generator-degree e
        (padded n v) (padded n w) s.1 (padded-part e v w p) in
        (p.vector, (r.0, r.1, r.2))

    -- the list with its leads
    abbrev led_list : WithLeads F
    led_list = basis_leads second_lawful (λ v s. s.0) second-basis

    list-is : led_list.members ≡ E
    list-is = basis-members second_lawful (λ v s. s.0) second-basis

    list-led : AreLed second_module led_list
    list-led = basis-led second_lawful (λ v s. s.0) second-basis (λ i m.
        let h = second-degrees i [] m in (h.0, homogeneous-graded ring l h.0 (slice_index_or E i []) h.1))

    second-closed : IsDividedBy second_lawful list-led IsSecond
    second-closed = record {
      vectors = λ v s. s.0;
      steps = λ v c m j s vc im k.
          let e : member_at led_list j ≡ slice_index_or E j [] = ap (λ vs. slice_index_or vs j []) list-is in
          let r = second-members j [] (subst (λ vs. j < length vs) list-is k) in
          let g = slice_index_or E j [] in
          let tp = term_poly-IsPoly laws comm c m vc im in
          subst (λ x. IsSecond (vector_plus ring v (vector_scale ring (term_poly ring c m) x))) (sym e) (
            plus-vector laws comm l v _ s.0 (multiple-vector laws comm l c m g vc im r.0),
            subst N (ap (vector_plus ring (padded n v)) (pad-scale n (term_poly ring c m) g tp) ∙ pad-plus n v (vector_scale ring (term_poly ring c m) g))
                (generated-plus laws comm (n + l) gens vectors (padded n v) _ s.1 (generated-multiple laws comm (n + l) gens vectors c m (padded n g) vc im r.1)),
          );
      leads = λ v t x s gt. basis-divided second_lawful (λ v s. s.0) second-basis t (v, x, s, gt);
    }

    -- The list generates the vectors that are, after zeros, in the submodule, and only these.
    pub second-generated : (v : Vector F) → IsSecond v → IsGenerated ring l (second_blocks n G) v
    second-generated v s =
        parts_generate second_lawful E second-vectors v s.0 (λ e w p.
        subst (λ vs. IsGenerated ring l vs w) list-is (leads_generate second_lawful list-led second-closed e w (part-second e v w s p) p.of_degree))

    pub generated-second : (v : Vector F) → IsGenerated ring l (second_blocks n G) v → IsSecond v
    generated-second v g = (
      generated-vector laws comm l E second-vectors v g,
      generated-chain laws comm (n + l) gens pads vectors pad-vectors (λ i m. pad-members i [] m) (padded n v)
          (g.0, (g.1.0 ∙ sym (length-map E (padded n)), g.1.1), ap (padded n) g.2 ∙ sym (pad-combination g.0 E g.1.1)),
    )
      where
        pads : List (Vector F)
        pads = map (padded n) E

        pad-vectors : All (IsVector ring (n + l)) pads
        pad-vectors = All-map (IsVector ring (n + l)) (padded n) E (All-weaker (IsVector ring l) (λ u. IsVector ring (n + l) (padded n u)) padded-vector E second-vectors)

        pad-members : All N pads
        pad-members = All-map N (padded n) E (All-weaker IsSecond (λ u. N (padded n u)) (λ u s. s.1) E second-members)
