-- The reduced Gröbner basis of D(A, m): what a frame of it needs, what such a frame is, and its kept members, which
-- are minimal generators.
use Rattle.std.specs.Prelude.{◌≡◌, ℕ, zero, suc, ◌+◌, ◌<◌, ◌≤◌, List, [], ◌∷◌, ◌++◌, length, replicate, All, Contains, Some, slice_get, slice_index_or}
use Rattle.std.specs.List.Sorted.{IsNonDecreasing}
use Rattle.std.specs.declared.cmp.Ordering.{Ordering}
use Rattle.std.specs.declared.cmp.Ordering.TheVariants.{Less, Greater}
use Rattle.std.specs.Ordering.{is_gt, nat_cmp, ordering_then}
use Rattle.std.specs.Cmp.{nat_cmp_is}
use Rattle.std.proofs.lemmas.Bool.{cases_eq, cases_lt}
use Rattle.std.proofs.lemmas.List.{get_or-map, get_or_default, length-map}
use Rattle.std.proofs.lemmas.Option.{slice_get-get_or}
use Rattle.std.proofs.lemmas.List.Elements.{All-contains, All-from_get_or, All-head, All-map, All-tail, All-weaker}
use mathlib.Core.Logic.{inl, inr}
use mathlib.Core.Path.{sym, ap, ◌∙◌, subst}
use native.Mathlib.Omega.{arith}
use Rattle.hp_lists.specs.Lists.{Ordered}
use Rattle.hp_lists.proofs.Members.{each-All}
use Rattle.hp_lists.proofs.Ordered.{Ordered-at, Ordered-from_pairs}
use Rattle.hp_algebra.specs.Ring.{RingOf, Numbering, IsCommutative, IsField, IsNumbering, IsRing, greatest_weight_of}
use Rattle.hp_arr.specs.Arrangement.{Arrangement, IsArrangement}
use Rattle.hp_complex.specs.Complexes.{map_at}
use Rattle.hp_mono.specs.declared.term.Term.{Term}
use Rattle.hp_mono.specs.Monomials.{Monomial, degree, max_degree, vars}
use Rattle.hp_poly.specs.Polynomials.{IsHomogeneous, poly_degree, poly_ring}
use Rattle.hp_poly.specs.Degrees.{degree_bounds, degree_most}
use Rattle.hp_module.specs.Vectors.{Vector, GeneratesSet, IsGenerated, IsHomogeneousVector, IsKept, IsKeptAfter, IsVector, zero_vector}
use Rattle.hp_module.specs.Derivations.{IsVectorInVariables}
use Rattle.hp_module.specs.ElimOrders.{elimination_order}
use Rattle.hp_module.specs.EliminationLaws.{elimination-is_order}
use Rattle.hp_module.specs.FallingTerms.{free_module}
use Rattle.hp_module.specs.FreeModules.{IsFreeModule, IsGraded, term_degree, terms}
use Rattle.hp_module.specs.Leads.{IsGreatestTerm, IsReducedBasis}
use Rattle.hp_module.specs.ReducedBases.{Basis}
use Rattle.hp_module.proofs.EntryTerms.{terms_all}
use Rattle.hp_module.proofs.GreatestTerms.{greatest-nonzero}
use Rattle.hp_module.proofs.KeptVectors.{kept-all}
use Rattle.hp_module.proofs.TruncatedBases.{unshifted}
use Rattle.hp_module.proofs.VectorCoefficients.{zero-vector}
use Rattle.hp_graded.specs.MinimalGenerators.{GenerateSame, IsIrredundant}
use Rattle.hp_graded.proofs.BasisMembers.{homogeneous-graded}
use Rattle.hp_der.specs.BasisSettings.{HaveDegrees}
use Rattle.hp_der.specs.DerivationModules.{IsLogarithmic}
use Rattle.hp_resolution.specs.Resolutions.{IsResolution, Resolution, row_degrees}
use Rattle.hp_saito.specs.Freeness.{AreMinimalGenerators, vector_degrees}
use Rattle.hp_saito.proofs.FreeBases.{HasGenerators, generators-enough}

-- ---- the degree of a vector

module _ {F : Type 0} {ring : RingOf F} (laws : IsRing ring) (comm : IsCommutative ring) where
  weight-most : (d : ℕ) (v : Vector F) → IsHomogeneousVector ring d v → greatest_weight_of (poly_ring ring) v ≤ d
  weight-most d [] h = omega arith
  weight-most d (q ∷ v) h =
      let P = IsHomogeneous ring d in
      let first = degree_most laws comm d q (All-weaker (λ (t : Monomial × F). degree t.0 ≡ d) (λ t. degree t.0 ≤ d)
      (λ t e. omega (arith, e)) q (All-head P q v h)) in
      let rest = weight-most d v (All-tail P q v h) in
      omega (arith, first, rest)

  entry-low : (n : ℕ) (v : Vector F) → greatest_weight_of (poly_ring ring) v ≤ n → (j : ℕ) → j < length v
      → poly_degree ring (slice_index_or v j []) ≤ n
  entry-low n [] w j l = absurd (omega arith)
  entry-low n (p ∷ v) w zero l = omega (arith, w)
  entry-low n (p ∷ v) w (suc j) l = entry-low n v (omega (arith, w)) j (omega (arith, l))

  -- the degree of a homogeneous vector is that of its terms
  pub homogeneous-degree : (d : ℕ) (v : Vector F) (t : Term) (c : F) → IsHomogeneousVector ring d v
      → Contains (terms v) (t, c) → (degree t.mono ≡ d) × (greatest_weight_of (poly_ring ring) v ≡ d)
  homogeneous-degree d v t c h at =
      let n = greatest_weight_of (poly_ring ring) v in
      let same = All-contains (λ (s : Term × F). term_degree (replicate 0 0) s.0 ≡ d) (terms v) (t, c)
      (homogeneous-graded ring 0 d v h) at in
      let plain = unshifted 0 t in
      let low = All-contains (λ (s : Term × F). degree s.0.mono ≤ n) (terms v) (t, c)
      (terms_all (λ (s : Term × F). degree s.0.mono ≤ n) 1 v (λ j l. degree_bounds laws comm n (slice_index_or v j [])
      (entry-low n v (omega arith) j l))) at in
      let most = weight-most d v h in
      (omega (arith, same, plain), omega (arith, same, plain, low, most))

  -- the kept ones of vectors in an order are in order
  kept-ordered : (R : Vector F → Vector F → Type 0) (width : ℕ) (before vs kept : List (Vector F)) → Ordered R vs
      → IsKeptAfter ring width before vs kept → Ordered R kept
  kept-ordered R width before [] kept o p = subst (Ordered R) (sym p) tt
  kept-ordered R width before (v ∷ vs) kept o (inl p) = kept-ordered R width (before ++ v ∷ []) vs kept o.1 p.1
  kept-ordered R width before (v ∷ vs) kept o (inr p) =
      let rest = p.1.0 in
      subst (Ordered R) (sym p.1.1) (
        (λ y c. All-contains (R v) rest y
            (kept-all laws comm width (R v) (before ++ v ∷ []) vs rest (each-All (R v) vs o.0) p.1.2) c),
        kept-ordered R width (before ++ v ∷ []) vs rest o.1 p.1.2,
      )

-- The reduced basis of D(A, m), which generates it, of vectors of degrees of at most 240; for an arrangement over a
-- field whose elements are numbered.
pub record IsLogarithmicBasis {K : Type 0} (ring : RingOf K) (inverse : K → K) (numbers : Numbering K)
    (arr : Arrangement K) (mult : List ℕ) (b : Basis K) : Type 0 where
  pub field : IsField ring inverse
  pub numbering : IsNumbering ring numbers
  pub lawful : IsArrangement ring numbers arr
  pub width : b.width ≡ arr.dim
  pub reduced : IsReducedBasis ring (elimination_order 0) (IsLogarithmic ring arr mult) b.members
  pub generates : GeneratesSet ring arr.dim (IsLogarithmic ring arr mult) b.members
  pub degrees : HaveDegrees ring b.members

module _ {K : Type 0} {ring : RingOf K} {inverse : K
    → K} {numbers : Numbering K} {arr : Arrangement K} {mult : List ℕ}
    {b : Basis K} (is : IsLogarithmicBasis ring inverse numbers arr mult b) where
  abbrev ring_laws : IsRing ring
  ring_laws = is.field.is_ring

  abbrev commutes : IsCommutative ring
  commutes = is.field.commutes

  abbrev Log : Vector K → Type 0
  Log v = IsLogarithmic ring arr mult v

  abbrev G : List (Vector K)
  G = b.members

  has : HasGenerators ring inverse numbers arr mult b.members
  has = record { field = is.field; numbering = is.numbering; lawful = is.lawful; generates = is.generates }

  -- ---- what a frame needs

  pub logarithmic-some_component : 1 ≤ b.width
  logarithmic-some_component = let low = is.lawful.dim_low in let e = is.width in omega (arith, low, e)

  pub logarithmic-few_components : b.width ≤ vars
  logarithmic-few_components = let high = is.lawful.dim_high in let e = is.width in omega (arith, high, e)

  pub logarithmic-some_member : 1 ≤ length b.members
  logarithmic-some_member =
      let low = is.lawful.dim_low in let enough = generators-enough has in omega (arith, low, enough)

  pub logarithmic-variables : All (IsVectorInVariables ring b.width b.width) b.members
  logarithmic-variables = subst (λ n. All (IsVectorInVariables ring n n) b.members) (sym is.width)
      (All-weaker Log (IsVectorInVariables ring arr.dim arr.dim) (λ v d. d.in_variables) G is.generates.members)

  pub logarithmic-leads : All (λ g. (t : Term) (c : K) → IsGreatestTerm (elimination_order 0) g t c
      → degree t.mono ≤ 240) b.members
  logarithmic-leads = λ i x l t c g.
      let h = is.degrees i x l in
      let e = homogeneous-degree ring_laws commutes h.0 (slice_index_or G i x) t c h.2 g.occurs in
      omega (arith, h.1, e.0)

  -- ---- the leads

  at : (i : ℕ) → i < length b.members → slice_get b.members i ≡ Some (slice_index_or b.members i [])
  at i l = slice_get-get_or b.members i [] l

  abbrev lead : (i : ℕ) → i < length b.members → Term
  lead i l = (is.reduced.monic i [] l).0

  greatest : (i : ℕ) (l : i < length b.members)
      → IsGreatestTerm (elimination_order 0) (slice_index_or b.members i []) (lead i l) ring.one
  greatest i l = (is.reduced.monic i [] l).1

  less-most : (x y : ℕ) (r : Ordering) → ordering_then (nat_cmp x y) r ≡ Less → x ≤ y
  less-most x y r e = elim (cases_lt y x) [
    | inl g ↦ absurd (subst (λ o. Rattle.std.specs.Prelude.T (is_gt o))
        (ap (λ o. ordering_then o r) (nat_cmp_is x y Greater g) ∙ e) tt)
    | inr l ↦ l
  ]

  -- the degrees of the leads of two members
  rising : (i j : ℕ) (l : i < length b.members) (m : j < length b.members) → i < j
      → degree (lead i l).mono ≤ degree (lead j m).mono
  rising i j l m o = less-most _ _ _ (is.reduced.in_order i j (slice_index_or G i []) (slice_index_or G j []) (lead i l)
      (lead j m) ring.one ring.one (at i l) (at j m) (greatest i l) (greatest j m) o)

  -- ---- a resolution of the basis

  module _ (r : Resolution K) (h : IsResolution ring b.members r) where
    -- the degree of a row is that of the lead
    row-degree : (i : ℕ) (l : i < length b.members) → slice_index_or (row_degrees r 0) i 0 ≡ degree (lead i l).mono
    row-degree i l =
        let n = (map_at r.maps 0).cols in
        let d = slice_index_or (row_degrees r 0) i 0 in
        let count = ap length h.first in
        let graded = subst (λ vs. IsGraded (replicate n 0) d (slice_index_or vs i [])) h.first
        ((h.homogeneous 0 h.some_map).homogeneous i (omega (arith, l, count))) in
        let e = All-contains (λ (s : Term × K). term_degree (replicate n 0) s.0 ≡ d) (terms (slice_index_or G i []))
        (lead i l, ring.one) graded (greatest i l).occurs in
        let plain = unshifted n (lead i l) in
        omega (arith, e, plain)

    count : length (row_degrees r 0) ≡ length b.members
    count = (h.homogeneous 0 h.some_map).one_each ∙ ap length h.first

    pub logarithmic-in_order : IsNonDecreasing (row_degrees r 0)
    logarithmic-in_order i j d o m = elim (cases_eq i j) [
      | inl e ↦ let q = ap (λ k. slice_index_or (row_degrees r 0) k d) e in omega (arith, q)
      | inr n ↦
          let ds = row_degrees r 0 in
          let li : i < length b.members = omega (arith, o, m, count) in
          let lj : j < length b.members = omega (arith, m, count) in
          let ei = get_or_default ds i d 0 (omega (arith, o, m)) in
          let ej = get_or_default ds j d 0 m in
          let up = rising i j li lj (omega (arith, o, n)) in
          omega (arith, row-degree i li, row-degree j lj, ei, ej, up)
    ]

    -- some row of the first map is not zero
    pub logarithmic-nonzero : ¬ (All (λ v. v ≡ zero_vector ring (map_at r.maps 0).cols) (map_at r.maps 0).rows)
    logarithmic-nonzero z =
        let n = (map_at r.maps 0).cols in
        let l = logarithmic-some_member in
        let first : slice_index_or b.members 0 [] ≡ zero_vector ring n =
        subst (λ vs. All (λ v. v ≡ zero_vector ring n) vs) h.first z 0 [] l in
        let L : IsFreeModule (free_module ring inverse n (replicate n 0) (elimination_order 0)) =
        record { field = is.field; order = elimination-is_order 0 n } in
        greatest-nonzero L (slice_index_or b.members 0 []) (lead 0 l) ring.one
        (subst (IsVector ring n) (sym first) (zero-vector ring_laws commutes n)) (greatest 0 l) first

  -- ---- the kept members

  abbrev weight_of : Vector K → ℕ
  weight_of v = greatest_weight_of (poly_ring ring) v

  -- a member is homogeneous of the degree of its lead
  member-degree : (i : ℕ) (l : i < length b.members)
      → (degree (lead i l).mono ≡ weight_of (slice_index_or b.members i []))
      × (weight_of (slice_index_or b.members i []) ≤ max_degree)
      × IsHomogeneousVector ring (weight_of (slice_index_or b.members i [])) (slice_index_or b.members i [])
  member-degree i l =
      let v = slice_index_or G i [] in
      let h = is.degrees i [] l in
      let e = homogeneous-degree ring_laws commutes h.0 v (lead i l) ring.one h.2 (greatest i l).occurs in (
        e.0 ∙ sym e.1,
        (let w = e.1 in omega (arith, h.1, w)),
        subst (λ d. IsHomogeneousVector ring d v) (sym e.1) h.2,
      )

  abbrev InOrder : Vector K → Vector K → Type 0
  InOrder v w = weight_of v ≤ weight_of w

  members-ordered : Ordered InOrder b.members
  members-ordered = Ordered-from_pairs InOrder b.members (λ i j d o m.
      let li : i < length b.members = omega (arith, o, m) in
      let ei = ap weight_of (get_or_default G i d [] li) in
      let ej = ap weight_of (get_or_default G j d [] m) in
      let up = rising i j li m o in
      let x = (member-degree i li).0 in
      let y = (member-degree j m).0 in
      omega (arith, ei, ej, up, x, y))

  module _ (kept : List (Vector K)) (are : IsKept ring b.width b.members kept)
      (same : GenerateSame ring b.width b.members kept) (irredundant : IsIrredundant ring b.width kept) where
    of-kept : (P : Vector K → Type 0) → ((i : ℕ) → i < length b.members → P (slice_index_or b.members i []))
        → All P kept
    of-kept P h = kept-all ring_laws commutes b.width P [] G kept (All-from_get_or P G [] h) are

    kept-degrees : (i j : ℕ) (d : ℕ) → i ≤ j → j < length (vector_degrees ring kept)
        → slice_index_or (vector_degrees ring kept) i d ≤ slice_index_or (vector_degrees ring kept) j d
    kept-degrees i j d o m = elim (cases_eq i j) [
      | inl e ↦ let q = ap (λ k. slice_index_or (vector_degrees ring kept) k d) e in omega (arith, q)
      | inr n ↦
          let many = length-map kept weight_of in
          let lj : j < length kept = omega (arith, m, many) in
          let ei = get_or-map weight_of kept i [] d (omega (arith, o, lj)) in
          let ej = get_or-map weight_of kept j [] d lj in
          let up : weight_of (slice_index_or kept i []) ≤ weight_of (slice_index_or kept j []) =
          Ordered-at InOrder kept i j [] (kept-ordered ring_laws commutes InOrder b.width [] G kept members-ordered are)
          (omega (arith, o, n)) lj in
          omega (arith, ei, ej, up)
    ]

    -- The kept members are minimal generators.
    pub logarithmic-minimal : AreMinimalGenerators ring arr mult kept (vector_degrees ring kept)
    logarithmic-minimal = record {
      generates = record {
        members = kept-all ring_laws commutes b.width Log [] G kept is.generates.members are;
        every = λ v d. subst (λ n. IsGenerated ring n kept v) is.width
            ((same v).0 (subst (λ n. IsGenerated ring n G v) (sym is.width) (is.generates.every v d)));
      };
      irredundant = subst (λ n. IsIrredundant ring n kept) is.width irredundant;
      have_degrees = record {
        one_each = length-map kept weight_of;
        homogeneous = λ i l. subst (λ d. IsHomogeneousVector ring d (slice_index_or kept i []))
            (sym (get_or-map weight_of kept i [] 0 l))
            (of-kept (λ v. IsHomogeneousVector ring (weight_of v) v) (λ j m. (member-degree j m).2) i [] l);
      };
      low = All-map (λ d. d ≤ max_degree) weight_of kept
          (of-kept (λ v. weight_of v ≤ max_degree) (λ j m. (member-degree j m).1));
      in_order = kept-degrees;
    }
