-- Lists of members to divide by: one member more, the search for a divisor, and a multiple of a member that is taken away.
use Rattle.std.specs.Prelude.{◌≡◌, ◌≢◌, ◌⊎◌, ℕ, zero, suc, ◌+◌, ◌-◌, ◌<◌, ◌≤◌, List, [], ◌∷◌, ◌++◌, set, length, All, Contains, Some, slice_get, unwrap_or}
use Rattle.std.specs.declared.cmp.Ordering.{Ordering}
use Rattle.std.proofs.Common.{get_or}
use Rattle.std.proofs.lemmas.Bool.{cases_eq}
use Rattle.std.proofs.lemmas.List.{get_or-map, map-set, get_or-set_same, get_or-set_other, get_or-replicate, length-replicate, length-set}
use Rattle.std.proofs.lemmas.List.Elements.{All-append, All-contains, All-cons, All-map, All-nil, All-set, Contains-append_left, Contains-append_right}
use Rattle.std.proofs.lemmas.Option.{get_or_from_slice_get, slice_get-get_or, slice_get_within}
use Rattle.std.proofs.Math.Seq.{map-set_same}
use mathlib.Core.Logic.{inl, inr}
use mathlib.Core.Path.{refl, sym, ap, ◌∙◌, subst}
use native.Mathlib.Omega.{arith}
use Rattle.hp_algebra.specs.Ring.{RingOf, IsField}
use Rattle.hp_algebra.proofs.Rings.{mul_zero}
use Rattle.hp_lists.proofs.Members.{Contains-here}
use Rattle.hp_mono.specs.declared.term.Term.{Term}
use Rattle.hp_mono.specs.Monomials.{Monomial, IsMonomial, Divides, degree, max_degree, product}
use Rattle.hp_mono.specs.TermOrders.{IsTermOrder, IsTermWithin, TermDivides, times}
use Rattle.hp_poly.specs.Polynomials.{poly_degree, term_poly}
use Rattle.hp_poly.specs.Degrees.{degree_most}
use Rattle.hp_module.specs.Vectors.{Vector, vector_plus, vector_scale}
use Rattle.hp_module.specs.FreeModules.{FreeModule, IsFreeModule, degree_of, plus_term, term_degree}
use Rattle.hp_module.specs.Leads.{AreLed, IsGreatestTerm, lead_at, member_at, no_term}
use Rattle.hp_module.specs.Divisions.{HasNoDivisor, IsSubtracted, IsTaken}
use Rattle.hp_module.specs.FallingTerms.{AreDivisors, AreFalling, Divisor, Divisors, IsDivisor, free_module, no_divisors, vector_of, with_leads, with_member}
use Rattle.hp_module.proofs.VectorCoefficients.{coefficient-value}
use Rattle.hp_module.proofs.GreatestTerms.{greatest-at, greatest-unique}
use Rattle.hp_module.proofs.OrderedTerms.{degree-times}
use Rattle.hp_module.proofs.DividedParts.{keys-back, parts-vector}

module _ {X : Type 0} where
  Some-same : {x y : X} → Some x ≡ Some y → x ≡ y
  Some-same {x} {y} e = ap (λ z. unwrap_or z x) e

  slice-left : (xs ys : List X) (i : ℕ) (x : X) → slice_get xs i ≡ Some x → slice_get (xs ++ ys) i ≡ Some x
  slice-left [] ys i x e = absurd (omega (arith, slice_get_within [] i x e))
  slice-left (y ∷ xs) ys zero x e = e
  slice-left (y ∷ xs) ys (suc i) x e = slice-left xs ys i x e

  slice-cases : (xs : List X) (y : X) (i : ℕ) (x : X) → slice_get (xs ++ y ∷ []) i ≡ Some x
      → (slice_get xs i ≡ Some x) ⊎ ((i ≡ length xs) × (y ≡ x))
  slice-cases [] y zero x e = inr (refl, get_or_from_slice_get (y ∷ []) 0 x x e)
  slice-cases [] y (suc i) x e = absurd (omega (arith, slice_get_within (y ∷ []) (suc i) x e))
  slice-cases (z ∷ xs) y zero x e = inl e
  slice-cases (z ∷ xs) y (suc i) x e = elim (slice-cases xs y i x e) [
    | inl a ↦ inl a
    | inr b ↦ inr (omega (arith, b.0), b.1)
  ]

  slice-last : (xs : List X) (y : X) → slice_get (xs ++ y ∷ []) (length xs) ≡ Some y
  slice-last [] y = refl
  slice-last (z ∷ xs) y = slice-last xs y

  slice-set_at : (xs : List X) (i : ℕ) (y : X) → i < length xs → slice_get (set xs i y) i ≡ Some y
  slice-set_at [] i y l = absurd (omega (arith, l))
  slice-set_at (x ∷ xs) zero y l = refl
  slice-set_at (x ∷ xs) (suc i) y l = slice-set_at xs i y (omega (arith, l))

  slice-set_other : (xs : List X) (i j : ℕ) (y : X) → j ≢ i → slice_get (set xs i y) j ≡ slice_get xs j
  slice-set_other [] i j y n = refl
  slice-set_other (x ∷ xs) zero zero y n = absurd (n refl)
  slice-set_other (x ∷ xs) zero (suc j) y n = refl
  slice-set_other (x ∷ xs) (suc i) zero y n = refl
  slice-set_other (x ∷ xs) (suc i) (suc j) y n = slice-set_other xs i j y (λ e. n (ap suc e))

  slice-set_same : (xs : List X) (i : ℕ) (y x : X) → i < length xs → slice_get (set xs i y) i ≡ Some x → y ≡ x
  slice-set_same xs i y x l e = Some-same (sym (slice-set_at xs i y l) ∙ e)

module _ {F : Type 0} (ring : RingOf F) (cmp : Term → Term → Ordering) (width : ℕ) where
  -- no member
  pub divisors-none : {n : ℕ} → n ≡ width → AreDivisors ring cmp width (no_divisors n)
  divisors-none {n} e = record {
    members = All-nil (IsDivisor ring cmp width);
    long = length-replicate {A = List (Monomial × ℕ)} n [] ∙ e;
    listed = λ j m h. absurd (omega (arith, slice_get_within [] j m h));
    places = λ c l.
        let U : Monomial × ℕ → Type 0 = λ u. (m : Divisor F) × (slice_get [] u.1 ≡ Some m) × (m.lead ≡ record { mono = u.0; comp = c + 1 }) in
        subst (All U) (sym (get_or-replicate n c [] [] (omega (arith, l, e)))) (All-nil U);
  }

  -- one member more
  pub divisors-with : {d : Divisors F} {m : Divisor F} → AreDivisors ring cmp width d → IsDivisor ring cmp width m
      → 1 ≤ m.lead.comp → m.lead.comp ≤ width → AreDivisors ring cmp width (with_member d m)
  divisors-with {d} {m} a h low high =
      let k = m.lead.comp - 1 in
      let e : Monomial × ℕ = (m.lead.mono, length d.members) in
      let old = get_or d.listed k [] in
      let new = old ++ e ∷ [] in
      let inside : k < length d.listed = omega (arith, low, high, a.long) in
      let same = get_or-set_same d.listed k new [] inside in
      let other : (c : ℕ) → c ≢ k → get_or (set d.listed k new) c [] ≡ get_or d.listed c [] =
      λ c o. get_or-set_other d.listed k c new [] o in
      let D : Divisor F → Type 0 = IsDivisor ring cmp width in
      record {
        members = All-append D d.members (m ∷ []) a.members (All-cons D m [] h (All-nil D));
        long = length-set d.listed k new ∙ a.long;
        listed = λ j n f. elim (slice-cases d.members m j n f) [
          | inl g ↦
              let u : Monomial × ℕ = (n.lead.mono, j) in
              let c = a.listed j n g in
              elim (cases_eq (n.lead.comp - 1) k) [
                | inl s ↦ subst (λ i. Contains (get_or (set d.listed k new) i []) u) (sym s)
                    (subst (λ l. Contains l u) (sym same) (Contains-append_left old (e ∷ []) u (subst (λ i. Contains (get_or d.listed i []) u) s c)))
                | inr o ↦ subst (λ l. Contains l u) (sym (other (n.lead.comp - 1) o)) c
              ]
          | inr w ↦
              subst (λ x. Contains (get_or (set d.listed k new) (x.lead.comp - 1) []) (x.lead.mono, j)) w.1
              (subst (λ i. Contains (get_or (set d.listed k new) k []) (m.lead.mono, i)) (sym w.0)
              (subst (λ l. Contains l e) (sym same) (Contains-append_right old (e ∷ []) e (Contains-here e []))))
        ];
        places = λ c l.
            let U : Monomial × ℕ → Type 0 = λ u. (n : Divisor F) × (slice_get (d.members ++ m ∷ []) u.1 ≡ Some n) × (n.lead ≡ record { mono = u.0; comp = c + 1 }) in
            let kept : All U (get_or d.listed c []) =
            λ i x n. let w = a.places c l i x n in (w.0, slice-left d.members (m ∷ []) _ w.0 w.1, w.2) in
            elim (cases_eq c k) [
              | inl s ↦
                  let back : m.lead.comp ≡ c + 1 = omega (arith, s, low) in
                  let last : U e = (m, slice-last d.members m, ap (λ n. record { mono = m.lead.mono; comp = n }) back) in
                  subst (All U) (sym (ap (λ i. get_or (set d.listed k new) i []) s ∙ same))
                  (All-append U old (e ∷ []) (subst (λ i. All U (get_or d.listed i [])) s kept) (All-cons U e [] last (All-nil U)))
              | inr o ↦ subst (All U) (sym (other c o)) kept
            ];
      }

  -- a member's place is taken by one with the same lead
  pub divisors-replaced : {d : Divisors F} {m n : Divisor F} {place : ℕ} → AreDivisors ring cmp width d → place < length d.members
      → get_or d.members place m ≡ m → IsDivisor ring cmp width n → n.lead ≡ m.lead
      → AreDivisors ring cmp width (record { members = set d.members place n; listed = d.listed })
  divisors-replaced {d} {m} {n} {place} a l here h same =
      let old : slice_get d.members place ≡ Some m = slice_get-get_or d.members place m l ∙ ap Some here in
      record {
        members = All-set (IsDivisor ring cmp width) d.members place n h a.members;
        long = a.long;
        listed = λ j x f. elim (cases_eq j place) [
          | inl e ↦
              let y : x ≡ n = sym (slice-set_same d.members place n x l (subst (λ i. slice_get (set d.members place n) i ≡ Some x) e f)) in
              let u : x.lead ≡ m.lead = ap (λ z. z.lead) y ∙ same in
              subst (λ (t : Term). Contains (get_or d.listed (t.comp - 1) []) (t.mono, j)) (sym u)
              (a.listed j m (subst (λ i. slice_get d.members i ≡ Some m) (sym e) old))
          | inr o ↦ a.listed j x (sym (slice-set_other d.members place j n o) ∙ f)
        ];
        places = λ c b i x w.
            let k = a.places c b i x w in
            let u : Monomial × ℕ = get_or (get_or d.listed c []) i x in
            elim (cases_eq u.1 place) [
              | inl e ↦
                  let y : m ≡ k.0 = Some-same (sym old ∙ subst (λ z. slice_get d.members z ≡ Some k.0) e k.1) in
                  (n, subst (λ z. slice_get (set d.members place n) z ≡ Some n) (sym e) (slice-set_at d.members place n l), same ∙ ap (λ z. z.lead) y ∙ k.2)
              | inr o ↦ (k.0, slice-set_other d.members place u.1 n o ∙ k.1, k.2)
            ];
      }

  -- then the vectors differ at this place, and the leads do not
  pub replaced-members : (d : Divisors F) (n : Divisor F) (place : ℕ)
      → (with_leads ring (record { members = set d.members place n; listed = d.listed })).members
      ≡ set (with_leads ring d).members place (vector_of ring n.parts)
  replaced-members d n place = map-set (λ (x : Divisor F). vector_of ring x.parts) d.members place n

  pub replaced-leads : (d : Divisors F) (m n : Divisor F) (place : ℕ) → get_or d.members place m ≡ m → n.lead ≡ m.lead
      → (with_leads ring (record { members = set d.members place n; listed = d.listed })).leads ≡ (with_leads ring d).leads
  replaced-leads d m n place here same =
      map-set_same (λ (x : Divisor F). x.lead) d.members place n m (same ∙ sym (ap (λ (x : Divisor F). x.lead) here))

  -- the member and the lead at a place
  pub member-at : (d : Divisors F) (i : ℕ) (m : Divisor F) → i < length d.members → get_or d.members i m ≡ m
      → (member_at (with_leads ring d) i ≡ vector_of ring m.parts) × (lead_at (with_leads ring d) i ≡ m.lead)
  member-at d i m l e = (
    get_or-map (λ n. vector_of ring n.parts) d.members i m [] l ∙ ap (λ n. vector_of ring n.parts) e,
    get_or-map (λ n. n.lead) d.members i m no_term l ∙ ap (λ n. n.lead) e,
  )

  -- a listed lead that divides the term
  pub divisor-found : {d : Divisors F} → AreDivisors ring cmp width d → {t : Term} → IsTermWithin width t
      → (u : Monomial × ℕ) → Contains (get_or d.listed (t.comp - 1) []) u → (q : Monomial) → product q u.0 ≡ t.mono
      → (u.1 < length d.members) × (times q (lead_at (with_leads ring d) u.1) ≡ t)
  divisor-found {d} a {t} h u c q p =
      let k = t.comp - 1 in
      let U : Monomial × ℕ → Type 0 = λ u. (n : Divisor F) × (slice_get d.members u.1 ≡ Some n) × (n.lead ≡ record { mono = u.0; comp = k + 1 }) in
      let w = All-contains U (get_or d.listed k []) u (a.places k (omega (arith, h.1, h.2))) c in
      let n = slice_get_within d.members u.1 w.0 w.1 in
      let e = (member-at d u.1 w.0 n (get_or_from_slice_get d.members u.1 w.0 w.0 w.1)).1 in
      let back : k + 1 ≡ t.comp = omega (arith, h.1) in
      (n, ap (times q) (e ∙ w.2) ∙ (λ i. record { mono = p i; comp = back i }))

  -- none of the listed leads divides the term
  pub no-divisor : {d : Divisors F} → AreDivisors ring cmp width d → {t : Term} → IsTermWithin width t
      → All (λ u. ¬ (Divides u.0 t.mono)) (get_or d.listed (t.comp - 1) []) → HasNoDivisor (with_leads ring d) t
  no-divisor {d} a {t} h none =
      let N : Monomial × ℕ → Type 0 = λ u. ¬ (Divides u.0 t.mono) in
      All-map (λ u. ¬ (TermDivides u t)) (λ (m : Divisor F). m.lead) d.members (λ j x l w.
      let m = get_or d.members j x in
      let c = a.listed j m (slice_get-get_or d.members j x l) in
      let comp : m.lead.comp ≡ t.comp = ap (λ (s : Term). s.comp) w.2 in
      All-contains N (get_or d.listed (t.comp - 1) []) (m.lead.mono, j) none
      (subst (λ i. Contains (get_or d.listed (i - 1) []) (m.lead.mono, j)) comp c) (w.0, w.1, ap (λ (s : Term). s.mono) w.2))

module _ {F : Type 0} {ring : RingOf F} {inverse : F → F} (field : IsField ring inverse) (cmp : Term → Term → Ordering) (width : ℕ)
    (order : IsTermOrder width cmp) (shifts : List ℕ) where
  abbrev M : FreeModule F
  M = free_module ring inverse width shifts cmp

  abbrev L : IsFreeModule M
  L = record { field = field; order = order }

  pub lead-nonzero : {rest : Vector F} {t : Term} {c : F} → AreFalling ring cmp width rest
      → IsGreatestTerm cmp (vector_of ring rest) t c → c ≢ ring.zero
  lead-nonzero {rest} {t} {c} f g = (greatest-at L (vector_of ring rest) t c (parts-vector field cmp width order rest f) g).2

  -- a divisor whose vector has the same greatest term as that of a member
  pub replaced-divisor : {d : Divisors F} → AreDivisors ring cmp width d → (place : ℕ) (m n : Divisor F) → place < length d.members
      → get_or d.members place m ≡ m → AreFalling ring cmp width n.parts → n.lead ≡ m.lead → n.inverse ≡ m.inverse
      → (v : Vector F) → vector_of ring n.parts ≡ v
      → ((c : F) × IsGreatestTerm cmp (member_at (with_leads ring d) place) (lead_at (with_leads ring d) place) c
      × IsGreatestTerm cmp v (lead_at (with_leads ring d) place) c)
      → IsDivisor ring cmp width n
  replaced-divisor {d} a place m n l here f same_lead same_inverse v value x =
      let D : IsDivisor ring cmp width m = subst (IsDivisor ring cmp width) here (a.members place m l) in
      let at = member-at ring cmp width d place m l here in
      let old : IsGreatestTerm cmp (vector_of ring m.parts) m.lead x.0 =
      subst (λ t. IsGreatestTerm cmp (vector_of ring m.parts) t x.0) at.1
      (subst (λ w. IsGreatestTerm cmp w (lead_at (with_leads ring d) place) x.0) at.0 x.1) in
      let first : D.first ≡ x.0 =
      (greatest-unique L (vector_of ring m.parts) m.lead m.lead D.first x.0 (parts-vector field cmp width order m.parts D.falling) D.greatest old).1 in
      record {
        falling = f;
        first = x.0;
        greatest = subst (λ t. IsGreatestTerm cmp (vector_of ring n.parts) t x.0) (sym same_lead)
            (subst (λ w. IsGreatestTerm cmp w m.lead x.0) (sym value) (subst (λ t. IsGreatestTerm cmp v t x.0) at.1 x.2));
        inverse_value = subst ring.IsValue (sym same_inverse) D.inverse_value;
        inverse_is = ap (λ i. ring.mul i x.0) same_inverse ∙ ap (ring.mul m.inverse) (sym first) ∙ D.inverse_is;
      }

  module _ {d : Divisors F} (a : AreDivisors ring cmp width d) (led : AreLed M (with_leads ring d)) (place : ℕ) (m : Divisor F)
      (l : place < length d.members) (here : get_or d.members place m ≡ m) where
    D : IsDivisor ring cmp width m
    D = subst (IsDivisor ring cmp width) here (a.members place m l)

    at : (member_at (with_leads ring d) place ≡ vector_of ring m.parts) × (lead_at (with_leads ring d) place ≡ m.lead)
    at = member-at ring cmp width d place m l here

    long : place < length (with_leads ring d).members
    long = omega (arith, l, Rattle.std.proofs.lemmas.List.length-map d.members (λ n. vector_of ring n.parts))

    lead_in : IsTermWithin width m.lead
    lead_in = (greatest-at L (vector_of ring m.parts) m.lead D.first (parts-vector field cmp width order m.parts D.falling) D.greatest).0

    first_value : ring.IsValue D.first
    first_value =
        let v = vector_of ring m.parts in
        let hv = parts-vector field cmp width order m.parts D.falling in
        subst ring.IsValue (greatest-at L v m.lead D.first hv D.greatest).1 (coefficient-value field.is_ring field.commutes width v m.lead hv)

    pub divisor-falling : AreFalling ring cmp width m.parts
    divisor-falling = D.falling

    pub divisor-inverse : ring.IsValue m.inverse
    divisor-inverse = D.inverse_value

    -- the terms of the multiple are not above the degree of its lead
    pub multiple-degrees : (q : Monomial) → IsMonomial q → term_degree shifts (times q (lead_at (with_leads ring d) place)) ≤ max_degree
        → (j : ℕ) → j < width → degree q + poly_degree ring (get_or m.parts j []) ≤ max_degree
    multiple-degrees q iq h j n =
        let e = degree_of M m.lead in
        let graded = subst (λ v. Rattle.hp_module.specs.FreeModules.IsGraded shifts e v) at.0
        (subst (λ t. Rattle.hp_module.specs.FreeModules.IsGraded shifts (degree_of M t) (member_at (with_leads ring d) place)) at.1 (led.homogeneous place long)) in
        let total : degree q + e ≤ max_degree =
        subst (λ n. n ≤ max_degree) (degree-times M q m.lead iq lead_in.0) (subst (λ t. degree_of M (times q t) ≤ max_degree) at.1 h) in
        let each = keys-back field cmp width order (λ b. degree_of M b ≡ e) m.parts D.falling graded j n in
        let most = degree_most field.is_ring field.commutes (max_degree - degree q) (get_or m.parts j []) (λ i x k.
        let y = each i x k in omega (arith, y, total)) in
        omega (arith, most, total)

    module _ (c f : F) (vc : ring.IsValue c) (f_is : f ≡ ring.mul c m.inverse) where
      factor_value : ring.IsValue f
      factor_value = subst ring.IsValue (sym f_is) (field.is_ring.mul_value c m.inverse vc D.inverse_value)

      factor_is : ring.mul f D.first ≡ c
      factor_is =
          ap (λ x. ring.mul x D.first) f_is ∙ field.is_ring.mul_assoc c m.inverse D.first vc D.inverse_value first_value
          ∙ ap (ring.mul c) D.inverse_is ∙ field.is_ring.mul_one c vc

      -- the factor isn't zero, nor its negative
      pub factor-nonzero : c ≢ ring.zero → ring.neg f ≢ ring.zero
      factor-nonzero n z =
          let f_zero : f ≡ ring.zero =
          sym (field.is_ring.add_zero f factor_value) ∙ ap (ring.add f) (sym z) ∙ field.is_ring.add_neg f factor_value in
          n (sym factor_is ∙ field.commutes f D.first factor_value first_value ∙ ap (ring.mul D.first) f_zero ∙ mul_zero field.is_ring D.first first_value)

      pub taken : {rest rest' : Vector F} (q : Monomial) → IsMonomial q
          → IsGreatestTerm cmp rest (times q (lead_at (with_leads ring d) place)) c
          → rest' ≡ vector_plus ring rest (vector_scale ring (term_poly ring (ring.neg f) q) (vector_of ring m.parts))
          → IsTaken M (with_leads ring d) place (times q (lead_at (with_leads ring d) place)) rest rest'
      taken {rest} {rest'} q iq top rest_is = record {
        mono = q;
        is_mono = iq;
        is_lead = refl;
        first = c;
        rest_first = top;
        member_first = D.first;
        member_lead = subst (λ v. IsGreatestTerm cmp v (lead_at (with_leads ring d) place) D.first) (sym at.0)
            (subst (λ t. IsGreatestTerm cmp (vector_of ring m.parts) t D.first) (sym at.1) D.greatest);
        factor = f;
        factor_value = factor_value;
        factor_is = factor_is;
        rest_is = rest_is ∙ ap (λ v. vector_plus ring rest (vector_scale ring (term_poly ring (ring.neg f) q) v)) (sym at.0);
      }

      pub subtracted : {rest qs rest' qs' : Vector F} (q : Monomial) → IsMonomial q
          → IsGreatestTerm cmp rest (times q (lead_at (with_leads ring d) place)) c
          → rest' ≡ vector_plus ring rest (vector_scale ring (term_poly ring (ring.neg f) q) (vector_of ring m.parts))
          → qs' ≡ plus_term ring qs (record { mono = q; comp = place + 1 }) f
          → IsSubtracted M (with_leads ring d) place (times q (lead_at (with_leads ring d) place)) rest qs rest' qs'
      unfolding D taken
      subtracted {rest} {qs} {rest'} {qs'} q iq top rest_is qs_is =
          let x = taken q iq top rest_is in record {
            mono = q;
            is_mono = iq;
            is_lead = refl;
            first = c;
            rest_first = top;
            member_first = D.first;
            member_lead = x.member_lead;
            factor = f;
            factor_value = factor_value;
            factor_is = factor_is;
            rest_is = x.rest_is;
            quotients_are = qs_is;
          }
