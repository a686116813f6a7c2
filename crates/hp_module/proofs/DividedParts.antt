-- Falling terms and the vector that has them: the same terms occur, the first of all is the greatest, and single steps.
use Rattle.std.specs.Prelude.{◌≡◌, ◌≢◌, ℕ, ◌+◌, ◌-◌, ◌<◌, [], ◌∷◌, ◌++◌, drop, set, length, All, Contains}
use Rattle.std.specs.declared.cmp.Ordering.{Ordering}
use Rattle.std.specs.declared.cmp.Ordering.TheVariants.{Less}
use Rattle.std.specs.Prelude.{cond}
use Rattle.std.proofs.Common.{get_or}
use Rattle.std.proofs.lemmas.Bool.{cases_eq}
use Rattle.std.proofs.lemmas.List.{get_or-map, get_or-set_same, get_or-set_other, get_or_default, length-map, length-set, map-set}
use Rattle.std.proofs.lemmas.List.Elements.{All-append, All-contains, All-cons, All-head, All-map, All-nil, All-tail}
use mathlib.Core.Logic.{inl, inr}
use mathlib.Core.Path.{refl, sym, ap, ◌∙◌, subst}
use native.Mathlib.Omega.{arith}
use Rattle.hp_algebra.specs.Ring.{RingOf, IsRing, IsCommutative, IsField}
use Rattle.hp_algebra.proofs.Rows.{zero_row-ext}
use Rattle.hp_mono.specs.declared.term.Term.{Term}
use Rattle.hp_mono.specs.Monomials.{Monomial, IsMonomial}
use Rattle.hp_mono.specs.TermOrders.{IsTermOrder, IsTermWithin}
use Rattle.hp_sums.specs.FiniteSums.{HasValues, total}
use Rattle.hp_sums.proofs.SumSetting.{SumSetting}
use Rattle.hp_sums.proofs.Collected.{coefficient-collect, collect-IsSum, collect-keys, sum-total, sum-values}
use Rattle.hp_sums.proofs.EqualTotals.{occurs-at, own-terms}
use Rattle.hp_poly.specs.Polynomials.{Poly, IsPoly, from_greatest, poly_of, poly_plus, term_poly}
use Rattle.hp_poly.specs.PolySetting.{poly_setting}
use Rattle.hp_poly.specs.PolyRing.{poly_is_ring, poly_of-IsPoly}
use Rattle.hp_module.specs.Vectors.{Vector, IsVector, zero_vector}
use Rattle.hp_module.specs.FreeModules.{coefficient_at, plus_term, terms}
use Rattle.hp_module.specs.Leads.{IsGreatestTerm}
use Rattle.hp_module.specs.FallingTerms.{AreFalling, IsFalling, component_order, vector_of}
use Rattle.hp_module.proofs.VectorCoefficients.{coefficient-entry, occurs}
use Rattle.hp_module.proofs.EntryTerms.{terms_all, terms_each, terms_none}
use Rattle.hp_module.proofs.CollectedParts.{equal_tests, poly_of-push, poly_of-rest}
use Rattle.hp_module.proofs.ComponentOrders.{component_setting, falling-rest}

module _ {F : Type 0} {ring : RingOf F} {inverse : F → F} (field : IsField ring inverse) (cmp : Term → Term → Ordering) (width : ℕ)
    (order : IsTermOrder width cmp) where
  abbrev laws : IsRing ring
  laws = field.is_ring

  abbrev comm : IsCommutative ring
  comm = field.commutes

  abbrev P : SumSetting Monomial F
  P = poly_setting laws comm

  abbrev S : (j : ℕ) → j < width → SumSetting Monomial F
  S j l = component_setting width cmp order (j + 1) (omega arith) (omega (arith, l)) laws comm

  pub falling-values : (j : ℕ) → j < width → (xs : Poly F) → IsFalling ring cmp (j + 1) xs → HasValues ring xs
  falling-values j l xs f = sum-values (S j l) xs f.is_sum

  -- falling terms have their coefficients in the polynomial
  own_total : (j : ℕ) → j < width → (xs : Poly F) → IsFalling ring cmp (j + 1) xs
      → All (λ u. total from_greatest ring (poly_of ring xs) u.0 ≡ u.1) xs
  own_total j l xs f =
      let h = falling-values j l xs f in
      λ i d n.
      let b = (get_or xs i d).0 in
      sum-total P (poly_of ring xs) b (collect-IsSum P xs h) ∙ coefficient-collect P xs b h ∙ same_total b xs
      ∙ own-terms (S j l) xs f.is_sum i d n
    where
      same_total : (b : Monomial) (ys : Poly F) → total from_greatest ring ys b ≡ total (component_order cmp (j + 1)) ring ys b
      same_total b [] = refl
      same_total b (y ∷ ys) =
          let e = equal_tests P (S j l) b y.0 in
          let r = same_total b ys in
          λ i. cond (e i) (ring.add (r i) y.1) (r i)

  pub parts-vector : (parts : Vector F) → AreFalling ring cmp width parts → IsVector ring width (vector_of ring parts)
  parts-vector parts f = (
    length-map parts (poly_of ring) ∙ f.long,
    All-map (IsPoly ring) (poly_of ring) parts (λ j d l.
        let n : j < width = omega (arith, l, f.long) in
        subst (λ xs. IsPoly ring (poly_of ring xs)) (get_or_default parts j [] d l)
        (poly_of-IsPoly laws comm (get_or parts j []) (falling-values j n _ (f.each j n)) (f.each j n).monomials)),
  )

  -- what holds of all terms holds of those of the vector, and the other way round
  pub keys-all : (Q : Term → Type 0) (parts : Vector F) → All (λ s. Q s.0) (terms parts)
      → All (λ s. Q s.0) (terms (vector_of ring parts))
  keys-all Q parts g = terms_all (λ s. Q s.0) 1 (vector_of ring parts) (λ j l.
      let n : j < length parts = omega (arith, l, length-map parts (poly_of ring)) in
      subst (All (λ (t : Monomial × F). Q (record { mono = t.0; comp = 1 + j }))) (sym (get_or-map (poly_of ring) parts j [] [] n))
      (collect-keys P (λ m. Q (record { mono = m; comp = 1 + j })) (get_or parts j []) (terms_each (λ s. Q s.0) 1 parts g j n)))

  pub keys-back : (Q : Term → Type 0) (parts : Vector F) → AreFalling ring cmp width parts
      → All (λ s. Q s.0) (terms (vector_of ring parts)) → (j : ℕ) → j < width
      → All (λ t. Q (record { mono = t.0; comp = 1 + j })) (get_or parts j [])
  keys-back Q parts f g j l = λ i d n.
      let xs = get_or parts j [] in
      let fall = f.each j l in
      let u = get_or xs i d in
      let own = own_total j l xs fall i d n in
      let in_parts : j < length parts = omega (arith, l, f.long) in
      let in_vector : j < length (vector_of ring parts) = omega (arith, in_parts, length-map parts (poly_of ring)) in
      let c = occurs-at P (poly_of ring xs) u.0 (collect-IsSum P xs (falling-values j l xs fall)) (λ z. (fall.is_sum.values i d n).1 (sym own ∙ z)) in
      let e = subst (All (λ (t : Monomial × F). Q (record { mono = t.0; comp = 1 + j }))) (get_or-map (poly_of ring) parts j [] [] in_parts)
      (terms_each (λ s. Q s.0) 1 (vector_of ring parts) g j in_vector) in
      All-contains (λ (t : Monomial × F). Q (record { mono = t.0; comp = 1 + j })) (poly_of ring xs) _ e c

  -- no term: the vector is zero
  pub parts-zero : (parts : Vector F) → AreFalling ring cmp width parts → terms parts ≡ []
      → vector_of ring parts ≡ zero_vector ring width
  parts-zero parts f e =
      zero_row-ext (poly_is_ring laws comm) width (vector_of ring parts) (length-map parts (poly_of ring) ∙ f.long) (λ j h.
      let n : j < length parts = omega (arith, h, f.long) in
      get_or-map (poly_of ring) parts j [] [] n ∙ ap (poly_of ring) (terms_none 1 parts e j n))

  -- the first term of a component that no other is above is the greatest of the vector
  pub parts-greatest : (parts : Vector F) → AreFalling ring cmp width parts → (t : Term) (c : F) → IsTermWithin width t
      → ((p : Poly F) × (get_or parts (t.comp - 1) [] ≡ (t.mono, c) ∷ p)) → All (λ s. cmp t s.0 ≢ Less) (terms parts)
      → IsGreatestTerm cmp (vector_of ring parts) t c
  parts-greatest parts f t c w first g =
      let v = vector_of ring parts in
      let hv = parts-vector parts f in
      let j = t.comp - 1 in
      let p = first.0 in
      let l : j < width = omega (arith, w.1, w.2) in
      let in_parts : j < length parts = omega (arith, l, f.long) in
      let in_vector : j < length v = omega (arith, in_parts, length-map parts (poly_of ring)) in
      let back : t.comp ≡ 1 + j = omega (arith, w.1) in
      let fall = subst (IsFalling ring cmp (j + 1)) first.1 (f.each j l) in
      let O : Monomial × F → Type 0 = λ u. total from_greatest ring (poly_of ring ((t.mono, c) ∷ p)) u.0 ≡ u.1 in
      let N : Monomial × F → Type 0 = λ u. ring.IsValue u.1 × (u.1 ≢ ring.zero) in
      let own = All-head O (t.mono, c) p (own_total j l ((t.mono, c) ∷ p) fall) in
      let nonzero = (All-head N (t.mono, c) p fall.is_sum.values).1 in
      let at : coefficient_at ring v t ≡ c =
      ap (λ n. coefficient_at ring v (record { mono = t.mono; comp = n })) back
      ∙ coefficient-entry laws comm 1 j v t.mono hv.1 in_vector
      ∙ ap (λ q. total from_greatest ring q t.mono) (get_or-map (poly_of ring) parts j [] [] in_parts ∙ ap (poly_of ring) first.1) ∙ own in
      record {
        occurs = subst (λ z. Contains (terms v) (t, z)) at (occurs laws comm width v t hv (λ z. nonzero (sym at ∙ z)));
        greatest = keys-all (λ b. cmp t b ≢ Less) parts g;
      }

  -- ---- single steps

  -- other falling terms in one component
  pub falling-set : {parts new : Vector F} {k : ℕ} {p : Poly F} → AreFalling ring cmp width parts → k < width
      → IsFalling ring cmp (k + 1) p → new ≡ set parts k p → AreFalling ring cmp width new
  falling-set {parts} {new} {k} {p} f l h w =
      let inside : k < length parts = omega (arith, l, f.long) in
      let at : get_or new k [] ≡ p = ap (λ v. get_or v k []) w ∙ get_or-set_same parts k p [] inside in
      let other : (j : ℕ) → j ≢ k → get_or new j [] ≡ get_or parts j [] =
      λ j o. ap (λ v. get_or v j []) w ∙ get_or-set_other parts k j p [] o in
      record {
        long = ap length w ∙ length-set parts k p ∙ f.long;
        each = λ j n. elim (cases_eq j k) [
          | inl s ↦ subst (λ i. IsFalling ring cmp (i + 1) (get_or new i [])) (sym s) (subst (IsFalling ring cmp (k + 1)) (sym at) h)
          | inr o ↦ subst (IsFalling ring cmp (j + 1)) (sym (other j o)) (f.each j n)
        ];
      }

  -- one term more at the end of a component
  pub push-values : (xs ys : Vector F) (t : Term) (c : F) → All (HasValues ring) xs → t.comp - 1 < length xs → ring.IsValue c
      → ys ≡ set xs (t.comp - 1) (get_or xs (t.comp - 1) [] ++ (t.mono, c) ∷ []) → All (HasValues ring) ys
  push-values xs ys t c h l v w =
      let V : Monomial × F → Type 0 = λ u. ring.IsValue u.1 in
      let k = t.comp - 1 in
      let new = get_or xs k [] ++ (t.mono, c) ∷ [] in
      let here : HasValues ring new = All-append V (get_or xs k []) ((t.mono, c) ∷ []) (h k [] l) (All-cons V (t.mono, c) [] v (All-nil V)) in
      subst (All (HasValues ring)) (sym w) (λ j d n.
      elim (cases_eq j k) [
        | inl s ↦ subst (HasValues ring) (sym (ap (λ i. get_or (set xs k new) i d) s ∙ get_or-set_same xs k new d l)) here
        | inr o ↦ subst (HasValues ring) (sym (get_or-set_other xs k j new d o)) (h j d (omega (arith, n, length-set xs k new)))
      ])

  pub vector_of-push : (xs ys : Vector F) (t : Term) (c : F) → All (HasValues ring) xs → t.comp - 1 < length xs → ring.IsValue c
      → ys ≡ set xs (t.comp - 1) (get_or xs (t.comp - 1) [] ++ (t.mono, c) ∷ [])
      → vector_of ring ys ≡ plus_term ring (vector_of ring xs) t c
  vector_of-push xs ys t c h l v w =
      let k = t.comp - 1 in
      ap (vector_of ring) w ∙ map-set (poly_of ring) xs k _
      ∙ ap (set (vector_of ring xs) k) (poly_of-push field (get_or xs k []) t.mono c (h k [] l) v
      ∙ ap (λ p. poly_plus ring p (term_poly ring c t.mono)) (sym (get_or-map (poly_of ring) xs k [] [] l)))

  -- the first term of a component leaves
  pub drop-falling : (xs ys : Vector F) (t : Term) (c : F) → AreFalling ring cmp width xs → t.comp - 1 < width
      → ((p : Poly F) × (get_or xs (t.comp - 1) [] ≡ (t.mono, c) ∷ p)) → ys ≡ set xs (t.comp - 1) (drop 1 (get_or xs (t.comp - 1) []))
      → AreFalling ring cmp width ys
  drop-falling xs ys t c f l first w =
      let k = t.comp - 1 in
      let fall = subst (IsFalling ring cmp (k + 1)) first.1 (f.each k l) in
      falling-set f l (falling-rest width cmp order (k + 1) (omega arith) (omega (arith, l)) field (t.mono, c) first.0 fall)
      (w ∙ ap (λ z. set xs k (drop 1 z)) first.1)

  pub vector_of-drop : (xs ys : Vector F) (t : Term) (c : F) → AreFalling ring cmp width xs → t.comp - 1 < width
      → ((p : Poly F) × (get_or xs (t.comp - 1) [] ≡ (t.mono, c) ∷ p)) → ys ≡ set xs (t.comp - 1) (drop 1 (get_or xs (t.comp - 1) []))
      → vector_of ring ys ≡ plus_term ring (vector_of ring xs) t (ring.neg c)
  vector_of-drop xs ys t c f l first w =
      let k = t.comp - 1 in
      let p = first.0 in
      let inside : k < length xs = omega (arith, l, f.long) in
      let fall = subst (IsFalling ring cmp (k + 1)) first.1 (f.each k l) in
      let I : Monomial × F → Type 0 = λ u. IsMonomial u.0 in
      ap (vector_of ring) (w ∙ ap (λ z. set xs k (drop 1 z)) first.1) ∙ map-set (poly_of ring) xs k p
      ∙ ap (set (vector_of ring xs) k) (poly_of-rest field (t.mono, c) p (falling-values k l _ fall) (All-head I (t.mono, c) p fall.monomials) (All-tail I (t.mono, c) p fall.monomials)
      ∙ ap (λ q. poly_plus ring (poly_of ring q) (term_poly ring (ring.neg c) t.mono)) (sym first.1)
      ∙ ap (λ q. poly_plus ring q (term_poly ring (ring.neg c) t.mono)) (sym (get_or-map (poly_of ring) xs k [] [] inside)))
