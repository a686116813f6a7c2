-- The vector that has given terms for each component.
use Rattle.std.specs.Prelude.{◌≡◌, ◌≢◌, ℕ, ◌+◌, ◌-◌, ◌<◌, ◌≤◌, ◌⊎◌, List, [], ◌∷◌, ◌++◌, drop, set, Option, Some, None, IfSome, length, All}
use Rattle.std.proofs.Common.{get_or}
use Rattle.std.proofs.lemmas.List.{get_or-map, get_or_append_left, get_or_push, length-map, length-drop, length-set, get_or-drop, get_or-set_same, get_or-set_other}
use mathlib.Core.Path.{sym, ap, ◌∙◌, subst}
use native.Mathlib.Omega.{arith}
use Rattle.hp_algebra.specs.Ring.{RingOf, IsField}
use Rattle.hp_algebra.proofs.Rows.{get_or-plus, length-plus, length-scale, row-ext}
use Rattle.hp_algebra.specs.Rows.{row_plus, row_scale}
use Rattle.hp_algebra.proofs.Rings.{mul_zero}
use Rattle.hp_sums.specs.FiniteSums.{plus}
use Rattle.hp_sums.proofs.Collected.{sum-values}
use Rattle.hp_poly.specs.PolyRing.{poly_is_ring, poly_of-IsPoly, term_poly-IsPoly}
use Rattle.hp_module.specs.ComponentLaws.{component-same, component-total}
use Rattle.hp_module.proofs.ComponentOrders.{component_setting}
use Rattle.hp_module.proofs.CollectedParts.{multiple-values, poly_of-multiple, poly_of-plus}
use Rattle.std.proofs.lemmas.Bool.{cases_eq, cases_lt}
use Rattle.std.specs.declared.cmp.Ordering.{Ordering}
use Rattle.hp_mono.specs.declared.term.Term.{Term}
use mathlib.Core.Logic.{inl, inr}
use Rattle.hp_mono.specs.Monomials.{Monomial, IsMonomial}
use Rattle.hp_poly.specs.Polynomials.{Poly, IsPoly, multiple, poly_of, poly_plus, poly_ring, poly_times, term_poly}
use Rattle.hp_mono.specs.TermOrders.{IsTermOrder, IsTermWithin}
use Rattle.hp_module.specs.Vectors.{Vector, vector_plus, vector_scale}
use Rattle.hp_module.specs.FreeModules.{terms_from}
use Rattle.hp_module.proofs.EntryTerms.{terms_all}
use Rattle.hp_module.specs.FallingTerms.{AreFalling, IsFalling, component_order, IsTerms, vector_of}

module _ {F : Type 0} {ring : RingOf F} {inverse : F → F} (field : IsField ring inverse) where
  pub poly-terms : (p : Poly F) → IsPoly ring p → IsTerms ring p
  poly-terms p f = λ i t l. (f.monomials i t l, (f.is_sum.values i t l).0, (f.is_sum.values i t l).1)

-- Falling terms of component j + 1 for an entry of a vector.
pub record IsPartFor {F : Type 0} (ring : RingOf F) (cmp : Term → Term → Ordering) (v : Vector F) (j : ℕ) (xs : Poly F) : Type 0 where
  pub falling : IsFalling ring cmp (j + 1) xs
  pub value : poly_of ring xs ≡ get_or v j []

-- the vector with these terms has the entries that they give
pub vector_of-entries : {F : Type 0} (ring : RingOf F) (parts v : Vector F) → length v ≡ length parts
    → ((j : ℕ) → j < length parts → poly_of ring (get_or parts j []) ≡ get_or v j []) → vector_of ring parts ≡ v
vector_of-entries ring parts v l each =
    let long = length-map parts (poly_of ring) in
    row-ext (poly_ring ring) (length parts) (vector_of ring parts) v long l (λ j h. get_or-map (poly_of ring) parts j [] [] h ∙ each j h)

-- a fact of each member of a list, and of one more
pub pushed : {X : Type 0} (e : X) (P : ℕ → X → Type 0) (xs ys : List X) (x : X) (k : ℕ) → ys ≡ xs ++ x ∷ [] → length xs ≡ k
    → ((j : ℕ) → j < k → P j (get_or xs j e)) → P k x → (j : ℕ) → j < k + 1 → P j (get_or ys j e)
pushed e P xs ys x k w l each here j h =
    subst (λ zs. P j (get_or zs j e)) (sym w)
    (elim (cases_lt j k) [
      | inl low ↦ subst (P j) (sym (get_or_append_left xs (x ∷ []) e j (omega (arith, low, l)))) (each j low)
      | inr high ↦ let s : k ≡ j = omega (arith, h, high) in
          subst (P j) (sym (get_or_push xs x e j (omega (arith, s, l)))) (subst (λ n. P n x) s here)
    ])

-- the lead is the first term of its component
pub first_from : {F : Type 0} (parts : Vector F) (later result : Option (Term × F)) (k : ℕ) {ts : Poly F}
    → (result ≡ later) ⊎ IfSome result (λ l. (l.0.comp ≡ k + 1) × ((p : Poly F) × (ts ≡ (l.0.mono, l.1) ∷ p)))
    → IfSome later (λ l. (p : Poly F) × (get_or parts (l.0.comp - 1) [] ≡ (l.0.mono, l.1) ∷ p)) → get_or parts k [] ≡ ts
    → IfSome result (λ l. (p : Poly F) × (get_or parts (l.0.comp - 1) [] ≡ (l.0.mono, l.1) ∷ p))
first_from {F} parts later result k {ts} (inl e) h s =
    subst (λ r. IfSome r (λ l. (p : Poly F) × (get_or parts (l.0.comp - 1) [] ≡ (l.0.mono, l.1) ∷ p))) (sym e) h
first_from {F} parts later None k {ts} (inr w) h s = tt
first_from {F} parts later (Some l) k {ts} (inr w) h s =
    let back : l.0.comp - 1 ≡ k = omega (arith, w.0) in
    (w.1.0, ap (λ n. get_or parts n []) back ∙ s ∙ w.1.1)

-- the terms of falling parts are terms of the module
pub parts-within : {F : Type 0} (ring : RingOf F) (cmp : Term → Term → Ordering) (width : ℕ) (parts : Vector F) (m : ℕ)
    → AreFalling ring cmp width parts → All (λ t. IsTermWithin width t.0) (terms_from (m + 1) (drop m parts))
parts-within {F} ring cmp width parts m f =
    terms_all (λ t. IsTermWithin width t.0) (m + 1) (drop m parts) (λ j l.
    let long = length-drop m parts in
    let within : m + j < width = omega (arith, l, long, f.long) in
    let low : 1 ≤ m + 1 + j = omega arith in
    let high : m + 1 + j ≤ width = omega (arith, within) in
    let monos = (f.each (m + j) within).monomials in
    subst (All (λ (t : Monomial × F). IsTermWithin width (record { mono = t.0; comp = m + 1 + j }))) (sym (get_or-drop m parts j []))
    (λ i d h. (monos i d h, low, high)))

-- A multiple is being added to falling terms: it is added in the components before k, and those from k on are as they were.
pub record IsAdding {F : Type 0} (ring : RingOf F) (cmp : Term → Term → Ordering) (width : ℕ) (c : F) (m : Monomial) (old parts : Vector F) (k : ℕ) (rest : Vector F) : Type 0 where
  pub falling : AreFalling ring cmp width rest
  pub done : (j : ℕ) → j < k → poly_of ring (get_or rest j [])
      ≡ poly_plus ring (poly_of ring (get_or old j [])) (poly_times ring (term_poly ring c m) (poly_of ring (get_or parts j [])))
  pub kept : (j : ℕ) → k ≤ j → get_or rest j [] ≡ get_or old j []

module _ {F : Type 0} {ring : RingOf F} {inverse : F → F} (field : IsField ring inverse) (cmp : Term → Term → Ordering) (width : ℕ)
    (order : IsTermOrder width cmp) {c : F} {m : Monomial} {old parts : Vector F} (parts_fall : AreFalling ring cmp width parts) where
  -- nothing is added where the member is zero
  pub adding-skip : {k : ℕ} {rest : Vector F} → k < width → ring.IsValue c → IsMonomial m → AreFalling ring cmp width old
      → IsAdding ring cmp width c m old parts k rest
      → get_or parts k [] ≡ [] → IsAdding ring cmp width c m old parts (k + 1) rest
  adding-skip {k} {rest} l vc im old_fall a e = record {
    falling = a.falling;
    done = λ j h. elim (cases_lt j k) [
      | inl low ↦ a.done j low
      | inr high ↦ let s : j ≡ k = omega (arith, h, high) in
          let PR = poly_is_ring field.is_ring field.commutes in
          let here = old_fall.each j (omega (arith, s, l)) in
          let S = component_setting width cmp order (j + 1) (omega arith) (omega (arith, s, l)) field.is_ring field.commutes in
          let p = poly_of-IsPoly field.is_ring field.commutes (get_or old j []) (sum-values S _ here.is_sum) here.monomials in
          let none : poly_of ring (get_or parts j []) ≡ [] = ap (poly_of ring) (ap (λ n. get_or parts n []) s ∙ e) in
          ap (poly_of ring) (a.kept j high)
          ∙ sym (PR.add_zero _ p)
          ∙ ap (poly_plus ring (poly_of ring (get_or old j []))) (sym (ap (poly_times ring (term_poly ring c m)) none ∙ mul_zero PR (term_poly ring c m) (term_poly-IsPoly field.is_ring field.commutes c m vc im)))
    ];
    kept = λ j h. a.kept j (omega (arith, h));
  }

  -- the multiple is added in a component
  pub adding-sum : {k : ℕ} {rest new : Vector F} {sum : Poly F} → k < width → ring.IsValue c → c ≢ ring.zero → IsMonomial m
      → IsAdding ring cmp width c m old parts k rest → IsFalling ring cmp (k + 1) sum
      → sum ≡ plus (component_order cmp (k + 1)) ring (get_or rest k []) (multiple ring c m (get_or parts k []))
      → new ≡ set rest k sum → IsAdding ring cmp width c m old parts (k + 1) new
  adding-sum {k} {rest} {new} {sum} l vc n im a f e w =
      let inside : k < length rest = omega (arith, l, a.falling.long) in
      let at : get_or new k [] ≡ sum = ap (λ v. get_or v k []) w ∙ get_or-set_same rest k sum [] inside in
      let other : (j : ℕ) → j ≢ k → get_or new j [] ≡ get_or rest j [] =
      λ j o. ap (λ v. get_or v j []) w ∙ get_or-set_other rest k j sum [] o in
      let low : 1 ≤ k + 1 = omega arith in
      let high : k + 1 ≤ width = omega (arith, l) in
      let S = component_setting width cmp order (k + 1) low high field.is_ring field.commutes in
      let here = a.falling.each k l in
      let part = parts_fall.each k l in
      let vr = sum-values S _ here.is_sum in
      let vp = sum-values S _ part.is_sum in
      record {
        falling = record {
          long = ap length w ∙ length-set rest k sum ∙ a.falling.long;
          each = λ j h. elim (cases_eq j k) [
            | inl s ↦ subst (λ i. IsFalling ring cmp (i + 1) (get_or new i [])) (sym s) (subst (IsFalling ring cmp (k + 1)) (sym at) f)
            | inr o ↦ subst (IsFalling ring cmp (j + 1)) (sym (other j o)) (a.falling.each j h)
          ];
        };
        done = λ j h. elim (cases_eq j k) [
          | inl s ↦
              let q = component-total width cmp order (k + 1) low high in
              let u = component-same width cmp order (k + 1) low high in
              ap (λ i. poly_of ring (get_or new i [])) s ∙ ap (poly_of ring) (at ∙ e)
              ∙ poly_of-plus field (component_order cmp (k + 1)) q u (get_or rest k []) (multiple ring c m (get_or parts k [])) vr (multiple-values field c m _ vc vp)
              ∙ (λ i. poly_plus ring (poly_of ring (a.kept k (omega arith) i)) (poly_of-multiple field c m (get_or parts k []) vc n im vp part.monomials i))
              ∙ ap (λ i. poly_plus ring (poly_of ring (get_or old i [])) (poly_times ring (term_poly ring c m) (poly_of ring (get_or parts i [])))) (sym s)
          | inr o ↦ ap (poly_of ring) (other j o) ∙ a.done j (omega (arith, h, o))
        ];
        kept = λ j h. other j (λ q. absurd (omega (arith, q, h))) ∙ a.kept j (omega (arith, h));
      }

  -- the end
  pub adding-end : {k : ℕ} {rest : Vector F} → AreFalling ring cmp width old → width ≤ k → IsAdding ring cmp width c m old parts k rest
      → vector_of ring rest ≡ vector_plus ring (vector_of ring old) (vector_scale ring (term_poly ring c m) (vector_of ring parts))
  adding-end {k} {rest} old_fall l a =
      let P = poly_ring ring in
      let lo = length-map old (poly_of ring) in
      let lp = length-map parts (poly_of ring) in
      let ls = length-scale P (term_poly ring c m) (vector_of ring parts) in
      let wide : length (vector_of ring old) ≡ length (row_scale P (term_poly ring c m) (vector_of ring parts)) =
      omega (arith, lo, lp, ls, old_fall.long, parts_fall.long) in
      let sum_long : length (row_plus P (vector_of ring old) (row_scale P (term_poly ring c m) (vector_of ring parts))) ≡ length rest =
      omega (arith, length-plus P (vector_of ring old) (row_scale P (term_poly ring c m) (vector_of ring parts)) wide, lo, old_fall.long, a.falling.long) in
      vector_of-entries ring rest (row_plus P (vector_of ring old) (row_scale P (term_poly ring c m) (vector_of ring parts))) sum_long (λ j h.
      let in_old : j < length old = omega (arith, h, old_fall.long, a.falling.long) in
      let in_parts : j < length parts = omega (arith, h, parts_fall.long, a.falling.long) in
      a.done j (omega (arith, h, a.falling.long, l))
      ∙ (λ i. poly_plus ring (sym (get_or-map (poly_of ring) old j [] [] in_old) i) (poly_times ring (term_poly ring c m) (sym (get_or-map (poly_of ring) parts j [] [] in_parts) i)))
      ∙ ap (poly_plus ring (get_or (vector_of ring old) j [])) (sym (get_or-map (poly_times ring (term_poly ring c m)) (vector_of ring parts) j [] [] (omega (arith, in_parts, lp))))
      ∙ sym (get_or-plus P (vector_of ring old) (row_scale P (term_poly ring c m) (vector_of ring parts)) j [] (omega (arith, in_old, lo)) wide))
