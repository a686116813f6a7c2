-- Degrees and constant terms under the cancellation of a unit entry.
use Rattle.std.specs.Prelude.{◌≡◌, ◌≢◌, ℕ, zero, suc, ◌+◌, ◌≤◌, List, [], ◌∷◌, length, slice_index_or}
use mathlib.Core.Path.{refl, sym, ap, ◌∙◌, subst}
use native.Mathlib.Omega.{arith}
use Rattle.hp_algebra.specs.Ring.{RingOf, IsRing, IsCommutative, IsField}
use Rattle.hp_algebra.proofs.Rings.{mul_zero}
use Rattle.hp_minres.specs.Grids.{skip, IsGrid, eliminated}
use Rattle.hp_minres.specs.Reductions.{HasStep, constant_term}
use Rattle.hp_poly.specs.Polynomials.{Poly, IsPoly, poly_ring, poly_times, IsHomogeneous}
use Rattle.hp_poly.specs.PolyRing.{poly_is_ring}
use Rattle.hp_mono.specs.Monomials.{degree}
use Rattle.hp_minres.proofs.MinimalComplexes.{IsClean, no_columns}
use Rattle.hp_minres.proofs.CancelledComplexes.{IsCancelled, IsExactComplex, around}
use Rattle.hp_minres.proofs.ConstantTerms.{constant_negative, constant_plus, constant_times, constant_value, step_negative, step_plus, step_times}

pub past : {X : Type 0} (xs : List X) (i : ℕ) (d : X) → length xs ≤ i → slice_index_or xs i d ≡ d
past [] i d l = refl
past (x ∷ xs) zero d l = absurd (omega arith)
past (x ∷ xs) (suc i) d l = past xs i d (omega arith)

module _ {F : Type 0} where
  -- each entry has the degree of its row less that of its column
  abbrev pub IsGraded : (ℕ → ℕ → ℕ → Poly F) → (ℕ → ℕ → ℕ) → Type 0
  IsGraded A D = (k i j : ℕ) → HasStep (D k j) (D (suc k) i) (A k i j)

-- the degrees after the row r and the column c are gone
pub record AreCancelledDegrees (D : ℕ → ℕ → ℕ) (h r c : ℕ) (D' : ℕ → ℕ → ℕ) : Type 0 where
  pub columns : (j : ℕ) → D' (suc h) j ≡ D (suc h) (skip c j)
  pub rows : (i : ℕ) → D' (suc (suc h)) i ≡ D (suc (suc h)) (skip r i)
  pub others : (k : ℕ) → k ≢ suc h → k ≢ suc (suc h) → (i : ℕ) → D' k i ≡ D k i

module _ {F : Type 0} {ring : RingOf F} (laws : IsRing ring) (comm : IsCommutative ring) where
  abbrev PR : RingOf (Poly F)
  PR = poly_ring ring

  abbrev P : IsRing (poly_ring ring)
  P = poly_is_ring laws comm

  abbrev ε : Poly F → F
  ε p = constant_term ring p

  move : (a b a' b' : ℕ) (p q : Poly F) → a' ≡ a → b' ≡ b → q ≡ p → HasStep a b p → HasStep a' b' q
  move a b a' b' p q e f g s = subst (λ (t : ℕ × ℕ × Poly F). HasStep t.0 t.1 t.2) {x = (a, b, p)} {y = (a', b', q)} (λ k. (sym e k, sym f k, sym g k)) s

  pub eliminated_step : (A : ℕ → ℕ → Poly F) (m r c : ℕ) (w : Poly F) (a b : ℕ → ℕ) → IsGrid PR m A → ((i j : ℕ) → HasStep (a j) (b i) (A i j)) → a c ≡ b r → IsPoly ring w → IsHomogeneous ring 0 w
      → (i j : ℕ) → HasStep (a (skip c j)) (b (skip r i)) (eliminated PR A r c w i j)
  eliminated_step A m r c w a b g s e vw hw i j =
      let I = skip r i in
      let J = skip c j in
      let va = (g r).value J in
      let wa : HasStep (a J) (a c) (poly_times ring w (A r J)) = step_times laws comm (b r) (a c) (a J) w (A r J) vw va (λ k d l. zero_step (degree (slice_index_or w k d).0) (b r) (a c) (hw k d l) e) (s r J) in
      step_plus laws comm (a J) (b I) (A I J) _ (s I J)
      (step_negative laws comm (a J) (b I) (poly_times ring (A I c) (poly_times ring w (A r J)))
      (step_times laws comm (a c) (b I) (a J) (A I c) (poly_times ring w (A r J)) ((g I).value c) (P.mul_value w (A r J) vw va) (s I c) wa))
    where
      zero_step : (t x y : ℕ) → t ≡ 0 → y ≡ x → t + x ≡ y
      zero_step t x y p q = omega arith

  -- a column without constant terms stays so
  pub eliminated_clean : (A : ℕ → ℕ → Poly F) (m r c : ℕ) (w : Poly F) → IsGrid PR m A → IsPoly ring w → (j : ℕ) → ((i : ℕ) → ε (A i (skip c j)) ≡ ring.zero) → (i : ℕ) → ε (eliminated PR A r c w i j) ≡ ring.zero
  eliminated_clean A m r c w g vw j z i =
      let I = skip r i in
      let J = skip c j in
      let va = (g r).value J in
      let vwa = P.mul_value w (A r J) vw va in
      let vb = (g I).value c in
      let vbwa = P.mul_value (A I c) (poly_times ring w (A r J)) vb vwa in
      let wa : ε (poly_times ring w (A r J)) ≡ ring.zero = constant_times laws comm w (A r J) vw va ∙ ap (ring.mul (ε w)) (z r) ∙ mul_zero laws (ε w) (constant_value laws comm w vw) in
      let bwa : ε (poly_times ring (A I c) (poly_times ring w (A r J))) ≡ ring.zero =
      constant_times laws comm (A I c) (poly_times ring w (A r J)) vb vwa ∙ ap (ring.mul (ε (A I c))) wa ∙ mul_zero laws (ε (A I c)) (constant_value laws comm (A I c) vb) in
      constant_plus laws comm (A I J) _ ((g I).value J) (P.neg_value _ vbwa)
      ∙ (λ k. ring.add (z I k) ((constant_negative laws comm (poly_times ring (A I c) (poly_times ring w (A r J))) vbwa ∙ ap ring.neg bwa) k)) ∙ laws.add_neg ring.zero laws.zero_value

  module _ (size : ℕ → ℕ) (A : ℕ → ℕ → ℕ → Poly F) (e : IsExactComplex PR size A) (h r c : ℕ) (w : Poly F) (size' : ℕ → ℕ) (A' : ℕ → ℕ → ℕ → Poly F) (z : IsCancelled PR size A h r c w size' A') where
    -- The cancelled complex is homogeneous.
    pub cancelled_graded : (D D' : ℕ → ℕ → ℕ) → IsGraded A D → D (suc h) c ≡ D (suc (suc h)) r → IsHomogeneous ring 0 w → AreCancelledDegrees D h r c D' → IsGraded A' D'
    cancelled_graded D D' g same hw ds = around (λ k. (i j : ℕ) → HasStep (D' k j) (D' (suc k) i) (A' k i j)) h
        (λ i j. move _ _ _ _ _ _ (ds.others h (a1 h) (a2 h) j) (ds.columns i) (z.lower i j) (g h (skip c i) j))
        (λ i j. move _ _ _ _ _ _ (ds.columns j) (ds.rows i) (z.middle i j) (eliminated_step (A (suc h)) (size (suc h)) r c w (D (suc h)) (D (suc (suc h))) (e.grid (suc h)) (g (suc h)) same z.value hw i j))
        (λ i j. move _ _ _ _ _ _ (ds.rows j) (ds.others (suc (suc (suc h))) (a3 h) (a4 h) i) (z.upper i j) (g (suc (suc h)) i (skip r j)))
        (λ k a b d i j. move _ _ _ _ _ _ (ds.others k b d j) (ds.others (suc k) (down k h a) (down k (suc h) b) i) (sym (z.others k a b d i j)) (g k i j))
      where
        a1 : (h : ℕ) → h ≢ suc h
        a1 h e = omega arith

        a2 : (h : ℕ) → h ≢ suc (suc h)
        a2 h e = omega arith

        a3 : (h : ℕ) → suc (suc (suc h)) ≢ suc h
        a3 h e = omega arith

        a4 : (h : ℕ) → suc (suc (suc h)) ≢ suc (suc h)
        a4 h e = omega arith

        down : (x y : ℕ) → x ≢ y → suc x ≢ suc y
        down x y f e = f (omega arith)

    -- a column of the map of the unit that has no constant term has none afterwards
    pub cancelled_clean : (j : ℕ) → ((i : ℕ) → ε (A (suc h) i (skip c j)) ≡ ring.zero) → (i : ℕ) → ε (A' (suc h) i j) ≡ ring.zero
    cancelled_clean j f i = ap ε (z.middle i j) ∙ eliminated_clean (A (suc h)) (size (suc h)) r c w (e.grid (suc h)) z.value j f i

    -- the map before, and the map after, lose a row and a column
    pub cancelled_clean_after : ((i j : ℕ) → ε (A (suc (suc h)) i j) ≡ ring.zero) → (i j : ℕ) → ε (A' (suc (suc h)) i j) ≡ ring.zero
    cancelled_clean_after f i j = ap ε (z.upper i j) ∙ f i (skip r j)

    pub cancelled_clean_before : ((i j : ℕ) → ε (A h i j) ≡ ring.zero) → (i j : ℕ) → ε (A' h i j) ≡ ring.zero
    cancelled_clean_before f i j = ap ε (z.lower i j) ∙ f (skip c i) j

module _ {F : Type 0} {ring : RingOf F} {inverse : F → F} (field : IsField ring inverse) where
  -- Without constant terms after the first map, an empty map is followed by empty maps.
  pub empty_next : (size : ℕ → ℕ) (A : ℕ → ℕ → ℕ → Poly F) → IsExactComplex (poly_ring ring) size A → IsClean ring A → (k : ℕ) → size (suc k) ≡ 0 → size (suc (suc k)) ≡ 0
  empty_next size A e clean k z = no_columns field (size (suc (suc k))) (size (suc (suc (suc k)))) (A (suc k)) (A (suc (suc k))) (size (suc k)) (e.grid (suc k)) (e.grid (suc (suc k))) (e.exact (suc k)) z (λ i r. clean (suc k) i r)
