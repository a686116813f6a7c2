-- One row operation carries remainders and coefficients from an independent set to the set with one member more; a coefficient that is zero for all stays zero.
use Rattle.std.specs.Prelude.{◌≡◌, ◌≢◌, ℕ, suc, ◌+◌, ◌==◌, Bool, true, false, cond, List, [], ◌∷◌, ◌++◌, map, length, All, Contains, ◌⊎◌}
use Rattle.std.proofs.lemmas.Bool.{eqb-false}
use Rattle.std.proofs.lemmas.List.{length-append}
use Rattle.std.proofs.lemmas.List.Elements.{All-nil, All-cons, All-head, All-tail, All-append}
use mathlib.Core.Logic.{inl, inr}
use mathlib.Core.Path.{refl, sym, ap, ◌∙◌, subst}
use native.Mathlib.Omega.{arith}
use Rattle.hp_algebra.specs.Ring.{IsRing, dot_of}
use Rattle.hp_algebra.specs.Rows.{IsRow, row_plus, row_scale}
use Rattle.hp_algebra.proofs.Dots.{dot_of_value, dot-plus, dot-scale}
use Rattle.hp_algebra.proofs.Rings.{mul_zero, zero_add, add_swap}
use Rattle.hp_algebra.proofs.Rows.{scale-row, plus-row}
use Rattle.hp_lists.proofs.Members.{Contains-here, Contains-later, Contains-cases, Contains-none}
use Rattle.hp_sets.specs.Sets.{Set}
use Rattle.hp_arr.specs.Arrangement.{form}
use Rattle.hp_arr.proofs.Cuts.{AreIndices, lies-part}
use Rattle.hp_arr.proofs.OverField.{IsOverField}
use Rattle.hp_arr.proofs.Setting.{Setting, over}
use Rattle.hp_circuits.specs.RowSteps.{less_multiple, share, reduced}
use Rattle.hp_circuits.specs.CircuitSteps.{grown_coefficients}
use Rattle.hp_circuits.proofs.Remainders.{Row, at, lies, share-value, value-less, cancels, IsComplement, IsRemainder, remainder-grows, remainder-same, complement-same, complement-grows}
use Rattle.hp_circuits.proofs.CircuitClosures.{front_end, end_front}
use Rattle.hp_circuits.proofs.CircuitClasses.{values, values-row, coefficient, IsExpressed}

none_equal : (l : ℕ) → 0 ≡ suc l → ⊥
none_equal l e = omega arith

down : (a b : ℕ) → suc a ≡ suc b → a ≡ b
down a b e = omega arith

map-end : {X Y : Type 0} (f : X → Y) (a : List X) (x : X) → map f (a ++ x ∷ []) ≡ map f a ++ f x ∷ []
map-end f [] x = refl
map-end f (y ∷ a) x = ap (λ z. f y ∷ z) (map-end f a x)

module _ {K : Type 0} (S : Setting K) where
  open S use {ring, inverse, arr}

  abbrev L : IsRing S.ring
  L = S.field.is_ring

  abbrev o : IsOverField S.ring S.inverse S.numbers S.arr
  o = over S

  -- (a + b) + (c + d) = (a + c) + (b + d)
  four : (a b c d : K) → ring.IsValue a → ring.IsValue b → ring.IsValue c → ring.IsValue d
      → ring.add (ring.add a b) (ring.add c d) ≡ ring.add (ring.add a c) (ring.add b d)
  four a b c d va vb vc vd =
      L.add_assoc a b _ va vb (L.add_value c d vc vd) ∙ ap (ring.add a) (add_swap L b c d vb vc vd)
      ∙ sym (L.add_assoc a c _ va vc (L.add_value b d vb vd))

  -- the value of e + n c
  across : (l : ℕ) (e c x : List K) (n : K) → ring.IsValue n → IsRow ring l e → IsRow ring l c → IsRow ring l x
      → dot_of ring (row_plus ring e (row_scale ring n c)) x ≡ ring.add (dot_of ring e x) (ring.mul n (dot_of ring c x))
  across l e c x n vn re rc rx = dot-plus L l e _ x re (scale-row L l n c vn rc) rx ∙ ap (ring.add (dot_of ring e x)) (dot-scale L n c x vn rc.1 rx.1)

  dot-end : (a b : List K) (x y : K) → length a ≡ length b → All ring.IsValue a → All ring.IsValue b → ring.IsValue x
      → ring.IsValue y
      → dot_of ring (a ++ x ∷ []) (b ++ y ∷ []) ≡ ring.add (dot_of ring a b) (ring.mul x y)
  dot-end [] [] x y l va vb vx vy = let m = L.mul_value x y vx vy in L.add_zero _ m ∙ sym (zero_add L _ m)
  dot-end [] (d ∷ b) x y l va vb vx vy = absurd (none_equal (length b) l)
  dot-end (c ∷ a) [] x y l va vb vx vy = absurd (none_equal (length a) (sym l))
  dot-end (c ∷ a) (d ∷ b) x y l va vb vx vy =
      let a' = All-tail ring.IsValue c a va in
      let b' = All-tail ring.IsValue d b vb in
      let m = L.mul_value c d (All-head ring.IsValue c a va) (All-head ring.IsValue d b vb) in
      ap (ring.add (ring.mul c d)) (dot-end a b x y (down _ _ l) a' b' vx vy)
      ∙ sym (L.add_assoc (ring.mul c d) (dot_of ring a b) (ring.mul x y) m (dot_of_value L a b a' b') (L.mul_value x y vx vy))

  -- W + E = (W - s V) + ((E - s C) + s (V + C))
  regroup : (W E V C s : K) → ring.IsValue W → ring.IsValue E → ring.IsValue V → ring.IsValue C → ring.IsValue s
      → ring.add (ring.add W (ring.mul (ring.neg s) V)) (ring.add (ring.add E (ring.mul (ring.neg s) C)) (ring.mul s (ring.add V C))) ≡ ring.add W E
  regroup W E V C s vW vE vV vC vs =
      let n = ring.neg s in
      let vn = L.neg_value s vs in
      let X = ring.mul n V in
      let Y = ring.mul n C in
      let P = ring.mul s V in
      let Q = ring.mul s C in
      let vX = L.mul_value n V vn vV in
      let vY = L.mul_value n C vn vC in
      let vP = L.mul_value s V vs vV in
      let vQ = L.mul_value s C vs vC in
      let inner : ring.add (ring.add E Y) (ring.mul s (ring.add V C)) ≡ ring.add E P =
      ap (ring.add (ring.add E Y)) (L.mul_add s V C vs vV vC) ∙ four E Y P Q vE vY vP vQ
      ∙ ap (ring.add (ring.add E P)) (L.add_comm Y Q vY vQ ∙ cancels S s C vs vC) ∙ L.add_zero _ (L.add_value E P vE vP) in
      ap (ring.add (ring.add W X)) inner ∙ four W X E P vW vX vE vP ∙ ap (ring.add (ring.add W E)) (L.add_comm X P vX vP ∙ cancels S s V vs vV) ∙ L.add_zero _ (L.add_value W E vW vE)

  lies-front : (T : Set) (i : ℕ) (x : List K) → lies S (T ++ i ∷ []) x ≡ true → lies S (i ∷ T) x ≡ true
  lies-front T i x e = lies-part o (i ∷ T) (T ++ i ∷ []) x (front_end T i) e

  lies-end : (T : Set) (i : ℕ) (x : List K) → lies S (i ∷ T) x ≡ true → lies S (T ++ i ∷ []) x ≡ true
  lies-end T i x e = lies-part o (T ++ i ∷ []) (i ∷ T) x (end_front T i) e

  pub complement-end : (T : Set) (places : List ℕ) (i : ℕ) (v : List K) (q : ℕ) → AreIndices arr (i ∷ T)
      → IsComplement S T places → IsRemainder S T places i v → at S v q ≢ ring.zero
      → IsComplement S (T ++ i ∷ []) (q ∷ places)
  complement-end T places i v q h C R a = complement-same S (i ∷ T) (T ++ i ∷ []) (q ∷ places) (lies-end T i) (complement-grows S T places i v q h C R a)

  pub grown-length : (T : Set) (i : ℕ) (s : K) (c e : List K) → length c ≡ length T → length e ≡ length T
      → All ring.IsValue c → All ring.IsValue e → ring.IsValue s
      → IsRow ring (length T) (row_plus ring e (row_scale ring (ring.neg s) c)) × (length (grown_coefficients ring s c e) ≡ length (T ++ i ∷ [])) × All ring.IsValue (grown_coefficients ring s c e)
  grown-length T i s c e lc le vc ve vs =
      let r = plus-row L (length T) e _ (le, ve) (scale-row L (length T) (ring.neg s) c (L.neg_value s vs) (lc, vc)) in
      (r, length-append _ (s ∷ []) ∙ ap (λ k. k + 1) r.0 ∙ sym (length-append T (i ∷ [])), All-append ring.IsValue _ (s ∷ []) r.1 (All-cons ring.IsValue s [] vs (All-nil ring.IsValue)))

  -- The row operation: forms i and j modulo T give form j modulo T and i.
  pub expressed-grows : (T : Set) (places : List ℕ) (i j : ℕ) (v c w e : List K) (q : ℕ) → AreIndices arr (i ∷ T)
      → IsExpressed S T places i v c → IsExpressed S T places j w e → at S v q ≢ ring.zero
      → IsExpressed S (T ++ i ∷ []) (q ∷ places) j (reduced ring inverse q v w) (grown_coefficients ring (share ring inverse q v w) c e)
  expressed-grows T places i j v c w e q h I J apart = record {
    remainder = remainder-same S (i ∷ T) (T ++ i ∷ []) (q ∷ places) j _ (lies-front T i) (remainder-grows S T places i j v w q (h i (Contains-here i T)) I.remainder J.remainder apart);
    count = g.1;
    coefficients = g.2;
    sums = λ x rx. sym (total x rx);
  }
    where
      s : K
      s = share ring inverse q v w

      vs : ring.IsValue s
      vs = share-value S q v w I.remainder.row J.remainder.row apart

      g : IsRow ring (length T) (row_plus ring e (row_scale ring (ring.neg s) c)) × (length (grown_coefficients ring s c e) ≡ length (T ++ i ∷ [])) × All ring.IsValue (grown_coefficients ring s c e)
      g = grown-length T i s c e I.count J.count I.coefficients J.coefficients vs

      total : (x : List K) → Row S x
          → ring.add (dot_of ring (less_multiple ring s v w) x) (dot_of ring (grown_coefficients ring s c e) (values S (T ++ i ∷ []) x)) ≡ dot_of ring (form arr j) x
      total x rx =
          let r = values-row S T x (λ k m. h k (Contains-later i T k m)) rx in
          let ri = values-row S (i ∷ []) x (λ k m. h k (only k (Contains-cases i [] k m))) rx in
          let V = dot_of ring v x in
          let W = dot_of ring w x in
          let C = dot_of ring c (values S T x) in
          let E = dot_of ring e (values S T x) in
          let vi = All-head ring.IsValue _ [] ri.1 in
          let a = value-less S s v w vs I.remainder.row J.remainder.row x rx in
          let b : dot_of ring (grown_coefficients ring s c e) (values S (T ++ i ∷ []) x) ≡ ring.add (ring.add E (ring.mul (ring.neg s) C)) (ring.mul s (ring.add V C)) =
          ap (dot_of ring (grown_coefficients ring s c e)) (map-end (λ t. dot_of ring (form arr t) x) T i)
          ∙ dot-end _ (values S T x) s _ (g.0.0 ∙ sym r.0) g.0.1 r.1 vs vi
          ∙ ap (λ u. ring.add u (ring.mul s (dot_of ring (form arr i) x))) (across (length T) e c (values S T x) (ring.neg s) (L.neg_value s vs) (J.count, J.coefficients) (I.count, I.coefficients) r)
          ∙ ap (λ u. ring.add (ring.add E (ring.mul (ring.neg s) C)) (ring.mul s u)) (I.sums x rx) in
          (λ k. ring.add (a k) (b k))
          ∙ regroup W E V C s (dot_of_value L w x J.remainder.row.1 rx.1) (dot_of_value L e (values S T x) J.coefficients r.1) (dot_of_value L v x I.remainder.row.1 rx.1) (dot_of_value L c (values S T x) I.coefficients r.1) vs
          ∙ sym (J.sums x rx)
        where
          only : (k : ℕ) → (i ≡ k) ⊎ Contains [] k → Contains (i ∷ T) k
          only k (inl d) = subst (Contains (i ∷ T)) d (Contains-here i T)
          only k (inr m) = absurd (Contains-none k m)

  -- ---- coefficients that stay zero

  coefficient-end : (c b : List K) (T U : Set) (s : ℕ) → length c ≡ length T → Contains T s
      → coefficient S (c ++ b) (T ++ U) s ≡ coefficient S c T s
  coefficient-end c b [] U s l m = absurd (Contains-none s m)
  coefficient-end [] b (t ∷ T) U s l m = absurd (none_equal (length T) l)
  coefficient-end (a ∷ c) b (t ∷ T) U s l m = step (t == s) refl (λ k. coefficient-end c b T U s (down _ _ l) k)
    where
      rest : (t ≡ s → ⊥) → (t ≡ s) ⊎ Contains T s → Contains T s
      rest f (inl e) = absurd (f e)
      rest f (inr k) = k

      step : (d : Bool) → (t == s) ≡ d → (Contains T s → coefficient S (c ++ b) (T ++ U) s ≡ coefficient S c T s)
          → cond d a (coefficient S (c ++ b) (T ++ U) s) ≡ cond d a (coefficient S c T s)
      step true e ih = refl
      step false e ih = ih (rest (eqb-false t s e) (Contains-cases t T s m))

  coefficient-less : (T : Set) (n : K) (e c : List K) (s : ℕ) → ring.IsValue n → length e ≡ length T
      → length c ≡ length T
      → coefficient S (row_plus ring e (row_scale ring n c)) T s ≡ ring.add (coefficient S e T s) (ring.mul n (coefficient S c T s))
  coefficient-less [] n [] [] s vn le lc = sym (ap (ring.add ring.zero) (mul_zero L n vn) ∙ L.add_zero ring.zero L.zero_value)
  coefficient-less [] n (a ∷ e) c s vn le lc = absurd (none_equal (length e) (sym le))
  coefficient-less [] n [] (a ∷ c) s vn le lc = absurd (none_equal (length c) (sym lc))
  coefficient-less (t ∷ T) n [] c s vn le lc = absurd (none_equal (length T) le)
  coefficient-less (t ∷ T) n (a ∷ e) [] s vn le lc = absurd (none_equal (length T) lc)
  coefficient-less (t ∷ T) n (a ∷ e) (b ∷ c) s vn le lc = step (t == s) (coefficient-less T n e c s vn (down _ _ le) (down _ _ lc))
    where
      step : (d : Bool)
          → coefficient S (row_plus ring e (row_scale ring n c)) T s ≡ ring.add (coefficient S e T s) (ring.mul n (coefficient S c T s))
          → cond d (ring.add a (ring.mul n b)) (coefficient S (row_plus ring e (row_scale ring n c)) T s) ≡ ring.add (cond d a (coefficient S e T s)) (ring.mul n (cond d b (coefficient S c T s)))
      step true r = refl
      step false r = r

  -- Where the coefficients of a member are zero for both forms, so is the new one.
  pub zero-stays : (T : Set) (i s : ℕ) (a : K) (c e : List K) → ring.IsValue a → length c ≡ length T
      → length e ≡ length T → All ring.IsValue c → All ring.IsValue e → Contains T s
      → coefficient S c T s ≡ ring.zero → coefficient S e T s ≡ ring.zero
      → coefficient S (grown_coefficients ring a c e) (T ++ i ∷ []) s ≡ ring.zero
  zero-stays T i s a c e va lc le vc ve m zc ze =
      let vn = L.neg_value a va in
      coefficient-end _ (a ∷ []) T (i ∷ []) s (plus-row L (length T) e _ (le, ve) (scale-row L (length T) (ring.neg a) c vn (lc, vc))).0 m
      ∙ coefficient-less T (ring.neg a) e c s vn le lc ∙ (λ k. ring.add (ze k) (ring.mul (ring.neg a) (zc k))) ∙ ap (ring.add ring.zero) (mul_zero L (ring.neg a) vn) ∙ L.add_zero ring.zero L.zero_value
