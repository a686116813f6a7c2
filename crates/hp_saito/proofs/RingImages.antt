-- Images of rows under a homomorphism of rings, as the value at a point is.
use Rattle.std.specs.Prelude.{◌≡◌, ℕ, zero, suc, ◌==◌, cond, Bool, true, false, List, [], ◌∷◌, map, All}
use Rattle.std.proofs.lemmas.List.{length-map}
use Rattle.std.proofs.lemmas.List.Elements.{All-head, All-tail, All-map}
use mathlib.Core.Path.{refl, ◌∙◌}
use Rattle.hp_lists.specs.Lists.{one_to}
use Rattle.hp_algebra.specs.Ring.{RingOf, IsRing, IsCommutative}
use Rattle.hp_algebra.specs.Rows.{IsRow, row_plus, row_scale, row_times, unit_row, zero_row}
use Rattle.hp_algebra.proofs.Rows.{scale-values}
use Rattle.hp_linear.proofs.Combinations.{times-row}
use Rattle.hp_poly.specs.Polynomials.{poly_ring, poly_value}
use Rattle.hp_poly.specs.PolyRing.{poly-values}
use Rattle.hp_poly.proofs.Evaluation.{value-IsValue, value_constant, value_plus, value_times}

-- A homomorphism of rings.
pub record IsHomomorphism {A B : Type 0} (ring : RingOf A) (other : RingOf B) (f : A → B) : Type 0 where
  pub value : (x : A) → ring.IsValue x → other.IsValue (f x)
  pub zero : f ring.zero ≡ other.zero
  pub one : f ring.one ≡ other.one
  pub sum : (x y : A) → ring.IsValue x → ring.IsValue y → f (ring.add x y) ≡ other.add (f x) (f y)
  pub product : (x y : A) → ring.IsValue x → ring.IsValue y → f (ring.mul x y) ≡ other.mul (f x) (f y)

module _ {A B : Type 0} {ring : RingOf A} {other : RingOf B} {f : A → B} (laws : IsRing ring)
    (hom : IsHomomorphism ring other f) where
  pub image-values : (a : List A) → All ring.IsValue a → All other.IsValue (map f a)
  image-values a h = All-map other.IsValue f a (λ k d l. hom.value _ (h k d l))

  pub image-row : (w : ℕ) (a : List A) → IsRow ring w a → IsRow other w (map f a)
  image-row w a r = (length-map a f ∙ r.0, image-values a r.1)

  pub image-rows : (w : ℕ) (rows : List (List A)) → All (IsRow ring w) rows → All (IsRow other w) (map (map f) rows)
  image-rows w rows are = All-map (IsRow other w) (map f) rows (λ k d l. image-row w _ (are k d l))

  pub image-zeros : (w : ℕ) → map f (zero_row ring w) ≡ zero_row other w
  image-zeros zero = refl
  image-zeros (suc w) = let e = hom.zero in let r = image-zeros w in λ i. e i ∷ r i

  pub image-plus : (a b : List A) → All ring.IsValue a → All ring.IsValue b
      → map f (row_plus ring a b) ≡ row_plus other (map f a) (map f b)
  image-plus [] b g h = refl
  image-plus (x ∷ a) [] g h = refl
  image-plus (x ∷ a) (y ∷ b) g h =
      let e = hom.sum x y (All-head ring.IsValue x a g) (All-head ring.IsValue y b h) in
      let r = image-plus a b (All-tail ring.IsValue x a g) (All-tail ring.IsValue y b h) in
      λ i. e i ∷ r i

  pub image-scale : (c : A) (a : List A) → ring.IsValue c → All ring.IsValue a
      → map f (row_scale ring c a) ≡ row_scale other (f c) (map f a)
  image-scale c [] v h = refl
  image-scale c (x ∷ a) v h =
      let e = hom.product c x v (All-head ring.IsValue x a h) in
      let r = image-scale c a v (All-tail ring.IsValue x a h) in
      λ i. e i ∷ r i

  pub image-times : (w : ℕ) (cs : List A) (rows : List (List A)) → All ring.IsValue cs → All (IsRow ring w) rows
      → map f (row_times ring w cs rows) ≡ row_times other w (map f cs) (map (map f) rows)
  image-times w [] rows g are = image-zeros w
  image-times w (c ∷ cs) [] g are = image-zeros w
  image-times w (c ∷ cs) (b ∷ rows) g are =
      let vc = All-head ring.IsValue c cs g in
      let vs = All-tail ring.IsValue c cs g in
      let rb = All-head (IsRow ring w) b rows are in
      let rs = All-tail (IsRow ring w) b rows are in
      image-plus _ _ (scale-values laws c b vc rb.1) (times-row laws w cs rows vs rs).1
      ∙ (λ i. row_plus other (image-scale c b vc rb.1 i) (image-times w cs rows vs rs i))

  pub image-unit : (w k : ℕ) → map f (unit_row ring w k) ≡ unit_row other w k
  image-unit w k = at (one_to w)
    where
      pick : (b : Bool) → f (cond b ring.one ring.zero) ≡ cond b other.one other.zero
      pick true = hom.one
      pick false = hom.zero

      at : (ns : List ℕ) → map f (map (λ j. cond (j == k) ring.one ring.zero) ns)
          ≡ map (λ j. cond (j == k) other.one other.zero) ns
      at [] = refl
      at (n ∷ ns) = let e = pick (n == k) in let r = at ns in λ i. e i ∷ r i

-- the value at a point
pub value-homomorphism : {F : Type 0} {ring : RingOf F} (laws : IsRing ring) (commutes : IsCommutative ring)
    (x : List F)
    → All ring.IsValue x → IsHomomorphism (poly_ring ring) ring (poly_value ring x)
value-homomorphism {ring = ring} laws commutes x v = record {
  value = λ p f. value-IsValue laws commutes x v p (poly-values laws commutes p f);
  zero = refl;
  one = value_constant laws commutes x v ring.one laws.one_value;
  sum = λ p q f g. value_plus laws commutes x v p q f g;
  product = λ p q f g. value_times laws commutes x v p q f g;
}
