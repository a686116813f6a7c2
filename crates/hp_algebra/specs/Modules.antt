-- Modules over a ring, each of whose values has a width, and combinations of their values.
use Rattle.std.specs.Prelude.{◌≡◌, ℕ, ◌+◌, ◌≤◌, max, List, [], ◌∷◌}
use Rattle.hp_algebra.specs.Ring.{RingOf}

-- The operations of a left module. Values of one width can be added; the weight is as in the ring.
pub record ModuleOf (R M : Type 0) : Type 1 where
  pub IsValue : M → Type 0
  pub width : M → ℕ
  pub zero : ℕ → M
  pub add : M → M → M
  pub scale : R → M → M
  pub weight : M → ℕ

-- A left module over a ring for each width. Zero times x is zero, so -1 times x is the negative of x.
pub record IsModule {R M : Type 0} (ring : RingOf R) (vectors : ModuleOf R M) : Type 0 where
  pub zero_value : (width : ℕ) → vectors.IsValue (vectors.zero width)
  pub add_value : (x y : M) → vectors.IsValue x → vectors.IsValue y → vectors.width x ≡ vectors.width y
      → vectors.IsValue (vectors.add x y)
  pub scale_value : (c : R) (x : M) → ring.IsValue c → vectors.IsValue x → vectors.IsValue (vectors.scale c x)
  pub width_zero : (width : ℕ) → vectors.width (vectors.zero width) ≡ width
  pub width_add : (x y : M) → vectors.IsValue x → vectors.IsValue y → vectors.width x ≡ vectors.width y
      → vectors.width (vectors.add x y) ≡ vectors.width x
  pub width_scale : (c : R) (x : M) → ring.IsValue c → vectors.IsValue x
      → vectors.width (vectors.scale c x) ≡ vectors.width x
  pub add_assoc : (x y z : M) → vectors.IsValue x → vectors.IsValue y → vectors.IsValue z
      → vectors.width x ≡ vectors.width y → vectors.width y ≡ vectors.width z
      → vectors.add (vectors.add x y) z ≡ vectors.add x (vectors.add y z)
  pub add_comm : (x y : M) → vectors.IsValue x → vectors.IsValue y → vectors.width x ≡ vectors.width y
      → vectors.add x y ≡ vectors.add y x
  pub add_zero : (x : M) → vectors.IsValue x → vectors.add x (vectors.zero (vectors.width x)) ≡ x
  pub zero_scale : (x : M) → vectors.IsValue x → vectors.scale ring.zero x ≡ vectors.zero (vectors.width x)
  pub one_scale : (x : M) → vectors.IsValue x → vectors.scale ring.one x ≡ x
  pub mul_scale : (c d : R) (x : M) → ring.IsValue c → ring.IsValue d → vectors.IsValue x
      → vectors.scale (ring.mul c d) x ≡ vectors.scale c (vectors.scale d x)
  pub scale_add : (c : R) (x y : M) → ring.IsValue c → vectors.IsValue x → vectors.IsValue y
      → vectors.width x ≡ vectors.width y
      → vectors.scale c (vectors.add x y) ≡ vectors.add (vectors.scale c x) (vectors.scale c y)
  pub add_scale : (c d : R) (x : M) → ring.IsValue c → ring.IsValue d → vectors.IsValue x
      → vectors.scale (ring.add c d) x ≡ vectors.add (vectors.scale c x) (vectors.scale d x)

-- The weight of zero is 0, that of a sum at most the greater, that of a multiple at most the sum.
pub record AreWeighted {R M : Type 0} (ring : RingOf R) (vectors : ModuleOf R M) : Type 0 where
  pub of_none : (width : ℕ) → vectors.weight (vectors.zero width) ≡ 0
  pub of_total : (x y : M) → vectors.IsValue x → vectors.IsValue y → vectors.width x ≡ vectors.width y
      → vectors.weight (vectors.add x y) ≤ max (vectors.weight x) (vectors.weight y)
  pub of_multiple : (c : R) (x : M) → ring.IsValue c → vectors.IsValue x
      → vectors.weight (vectors.scale c x) ≤ ring.weight c + vectors.weight x

-- the combination c_1 v_1 + .. + c_s v_s of values of a width
abbrev pub combination_of : {R M : Type 0} → ModuleOf R M → ℕ → List R → List M → M
combination_of vectors width [] vs = vectors.zero width
combination_of vectors width (c ∷ cs) [] = vectors.zero width
combination_of vectors width (c ∷ cs) (v ∷ vs) = vectors.add (vectors.scale c v) (combination_of vectors width cs vs)
