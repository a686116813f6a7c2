-- Lists of numbers compared by the last that differs: from the right, and as grevlex does it.
use Rattle.std.specs.Prelude.{◌≡◌, ◌≢◌, ℕ, zero, suc, ◌+◌, ◌-◌, ◌<◌, ◌≤◌, List, [], ◌∷◌, ◌++◌, length, drop, reverse, slice_index_or}
use Rattle.std.specs.declared.cmp.Ordering.{Ordering}
use Rattle.std.specs.declared.cmp.Ordering.TheVariants.{Less, Equal, Greater}
use Rattle.std.specs.Ordering.{nat_cmp, ordering_then}
use Rattle.std.specs.Cmp.Lexicographic.{slice_cmp}
use Rattle.std.specs.FinMap.{nat_cmp-IsAntisymmetric}
use Rattle.std.proofs.lemmas.List.{reverse-append, length-reverse}
use mathlib.Core.Path.{refl, sym, ap, ◌∙◌, subst}
use native.Mathlib.Omega.{arith}
use Rattle.hp_mono.specs.Monomials.{Monomial, IsMonomial, degree, grevlex, product, vars}
use Rattle.hp_mono.proofs.MonomialLaws.{degree_product, product-monomial}
use Rattle.hp_syzygy.specs.ChainOrders.{by_last}

then_kept : (r q : Ordering) → r ≢ Equal → ordering_then r q ≡ r
then_kept Less q n = refl
then_kept Equal q n = absurd (n refl)
then_kept Greater q n = refl

then_assoc : (r q s : Ordering) → ordering_then (ordering_then r q) s ≡ ordering_then r (ordering_then q s)
then_assoc Less q s = refl
then_assoc Equal q s = refl
then_assoc Greater q s = refl

then_none : (r : Ordering) → ordering_then r Equal ≡ r
then_none Less = refl
then_none Equal = refl
then_none Greater = refl

-- the numbers from place i on are compared first
pub last-step : (i : ℕ) (a b : List ℕ) (d e : ℕ) → length a ≡ length b → i < length a
    → by_last (drop i a) (drop i b)
    ≡ ordering_then (by_last (drop (suc i) a) (drop (suc i) b)) (nat_cmp (slice_index_or a i d) (slice_index_or b i e))
last-step i [] b d e h l = absurd (omega (arith, l))
last-step i (x ∷ a) [] d e h l = absurd (omega (arith, h))
last-step zero (x ∷ a) (y ∷ b) d e h l = refl
last-step (suc i) (x ∷ a) (y ∷ b) d e h l = last-step i a b d e (omega (arith, h)) (omega (arith, l))

pub last-from : (i : ℕ) (a b : List ℕ) → by_last (drop i a) (drop i b) ≢ Equal → length a ≡ length b
    → by_last a b ≡ by_last (drop i a) (drop i b)
last-from zero a b n h = refl
last-from (suc i) [] [] n h = refl
last-from (suc i) [] (y ∷ b) n h = absurd (omega (arith, h))
last-from (suc i) (x ∷ a) [] n h = absurd (omega (arith, h))
last-from (suc i) (x ∷ a) (y ∷ b) n h =
    let r = last-from i a b n (omega (arith, h)) in
    ap (λ r. ordering_then r (nat_cmp x y)) r ∙ then_kept (by_last (drop i a) (drop i b)) (nat_cmp x y) n

pub last-end : (a b : List ℕ) → length a ≡ length b → by_last (drop (length a) a) (drop (length a) b) ≡ Equal
last-end [] b h = refl
last-end (x ∷ a) [] h = absurd (omega (arith, h))
last-end (x ∷ a) (y ∷ b) h = last-end a b (omega (arith, h))

-- the numbers from place k on are equal, and those before it differ
pub last-differs : (k : ℕ) (a b : List ℕ) → length a ≡ length b → 1 ≤ k → k ≤ length a
    → by_last (drop k a) (drop k b) ≡ Equal → slice_index_or a (k - 1) 0 ≢ slice_index_or b (k - 1) 0
    → by_last a b ≡ nat_cmp (slice_index_or a (k - 1) 0) (slice_index_or b (k - 1) 0)
last-differs k a b h lo hi e n =
    let i = k - 1 in
    let x = slice_index_or a i 0 in
    let y = slice_index_or b i 0 in
    let same : k ≡ suc i = omega (arith, lo) in
    let s : by_last (drop i a) (drop i b) ≡ nat_cmp x y =
    last-step i a b 0 0 h (omega (arith, lo, hi))
    ∙ ap (λ r. ordering_then r (nat_cmp x y)) (subst (λ j. by_last (drop j a) (drop j b) ≡ Equal) same e) in
    last-from i a b (λ q. n (nat_cmp-IsAntisymmetric x y (sym s ∙ q))) h ∙ s

-- the exponents of a product
pub at-product : (a b : List ℕ) (i d : ℕ) → length a ≡ length b → i < length a
    → slice_index_or (product a b) i d ≡ slice_index_or a i 0 + slice_index_or b i 0
at-product [] b i d h l = absurd (omega (arith, l))
at-product (x ∷ a) [] i d h l = absurd (omega (arith, h))
at-product (x ∷ a) (y ∷ b) zero d h l = refl
at-product (x ∷ a) (y ∷ b) (suc i) d h l = at-product a b i d (omega (arith, h)) (omega (arith, l))

-- the lists in reverse, compared by the first number that differs
cmp-append : (a b : List ℕ) (x y : ℕ) → length a ≡ length b
    → slice_cmp nat_cmp (a ++ x ∷ []) (b ++ y ∷ []) ≡ ordering_then (slice_cmp nat_cmp a b) (nat_cmp x y)
cmp-append [] [] x y h = then_none (nat_cmp x y)
cmp-append [] (v ∷ b) x y h = absurd (omega (arith, h))
cmp-append (u ∷ a) [] x y h = absurd (omega (arith, h))
cmp-append (u ∷ a) (v ∷ b) x y h =
    ap (ordering_then (nat_cmp u v)) (cmp-append a b x y (omega (arith, h)))
    ∙ sym (then_assoc (nat_cmp u v) (slice_cmp nat_cmp a b) (nat_cmp x y))

pub last-reverse : (a b : List ℕ) → length a ≡ length b → slice_cmp nat_cmp (reverse a) (reverse b) ≡ by_last a b
last-reverse [] [] h = refl
last-reverse [] (y ∷ b) h = absurd (omega (arith, h))
last-reverse (x ∷ a) [] h = absurd (omega (arith, h))
last-reverse (x ∷ a) (y ∷ b) h =
    let n : length a ≡ length b = omega (arith, h) in
    (λ i. slice_cmp nat_cmp (reverse-append (x ∷ []) a i) (reverse-append (y ∷ []) b i))
    ∙ cmp-append (reverse a) (reverse b) x y (length-reverse a ∙ n ∙ sym (length-reverse b))
    ∙ ap (λ r. ordering_then r (nat_cmp x y)) (last-reverse a b n)

-- grevlex of products, by the degrees and the exponents of the factors
pub product-grevlex : (a s b t : Monomial) → IsMonomial a → IsMonomial s → IsMonomial b → IsMonomial t
    → (m n : ℕ) → m ≡ degree a + degree s → n ≡ degree b + degree t
    → ordering_then (nat_cmp m n) (by_last (product b t) (product a s)) ≡ grevlex (product a s) (product b t)
product-grevlex a s b t ia is ib it m n e f =
    let l = product-monomial b t ib it ∙ sym (product-monomial a s ia is) in
    let p = e ∙ sym (degree_product vars a s ia is) in
    let q = f ∙ sym (degree_product vars b t ib it) in
    λ i. ordering_then (nat_cmp (p i) (q i)) (sym (last-reverse (product b t) (product a s) l) i)
