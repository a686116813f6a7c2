-- The terms of vectors as sums over the terms: functionals of sums, multiples and combinations of vectors.
use Rattle.std.specs.Prelude.{◌≡◌, ℕ, suc, zero, ◌+◌, ◌<◌, ◌≤◌, List, [], ◌∷◌, ◌++◌, map, length, set, All, slice_index_or}
use Rattle.std.specs.declared.cmp.Ordering.TheVariants.{Less, Equal}
use Rattle.std.specs.declared.cmp.Ordering.{Ordering}
use Rattle.std.specs.Ordering.{nat_cmp, ordering_then}
use Rattle.std.specs.Cmp.{IsTotalOrder, nat_cmp_is, nat_cmp_total, on_total, tied_itself, then_total}
use Rattle.std.specs.FinMap.{nat_cmp-IsAntisymmetric}
use Rattle.std.proofs.lemmas.List.Elements.{All-nil, All-cons, All-head, All-tail, All-append, All-map, All-weaker}
use mathlib.Core.Path.{refl, sym, ap, ◌∙◌}
use native.Mathlib.Omega.{arith}
use Rattle.hp_algebra.specs.Ring.{RingOf, IsRing, IsCommutative}
use Rattle.hp_algebra.proofs.Rings.{add_swap}
use Rattle.hp_algebra.proofs.Rows.{plus-row, scale-row}
use Rattle.hp_mono.specs.declared.term.Term.{Term}
use Rattle.hp_mono.specs.Monomials.{Monomial, IsMonomial, product}
use Rattle.hp_mono.specs.TermOrders.{IsTermWithin, times}
use Rattle.hp_sums.specs.FiniteSums.{IsSum, HasValues}
use Rattle.hp_sums.proofs.SumSetting.{SumSetting}
use Rattle.hp_sums.proofs.Collected.{sum-after, sum-tail, nothing-IsSum}
use Rattle.hp_sums.proofs.FirstTerms.{cons_sum, first_value}
use Rattle.hp_sums.proofs.WeightedSums.{weighted, weighted-value, weighted-append, weighted-collect, weighted-plus, weighted-add, weighted-zero, weighted_ext}
use Rattle.hp_sums.proofs.BilinearSums.{against, weighted-bilinear}
use Rattle.hp_poly.specs.Polynomials.{Poly, IsPoly, from_greatest, poly_ring, poly_plus, poly_times, term_poly}
use Rattle.hp_poly.specs.PolySetting.{poly_setting, from_greatest_total, from_greatest_same}
use Rattle.hp_poly.specs.PolyRing.{poly_is_ring, poly-values, rule, rule-values, term_poly-IsPoly}
use Rattle.hp_module.specs.Vectors.{Vector, zero_vector, vector_plus, vector_scale}
use Rattle.hp_module.specs.FreeModules.{as_listed, terms_from}

-- ---- the order in which terms are listed

pub as_listed_total : IsTotalOrder as_listed
as_listed_total = then_total (on_total (λ (t : Term). t.comp) nat_cmp_total) (on_total (λ (t : Term). t.mono) from_greatest_total)

then_equal : (r s : Ordering) → ordering_then r s ≡ Equal → (r ≡ Equal) × (s ≡ Equal)
then_equal Less s e = absurd (cc)
then_equal Equal s e = (refl, e)
then_equal Rattle.std.specs.declared.cmp.Ordering.TheVariants.Greater s e = absurd (cc)

pub as_listed_same : (s t : Term) → as_listed s t ≡ Equal → s ≡ t
as_listed_same s t e =
    let r = then_equal (nat_cmp s.comp t.comp) (from_greatest s.mono t.mono) e in
    let c = nat_cmp-IsAntisymmetric s.comp t.comp r.0 in
    let m = from_greatest_same s.mono t.mono r.1 in
    λ i. record { mono = m i; comp = c i }

abbrev pub term_setting : {F : Type 0} {ring : RingOf F} → IsRing ring → IsCommutative ring → SumSetting Term F
term_setting {F} {ring} laws commutes = record {
  order = as_listed;
  ring = ring;
  ordered = as_listed_total;
  same = as_listed_same;
  laws = laws;
  commutes = commutes;
}

-- ---- the terms of one entry

abbrev pub in_component : ℕ → Monomial → Term
in_component k m = record { mono = m; comp = k }

-- the terms of an entry
abbrev pub entry_terms : {F : Type 0} → ℕ → Poly F → List (Term × F)
entry_terms k p = map (λ t. (record { mono = t.0; comp = k }, t.1)) p

-- m times each term
abbrev pub shifted : {F : Type 0} → Monomial → List (Term × F) → List (Term × F)
shifted m xs = map (λ t. (times m t.0, t.1)) xs

module _ {F : Type 0} (ring : RingOf F) where
  pub weighted-entry : (g : Term → F) (k : ℕ) (p : Poly F) → weighted ring g (entry_terms k p)
      ≡ weighted ring (λ m. g (in_component k m)) p
  weighted-entry g k [] = refl
  weighted-entry g k (t ∷ p) = ap (ring.add (ring.mul t.1 (g (in_component k t.0)))) (weighted-entry g k p)

  pub weighted-shifted : (g : Term → F) (m : Monomial) (xs : List (Term × F)) → weighted ring g (shifted m xs)
      ≡ weighted ring (λ t. g (times m t)) xs
  weighted-shifted g m [] = refl
  weighted-shifted g m (x ∷ xs) = ap (ring.add (ring.mul x.1 (g (times m x.0)))) (weighted-shifted g m xs)

  pub terms-zero : (k width : ℕ) → terms_from k (zero_vector ring width) ≡ []
  terms-zero k zero = refl
  terms-zero k (suc width) = terms-zero (k + 1) width

module _ {F : Type 0} {ring : RingOf F} (laws : IsRing ring) (commutes : IsCommutative ring) where
  open ring use {zero as 0ₖ, one as 1ₖ, add, mul, IsValue}

  abbrev T : SumSetting Term F
  T = term_setting laws commutes

  abbrev P : SumSetting Monomial F
  P = poly_setting laws commutes

  abbrev Val : Term × F → Type 0
  Val t = IsValue t.1

  abbrev Polys : Vector F → Type 0
  Polys v = All (IsPoly ring) v

  abbrev PR : IsRing (poly_ring ring)
  PR = poly_is_ring laws commutes

  pub entry-values : (k : ℕ) (p : Poly F) → IsPoly ring p → HasValues ring (entry_terms k p)
  entry-values k p f = All-map Val (λ t. (record { mono = t.0; comp = k }, t.1)) p (poly-values laws commutes p f)

  pub shifted-values : (m : Monomial) (xs : List (Term × F)) → HasValues ring xs → HasValues ring (shifted m xs)
  shifted-values m xs h = All-map Val (λ t. (times m t.0, t.1)) xs h

  pub terms-values : (k : ℕ) (v : Vector F) → Polys v → HasValues ring (terms_from k v)
  terms-values k [] h = All-nil Val
  terms-values k (p ∷ v) h =
      All-append Val _ _ (entry-values k p (All-head (IsPoly ring) p v h)) (terms-values (k + 1) v (All-tail (IsPoly ring) p v h))

  -- ---- the terms of a vector are a sum

  -- an entry stands before the terms of later components
  before_later : (k : ℕ) (p : Poly F) (xs : List (Term × F)) → IsPoly ring p → IsSum as_listed ring xs
      → All (λ t. k < t.0.comp) xs → IsSum as_listed ring (entry_terms k p ++ xs)
  before_later k [] xs f s h = s
  before_later k (t ∷ p) xs f s h =
      let w = first_value P t p f.is_sum in
      let g : IsPoly ring p = record {
        is_sum = sum-tail P t p f.is_sum;
        monomials = All-tail (λ (u : Monomial × F). IsMonomial u.0) t p f.monomials;
      } in
      let A : Term × F → Type 0 = λ u. as_listed (in_component k t.0) u.0 ≡ Less in
      let here : All A (entry_terms k p) =
      All-map A (λ u. (record { mono = u.0; comp = k }, u.1)) p (All-weaker (λ (u : Monomial × F). from_greatest t.0 u.0 ≡ Less)
      (λ u. A (in_component k u.0, u.1))
      (λ u l. ap (λ r. ordering_then r (from_greatest t.0 u.0)) (tied_itself nat_cmp_total k) ∙ l) p (sum-after P t p f.is_sum)) in
      let there : All A xs =
      All-weaker (λ (u : Term × F). k < u.0.comp) A
      (λ u l. ap (λ r. ordering_then r (from_greatest t.0 u.0.mono)) (sym (nat_cmp_is k u.0.comp Less l))) xs h in
      cons_sum T (in_component k t.0, t.1) (entry_terms k p ++ xs) w.0 w.1 (All-append A _ xs here there) (before_later k p xs g s h)

  pub later-components : (k : ℕ) (v : Vector F) → All (λ t. k ≤ t.0.comp) (terms_from k v)
  later-components k [] = All-nil (λ (t : Term × F). k ≤ t.0.comp)
  later-components k (p ∷ v) =
      let L : Term × F → Type 0 = λ t. k ≤ t.0.comp in
      All-append L _ _ (All-map L (λ t. (record { mono = t.0; comp = k }, t.1)) p (λ i d l. omega arith))
      (All-weaker (λ (t : Term × F). k + 1 ≤ t.0.comp) L (λ t l. omega arith) (terms_from (k + 1) v) (later-components (k + 1) v))

  pub terms-sum : (k : ℕ) (v : Vector F) → Polys v → IsSum as_listed ring (terms_from k v)
  terms-sum k [] h = nothing-IsSum T
  terms-sum k (p ∷ v) h =
      before_later k p (terms_from (k + 1) v) (All-head (IsPoly ring) p v h) (terms-sum (k + 1) v (All-tail (IsPoly ring) p v h))
      (All-weaker (λ (t : Term × F). k + 1 ≤ t.0.comp) (λ t. k < t.0.comp) (λ t l. omega arith) (terms_from (k + 1) v)
      (later-components (k + 1) v))

  -- the terms of a vector are within its width
  pub terms-within : (k width : ℕ) (v : Vector F) → Polys v → k + length v ≤ width + 1 → 1 ≤ k
      → All (λ t. IsTermWithin width t.0) (terms_from k v)
  terms-within k width [] f l o = All-nil (λ (t : Term × F). IsTermWithin width t.0)
  terms-within k width (p ∷ v) f l o =
      let W : Term × F → Type 0 = λ t. IsTermWithin width t.0 in
      let here : k ≤ width = omega arith in
      All-append W _ _ (All-map W (λ t. (record { mono = t.0; comp = k }, t.1)) p (All-weaker (λ (t : Monomial × F). IsMonomial t.0)
      (λ t. IsTermWithin width (in_component k t.0)) (λ t i. (i, o, here)) p (All-head (IsPoly ring) p v f).monomials))
      (terms-within (k + 1) width v (All-tail (IsPoly ring) p v f) (omega arith) (omega arith))

  -- ---- functionals

  pub add_mid : (x y z w : F) → IsValue x → IsValue y → IsValue z → IsValue w
      → add (add x y) (add z w) ≡ add (add x z) (add y w)
  add_mid x y z w vx vy vz vw =
      laws.add_assoc x y _ vx vy (laws.add_value z w vz vw) ∙ ap (add x) (add_swap laws y z w vy vz vw)
      ∙ sym (laws.add_assoc x z _ vx vz (laws.add_value y w vy vw))

  module _ (g : Term → F) (gv : (t : Term) → IsValue (g t)) where
    pub functional-value : (k : ℕ) (v : Vector F) → Polys v → IsValue (weighted ring g (terms_from k v))
    functional-value k v h = weighted-value T g gv _ (terms-values k v h)

    pub entry-functional : (k : ℕ) (p : Poly F) → IsPoly ring p → IsValue (weighted ring g (entry_terms k p))
    entry-functional k p f = weighted-value T g gv _ (entry-values k p f)

    pub functional-cons : (k : ℕ) (p : Poly F) (v : Vector F) → IsPoly ring p → Polys v
        → weighted ring g (terms_from k (p ∷ v))
        ≡ add (weighted ring g (entry_terms k p)) (weighted ring g (terms_from (k + 1) v))
    functional-cons k p v f h = weighted-append T g gv _ _ (entry-values k p f) (terms-values (k + 1) v h)

    pub entry-plus : (k : ℕ) (p q : Poly F) → IsPoly ring p → IsPoly ring q
        → weighted ring g (entry_terms k (poly_plus ring p q))
        ≡ add (weighted ring g (entry_terms k p)) (weighted ring g (entry_terms k q))
    entry-plus k p q f h =
        let G : Monomial → F = λ m. g (in_component k m) in
        let a = weighted-entry ring g k p in
        let b = weighted-entry ring g k q in
        weighted-entry ring g k _ ∙ weighted-plus P G (λ m. gv (in_component k m)) p q f.is_sum h.is_sum
        ∙ (λ i. add (sym a i) (sym b i))

    pub functional-plus : (k : ℕ) (v w : Vector F) → length v ≡ length w → Polys v → Polys w
        → weighted ring g (terms_from k (vector_plus ring v w))
        ≡ add (weighted ring g (terms_from k v)) (weighted ring g (terms_from k w))
    functional-plus k [] [] e f h = sym (laws.add_zero 0ₖ laws.zero_value)
    functional-plus k [] (q ∷ w) e f h = absurd (omega arith)
    functional-plus k (p ∷ v) [] e f h = absurd (omega arith)
    functional-plus k (p ∷ v) (q ∷ w) e f h =
        let fp = All-head (IsPoly ring) p v f in
        let fv = All-tail (IsPoly ring) p v f in
        let hq = All-head (IsPoly ring) q w h in
        let hw = All-tail (IsPoly ring) q w h in
        let l : length v ≡ length w = omega arith in
        let here = entry-plus k p q fp hq in
        let rest = functional-plus (k + 1) v w l fv hw in
        let a = functional-cons k p v fp fv in
        let b = functional-cons k q w hq hw in
        let sum = plus-row PR (length v) v w (refl, fv) (sym l, hw) in
        functional-cons k _ _ (PR.add_value p q fp hq) sum.1 ∙ (λ i. add (here i) (rest i))
        ∙ add_mid _ _ _ _ (entry-functional k p fp) (entry-functional k q hq) (functional-value (k + 1) v fv)
        (functional-value (k + 1) w hw)
        ∙ (λ i. add (sym a i) (sym b i))

    -- what g gives on m times the terms of a vector
    abbrev pub on_multiple : ℕ → Vector F → Monomial → F
    on_multiple k v m = weighted ring (λ t. g (times m t)) (terms_from k v)

    pub on_multiple-value : (k : ℕ) (v : Vector F) → Polys v → (m : Monomial) → IsValue (on_multiple k v m)
    on_multiple-value k v h m = weighted-value T (λ t. g (times m t)) (λ t. gv (times m t)) _ (terms-values k v h)

    entry-times : (k : ℕ) (q p : Poly F) → IsPoly ring q → IsPoly ring p
        → weighted ring g (entry_terms k (poly_times ring q p))
        ≡ weighted ring (λ m. weighted ring (λ t. g (times m t)) (entry_terms k p)) q
    entry-times k q p f h =
        let G : Monomial → F = λ m. g (in_component k m) in
        let Gv : (m : Monomial) → IsValue (G m) = λ m. gv (in_component k m) in
        let one : (a c : Monomial) → weighted ring G (rule laws commutes a c) ≡ G (product a c) =
        λ a c. laws.add_zero _ (laws.mul_value 1ₖ _ laws.one_value (Gv (product a c))) ∙ laws.one_mul _ (Gv (product a c)) in
        weighted-entry ring g k _
        ∙ weighted-bilinear P (rule laws commutes) (rule-values laws commutes) G Gv q p (poly-values laws commutes q f) (poly-values laws commutes p h)
        ∙ weighted_ext P (against P (rule laws commutes) (rule-values laws commutes) G p) (λ m. weighted ring (λ t. g (times m t)) (entry_terms k p)) q
        (λ i d l. weighted_ext P _ (λ c. G (product _ c)) p (λ j u n. one _ _) ∙ sym (weighted-entry ring _ k p))

    pub functional-scale : (k : ℕ) (q : Poly F) (v : Vector F) → IsPoly ring q → Polys v
        → weighted ring g (terms_from k (vector_scale ring q v)) ≡ weighted ring (on_multiple k v) q
    functional-scale k q [] f h = sym (weighted-zero P q (poly-values laws commutes q f))
    functional-scale k q (p ∷ v) f h =
        let hp = All-head (IsPoly ring) p v h in
        let hv = All-tail (IsPoly ring) p v h in
        let here = entry-times k q p f hp in
        let rest = functional-scale (k + 1) q v f hv in
        let vq = poly-values laws commutes q f in
        let gm : (m : Monomial) (t : Term) → IsValue (g (times m t)) = λ m t. gv (times m t) in
        let A : Monomial → F = λ m. weighted ring (λ t. g (times m t)) (entry_terms k p) in
        let Av : (m : Monomial) → IsValue (A m) = λ m. weighted-value T (λ t. g (times m t)) (gm m) _ (entry-values k p hp) in
        let both : (m : Monomial) → on_multiple k (p ∷ v) m ≡ add (A m) (on_multiple (k + 1) v m) =
        λ m. weighted-append T (λ t. g (times m t)) (gm m) _ _ (entry-values k p hp) (terms-values (k + 1) v hv) in
        functional-cons k _ _ (PR.mul_value q p f hp) (scale-row PR (length v) q v f (refl, hv)).1
        ∙ (λ i. add (here i) (rest i))
        ∙ sym (weighted-add P A (on_multiple (k + 1) v) Av (on_multiple-value (k + 1) v hv) q vq)
        ∙ weighted_ext P (λ m. add (A m) (on_multiple (k + 1) v m)) (on_multiple k (p ∷ v)) q (λ i d l. sym (both _))

    -- one term more
    pub functional-plus_term : (k j : ℕ) (v : Vector F) (m : Monomial) (c : F) → Polys v → j < length v → IsValue c
        → IsMonomial m
        → weighted ring g (terms_from k (set v j (poly_plus ring (slice_index_or v j []) (term_poly ring c m))))
        ≡ add (weighted ring g (terms_from k v)) (mul c (g (in_component (k + j) m)))
    functional-plus_term k j [] m c h l vc im = absurd (omega arith)
    functional-plus_term k zero (p ∷ v) m c h l vc im =
        let hp = All-head (IsPoly ring) p v h in
        let hv = All-tail (IsPoly ring) p v h in
        let tp = term_poly-IsPoly laws commutes c m vc im in
        let one : HasValues ring ((m, c) ∷ []) = All-cons (λ (u : Monomial × F). IsValue u.1) (m, c) [] vc (All-nil (λ (u : Monomial × F). IsValue u.1)) in
        let gk = gv (in_component k m) in
        let x = laws.mul_value c _ vc gk in
        let term : weighted ring g (entry_terms k (term_poly ring c m)) ≡ mul c (g (in_component k m)) =
        weighted-entry ring g k _ ∙ weighted-collect P (λ n. g (in_component k n)) (λ n. gv (in_component k n)) ((m, c) ∷ []) one
        ∙ laws.add_zero _ x in
        let e = entry-plus k p (term_poly ring c m) hp tp ∙ ap (add (weighted ring g (entry_terms k p))) term in
        let A = entry-functional k p hp in
        let R = functional-value (k + 1) v hv in
        let z : k ≡ k + 0 = omega arith in
        functional-cons k _ v (PR.add_value p _ hp tp) hv ∙ ap (λ u. add u (weighted ring g (terms_from (k + 1) v))) e
        ∙ laws.add_assoc _ _ _ A x R ∙ ap (add (weighted ring g (entry_terms k p))) (laws.add_comm _ _ x R)
        ∙ sym (laws.add_assoc _ _ _ A R x) ∙ ap (λ u. add u (mul c (g (in_component k m)))) (sym (functional-cons k p v hp hv))
        ∙ ap (λ n. add (weighted ring g (terms_from k (p ∷ v))) (mul c (g (in_component n m)))) z
    functional-plus_term k (suc j) (p ∷ v) m c h l vc im =
        let hp = All-head (IsPoly ring) p v h in
        let hv = All-tail (IsPoly ring) p v h in
        let r = functional-plus_term (k + 1) j v m c hv (omega arith) vc im in
        let q = poly_plus ring (slice_index_or v j []) (term_poly ring c m) in
        let A = entry-functional k p hp in
        let R = functional-value (k + 1) v hv in
        let z : (k + 1) + j ≡ k + suc j = omega arith in
        let x = laws.mul_value c _ vc (gv (in_component ((k + 1) + j) m)) in
        let polys : Polys (set v j q) = set-polys v j q hv (PR.add_value _ _ (hv j [] (omega arith)) (term_poly-IsPoly laws commutes c m vc im)) in
        functional-cons k p (set v j q) hp polys ∙ ap (add (weighted ring g (entry_terms k p))) r
        ∙ sym (laws.add_assoc _ _ _ A R x) ∙ ap (λ u. add u (mul c (g (in_component ((k + 1) + j) m)))) (sym (functional-cons k p v hp hv))
        ∙ ap (λ n. add (weighted ring g (terms_from k (p ∷ v))) (mul c (g (in_component n m)))) z
      where
        set-polys : (v : Vector F) (j : ℕ) (q : Poly F) → Polys v → IsPoly ring q → Polys (set v j q)
        set-polys [] j q h f = h
        set-polys (p ∷ v) zero q h f = All-cons (IsPoly ring) q v f (All-tail (IsPoly ring) p v h)
        set-polys (p ∷ v) (suc j) q h f = All-cons (IsPoly ring) p _ (All-head (IsPoly ring) p v h) (set-polys v j q (All-tail (IsPoly ring) p v h) f)
