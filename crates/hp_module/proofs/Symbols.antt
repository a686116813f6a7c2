-- Combinations of vectors as lists of symbols, each a monomial times a member: a space, closed under monomials.
use Rattle.std.specs.Prelude.{◌≡◌, ℕ, ◌+◌, ◌-◌, ◌<◌, ◌≤◌, cond, List, [], ◌∷◌, ◌++◌, length, All, slice_index_or}
use Rattle.std.specs.Ordering.{eq_by_cmp}
use Rattle.std.proofs.lemmas.List.Elements.{All-nil, All-cons, All-head, All-tail, All-append, All-map, All-weaker}
use mathlib.Core.Path.{refl, sym, ap, ◌∙◌, subst}
use native.Mathlib.Omega.{arith}
use Rattle.hp_algebra.specs.Ring.{RingOf, IsRing, IsCommutative}
use Rattle.hp_mono.specs.declared.term.Term.{Term}
use Rattle.hp_mono.specs.Monomials as mono
use Rattle.hp_mono.specs.Monomials.{Monomial, IsMonomial, product}
use Rattle.hp_mono.specs.TermOrders.{IsTermWithin, times}
use Rattle.hp_mono.proofs.TermLaws.{times-times, times-within}
use Rattle.hp_sums.specs.FiniteSums.{HasValues, total}
use Rattle.hp_sums.proofs.SumSetting.{SumSetting}
use Rattle.hp_sums.proofs.Collected.{total-append, total-value}
use Rattle.hp_sums.proofs.WeightedSums.{delta, delta-value, scaled, scaled-values, total-delta, weighted, weighted-append, weighted-none, weighted-scaled, weighted-value, weighted_ext}
use Rattle.hp_sums.proofs.EqualTotals.{total-scaled, weighted-same}
use Rattle.hp_sums.proofs.Rewriting.{AreCongruent, IsSpace}
use Rattle.hp_module.specs.Vectors.{Vector, IsVector, IsGenerated, combination, vector_plus, vector_scale, zero_vector}
use Rattle.hp_module.specs.FreeModules.{as_listed, coefficient_at, plus_term, terms}
use Rattle.hp_module.proofs.VectorSums.{shifted, shifted-values, term_setting, terms-values, weighted-shifted}
use Rattle.hp_module.proofs.VectorCoefficients.{coefficient-combination, coefficient-ext, coefficient-plus, coefficient-multiple, coefficient-plus_term, coefficient-zero, combination-vector, family, family-values, image, image-value, multiple-vector, plus-vector, plus_term-vector, total-shifted, within, zero-vector}
use Rattle.hp_module.proofs.ShiftedTerms.{shifted-one}
use Rattle.hp_poly.specs.Polynomials.{term_poly}

module _ {F : Type 0} {ring : RingOf F} (laws : IsRing ring) (commutes : IsCommutative ring) where
  open ring use {zero as 0ₖ, add, mul, IsValue}

  abbrev T : SumSetting Term F
  T = term_setting laws commutes

  abbrev tot : List (Term × F) → Term → F
  tot xs b = total as_listed ring xs b

  abbrev Val : Term × F → Type 0
  Val t = IsValue t.1

  -- what is congruent has congruent multiples
  pub congruent-shifted : (R : List (Term × F) → Type 0) → IsSpace T R → (m : Monomial)
      → ((xs : List (Term × F)) → R xs → R (shifted m xs)) → (xs ys : List (Term × F)) → AreCongruent T R xs ys
      → AreCongruent T R (shifted m xs) (shifted m ys)
  congruent-shifted R space m closed xs ys p =
      let vr = space.values p.rest p.member in
      let vs = All-append Val ys p.rest p.right vr in
      record {
        left = shifted-values laws commutes m xs p.left;
        right = shifted-values laws commutes m ys p.right;
        rest = shifted m p.rest;
        member = closed p.rest p.member;
        same = λ b.
            let g : Term → F = λ t. delta T b (times m t) in
            let gv : (t : Term) → IsValue (g t) = λ t. delta-value T b (times m t) in
            let e = total-shifted laws commutes m ys b p.right in
            let f = total-shifted laws commutes m p.rest b vr in
            total-shifted laws commutes m xs b p.left
            ∙ weighted-same T g gv xs (ys ++ p.rest) p.left vs (λ a. p.same a ∙ sym (total-append T ys p.rest a p.right vr))
            ∙ weighted-append T g gv ys p.rest p.right vr ∙ (λ i. add (sym e i) (sym f i));
      }

  -- c_1 m_1 g_(i_1) + .. for symbols with coefficients, where the component of a symbol says which g
  abbrev pub spread : (ℕ → List (Term × F)) → List (Term × F) → List (Term × F)
  spread fam [] = []
  spread fam (t ∷ zs) = scaled ring t.1 (shifted t.0.mono (fam t.0.comp)) ++ spread fam zs

  module _ (fam : ℕ → List (Term × F)) (fv : (i : ℕ) → HasValues ring (fam i)) where
    abbrev im : Term → Term → F
    im b a = image laws commutes fam b a

    abbrev imv : (b a : Term) → IsValue (image laws commutes fam b a)
    imv b a = image-value laws commutes fam fv b a

    pub spread-values : (zs : List (Term × F)) → HasValues ring zs → HasValues ring (spread fam zs)
    spread-values [] h = All-nil Val
    spread-values (t ∷ zs) h =
        All-append Val _ _ (scaled-values T t.1 _ (All-head Val t zs h) (shifted-values laws commutes t.0.mono _ (fv t.0.comp)))
        (spread-values zs (All-tail Val t zs h))

    -- what a functional gives on a symbol
    abbrev pub on_symbol : (Term → F) → Term → F
    on_symbol g a = weighted ring (λ t. g (times a.mono t)) (fam a.comp)

    pub on_symbol-value : (g : Term → F) → ((t : Term) → IsValue (g t)) → (a : Term) → IsValue (on_symbol g a)
    on_symbol-value g gv a = weighted-value T (λ t. g (times a.mono t)) (λ t. gv (times a.mono t)) (fam a.comp) (fv a.comp)

    weighted-spread : (g : Term → F) → ((t : Term) → IsValue (g t)) → (zs : List (Term × F)) → HasValues ring zs
        → weighted ring g (spread fam zs) ≡ weighted ring (on_symbol g) zs
    weighted-spread g gv [] h = refl
    weighted-spread g gv (t ∷ zs) h =
        let vt = All-head Val t zs h in
        let vs = All-tail Val t zs h in
        let sv = shifted-values laws commutes t.0.mono (fam t.0.comp) (fv t.0.comp) in
        let here = weighted-scaled T g gv t.1 _ vt sv ∙ ap (mul t.1) (weighted-shifted ring g t.0.mono (fam t.0.comp)) in
        let rest = weighted-spread g gv zs vs in
        weighted-append T g gv _ _ (scaled-values T t.1 _ vt sv) (spread-values zs vs) ∙ (λ i. add (here i) (rest i))

    total-spread : (zs : List (Term × F)) (b : Term) → HasValues ring zs
        → tot (spread fam zs) b ≡ weighted ring (im b) zs
    total-spread zs b h =
        total-delta T b (spread fam zs) (spread-values zs h) ∙ weighted-spread (delta T b) (delta-value T b) zs h
        ∙ weighted_ext T (on_symbol (delta T b)) (im b) zs
        (λ i t l. sym (total-shifted laws commutes (slice_index_or zs i t).0.mono (fam (slice_index_or zs i t).0.comp) b (fv (slice_index_or zs i t).0.comp)))

    -- The list of terms is a combination of the first n members: it has the totals of a list of symbols.
    pub record IsSymbolic (n : ℕ) (xs : List (Term × F)) : Type 0 where
      pub symbols : List (Term × F)
      pub symbol_values : HasValues ring symbols
      pub inside : All (λ t. IsTermWithin n t.0) symbols
      pub values : HasValues ring xs
      pub same : (b : Term) → total as_listed ring xs b ≡ weighted ring (image laws commutes fam b) symbols

    module _ (n : ℕ) where
      abbrev In : Term × F → Type 0
      In t = IsTermWithin n t.0

      -- a functional of a combination is one of its symbols
      pub symbolic-functional : (g : Term → F) → ((t : Term) → IsValue (g t)) → (xs : List (Term × F))
          → (p : IsSymbolic n xs)
          → weighted ring g xs ≡ weighted ring (on_symbol g) p.symbols
      symbolic-functional g gv xs p =
          weighted-same T g gv xs (spread fam p.symbols) p.values (spread-values p.symbols p.symbol_values)
          (λ b. p.same b ∙ sym (total-spread p.symbols b p.symbol_values))
          ∙ weighted-spread g gv p.symbols p.symbol_values

      -- other lists of terms with the same totals
      pub symbolic-same : (xs ys : List (Term × F)) → HasValues ring ys
          → ((b : Term) → total as_listed ring ys b ≡ total as_listed ring xs b) → IsSymbolic n xs → IsSymbolic n ys
      symbolic-same xs ys v e p = record {
        symbols = p.symbols;
        symbol_values = p.symbol_values;
        inside = p.inside;
        values = v;
        same = λ b. e b ∙ p.same b;
      }

      pub symbolic-space : IsSpace T (IsSymbolic n)
      symbolic-space = record {
        nothing = record {
          symbols = [];
          symbol_values = All-nil Val;
          inside = All-nil In;
          values = All-nil Val;
          same = λ b. refl;
        };
        sum = λ xs ys p q. record {
          symbols = p.symbols ++ q.symbols;
          symbol_values = All-append Val _ _ p.symbol_values q.symbol_values;
          inside = All-append In _ _ p.inside q.inside;
          values = All-append Val xs ys p.values q.values;
          same = λ b.
              let e = p.same b in
              let f = q.same b in
              total-append T xs ys b p.values q.values ∙ (λ i. add (e i) (f i))
              ∙ sym (weighted-append T (im b) (imv b) p.symbols q.symbols p.symbol_values q.symbol_values);
        };
        multiple = λ c xs v p. record {
          symbols = scaled ring c p.symbols;
          symbol_values = scaled-values T c p.symbols v p.symbol_values;
          inside = All-map In (λ t. (t.0, mul c t.1)) p.symbols p.inside;
          values = scaled-values T c xs v p.values;
          same = λ b. total-scaled T c xs b v p.values ∙ ap (mul c) (p.same b)
              ∙ sym (weighted-scaled T (im b) (imv b) c p.symbols v p.symbol_values);
        };
        values = λ xs p. p.values;
      }

      image-times : (b a : Term) (m : Monomial) → im b (times m a) ≡ on_symbol (λ t. delta T b (times m t)) a
      image-times b a m =
          total-shifted laws commutes (product m a.mono) (fam a.comp) b (fv a.comp)
          ∙ weighted_ext T _ _ (fam a.comp) (λ i t l. ap (delta T b) (times-times m a.mono (slice_index_or (fam a.comp) i t).0))

      pub symbolic-shifted : (m : Monomial) (xs : List (Term × F)) → IsMonomial m → IsSymbolic n xs
          → IsSymbolic n (shifted m xs)
      symbolic-shifted m xs im_m p = record {
        symbols = shifted m p.symbols;
        symbol_values = shifted-values laws commutes m p.symbols p.symbol_values;
        inside = All-map In (λ t. (times m t.0, t.1)) p.symbols
            (All-weaker In (λ t. IsTermWithin n (times m t.0)) (λ t h. times-within n m t.0 im_m h) p.symbols p.inside);
        values = shifted-values laws commutes m xs p.values;
        same = λ b.
            total-shifted laws commutes m xs b p.values
            ∙ symbolic-functional (λ t. delta T b (times m t)) (λ t. delta-value T b (times m t)) xs p
            ∙ weighted_ext T (on_symbol (λ t. delta T b (times m t))) (λ a. im b (times m a)) p.symbols
            (λ i t l. sym (image-times b (slice_index_or p.symbols i t).0 m))
            ∙ sym (weighted-shifted ring (im b) m p.symbols);
      }

      -- a multiple of a member
      pub symbolic-one : (c : F) (p : ℕ) → IsValue c → 1 ≤ p → p ≤ n → All (λ t. IsMonomial t.0.mono) (fam p)
          → IsSymbolic n (scaled ring c (fam p))
      symbolic-one c p v lo hi monos =
          let a : Term = record { mono = mono.one; comp = p } in
          record {
            symbols = (a, c) ∷ [];
            symbol_values = All-cons Val (a, c) [] v (All-nil Val);
            inside = All-cons In (a, c) [] (refl, lo, hi) (All-nil In);
            values = scaled-values T c (fam p) v (fv p);
            same = λ b. total-scaled T c (fam p) b v (fv p) ∙ ap (λ xs. mul c (tot xs b)) (sym (shifted-one (fam p) monos))
                ∙ sym (laws.add_zero _ (laws.mul_value c _ v (imv b a)));
          }

      -- where a list of symbols is a relation, so are its multiples
      pub relation-multiple : (ys : List (Term × F)) → HasValues ring ys → All (λ t. IsTermWithin n t.0) ys
          → ((b : Term) → weighted ring (image laws commutes fam b) ys ≡ 0ₖ) → (m : Monomial) → IsMonomial m
          → (b : Term)
          → weighted ring (λ t. image laws commutes fam b (times m t)) ys ≡ 0ₖ
      unfolding symbolic-shifted
      relation-multiple ys v h z m im_m b =
          let p : IsSymbolic n [] = record {
            symbols = ys;
            symbol_values = v;
            inside = h;
            values = All-nil Val;
            same = λ c. sym (z c);
          } in
          sym (weighted-shifted ring (im b) m ys) ∙ sym ((symbolic-shifted m [] im_m p).same b)

  -- ---- chains

  module _ (G H : ℕ → List (Term × F)) (gv : (i : ℕ) → HasValues ring (G i))
      (hv : (i : ℕ) → HasValues ring (H i)) (n k : ℕ) where
    abbrev Each : Term × F → Type 0
    Each t = IsMonomial t.0.mono × IsSymbolic G gv n (H t.0.comp)

    symbolic-spread : (zs : List (Term × F)) → HasValues ring zs → All Each zs → IsSymbolic G gv n (spread H zs)
    symbolic-spread [] v h = (symbolic-space G gv n).nothing
    symbolic-spread (t ∷ zs) v h =
        let e = All-head Each t zs h in
        let s = symbolic-space G gv n in
        s.sum _ _ (s.multiple t.1 _ (All-head Val t zs v) (symbolic-shifted G gv n t.0.mono _ e.0 e.1)) (symbolic-spread zs (All-tail Val t zs v) (All-tail Each t zs h))

    -- combinations of combinations are combinations
    pub symbolic-chain : (xs : List (Term × F)) → (p : IsSymbolic H hv k xs)
        → All (λ t. IsSymbolic G gv n (H t.0.comp)) p.symbols → IsSymbolic G gv n xs
    symbolic-chain xs p each =
        symbolic-same G gv n (spread H p.symbols) xs p.values
        (λ b. p.same b ∙ sym (total-spread H hv p.symbols b p.symbol_values))
        (symbolic-spread p.symbols p.symbol_values (λ i t l. ((p.inside i t l).0, each i t l)))

    -- what relations among the H give is sent to zero by a functional of the G that is zero on each multiple of an H
    pub symbolic-zero : (g : Term → F) → ((t : Term) → IsValue (g t))
        → ((m : Monomial) (i : ℕ) → IsMonomial m → 1 ≤ i → i ≤ k → weighted ring (λ t. g (times m t)) (H i) ≡ 0ₖ)
        → (xs : List (Term × F)) → IsSymbolic H hv k xs → weighted ring g xs ≡ 0ₖ
    symbolic-zero g gv' z xs p =
        symbolic-functional H hv k g gv' xs p
        ∙ weighted-none T (on_symbol H hv g) p.symbols p.symbol_values
        (λ i t l. let h = p.inside i t l in z (slice_index_or p.symbols i t).0.mono (slice_index_or p.symbols i t).0.comp h.0 h.1 h.2)

  -- ---- vectors of lists of terms

  -- each list of terms is that of a vector
  pub vector_of : (n : ℕ) (xs : List (Term × F)) → HasValues ring xs → All (λ t. IsTermWithin n t.0) xs
      → (v : Vector F) × IsVector ring n v × ((b : Term) → coefficient_at ring v b ≡ total as_listed ring xs b)
  vector_of n [] v h = (zero_vector ring n, zero-vector laws commutes n, coefficient-zero laws commutes n)
  vector_of n (t ∷ xs) v h =
      let vt = All-head Val t xs v in
      let ht = All-head (λ (u : Term × F). IsTermWithin n u.0) t xs h in
      let r = vector_of n xs (All-tail Val t xs v) (All-tail (λ (u : Term × F). IsTermWithin n u.0) t xs h) in (
        plus_term ring r.0 t.0 t.1,
        plus_term-vector laws commutes n r.0 t.0 t.1 r.1 ht vt,
        λ b. coefficient-plus_term laws commutes n r.0 t.0 t.1 b r.1 ht vt
            ∙ ap (λ x. cond (eq_by_cmp as_listed b t.0) (add x t.1) x) (r.2 b),
      )

  -- ---- the submodule that vectors generate

  module _ (width : ℕ) (G : List (Vector F)) (vectors : All (IsVector ring width) G) where
    abbrev fam_of : ℕ → List (Term × F)
    fam_of = family laws commutes G

    abbrev fam_values : (i : ℕ) → HasValues ring (family laws commutes G i)
    fam_values = family-values laws commutes width G vectors

    -- the list of terms is a combination of the vectors
    abbrev pub AreTermsOf : List (Term × F) → Type 0
    AreTermsOf xs = IsSymbolic (family laws commutes G) (family-values laws commutes width G vectors) (length G) xs

    pub generated-vector : (v : Vector F) → IsGenerated ring width G v → IsVector ring width v
    generated-vector v g = subst (IsVector ring width) (sym g.2) (combination-vector laws commutes width g.0 G g.1.1 vectors)

    pub to_symbols : (v : Vector F) → IsGenerated ring width G v → AreTermsOf (terms v)
    to_symbols v g = record {
      symbols = terms g.0;
      symbol_values = terms-values laws commutes 1 g.0 g.1.1;
      inside = within laws commutes (length G) g.0 g.1;
      values = terms-values laws commutes 1 v (generated-vector v g).1;
      same = λ b. ap (λ w. coefficient_at ring w b) g.2 ∙ coefficient-combination laws commutes width g.0 G g.1 vectors b;
    }

    -- and with the coefficients that the combination has
    pub from_symbols_with : (v : Vector F) → IsVector ring width v → (p : AreTermsOf (terms v))
        → (qs : Vector F) × IsVector ring (length G) qs × (v ≡ combination ring width qs G)
        × ((a : Term) → coefficient_at ring qs a ≡ total as_listed ring p.symbols a)
    from_symbols_with v h p =
        let r = vector_of (length G) p.symbols p.symbol_values p.inside in
        let cv = combination-vector laws commutes width r.0 G r.1.1 vectors in (
          r.0,
          r.1,
          coefficient-ext laws commutes width v (combination ring width r.0 G) h cv (λ b.
              p.same b
              ∙ weighted-same T (image laws commutes fam_of b) (image-value laws commutes fam_of fam_values b) p.symbols (terms r.0) p.symbol_values (terms-values laws commutes 1 r.0 r.1.1) (λ a. sym (r.2 a))
              ∙ sym (coefficient-combination laws commutes width r.0 G r.1 vectors b)),
          r.2,
        )

    pub from_symbols : (v : Vector F) → IsVector ring width v → AreTermsOf (terms v) → IsGenerated ring width G v
    from_symbols v h p = let r = from_symbols_with v h p in (r.0, r.1, r.2)

    pub generated-zero : IsGenerated ring width G (zero_vector ring width)
    generated-zero =
        let z = zero-vector laws commutes width in
        from_symbols (zero_vector ring width) z
        (symbolic-same fam_of fam_values (length G) [] (terms (zero_vector ring width)) (terms-values laws commutes 1 _ z.1) (coefficient-zero laws commutes width)
        (symbolic-space fam_of fam_values (length G)).nothing)

    pub generated-plus : (v w : Vector F) → IsGenerated ring width G v → IsGenerated ring width G w
        → IsGenerated ring width G (vector_plus ring v w)
    generated-plus v w p q =
        let hv = generated-vector v p in
        let hw = generated-vector w q in
        let a = to_symbols v p in
        let b = to_symbols w q in
        let h = plus-vector laws commutes width v w hv hw in
        from_symbols (vector_plus ring v w) h
        (symbolic-same fam_of fam_values (length G) (terms v ++ terms w) _ (terms-values laws commutes 1 _ h.1)
        (λ x. coefficient-plus laws commutes width v w x hv hw ∙ sym (total-append T (terms v) (terms w) x a.values b.values))
        ((symbolic-space fam_of fam_values (length G)).sum _ _ a b))

    pub generated-multiple : (c : F) (m : Monomial) (v : Vector F) → IsValue c → IsMonomial m
        → IsGenerated ring width G v
        → IsGenerated ring width G (vector_scale ring (term_poly ring c m) v)
    generated-multiple c m v vc im_m p =
        let hv = generated-vector v p in
        let a = to_symbols v p in
        let h = multiple-vector laws commutes width c m v vc im_m hv in
        let sv = shifted-values laws commutes m (terms v) a.values in
        from_symbols _ h
        (symbolic-same fam_of fam_values (length G) (scaled ring c (shifted m (terms v))) _ (terms-values laws commutes 1 _ h.1)
        (λ x. coefficient-multiple laws commutes width c m v x vc im_m hv ∙ sym (total-scaled T c (shifted m (terms v)) x vc sv))
        ((symbolic-space fam_of fam_values (length G)).multiple c _ vc (symbolic-shifted fam_of fam_values (length G) m (terms v) im_m a)))

    -- member i, counted from 0
    pub generated-member : (i : ℕ) → i < length G → IsGenerated ring width G (slice_index_or G i [])
    generated-member i l =
        let h = vectors i [] l in
        let back : (i + 1) - 1 ≡ i = omega arith in
        let monos : All (λ t. IsMonomial t.0.mono) (terms (slice_index_or G i [])) =
        All-weaker (λ (t : Term × F). IsTermWithin width t.0) (λ t. IsMonomial t.0.mono) (λ t w. w.0) _ (within laws commutes width _ h) in
        let same : fam_of (i + 1) ≡ terms (slice_index_or G i []) = ap (λ k. terms (slice_index_or G k [])) back in
        let one = symbolic-one fam_of fam_values (length G) ring.one (i + 1) laws.one_value (omega arith) (omega arith) (subst (All (λ t. IsMonomial t.0.mono)) (sym same) monos) in
        from_symbols (slice_index_or G i []) h
        (symbolic-same fam_of fam_values (length G) _ _ (terms-values laws commutes 1 _ h.1)
        (λ b. ap (λ xs. tot xs b) (sym same)
        ∙ sym (total-scaled T ring.one (fam_of (i + 1)) b laws.one_value (fam_values (i + 1)) ∙ laws.one_mul _ (total-value T (fam_of (i + 1)) b (fam_values (i + 1))))) one)

  -- what is generated by what is generated is generated
  pub generated-chain : (width : ℕ) (G H : List (Vector F)) → All (IsVector ring width) G → All (IsVector ring width) H
      → ((i : ℕ) → i < length H → IsGenerated ring width G (slice_index_or H i [])) → (v : Vector F)
      → IsGenerated ring width H v → IsGenerated ring width G v
  generated-chain width G H vg vh each v p =
      let a = to_symbols width H vh v p in
      from_symbols width G vg v (generated-vector width H vh v p)
      (symbolic-chain (family laws commutes G) (family laws commutes H) (family-values laws commutes width G vg) (family-values laws commutes width H vh) (length G) (length H) (terms v) a
      (λ i t l. let h = a.inside i t l in to_symbols width G vg _ (each ((slice_index_or a.symbols i t).0.comp - 1) (omega (arith, h.1, h.2)))))

  -- only the vectors that occur in the combination need be generated
  pub generated-through : (width : ℕ) (G H : List (Vector F)) → All (IsVector ring width) G
      → All (IsVector ring width) H
      → (v qs : Vector F) → IsVector ring (length H) qs → v ≡ combination ring width qs H
      → All (λ t. IsGenerated ring width G (slice_index_or H (t.0.comp - 1) [])) (terms qs) → IsGenerated ring width G v
  unfolding to_symbols
  generated-through width G H vg vh v qs f e each =
      let g : IsGenerated ring width H v = (qs, f, e) in
      let a = to_symbols width H vh v g in
      from_symbols width G vg v (generated-vector width H vh v g)
      (symbolic-chain (family laws commutes G) (family laws commutes H) (family-values laws commutes width G vg)
      (family-values laws commutes width H vh) (length G) (length H) (terms v) a (λ i t l. to_symbols width G vg _ (each i t l)))
