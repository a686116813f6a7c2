-- A space of rows modulo a subspace: bases modulo the span of some rows, and how many rows they have.
use Rattle.std.proofs.Common.{◌≡◌, ◌≢◌, ◌⊎◌, ◌↔◌, ℕ, zero, suc, ◌+◌, Bool, true, false, List, [], ◌∷◌, ◌++◌, length, All, Contains, refl, sym, ap, subst, ◌∙◌, arith, inl, inr}
use Rattle.std.proofs.lemmas.List.{length-append, replicate-append-replicate}
use Rattle.std.proofs.lemmas.List.Elements.{All-nil, All-cons, All-head, All-tail, All-append, All-contains, Contains-append_left, Contains-append_right, Contains-append_cases}
use Rattle.std.proofs.lemmas.Bool.{false≢true}
use Rattle.hp_algebra.specs.Ring.{RingOf, IsRing, IsField}
use Rattle.hp_algebra.specs.Rows.{IsRow, zero_row, row_plus, row_scale, row_times, same_row}
use Rattle.hp_algebra.proofs.Rows.{row-cons, scale-row, zeros-plus, plus-assoc, plus-undo, scale-one, scale-zero, scale-scale, scale-cancel}
use Rattle.hp_algebra.proofs.RowDifferences.{same_row-exact}
use Rattle.hp_linear.specs.Spaces.{AreCoefficients, AreIndependent, IsBasisOf, IsCombination, HasDimension, HaveSameSpan}
use Rattle.hp_linear.specs.Echelon.{PivotRow, rows_of}
use Rattle.hp_lists.proofs.Members.{Contains-here, Contains-later, Contains-cases, Contains-none, each-All}
use Rattle.hp_linear.proofs.Combinations.{times-row, times-zeros, span-scale, span-more, span-member, span-least}
use Rattle.hp_linear.proofs.Dimension.{dimension-unique}
use Rattle.hp_linear.proofs.Units.{HaveUnitColumns, at_units, at_units-row, in_span-test, reduced-units}
use Rattle.hp_linear.proofs.Existence.{reduced-exists}

-- ---- rows in two parts

module _ {R : Type 0} {ring : RingOf R} (laws : IsRing ring) where
  -- a row of j + k entries is one of j before one of k
  abbrev pub Parts : ℕ → ℕ → List R → Type 0
  Parts j k es = (cs : List R) × (ds : List R) × (es ≡ cs ++ ds) × IsRow ring j cs × IsRow ring k ds

  pub parts : (j k : ℕ) (es : List R) → IsRow ring (j + k) es → Parts j k es
  parts zero k es r = ([], es, refl, (refl, All-nil ring.IsValue), (omega (arith, r.0), r.1))
  parts (suc j) k [] r = absurd (omega (arith, r.0))
  parts (suc j) k (e ∷ es) r =
      let w = parts j k es (omega (arith, r.0), All-tail ring.IsValue e es r.1) in
      (e ∷ w.0, w.1, ap (λ s. e ∷ s) w.2, row-cons laws j e w.0 (All-head ring.IsValue e es r.1) w.3, w.4)

  zeros-split : (cs ds : List R) (k : ℕ) → cs ++ ds ≡ zero_row ring k → cs ≡ zero_row ring (length cs)
  zeros-split [] ds k e = refl
  zeros-split (c ∷ cs) ds zero e = absurd (omega (arith, ap length e))
  zeros-split (c ∷ cs) ds (suc k) e =
      let first : c ≡ ring.zero = ap (head_of ring.zero) e in
      let rest = zeros-split cs ds k (ap tail_of e) in
      λ i. first i ∷ rest i
    where
      head_of : R → List R → R
      head_of d [] = d
      head_of d (x ∷ xs) = x

      tail_of : List R → List R
      tail_of [] = []
      tail_of (x ∷ xs) = xs

  -- (c d) (z u) = c z + d u
  pub times-append : (width : ℕ) (cs ds : List R) (zs us : List (List R)) → IsRow ring (length zs) cs
      → All ring.IsValue ds → All (IsRow ring width) zs → All (IsRow ring width) us
      → row_times ring width (cs ++ ds) (zs ++ us)
      ≡ row_plus ring (row_times ring width cs zs) (row_times ring width ds us)
  times-append width [] ds [] us r v az au = sym (zeros-plus laws width _ (times-row laws width ds us v au))
  times-append width [] ds (z ∷ zs) us r v az au = absurd (omega (arith, r.0))
  times-append width (c ∷ cs) ds [] us r v az au = absurd (omega (arith, r.0))
  times-append width (c ∷ cs) ds (z ∷ zs) us r v az au =
      let vc = All-head ring.IsValue c cs r.1 in
      let vt = All-tail ring.IsValue c cs r.1 in
      let rz = All-head (IsRow ring width) z zs az in
      let rt = All-tail (IsRow ring width) z zs az in
      ap (row_plus ring (row_scale ring c z)) (times-append width cs ds zs us (omega (arith, r.0), vt) v rt au)
      ∙ sym (plus-assoc laws width _ _ _ (scale-row laws width c z vc rz) (times-row laws width cs zs vt rt) (times-row laws width ds us v au))

  -- where a + b = 0, a = (-1) b
  pub plus-zero : (width : ℕ) (a b : List R) → IsRow ring width a → IsRow ring width b
      → row_plus ring a b ≡ zero_row ring width → a ≡ row_scale ring (ring.neg ring.one) b
  plus-zero width a b ra rb e =
      let n = ring.neg ring.one in
      sym (plus-undo laws width ring.one a b laws.one_value ra rb)
      ∙ ap (λ s. row_plus ring (row_plus ring a s) (row_scale ring n b)) (scale-one laws width b rb)
      ∙ ap (λ s. row_plus ring s (row_scale ring n b)) e
      ∙ zeros-plus laws width _ (scale-row laws width n b (laws.neg_value _ laws.one_value) rb)

  -- a + (-1) a = 0
  pub plus-negative : (width : ℕ) (a : List R) → IsRow ring width a
      → row_plus ring a (row_scale ring (ring.neg ring.one) a) ≡ zero_row ring width
  plus-negative width a ra =
      ap (λ s. row_plus ring s (row_scale ring (ring.neg ring.one) a)) (sym (scale-one laws width a ra))
      ∙ scale-cancel laws width ring.one a laws.one_value ra

-- ---- bases modulo a span

module _ {R : Type 0} (ring : RingOf R) where
  -- v is a combination of zs plus a row of the span of us
  abbrev pub IsCombinationModulo : ℕ → List (List R) → List (List R) → List R → Type 0
  IsCombinationModulo width us zs v = (cs : List R) × AreCoefficients ring (length zs) cs × (u : List R)
      × IsCombination ring width us u × (v ≡ row_plus ring (row_times ring width cs zs) u)

  -- zs is a basis of V modulo the span of us
  pub record IsBasisModulo (width : ℕ) (V : List R → Type 0) (us zs : List (List R)) : Type 0 where
    pub members : (z : List R) → Contains zs z → V z
    pub spanning : (v : List R) → V v → IsCombinationModulo width us zs v
    pub independent : (cs : List R) → AreCoefficients ring (length zs) cs
        → IsCombination ring width us (row_times ring width cs zs) → cs ≡ zero_row ring (length zs)

module _ {R : Type 0} {ring : RingOf R} (laws : IsRing ring) (width : ℕ) (V : List R → Type 0) (rows : (v : List R) → V v → IsRow ring width v) where
  are-rows : (xs : List (List R)) → ((x : List R) → Contains xs x → V x) → All (IsRow ring width) xs
  are-rows xs h = each-All (IsRow ring width) xs (λ x c. rows x (h x c))

  -- A basis modulo a subspace and a basis of the subspace are a basis.
  pub modulo-join : (us zs : List (List R)) → IsBasisModulo ring width V us zs
      → ((u : List R) → Contains us u → V u) → AreIndependent ring width us → IsBasisOf ring width V (zs ++ us)
  modulo-join us zs B within free = record {
    members = λ v c. All-contains V (zs ++ us) v (All-append V zs us (each-All V zs B.members) (each-All V us within)) c;
    spanning = λ v h.
        let w = B.spanning v h in
        let u = w.3 in (
          w.0 ++ u.0,
          (length-append w.0 u.0 ∙ (λ i. w.1.0 i + u.1.0 i) ∙ sym (length-append zs us), All-append ring.IsValue w.0 u.0 w.1.1 u.1.1),
          w.4 ∙ ap (row_plus ring (row_times ring width w.0 zs)) u.2 ∙ sym (times-append laws width w.0 u.0 zs us w.1 u.1.1 az au),
        );
    independent = apart;
  }
    where
      az : All (IsRow ring width) zs
      az = are-rows zs B.members

      au : All (IsRow ring width) us
      au = are-rows us within

      apart : AreIndependent ring width (zs ++ us)
      apart es a e =
          let p = parts laws (length zs) (length us) es (a.0 ∙ length-append zs us, a.1) in
          let X = row_times ring width p.0 zs in
          let Y = row_times ring width p.1 us in
          let rx = times-row laws width p.0 zs p.3.1 az in
          let ry = times-row laws width p.1 us p.4.1 au in
          let sum : row_plus ring X Y ≡ zero_row ring width =
          sym (ap (λ s. row_times ring width s (zs ++ us)) p.2 ∙ times-append laws width p.0 p.1 zs us p.3 p.4.1 az au) ∙ e in
          let negative : X ≡ row_scale ring (ring.neg ring.one) Y = plus-zero laws width X Y rx ry sum in
          let first : p.0 ≡ zero_row ring (length zs) =
          B.independent p.0 p.3 (subst (IsCombination ring width us) (sym negative) (span-scale laws width us au _ Y (laws.neg_value _ laws.one_value) (p.1, p.4, refl))) in
          let none : X ≡ zero_row ring width = ap (λ s. row_times ring width s zs) first ∙ times-zeros laws width zs az in
          let second : p.1 ≡ zero_row ring (length us) =
          free p.1 p.4 (sym (zeros-plus laws width Y ry) ∙ ap (λ s. row_plus ring s Y) (sym none) ∙ sum) in
          p.2 ∙ (λ i. first i ++ second i) ∙ replicate-append-replicate (length zs) (length us) ring.zero ∙ ap (zero_row ring) (sym (length-append zs us))

  -- The first rows of a basis are one modulo the span of the others.
  pub modulo-split : (us zs : List (List R)) → IsBasisOf ring width V (zs ++ us) → IsBasisModulo ring width V us zs
  modulo-split us zs B = record {
    members = λ z c. All-contains V zs z (each-All V zs (λ x d. B.members x (left x d))) c;
    spanning = λ v h.
        let w = B.spanning v h in
        let p = parts laws (length zs) (length us) w.0 (w.1.0 ∙ length-append zs us, w.1.1) in (
          p.0,
          p.3,
          row_times ring width p.1 us,
          (p.1, p.4, refl),
          w.2 ∙ ap (λ s. row_times ring width s (zs ++ us)) p.2 ∙ times-append laws width p.0 p.1 zs us p.3 p.4.1 az au,
        );
    independent = apart;
  }
    where
      left : (x : List R) → Contains zs x → Contains (zs ++ us) x
      left x d = Contains-append_left zs us x d

      az : All (IsRow ring width) zs
      az = are-rows zs (λ x d. B.members x (Contains-append_left zs us x d))

      au : All (IsRow ring width) us
      au = are-rows us (λ x d. B.members x (Contains-append_right zs us x d))

      apart : (cs : List R) → AreCoefficients ring (length zs) cs
          → IsCombination ring width us (row_times ring width cs zs) → cs ≡ zero_row ring (length zs)
      apart cs a u =
          let X = row_times ring width cs zs in
          let rx = times-row laws width cs zs a.1 az in
          let m = span-scale laws width us au (ring.neg ring.one) X (laws.neg_value _ laws.one_value) u in
          let sum : row_times ring width (cs ++ m.0) (zs ++ us) ≡ zero_row ring width =
          times-append laws width cs m.0 zs us a m.1.1 az au ∙ ap (row_plus ring X) (sym m.2) ∙ plus-negative laws width X rx in
          let all : AreCoefficients ring (length (zs ++ us)) (cs ++ m.0) =
          (length-append cs m.0 ∙ (λ i. a.0 i + m.1.0 i) ∙ sym (length-append zs us), All-append ring.IsValue cs m.0 a.1 m.1.1) in
          zeros-split laws cs m.0 _ (B.independent (cs ++ m.0) all sum) ∙ ap (zero_row ring) a.0

  -- only the span counts
  pub modulo-same : (us others zs : List (List R)) → HaveSameSpan ring width us others
      → IsBasisModulo ring width V us zs → IsBasisModulo ring width V others zs
  modulo-same us others zs same B = record {
    members = B.members;
    spanning = λ v h. (let w = B.spanning v h in (w.0, w.1, w.2, (same w.2).0 w.3, w.4));
    independent = λ cs a u. B.independent cs a ((same _).1 u);
  }

-- ---- over a field

module _ {R : Type 0} {ring : RingOf R} {inverse : R → R} (field : IsField ring inverse) where
  abbrev laws : IsRing ring
  laws = field.is_ring

  -- To be in a span is decided.
  pub in_span : (width : ℕ) (rows : List (List R)) (v : List R) → All (IsRow ring width) rows → IsRow ring width v
      → IsCombination ring width rows v ⊎ (IsCombination ring width rows v → ⊥)
  in_span width rows v are r = step (same_row ring v other) refl
    where
      kept : List (PivotRow R)
      kept = (reduced-exists field width rows are).0

      same : HaveSameSpan ring width rows (rows_of ring (reduced-exists field width rows are).0)
      same = (reduced-exists field width rows are).2

      units : HaveUnitColumns laws width (reduced-exists field width rows are).0
      units = reduced-units laws width kept (reduced-exists field width rows are).1

      other : List R
      other = row_times ring width (at_units laws width kept units v) (rows_of ring kept)

      exact : (same_row ring v other ≡ true) ↔ (v ≡ other)
      exact = same_row-exact laws v other r.1 (times-row laws width _ (rows_of ring kept) (at_units-row laws width kept units v r).1 units.are).1

      step : (b : Bool) → same_row ring v other ≡ b
          → IsCombination ring width rows v ⊎ (IsCombination ring width rows v → ⊥)
      step true e = inl ((same v).1 ((in_span-test laws width kept units v r).1 (exact.0 e)))
      step false e = inr (λ c. false≢true (sym e ∙ exact.1 ((in_span-test laws width kept units v r).0 ((same v).0 c))))

  -- where c a + b = 0 and c is not zero, a is (1/c) (-1) b
  divided : (width : ℕ) (c : R) (a b : List R) → ring.IsValue c → c ≢ ring.zero → IsRow ring width a
      → IsRow ring width b → row_plus ring (row_scale ring c a) b ≡ zero_row ring width
      → a ≡ row_scale ring (inverse c) (row_scale ring (ring.neg ring.one) b)
  divided width c a b vc ne ra rb e =
      let vi = field.inverse_value c vc ne in
      sym (scale-one laws width a ra)
      ∙ ap (λ d. row_scale ring d a) (sym (field.mul_inverse c vc ne) ∙ field.commutes c (inverse c) vc vi)
      ∙ sym (scale-scale laws width (inverse c) c a vi vc ra)
      ∙ ap (row_scale ring (inverse c)) (plus-zero laws width _ b (scale-row laws width c a vc ra) rb e)

  -- Independent rows and a row that is not in their span are independent.
  pub independent-more : (width : ℕ) (a : List R) (rows : List (List R)) → IsRow ring width a
      → All (IsRow ring width) rows → AreIndependent ring width rows → (IsCombination ring width rows a → ⊥)
      → AreIndependent ring width (a ∷ rows)
  independent-more width a rows ra are free off [] m e = absurd (omega (arith, m.0))
  independent-more width a rows ra are free off (c ∷ cs) m e =
      let vc = All-head ring.IsValue c cs m.1 in
      let vt = All-tail ring.IsValue c cs m.1 in
      let rest : IsRow ring (length rows) cs = (omega (arith, m.0), vt) in
      step vc rest (times-row laws width cs rows vt are) (ring.is_zero c) refl
    where
      step : ring.IsValue c → IsRow ring (length rows) cs → IsRow ring width (row_times ring width cs rows) → (b : Bool)
          → ring.is_zero c ≡ b → c ∷ cs ≡ zero_row ring (length (a ∷ rows))
      step vc rest rb false z =
          let n = ring.neg ring.one in
          let ne : c ≢ ring.zero = λ q. false≢true (sym z ∙ (laws.zero_test c vc).1 q) in
          absurd (off (subst (IsCombination ring width rows) (sym (divided width c a _ vc ne ra rb e))
          (span-scale laws width rows are (inverse c) _ (field.inverse_value c vc ne) (span-scale laws width rows are n _ (laws.neg_value _ laws.one_value) (cs, rest, refl)))))
      step vc rest rb true z =
          let q = (laws.zero_test c vc).0 z in
          let r = free cs rest (sym (zeros-plus laws width _ rb) ∙ ap (λ s. row_plus ring s (row_times ring width cs rows)) (sym (scale-zero laws width a ra) ∙ ap (λ d. row_scale ring d a) (sym q)) ∙ e) in
          λ i. q i ∷ r i

  -- zs are some of ks, independent together with us, and span ks with them
  record IsExtension (width : ℕ) (us ks zs : List (List R)) : Type 0 where
    from : (z : List R) → Contains zs z → Contains ks z
    free : AreIndependent ring width (zs ++ us)
    spans : (k : List R) → Contains ks k → IsCombination ring width (zs ++ us) k

  extended : (width : ℕ) (us ks : List (List R)) → All (IsRow ring width) us → All (IsRow ring width) ks
      → AreIndependent ring width us → (zs : List (List R)) × IsExtension width us ks zs
  extended width us [] au ak free = ([], record { from = λ z c. c; free = free; spans = λ k c. absurd (Contains-none k c) })
  extended width us (k ∷ ks) au ak free =
      let rk = All-head (IsRow ring width) k ks ak in
      let rt = All-tail (IsRow ring width) k ks ak in
      let w = extended width us ks au rt free in
      let az = each-All (IsRow ring width) w.0 (λ z c. All-contains (IsRow ring width) ks z rt (w.1.from z c)) in
      let are = All-append (IsRow ring width) w.0 us az au in
      step w.0 w.1 rk are (in_span width (w.0 ++ us) k are rk)
    where
      step : (zs : List (List R)) → IsExtension width us ks zs → IsRow ring width k → All (IsRow ring width) (zs ++ us)
          → IsCombination ring width (zs ++ us) k ⊎ (IsCombination ring width (zs ++ us) k → ⊥)
          → (zs : List (List R)) × IsExtension width us (k ∷ ks) zs
      step zs E rk are (inl c) = (
        zs,
        record {
          from = λ z m. Contains-later k ks z (E.from z m);
          free = E.free;
          spans = λ j m. elim (Contains-cases k ks j m) [ inl q ↦ subst (IsCombination ring width (zs ++ us)) q c | inr i ↦ E.spans j i ];
        },
      )
      step zs E rk are (inr off) = (
        k ∷ zs,
        record {
          from = λ z m. elim (Contains-cases k zs z m) [ inl q ↦ subst (Contains (k ∷ ks)) q (Contains-here k ks) | inr i ↦ Contains-later k ks z (E.from z i) ];
          free = independent-more width k (zs ++ us) rk are E.free off;
          spans = λ j m. elim (Contains-cases k ks j m) [
            | inl q ↦ subst (IsCombination ring width (k ∷ zs ++ us)) q (span-member laws width (k ∷ zs ++ us) k (All-cons (IsRow ring width) k (zs ++ us) rk are) (Contains-here k (zs ++ us)))
            | inr i ↦ span-more laws width k (zs ++ us) j rk are (E.spans j i)
          ];
        },
      )

  module _ (width : ℕ) (V : List R → Type 0) (rows : (v : List R) → V v → IsRow ring width v) (d a : ℕ) (is : HasDimension ring width V d)
      (us : List (List R)) (within : (v : List R) → IsCombination ring width us v → V v) (rank : HasDimension ring width (IsCombination ring width us) a)
      (are : All (IsRow ring width) us) where
    members_in : (v : List R) → Contains rank.0 v → V v
    members_in v c = within v (rank.1.members v c)

    basis-rows : All (IsRow ring width) rank.0
    basis-rows = each-All (IsRow ring width) rank.0 (λ v c. rows v (members_in v c))

    same : HaveSameSpan ring width rank.0 us
    same v = (span-least laws width us rank.0 v are rank.1.members, λ c. rank.1.spanning v c)

    -- A space has a basis modulo a subspace, of as many rows as the dimensions differ by.
    pub quotient-basis : (zs : List (List R)) × IsBasisModulo ring width V us zs × (length zs + a ≡ d)
    quotient-basis =
        let ks = is.0 in
        let ak = each-All (IsRow ring width) ks (λ v c. rows v (is.1.members v c)) in
        let w = extended width rank.0 ks basis-rows ak rank.1.independent in
        let zs = w.0 in
        let mz : (z : List R) → Contains zs z → V z = λ z c. is.1.members z (w.1.from z c) in
        let az = each-All (IsRow ring width) zs (λ z c. rows z (mz z c)) in
        let whole : IsBasisOf ring width V (zs ++ rank.0) = record {
          members = λ v c. elim (Contains-append_cases zs rank.0 v c) [ inl m ↦ mz v m | inr m ↦ members_in v m ];
          spanning = λ v h. span-least laws width (zs ++ rank.0) ks v (All-append (IsRow ring width) zs rank.0 az basis-rows) w.1.spans (is.1.spanning v h);
          independent = w.1.free;
        } in
        let count = dimension-unique field width V (length (zs ++ rank.0)) d rows (zs ++ rank.0, whole, refl) is in
        (zs, modulo-same laws width V rows rank.0 us zs same (modulo-split laws width V rows rank.0 zs whole), ap (λ n. length zs + n) (sym rank.2) ∙ sym (length-append zs rank.0) ∙ count)

    -- Each such basis has this many.
    pub quotient-count : (zs : List (List R)) → IsBasisModulo ring width V us zs → length zs + a ≡ d
    quotient-count zs B =
        let same' : HaveSameSpan ring width us rank.0 = λ v. ((same v).1, (same v).0) in
        let whole = modulo-join laws width V rows rank.0 zs (modulo-same laws width V rows us rank.0 zs same' B) members_in rank.1.independent in
        ap (λ n. length zs + n) (sym rank.2) ∙ sym (length-append zs rank.0) ∙ dimension-unique field width V _ d rows (zs ++ rank.0, whole, refl) is
