-- Rows form a module: the entries of sums and multiples, and the laws that follow place by place.
use Rattle.std.proofs.Common.{◌≡◌, ℕ, zero, suc, ◌+◌, ◌<◌, true, List, [], ◌∷◌, map, length, All, get_or, refl, sym, ap, subst, ◌∙◌, arith}
use Rattle.std.proofs.lemmas.List.{same_lists, get_or-map, get_or-replicate, length-replicate, length-map, get_or_default}
use Rattle.std.proofs.lemmas.Bool.{and_parts}
use Rattle.std.proofs.lemmas.List.FromFn.{length-map-range_with_len, get_or-map-range_with_len}
use Rattle.std.proofs.lemmas.List.Elements.{All-nil, All-cons, All-head, All-tail, All-map, All-replicate}
use Rattle.hp_algebra.specs.Ring.{RingOf, IsRing}
use Rattle.hp_algebra.proofs.Rings.{mul_zero, zero_mul}
use Rattle.hp_algebra.specs.Rows.{IsRow, entry, zero_row, is_zero_row, row_plus, row_scale}
use Rattle.hp_lists.specs.Lists.{one_to}

module _ {R : Type 0} (ring : RingOf R) where
  pub length-plus : (a b : List R) → length a ≡ length b → length (row_plus ring a b) ≡ length a
  length-plus [] b e = refl
  length-plus (x ∷ a) [] e = absurd (omega (arith, e))
  length-plus (x ∷ a) (y ∷ b) e = ap (λ n. suc n) (length-plus a b (omega (arith, e)))

  pub length-scale : (c : R) (a : List R) → length (row_scale ring c a) ≡ length a
  length-scale c a = length-map a (ring.mul c)

  pub get_or-plus : (a b : List R) (j : ℕ) (d : R) → j < length a → length a ≡ length b
      → get_or (row_plus ring a b) j d ≡ ring.add (get_or a j d) (get_or b j d)
  get_or-plus [] b j d h e = absurd (omega arith)
  get_or-plus (x ∷ a) [] j d h e = absurd (omega (arith, e))
  get_or-plus (x ∷ a) (y ∷ b) zero d h e = refl
  get_or-plus (x ∷ a) (y ∷ b) (suc j) d h e = get_or-plus a b j d (omega arith) (omega (arith, e))

  -- an entry of a row that is listed by its places, which are counted from 1
  pub listed-entry : (l : ℕ) (f : ℕ → R) (j : ℕ) → j < l → entry ring (map f (one_to l)) j ≡ f (j + 1)
  listed-entry l f j h = get_or-map-range_with_len f 1 l j (j + 1) ring.zero h (omega arith)

  pub listed-row : (l : ℕ) (f : ℕ → R) → ((k : ℕ) → ring.IsValue (f k)) → IsRow ring l (map f (one_to l))
  listed-row l f v = (length-map-range_with_len f 1 l, All-map ring.IsValue f (one_to l) (λ k d h. v (get_or (one_to l) k d)))

  -- rows with the same entries are equal
  pub row-ext : (width : ℕ) (a b : List R) → length a ≡ width → length b ≡ width
      → ((j : ℕ) → j < width → entry ring a j ≡ entry ring b j) → a ≡ b
  row-ext width a b ea eb h =
      same_lists a b (ea ∙ sym eb) (λ k d l.
      let in_width : k < width = subst (λ n. k < n) ea l in
      let in_b : k < length b = subst (λ n. k < n) (sym eb) in_width in
      get_or_default a k d ring.zero l ∙ h k in_width ∙ get_or_default b k ring.zero d in_b)

module _ {R : Type 0} {ring : RingOf R} (laws : IsRing ring) where
  -- ---- what is a row

  pub row-tail : (width : ℕ) (x : R) (a : List R) → IsRow ring (suc width) (x ∷ a) → IsRow ring width a
  row-tail width x a r = (omega (arith, r.0), All-tail ring.IsValue x a r.1)

  pub row-cons : (width : ℕ) (x : R) (a : List R) → ring.IsValue x → IsRow ring width a → IsRow ring (suc width) (x ∷ a)
  row-cons width x a v r = (ap (λ n. suc n) r.0, All-cons ring.IsValue x a v r.1)

  pub zeros-row : (width : ℕ) → IsRow ring width (zero_row ring width)
  zeros-row width = (length-replicate width ring.zero, All-replicate ring.IsValue width ring.zero laws.zero_value)

  pub scale-values : (c : R) (a : List R) → ring.IsValue c → All ring.IsValue a → All ring.IsValue (row_scale ring c a)
  scale-values c a v p = All-map ring.IsValue (ring.mul c) a (λ k d m. laws.mul_value c _ v (p k d m))

  pub scale-row : (width : ℕ) (c : R) (a : List R) → ring.IsValue c → IsRow ring width a
      → IsRow ring width (row_scale ring c a)
  scale-row width c a v r = (length-scale ring c a ∙ r.0, scale-values c a v r.1)

  pub plus-values : (a b : List R) → All ring.IsValue a → All ring.IsValue b → All ring.IsValue (row_plus ring a b)
  plus-values [] b p q = All-nil ring.IsValue
  plus-values (x ∷ a) [] p q = All-nil ring.IsValue
  plus-values (x ∷ a) (y ∷ b) p q =
      All-cons ring.IsValue _ _ (laws.add_value x y (All-head ring.IsValue x a p) (All-head ring.IsValue y b q))
      (plus-values a b (All-tail ring.IsValue x a p) (All-tail ring.IsValue y b q))

  pub plus-row : (width : ℕ) (a b : List R) → IsRow ring width a → IsRow ring width b
      → IsRow ring width (row_plus ring a b)
  plus-row width a b ra rb = (length-plus ring a b (ra.0 ∙ sym rb.0) ∙ ra.0, plus-values a b ra.1 rb.1)

  -- ---- entries

  pub entry-value : (width : ℕ) (a : List R) (j : ℕ) → j < width → IsRow ring width a → ring.IsValue (entry ring a j)
  entry-value width a j h r = r.1 j ring.zero (subst (λ n. j < n) (sym r.0) h)

  pub entry-plus : (width : ℕ) (a b : List R) (j : ℕ) → j < width → IsRow ring width a → IsRow ring width b
      → entry ring (row_plus ring a b) j ≡ ring.add (entry ring a j) (entry ring b j)
  entry-plus width a b j h ra rb = get_or-plus ring a b j ring.zero (subst (λ n. j < n) (sym ra.0) h) (ra.0 ∙ sym rb.0)

  pub entry-scale : (width : ℕ) (c : R) (a : List R) (j : ℕ) → j < width → IsRow ring width a
      → entry ring (row_scale ring c a) j ≡ ring.mul c (entry ring a j)
  entry-scale width c a j h r = get_or-map (ring.mul c) a j ring.zero ring.zero (subst (λ n. j < n) (sym r.0) h)

  pub entry-zeros : (width j : ℕ) → j < width → entry ring (zero_row ring width) j ≡ ring.zero
  entry-zeros width j h = get_or-replicate width j ring.zero ring.zero h

  -- a row whose entries are all zero
  pub zero_row-ext : (width : ℕ) (a : List R) → length a ≡ width → ((j : ℕ) → j < width → entry ring a j ≡ ring.zero)
      → a ≡ zero_row ring width
  zero_row-ext width a e h = row-ext ring width a _ e (length-replicate width ring.zero) (λ j l. h j l ∙ sym (entry-zeros width j l))

  -- the entries of a row that passes the test for zero
  pub is_zero_row-at : (a : List R) → All ring.IsValue a → is_zero_row ring a ≡ true → (j : ℕ) → j < length a
      → entry ring a j ≡ ring.zero
  is_zero_row-at [] v z j h = refl
  is_zero_row-at (x ∷ a) v z zero h =
      (laws.zero_test x (All-head ring.IsValue x a v)).0 (and_parts (ring.is_zero x) (is_zero_row ring a) z).0
  is_zero_row-at (x ∷ a) v z (suc j) h =
      is_zero_row-at a (All-tail ring.IsValue x a v) (and_parts (ring.is_zero x) (is_zero_row ring a) z).1 j (omega (arith, h))

  -- ---- sums

  pub plus-zeros : (width : ℕ) (a : List R) → IsRow ring width a → row_plus ring a (zero_row ring width) ≡ a
  plus-zeros width a r =
      row-ext ring width _ a (plus-row width a _ r (zeros-row width)).0 r.0 (λ j h.
      entry-plus width a _ j h r (zeros-row width) ∙ ap (ring.add (entry ring a j)) (entry-zeros width j h) ∙ laws.add_zero _ (entry-value width a j h r))

  pub plus-comm : (width : ℕ) (a b : List R) → IsRow ring width a → IsRow ring width b
      → row_plus ring a b ≡ row_plus ring b a
  plus-comm width a b ra rb =
      row-ext ring width _ _ (plus-row width a b ra rb).0 (plus-row width b a rb ra).0 (λ j h.
      entry-plus width a b j h ra rb ∙ laws.add_comm _ _ (entry-value width a j h ra) (entry-value width b j h rb) ∙ sym (entry-plus width b a j h rb ra))

  pub zeros-plus : (width : ℕ) (a : List R) → IsRow ring width a → row_plus ring (zero_row ring width) a ≡ a
  zeros-plus width a r = plus-comm width _ a (zeros-row width) r ∙ plus-zeros width a r

  pub plus-assoc : (width : ℕ) (a b c : List R) → IsRow ring width a → IsRow ring width b → IsRow ring width c
      → row_plus ring (row_plus ring a b) c ≡ row_plus ring a (row_plus ring b c)
  plus-assoc width a b c ra rb rc =
      let rab = plus-row width a b ra rb in
      let rbc = plus-row width b c rb rc in
      row-ext ring width _ _ (plus-row width _ c rab rc).0 (plus-row width a _ ra rbc).0 (λ j h.
      entry-plus width _ c j h rab rc ∙ ap (λ s. ring.add s (entry ring c j)) (entry-plus width a b j h ra rb)
      ∙ laws.add_assoc _ _ _ (entry-value width a j h ra) (entry-value width b j h rb) (entry-value width c j h rc)
      ∙ sym (entry-plus width a _ j h ra rbc ∙ ap (ring.add (entry ring a j)) (entry-plus width b c j h rb rc)))

  -- (a + b) + (c + d) = (a + c) + (b + d)
  pub plus-swap : (width : ℕ) (a b c d : List R) → IsRow ring width a → IsRow ring width b → IsRow ring width c
      → IsRow ring width d
      → row_plus ring (row_plus ring a b) (row_plus ring c d) ≡ row_plus ring (row_plus ring a c) (row_plus ring b d)
  plus-swap width a b c d ra rb rc rd =
      plus-assoc width a b _ ra rb (plus-row width c d rc rd)
      ∙ ap (row_plus ring a) (sym (plus-assoc width b c d rb rc rd) ∙ ap (λ s. row_plus ring s d) (plus-comm width b c rb rc) ∙ plus-assoc width c b d rc rb rd)
      ∙ sym (plus-assoc width a c _ ra rc (plus-row width b d rb rd))

  -- ---- multiples

  pub scale-one : (width : ℕ) (a : List R) → IsRow ring width a → row_scale ring ring.one a ≡ a
  scale-one width a r =
      row-ext ring width _ a (scale-row width ring.one a laws.one_value r).0 r.0 (λ j h. entry-scale width ring.one a j h r ∙ laws.one_mul _ (entry-value width a j h r))

  pub scale-zero : (width : ℕ) (a : List R) → IsRow ring width a → row_scale ring ring.zero a ≡ zero_row ring width
  scale-zero width a r =
      zero_row-ext width _ (scale-row width ring.zero a laws.zero_value r).0 (λ j h. entry-scale width ring.zero a j h r ∙ zero_mul laws _ (entry-value width a j h r))

  pub scale-zeros : (width : ℕ) (c : R) → ring.IsValue c → row_scale ring c (zero_row ring width) ≡ zero_row ring width
  scale-zeros width c v =
      let z = zeros-row width in
      zero_row-ext width _ (scale-row width c _ v z).0 (λ j h. entry-scale width c _ j h z ∙ ap (ring.mul c) (entry-zeros width j h) ∙ mul_zero laws c v)

  pub scale-plus : (width : ℕ) (c : R) (a b : List R) → ring.IsValue c → IsRow ring width a → IsRow ring width b
      → row_scale ring c (row_plus ring a b) ≡ row_plus ring (row_scale ring c a) (row_scale ring c b)
  scale-plus width c a b v ra rb =
      let rab = plus-row width a b ra rb in
      let sa = scale-row width c a v ra in
      let sb = scale-row width c b v rb in
      row-ext ring width _ _ (scale-row width c _ v rab).0 (plus-row width _ _ sa sb).0 (λ j h.
      entry-scale width c _ j h rab ∙ ap (ring.mul c) (entry-plus width a b j h ra rb)
      ∙ laws.mul_add c _ _ v (entry-value width a j h ra) (entry-value width b j h rb)
      ∙ sym (entry-plus width _ _ j h sa sb ∙ (λ i. ring.add (entry-scale width c a j h ra i) (entry-scale width c b j h rb i))))

  pub plus-scale : (width : ℕ) (c d : R) (a : List R) → ring.IsValue c → ring.IsValue d → IsRow ring width a
      → row_scale ring (ring.add c d) a ≡ row_plus ring (row_scale ring c a) (row_scale ring d a)
  plus-scale width c d a vc vd r =
      let vs = laws.add_value c d vc vd in
      let sc = scale-row width c a vc r in
      let sd = scale-row width d a vd r in
      row-ext ring width _ _ (scale-row width _ a vs r).0 (plus-row width _ _ sc sd).0 (λ j h.
      entry-scale width _ a j h r ∙ laws.add_mul c d _ vc vd (entry-value width a j h r)
      ∙ sym (entry-plus width _ _ j h sc sd ∙ (λ i. ring.add (entry-scale width c a j h r i) (entry-scale width d a j h r i))))

  pub scale-scale : (width : ℕ) (c d : R) (a : List R) → ring.IsValue c → ring.IsValue d → IsRow ring width a
      → row_scale ring c (row_scale ring d a) ≡ row_scale ring (ring.mul c d) a
  scale-scale width c d a vc vd r =
      let sd = scale-row width d a vd r in
      row-ext ring width _ _ (scale-row width c _ vc sd).0 (scale-row width _ a (laws.mul_value c d vc vd) r).0 (λ j h.
      entry-scale width c _ j h sd ∙ ap (ring.mul c) (entry-scale width d a j h r)
      ∙ sym (laws.mul_assoc c d _ vc vd (entry-value width a j h r)) ∙ sym (entry-scale width _ a j h r))

  -- c a - c a = 0
  pub scale-cancel : (width : ℕ) (c : R) (a : List R) → ring.IsValue c → IsRow ring width a
      → row_plus ring (row_scale ring c a) (row_scale ring (ring.neg c) a) ≡ zero_row ring width
  scale-cancel width c a v r =
      sym (plus-scale width c (ring.neg c) a v (laws.neg_value c v) r) ∙ ap (λ s. row_scale ring s a) (laws.add_neg c v) ∙ scale-zero width a r

  -- (a + c b) - c b = a
  pub plus-undo : (width : ℕ) (c : R) (a b : List R) → ring.IsValue c → IsRow ring width a → IsRow ring width b
      → row_plus ring (row_plus ring a (row_scale ring c b)) (row_scale ring (ring.neg c) b) ≡ a
  plus-undo width c a b v ra rb =
      plus-assoc width a _ _ ra (scale-row width c b v rb) (scale-row width _ b (laws.neg_value c v) rb)
      ∙ ap (row_plus ring a) (scale-cancel width c b v rb) ∙ plus-zeros width a ra
