-- Passes by falling sums of members: what the loops keep while an element is rewritten to its normal form.
use Rattle.std.specs.Prelude.{◌≡◌, ℕ, suc, ◌<◌, ◌≤◌, nat_lt, Bool, true, false, not, cond, [], ◌∷◌, ◌++◌, filter, All}
use Rattle.std.proofs.lemmas.Bool.{ltb-true}
use Rattle.std.proofs.lemmas.List.{append-nil}
use Rattle.std.proofs.lemmas.List.Elements.{All-nil, All-cons, All-head, All-tail, All-append, All-map, All-filter}
use mathlib.Core.Path.{refl, sym, ap, ◌∙◌, subst}
use native.Mathlib.Omega.{arith}
use Rattle.hp_lists.proofs.Members.{each-All}
use Rattle.hp_algebra.specs.Ring.{IsRing}
use Rattle.hp_algebra.proofs.Rings.{add_swap}
use Rattle.hp_sets.specs.Sets.{Set, IsSetWithin, cmp_listed}
use Rattle.hp_sums.specs.FiniteSums.{collect}
use Rattle.hp_sums.proofs.Collected.{collect-keys}
use Rattle.hp_sums.proofs.WeightedSums.{scaled}
use Rattle.hp_arr.proofs.Setting.{Setting, n}
use Rattle.hp_circuits.proofs.NbcLaw.{Nbc}
use Rattle.hp_exterior.specs.Exterior.{Ext}
use Rattle.hp_os.specs.Straightening.{is_lower, lower_terms, member_sum, replaced, straight_terms, upper_terms}
use Rattle.hp_os.proofs.IdealSetting.{Dep, Element, Fn, Normal, Terms, W, sums}
use Rattle.hp_os.proofs.ElementLaws.{element-okay, make-element, okay, summed-collect, w-append, w-collect, w-value}
use Rattle.hp_os.proofs.IdealProducts.{ideal-dependent}
use Rattle.hp_os.proofs.Congruences.{congruent-by}
use Rattle.hp_os.proofs.TermCongruence.{Cong, cong-values, cong-itself, cong-chain, cong-append, cong-term, cong-nothing}
use Rattle.hp_os.proofs.Straighten.{IsReplacement, straighten, straighten-sum, straighten-set}

module _ {K : Type 0} (S : Setting K) where
  open S use {ring, inverse, numbers, arr, field}

  abbrev L : IsRing S.ring
  L = S.field.is_ring

  abbrev Val : Set × K → Type 0
  Val t = S.ring.IsValue t.1

  abbrev In_n : Set × K → Type 0
  In_n t = IsSetWithin (n S) t.0

  -- ---- lists of terms side by side

  joined : (a b c : Ext K) → Terms S a → Terms S b → Terms S c → Terms S (a ++ (b ++ c))
  joined a b c u v w = All-append Val a (b ++ c) u (All-append Val b c v w)

  w-joined : (a b c : Ext K) → Terms S a → Terms S b → Terms S c → (g : Set → K) → Fn S g
      → W S g (a ++ (b ++ c)) ≡ ring.add (W S g a) (ring.add (W S g b) (W S g c))
  w-joined a b c u v w g gv = w-append S g gv a (b ++ c) u (All-append Val b c v w) ∙ ap (ring.add (W S g a)) (w-append S g gv b c v w)

  -- the terms that pass a test, and the others
  w-split : (g : Set → K) → Fn S g → (p : Set × K → Bool) (xs : Ext K) → Terms S xs
      → W S g xs ≡ ring.add (W S g (filter (λ t. not (p t)) xs)) (W S g (filter p xs))
  w-split g gv p [] h = sym (L.add_zero ring.zero L.zero_value)
  w-split g gv p (t ∷ xs) h =
      let r = All-tail Val t xs h in
      step (p t) (w-split g gv p xs r) (L.mul_value t.1 (g t.0) (All-head Val t xs h) (gv t.0))
      (w-value S g gv (filter (λ u. not (p u)) xs) (All-filter (λ u. not (p u)) Val xs r)) (w-value S g gv (filter p xs) (All-filter p Val xs r))
    where
      step : (b : Bool) → W S g xs ≡ ring.add (W S g (filter (λ u. not (p u)) xs)) (W S g (filter p xs))
          → ring.IsValue (ring.mul t.1 (g t.0)) → ring.IsValue (W S g (filter (λ u. not (p u)) xs))
          → ring.IsValue (W S g (filter p xs))
          → ring.add (ring.mul t.1 (g t.0)) (W S g xs)
          ≡ ring.add (W S g (cond (not b) (t ∷ filter (λ u. not (p u)) xs) (filter (λ u. not (p u)) xs)))
          (W S g (cond b (t ∷ filter p xs) (filter p xs)))
      step true r v a b = ap (ring.add (ring.mul t.1 (g t.0))) r ∙ add_swap L _ _ _ v a b
      step false r v a b = ap (ring.add (ring.mul t.1 (g t.0))) r ∙ sym (L.add_assoc _ _ _ v a b)

  -- ---- passes

  abbrev IsDone : Set × K → Type 0
  IsDone t = Nbc S t.0

  -- A pass at a level: x is congruent to the three lists together. No sum of members of what is to be looked at is
  -- above the level, those of what waits are below it, and what is done has no broken circuit.
  pub record IsPass (x : Ext K) (level : ℕ) (todo rest done : Ext K) : Type 0 where
    pub same : Cong S x (todo ++ (rest ++ done))
    pub todo_values : Terms S todo
    pub rest_values : Terms S rest
    pub done_values : Terms S done
    pub todo_within : All (λ (t : Set × K). IsSetWithin (n S) t.0) todo
    pub rest_within : All (λ (t : Set × K). IsSetWithin (n S) t.0) rest
    pub done_within : All (λ (t : Set × K). IsSetWithin (n S) t.0) done
    pub done_nbc : All (λ (t : Set × K). Nbc S t.0) done
    pub todo_low : All (λ (t : Set × K). member_sum t.0 ≤ level) todo
    pub rest_low : All (λ (t : Set × K). member_sum t.0 < level) rest

  abbrev Up_to : ℕ → Set × K → Type 0
  Up_to l t = member_sum t.0 ≤ l

  abbrev Under : ℕ → Set × K → Type 0
  Under l t = member_sum t.0 < l

  -- Between two passes: the sums of members of what is left are below a bound.
  pub record IsReady (x : Ext K) (bound : ℕ) (todo done : Ext K) : Type 0 where
    pub same : Cong S x (todo ++ done)
    pub todo_values : Terms S todo
    pub done_values : Terms S done
    pub todo_within : All (λ (t : Set × K). IsSetWithin (n S) t.0) todo
    pub done_within : All (λ (t : Set × K). IsSetWithin (n S) t.0) done
    pub done_nbc : All (λ (t : Set × K). Nbc S t.0) done
    pub todo_low : All (λ (t : Set × K). member_sum t.0 < bound) todo

  -- at first all of x is left
  pub ready-start : (x : Ext K) (bound : ℕ) → Element S x → All (λ (t : Set × K). member_sum t.0 < bound) x
      → IsReady x bound x []
  ready-start x bound h l = record {
    same = subst (Cong S x) (sym (append-nil x)) (cong-itself S x (element-okay S x h));
    todo_values = element-okay S x h;
    done_values = All-nil Val;
    todo_within = h.1;
    done_within = All-nil In_n;
    done_nbc = All-nil IsDone;
    todo_low = l;
  }

  -- a pass looks at the terms of the greatest sum that is possible, added where their sets are equal
  pub pass-start : (x : Ext K) (level : ℕ) (todo here rest done : Ext K) → IsReady x (suc level) todo done
      → here ≡ collect cmp_listed ring (upper_terms level todo) → rest ≡ lower_terms level todo
      → IsPass x level here rest done
  pass-start x level todo here rest done h e f = subst (λ z. IsPass x level z rest done) (sym e) (subst (λ z. IsPass x level (collect cmp_listed ring (upper_terms level todo)) z done) (sym f) (record {
    same = cong-chain S _ _ _ h.same (cong-values S _ _ (All-append Val todo done h.todo_values h.done_values) (joined (collect cmp_listed ring (upper_terms level todo)) (lower_terms level todo) done top_values low_values h.done_values) (λ g gv.
        w-append S g gv todo done h.todo_values h.done_values
        ∙ ap (λ z. ring.add z (W S g done)) (w-split g gv (λ (t : Set × K). is_lower level t) todo h.todo_values ∙ ap (λ z. ring.add z (W S g (lower_terms level todo))) (sym (w-collect S g gv (upper_terms level todo) tops_values)))
        ∙ L.add_assoc _ _ _ (w-value S g gv (collect cmp_listed ring (upper_terms level todo)) top_values) (w-value S g gv (lower_terms level todo) low_values) (w-value S g gv done h.done_values)
        ∙ sym (w-joined (collect cmp_listed ring (upper_terms level todo)) (lower_terms level todo) done top_values low_values h.done_values g gv)));
    todo_values = top_values;
    rest_values = low_values;
    done_values = h.done_values;
    todo_within = collect-keys (sums S) (IsSetWithin (n S)) (upper_terms level todo) (All-filter (λ (t : Set × K). not (is_lower level t)) In_n todo h.todo_within);
    rest_within = All-filter (λ (t : Set × K). is_lower level t) In_n todo h.todo_within;
    done_within = h.done_within;
    done_nbc = h.done_nbc;
    todo_low = collect-keys (sums S) (λ s. member_sum s ≤ level) (upper_terms level todo)
        (All-filter (λ (t : Set × K). not (is_lower level t)) (Up_to level) todo (λ i d l. (let a = h.todo_low i d l in omega (arith, a))));
    rest_low = lower todo;
  }))
    where
      tops_values : Terms S (upper_terms level todo)
      tops_values = All-filter (λ (t : Set × K). not (is_lower level t)) Val todo h.todo_values

      top_values : Terms S (collect cmp_listed ring (upper_terms level todo))
      top_values = okay S _ (summed-collect S _ tops_values)

      low_values : Terms S (lower_terms level todo)
      low_values = All-filter (λ (t : Set × K). is_lower level t) Val todo h.todo_values

      lower : (xs : Ext K) → All (λ (t : Set × K). member_sum t.0 < level) (lower_terms level xs)
      lower [] = All-nil (Under level)
      lower (t ∷ xs) = pick (nat_lt (member_sum t.0) level) refl (lower xs)
        where
          pick : (b : Bool) → nat_lt (member_sum t.0) level ≡ b
              → All (λ (t : Set × K). member_sum t.0 < level) (lower_terms level xs)
              → All (λ (t : Set × K). member_sum t.0 < level) (cond b (t ∷ filter (λ (t : Set × K). nat_lt (member_sum t.0) level) xs) (lower_terms level xs))
          pick true e r = All-cons (Under level) t _ (ltb-true (member_sum t.0) level e) r
          pick false e r = r

  -- what the first of the terms is congruent to waits for a later pass
  pass-next : (x : Ext K) (level : ℕ) (t : Set × K) (ys todo rest done : Ext K) → IsPass x level (t ∷ todo) rest done
      → Cong S (t ∷ []) ys
      → All (λ (u : Set × K). IsSetWithin (n S) u.0) ys → All (λ (u : Set × K). member_sum u.0 < level) ys
      → IsPass x level todo (rest ++ ys) done
  pass-next x level t ys todo rest done h c k l =
      let vt = All-tail Val t todo h.todo_values in
      let vy = c.right in
      let vn = All-append Val rest ys h.rest_values vy in
      let o = joined todo rest done vt h.rest_values h.done_values in
      record {
        same = cong-chain S _ _ _ h.same (cong-chain S _ _ _ (cong-append S (t ∷ []) ys _ _ c (cong-itself S _ o))
            (cong-values S _ _ (All-append Val ys _ vy o) (joined todo (rest ++ ys) done vt vn h.done_values) (λ g gv.
            let y = w-value S g gv ys vy in
            let a = w-value S g gv todo vt in
            let b = w-value S g gv rest h.rest_values in
            let d = w-value S g gv done h.done_values in
            w-append S g gv ys _ vy o ∙ ap (ring.add (W S g ys)) (w-joined todo rest done vt h.rest_values h.done_values g gv)
            ∙ add_swap L _ _ _ y a (L.add_value _ _ b d)
            ∙ ap (ring.add (W S g todo)) (add_swap L _ _ _ y b d ∙ sym (L.add_assoc _ _ _ b y d) ∙ ap (λ z. ring.add z (W S g done)) (sym (w-append S g gv rest ys h.rest_values vy)))
            ∙ sym (w-joined todo (rest ++ ys) done vt vn h.done_values g gv))));
        todo_values = vt;
        rest_values = vn;
        done_values = h.done_values;
        todo_within = All-tail In_n t todo h.todo_within;
        rest_within = All-append In_n rest ys h.rest_within k;
        done_within = h.done_within;
        done_nbc = h.done_nbc;
        todo_low = All-tail (Up_to level) t todo h.todo_low;
        rest_low = All-append (Under level) rest ys h.rest_low l;
      }

  -- a set without broken circuit is done
  pub pass-done : (x : Ext K) (level : ℕ) (t : Set × K) (todo rest done : Ext K)
      → IsPass x level (t ∷ todo) rest done → Nbc S t.0
      → IsPass x level todo rest (done ++ t ∷ [])
  pass-done x level t todo rest done h b =
      let vt = All-tail Val t todo h.todo_values in
      let vy = All-cons Val t [] (All-head Val t todo h.todo_values) (All-nil Val) in
      let vd = All-append Val done (t ∷ []) h.done_values vy in
      let o = joined todo rest done vt h.rest_values h.done_values in
      record {
        same = cong-chain S _ _ _ h.same (cong-values S (t ∷ (todo ++ (rest ++ done))) _ (All-append Val (t ∷ []) _ vy o) (joined todo rest (done ++ t ∷ []) vt h.rest_values vd) (λ g gv.
            let y = w-value S g gv (t ∷ []) vy in
            let a = w-value S g gv todo vt in
            let b = w-value S g gv rest h.rest_values in
            let d = w-value S g gv done h.done_values in
            w-append S g gv (t ∷ []) _ vy o ∙ ap (ring.add (W S g (t ∷ []))) (w-joined todo rest done vt h.rest_values h.done_values g gv)
            ∙ add_swap L _ _ _ y a (L.add_value _ _ b d)
            ∙ ap (ring.add (W S g todo)) (add_swap L _ _ _ y b d ∙ ap (ring.add (W S g rest)) (L.add_comm _ _ y d ∙ sym (w-append S g gv done (t ∷ []) h.done_values vy)))
            ∙ sym (w-joined todo rest (done ++ t ∷ []) vt h.rest_values vd g gv)));
        todo_values = vt;
        rest_values = h.rest_values;
        done_values = vd;
        todo_within = All-tail In_n t todo h.todo_within;
        rest_within = h.rest_within;
        done_within = All-append In_n done (t ∷ []) h.done_within (All-cons In_n t [] (All-head In_n t todo h.todo_within) (All-nil In_n));
        done_nbc = All-append IsDone done (t ∷ []) h.done_nbc (All-cons IsDone t [] b (All-nil IsDone));
        todo_low = All-tail (Up_to level) t todo h.todo_low;
        rest_low = h.rest_low;
      }

  -- a dependent set is left out
  pub pass-drop : (x : Ext K) (level : ℕ) (t : Set × K) (todo rest done : Ext K)
      → IsPass x level (t ∷ todo) rest done → Dep S t.0
      → IsPass x level todo rest done
  pass-drop x level t todo rest done h d =
      subst (λ z. IsPass x level todo z done) (append-nil rest)
      (pass-next x level t [] todo rest done h
      (cong-term S t.0 t.1 [] (All-head Val t todo h.todo_values) (cong-nothing S t.0 (ideal-dependent S t.0 (All-head In_n t todo h.todo_within) d)))
      (All-nil In_n) (All-nil (Under level)))

  -- any other is straightened
  pub pass-replace : (x : Ext K) (level : ℕ) (t : Set × K) (todo rest done : Ext K) (i : ℕ) (bs : Set)
      → IsPass x level (t ∷ todo) rest done
      → IsReplacement S t.0 i bs → IsPass x level todo (rest ++ scaled ring t.1 (straight_terms ring t.0 i bs)) done
  pass-replace x level t todo rest done i bs h r =
      let top : member_sum t.0 ≤ level = All-head (Up_to level) t todo h.todo_low in
      pass-next x level t (scaled ring t.1 (straight_terms ring t.0 i bs)) todo rest done h
      (cong-term S t.0 t.1 _ (All-head Val t todo h.todo_values) (straighten S t.0 i bs r))
      (All-map In_n (λ u. (u.0, ring.mul t.1 u.1)) (straight_terms ring t.0 i bs)
      (All-map In_n _ bs (each-All (λ b. IsSetWithin (n S) (replaced t.0 b i)) bs (λ b c. straighten-set S t.0 i bs r b))))
      (All-map (Under level) (λ u. (u.0, ring.mul t.1 u.1)) (straight_terms ring t.0 i bs)
      (All-map (Under level) _ bs (each-All (λ b. member_sum (replaced t.0 b i) < level) bs (λ b c. (let l = straighten-sum S t.0 i bs r b c in omega (arith, l, top))))))

  -- after the pass what waits is left
  pub pass-end : (x : Ext K) (level : ℕ) (rest done : Ext K) → IsPass x level [] rest done → IsReady x level rest done
  pass-end x level rest done h = record {
    same = h.same;
    todo_values = h.rest_values;
    done_values = h.done_values;
    todo_within = h.rest_within;
    done_within = h.done_within;
    done_nbc = h.done_nbc;
    todo_low = h.rest_low;
  }

  -- Below 0 nothing is left, and what is done makes the normal form.
  pub ready-end : (x todo done : Ext K) → Element S x → IsReady x 0 todo done
      → Normal S x (collect cmp_listed ring done)
  ready-end x (t ∷ todo) done hx h = absurd (none _ (All-head (Under 0) t todo h.todo_low))
    where
      none : (a : ℕ) → a < 0 → ⊥
      none a l = omega (arith, l)
  ready-end x [] done hx h =
      let r = summed-collect S done h.done_values in
      let p = h.same in
      record {
        element = make-element S _ r (collect-keys (sums S) (IsSetWithin (n S)) done h.done_within);
        reduced = collect-keys (sums S) (λ s. Nbc S s) done h.done_nbc;
        congruent = congruent-by S x _ p.rest hx.0.is_sum r p.member (λ g gv. p.same g gv ∙ ap (λ z. ring.add z (W S g p.rest)) (sym (w-collect S g gv done h.done_values)));
      }
