-- The greatest symbol of a relation, in the induced order, is a multiple of the greatest symbol of the relation of a pair.
use Rattle.std.specs.Prelude.{◌≡◌, ◌≢◌, ◌⊎◌, ℕ, ◌<◌, Bool, true, false, cond, List, [], ◌∷◌, length, All}
use Rattle.std.specs.Ordering.{eq_by_cmp}
use Rattle.std.proofs.lemmas.List.Elements.{All-nil, All-cons, All-head, All-tail, All-weaker}
use mathlib.Core.Logic.{inl, inr}
use mathlib.Core.Path.{refl, sym, ap, ◌∙◌, subst}
use native.Mathlib.Omega.{arith}
use Rattle.hp_algebra.specs.Ring.{IsRing, IsCommutative}
use Rattle.hp_algebra.proofs.Rings.{zero_add}
use Rattle.hp_mono.specs.declared.term.Term.{Term}
use Rattle.hp_mono.specs.TermOrders.{IsTermOrder}
use Rattle.hp_sums.specs.FiniteSums.{IsSum, HasValues, coefficient, collect, total}
use Rattle.hp_sums.proofs.SumSetting.{SumSetting}
use Rattle.hp_sums.proofs.Collected.{coefficient-collect, collect-IsSum, collect-keys, total-value}
use Rattle.hp_sums.proofs.WeightedSums.{weighted, weighted-collect}
use Rattle.hp_sums.proofs.EqualTotals.{eq-itself, total-absent}
use Rattle.hp_sums.proofs.Rewriting.{AreCongruent, IsCongruence, Step, congruence, congruent_same, rewrite_all, weighted-congruent}
use Rattle.hp_sums.proofs.SymbolLeads.{lead_of as symbol_lead_of}
use Rattle.hp_module.specs.FreeModules.{FreeModule, IsFreeModule, as_listed}
use Rattle.hp_module.specs.Leads.{AreLed, WithLeads, lead_times}
use Rattle.hp_module.proofs.VectorSums.{term_setting}
use Rattle.hp_module.proofs.OrderedTerms.{not_less-itself}
use Rattle.hp_module.proofs.Criterion.{Below, C, CoversUpTo, IsLess, IsRelationSpace, IsSteppable, Q, Ranking, canonical-apart, on_member, on_member-value, search_before, size, steppable, stepped, symbols_led, top-in}

module _ {F : Type 0} {M : FreeModule F} (L : IsFreeModule M) {s : WithLeads F} (led : AreLed M s)
    (R : List (Term × F) → Type 0) (rs : IsRelationSpace L led R) (rk : Ranking (length s.members)) (d : ℕ)
    (pairs : CoversUpTo L led R rk.rank d) where
  open M use {ring, width, cmp}

  abbrev laws : IsRing ring
  laws = L.field.is_ring

  abbrev comm : IsCommutative ring
  comm = L.field.commutes

  abbrev order : IsTermOrder width cmp
  order = L.order

  abbrev T : SumSetting Term F
  T = term_setting laws comm

  abbrev Val : Term × F → Type 0
  Val t = ring.IsValue t.1

  abbrev tot : List (Term × F) → Term → F
  tot xs b = total as_listed ring xs b

  abbrev Qd : Term → Type 0
  Qd a = Q L led R rs rk d pairs a

  abbrev Canon : Term → Type 0
  Canon a = C L led R rs rk d pairs a

  abbrev Under : Term → Term → Type 0
  Under x y = Below L led R rs rk d pairs x y

  abbrev cong : IsCongruence ring (AreCongruent T R)
  cong = congruence T R rs.space

  below-transitive : (x y z : Term) → Qd x → Qd y → Qd z → Under x y → Under y z → Under x z
  below-transitive x y z qx qy qz (inl a) (inl b) =
      inl (order.transitive (lead_times s x) (lead_times s y) (lead_times s z) (top-in L led x qx.0) (top-in L led y qy.0) (top-in L led z qz.0) a b)
  below-transitive x y z qx qy qz (inl a) (inr b) = inl (ap (cmp (lead_times s x)) (sym b.0) ∙ a)
  below-transitive x y z qx qy qz (inr a) (inl b) = inl (ap (λ t. cmp t (lead_times s z)) a.0 ∙ b)
  below-transitive x y z qx qy qz (inr a) (inr b) = inr (a.0 ∙ b.0, omega (arith, a.1, b.1))

  below-itself : (x : Term) → Qd x → Under x x → ⊥
  below-itself x q (inl a) = not_less-itself order (lead_times s x) (top-in L led x q.0) a
  below-itself x q (inr a) = absurd (omega (arith, a.1))

  module _ (t : Term) (qt : Qd t) where
    -- below t in the induced order
    abbrev Q' : Term → Type 0
    Q' x = Qd x × Under x t

    abbrev IsQ : Term × F → Type 0
    IsQ u = Q' u.0

    -- the terms at t, and the others
    record Split (xs : List (Term × F)) : Type 0 where
      c : F
      rest : List (Term × F)
      c_value : ring.IsValue c
      rest_values : HasValues ring rest
      below : All (λ u. Q' u.0) rest
      same : (b : Term) → total as_listed ring xs b ≡ total as_listed ring ((t, c) ∷ rest) b

    split : (xs : List (Term × F)) → HasValues ring xs → All (λ u. (u.0 ≡ t) ⊎ Q' u.0) xs → Split xs
    split [] v h =
        let nothing : (e : Bool) → ring.zero ≡ cond e (ring.add ring.zero ring.zero) ring.zero =
        λ e. elim e as (λ e. ring.zero ≡ cond e (ring.add ring.zero ring.zero) ring.zero) [
          | true ↦ sym (laws.add_zero ring.zero laws.zero_value)
          | false ↦ refl
        ] in
        record {
          c = ring.zero;
          rest = [];
          c_value = laws.zero_value;
          rest_values = v;
          below = All-nil IsQ;
          same = λ b. nothing (eq_by_cmp as_listed b t);
        }
    split (u ∷ xs) v h =
        let vu = All-head Val u xs v in
        let r = split xs (All-tail Val u xs v) (All-tail (λ (w : Term × F). (w.0 ≡ t) ⊎ Q' w.0) u xs h) in
        elim (All-head (λ (w : Term × F). (w.0 ≡ t) ⊎ Q' w.0) u xs h) [
          | inl e ↦ record {
            c = ring.add r.c u.1;
            rest = r.rest;
            c_value = laws.add_value r.c u.1 r.c_value vu;
            rest_values = r.rest_values;
            below = r.below;
            same = λ b. ap (λ w. cond (eq_by_cmp as_listed b w) (ring.add (tot xs b) u.1) (tot xs b)) e
                ∙ joined (eq_by_cmp as_listed b t) (tot xs b) (tot r.rest b) r.c u.1 (r.same b) (total-value T r.rest b r.rest_values) r.c_value vu;
          }
          | inr p ↦ record {
            c = r.c;
            rest = u ∷ r.rest;
            c_value = r.c_value;
            rest_values = All-cons Val u r.rest vu r.rest_values;
            below = All-cons IsQ u r.rest p r.below;
            same = λ b. passed (eq_by_cmp as_listed b u.0) (eq_by_cmp as_listed b t) (tot xs b) (tot r.rest b) r.c u.1 (r.same b)
                (total-value T r.rest b r.rest_values) r.c_value vu;
          }
        ]
      where
        joined : (e : Bool) (x y c z : F) → x ≡ cond e (ring.add y c) y → ring.IsValue y → ring.IsValue c
            → ring.IsValue z
            → cond e (ring.add x z) x ≡ cond e (ring.add y (ring.add c z)) y
        joined true x y c z p vy vc vz = ap (λ w. ring.add w z) p ∙ laws.add_assoc y c z vy vc vz
        joined false x y c z p vy vc vz = p

        passed : (f e : Bool) (x y c z : F) → x ≡ cond e (ring.add y c) y → ring.IsValue y → ring.IsValue c
            → ring.IsValue z
            → cond f (ring.add x z) x ≡ cond e (ring.add (cond f (ring.add y z) y) c) (cond f (ring.add y z) y)
        passed true true x y c z p vy vc vz =
            ap (λ w. ring.add w z) p ∙ laws.add_assoc y c z vy vc vz ∙ ap (ring.add y) (laws.add_comm c z vc vz) ∙ sym (laws.add_assoc y z c vy vz vc)
        passed true false x y c z p vy vc vz = ap (λ w. ring.add w z) p
        passed false true x y c z p vy vc vz = p
        passed false false x y c z p vy vc vz = p

    step_below : (a : Term) → Q' a → Step T Q' Canon (size L led R rs rk d pairs) (AreCongruent T R) cong a
    step_below a q =
        elim (search_before L led R rs rk d pairs a q.0.0) [
          | inl f ↦
              let st = stepped L led R rs rk d pairs a q.0 (steppable L led R rs rk d pairs a q.0 f.0 f.1 f.2 f.3.0 f.3.1) in
              inr (
                st.0,
                st.1,
                All-weaker (IsLess L led R rs rk d pairs a) (λ u. Q' u.0 × (size L led R rs rk d pairs u.0 < size L led R rs rk d pairs a))
                    (λ u p. ((p.0, below-transitive u.0 a t p.0 q.0 qt p.2 q.1), p.1)) st.0 st.2,
                st.3,
              )
          | inr w ↦ inl w
        ]

    not_at : (us : List (Term × F)) → All IsQ us → tot us t ≡ ring.zero
    not_at us h = total-absent T us t (All-weaker IsQ (λ u. t ≢ u.0) (λ u p e. below-itself t qt (subst (λ x. Under x t) (sym e) p.1)) us h)

    at_t : (c : F) (ys : List (Term × F)) → ring.IsValue c → All IsQ ys → tot ((t, c) ∷ ys) t ≡ c
    at_t c ys v h =
        ap (λ z. cond z (ring.add (tot ys t) c) (tot ys t)) (eq-itself T t) ∙ ap (λ u. ring.add u c) (not_at ys h) ∙ zero_add laws c v

    -- a list with image zero that is congruent to canonical symbols is zero at t
    canonical-zero : (xs us : List (Term × F)) → AreCongruent T R xs us → All (λ u. Canon u.0 × Qd u.0) us
        → HasValues ring us
        → ((b : Term) → weighted ring (on_member L led b) xs ≡ ring.zero) → tot us t ≡ ring.zero
    unfolding symbols_led
    canonical-zero xs us e c vu z =
        let K : Term × F → Type 0 = λ u. Canon u.0 × Qd u.0 in
        let image_zero : (b : Term) → weighted ring (on_member L led b) us ≡ ring.zero =
        λ b. sym (weighted-congruent T R rs.space (on_member L led b) (on_member-value L led b) (λ ws m. rs.relations ws b m) xs us e) ∙ z b in
        elim (collect as_listed ring us) as (λ zs. collect as_listed ring us ≡ zs → tot us t ≡ ring.zero) [
          | [] ↦ λ q. sym (coefficient-collect T us t vu) ∙ ap (λ ys. coefficient as_listed ring ys t) q
          | w ∷ zs ↦ λ q.
              let sm : IsSum as_listed ring (w ∷ zs) = subst (IsSum as_listed ring) q (collect-IsSum T us vu) in
              let keys : All K (w ∷ zs) = subst (All K) q (collect-keys T (λ a. Canon a × Qd a) us c) in
              let l = symbol_lead_of T (symbols_led L led R rs rk d pairs) Canon (canonical-apart L led R rs rk d pairs) w zs sm keys in
              absurd (l.1.nonzero (ap (λ ys. weighted ring (on_member L led (lead_times s l.0.0)) ys) (sym q)
              ∙ weighted-collect T (on_member L led (lead_times s l.0.0)) (on_member-value L led (lead_times s l.0.0)) us vu ∙ image_zero (lead_times s l.0.0)))
        ] refl

    -- The greatest symbol of a relation is a multiple of that of a reduced pair.
    pub schreyer : (xs : List (Term × F)) → HasValues ring xs → All (λ u. (u.0 ≡ t) ⊎ (Qd u.0 × Under u.0 t)) xs
        → total as_listed ring xs t ≢ ring.zero → ((b : Term) → weighted ring (on_member L led b) xs ≡ ring.zero)
        → IsSteppable L led R rs rk d pairs t
    schreyer xs v h nz z =
        elim (search_before L led R rs rk d pairs t qt.0) [
          | inl f ↦ steppable L led R rs rk d pairs t qt f.0 f.1 f.2 f.3.0 f.3.1
          | inr w ↦
              let sp = split xs v h in
              let r = rewrite_all T Q' Canon (size L led R rs rk d pairs) (AreCongruent T R) cong step_below sp.rest sp.rest_values sp.below in
              let K : Term × F → Type 0 = λ u. Canon u.0 × Qd u.0 in
              let vy = All-cons Val (t, sp.c) sp.rest sp.c_value sp.rest_values in
              let vt = All-cons Val (t, sp.c) [] sp.c_value (All-nil Val) in
              let e1 = congruent_same T R rs.space xs ((t, sp.c) ∷ sp.rest) v vy sp.same in
              let e2 = cong.appended ((t, sp.c) ∷ []) ((t, sp.c) ∷ []) sp.rest r.0 (cong.itself ((t, sp.c) ∷ []) vt) r.1 in
              let e = cong.chain xs ((t, sp.c) ∷ sp.rest) ((t, sp.c) ∷ r.0) e1 e2 in
              let canonical : All K ((t, sp.c) ∷ r.0) =
              All-cons K (t, sp.c) r.0 (w, qt) (All-weaker (λ (u : Term × F). Canon u.0 × Q' u.0) K (λ u p. (p.0, p.1.0)) r.0 r.2) in
              let below : All IsQ r.0 = All-weaker (λ (u : Term × F). Canon u.0 × Q' u.0) IsQ (λ u p. p.1) r.0 r.2 in
              let zero = canonical-zero xs ((t, sp.c) ∷ r.0) e canonical (All-cons Val (t, sp.c) r.0 sp.c_value r.3) z in
              absurd (nz (sp.same t ∙ at_t sp.c sp.rest sp.c_value sp.below ∙ sym (at_t sp.c r.0 sp.c_value below) ∙ zero))
        ]
