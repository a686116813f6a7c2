-- Hyperplanes that pass a test, collected one by one.
use Rattle.std.proofs.Common.{◌≡◌, ℕ, ◌+◌, ◌-◌, ◌<◌, ◌≤◌, Bool, true, false, if◌then◌else◌, ◌∷◌, filter, Contains, refl, sym, ap, subst, ◌∙◌, arith, inl, inr, ◌⊎◌}
use Rattle.std.proofs.lemmas.Bool.{cases_eq}
use Rattle.hp_lists.specs.Lists.{one_to}
use Rattle.hp_lists.proofs.Members.{Contains-here, Contains-cases, Contains-filter, filter-Contains, not_both, Contains-later}
use Rattle.hp_lists.proofs.Ranges.{range_members, members_range}
use Rattle.hp_sets.specs.Sets.{Set, IsSetWithin, is_within, with_member}
use Rattle.hp_sets.proofs.SetLaws.{filter-set, set-wider, set-ext}
use Rattle.hp_sets.proofs.SetMembers.{set-from_members, with-members, members-with, with-set}
use Rattle.hp_sets.proofs.SetWithin.{is_within-members}

-- one number more
pub next_found : (test : ℕ → Bool) (j : ℕ) → 1 ≤ j → j ≤ 64 → (if test j then with_member (filter test (one_to (j - 1))) j else filter test (one_to (j - 1))) ≡ filter test (one_to ((j + 1) - 1))
next_found test j l m = step (test j) refl
  where
    s : Set
    s = filter test (one_to (j - 1))

    t : Set
    t = filter test (one_to ((j + 1) - 1))

    is_s : IsSetWithin 64 s
    is_s = set-wider (j - 1) 64 s (omega arith) (filter-set test (j - 1))

    is_t : IsSetWithin 64 t
    is_t = set-wider ((j + 1) - 1) 64 t (omega arith) (filter-set test ((j + 1) - 1))

    forth : (i : ℕ) → Contains s i → Contains t i
    forth i c =
        let w = filter-Contains test (one_to (j - 1)) i c in
        let r = range_members i 1 (j - 1) w.0 in
        Contains-filter test (one_to ((j + 1) - 1)) i (members_range i 1 ((j + 1) - 1) r.0 (omega (arith, r.1, l))) w.1

    back : (i : ℕ) → Contains t i → (i ≡ j) ⊎ Contains s i
    back i c =
        let w = filter-Contains test (one_to ((j + 1) - 1)) i c in
        let r = range_members i 1 ((j + 1) - 1) w.0 in
        elim (cases_eq i j) [
          | inl e ↦ inl e
          | inr ne ↦ inr (Contains-filter test (one_to (j - 1)) i (members_range i 1 (j - 1) r.0 (omega (arith, r.1, l, ne))) w.1)
        ]

    step : (b : Bool) → test j ≡ b → (if b then with_member s j else s) ≡ t
    step true e = set-ext 64 64 (with_member s j) t (with-set 64 s j is_s m) is_t
        (λ i c. elim (Contains-cases j s i (with-members s j i c)) [
          | inl e2 ↦ subst (Contains t) e2 (Contains-filter test (one_to ((j + 1) - 1)) j (members_range j 1 ((j + 1) - 1) l (omega arith)) e)
          | inr d ↦ forth i d
        ])
        (λ i c. members-with s j i is_s (l, m) (elim (back i c) [ inl e2 ↦ subst (λ k. Contains (j ∷ s) k) (sym e2) (Contains-here j s) | inr d ↦ Contains-later j s i d ]))
    step false e = set-ext 64 64 s t is_s is_t forth (λ i c. elim (back i c) [
      | inl e2 ↦ absurd (not_both (test i) (filter-Contains test (one_to ((j + 1) - 1)) i c).1 (ap test e2 ∙ e))
      | inr d ↦ d
    ])

-- a set within the first n numbers
pub within-first : (n : ℕ) (s : Set) → IsSetWithin 64 s → is_within s (one_to n) ≡ true → IsSetWithin n s
within-first n s is t = set-from_members n s is (λ i c. below i (range_members i 1 n (is_within-members s (one_to n) i t c)))
  where
    below : (i : ℕ) → (1 ≤ i) × (i < 1 + n) → i ≤ n
    below i h = omega (arith, h.1)
