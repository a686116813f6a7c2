-- No edge that is drawn is bad.
use Rattle.std.proofs.Common.{◌≡◌, inl, inr, ℕ, ◌-◌, ◌<◌, ◌≤◌, ◌==◌, nat_le, min, max, false, not, ◌&&◌, ◌||◌, List, length, take, get_or, Contains, None, sym, ap, subst, ◌∙◌, ne_eqb, arith}
use Rattle.std.specs.List.{list_any}
use Rattle.std.proofs.lemmas.Bool.{and_parts, eqb-true, le-leb, false_from_ne_true}
use Rattle.std.proofs.lemmas.List.{get_or-take, get_or_default, length-take-le}
use Rattle.std.proofs.lemmas.List.Elements.{Contains-get_or}
use Rattle.std.proofs.lemmas.List.Folds.{list_any_none}
use Rattle.hp_lists.specs.Lists.{Ordered}
use Rattle.hp_lists.proofs.Firsts.{find-none}
use Rattle.hp_lists.proofs.Ordered.{Ordered-at}
use Rattle.hp_build.specs.Graphs.{same_edge, is_bad_edge, bad_edge}
use Rattle.hp_build.proofs.ListedPairs.{IsBefore}

-- a < b among v vertices
abbrev pub IsRising : ℕ → ℕ × ℕ → Type 0
IsRising v e = (1 ≤ e.0) × (e.0 < e.1) × (e.1 ≤ v)

min-rising : (a b : ℕ) → a < b → min a b ≡ a
min-rising a b h = omega (arith, h)

max-rising : (a b : ℕ) → a < b → max a b ≡ b
max-rising a b h = omega (arith, h)

apart : (d e : ℕ × ℕ) → d.0 < d.1 → e.0 < e.1 → IsBefore d e → same_edge e d ≡ false
apart d e p q before = false_from_ne_true (same_edge e d) (λ same. (
    let parts = and_parts (min e.0 e.1 == min d.0 d.1) (max e.0 e.1 == max d.0 d.1) same in
    differ before
    (sym (min-rising e.0 e.1 q) ∙ eqb-true (min e.0 e.1) (min d.0 d.1) parts.0 ∙ min-rising d.0 d.1 p)
    (sym (max-rising e.0 e.1 q) ∙ eqb-true (max e.0 e.1) (max d.0 d.1) parts.1 ∙ max-rising d.0 d.1 p)))
  where
    differ : IsBefore d e → e.0 ≡ d.0 → e.1 ≡ d.1 → ⊥
    differ (inl less) first second = omega (arith, less, first)
    differ (inr below) first second = omega (arith, below.1, second)

-- an edge between vertices, apart from all before it
good : (v : ℕ) (earlier : List (ℕ × ℕ)) (e : ℕ × ℕ) → IsRising v e → list_any (same_edge e) earlier ≡ false
    → is_bad_edge v earlier e ≡ false
good v earlier e r new =
    let lowest : 1 ≤ min e.0 e.1 = subst (λ n. 1 ≤ n) (sym (min-rising e.0 e.1 r.1)) r.0 in
    let highest : max e.0 e.1 ≤ v = subst (λ n. n ≤ v) (sym (max-rising e.0 e.1 r.1)) r.2 in
    ap (λ b. b || (not (nat_le 1 (min e.0 e.1) && nat_le (max e.0 e.1) v) || list_any (same_edge e) earlier))
    (ne_eqb e.0 e.1 (below e.0 e.1 r.1))
    ∙ ap (λ b. not (b && nat_le (max e.0 e.1) v) || list_any (same_edge e) earlier) (le-leb 1 (min e.0 e.1) lowest)
    ∙ ap (λ b. not b || list_any (same_edge e) earlier) (le-leb (max e.0 e.1) v highest)
    ∙ new
  where
    below : (a b : ℕ) → a < b → a ≡ b → ⊥
    below a b h e = omega (arith, h, e)

-- edges between vertices in lexicographic order are those of a simple graph
pub simple : (v : ℕ) (edges : List (ℕ × ℕ)) → ((e : ℕ × ℕ) → Contains edges e → IsRising v e)
    → Ordered IsBefore edges → bad_edge v edges ≡ None
simple v edges rise order =
    find-none (λ k. is_bad_edge v (take (k - 1) edges) (get_or edges (k - 1) (0, 0))) 1 (length edges)
    (λ h low high. at (h - 1) (omega (arith, low, high)))
  where
    new : (k : ℕ) → k < length edges → list_any (same_edge (get_or edges k (0, 0))) (take k edges) ≡ false
    new k l = list_any_none (same_edge (get_or edges k (0, 0))) (take k edges) (λ h d m. (
        let e : ℕ × ℕ = get_or edges k (0, 0) in
        let taken : length (take k edges) ≡ k = length-take-le k edges (omega (arith, l)) in
        let below : h < k = omega (arith, m, taken) in
        let inside : h < length edges = omega (arith, below, l) in
        let same : get_or (take k edges) h d ≡ get_or edges h (0, 0) = get_or-take k edges h d below
        ∙ get_or_default edges h d (0, 0) inside in
        subst (λ f. same_edge e f ≡ false) (sym same)
        (apart (get_or edges h (0, 0)) e (rise (get_or edges h (0, 0)) (Contains-get_or edges h (0, 0) inside)).1
        (rise e (Contains-get_or edges k (0, 0) l)).1
        (Ordered-at IsBefore edges h k (0, 0) order below l))))

    at : (k : ℕ) → k < length edges → is_bad_edge v (take k edges) (get_or edges k (0, 0)) ≡ false
    at k l = good v (take k edges) (get_or edges k (0, 0))
        (rise (get_or edges k (0, 0)) (Contains-get_or edges k (0, 0) l)) (new k l)
