-- Grevlex is a total order that products keep, and so is the order of terms by grevlex.
use Rattle.std.specs.Prelude.{◌≡◌, ◌≢◌, ℕ, zero, suc, ◌+◌, List, [], ◌∷◌, ◌++◌, length, reverse}
use Rattle.std.specs.declared.cmp.Ordering.{Ordering}
use Rattle.std.specs.declared.cmp.Ordering.TheVariants.{Less, Equal, Greater}
use Rattle.std.specs.Ordering.{nat_cmp, ordering_then}
use Rattle.std.specs.Cmp.{IsTotalOrder, nat_cmp_total, nat_cmp_is, on_total, back_total, then_total, tied_itself}
use Rattle.std.specs.Cmp.Lexicographic.{slice_cmp, nat_list_cmp_total}
use Rattle.std.specs.FinMap.{slice_cmp-IsAntisymmetric, nat_cmp-IsAntisymmetric}
use Rattle.std.proofs.lemmas.List.{reverse-append, reverse-reverse, length-reverse}
use Rattle.std.proofs.lemmas.Bool.Decides.{nat_tests}
use mathlib.Core.Path.{refl, sym, ap, ◌∙◌, subst}
use native.Mathlib.Omega.{arith}
use Rattle.hp_mono.specs.declared.term.Term.{Term}
use Rattle.hp_mono.specs.Monomials.{Monomial, IsMonomial, product, with_each, degree, grevlex, vars}
use Rattle.hp_mono.specs.TermOrders.{IsTermWithin, IsTermOrder, TermDivides, term_grevlex}
use Rattle.hp_mono.proofs.MonomialLaws.{degree_product, product-degree_zero}

pub grevlex_total : IsTotalOrder grevlex
grevlex_total = then_total (on_total degree nat_cmp_total) (back_total (on_total reverse nat_list_cmp_total))

then_equal : (r s : Ordering) → ordering_then r s ≡ Equal → (r ≡ Equal) × (s ≡ Equal)
then_equal Less s e = absurd (cc)
then_equal Equal s e = (refl, e)
then_equal Greater s e = absurd (cc)

pub grevlex_same : (a b : Monomial) → grevlex a b ≡ Equal → a ≡ b
grevlex_same a b e =
    sym (reverse-reverse a)
    ∙ ap reverse (sym (slice_cmp-IsAntisymmetric nat_cmp-IsAntisymmetric (reverse b) (reverse a) (then_equal _ _ e).1))
    ∙ reverse-reverse b

each-append : (f : ℕ → ℕ → ℕ) (a b c d : List ℕ) → length a ≡ length b
    → with_each f (a ++ c) (b ++ d) ≡ with_each f a b ++ with_each f c d
each-append f [] [] c d e = refl
each-append f [] (y ∷ b) c d e = absurd (omega arith)
each-append f (x ∷ a) [] c d e = absurd (omega arith)
each-append f (x ∷ a) (y ∷ b) c d e = ap (λ u. f x y ∷ u) (each-append f a b c d (omega arith))

each-reverse : (f : ℕ → ℕ → ℕ) (a b : List ℕ) → length a ≡ length b
    → reverse (with_each f a b) ≡ with_each f (reverse a) (reverse b)
each-reverse f [] [] e = refl
each-reverse f [] (y ∷ b) e = absurd (omega arith)
each-reverse f (x ∷ a) [] e = absurd (omega arith)
each-reverse f (x ∷ a) (y ∷ b) e =
    let h : length a ≡ length b = omega arith in
    let r : length (reverse a) ≡ length (reverse b) = length-reverse a ∙ h ∙ sym (length-reverse b) in
    reverse-append (f x y ∷ []) (with_each f a b) ∙ ap (λ u. u ++ (f x y ∷ [])) (each-reverse f a b h)
    ∙ sym (each-append f (reverse a) (reverse b) (x ∷ []) (y ∷ []) r)
    ∙ (λ i. with_each f (sym (reverse-append (x ∷ []) a) i) (sym (reverse-append (y ∷ []) b) i))

pub nat_cmp-plus : (z x y : ℕ) → nat_cmp (z + x) (z + y) ≡ nat_cmp x y
nat_cmp-plus z x y = grind (arith, nat_tests)

slice_product : (m a b : List ℕ) → length m ≡ length a → length m ≡ length b
    → slice_cmp nat_cmp (product m a) (product m b) ≡ slice_cmp nat_cmp a b
slice_product [] [] [] e f = refl
slice_product [] [] (y ∷ b) e f = absurd (omega arith)
slice_product [] (x ∷ a) b e f = absurd (omega arith)
slice_product (z ∷ m) [] b e f = absurd (omega arith)
slice_product (z ∷ m) (x ∷ a) [] e f = absurd (omega arith)
slice_product (z ∷ m) (x ∷ a) (y ∷ b) e f =
    let g = slice_product m a b (omega arith) (omega arith) in
    λ i. ordering_then (nat_cmp-plus z x y i) (g i)

-- a product with a monomial keeps the order
pub grevlex_product : (m a b : Monomial) → IsMonomial m → IsMonomial a → IsMonomial b
    → grevlex (product m a) (product m b) ≡ grevlex a b
grevlex_product m a b hm ha hb =
    let d : nat_cmp (degree (product m a)) (degree (product m b)) ≡ nat_cmp (degree a) (degree b) =
    (λ i. nat_cmp (degree_product vars m a hm ha i) (degree_product vars m b hm hb i))
    ∙ nat_cmp-plus (degree m) (degree a) (degree b) in
    let ea = hm ∙ sym ha in
    let eb = hm ∙ sym hb in
    let s : slice_cmp nat_cmp (reverse (product m b)) (reverse (product m a)) ≡ slice_cmp nat_cmp (reverse b) (reverse a) =
    (λ i. slice_cmp nat_cmp (each-reverse ◌+◌ m b eb i) (each-reverse ◌+◌ m a ea i))
    ∙ slice_product (reverse m) (reverse b) (reverse a) (length-reverse m ∙ eb ∙ sym (length-reverse b))
    (length-reverse m ∙ ea ∙ sym (length-reverse a)) in
    λ i. ordering_then (d i) (s i)

pub term_grevlex_total : IsTotalOrder term_grevlex
term_grevlex_total =
    then_total (on_total (λ (t : Term). t.mono) grevlex_total) (back_total (on_total (λ (t : Term). t.comp) nat_cmp_total))

term_grevlex_same : (s t : Term) → term_grevlex s t ≡ Equal → s ≡ t
term_grevlex_same s t e =
    let r = then_equal (grevlex s.mono t.mono) (nat_cmp t.comp s.comp) e in
    let m = grevlex_same s.mono t.mono r.0 in
    let c = nat_cmp-IsAntisymmetric t.comp s.comp r.1 in
    λ i. record { mono = m i; comp = sym c i }

-- a term is not below one that divides it
term_grevlex_above : (width : ℕ) (s t : Term) → IsTermWithin width s → IsTermWithin width t → TermDivides t s
    → term_grevlex s t ≢ Less
term_grevlex_above width s t hs ht (m, hm, p) e = pick (degree m) refl
  where
    monos : product m t.mono ≡ s.mono
    monos = ap (λ u. u.mono) p

    comps : t.comp ≡ s.comp
    comps = ap (λ u. u.comp) p

    sums : degree s.mono ≡ degree m + degree t.mono
    sums = ap degree (sym monos) ∙ degree_product vars m t.mono hm ht.0

    pick : (n : ℕ) → degree m ≡ n → ⊥
    pick zero q =
        let u : s.mono ≡ t.mono = sym monos ∙ product-degree_zero m t.mono (hm ∙ sym ht.0) q in
        let v : s ≡ t = (λ i. record { mono = u i; comp = sym comps i }) in
        let w = tied_itself term_grevlex_total t in
        let x : term_grevlex t t ≡ Less = subst (λ z. term_grevlex z t ≡ Less) v e in
        cc
    pick (suc n) q =
        let g : nat_cmp (degree s.mono) (degree t.mono) ≡ Greater = sym (nat_cmp_is (degree s.mono) (degree t.mono) Greater (omega (arith, sums, q))) in
        let x : Greater ≡ Less = ap (λ r. ordering_then (ordering_then r (slice_cmp nat_cmp (reverse t.mono) (reverse s.mono))) (nat_cmp t.comp s.comp)) (sym g) ∙ e in
        cc

-- The order of terms by grevlex, then by component, is a term order for each width.
pub term_grevlex-is_order : (width : ℕ) → IsTermOrder width term_grevlex
term_grevlex-is_order width = record {
  same = λ s t hs ht e. term_grevlex_same s t e;
  itself = λ t h. tied_itself term_grevlex_total t;
  opposite = λ s t hs ht. term_grevlex_total.antisymm s t;
  transitive = λ r s t hr hs ht e f. term_grevlex_total.trans r s t e f;
  keeps_products = λ m s t hm hs ht e.
      (λ i. ordering_then (grevlex_product m s.mono t.mono hm hs.0 ht.0 i) (nat_cmp t.comp s.comp)) ∙ e;
  not_below_divisor = λ s t hs ht d. term_grevlex_above width s t hs ht d;
}
