-- Lists of terms modulo the Orlik-Solomon ideal.
use Rattle.std.specs.Prelude.{◌≡◌, ℕ, List, [], ◌∷◌, ◌++◌, Contains}
use Rattle.std.proofs.lemmas.List.Elements.{All-append, All-nil, All-cons}
use mathlib.Core.Path.{refl, sym, ap, ◌∙◌, subst}
use Rattle.hp_lists.proofs.Members.{Contains-here, Contains-later}
use Rattle.hp_algebra.specs.Ring.{IsRing}
use Rattle.hp_algebra.proofs.Rings.{zero_add}
use Rattle.hp_sets.specs.Sets.{Set, cmp_listed}
use Rattle.hp_sums.specs.FiniteSums.{collect}
use Rattle.hp_sums.proofs.WeightedSums.{scaled, scaled-values, weighted-scaled}
use Rattle.hp_arr.proofs.Setting.{Setting}
use Rattle.hp_exterior.specs.Exterior.{Ext, ext_plus}
use Rattle.hp_exterior.proofs.Negations.{both_sides, four}
use Rattle.hp_os.specs.OrlikSolomon.{multiple, basis_element}
use Rattle.hp_os.proofs.IdealSetting.{Fn, In, Terms, W, sums}
use Rattle.hp_os.proofs.ElementLaws.{okay, summed-collect, w-value, w-append, w-collect, w-monomial, w-plus, w-multiple}
use Rattle.hp_os.proofs.IdealLaws.{ideal-element, ideal-summed, ideal-zero, ideal-plus, ideal-multiple}
use Rattle.hp_os.proofs.IdealParts.{IsFromIdeal, from-add, from-zero}
use Rattle.hp_os.proofs.MemberSums.{over_members}

module _ {K : Type 0} (S : Setting K) where
  open S use {ring, inverse, numbers, arr, field}

  abbrev L : IsRing S.ring
  L = S.field.is_ring

  abbrev Val : Set × K → Type 0
  Val t = S.ring.IsValue t.1

  pub rest-value : (z : Ext K) → In S z → (g : Set → K) → Fn S g → ring.IsValue (W S g z)
  rest-value z h g gv = w-value S g gv z (okay S z (ideal-summed S z h))

  -- ---- functionals

  pub from-members : (f : (Set → K) → ℕ → K) (s : List ℕ) → ((d : ℕ) → Contains s d → IsFromIdeal S (λ g. f g d))
      → IsFromIdeal S (λ g. over_members ring (f g) s)
  from-members f [] h = from-zero S
  from-members f (d ∷ s) h =
      from-add S (λ g. f g d) (λ g. over_members ring (f g) s) (h d (Contains-here d s)) (from-members f s (λ e c. h e (Contains-later d s e c)))

  -- the value at e_S for an element e_S of the ideal
  pub from-basis : (s : Set) → In S (basis_element ring s) → IsFromIdeal S (λ g. g s)
  from-basis s m = (basis_element ring s, m, λ g gv. sym (w-monomial S g gv ring.one s L.one_value ∙ L.one_mul (g s) (gv s)))

  -- ---- lists of terms

  -- The values of the two differ by those of an element of the ideal.
  pub record Cong (xs ys : Ext K) : Type 0 where
    pub left : Terms S xs
    pub right : Terms S ys
    pub rest : Ext K
    pub member : In S rest
    pub same : (g : Set → K) → Fn S g → W S g xs ≡ ring.add (W S g ys) (W S g rest)

  -- lists with the same values are congruent
  pub cong-values : (xs ys : Ext K) → Terms S xs → Terms S ys → ((g : Set → K) → Fn S g → W S g xs ≡ W S g ys)
      → Cong xs ys
  cong-values xs ys v w e = record {
    left = v;
    right = w;
    rest = [];
    member = ideal-zero S;
    same = λ g gv. e g gv ∙ sym (L.add_zero _ (w-value S g gv ys w));
  }

  pub cong-itself : (xs : Ext K) → Terms S xs → Cong xs xs
  cong-itself xs v = cong-values xs xs v v (λ g gv. refl)

  pub cong-chain : (xs ys zs : Ext K) → Cong xs ys → Cong ys zs → Cong xs zs
  cong-chain xs ys zs p q = record {
    left = p.left;
    right = q.right;
    rest = ext_plus ring q.rest p.rest;
    member = ideal-plus S _ _ q.member p.member;
    same = λ g gv. p.same g gv ∙ ap (λ z. ring.add z (W S g p.rest)) (q.same g gv)
        ∙ L.add_assoc _ _ _ (w-value S g gv zs q.right) (rest-value q.rest q.member g gv) (rest-value p.rest p.member g gv)
        ∙ ap (ring.add (W S g zs)) (sym (w-plus S g gv q.rest p.rest (ideal-summed S _ q.member) (ideal-summed S _ p.member)));
  }

  pub cong-append : (xs ys us vs : Ext K) → Cong xs ys → Cong us vs → Cong (xs ++ us) (ys ++ vs)
  cong-append xs ys us vs p q = record {
    left = All-append Val xs us p.left q.left;
    right = All-append Val ys vs p.right q.right;
    rest = ext_plus ring p.rest q.rest;
    member = ideal-plus S _ _ p.member q.member;
    same = λ g gv. w-append S g gv xs us p.left q.left
        ∙ both_sides ring.add _ _ _ _ (p.same g gv) (q.same g gv)
        ∙ four L _ _ _ _ (w-value S g gv ys p.right) (rest-value p.rest p.member g gv) (w-value S g gv vs q.right) (rest-value q.rest q.member g gv)
        ∙ both_sides ring.add _ _ _ _ (sym (w-append S g gv ys vs p.right q.right))
        (sym (w-plus S g gv _ _ (ideal-summed S _ p.member) (ideal-summed S _ q.member)));
  }

  pub cong-scaled : (c : K) (xs ys : Ext K) → ring.IsValue c → Cong xs ys → Cong (scaled ring c xs) (scaled ring c ys)
  cong-scaled c xs ys v p = record {
    left = scaled-values (sums S) c xs v p.left;
    right = scaled-values (sums S) c ys v p.right;
    rest = multiple ring c p.rest;
    member = ideal-multiple S c p.rest v p.member;
    same = λ g gv. weighted-scaled (sums S) g gv c xs v p.left ∙ ap (ring.mul c) (p.same g gv)
        ∙ L.mul_add c _ _ v (w-value S g gv ys p.right) (rest-value p.rest p.member g gv)
        ∙ both_sides ring.add _ _ _ _ (sym (weighted-scaled (sums S) g gv c ys v p.right))
        (sym (w-multiple S g gv c p.rest v (ideal-element S _ p.member)));
  }

  pub cong-collect : (xs : Ext K) → Terms S xs → Cong xs (collect cmp_listed ring xs)
  cong-collect xs v = cong-values xs _ v (okay S _ (summed-collect S xs v)) (λ g gv. sym (w-collect S g gv xs v))

  -- the symbol e_S with coefficient 1, and with another
  abbrev pub one_term : Set → Ext K
  one_term s = (s, S.ring.one) ∷ []

  pub one-values : (s : Set) → Terms S (one_term s)
  one-values s = All-cons Val (s, ring.one) [] L.one_value (All-nil Val)

  pub w-one : (g : Set → K) → Fn S g → (s : Set) → W S g (one_term s) ≡ g s
  w-one g gv s = L.add_zero _ (L.mul_value ring.one (g s) L.one_value (gv s)) ∙ L.one_mul (g s) (gv s)

  pub cong-term : (s : Set) (c : K) (ys : Ext K) → ring.IsValue c → Cong (one_term s) ys
      → Cong ((s, c) ∷ []) (scaled ring c ys)
  cong-term s c ys v p =
      subst (λ d. Cong ((s, d) ∷ []) (scaled ring c ys)) (L.mul_one c v) (cong-scaled c (one_term s) ys v p)

  -- where e_S is in the ideal, it is congruent to nothing
  pub cong-nothing : (s : Set) → In S (basis_element ring s) → Cong (one_term s) []
  cong-nothing s m = record {
    left = one-values s;
    right = All-nil Val;
    rest = basis_element ring s;
    member = m;
    same = λ g gv. w-one g gv s ∙ sym (L.one_mul (g s) (gv s)) ∙ sym (w-monomial S g gv ring.one s L.one_value)
        ∙ sym (zero_add L _ (rest-value _ m g gv));
  }
