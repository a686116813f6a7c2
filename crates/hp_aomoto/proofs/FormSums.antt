-- The sum of w_i e_i from one hyperplane on.
use Rattle.std.proofs.Common.{◌≡◌, ℕ, suc, ◌+◌, ◌-◌, ◌≤◌, List, ◌∷◌, map, zip, drop, length, [], sym, ap, arith}
use Rattle.std.proofs.lemmas.List.{drop_all}
use Rattle.hp_lists.specs.Lists.{range_with_len}
use Rattle.hp_algebra.specs.Ring.{RingOf}
use Rattle.hp_exterior.specs.Exterior.{Ext, monomial, ext_plus}
use Rattle.hp_os.specs.OrlikSolomon.{ext_sum}

module _ {K : Type 0} (ring : RingOf K) where
  -- the sum of w_i e_i for k < i ≤ n
  abbrev pub form_from : List K → ℕ → ℕ → Ext K
  form_from ws n k = ext_sum ring (map (λ t. monomial ring t.0 (t.1 ∷ [])) (zip (drop k ws) (range_with_len (k + 1) (n - k))))

  pub form-more : (ws : List K) (n k i : ℕ) (x : K) → k + 1 ≡ i → i ≤ n → drop k ws ≡ x ∷ drop i ws
      → ext_plus ring (monomial ring x (i ∷ [])) (form_from ws n i) ≡ form_from ws n k
  form-more ws n k i x e l d =
      let r : range_with_len (k + 1) (n - k) ≡ i ∷ range_with_len (i + 1) (n - i) =
      λ j. range_with_len (e j) (rest j) in
      sym (λ j. ext_sum ring (map (λ t. monomial ring t.0 (t.1 ∷ [])) (zip (d j) (r j))))
    where
      rest : n - k ≡ suc (n - i)
      rest = omega (arith, e, l)

  pub form-end : (ws : List K) (n : ℕ) → length ws ≡ n → [] ≡ form_from ws n n
  form-end ws n e = sym (ap (λ vs. ext_sum ring (map (λ t. monomial ring t.0 (t.1 ∷ [])) (zip vs (range_with_len (n + 1) (n - n))))) (drop_all n ws (omega (arith, e))))
