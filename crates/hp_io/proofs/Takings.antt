-- What follows where bytes were taken, in one call or in several.
use Rattle.std.proofs.Common.{◌≡◌, ℕ, ◌<◌, ◌≤◌, List, [], ◌++◌, length, Some, None, sym, ap, ◌∙◌, refl, append_assoc, length-append, arith}
use Rattle.std.proofs.lemmas.List.{append-nil}
use Rattle.std.specs.declared.option.Option.{Option}
use Rattle.hp_io.specs.Bytes.{Took, TookAll, TookOverExactly}

-- where nothing happens, nothing is taken
pub took_none : (a : Option (List ℕ)) → Took a a []
took_none None = tt
took_none (Some left) = refl

-- one taking after another
pub took_more : (a b c : Option (List ℕ)) (xs ys : List ℕ) → Took a b xs → Took b c ys → Took a c (xs ++ ys)
took_more None None None xs ys p q = tt
took_more None None (Some z) xs ys p q = q
took_more None (Some y) c xs ys p q = absurd p
took_more (Some x) None c xs ys p q = absurd p
took_more (Some x) (Some y) None xs ys p q = q
took_more (Some x) (Some y) (Some z) xs ys p q = p ∙ ap (λ s. xs ++ s) q ∙ sym (append_assoc xs ys z)

-- a taking after which nothing more is taken
pub took_no_more : (a b c : Option (List ℕ)) (xs : List ℕ) → Took a b xs → Took b c [] → Took a c xs
took_no_more None None None xs p q = tt
took_no_more None None (Some z) xs p q = q
took_no_more None (Some y) c xs p q = absurd p
took_no_more (Some x) None c xs p q = absurd p
took_no_more (Some x) (Some y) None xs p q = q
took_no_more (Some x) (Some y) (Some z) xs p q = p ∙ ap (λ s. xs ++ s) q

-- what was all that was left was taken
pub took_all_taken : (a b : Option (List ℕ)) (xs : List ℕ) → TookAll a b xs → Took a b xs
took_all_taken None None xs p = tt
took_all_taken None (Some y) xs p = p
took_all_taken (Some x) None xs p = p
took_all_taken (Some x) (Some y) xs p = p.0 ∙ sym (append-nil xs) ∙ ap (λ s. xs ++ s) (sym p.1)

-- more than the most were taken, and the fact holds
pub took_over : (a b : Option (List ℕ)) (xs : List ℕ) (most : ℕ) (fact : Type 0) → Took a b xs → most < length xs → fact
    → TookOverExactly a b most fact
took_over None None xs most fact p more here = tt
took_over None (Some y) xs most fact p more here = p
took_over (Some x) None xs most fact p more here = p
took_over (Some x) (Some y) xs most fact p more here = (λ _. (xs, p, more), λ _. here)

-- at most the most were taken, and the fact does not hold
pub took_within : (a b : Option (List ℕ)) (xs : List ℕ) (most : ℕ) (fact : Type 0) → Took a b xs → length xs ≤ most
    → ¬ fact → TookOverExactly a b most fact
took_within None None xs most fact p few never = tt
took_within None (Some y) xs most fact p few never = p
took_within (Some x) None xs most fact p few never = p
took_within (Some x) (Some y) xs most fact p few never =
    (λ here. absurd (never here), λ over. (let lengths = ap length (sym p ∙ over.1) in absurd (omega (arith, over.2, few, length-append xs y, length-append over.0 y, lengths))))

-- where nothing is told before, nothing is told after
pub took_silent : (b : Option (List ℕ)) (xs : List ℕ) → Took None b xs → b ≡ None
took_silent None xs p = refl
took_silent (Some y) xs p = absurd p

-- where the bytes are told before, they are told after
pub took_told : (s : List ℕ) (b : Option (List ℕ)) (xs : List ℕ) → Took (Some s) b xs
    → (left : List ℕ) × (b ≡ Some left) × (s ≡ xs ++ left)
took_told s None xs p = absurd p
took_told s (Some y) xs p = (y, refl, p)

-- where the bytes are told, all of them are the answer and none is left
pub took_all_told : (s : List ℕ) (b : Option (List ℕ)) (xs : List ℕ) → TookAll (Some s) b xs → (s ≡ xs) × (b ≡ Some [])
took_all_told s None xs p = absurd p
took_all_told s (Some y) xs p = (p.0, ap Some p.1)

-- where more than the most are left, they are not all taken within it
pub not_all_within : (s : List ℕ) (b : Option (List ℕ)) (xs : List ℕ) (most : ℕ) → TookAll (Some s) b xs
    → length xs ≤ most → most < length s → ⊥
not_all_within s b xs most p few more =
    let lengths = ap length (took_all_told s b xs p).0 in omega (arith, few, more, lengths)

-- where the fact holds, more than the most were taken
pub over_told : (s : List ℕ) (b : Option (List ℕ)) (xs : List ℕ) (most : ℕ) (fact : Type 0) → Took (Some s) b xs
    → TookOverExactly (Some s) b most fact → fact
    → (taken : List ℕ) × (left : List ℕ) × (s ≡ taken ++ left) × (b ≡ Some left) × (most < length taken)
over_told s None xs most fact p over here = absurd p
over_told s (Some y) xs most fact p over here =
    let found = over.0 here in (found.0, y, found.1, refl, found.2)
