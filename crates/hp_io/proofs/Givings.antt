-- What follows where bytes were given, in one call or in several.
use Rattle.std.proofs.Common.{◌≡◌, ℕ, ◌+◌, ◌≤◌, List, [], ◌++◌, length, take, drop, Some, None, sym, ap, ◌∙◌, refl, append_assoc, length-append, arith}
use Rattle.std.proofs.lemmas.List.{append-nil, take-append-le, take-append-drop}
use Rattle.std.proofs.Math.Seq.{take-append-add}
use Rattle.std.specs.declared.option.Option.{Option}
use Rattle.hp_io.specs.Bytes.{Gave, GavePart}

-- where nothing happens, nothing is given
pub gave_none : (a : Option (List ℕ)) → Gave a a []
gave_none None = tt
gave_none (Some before) = sym (append-nil before)

-- one giving after another
pub gave_more : (a b c : Option (List ℕ)) (xs ys : List ℕ) → Gave a b xs → Gave b c ys → Gave a c (xs ++ ys)
gave_more None None None xs ys p q = tt
gave_more None None (Some z) xs ys p q = q
gave_more None (Some y) c xs ys p q = absurd p
gave_more (Some x) None c xs ys p q = absurd p
gave_more (Some x) (Some y) None xs ys p q = q
gave_more (Some x) (Some y) (Some z) xs ys p q = q ∙ ap (λ s. s ++ ys) p ∙ append_assoc x xs ys

-- a giving after which nothing more is given
pub gave_no_more : (a b c : Option (List ℕ)) (xs : List ℕ) → Gave a b xs → Gave b c [] → Gave a c xs
gave_no_more None None None xs p q = tt
gave_no_more None None (Some z) xs p q = q
gave_no_more None (Some y) c xs p q = absurd p
gave_no_more (Some x) None c xs p q = absurd p
gave_no_more (Some x) (Some y) None xs p q = q
gave_no_more (Some x) (Some y) (Some z) xs p q = q ∙ append-nil y ∙ p

-- a part of these bytes is a part of longer ones
pub gave_part : (a b : Option (List ℕ)) (xs ys : List ℕ) → GavePart a b xs → GavePart a b (xs ++ ys)
gave_part a b xs ys p =
    let shorter : p.0 ≤ length xs = omega (arith, p.1) in
    (p.0, omega (arith, p.1, length-append xs ys), rw (take-append-le p.0 xs ys shorter) p.2)

-- all of some bytes, and then a part of more
pub gave_more_part : (a b c : Option (List ℕ)) (xs ys : List ℕ) → Gave a b xs → GavePart b c ys
    → GavePart a c (xs ++ ys)
gave_more_part a b c xs ys p q =
    (length xs + q.0, omega (arith, q.1, length-append xs ys), rw (take-append-add xs ys q.0) (gave_more a b c xs (take q.0 ys) p q.2))

-- where nothing is told before, nothing is told after
pub gave_silent : (b : Option (List ℕ)) (xs : List ℕ) → Gave None b xs → b ≡ None
gave_silent None xs p = refl
gave_silent (Some y) xs p = absurd p

-- where the bytes are told before, they are told after
pub gave_told : (s : List ℕ) (b : Option (List ℕ)) (xs : List ℕ) → Gave (Some s) b xs → b ≡ Some (s ++ xs)
gave_told s None xs p = absurd p
gave_told s (Some y) xs p = ap Some p

-- where the bytes are told, a part of the new ones was added to them
pub gave_part_told : (s : List ℕ) (b : Option (List ℕ)) (xs : List ℕ) → GavePart (Some s) b xs
    → (part : List ℕ) × (rest : List ℕ) × (xs ≡ part ++ rest) × (b ≡ Some (s ++ part))
gave_part_told s b xs p =
    (take p.0 xs, drop p.0 xs, sym (take-append-drop p.0 xs), gave_told s b (take p.0 xs) p.2)
