-- Multiplicities are at most the greatest one.
use Rattle.std.proofs.Common.{◌≡◌, suc, ◌≤◌, true, List, [], ◌∷◌, map, All, pos, negsuc, ℤ, arith}
use Rattle.std.proofs.lemmas.Bool.{leb-true}
use Rattle.std.proofs.lemmas.List.Elements.{All-cons, All-nil}
use Rattle.std.proofs.lemmas.List.Sums.{AllPass-from_list_all}
use Rattle.std.specs.List.{list_all, AllPass}
use Rattle.hp_der.specs.DerivationModules.{most_multiplicity}
use Rattle.hp_session.specs.Multiplicities.{is_multiplicity, multiplicity}

one : (z : ℤ) → is_multiplicity z ≡ true → multiplicity z ≤ most_multiplicity
one (pos m) e = leb-true m most_multiplicity e
one (negsuc m) e = omega arith

each-within : (zs : List ℤ) → AllPass is_multiplicity zs → All (λ n. n ≤ most_multiplicity) (map multiplicity zs)
each-within [] h = All-nil (λ n. n ≤ most_multiplicity)
each-within (z ∷ zs) h =
    All-cons (λ n. n ≤ most_multiplicity) (multiplicity z) (map multiplicity zs) (one z (h 0 z (omega arith)))
    (each-within zs (λ k d l. h (suc k) d (omega (arith, l))))

pub multiplicities-within : (zs : List ℤ) → list_all is_multiplicity zs ≡ true
    → All (λ n. n ≤ most_multiplicity) (map multiplicity zs)
multiplicities-within zs e = each-within zs (AllPass-from_list_all is_multiplicity zs e)
