-- Worked values of the definitions, which the checker computes: two points on a line, and the lines x = 0, x = 1 and y = 0 in the plane, over 5 elements.
use Rattle.std.specs.Prelude.{◌≡◌, ◌^◌, ◌%◌, ℕ, false, [], ◌∷◌, refl, pos, negsuc}
use Rattle.hp_algebra.specs.Ring.{RingOf, Numbering, elements}
use Rattle.hp_modp.specs.Residues.{residue_ring, residue_numbers}
use Rattle.hp_sets.specs.Sets.{sets_within}
use Rattle.hp_arr.specs.Arrangement.{Arrangement, is_central}
use Rattle.hp_arr.specs.Flats.{points, cut, has_point, closure, rank, is_flat, flats_of_rank, flats, total_rank}
use Rattle.hp_arr.specs.Operations.{deletion, restriction}
use Rattle.hp_arr.specs.Moebius.{mobius_bounded, mobius, rank_sum, poincare, characteristic}

abbrev R : RingOf ℕ
R = residue_ring 5

abbrev N : Numbering ℕ
N = residue_numbers 5

abbrev two_points : Arrangement ℕ
two_points = record { dim = 1; forms = (1 ∷ 0 ∷ []) ∷ (1 ∷ 4 ∷ []) ∷ [] }

abbrev three_lines : Arrangement ℕ
three_lines = record { dim = 2; forms = (1 ∷ 0 ∷ 0 ∷ []) ∷ (1 ∷ 0 ∷ 4 ∷ []) ∷ (0 ∷ 1 ∷ 0 ∷ []) ∷ [] }

not_central : is_central R two_points ≡ false
not_central = refl

apart : has_point R N two_points (1 ∷ 2 ∷ []) ≡ false
unfolding has_point cut points elements
apart = refl

flats_of_two : flats R N two_points ≡ record { rank = 0; set = [] } ∷ record { rank = 1; set = 1 ∷ [] } ∷ record { rank = 1; set = 2 ∷ [] } ∷ []
unfolding flats flats_of_rank is_flat has_point closure rank cut points elements sets_within
flats_of_two = refl

pi_of_two : poincare R N two_points ≡ pos 1 ∷ pos 2 ∷ []
unfolding poincare total_rank rank_sum mobius mobius_bounded flats flats_of_rank is_flat has_point closure rank cut points elements sets_within
pi_of_two = refl

chi_of_two : characteristic R N two_points ≡ negsuc 1 ∷ pos 1 ∷ []
unfolding characteristic rank_sum mobius mobius_bounded flats_of_rank is_flat has_point closure rank cut points elements sets_within
chi_of_two = refl

pi_of_three : poincare R N three_lines ≡ pos 1 ∷ pos 3 ∷ pos 2 ∷ []
unfolding poincare total_rank rank_sum mobius mobius_bounded flats flats_of_rank is_flat has_point closure rank cut points elements sets_within
pi_of_three = refl

pi_of_deletion : poincare R N (deletion three_lines 1) ≡ pos 1 ∷ pos 2 ∷ pos 1 ∷ []
unfolding poincare total_rank rank_sum mobius mobius_bounded flats flats_of_rank is_flat has_point closure rank cut points elements sets_within
pi_of_deletion = refl

-- the inverse of an element of the field with 5
abbrev inverse : ℕ → ℕ
inverse x = (x ^ 3) % 5

restricted : restriction R inverse three_lines 1 ≡ record { dim = 1; forms = (1 ∷ 0 ∷ []) ∷ [] }
unfolding restriction
restricted = refl
