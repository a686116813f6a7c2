-- Worked values of the definitions, which the checker computes: the three lines x, y and x - y in the plane over 5 elements.
use Rattle.std.specs.Prelude.{◌≡◌, ℕ, ◌^◌, ◌%◌, true, false, [], ◌∷◌, Some, None, refl}
use Rattle.hp_algebra.specs.Ring.{RingOf, Numbering, elements}
use Rattle.hp_modp.specs.Residues.{residue_ring, residue_numbers}
use Rattle.hp_arr.specs.Arrangement.{Arrangement}
use Rattle.hp_arr.specs.Circuits.{circuits, broken_circuits, is_nbc, nbc_sets, nbc_sets_of_size}
use Rattle.hp_arr.specs.Operations.{first_copies, normalised}
use Rattle.hp_arr.specs.Flats.{points, cut, closure, rank, is_dependent, is_circuit}
use Rattle.hp_arr.specs.FormFaults.{form_fault}
use Rattle.hp_algebra.specs.Rows.{is_multiple}
use Rattle.hp_arr.specs.declared.fault.ArrFault.TheVariants.{ZeroForm, Repeated, TooMany}
use Rattle.hp_sets.specs.Sets.{sets_within}

abbrev three_lines : Arrangement ℕ
three_lines = record { dim = 2; forms = (1 ∷ 0 ∷ []) ∷ (0 ∷ 1 ∷ []) ∷ (1 ∷ 4 ∷ []) ∷ [] }

abbrev R : RingOf ℕ
R = residue_ring 5

abbrev N : Numbering ℕ
N = residue_numbers 5

cut_of_two : cut R N three_lines (1 ∷ 2 ∷ []) ≡ (0 ∷ 0 ∷ []) ∷ []
unfolding cut points elements
cut_of_two = refl

closure_of_none : closure R N three_lines [] ≡ []
unfolding closure cut points elements
closure_of_none = refl

closure_of_two : closure R N three_lines (1 ∷ 2 ∷ []) ≡ 1 ∷ 2 ∷ 3 ∷ []
unfolding closure cut points elements
closure_of_two = refl

rank_of_one : rank R N three_lines (2 ∷ []) ≡ 1
unfolding rank cut points elements
rank_of_one = refl

rank_of_three : rank R N three_lines (1 ∷ 2 ∷ 3 ∷ []) ≡ 2
unfolding rank cut points elements
rank_of_three = refl

two_independent : is_dependent R N three_lines (1 ∷ 3 ∷ []) ≡ false
unfolding is_dependent rank cut points elements
two_independent = refl

three_circuit : is_circuit R N three_lines (1 ∷ 2 ∷ 3 ∷ []) ≡ true
unfolding is_circuit is_dependent rank cut points elements sets_within
three_circuit = refl

one_circuit : circuits R N three_lines ≡ (1 ∷ 2 ∷ 3 ∷ []) ∷ []
unfolding circuits is_circuit is_dependent rank cut points elements sets_within
one_circuit = refl

one_broken_circuit : broken_circuits R N three_lines ≡ (2 ∷ 3 ∷ []) ∷ []
unfolding broken_circuits circuits is_circuit is_dependent rank cut points elements sets_within
one_broken_circuit = refl

unbroken : nbc_sets R N three_lines ≡ [] ∷ (1 ∷ []) ∷ (2 ∷ []) ∷ (3 ∷ []) ∷ (1 ∷ 2 ∷ []) ∷ (1 ∷ 3 ∷ []) ∷ []
unfolding nbc_sets is_nbc broken_circuits circuits is_circuit is_dependent rank cut points elements sets_within
unbroken = refl

unbroken_pairs : nbc_sets_of_size R N three_lines 2 ≡ (1 ∷ 2 ∷ []) ∷ (1 ∷ 3 ∷ []) ∷ []
unfolding nbc_sets_of_size nbc_sets is_nbc broken_circuits circuits is_circuit is_dependent rank cut points elements sets_within
unbroken_pairs = refl

copies_dropped : first_copies R ((1 ∷ 2 ∷ []) ∷ (0 ∷ 1 ∷ []) ∷ (1 ∷ 2 ∷ []) ∷ (0 ∷ 1 ∷ []) ∷ (1 ∷ 2 ∷ 0 ∷ []) ∷ []) ≡ (1 ∷ 2 ∷ []) ∷ (0 ∷ 1 ∷ []) ∷ (1 ∷ 2 ∷ 0 ∷ []) ∷ []
copies_dropped = refl

normalised_row : normalised R (λ x. (x ^ 3) % 5) (0 ∷ 3 ∷ 4 ∷ []) ≡ 0 ∷ 1 ∷ 3 ∷ []
normalised_row = refl

faultless : form_fault R N three_lines.forms ≡ None
unfolding is_multiple elements
faultless = refl

zero_first : form_fault R N ((1 ∷ 2 ∷ []) ∷ (2 ∷ 4 ∷ []) ∷ (0 ∷ 0 ∷ []) ∷ []) ≡ Some (ZeroForm 3)
unfolding is_multiple elements
zero_first = refl

repeated : form_fault R N ((1 ∷ 2 ∷ []) ∷ (1 ∷ 0 ∷ []) ∷ (2 ∷ 4 ∷ []) ∷ (3 ∷ 0 ∷ []) ∷ []) ≡ Some (Repeated 1 3)
unfolding is_multiple elements
repeated = refl

too_many : form_fault R N ((1 ∷ 0 ∷ []) ∷ (0 ∷ 1 ∷ []) ∷ (1 ∷ 1 ∷ []) ∷ (1 ∷ 2 ∷ []) ∷ (1 ∷ 3 ∷ []) ∷ []) ≡ Some (TooMany 5)
unfolding is_multiple elements
too_many = refl
