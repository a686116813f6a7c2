-- The matrix of a set of hyperplanes.
use Rattle.std.specs.Prelude.{map}
use Rattle.hp_arr.specs.Arrangement.{Arrangement, form}
use Rattle.hp_linear.specs.Matrices.{Matrix}
use Rattle.hp_sets.specs.Sets.{Set}

-- its rows are the forms of the set
abbrev pub forms_matrix : {K : Type 0} → Arrangement K → Set → Matrix K
forms_matrix arr s = record { cols = arr.dim; rows = map (form arr) s }
