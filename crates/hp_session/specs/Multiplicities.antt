-- The multiplicities of a question about derivations.
use Rattle.std.specs.Prelude.{ℕ, ◌==◌, nat_le, Bool, false, not, ◌&&◌, List, length, map, replicate, ℤ, pos, negsuc, Option, Some, None}
use Rattle.hp_lists.specs.Lists.{list_all}
use Rattle.hp_arr.specs.Arrangement.{Arrangement}
use Rattle.hp_der.specs.DerivationModules.{most_multiplicity}
use Rattle.hp_render.specs.declared.refusal.Refusal.{Refusal}
use Rattle.hp_render.specs.declared.refusal.Refusal.TheVariants.{BadList}
use Rattle.hp_session.specs.Refused.{where_true}

abbrev pub is_multiplicity : ℤ → Bool
is_multiplicity (pos m) = nat_le m most_multiplicity
is_multiplicity (negsuc m) = false

-- an integer that is a multiplicity, as a number
abbrev pub multiplicity : ℤ → ℕ
multiplicity (pos m) = m
multiplicity (negsuc m) = 0

-- the multiplicities that are written, or else 1 for each hyperplane
abbrev pub multiplicities : {K : Type 0} → Arrangement K → Option (List ℤ) → List ℕ
multiplicities arr None = replicate (length arr.forms) 1
multiplicities arr (Some row) = map multiplicity row

-- those that are written are not as many as the hyperplanes, or one is no multiplicity
abbrev pub multiplicities_refusal : {K : Type 0} → Arrangement K → Option (List ℤ) → Option Refusal
multiplicities_refusal arr None = None
multiplicities_refusal arr (Some row) =
    where_true (not (length row == length arr.forms && list_all is_multiplicity row)) BadList
