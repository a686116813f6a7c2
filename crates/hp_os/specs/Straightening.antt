-- Straightening a set with a broken circuit: the terms that a lower number gives in place of one member at a time.
use Rattle.std.specs.Prelude.{ℕ, ◌+◌, nat_lt, Bool, not, filter, map, sum_by}
use Rattle.hp_algebra.specs.Ring.{RingOf}
use Rattle.hp_sets.specs.Sets.{Set, with_member, without_member}
use Rattle.hp_exterior.specs.Exterior.{Ext, sign}
use Rattle.hp_exterior.specs.SetSums.{below_in}

-- the sum of the members
abbrev pub member_sum : Set → ℕ
member_sum s = sum_by (λ i. i) s

-- whether the sum of the members of the term's set is below the level
abbrev pub is_lower : {K : Type 0} → ℕ → Set × K → Bool
is_lower level t = nat_lt (member_sum t.0) level

-- the terms below the level, and the others
abbrev pub lower_terms : {K : Type 0} → ℕ → Ext K → Ext K
lower_terms level x = filter (is_lower level) x

abbrev pub upper_terms : {K : Type 0} → ℕ → Ext K → Ext K
upper_terms level x = filter (λ t. not (is_lower level t)) x

-- s without b and with i
abbrev pub replaced : Set → ℕ → ℕ → Set
replaced s b i = with_member (without_member s b) i

-- how many members are below b, and how many below i
abbrev pub moves : Set → ℕ → ℕ → ℕ
moves s i b = below_in s b + below_in s i

-- for each member b of a part of s the set without b and with i, with its sign
abbrev pub straight_terms : {K : Type 0} → RingOf K → Set → ℕ → Set → Ext K
straight_terms ring s i part = map (λ b. (replaced s b i, sign ring (moves s i b))) part
