-- The order of the members of a level, by which they get their ranks.
use Rattle.std.specs.Prelude.{◌≡◌, ◌≢◌, ℕ, ◌<◌, List, [], length, reverse, slice_index_or}
use Rattle.std.specs.declared.cmp.Ordering.{Ordering}
use Rattle.std.specs.declared.cmp.Ordering.TheVariants.{Less}
use Rattle.std.specs.Ordering.{nat_cmp, ordering_then}
use Rattle.std.specs.Cmp.Lexicographic.{slice_cmp}
use Rattle.hp_mono.specs.Monomials.{Monomial}
use Rattle.hp_syzygy.specs.ChainOrders.{rank_of}
use Rattle.hp_syzygy.specs.FrameLevels.{Level, level_lead}

-- what members are compared by: the rank of the component of the lead, the lead's monomial, and the place
abbrev pub Key : Type 0
Key = ℕ × Monomial × ℕ

-- by the ranks, then by the exponents, the last variable first, then by place
abbrev pub key_order : Key → Key → Ordering
key_order s t =
    ordering_then (nat_cmp s.0 t.0) (ordering_then (slice_cmp nat_cmp (reverse s.1) (reverse t.1)) (nat_cmp s.2 t.2))

-- the place in key k
abbrev pub place : List Key → ℕ → ℕ
place keys k = (slice_index_or keys k (0, [], 0)).2

module _ {F : Type 0} (v : Level F) where
  abbrev pub member_key : ℕ → Key
  member_key i = (rank_of v.chain (level_lead v i).comp, (level_lead v i).mono, i)

  abbrev pub member_order : ℕ → ℕ → Ordering
  member_order j i = key_order (member_key j) (member_key i)

  -- the keys of all members, in order
  pub record AreSortedKeys (keys : List Key) : Type 0 where
    pub inside : (k : ℕ) → k < length keys → place keys k < length v.leads
    pub all : (i : ℕ) → i < length v.leads → (k : ℕ) × (k < length keys) × (place keys k ≡ i)
    pub in_order : (k m : ℕ) → k < m → m < length keys → member_order (place keys m) (place keys k) ≢ Less
