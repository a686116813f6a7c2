-- Answers in whose place a limit may stand.
use Rattle.std.specs.Prelude.{◌≡◌, ◌⊎◌, ℕ, nat_lt, if◌then◌else◌, List, map, ℤ, length}
use Rattle.hp_algebra.specs.Ring.{RingOf, Numbering, integer}
use Rattle.hp_aomoto.specs.AomotoCohomology.{AreAomotoNumbers, HasFewNbcSets, HasManyNbcSets}
use Rattle.hp_arr.specs.Arrangement.{Arrangement}
use Rattle.hp_arr.specs.Circuits.{circuits, nbc_sets}
use Rattle.hp_arr.specs.Flats.{flats}
use Rattle.hp_circuits.specs.Bounds.{most_circuits, most_nbc}
use Rattle.hp_flats.specs.Bounds.{most_flats}
use Rattle.hp_render.specs.declared.answer.Answer.{Answer}
use Rattle.hp_render.specs.declared.answer.Answer.TheVariants.{Circuits, Nbc, Aomoto, Limit}
use Rattle.hp_render.specs.declared.answer.AskWord.{AskWord}
use Rattle.hp_render.specs.declared.answer.AskWord.TheVariants as asked
use Rattle.hp_render.specs.declared.answer.LimitKind.TheVariants as kind

-- the answer to the question of that word, or that the arrangement has too many flats
abbrev pub unless_many_flats : {K : Type 0} → RingOf K → Numbering K → Arrangement K → AskWord → Answer K → Answer K
unless_many_flats ring numbers arr word a =
    if nat_lt most_flats (length (flats ring numbers arr)) then Limit word kind.Flats else a

module _ {K : Type 0} (ring : RingOf K) (numbers : Numbering K) (arr : Arrangement K) where
  -- the circuits, or that there are too many
  abbrev pub circuits_or_limit : Answer K
  circuits_or_limit = let all = circuits ring numbers arr in
      if nat_lt most_circuits (length all) then Limit asked.Circuits kind.Circuits else Circuits all

  -- the sets that contain no broken circuit, or that there are too many
  abbrev pub nbc_or_limit : Answer K
  nbc_or_limit = let all = nbc_sets ring numbers arr in
      if nat_lt most_nbc (length all) then Limit asked.Nbc kind.Nbc else Nbc all

  -- the dimensions of the cohomology with these weights, or that of some size there are too many sets that contain no broken circuit
  abbrev pub AreAomotoNumbersOrLimit : List ℤ → Answer K → Type 0
  AreAomotoNumbersOrLimit weights a =
      (HasManyNbcSets ring numbers arr 1000 × (a ≡ Limit asked.Aomoto kind.Aomoto))
      ⊎ (HasFewNbcSets ring numbers arr 1000
      × ((dimensions : List ℕ) × AreAomotoNumbers ring numbers arr (map (integer ring) weights) dimensions × (a ≡ Aomoto dimensions)))
