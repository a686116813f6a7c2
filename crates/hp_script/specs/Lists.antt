-- How long the lists within a command are.
use Rattle.std.specs.Prelude.{ℤ, ◌<◌, List, length, Option, Some, None, All}
use Rattle.hp_script.specs.declared.command.Command.{Command}
use Rattle.hp_script.specs.declared.command.Command.TheVariants.{Let, Ask}
use Rattle.hp_script.specs.declared.command.Build.{Build}
use Rattle.hp_script.specs.declared.command.Build.TheVariants.{Forms, Cone, Graphic}
use Rattle.hp_script.specs.declared.command.Question.{Question}
use Rattle.hp_script.specs.declared.command.Question.TheVariants.{Normal, Aomoto, Gb, Der, Resolve, Free}
use Rattle.hp_script.specs.declared.command.Product.{Product}

-- fewer than 2^32 - 1 members
abbrev pub IsShort : {A : Type 0} → List A → Type 0
IsShort xs = length xs < 4294967295

abbrev pub HasShortRows : List (List ℤ) → Type 0
HasShortRows rows = IsShort rows × All IsShort rows

abbrev pub HasShortFactors : Product → Type 0
HasShortFactors p = IsShort p.numbers × IsShort p.generators

abbrev pub IsShortOption : Option (List ℤ) → Type 0
IsShortOption None = Unit {0}
IsShortOption (Some xs) = IsShort xs

abbrev pub BuildIsShort : Build → Type 0
BuildIsShort (Forms n rows) = HasShortRows rows
BuildIsShort (Cone n rows) = HasShortRows rows
BuildIsShort (Graphic n edges) = IsShort edges
BuildIsShort other = Unit {0}

abbrev pub QuestionIsShort : Question → Type 0
QuestionIsShort (Normal products) = IsShort products × All HasShortFactors products
QuestionIsShort (Aomoto xs) = IsShort xs
QuestionIsShort (Gb xs) = IsShortOption xs
QuestionIsShort (Der xs) = IsShortOption xs
QuestionIsShort (Resolve xs) = IsShortOption xs
QuestionIsShort (Free xs) = IsShortOption xs
QuestionIsShort other = Unit {0}

-- every list within the command has fewer than 2^32 - 1 members
abbrev pub CommandIsShort : Command → Type 0
CommandIsShort (Let name build) = BuildIsShort build
CommandIsShort (Ask name question) = QuestionIsShort question
CommandIsShort other = Unit {0}
