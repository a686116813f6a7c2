-- Reasons to refuse that builds and questions share.
use Rattle.std.specs.Prelude.{ℕ, ◌==◌, nat_le, Bool, if◌then◌else◌, not, ◌&&◌, List, length, map, flat_map, ℤ, Option, Some, None}
use Rattle.hp_lists.specs.Lists.{first_some}
use Rattle.hp_arr.specs.Arrangement.{Arrangement}
use Rattle.hp_render.specs.declared.refusal.Refusal.{Refusal}
use Rattle.hp_render.specs.declared.refusal.Refusal.TheVariants.{UnknownName, Dimension, BadIndex, BadList}
use Rattle.hp_script.specs.declared.command.Product.{Product}
use Rattle.hp_session.specs.State.{State, is_unknown}

-- the refusal where the test holds
abbrev pub where_true : Bool → Refusal → Option Refusal
where_true b r = if b then Some r else None

-- no arrangement has the name
abbrev pub unknown_refusal : {K : Type 0} → State K → List ℕ → Option Refusal
unknown_refusal state x = where_true (is_unknown state x) (UnknownName x)

-- what an arrangement is restricted to has a dimension of one less, and that is at least 1
abbrev pub line_refusal : {K : Type 0} → Arrangement K → Option Refusal
line_refusal arr = where_true (arr.dim == 1) Dimension

-- there is no hyperplane of this number
abbrev pub index_refusal : {K : Type 0} → Arrangement K → ℕ → Option Refusal
index_refusal arr i = where_true (not (nat_le 1 i && nat_le i (length arr.forms))) (BadIndex i)

-- of these generators, the first that is of no hyperplane
abbrev pub generators_refusal : {K : Type 0} → Arrangement K → List ℕ → Option Refusal
generators_refusal arr generators = first_some (map (index_refusal arr) generators)

-- of all generators of the products, in the order written, the first that is of no hyperplane
abbrev pub expression_refusal : {K : Type 0} → Arrangement K → List Product → Option Refusal
expression_refusal arr products = generators_refusal arr (flat_map (λ p. p.generators) products)

-- there are not as many weights as hyperplanes
abbrev pub weights_refusal : {K : Type 0} → Arrangement K → List ℤ → Option Refusal
weights_refusal arr weights = where_true (not (length weights == length arr.forms)) BadList
