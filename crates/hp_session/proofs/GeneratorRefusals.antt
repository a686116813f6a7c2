-- The first generator that is of no hyperplane.
use Rattle.std.proofs.Common.{◌≡◌, ℕ, ◌≤◌, nat_le, Bool, true, false, not, ◌&&◌, List, [], ◌∷◌, ◌++◌, map, flat_map, length, All, Option, Some, None, refl, sym, ap, ◌∙◌}
use Rattle.std.proofs.lemmas.List.Elements.{All-nil, All-cons}
use Rattle.std.proofs.lemmas.Bool.{leb-true}
use Rattle.hp_lists.specs.Lists.{first_some}
use Rattle.hp_arr.specs.Arrangement.{Arrangement}
use Rattle.hp_render.specs.declared.refusal.Refusal.{Refusal}
use Rattle.hp_render.specs.declared.refusal.Refusal.TheVariants.{BadIndex}
use Rattle.hp_script.specs.declared.command.Product.{Product}
use Rattle.hp_session.specs.Refused.{where_true, index_refusal, generators_refusal, expression_refusal}
use Rattle.hp_session.specs.Stops.{StopsBy}
use Rattle.hp_session.specs.declared.stop.Stop.{Stop}
use Rattle.hp_session.specs.declared.stop.Stop.TheVariants.{Refused, Memory}

-- where there is none in the first list, the first is that of the second
pub first-later : {X : Type 0} (os ps : List (Option X)) → first_some os ≡ None → first_some (os ++ ps) ≡ first_some ps
first-later [] ps e = refl
first-later (None ∷ os) ps e = first-later os ps e
first-later (Some x ∷ os) ps e = absurd (cc)

-- where there is one in the first list, it is the first of both
pub first-here : {X : Type 0} (os ps : List (Option X)) (x : X) → first_some os ≡ Some x → first_some (os ++ ps) ≡ Some x
first-here [] ps x e = absurd (cc)
first-here (None ∷ os) ps x e = first-here os ps x e
first-here (Some y ∷ os) ps x e = e

first-parts : {X : Type 0} (os ps : List (Option X)) → first_some (os ++ ps) ≡ None → (first_some os ≡ None) × (first_some ps ≡ None)
first-parts [] ps e = (refl, e)
first-parts (None ∷ os) ps e = first-parts os ps e
first-parts (Some x ∷ os) ps e = absurd (cc)

map_both : {X Y : Type 0} (f : X → Y) (xs ys : List X) → map f (xs ++ ys) ≡ map f xs ++ map f ys
map_both f [] ys = refl
map_both f (x ∷ xs) ys = ap (λ z. f x ∷ z) (map_both f xs ys)

module _ {K : Type 0} (arr : Arrangement K) where
  abbrev Index : ℕ → Type 0
  Index i = (1 ≤ i) × (i ≤ length arr.forms)

  abbrev refusals : List ℕ → List (Option Refusal)
  refusals is = map (index_refusal arr) is

  parts : (p : Product) (ps : List Product)
      → expression_refusal arr (p ∷ ps)
      ≡ first_some (map (index_refusal arr) p.generators ++ map (index_refusal arr) (flat_map (λ q. q.generators) ps))
  parts p ps = ap first_some (map_both (index_refusal arr) p.generators (flat_map (λ q. q.generators) ps))

  -- a product whose generators are of hyperplanes is passed by
  pub passes_by : (p : Product) (ps : List Product) → generators_refusal arr p.generators ≡ None
      → expression_refusal arr (p ∷ ps) ≡ expression_refusal arr ps
  passes_by p ps e = parts p ps ∙ first-later (refusals p.generators) (refusals (flat_map (λ q. q.generators) ps)) e

  -- and one that stops the products stops them all
  pub stops_all : (p : Product) (ps : List Product) (stop : Stop) → StopsBy (generators_refusal arr p.generators) stop
      → StopsBy (expression_refusal arr (p ∷ ps)) stop
  stops_all p ps (Refused r) e = parts p ps ∙ first-here (refusals p.generators) (refusals (flat_map (λ q. q.generators) ps)) r e
  stops_all p ps Memory e = e

  -- the same of one generator
  pub passes_one : (i : ℕ) (is : List ℕ) → index_refusal arr i ≡ None
      → generators_refusal arr (i ∷ is) ≡ generators_refusal arr is
  passes_one i is e = first-later (index_refusal arr i ∷ []) (map (index_refusal arr) is) (alone (index_refusal arr i) e)
    where
      alone : (o : Option Refusal) → o ≡ None → first_some (o ∷ []) ≡ None
      alone None e = refl
      alone (Some r) e = absurd (cc)

  pub stops_one : (i : ℕ) (is : List ℕ) (stop : Stop) → StopsBy (index_refusal arr i) stop
      → StopsBy (generators_refusal arr (i ∷ is)) stop
  stops_one i is (Refused r) e = first-here (index_refusal arr i ∷ []) (map (index_refusal arr) is) r (alone (index_refusal arr i) e)
    where
      alone : (o : Option Refusal) → o ≡ Some r → first_some (o ∷ []) ≡ Some r
      alone None e = absurd (cc)
      alone (Some x) e = e
  stops_one i is Memory e = e

  -- a number that is not refused is that of a hyperplane
  index_of : (i : ℕ) → index_refusal arr i ≡ None → Index i
  index_of i e = at (nat_le 1 i) (nat_le i (length arr.forms)) refl refl e
    where
      at : (a b : Bool) → nat_le 1 i ≡ a → nat_le i (length arr.forms) ≡ b
          → where_true (not (a && b)) (BadIndex i) ≡ None → Index i
      at true true p q e = (leb-true 1 i p, leb-true i (length arr.forms) q)
      at true false p q e = absurd (cc)
      at false b p q e = absurd (cc)

  pub indices_of : (is : List ℕ) → generators_refusal arr is ≡ None → All Index is
  indices_of [] e = All-nil Index
  indices_of (i ∷ is) e =
      let both = first-parts (index_refusal arr i ∷ []) (map (index_refusal arr) is) e in
      All-cons Index i is (index_of i (alone (index_refusal arr i) both.0)) (indices_of is both.1)
    where
      alone : (o : Option Refusal) → first_some (o ∷ []) ≡ None → o ≡ None
      alone None e = refl
      alone (Some r) e = absurd (cc)

  -- all generators of products that are not refused are of hyperplanes
  pub all_indices : (ps : List Product) → expression_refusal arr ps ≡ None → All (λ p. All Index p.generators) ps
  all_indices [] e = All-nil (λ (p : Product). All Index p.generators)
  all_indices (p ∷ ps) e =
      let both = first-parts (refusals p.generators) (refusals (flat_map (λ q. q.generators) ps)) (sym (parts p ps) ∙ e) in
      All-cons (λ (q : Product). All Index q.generators) p ps (indices_of p.generators both.0) (all_indices ps both.1)
