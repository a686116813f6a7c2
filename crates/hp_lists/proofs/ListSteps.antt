-- What a loop over a list keeps: of the members before its place, and of what it lists of them.
use Rattle.std.proofs.Common.{◌≡◌, ◌⊎◌, ℕ, ◌+◌, ◌<◌, ◌≤◌, List, [], ◌∷◌, ◌++◌, map, take, get_or, length, All, sym, ap, subst, ◌∙◌, arith, inl, inr}
use Rattle.std.proofs.lemmas.Bool.{cases_eq}
use Rattle.std.proofs.lemmas.List.{append_assoc, length-append, length-map, map-append, take_more, take_all, get_or_default}
use Rattle.std.proofs.lemmas.List.Elements.{All-append, All-cons, All-nil}

-- what holds of the members before a place and of the one there
pub more-places : {X : Type 0} (Q : X → Type 0) (xs : List X) (i : ℕ) (x : X) → x ≡ get_or xs i x → i < length xs
    → ((k : ℕ) (d : X) → k < i → Q (get_or xs k d)) → Q x → (k : ℕ) (d : X) → k < i + 1 → Q (get_or xs k d)
more-places Q xs i x e inside before here k d l = pick (cases_eq k i)
  where
    pick : (k ≡ i) ⊎ (k ≡ i → ⊥) → Q (get_or xs k d)
    pick (inl same) = subst Q (e ∙ get_or_default xs i x d inside ∙ ap (λ m. get_or xs m d) (sym same)) here
    pick (inr ne) = before k d (omega (arith, l, ne))

pub all-last : {X : Type 0} (P : X → Type 0) (xs after : List X) (y : X) → after ≡ xs ++ y ∷ [] → All P xs → P y
    → All P after
all-last P xs after y e h p = subst (All P) (sym e) (All-append P xs (y ∷ []) h (All-cons P y [] p (All-nil P)))

module _ {X E Y : Type 0} (F : X → Y) (G : E → Y) (xs after : List X) (old : List Y) (level : List E) (k : ℕ) where
  -- one more is listed
  pub map-last : (y : X) (e : E) → after ≡ xs ++ y ∷ [] → map F xs ≡ old ++ map G (take k level)
      → k < length level → e ≡ get_or level k e → F y ≡ G e → map F after ≡ old ++ map G (take (k + 1) level)
  map-last y e items now inside at same =
      ap (map F) items ∙ map-append F xs (y ∷ []) ∙ (λ i. now i ++ same i ∷ []) ∙ append_assoc old (map G (take k level)) (G e ∷ [])
      ∙ ap (λ ys. old ++ ys) (sym (ap (map G) (take_more level k e inside) ∙ map-append G (take k level) (get_or level k e ∷ []) ∙ ap (λ x. map G (take k level) ++ G x ∷ []) (sym at)))

  -- all are listed
  pub map-end : map F xs ≡ old ++ map G (take k level) → length level ≤ k → map F xs ≡ old ++ map G level
  map-end now l = now ∙ ap (λ es. old ++ map G es) (take_all k level l)

pub map-count : {X E Y : Type 0} (F : X → Y) (G : E → Y) (xs before : List X) (level : List E)
    → map F xs ≡ map F before ++ map G level → length xs ≡ length before + length level
map-count {Y = Y} F G xs before level e =
    sym (length-map xs F) ∙ ap (λ (ys : List Y). length ys) e ∙ length-append (map F before) (map G level) ∙ (λ i. length-map before F i + length-map level G i)
