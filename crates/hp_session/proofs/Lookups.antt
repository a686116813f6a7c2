-- A name that is looked up in a map, and in the list of names.
use Rattle.std.proofs.Common.{◌≡◌, ℕ, List, [], ◌∷◌, ◌++◌, map, cond, Some, nat_eq, refl, ap, ◌∙◌}
use Rattle.std.specs.Cmp.Lexicographic.{pointwise, nat_list_eq_equiv}
use Rattle.std.specs.Map.{lookup as entry_of}
use Rattle.std.proofs.lemmas.List.{map-append}
use Rattle.hp_arr.specs.Arrangement.{Arrangement}
use Rattle.hp_session.specs.State.{lookup}

-- the entries of a map as names with their arrangements
abbrev pub names_of : {Key K : Type 0} → (Key → List ℕ) → List (Key × Arrangement K) → List (List ℕ × Arrangement K)
names_of bytes es = map (λ e. (bytes e.0, e.1)) es

module _ {Key K : Type 0} (bytes : Key → List ℕ) where
  -- both find the same
  pub lookup-names_of : (es : List (Key × Arrangement K)) (x : List ℕ)
      → entry_of (λ k. pointwise nat_eq x (bytes k)) es ≡ lookup (names_of bytes es) x
  lookup-names_of [] x = refl
  lookup-names_of (e ∷ es) x = λ i. cond (nat_list_eq_equiv.symm x (bytes e.0) i) (Some e.1) (lookup-names_of es x i)

  -- one more entry is one more name
  pub names_of-push : (es : List (Key × Arrangement K)) (k : Key) (arr : Arrangement K) (x : List ℕ) → bytes k ≡ x
      → names_of bytes (es ++ (k, arr) ∷ []) ≡ names_of bytes es ++ (x, arr) ∷ []
  names_of-push es k arr x same =
      map-append (λ e. (bytes e.0, e.1)) es ((k, arr) ∷ [])
      ∙ ap (λ y. names_of bytes es ++ (y, arr) ∷ []) same
