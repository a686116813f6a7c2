-- The column of a line outside the grammar, by how many tokens are left.
use Rattle.std.proofs.Common.{◌≡◌, ℕ, zero, suc, ◌-◌, ◌≤◌, ◌<◌, List, [], ◌∷◌, length, map, Some, None, refl, sym, ap, subst, ◌∙◌, arith, inl, inr, get_or}
use Rattle.std.specs.List.{slice_get}
use Rattle.std.proofs.lemmas.List.{length-map}
use Rattle.std.proofs.lemmas.Option.{slice_get_within}
use Rattle.std.proofs.lemmas.Bool.{false≢true}
use Rattle.std.specs.Option.{is_some}
use Rattle.hp_script.specs.declared.token.Token.{Token}
use Rattle.hp_script.specs.declared.cut.Place.{Place}
use Rattle.hp_script.specs.declared.fault.Fault.TheVariants.{At}
use Rattle.hp_script.specs.Tokens.{Placed, tokens, line_tokens}
use Rattle.hp_script.specs.Cut.{line_places, place_of, IsCut, column_of}
use Rattle.hp_script.specs.Grammar.{StopsAt}
use Rattle.hp_script.specs.Reading.{StopsWith}
use Rattle.hp_script.specs.Script.{IsAllowed, IsRefusedAt}
use Rattle.hp_script.proofs.Exact.{some_same}

got : (ps : List Placed) (k : ℕ) (p : Placed) (d : Place) → slice_get ps k ≡ Some p → get_or (map place_of ps) k d ≡ place_of p
got [] k p d e = absurd (none e)
  where
    none : None ≡ Some p → ⊥
    none e = false≢true (ap is_some e)
got (q ∷ ps) zero p d e = ap place_of (some_same q p e)
got (q ∷ ps) (suc k) p d e = got ps k p d e

over : (n k : ℕ) → n - 0 ≡ k → k < n → ⊥
over n k e h = omega arith

none_left : (n left : ℕ) → left ≤ n → n - left ≡ n → 0 < n → left ≡ 0
none_left n left h e g = omega arith

-- the parts of a line of those tokens and places
module _ (line : List ℕ) (left : ℕ) where
  next_is : (k : ℕ) (p : Placed) → length (tokens line) - left ≡ k → slice_get (tokens line) k ≡ Some p → column_of (map place_of (tokens line)) left ≡ p.first
  next_is k p e g = by_left left e
    where
      by_left : (n : ℕ) → length (tokens line) - n ≡ k → column_of (map place_of (tokens line)) n ≡ p.first
      by_left zero e = absurd (over (length (tokens line)) k e (slice_get_within (tokens line) k p g))
      by_left (suc n) e =
          ap (λ m. (get_or (map place_of (tokens line)) m (record { first = 0; after = 0 })).first) (ap (λ m. m - suc n) (length-map (tokens line) place_of) ∙ e)
          ∙ ap (λ q. q.first) (got (tokens line) k p (record { first = 0; after = 0 }) g)

  last_is : (p : Placed) → left ≡ 0 → slice_get (tokens line) (length (tokens line) - 1) ≡ Some p → column_of (map place_of (tokens line)) left ≡ p.after
  last_is p e g =
      ap (column_of (map place_of (tokens line))) e
      ∙ ap (λ m. (get_or (map place_of (tokens line)) m (record { first = 0; after = 0 })).after) (ap (λ m. m - 1) (length-map (tokens line) place_of))
      ∙ ap (λ q. q.after) (got (tokens line) (length (tokens line) - 1) p (record { first = 0; after = 0 }) g)

positive : (n : ℕ) → (n ≡ 0 → ⊥) → 0 < n
positive zero h = absurd (h refl)
positive (suc n) h = lemma n
  where
    lemma : (n : ℕ) → 0 < suc n
    lemma n = omega arith

pub refused : (line : List ℕ) (left : ℕ) → (length (line_tokens line) ≡ 0 → ⊥) → StopsWith (line_tokens line) (At left) → IsRefusedAt line (column_of (line_places line) left)
refused line left some s =
    let stops : StopsAt (line_tokens line) (length (line_tokens line) - left) = s.1 in
    let n_is : length (line_tokens line) ≡ length (tokens line) = length-map (tokens line) (λ p. p.token) in
    record {
      not_allowed = never;
      k = length (line_tokens line) - left;
      stops = stops;
      next = λ p g. next_is line left (length (line_tokens line) - left) p (ap (λ n. n - left) (sym n_is)) g;
      at_end = λ p e g. last_is line left p (none_left (length (line_tokens line)) left s.0 (e ∙ sym n_is) (positive (length (line_tokens line)) some)) (ap (λ m. slice_get (tokens line) (m - 1)) (sym e) ∙ g);
    }
  where
    never : IsAllowed line → ⊥
    never (inl e) = some (ap length e)
    never (inr c) = s.1.not_spelled c.0 c.1

pub refused_at : (line : List ℕ) (ts : List Token) (ps : List Place) (left column : ℕ) → IsCut line ts ps → (length ts ≡ 0 → ⊥) → StopsWith ts (At left) → column ≡ column_of ps left → IsRefusedAt line column
refused_at line ts ps left column cut some s e =
    subst (λ k. IsRefusedAt line k) (sym (e ∙ ap (λ qs. column_of qs left) cut.places_are))
    (refused line left (λ n. some (ap length cut.tokens_are ∙ n)) (subst (λ us. StopsWith us (At left)) cut.tokens_are s))
