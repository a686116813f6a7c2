use Rattle.std.proofs.Common.{◌≡◌, ◌∙◌, ◌+◌, ℕ, zero, suc, List, [], ◌∷◌, drop, ap, refl, arith}
use Rattle.hp_module.proofs.terms.Terms.drop_first.Goals as goal

drop_next : {X : Type 0} (n : ℕ) (xs : List X) → drop (n + 1) xs ≡ drop 1 (drop n xs)
drop_next zero xs = refl
drop_next (suc n) [] = let e : suc n + 1 ≡ suc (n + 1) = omega arith in ap (λ m. drop m []) e
drop_next (suc n) (x ∷ xs) = let e : suc n + 1 ≡ suc (n + 1) = omega arith in ap (λ m. drop m (x ∷ xs)) e ∙ drop_next n xs

pub returns : goal.returns
returns g c = drop_next c.self.inside.start c.self.inside.terms.items ∙ ap (drop 1) c.self.view_is
