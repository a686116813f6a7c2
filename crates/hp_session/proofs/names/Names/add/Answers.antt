use Rattle.std.proofs.Common.{◌≡◌, [], ◌∷◌, ◌++◌, None, nat_eq, ap, ◌∙◌}
use Rattle.std.specs.Cmp.Lexicographic.{pointwise}
use Rattle.std.specs.Map.{lookup as entry_of}
use Rattle.indexmap.proofs.CallerLemmas.{insert_entry-new}
use Rattle.hp_session.specs.State.{lookup}
use Rattle.hp_session.proofs.Lookups.{names_of, lookup-names_of, names_of-push}
use Rattle.hp_session.proofs.names.Names.add.Goals as goal

pub returns-in-Ok-clause-added : goal.returns-in-Ok-clause-added
returns-in-Ok-clause-added g c =
    let table = c.self.inside.table in
    let copy = c.in_ok-copy.copy in
    let name = c.args.name.now in
    let new : entry_of (λ k. pointwise nat_eq name k.items) table.entries ≡ None =
    lookup-names_of (λ k. k.items) table.entries name ∙ ap (λ names. lookup names name) c.self.view_is ∙ c.requires in
    let absent : entry_of (λ k. pointwise nat_eq copy.items k.items) table.entries ≡ None =
    ap (λ x. entry_of (λ k. pointwise nat_eq x k.items) table.entries) c.in_ok-copy.ensures.items ∙ new in
    ap (names_of (λ k. k.items)) (c.in-Ok.ensures.entries ∙ insert_entry-new (λ a b. pointwise nat_eq a.items b.items) table copy c.args.arr absent)
    ∙ names_of-push (λ k. k.items) table.entries copy c.args.arr name c.in_ok-copy.ensures.items
    ∙ ap (λ names. names ++ (name, c.args.arr) ∷ []) c.self.view_is
