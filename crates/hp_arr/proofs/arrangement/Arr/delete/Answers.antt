use Rattle.std.proofs.Common.{◌≡◌, ◌-◌, ℕ, List, ap, ◌∙◌, subst, sym}
use Rattle.std.specs.Prelude.{remove}
use Rattle.hp_arr.specs.Arrangement.{IsArrangement}
use Rattle.hp_arr.proofs.LawfulDeletion.{deletion-lawful}
use Rattle.hp_arr.proofs.arrangement.Arr.delete.Goals as goal

pub of_lawful-requires : goal.of_lawful-requires
of_lawful-requires g c =
    let arr = c.args.self.now in
    let lawful : IsArrangement g.K.Ring.ring g.K.FiniteField.numbers arr = c.dim.ensures.lawful in
    let left : c.remove.new.self.items ≡ remove arr.forms (c.args.i - 1) =
    c.remove.ensures.items ∙ ap (λ forms. remove forms (c.args.i - 1)) (c.in_ok-forms.ensures ∙ c.deref.ensures.value ∙ ap (λ a. a.forms) c.self.view_is) in
    let IsLawful : ℕ → List (List g.row.K.Denot) → Type 0 = λ d forms. IsArrangement g.K.Ring.ring g.K.FiniteField.numbers (record { dim = d; forms = forms }) in
    subst (λ d. IsLawful d c.remove.new.self.items) (sym c.dim.ensures.value) (subst (IsLawful arr.dim) (sym left) (deletion-lawful g.K.Ring.ring g.K.FiniteField.numbers arr lawful c.args.i c.requires.low c.requires.high))
