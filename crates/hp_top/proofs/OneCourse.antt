-- A script has one course, so it is not both accepted and refused.
use Rattle.std.proofs.Common.{◌≡◌, ℕ, List, Some, None, sym, ap, ◌∙◌, inl, inr}
use Rattle.hp_render.specs.declared.refusal.Refusal.TheVariants.{Syntax}
use Rattle.hp_script.proofs.OneReading.{one_reading}
use Rattle.hp_top.specs.Course.{Course, HasCourse, IsAccepted, IsRefused, refused_at, course}

pub one_course : (script : List ℕ) (c d : Course) → HasCourse script c → HasCourse script d → c ≡ d
one_course script c d h k =
    let one = one_reading script in
    elim h [
      | inl a ↦ elim k [
        | inl b ↦ (let same = one.fault a.0 a.1 b.0 b.1 a.2 b.2 in a.3 ∙ ap (λ n. refused_at n (Syntax a.1)) same.0 ∙ ap (λ column. refused_at b.0 (Syntax column)) same.1 ∙ sym b.3)
        | inr b ↦ absurd (one.not_both b.0 a.0 a.1 b.1 a.2)
      ]
      | inr a ↦ elim k [
        | inl b ↦ absurd (one.not_both a.0 b.0 b.1 a.1 b.2)
        | inr b ↦ a.2 ∙ ap course (one.commands a.0 b.0 a.1 b.1) ∙ sym b.2
      ]
    ]

pub not_both : (script : List ℕ) → IsAccepted script → IsRefused script → ⊥
not_both script accepted refused =
    let a = accepted.1 in
    let r = refused.1 in
    let clash : None ≡ Some r.1 = sym a.2 ∙ ap (λ (c : Course). c.refused) (one_course script a.0 r.0 a.1 r.2) ∙ r.3 in
    cc
