use Rattle.std.proofs.Common.{◌≡◌, ℕ, ◌<◌, ◌≤◌, Bool, true, false, Result, Ok, sym, ap, ◌∙◌, decimal, arith}
use Rattle.std.specs.Cmp.Lexicographic.{bytes_decides}
use Rattle.std.proofs.lemmas.Fmt.{parse-decimal}
use Rattle.hp_top.proofs.sample.plain_number.Goals as goal
use Rattle.hp_top.proofs.sample.plain_number.Goals.{else-k-le-GREATEST-via-then-k-le-GREATEST+else-eq, else-k-le-GREATEST-via-else-k-le-GREATEST}

pub returns-in_default : goal.returns-in_default
returns-in_default c = λ k small same.
    c.in_default.not-Ok k (parse-decimal 32 k c.args.text.now c.parse.result (omega (arith, small)) (omega (arith, small)) same c.parse.ensures.value.0)

one_number : {E : Type 0} (r : Result ℕ E) (j k : ℕ) → r ≡ Ok j → r ≡ Ok k → j ≡ k
one_number r j k e f = cc

differ : (b : Bool) → b ≡ false → b ≡ true → ⊥
differ b e f = cc

above : (j k : ℕ) → 9999 < j → j ≡ k → k ≤ 9999 → ⊥
above j k h e small = omega (arith, h, e, small)

pub returns-else-k-le-GREATEST : goal.returns-else-k-le-GREATEST
returns-else-k-le-GREATEST c = λ k small same. (
    let parsed = parse-decimal 32 k c.args.text.now c.parse.result (omega (arith, small)) (omega (arith, small)) same c.parse.ensures.value.0 in
    let number : c.in-Ok.k ≡ k = one_number c.parse.result c.in-Ok.k k c.in-Ok.is parsed in
    elim c.else-k-le-GREATEST.branch [
      | else-k-le-GREATEST-via-then-k-le-GREATEST+else-eq w ↦ differ w.eq.result w.if-eq.false
          (w.eq.ensures ∙ (bytes_decides w.format.result.now c.args.text.now).1 (w.format.ensures.text ∙ ap decimal number ∙ sym same))
      | else-k-le-GREATEST-via-else-k-le-GREATEST w ↦ above c.in-Ok.k k w.if-k-le-GREATEST.false number small
    ])
