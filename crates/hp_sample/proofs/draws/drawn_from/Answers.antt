use Rattle.std.proofs.Common.{◌≡◌, ◌++◌, ◌∷◌, [], ap, subst, ◌∙◌, drop, ◌+◌, get_or, sym}
use Rattle.hp_sample.proofs.Drawing.{IsLeft, kept, passed}
use Rattle.hp_sample.specs.Sample.{next_state, bit_of}
use Rattle.hp_sample.proofs.draws.drawn_from.Goals as goal
use Rattle.hp_sample.proofs.draws.drawn_from.Goals.{then-bit_of-eq1+in_ok-push, else-bit_of-eq1}

pub loop-a-preserved : goal.loop-a-preserved
loop-a-preserved c =
    let all = c.args.pairs.now in
    let first = c.args.state in
    let rest = drop (c.loop-a.a-index + 1) all in
    let edges = c.loop-a.edges.items in
    let s = c.loop-a.state in
    let bit : c.bit_of.result ≡ bit_of (next_state s) = c.bit_of.ensures ∙ ap bit_of c.next_state-state.ensures in
    elim c.if-bit_of-eq1.branch [
      | then-bit_of-eq1+in_ok-push w ↦ (
          let here = kept all first edges c.loop-a.a-index (0, 0) s c.loop-a-test.true c.loop-a.invariant (sym bit ∙ w.if-bit_of-eq1.true) in
          let grown : c.if-bit_of-eq1.edges.items ≡ edges ++ get_or all c.loop-a.a-index (0, 0) ∷ [] = ap (λ (v : _). v.items) w.edges-is ∙ w.in_ok-push.ensures.items in
          subst (λ z. IsLeft all first c.if-bit_of-eq1.edges.items rest z) (sym c.next_state-state.ensures)
          (subst (λ es. IsLeft all first es rest (next_state s)) (sym grown) here))
      | else-bit_of-eq1 w ↦ (
          let here = passed all first edges c.loop-a.a-index (0, 0) s c.loop-a-test.true c.loop-a.invariant (λ e. w.if-bit_of-eq1.false (bit ∙ e)) in
          subst (λ z. IsLeft all first c.if-bit_of-eq1.edges.items rest z) (sym c.next_state-state.ensures)
          (subst (λ (v : _). IsLeft all first v.items rest (next_state s)) (sym w.edges-is) here))
    ]
