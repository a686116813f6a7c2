use Rattle.std.proofs.Common.{◌≡◌, ◌+◌, ◌++◌, [], ◌∷◌, ◌-◌, take, drop, length, sym, ◌∙◌}
use Rattle.std.proofs.lemmas.List.{take_rest}
use Rattle.std.proofs.lemmas.Bool.{false≢true}
use Rattle.hp_algebra.specs.Ring.{dot_of}
use Rattle.hp_arr.proofs.Closing.{zero_row-all, sum_is, drop-snoc}
use Rattle.hp_arr.proofs.point_search.closes.Goals as goal

pub returns-then-is_zero : goal.returns-then-is_zero
returns-then-is_zero g c =
    let laws = g.met.K.Ring.ring_laws in
    let ring = g.K.Ring.ring in
    let f = c.args.form.now in
    let prefix = c.args.prefix.now in
    let k = length prefix + 1 in
    let value : c.plus.result ≡ dot_of ring f (prefix ++ c.args.v ∷ []) =
    sum_is laws f prefix c.index-form-k.result c.args.v _ _ _ c.requires.values c.form_value.ensures.point c.times.ensures.right c.requires.within c.index-form-k.is c.form_value.ensures.value c.times.ensures.value c.plus.ensures.value in
    let same : drop (length (prefix ++ c.args.v ∷ [])) f ≡ take (length f - k) (drop k f) = drop-snoc f prefix c.args.v ∙ sym (take_rest f k) in
    let zero = laws.zero_test c.plus.result c.plus.ensures.answer in
    let behind = (zero_row-all laws (take (length f - k) (drop k f)) c.is_zero.ensures.values).0 (sym c.is_zero.ensures.zero ∙ c.if-is_zero.true) in (
      λ t. record { value = sym value ∙ zero.0 (sym c.is_nil.ensures.value ∙ t); rest = rw same behind },
      λ closed. c.is_nil.ensures.value ∙ zero.1 (value ∙ closed.value),
    )

pub returns-else-is_zero : goal.returns-else-is_zero
returns-else-is_zero g c =
    let laws = g.met.K.Ring.ring_laws in
    let f = c.args.form.now in
    let prefix = c.args.prefix.now in
    let k = length prefix + 1 in
    let same : drop (length (prefix ++ c.args.v ∷ [])) f ≡ take (length f - k) (drop k f) = drop-snoc f prefix c.args.v ∙ sym (take_rest f k) in (
      λ t. absurd (false≢true (sym c.if-is_zero.false ∙ t)),
      λ closed. c.is_zero.ensures.zero ∙ (zero_row-all laws (take (length f - k) (drop k f)) c.is_zero.ensures.values).1 (rw same at closed.rest),
    )
