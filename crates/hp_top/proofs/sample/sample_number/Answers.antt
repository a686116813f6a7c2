use Rattle.std.proofs.Common.{map, string_bytes, codes, ap, sym, ◌∙◌}
use Rattle.std.specs.Cmp.Lexicographic.{bytes_decides}
use Rattle.hp_top.proofs.SampleWords.{two_items, number_of_words}
use Rattle.hp_top.proofs.sample.sample_number.Goals as goal

pub returns-then-eq : goal.returns-then-eq
returns-then-eq c =
    let words = two_items c.args.words.now c.word-item.result c.number-item.result c.in-len2.len_at_least c.in-len2.len_below c.word-item.is c.number-item.is in
    number_of_words (map string_bytes c.args.words.now) (string_bytes c.word-item.result) (string_bytes c.number-item.result) c.as_str-then-eq.result.now (ap (map string_bytes) words)
    (sym c.as_str.ensures.value ∙ (bytes_decides c.as_str.result.now (codes "sample")).0 (sym c.eq.ensures ∙ c.if-eq.true))
    c.as_str-then-eq.ensures.value c.plain_number.result c.plain_number.ensures
