use Rattle.std.proofs.Common.{◌≡◌, ◌<◌, true, length, sym, ◌∙◌, ap, arith}
use Rattle.std.specs.List.{list_all}
use Rattle.std.specs.Char.{is_ascii_digit}
use Rattle.std.proofs.lemmas.Grind.{common_steps}
use Rattle.caf_words.proofs.Digits.{parse_is_number_in}
use Rattle.caf_words.proofs.number.number_in.Goals as goal

pub returns : goal.returns
returns c =
    let word = c.args.word.now in
    let all : list_all is_ascii_digit word ≡ true = ap (list_all is_ascii_digit) (sym c.as_bytes.ensures.value) ∙ (sym c.are_digits.ensures ∙ c.if-not-are_digits.false) in
    let some : 0 < length word = grind (arith, common_steps) in
    c.ok.ensures.value ∙ parse_is_number_in word c.parse.result c.parse.ensures.value.0 all some (omega arith)
