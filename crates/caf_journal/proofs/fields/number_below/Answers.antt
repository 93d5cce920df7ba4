use Rattle.std.proofs.Common.{◌≡◌, sym, ap, subst, ◌∙◌, arith}
use Rattle.std.specs.Fmt.{decimal}
use Rattle.std.specs.Str.{IsUtf8}
use Rattle.std.proofs.lemmas.Fmt.{IsAscii-decimal, parse-decimal}
use Rattle.std.proofs.lemmas.Str.{IsUtf8-from_ascii}
use Rattle.caf_journal.proofs.Numbers.{number_below_none, number_below_some}
use Rattle.caf_journal.proofs.fields.number_below.Goals as goal
use Rattle.caf_journal.proofs.fields.number_below.Goals.{else-number-limit-via-then-number-limit+else-is_decimal, else-number-limit-via-else-number-limit}

pub returns-in_default-clause-value : goal.returns-in_default-clause-value
returns-in_default-clause-value c =
    number_below_none c.args.limit c.args.word.now (λ n lt is. c.in_default.ensures.cases.0 (subst IsUtf8 (sym is) (IsUtf8-from_ascii (decimal n) (IsAscii-decimal n (omega arith)))))

pub returns-in_default-parse-clause-value : goal.returns-in_default-parse-clause-value
returns-in_default-parse-clause-value c =
    number_below_none c.args.limit c.args.word.now (λ n lt is. c.in_default-parse.not-Ok n (parse-decimal 64 n c.in-Ok.text.now c.parse.result (omega arith) (omega arith) (c.in-Ok.ensures.cases.0 ∙ is) c.parse.ensures.value.0))

pub returns-then-is_decimal-clause-value : goal.returns-then-is_decimal-clause-value
returns-then-is_decimal-clause-value c =
    number_below_some c.args.limit c.args.word.now c.in-Ok-parse.number (omega arith) c.if-number-limit.true (sym (c.is_decimal.ensures.0 c.if-is_decimal.true))

pub returns-else-number-limit-clause-value : goal.returns-else-number-limit-clause-value
returns-else-number-limit-clause-value c =
    number_below_none c.args.limit c.args.word.now (λ n lt is.
    let read = parse-decimal 64 n c.in-Ok.text.now c.parse.result (omega arith) (omega arith) (c.in-Ok.ensures.cases.0 ∙ is) c.parse.ensures.value.0 in
    let number : c.in-Ok-parse.number ≡ n = cc in
    elim c.else-number-limit.branch [
      | else-number-limit-via-then-number-limit+else-is_decimal w ↦
          let yes = w.is_decimal.ensures.1 (is ∙ ap decimal (sym number)) in
          cc
      | else-number-limit-via-else-number-limit w ↦ omega arith
    ])
