use Rattle.std.proofs.Common.{◌≡◌, ◌+◌, ◌-◌, ap, sym, ◌∙◌, arith, take, drop, length, refl}
use Rattle.caf_lexer.specs.Lines.{without_return}
use Rattle.caf_lexer.proofs.Cuts.{lines-cut, lines-last, line_length, drop-drop_one}
use Rattle.caf_lexer.proofs.text.next_line.Goals as goal

pub returns-then-end-bytes-clause-lines : goal.returns-then-end-bytes-clause-lines
returns-then-end-bytes-clause-lines c =
    let none : length c.args.bytes.now - c.line_length-end.result ≡ 0 = omega arith in
    lines-last c.args.bytes.now c.requires (sym c.line_length-end.ensures.value ∙ c.if-end-bytes.true) ∙ rw none refl

pub returns-clause-lines : goal.returns-clause-lines
returns-clause-lines c =
    let is = c.line_length-end.ensures.value in
    let line : c.without_return.result.now ≡ without_return (take (line_length c.args.bytes.now) c.args.bytes.now) =
    c.without_return.ensures ∙ ap without_return (c.split_at.ensures.front ∙ ap (λ n. take n c.args.bytes.now) is) in
    let rest : c.split_at-2.result.1.now ≡ drop (line_length c.args.bytes.now + 1) c.args.bytes.now =
    c.split_at-2.ensures.back ∙ ap (drop 1) (c.split_at.ensures.back ∙ ap (λ n. drop n c.args.bytes.now) is) ∙ drop-drop_one (line_length c.args.bytes.now) c.args.bytes.now in
    lines-cut c.args.bytes.now (omega arith) ∙ rw (line, rest) refl
