use Rattle.std.proofs.Common.{◌≡◌, List, Ok, Err, length, subst, arith}
use Rattle.caf_lexer.specs.declared.token.Token.{Token}
use Rattle.caf_exprparse.specs.Reads.{Reads}
use Rattle.caf_parser.specs.Reader.{unit_in}
use Rattle.caf_parser.proofs.Whole.{no_length, spelled_by, only_by, more_by, refused_by}
use Rattle.caf_parser.proofs.program.unit.Goals as goal

pub returns-then-left-gt0-clause-refused : goal.returns-then-left-gt0-clause-refused
returns-then-left-gt0-clause-refused c =
    let h = subst (λ ts. unit_in 100 ts ≡ Ok (c.in-Ok.unit, c.unit_in.new.c)) c.new-c.ensures c.in-Ok.ensures in
    more_by c.args.tokens.now c.in-Ok.unit c.unit_in.new.c h (let e = c.left.ensures in let more = c.if-left-gt0.true in omega arith)

pub returns-else-left-gt0-clause-spelled : goal.returns-else-left-gt0-clause-spelled
returns-else-left-gt0-clause-spelled c =
    let h = subst (λ ts. unit_in 100 ts ≡ Ok (c.in-Ok.unit, c.unit_in.new.c)) c.new-c.ensures c.in-Ok.ensures in
    spelled_by c.args.tokens.now c.a_unit_needs_as_many_levels_as_it_is_deep.ensures c.in-Ok.unit c.unit_in.new.c h
    (no_length c.unit_in.new.c (let e = c.left.ensures in let none = c.if-left-gt0.false in omega arith))

pub returns-else-left-gt0-clause-only : goal.returns-else-left-gt0-clause-only
returns-else-left-gt0-clause-only c =
    let h = subst (λ ts. unit_in 100 ts ≡ Ok (c.in-Ok.unit, c.unit_in.new.c)) c.new-c.ensures c.in-Ok.ensures in
    only_by c.args.tokens.now c.in-Ok.unit c.unit_in.new.c h

pub returns-in-Err-clause-refused : goal.returns-in-Err-clause-refused
returns-in-Err-clause-refused c =
    let h = subst (λ ts. Reads (unit_in 100 ts) (Err c.in-Err.fault) c.unit_in.new.c) c.new-c.ensures c.in-Err.ensures in
    refused_by c.args.tokens.now c.a_unit_needs_as_many_levels_as_it_is_deep.ensures c.in-Err.fault c.unit_in.new.c h
