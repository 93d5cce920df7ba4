use Rattle.std.proofs.Common.{◌≡◌, ◌-◌, List, length, drop, Ok, Err, sym, ◌∙◌, subst}
use Rattle.caf_lexer.specs.declared.token.Token.{Token}
use Rattle.caf_tree.specs.Expressions.{Expression}
use Rattle.caf_exprparse.specs.Cursor.{IsLongest}
use Rattle.caf_exprparse.specs.Reader.{expression}
use Rattle.caf_exprparse.specs.Reads.{Reads}
use Rattle.caf_exprparse.proofs.Promise.{left_within, spelled_at, longest_at, only_at, refused_by}
use Rattle.caf_exprparse.proofs.cursor.expr.Goals as goal

pub overflow_sub-cursor-in-Ok : goal.overflow_sub-cursor-in-Ok
overflow_sub-cursor-in-Ok c =
    let all : List Token = c.args.cursor.now.tokens.now in
    let start = c.new-tokens.ensures ∙ c.split_at.ensures.back in
    let h = subst (λ ts. expression (100 - c.args.cursor.now.depth) ts ≡ Ok (c.in-Ok.expression, c.expression.new.c)) start c.in-Ok.ensures in
    let k = left_within (100 - c.args.cursor.now.depth) all c.args.cursor.now.at c.requires.within c.expression.new.c c.in-Ok.expression h in
    rw c.left.ensures k

pub returns-in-Ok-clause-spelled : goal.returns-in-Ok-clause-spelled
returns-in-Ok-clause-spelled c =
    let all : List Token = c.args.cursor.now.tokens.now in
    let start = c.new-tokens.ensures ∙ c.split_at.ensures.back in
    let h = subst (λ ts. expression (100 - c.args.cursor.now.depth) ts ≡ Ok (c.in-Ok.expression, c.expression.new.c)) start c.in-Ok.ensures in
    subst (λ l. Expression (100 - c.args.cursor.now.depth) c.in-Ok.expression (drop c.args.cursor.now.at all) (drop (length all - l) all)) (sym c.left.ensures)
    (spelled_at (100 - c.args.cursor.now.depth) all c.args.cursor.now.at c.requires.within c.expression.new.c c.in-Ok.expression h)

pub returns-in-Ok-clause-longest : goal.returns-in-Ok-clause-longest
returns-in-Ok-clause-longest c =
    let all : List Token = c.args.cursor.now.tokens.now in
    let start = c.new-tokens.ensures ∙ c.split_at.ensures.back in
    let h = subst (λ ts. expression (100 - c.args.cursor.now.depth) ts ≡ Ok (c.in-Ok.expression, c.expression.new.c)) start c.in-Ok.ensures in
    subst (λ l. IsLongest (drop c.args.cursor.now.at all) (drop (length all - l) all)) (sym c.left.ensures)
    (longest_at (100 - c.args.cursor.now.depth) all c.args.cursor.now.at c.requires.within c.expression.new.c c.in-Ok.expression h)

pub returns-in-Ok-clause-only : goal.returns-in-Ok-clause-only
returns-in-Ok-clause-only c x rest d s =
    let all : List Token = c.args.cursor.now.tokens.now in
    let start = c.new-tokens.ensures ∙ c.split_at.ensures.back in
    let h = subst (λ ts. expression (100 - c.args.cursor.now.depth) ts ≡ Ok (c.in-Ok.expression, c.expression.new.c)) start c.in-Ok.ensures in
    subst (λ l. (c.in-Ok.expression ≡ x) × (drop (length all - l) all ≡ rest)) (sym c.left.ensures)
    (only_at (100 - c.args.cursor.now.depth) all c.args.cursor.now.at c.requires.within c.expression.new.c c.in-Ok.expression h x rest d s)

pub returns-in-Err-clause-refused : goal.returns-in-Err-clause-refused
returns-in-Err-clause-refused c =
    let start = c.new-tokens.ensures ∙ c.split_at.ensures.back in
    let h = subst (λ ts. Reads (expression (100 - c.args.cursor.now.depth) ts) (Err c.in-Err.fault) c.expression.new.c) start c.in-Err.ensures in
    refused_by (100 - c.args.cursor.now.depth) (drop c.args.cursor.now.at c.args.cursor.now.tokens.now) c.expression.new.c c.in-Err.fault h
