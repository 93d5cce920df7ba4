use Rattle.std.proofs.Common.{List, subst, sym, arith}
use Rattle.caf_tree.specs.declared.stmt.Stmt.{Stmt}
use Rattle.caf_tree.specs.Statements.{Branches}
use Rattle.caf_exprparse.specs.Reading.{Outcome}
use Rattle.caf_exprparse.specs.Reads.{Reads}
use Rattle.caf_exprparse.proofs.Fallback.{deeper}
use Rattle.caf_parser.specs.Reader as r
use Rattle.caf_parser.proofs.block.+nested.Goals as goal

pub inner_block-returns : goal.inner_block-returns
inner_block-returns t c =
    subst (λ (o : Outcome (List Stmt)). Reads o c.statements.result c.statements.new.c) (sym (deeper (λ n. r.inner_block n c.args.c.now) c.args.depth (omega arith))) c.statements.ensures

pub inner_branches-returns : goal.inner_branches-returns
inner_branches-returns t c =
    subst (λ (o : Outcome Branches). Reads o c.branches.result c.branches.new.c) (sym (deeper (λ n. r.inner_branches n c.args.c.now) c.args.depth (omega arith))) c.branches.ensures
