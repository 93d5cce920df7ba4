use Rattle.std.proofs.Common.{◌≡◌, Err, ap, ◌∙◌, arith}
use Rattle.caf_exprparse.specs.Reading.{Deep}
use Rattle.caf_exprparse.specs.Reader.{inner}
use Rattle.caf_exprparse.proofs.Fallback.{deeper}
use Rattle.caf_exprparse.proofs.grammar.+inner.Goals as goal

pub returns-then-depth-eq0 : goal.returns-then-depth-eq0
unfolding inner
returns-then-depth-eq0 t c x k =
    let none : c.args.depth ≡ 0 = omega arith in
    let same : Deep ≡ x = cc in
    ap (λ n. inner n c.args.c.now) none ∙ ap Err same

pub returns : goal.returns
unfolding inner
returns t c = rw (deeper (λ n. inner n c.args.c.now) c.args.depth (omega arith)) c.expression_in.ensures
