use Rattle.std.proofs.Common.{◌≡◌, ◌-◌}
use Rattle.caf_tree.specs.declared.expr.Level.TheVariants as level
use Rattle.caf_exprparse.specs.Reading.{many, many_from}
use Rattle.caf_exprparse.specs.Reader.{inner, operand, term}
use Rattle.caf_exprparse.proofs.Fallback.{with_front}
use Rattle.caf_exprparse.proofs.grammar.Rules.summands.Given as goal

abbrev pub invariant-loop-turn : goal.invariant-loop-turn
invariant-loop-turn g l =
    many (operand (inner l.self.depth) l.self.depth level.Sums (term (inner l.self.depth) l.self.depth)) l.fn.c ≡ with_front l.found (many_from (operand (inner l.self.depth) l.self.depth level.Sums (term (inner l.self.depth) l.self.depth)) (l._turn-end - l._turn) l.c)
