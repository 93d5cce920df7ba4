use Rattle.std.proofs.Common.{◌≡◌, ◌-◌}
use Rattle.caf_exprparse.specs.Reading.{many, many_from}
use Rattle.caf_exprparse.specs.Reader.{inner, next_one}
use Rattle.caf_exprparse.proofs.Fallback.{with_front}
use Rattle.caf_exprparse.proofs.grammar.Rules.others.Given as goal

abbrev pub invariant-loop-turn : goal.invariant-loop-turn
invariant-loop-turn g l =
    many (next_one (inner l.self.depth)) l.fn.c ≡ with_front l.found (many_from (next_one (inner l.self.depth)) (l._turn-end - l._turn) l.c)
