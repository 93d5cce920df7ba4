use Rattle.std.proofs.Common.{◌≡◌, ◌-◌}
use Rattle.caf_exprparse.specs.Reading as reading
use Rattle.caf_exprparse.proofs.Fallback.{with_front}
use Rattle.caf_parser.specs.Reader as r
use Rattle.caf_parser.proofs.program.many_subs.Given as goal

abbrev pub invariant-loop-turn : goal.invariant-loop-turn
invariant-loop-turn l = reading.many (r.sub l.depth) l.fn.c ≡ with_front l.found (reading.many_from (r.sub l.depth) (l._turn-end - l._turn) l.c)
