use Rattle.std.proofs.Common.{◌≡◌, ◌-◌}
use Rattle.caf_exprparse.specs.Reader as e
use Rattle.caf_exprparse.specs.Reading as reading
use Rattle.caf_exprparse.specs.Told as token
use Rattle.caf_simpleparse.specs.Choices as choices
use Rattle.caf_parser.specs.Reader as r
use Rattle.caf_exprparse.proofs.Fallback.{with_front}
use Rattle.caf_parser.proofs.declaration.Declarations.more_names.Given as goal

abbrev pub invariant-loop-turn : goal.invariant-loop-turn
invariant-loop-turn l =
    reading.many (choices.next_behind e.name) l.fn.c ≡ with_front l.found (reading.many_from (choices.next_behind e.name) (l._turn-end - l._turn) l.c)
