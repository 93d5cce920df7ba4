use Rattle.std.proofs.Common.{take, IsTrue}
use Rattle.std.specs.List.{list_all}
use Rattle.caf_program.specs.Ships.{is_in}
use Rattle.caf_teamcheck.proofs.part.check_dummies.Given as goal

-- those so far are `intent(in)`
abbrev pub invariant-loop-dummy : goal.invariant-loop-dummy
invariant-loop-dummy l = IsTrue (list_all (λ d. is_in d.intent) (take l.dummy-index l.dummies))
