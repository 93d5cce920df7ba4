use Rattle.std.proofs.Common.{◌≡◌, ◌++◌, drop, map}
use Rattle.std.specs.Prelude.{not}
use Rattle.caf_program.specs.Ships.{is_in}
use Rattle.caf_program.specs.declared.program.DummyR.{DummyR}
use Rattle.caf_codegen.proofs.program.copied.Given as goal

-- what is there, and then what is left, is the whole
abbrev pub invariant-loop-dummy : goal.invariant-loop-dummy
invariant-loop-dummy l = l.copied ++ map (λ (d : DummyR). not (is_in d.intent)) (drop l.dummy-index l.dummies) ≡ map (λ (d : DummyR). not (is_in d.intent)) l.fn.dummies
