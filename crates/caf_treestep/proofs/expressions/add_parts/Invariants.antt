use Rattle.std.proofs.Common.{◌≡◌, ◌++◌, map, take}
use Rattle.std.specs.List.{flat_map}
use Rattle.caf_program.specs.Expressions.{of_part}
use Rattle.caf_treestep.proofs.expressions.add_parts.Given as goal

-- the expressions of the parts so far
abbrev pub invariant-loop-part : goal.invariant-loop-part
invariant-loop-part l = map (λ x. x.now) l.all.items ≡ map (λ x. x.now) l.fn.all.items ++ flat_map of_part (take l.part-index l.parts)
