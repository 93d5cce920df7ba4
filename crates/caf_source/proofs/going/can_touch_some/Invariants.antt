use Rattle.std.proofs.Common.{◌≡◌, drop}
use Rattle.std.specs.List.{list_any}
use Rattle.caf_pending.specs.declared.operation.Operation.{Operation}
use Rattle.caf_source.specs.Ending.{can_touch}
use Rattle.caf_source.specs.Stepping.{of_images}
use Rattle.caf_source.proofs.going.can_touch_some.Given as goal

-- no stage of the operations so far
abbrev pub invariant-loop-place : goal.invariant-loop-place
invariant-loop-place l = list_any (λ (op : Operation). can_touch l.subs (of_images l.images l.pending) op.name) l.pending ≡ list_any (λ (op : Operation). can_touch l.subs (of_images l.images l.pending) op.name) (drop l.place l.pending)
