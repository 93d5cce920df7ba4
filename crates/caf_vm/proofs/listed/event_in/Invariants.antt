use Rattle.std.proofs.Common.{◌≡◌, drop}
use Rattle.caf_code.specs.Operations.{event_for}
use Rattle.caf_vm.proofs.listed.event_in.Given as goal

-- the first event is among what is left
abbrev pub invariant-loop-item : goal.invariant-loop-item
invariant-loop-item l = event_for l.role (drop l.item-index l.items) ≡ event_for l.role l.items
