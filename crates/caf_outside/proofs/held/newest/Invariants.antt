use Rattle.std.proofs.Common.{◌≡◌, take}
use Rattle.std.specs.Option.{option_copied}
use Rattle.caf_outside.specs.Held.{text_of}
use Rattle.caf_outside.proofs.held.newest.Given as goal

abbrev pub invariant-loop-entry : goal.invariant-loop-entry
invariant-loop-entry l = option_copied l.found ≡ text_of (take l.entry-index l.held) l.name
