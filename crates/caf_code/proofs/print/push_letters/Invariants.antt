use Rattle.std.proofs.Common.{◌≡◌, ◌++◌, map, take}
use Rattle.caf_code.specs.Listing.{dummy_letter}
use Rattle.caf_code.proofs.print.push_letters.Given as goal

abbrev pub invariant-loop-copied : goal.invariant-loop-copied
invariant-loop-copied l = l.text.items ≡ l.initial.text.items ++ map dummy_letter (take l.copied-index l.dummies)
