use Rattle.std.proofs.Common.{◌≡◌, ◌++◌, drop}
use Rattle.caf_code.specs.Listing.{numbered, object_line}
use Rattle.caf_code.proofs.print.push_objects.Given as goal

abbrev pub invariant-loop-place : goal.invariant-loop-place
invariant-loop-place l = l.text.items ++ numbered object_line l.place (drop l.place l.objects) ≡ l.initial.text.items ++ numbered object_line 0 l.objects
