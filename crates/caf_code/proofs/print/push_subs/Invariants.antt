use Rattle.std.proofs.Common.{◌≡◌, ◌++◌, drop}
use Rattle.caf_code.specs.Listing.{numbered, sub_line}
use Rattle.caf_code.proofs.print.push_subs.Given as goal

abbrev pub invariant-loop-place : goal.invariant-loop-place
invariant-loop-place l = l.text.items ++ numbered sub_line l.place (drop l.place l.subs) ≡ l.initial.text.items ++ numbered sub_line 0 l.subs
