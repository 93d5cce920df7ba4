use Rattle.std.proofs.Common.{◌≡◌, ◌++◌, drop}
use Rattle.caf_code.specs.Listing.{numbered, text_line}
use Rattle.caf_code.proofs.print.push_texts.Given as goal

abbrev pub invariant-loop-place : goal.invariant-loop-place
invariant-loop-place l = l.text.items ++ numbered text_line l.place (drop l.place l.texts) ≡ l.initial.text.items ++ numbered text_line 0 l.texts
