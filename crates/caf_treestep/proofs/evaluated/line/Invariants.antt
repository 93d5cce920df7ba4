use Rattle.std.proofs.Common.{◌≡◌, ◌+◌, ◌++◌, drop, sum_by, Ok, string_bytes}
use Rattle.caf_base.specs.Line.{with_blanks}
use Rattle.caf_base.specs.Places.{bind}
use Rattle.caf_program.specs.View.{seen}
use Rattle.caf_treestep.specs.Evaluated.{line_text, texts_of, held_by_part}
use Rattle.caf_treestep.proofs.evaluated.line.Given as goal

-- the line so far, and then what is left behind blanks
abbrev pub invariant-loop-part : goal.invariant-loop-part
invariant-loop-part l = record {
  held : l.at + sum_by held_by_part (drop l.part-index l.rest) ≡ sum_by held_by_part l.parts;
  found : bind (texts_of (drop l.part-index l.rest) l.at (seen l.view)) (λ more. Ok (string_bytes l.line ++ with_blanks more)) ≡ line_text l.parts 0 (seen l.view);
}
