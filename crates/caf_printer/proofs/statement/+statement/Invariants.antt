use Rattle.std.proofs.Common.{◌≡◌, ◌++◌, map, take}
use Rattle.std.specs.List.{flat_map}
use Rattle.caf_tree.specs.Said.{Shown, shown, lines_at}
use Rattle.caf_tree.specs.Text.{line_text}
use Rattle.caf_printer.proofs.statement.+statement.Given as goal

-- what was there, and the lines of the statements so far
abbrev pub invariant-print_statements-loop-statement : goal.invariant-print_statements-loop-statement
invariant-print_statements-loop-statement l = l.text.items ≡ l.fn.text.items ++ flat_map (λ (s : Shown). flat_map line_text (lines_at l.indent s)) (map shown (take l.statement-index l.block))
