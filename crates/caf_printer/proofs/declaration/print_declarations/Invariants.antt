use Rattle.std.proofs.Common.{◌≡◌, ◌++◌, map, take}
use Rattle.std.specs.List.{flat_map}
use Rattle.caf_tree.specs.declared.unit.Decl.{Decl as Declared}
use Rattle.caf_tree.specs.Said.{declaration_said}
use Rattle.caf_tree.specs.Text.{line_text}
use Rattle.caf_printer.proofs.declaration.print_declarations.Given as goal

-- what was there, and the lines so far
abbrev pub invariant-loop-declaration : goal.invariant-loop-declaration
invariant-loop-declaration l = l.text.items ≡ l.fn.text.items ++ flat_map (λ (d : Declared). line_text (l.indent, declaration_said d)) (take l.declaration-index l.declarations)
