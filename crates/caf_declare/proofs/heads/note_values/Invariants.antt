use Rattle.std.proofs.Common.{◌≡◌, drop, map, None}
use Rattle.caf_tree.specs.declared.expr.Expr.{Expr}
use Rattle.caf_declare.specs.Table.{Name}
use Rattle.caf_declare.specs.Frames.{noted}
use Rattle.caf_declare.proofs.heads.note_values.Given as goal

-- what is so far, and what is left
abbrev pub invariant-loop-name : goal.invariant-loop-name
invariant-loop-name l =
    noted None (map (λ (p : Name × Expr). p.0) l.values) l.initial.heads ≡ noted None (map (λ (p : Name × Expr). p.0) (drop l.name-index l.values)) l.heads
