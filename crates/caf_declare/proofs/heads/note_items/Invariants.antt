use Rattle.std.proofs.Common.{◌≡◌, drop, map, None}
use Rattle.caf_tree.specs.declared.unit.Item.{Item}
use Rattle.caf_declare.specs.Frames.{noted}
use Rattle.caf_declare.proofs.heads.note_items.Given as goal

-- what is so far, and what is left
abbrev pub invariant-loop-item : goal.invariant-loop-item
invariant-loop-item l =
    noted None (map (λ (i : Item). i.name) l.items) l.initial.heads ≡ noted None (map (λ (i : Item). i.name) (drop l.item-index l.items)) l.heads
