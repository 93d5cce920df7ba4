-- The programs that run.
use Rattle.std.specs.Prelude.{◌≡◌, ◌+◌, ◌≤◌, ◌^◌, Bool, true, false, not, ◌&&◌, List, [], ◌++◌, map, length, pos, ◌+ℤ◌, int_le, nat_le, sum_by, IsTrue, if◌then◌else◌}
use Rattle.std.specs.List.{list_all}
use Rattle.caf_base.specs.declared.object.Object.{Object}
use Rattle.caf_base.specs.declared.object.Kind.{Kind}
use Rattle.caf_base.specs.declared.object.Kind.TheVariants as kind
use Rattle.caf_program.specs.declared.program.DummyR.{DummyR}
use Rattle.caf_program.specs.declared.program.SubR.{SubR}
use Rattle.caf_program.specs.declared.program.Program.{Program}
use Rattle.caf_program.specs.Kinds.{Scope, FrameCell, is_scalar}
use Rattle.caf_program.specs.Rules.{block_keeps_rules}
use Rattle.caf_program.specs.Ships.{KeepsShips, is_in}

-- whether an object of the kind may be an array or a coarray: teams and copointers are scalars of their image
abbrev pub may_have_elements : Kind → Bool
may_have_elements kind.Integer = true
may_have_elements kind.Logical = true
may_have_elements kind.Event = true
may_have_elements _ = false

-- an index has 64 bits, the last one included
abbrev pub is_declared : Object → Bool
is_declared o = int_le (o.lower +ℤ pos o.extent) (pos (2 ^ 63)) && (if may_have_elements o.kind then true else is_scalar o && not o.shared)

-- a dummy's cell
abbrev pub cell_of : DummyR → FrameCell
cell_of d = record { kind = d.kind; writable = not (is_in d.intent) }

-- the cells of a subroutine's frame: its dummies, and then its locals
abbrev pub cells_of : SubR → List FrameCell
cells_of f = map cell_of f.dummies ++ map (λ k. record { kind = k; writable = true }) f.locals

-- the scope of the main program, which has no frame cells
abbrev pub main_scope : Program → Scope
main_scope p = record { objects = p.objects; cells = []; subs = p.subs }

abbrev pub sub_scope : Program → SubR → Scope
sub_scope p f = record { objects = p.objects; cells = cells_of f; subs = p.subs }

-- whether a subroutine has at most 64 dummies and locals, and its body keeps the rules
abbrev pub sub_keeps_rules : Program → SubR → Bool
sub_keeps_rules p f = nat_le (length f.dummies + length f.locals) 64 && block_keeps_rules (sub_scope p f) f.body

-- the rules on kinds, slots, arguments, assignments and sizes
pub record KeepsKinds (p : Program) : Type 0 where
  -- each object has a name
  pub named : length p.names ≡ length p.objects
  pub declared : IsTrue (list_all is_declared p.objects)
  -- each element, and each scalar of any kind, is one cell
  pub cells : sum_by (λ (o : Object). o.extent) p.objects ≤ 65536
  pub main : IsTrue (block_keeps_rules (main_scope p) p.body)
  pub subs : IsTrue (list_all (sub_keeps_rules p) p.subs)

pub record IsAccepted (p : Program) : Type 0 where
  pub kinds : KeepsKinds p
  pub ships : KeepsShips p
