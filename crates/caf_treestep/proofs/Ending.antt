-- The last Step of a statement, by its form.
use Rattle.std.proofs.lemmas.Option.{none-some}
use Rattle.std.proofs.Common.{◌≡◌, ◌-◌, List, [], ◌∷◌, Option, Some, None, Result, Ok, Err, IfOk, ap, arith, length, refl, slice_get, subst, sym, ◌∙◌}
use Rattle.caf_base.specs.declared.operation.Section.{Section}
use Rattle.caf_base.specs.declared.trap.Trap.{Trap}
use Rattle.caf_program.specs.Value.{Read}
use Rattle.caf_base.specs.declared.effect.Effect.{Effect}
use Rattle.caf_base.specs.declared.fence.FenceClear.{FenceClear}
use Rattle.caf_base.specs.declared.memory.Memory.{Memory}
use Rattle.caf_base.specs.ImageMemory.{ImageMemory}
use Rattle.caf_program.specs.declared.program.SubR.{SubR}
use Rattle.caf_program.specs.declared.stmt.StmtR.{StmtR}
use Rattle.caf_program.specs.declared.stmt.StmtR.TheOpen.{StmtR-F}
use Rattle.caf_program.specs.declared.stmt.StmtR.TheViews.{out-StmtR, roll-StmtR}
use Rattle.caf_program.specs.Expressions.{expressions, reads_all}
use Rattle.caf_treestep.specs.declared.task.Task.{Task}
use Rattle.caf_treestep.specs.declared.todo.Todo.{Todo}
use Rattle.caf_treestep.specs.declared.todo.Todo.TheVariants as item
use Rattle.caf_treestep.specs.Evaluated.{seen_in}
use Rattle.caf_treestep.specs.Reading.{does_unread, next_read, read_first, reads_at_once, section_if, unread_first}
use Rattle.caf_treestep.specs.Step.{At, does_first, does_last, does_next, read_section, reads_section, seen, standing}
use Rattle.caf_treestep.specs.Stood.{Leaves}

pub last_of : (subs : List SubR) (clear : FenceClear) (s : StmtR) (f : StmtR-F StmtR) (t : Task) (m : ImageMemory) (r : Result Effect Memory) (u : Task) (n : ImageMemory) → s ≡ roll-StmtR f → out-StmtR s ≡ f
    → IfOk r (λ e. Leaves e (does_last subs clear f (standing (item.Does (roll-StmtR f)) t m)) u n) → IfOk r (λ e. Leaves e (does_last subs clear (out-StmtR s) (standing (item.Does s) t m)) u n)
last_of subs clear s f t m r u n rolled opened last =
    subst (λ g. IfOk r (λ e. Leaves e (does_last subs clear g (standing (item.Does s) t m)) u n)) (sym opened)
    (subst (λ x. IfOk r (λ e. Leaves e (does_last subs clear f (standing (item.Does x) t m)) u n)) (sym rolled) last)

abbrev found_or : {A : Type 0} → A → Option A → A
found_or d None = d
found_or d (Some x) = x

same_some : {A : Type 0} (x y : A) → Some x ≡ Some y → x ≡ y
same_some x y e = ap (found_or x) e

same_given : (found : Result Section Trap) (t : Task) (m : ImageMemory) (rest : List Todo) → reads_section found (record { task = t; memory = m; rest = rest }) ≡ reads_at_once found t m
same_given (Ok s) t m rest = refl
same_given (Err trap) t m rest = refl

-- a Step by the element that is read next
by_read : (subs : List SubR) (clear : FenceClear) (r : Option Read) (s : StmtR) (a : At) (found : Result Section Trap) → section_if r (seen a) a.memory ≡ Some found → does_next subs clear r (out-StmtR s) a ≡ reads_section found a
by_read subs clear None s a found is = absurd (none-some found is)
by_read subs clear (Some r) s a found is = ap (λ x. reads_section x a) (same_some (read_section r (seen a) a.memory) found is)

by_none : (subs : List SubR) (clear : FenceClear) (r : Option Read) (s : StmtR) (a : At) → section_if r (seen a) a.memory ≡ None → does_next subs clear r (out-StmtR s) a ≡ does_last subs clear (out-StmtR s) a
by_none subs clear None s a is = refl
by_none subs clear (Some r) s a is = absurd (none-some (read_section r (seen a) a.memory) (sym is))

from_start : (s : StmtR) (t : Task) (m : ImageMemory) → section_if (slice_get (reads_all (expressions s) 0) (length t.held)) (seen_in m t.frame.locals t.held) m ≡ next_read (reads_all (expressions s) 0) 0 (seen_in m t.frame.locals t.held) m
from_start s t m = let e : length t.held ≡ length t.held - 0 = omega arith in ap (λ k. section_if (slice_get (reads_all (expressions s) 0) k) (seen_in m t.frame.locals t.held) m) e

-- a task that waits for nothing reads an element
pub step_reads : (subs : List SubR) (clear : FenceClear) (todo : List Todo) (t : Task) (m : ImageMemory) (found : Result Section Trap) → read_first todo (seen_in m t.frame.locals t.held) m ≡ Some found → does_first todo subs clear t m ≡ reads_at_once found t m
step_reads subs clear [] t m found is = absurd (none-some found is)
step_reads subs clear (item.Does s ∷ rest) t m found is =
    by_read subs clear (slice_get (reads_all (expressions s) 0) (length t.held)) s (record { task = t; memory = m; rest = rest }) found (from_start s t m ∙ is) ∙ same_given found t m rest
step_reads subs clear (item.Turns v z n body ∷ rest) t m found is = absurd (none-some found is)
step_reads subs clear (item.Closes ∷ rest) t m found is = absurd (none-some found is)
step_reads subs clear (item.Returns outs ∷ rest) t m found is = absurd (none-some found is)
step_reads subs clear (item.Ends ∷ rest) t m found is = absurd (none-some found is)

-- a task that waits for nothing has nothing to read
pub step_unread : (subs : List SubR) (clear : FenceClear) (todo : List Todo) (t : Task) (m : ImageMemory) → read_first todo (seen_in m t.frame.locals t.held) m ≡ None → does_first todo subs clear t m ≡ unread_first todo subs clear t m
step_unread subs clear [] t m is = refl
step_unread subs clear (item.Does s ∷ rest) t m is =
    by_none subs clear (slice_get (reads_all (expressions s) 0) (length t.held)) s (record { task = t; memory = m; rest = rest }) (from_start s t m ∙ is)
step_unread subs clear (item.Turns v z n body ∷ rest) t m is = refl
step_unread subs clear (item.Closes ∷ rest) t m is = refl
step_unread subs clear (item.Returns outs ∷ rest) t m is = refl
step_unread subs clear (item.Ends ∷ rest) t m is = refl

-- the Step of what is next, where it stands on the list and where it was taken off
pub unread_is : (subs : List SubR) (clear : FenceClear) (t : Task) (m : ImageMemory) (next : Todo) (rest : List Todo) → t.frame.todo ≡ next ∷ rest
    → unread_first t.frame.todo subs clear t m ≡ does_unread subs clear next (standing next (record t { frame = record t.frame { todo = rest } }) m)
unread_is subs clear t m next rest todo =
    ap (λ l. unread_first l subs clear t m) todo
    ∙ ap (λ l. does_unread subs clear next (record { task = record t { frame = record t.frame { todo = l } }; memory = m; rest = rest })) todo
