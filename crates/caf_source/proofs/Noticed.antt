-- A notice that is begun beside a change of the memory.
use Rattle.std.proofs.Common.{◌≡◌, ℕ, Bool, true, false, List, Option, Some, None, Result, Ok, Err, ap, refl, sym, ◌∙◌, IfOk, if◌then◌else◌}
use Rattle.caf_base.specs.declared.operation.EventAt.{EventAt}
use Rattle.caf_base.specs.declared.operation.OpSpec.TheVariants as spec
use Rattle.caf_base.specs.declared.team.FinishRef.{FinishRef}
use Rattle.caf_base.specs.declared.trap.Trap.{Trap}
use Rattle.caf_base.specs.declared.trap.Trap.TheVariants as trap
use Rattle.caf_base.specs.ImageMemory.{ImageMemory}
use Rattle.caf_pending.specs.declared.operation.Operation.{Operation}
use Rattle.caf_source.specs.Begun.{Noticed, is_spent, notice_of, operation_of, with_one_more}
use Rattle.caf_source.specs.declared.state.Image.{Image}

abbrev with_memory : ImageMemory → Result Noticed Trap → Result Noticed Trap
with_memory m (Err t) = Err t
with_memory m (Ok n) = Ok (record n { image = record n.image { memory = m } })

notice_with : (i : ℕ) (im : Image) (m : ImageMemory) (fs : List FinishRef) (t : ℕ) (e : Option EventAt) → notice_of i (record im { memory = m }) fs t e ≡ with_memory m (notice_of i im fs t e)
notice_with i im m fs t None = refl
notice_with i im m fs t (Some e) = go (is_spent im)
  where
    go : (b : Bool) → (if b then Err trap.Operations else Ok (record { image = with_one_more (record im { memory = m }); begun = Some (operation_of i im.operations (spec.Notice e) fs t) })) ≡ with_memory m (if b then Err trap.Operations else Ok (record { image = with_one_more im; begun = Some (operation_of i im.operations (spec.Notice e) fs t) }))
    go true = refl
    go false = refl

pub begun_with : (i : ℕ) (im x : Image) (m : ImageMemory) (fs : List FinishRef) (t : ℕ) (e : Option EventAt) (op : Option Operation)
    → notice_of i im fs t e ≡ Ok (record { image = x; begun = op }) → notice_of i (record im { memory = m }) fs t e ≡ Ok (record { image = record x { memory = m }; begun = op })
begun_with i im x m fs t e op is = notice_with i im m fs t e ∙ ap (with_memory m) is

pub trap_with : (i : ℕ) (im : Image) (m : ImageMemory) (fs : List FinishRef) (t : ℕ) (e : Option EventAt) (x : Trap)
    → notice_of i im fs t e ≡ Err x → notice_of i (record im { memory = m }) fs t e ≡ Err x
trap_with i im m fs t e x is = notice_with i im m fs t e ∙ ap (with_memory m) is

-- a notice leaves the memory as it is
pub notice_keeps : (i : ℕ) (im x : Image) (fs : List FinishRef) (t : ℕ) (e : Option EventAt) (op : Option Operation) → notice_of i im fs t e ≡ Ok (record { image = x; begun = op }) → x.memory ≡ im.memory
notice_keeps i im x fs t e op is = ap memory_in (sym is ∙ notice_with i im im.memory fs t e ∙ ap (with_memory im.memory) is)
  where
    memory_in : Result Noticed Trap → ImageMemory
    memory_in (Err t) = im.memory
    memory_in (Ok n) = n.image.memory

-- what holds of the memory holds of the memory after a notice
pub notice_memory : (i : ℕ) (im : Image) (fs : List FinishRef) (t : ℕ) (e : Option EventAt) (P : ImageMemory → Type 0) → P im.memory → IfOk (notice_of i im fs t e) (λ (n : Noticed). P n.image.memory)
notice_memory i im fs t None P holds = holds
notice_memory i im fs t (Some e) P holds = go (is_spent im)
  where
    go : (b : Bool) → IfOk (if b then Err trap.Operations else Ok (record { image = with_one_more im; begun = Some (operation_of i im.operations (spec.Notice e) fs t) })) (λ (n : Noticed). P n.image.memory)
    go true = tt
    go false = holds
