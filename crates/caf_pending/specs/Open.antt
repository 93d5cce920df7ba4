-- The accesses to their own images that implicit copies still have to make, counted by task.
use Rattle.std.specs.Prelude.{ℕ, ◌<◌, Bool, true, false, not, ◌&&◌, nat_eq, Option, Some, None, cond}
use Rattle.indexmap.specs.IndexMap.{get, spare}
use Rattle.caf_base.specs.declared.fence.FenceClear.{FenceClear}
use Rattle.caf_base.specs.Operations.{is_implicit}
use Rattle.caf_pending.specs.declared.access.Accesses.{Accesses}
use Rattle.caf_pending.specs.declared.open.Open.{Open}
use Rattle.caf_pending.specs.declared.operation.Operation.{Operation}
use Rattle.caf_pending.specs.declared.tally.Tally.{Tally}
use Rattle.caf_pending.specs.Pending.{reads_here, writes_here}

abbrev pub same_key : ℕ × ℕ → ℕ × ℕ → Bool
same_key a b = nat_eq a.0 b.0 && nat_eq a.1 b.1

abbrev pub or_none : Option ℕ → ℕ
or_none None = 0
or_none (Some n) = n

-- how many there are under a key
abbrev pub counted : Tally → ℕ × ℕ → ℕ
counted tally key = or_none (get same_key tally.counts key)

abbrev pub one : Bool → ℕ
one true = 1
one false = 0

-- one under a key, and none under others
abbrev pub one_at : ℕ × ℕ → ℕ × ℕ → ℕ
one_at key k = one (same_key key k)

-- the same, if there is one at all
abbrev pub one_if : Bool → ℕ × ℕ → ℕ × ℕ → ℕ
one_if there key k = one (there && same_key key k)

abbrev pub reads_of : Open → ℕ × ℕ → ℕ
reads_of open_now k = counted open_now.reads k

abbrev pub writes_of : Open → ℕ × ℕ → ℕ
writes_of open_now k = counted open_now.writes k

-- there is room for one more task
abbrev pub HasRoom : Open → Type 0
HasRoom open_now = (0 < spare open_now.reads.counts) × (0 < spare open_now.writes.counts)

-- what a fence learns of a task
abbrev pub none_open : Open → ℕ × ℕ → FenceClear
none_open open_now k = record { reads = nat_eq (reads_of open_now k) 0; writes = nat_eq (writes_of open_now k) 0 }

-- what an operation still has to do at the image that began it
abbrev pub accesses_of : Operation → Accesses
accesses_of op = record {
  reads = is_implicit op.spec && reads_here op.name.image op.spec op.stages;
  writes = is_implicit op.spec && writes_here op.name.image op.spec op.stages;
}

-- what was open and isn't any more
abbrev pub closed : Accesses → Accesses → Accesses
closed before after = record { reads = before.reads && not after.reads; writes = before.writes && not after.writes }
