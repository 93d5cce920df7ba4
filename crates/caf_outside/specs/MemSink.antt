-- A sink in memory: what it has taken, and what its next write answers.
use Rattle.std.specs.Prelude.{◌≡◌, ℕ, ◌-◌, ◌^◌, ◌+◌, min, Bool, ◌&&◌, ◌||◌, List, [], length, nat_eq, nat_lt, nat_le, Result, Ok, Err, if◌then◌else◌}
use Rattle.std.specs.List.{list_any}
use Rattle.caf_outside.specs.declared.fault.Failed.{Failed}
use Rattle.caf_outside.specs.declared.mem_sink.MemSink.{MemSink}

-- whether the call with this place, from 0, is to fail
abbrev pub is_to_fail : List ℕ → ℕ → Bool
is_to_fail failing call = list_any (λ place. nat_eq place call) failing

abbrev pub taken_of : MemSink → List ℕ
taken_of sink = sink.taken.items

abbrev pub faults_of : MemSink → ℕ
faults_of sink = sink.faults

-- a new sink: nothing taken, no fault, no call
pub record IsEmptySink (failing : List ℕ) (piece room : ℕ) (sink : MemSink) : Type 0 where
  pub taken : taken_of sink ≡ []
  pub faults : faults_of sink ≡ 0
  pub calls : sink.calls ≡ 0
  pub failing_at : sink.failing.items ≡ failing
  pub most : sink.piece ≡ piece
  pub room_in_all : sink.room ≡ room

-- what a write of this many bytes answers: it fails at the chosen calls, and where nothing of some bytes fits
abbrev pub written : MemSink → ℕ → Result ℕ Failed
written sink count =
    if is_to_fail sink.failing.items sink.calls || (nat_lt 0 count && nat_le sink.room (length (taken_of sink))) then Err (record {}) else Ok (min (min count sink.piece) (sink.room - length (taken_of sink)))

-- one call more, and the same plan
pub record OnlyGrows (old new : MemSink) : Type 0 where
  pub calls : new.calls ≡ min (old.calls + 1) (2 ^ 64 - 1)
  pub failing_at : new.failing.items ≡ old.failing.items
  pub most : new.piece ≡ old.piece
  pub room_in_all : new.room ≡ old.room
