-- A host in memory: what it holds, and what its next load and save answer.
use Rattle.std.specs.Prelude.{◌≡◌, ℕ, ◌+◌, ◌-◌, ◌^◌, min, Bool, ◌&&◌, not, List, [], ◌∷◌, ◌++◌, length, vec_len, nat_le, nat_lt, Option, Some, None, Result, Ok, Err, Vec, if◌then◌else◌}
use Rattle.std.specs.Global.{Global}
use Rattle.caf_outside.specs.Texts.{Texts}
use Rattle.caf_outside.specs.Held.{text_of}
use Rattle.caf_outside.specs.MemSink.{is_to_fail}
use Rattle.caf_outside.specs.declared.fault.LoadFail.{LoadFail}
use Rattle.caf_outside.specs.declared.fault.LoadFail.TheVariants as fail
use Rattle.caf_outside.specs.declared.mem_host.MemHost.{MemHost}

abbrev pub mem_texts : MemHost → Texts
mem_texts host = text_of host.held.items

-- the names of the loads that failed, and the number of saves that did
abbrev pub failed_loads : MemHost → List (List ℕ)
failed_loads host = host.failed.items

abbrev pub failed_saves : MemHost → ℕ
failed_saves host = host.save_faults

-- how many more saves there is room for
abbrev pub saves_left : MemHost → ℕ
saves_left host = vec_len host.spare

-- whether the next call of `load` or `save` is one of those that are to fail
abbrev pub is_next_to_fail : MemHost → Bool
is_next_to_fail host = is_to_fail host.failing.items host.calls

-- a new host: it holds nothing, no call was made, and none failed
pub record IsEmptyHost (failing : List ℕ) (saves room : ℕ) (host : MemHost) : Type 0 where
  pub held : host.held.items ≡ []
  pub loads : failed_loads host ≡ []
  pub faults : failed_saves host ≡ 0
  pub calls : host.calls ≡ 0
  pub failing_at : host.failing.items ≡ failing
  pub saves_to_come : saves_left host ≡ saves
  pub room_of_each : host.room ≡ room

-- one call more, and the same plan
pub record KeepsPlan (old new : MemHost) : Type 0 where
  pub calls : new.calls ≡ min (old.calls + 1) (2 ^ 64 - 1)
  pub failing_at : new.failing.items ≡ old.failing.items
  pub room_of_each : new.room ≡ old.room

-- nothing but the texts changes
pub record ChangesTextsAlone (old new : MemHost) : Type 0 where
  pub loads : failed_loads new ≡ failed_loads old
  pub faults : failed_saves new ≡ failed_saves old
  pub calls : new.calls ≡ old.calls
  pub failing_at : new.failing.items ≡ old.failing.items
  pub saves_to_come : saves_left new ≡ saves_left old
  pub room_of_each : new.room ≡ old.room

-- the text within the limit
abbrev pub limited : ℕ → Option (List ℕ) → Result (List ℕ) LoadFail
limited limit None = Err fail.Failed
limited limit (Some bytes) = if nat_lt limit (length bytes) then Err fail.TooLong else Ok bytes

-- what the next load answers, where memory is found
abbrev pub loaded : MemHost → List ℕ → ℕ → Result (List ℕ) LoadFail
loaded host name limit = if is_next_to_fail host then Err fail.Failed else limited limit (mem_texts host name)

-- the answer is this, or want of memory
abbrev pub Answers : Result (List ℕ) LoadFail → Result (Vec ℕ Global) LoadFail → Type 0
Answers due (Ok bytes) = due ≡ Ok bytes.items
Answers due (Err fail.Failed) = due ≡ Err fail.Failed
Answers due (Err fail.TooLong) = due ≡ Err fail.TooLong
Answers due (Err fail.Memory) = Unit {0}

-- the failed loads after one more answer
abbrev pub failed_after : List (List ℕ) → List ℕ → Result (Vec ℕ Global) LoadFail → List (List ℕ)
failed_after names name (Ok bytes) = names
failed_after names name (Err fail.Failed) = names ++ name ∷ []
failed_after names name (Err fail.TooLong) = names
failed_after names name (Err fail.Memory) = names

-- whether the next save succeeds: it isn't to fail, and there is room
abbrev pub can_save : MemHost → List ℕ → List ℕ → Bool
can_save host name bytes = not (is_next_to_fail host) && nat_lt 0 (saves_left host) && nat_le (length name + length bytes) host.room
