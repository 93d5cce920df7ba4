-- What one instruction does, and how it takes its operands.
use Rattle.std.specs.Prelude.{ℕ, ◌+◌, List, [], ◌∷◌, length, take, drop, reverse, nat_le, Option, Some, None, Result, Ok, Err, ℤ, if◌then◌else◌}
use Rattle.caf_base.specs.Arithmetic.{Answer}
use Rattle.caf_base.specs.ImageMemory.{ImageMemory}
use Rattle.caf_base.specs.declared.effect.Effect.{Effect}
use Rattle.caf_base.specs.declared.effect.Need.{Need}
use Rattle.caf_base.specs.declared.place.Place.{Place}
use Rattle.caf_base.specs.declared.place.Place.TheVariants as place
use Rattle.caf_base.specs.declared.trap.Trap.{Trap}
use Rattle.caf_code.specs.Task.{Task, past, ends_at}
use Rattle.caf_code.specs.declared.instr.PlaceForm.{PlaceForm}
use Rattle.caf_code.specs.declared.instr.PlaceForm.TheVariants as at
use Rattle.caf_code.specs.declared.task.Loop.{Loop}

pub data Did : Type 0 where
  -- the Step isn't over
  Goes : Task → ImageMemory → Did
  -- the Step is over, with this effect
  Stops : Effect → Task → ImageMemory → Did
  -- the task can't go on, and nothing changes
  Blocks : Need → Did
  -- a trap, and what the Step left of the memory
  Fails : Trap → ImageMemory → Did
  -- an operand is missing, which doesn't come in a code that keeps the rules
  Lacks : ImageMemory → Did

-- past the instruction with a number more on these operands, or the trap
abbrev pub answers : Answer → ℕ → List ℤ → Task → ImageMemory → Did
answers (Err trap) n stack t m = Fails trap m
answers (Ok z) n stack t m = Goes (past n (z ∷ stack) t) m

-- the end of a Step at a marked instruction that leaves these operands
abbrev pub stops : Effect → List ℤ → Task → ImageMemory → Did
stops e stack t m = Stops e (ends_at (t.address + 1) stack t) m

-- goes on with what was found, or traps
abbrev pub found : {A : Type 0} → Result A Trap → ImageMemory → (A → Did) → Did
found (Err trap) m go = Fails trap m
found (Ok a) m go = go a

-- goes on with what is there
abbrev pub there : {A : Type 0} → Option A → ImageMemory → (A → Did) → Did
there None m go = Lacks m
there (Some a) m go = go a

-- pops a number
abbrev pub on_one : List ℤ → ImageMemory → (ℤ → List ℤ → Did) → Did
on_one [] m go = Lacks m
on_one (x ∷ rest) m go = go x rest

-- pops two numbers, the second first
abbrev pub on_two : List ℤ → ImageMemory → (ℤ → ℤ → List ℤ → Did) → Did
on_two [] m go = Lacks m
on_two (y ∷ []) m go = Lacks m
on_two (y ∷ x ∷ rest) m go = go x y rest

-- pops three numbers, the third first
abbrev pub on_three : List ℤ → ImageMemory → (ℤ → ℤ → ℤ → List ℤ → Did) → Did
on_three [] m go = Lacks m
on_three (z ∷ []) m go = Lacks m
on_three (z ∷ y ∷ []) m go = Lacks m
on_three (z ∷ y ∷ x ∷ rest) m go = go x y z rest

-- pops so many arguments, the last one first
abbrev pub on_arguments : ℕ → List ℤ → ImageMemory → (List ℤ → List ℤ → Did) → Did
on_arguments n stack m go = if nat_le n (length stack) then go (reverse (take n stack)) (drop n stack) else Lacks m

-- pops the rank of a place, if it has one
abbrev pub on_place : PlaceForm → List ℤ → ImageMemory → (Place → List ℤ → Did) → Did
on_place at.Own stack m go = go place.Own stack
on_place at.World stack m go = on_one stack m (λ rank rest. go (place.World rank) rest)
on_place (at.Of o) stack m go = on_one stack m (λ rank rest. go (place.Of o rank) rest)

-- the innermost loop
abbrev pub on_loop : List Loop → ImageMemory → (Loop → List Loop → Did) → Did
on_loop [] m go = Lacks m
on_loop (l ∷ rest) m go = go l rest
