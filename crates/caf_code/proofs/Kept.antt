-- The tasks of a code that keeps the rules begin as ones that it can run, and stay so.
use Rattle.std.proofs.Common.{◌≡◌, ℕ, zero, suc, ◌+◌, true, false, List, [], length, map, Option, Some, None, ℤ, refl, sym, subst}
use Rattle.std.specs.Prelude.{is_some, slice_get}
use Rattle.caf_base.specs.ImageMemory.{ImageMemory}
use Rattle.caf_base.specs.declared.effect.Effect.{Effect}
use Rattle.caf_base.specs.declared.effect.Effect.TheVariants as effect
use Rattle.caf_base.specs.declared.fence.FenceClear.{FenceClear}
use Rattle.caf_base.specs.declared.operation.EventAt.{EventAt}
use Rattle.caf_code.specs.Did.{Did, Goes, Stops, Blocks, Fails, Lacks}
use Rattle.caf_code.specs.Kept.{KeepsSound, KeepsTask}
use Rattle.caf_code.specs.Rules.{AreShapes, KeepsRules, LeadOn, Shapes, goes_on}
use Rattle.caf_code.specs.Calls.{new_frame}
use Rattle.caf_code.specs.Shapes.{Main, Sub, Part, Shape, fewer_finishes, sort_of, way}
use Rattle.caf_code.specs.Sound.{is_wait, IsFrame, IsSound, IsSoundMemory, IsSoundTask, IsSoundTeam, StandsIn, at_close, awaits_operation, awaits_team, awaits_value, is_carried, shape_of}
use Rattle.caf_code.specs.Step.{answered, does, does_at, empty_frame, ended, exec, followed, go_of, left, main_task, parted, parted_memory, settled, settles, shipped_task, then_run, unless_waiting, with_held}
use Rattle.caf_code.specs.Task.{Frame, Task}
use Rattle.caf_code.specs.declared.instr.Instr.{Instr}
use Rattle.caf_code.specs.declared.instr.Instr.TheVariants as instr
use Rattle.caf_code.specs.declared.listing.Listing.{Listing}
use Rattle.caf_code.specs.declared.listing.SubCode.{SubCode}
use Rattle.caf_code.specs.declared.task.Wait.{Wait}
use Rattle.caf_code.specs.declared.task.Wait.TheVariants as wait
use Rattle.caf_base.specs.declared.team.Team.{Team}
use Rattle.caf_code.proofs.Memory.{IsMemoryOf, Leaves, row_memory, start_sound, team_sound}
use Rattle.caf_code.proofs.Rows.{Mid, Onward, Over, length_snoc, new_cells}
use Rattle.caf_code.proofs.Steps.{free_mid, row_at}
use Rattle.caf_code.proofs.Whole.{Fine}

-- a frame at an address is one at where its `go` leads
go_frame : (code : Listing) (shapes : Shapes) (shaped : AreShapes code shapes) (p : Part) (w : Option Wait) (f : Frame) (n a : ℕ)
    (after : (b : ℕ) → IsFrame code shapes p b w f → IsFrame code shapes p (settled code.instrs n b) w f) (o : Option Instr) → slice_get code.instrs a ≡ o
    → IsFrame code shapes p a w f → IsFrame code shapes p (followed (go_of o) a (settled code.instrs n)) w f
go_frame code shapes shaped p w f n a after None at frame = frame
go_frame code shapes shaped p w f n a after (Some (instr.Go b)) at frame =
    after b (record { finishes = frame.finishes; stands = (shaped.leading p a (shape_of w frame.finishes f) (instr.Go b) frame.stands at).0; cells = frame.cells; listed = frame.listed; targets = frame.targets })
go_frame code shapes shaped p w f n a after (Some _) at frame = frame

settled_frame : (code : Listing) (shapes : Shapes) (shaped : AreShapes code shapes) (p : Part) (w : Option Wait) (f : Frame) (n a : ℕ) → IsFrame code shapes p a w f → IsFrame code shapes p (settled code.instrs n a) w f
settled_frame code shapes shaped p w f zero a frame = frame
settled_frame code shapes shaped p w f (suc n) a frame = go_frame code shapes shaped p w f n a (settled_frame code shapes shaped p w f n) (slice_get code.instrs a) refl frame

settled_stands : (code : Listing) (shapes : Shapes) (shaped : AreShapes code shapes) (images : ℕ) (t : Task) → StandsIn code shapes images t → StandsIn code shapes images (settles code t)
settled_stands code shapes shaped images t stands = record {
  part = stands.part;
  frame = settled_frame code shapes shaped stands.part t.wait t.frame (length code.instrs) t.address stands.frame;
  calls = stands.calls;
  wait = stands.wait;
  done = stands.done;
}

-- a Step that is over leaves a task that stands in the code
abbrev Left : Listing → Shapes → ℕ → Did → Type 0
Left code shapes images (Stops e t m) = Over code shapes images e t
Left code shapes images _ = Unit {0}

then_left : (code : Listing) (shapes : Shapes) (images : ℕ) (p : Part) (next : Option ℕ) (d : Did) (go : Task → ImageMemory → Did)
    → Fine (Onward code shapes images p next) (Over code shapes images) d → ((t : Task) (m : ImageMemory) → Mid code shapes images p t → Left code shapes images (go t m)) → Left code shapes images (then_run d go)
then_left code shapes images p next (Goes t m) go fine after = after t m fine.0
then_left code shapes images p next (Stops e t m) go fine after = fine
then_left code shapes images p next (Blocks n) go fine after = tt
then_left code shapes images p next (Fails trap m) go fine after = tt
then_left code shapes images p next (Lacks m) go fine after = tt

at_left : (code : Listing) (keeps : KeepsRules code) (shapes : Shapes) (shaped : AreShapes code shapes) (clear : FenceClear) (images : ℕ) (p : Part) (n : ℕ)
    (after : (t : Task) (m : ImageMemory) → Mid code shapes images p t → Left code shapes images (exec code clear n t m))
    (t : Task) (m : ImageMemory) (o : Option Instr) → slice_get code.instrs t.address ≡ o → Mid code shapes images p t → Left code shapes images (then_run (does_at code clear o t m) (exec code clear n))
at_left code keeps shapes shaped clear images p n after t m None at mid = tt
at_left code keeps shapes shaped clear images p n after t m (Some i) at mid =
    then_left code shapes images p (goes_on t.address i) (does code clear i t m) (exec code clear n) (row_at code keeps shapes shaped clear images p t m mid i at) after

exec_left : (code : Listing) (keeps : KeepsRules code) (shapes : Shapes) (shaped : AreShapes code shapes) (clear : FenceClear) (images : ℕ) (p : Part) (n : ℕ) (t : Task) (m : ImageMemory)
    → Mid code shapes images p t → Left code shapes images (exec code clear n t m)
exec_left code keeps shapes shaped clear images p zero t m mid = tt
exec_left code keeps shapes shaped clear images p (suc n) t m mid =
    at_left code keeps shapes shaped clear images p n (exec_left code keeps shapes shaped clear images p n) t m (slice_get code.instrs t.address) refl mid

-- what follows of the task that is left
keeps_map : (e : Effect) (X Y : Type 0) → (X → Y) → KeepsTask e X → KeepsTask e Y
keeps_map (effect.Ends event) X Y f kept = tt
keeps_map (effect.Traps trap) X Y f kept = tt
keeps_map _ X Y f kept = f kept

ended_kept : (code : Listing) (shapes : Shapes) (shaped : AreShapes code shapes) (images : ℕ) (t : Task) (m : ImageMemory) (d : Did) → IsSoundTask code images t → Left code shapes images d
    → KeepsTask (ended code t m d).effect (IsSoundTask code images (ended code t m d).task)
ended_kept code shapes shaped images t m (Stops e t' m') sound left =
    keeps_map e (StandsIn code shapes images t') (IsSoundTask code images (settles code t')) (λ stands. record { shapes = shapes; shaped = shaped; stands = settled_stands code shapes shaped images t' stands }) left
ended_kept code shapes shaped images t m (Blocks n) sound left = sound
ended_kept code shapes shaped images t m (Fails trap m') sound left = tt
ended_kept code shapes shaped images t m (Goes t' m') sound left = tt
ended_kept code shapes shaped images t m (Lacks m') sound left = tt

waiting_kept : (code : Listing) (keeps : KeepsRules code) (clear : FenceClear) (images : ℕ) (t : Task) (m : ImageMemory) (w : Option Wait) → t.wait ≡ w → IsSoundTask code images t
    → KeepsTask (unless_waiting w code clear t m).effect (IsSoundTask code images (unless_waiting w code clear t m).task)
waiting_kept code keeps clear images t m (Some w) is sound = sound
waiting_kept code keeps clear images t m None is sound =
    ended_kept code sound.shapes sound.shaped images t m (exec code clear (length code.instrs) t m) sound
    (exec_left code keeps sound.shapes sound.shaped clear images sound.stands.part (length code.instrs) t m (free_mid code sound.shapes images t sound.stands is))

-- the same task with another wait, and other values held
answered_frame : (code : Listing) (shapes : Shapes) (p : Part) (a : ℕ) (w : Option Wait) (f : Frame) (value : Option ℤ) → awaits_operation w ≡ true → is_some value ≡ awaits_value w
    → IsFrame code shapes p a w f → IsFrame code shapes p a None (record f { held = with_held value f.held })
answered_frame code shapes p a None f value operation given frame = let e : false ≡ true = operation in absurd (cc)
answered_frame code shapes p a (Some wait.Value) f None operation given frame = let e : false ≡ true = given in absurd (cc)
answered_frame code shapes p a (Some wait.Value) f (Some z) operation given frame =
    let h : ℕ → Shape = λ n. record { stack = length f.stack; held = n; loops = length f.loops; listed = map sort_of f.listed; outs = length f.outs; finishes = frame.finishes } in
    record { finishes = frame.finishes; stands = subst (λ n. shapes p a ≡ Some (h n)) (sym (length_snoc f.held z)) frame.stands; cells = frame.cells; listed = frame.listed; targets = frame.targets }
answered_frame code shapes p a (Some wait.Written) f None operation given frame = record { finishes = frame.finishes; stands = frame.stands; cells = frame.cells; listed = frame.listed; targets = frame.targets }
answered_frame code shapes p a (Some wait.Written) f (Some z) operation given frame = let e : true ≡ false = given in absurd (cc)
answered_frame code shapes p a (Some (wait.NewTeam o)) f value operation given frame = let e : false ≡ true = operation in absurd (cc)

answered_sound : (code : Listing) (images : ℕ) (t : Task) (value : Option ℤ) → IsSoundTask code images t → awaits_operation t.wait ≡ true → is_some value ≡ awaits_value t.wait → IsSoundTask code images (answered value t)
answered_sound code images t value sound operation given = record {
  shapes = sound.shapes;
  shaped = sound.shaped;
  stands = record {
    part = sound.stands.part;
    frame = answered_frame code sound.shapes sound.stands.part t.address t.wait t.frame value operation given sound.stands.frame;
    calls = sound.stands.calls;
    wait = refl;
    done = sound.stands.done;
  };
}

parted_frame : (code : Listing) (shapes : Shapes) (p : Part) (a : ℕ) (w : Option Wait) (f : Frame) → awaits_team w ≡ true → IsFrame code shapes p a w f → IsFrame code shapes p a None f
parted_frame code shapes p a None f team frame = let e : false ≡ true = team in absurd (cc)
parted_frame code shapes p a (Some wait.Value) f team frame = let e : false ≡ true = team in absurd (cc)
parted_frame code shapes p a (Some wait.Written) f team frame = let e : false ≡ true = team in absurd (cc)
parted_frame code shapes p a (Some (wait.NewTeam o)) f team frame = record { finishes = frame.finishes; stands = frame.stands; cells = frame.cells; listed = frame.listed; targets = frame.targets }

parted_sound : (code : Listing) (images : ℕ) (t : Task) → IsSoundTask code images t → awaits_team t.wait ≡ true → IsSoundTask code images (parted t)
parted_sound code images t sound team = record {
  shapes = sound.shapes;
  shaped = sound.shaped;
  stands = record {
    part = sound.stands.part;
    frame = parted_frame code sound.shapes sound.stands.part t.address t.wait t.frame team sound.stands.frame;
    calls = sound.stands.calls;
    wait = refl;
    done = sound.stands.done;
  };
}

-- a task at a `close` waits for nothing
close_free : (w : Option Wait) (o : Option Instr) → at_close w o ≡ true → w ≡ None
close_free None o at = refl
close_free (Some w) o at = let e : false ≡ true = at in absurd (cc)

close_there : (w : Option Wait) (o : Option Instr) → at_close w o ≡ true → o ≡ Some instr.Close
close_there (Some w) o at = let e : false ≡ true = at in absurd (cc)
close_there None (Some instr.Close) at = refl
close_there None _ at = let e : false ≡ true = at in absurd (cc)

-- behind a `close` one finish less is open
closed : (code : Listing) (shapes : Shapes) (p : Part) (a : ℕ) (f : Frame) → IsFrame code shapes p a None f → (n : ℕ) → LeadOn shapes p (way (a + 1) (fewer_finishes n (shape_of None n f))) → IsFrame code shapes p (a + 1) None f
closed code shapes p a f frame zero lead = absurd lead
closed code shapes p a f frame (suc n) lead = record { finishes = n; stands = lead.0; cells = frame.cells; listed = frame.listed; targets = frame.targets }

left_sound : (code : Listing) (images : ℕ) (t : Task) → IsSoundTask code images t → at_close t.wait (slice_get code.instrs t.address) ≡ true → IsSoundTask code images (left code t)
left_sound code images t sound at =
    let p = sound.stands.part in
    let free : t.wait ≡ None = close_free t.wait (slice_get code.instrs t.address) at in
    let frame : IsFrame code sound.shapes p t.address None t.frame = subst (λ w. IsFrame code sound.shapes p t.address w t.frame) free sound.stands.frame in
    let behind : IsFrame code sound.shapes p (t.address + 1) None t.frame =
    closed code sound.shapes p t.address t.frame frame frame.finishes
    (sound.shaped.leading p t.address (shape_of None frame.finishes t.frame) instr.Close frame.stands (close_there t.wait (slice_get code.instrs t.address) at)) in
    record {
      shapes = sound.shapes;
      shaped = sound.shaped;
      stands = settled_stands code sound.shapes sound.shaped images (record t { address = t.address + 1 }) (record {
        part = p;
        frame = subst (λ w. IsFrame code sound.shapes p (t.address + 1) w t.frame) (sym free) behind;
        calls = sound.stands.calls;
        wait = sound.stands.wait;
        done = sound.stands.done;
      });
    }

main_sound : (code : Listing) → KeepsRules code → (images : ℕ) → IsSoundTask code images (main_task code)
main_sound code keeps images = record {
  shapes = keeps.shapes;
  shaped = keeps.shaped;
  stands = settled_stands code keeps.shapes keeps.shaped images (record { address = 0; frame = empty_frame; calls = []; parts = []; wait = None; done = None }) (record {
    part = Main;
    frame = record { finishes = 1; stands = keeps.shaped.main; cells = refl; listed = refl; targets = refl };
    calls = tt;
    wait = refl;
    done = refl;
  });
}

shipped_sound : (code : Listing) → KeepsRules code → (images f : ℕ) (sub : SubCode) (arguments : List ℤ) (event : Option EventAt) → slice_get code.subs f ≡ Some sub → length arguments ≡ length sub.dummies → is_carried code images event ≡ true
    → IsSoundTask code images (shipped_task code sub arguments event)
shipped_sound code keeps images f sub arguments event named given carried = record {
  shapes = keeps.shapes;
  shaped = keeps.shaped;
  stands = settled_stands code keeps.shapes keeps.shaped images (record { address = sub.address; frame = new_frame sub arguments; calls = []; parts = []; wait = None; done = event }) (record {
    part = Sub f;
    frame = record { finishes = 0; stands = keeps.shaped.subs f sub named; cells = new_cells code f sub arguments named given; listed = refl; targets = refl };
    calls = tt;
    wait = refl;
    done = carried;
  });
}

-- the memory that a Step leaves
then_memory : (code : Listing) (here all : ℕ) (shapes : Shapes) (images : ℕ) (p : Part) (next : Option ℕ) (d : Did) (go : Task → ImageMemory → Did)
    → Fine (Onward code shapes images p next) (Over code shapes images) d → Leaves code here all d → ((t : Task) (m : ImageMemory) → Mid code shapes images p t → IsMemoryOf code here all m → Leaves code here all (go t m)) → Leaves code here all (then_run d go)
then_memory code here all shapes images p next (Goes t m) go fine leaves after = after t m fine.0 leaves
then_memory code here all shapes images p next (Stops e t m) go fine leaves after = leaves
then_memory code here all shapes images p next (Blocks n) go fine leaves after = tt
then_memory code here all shapes images p next (Fails trap m) go fine leaves after = leaves
then_memory code here all shapes images p next (Lacks m) go fine leaves after = leaves

at_memory : (code : Listing) (here all : ℕ) (keeps : KeepsRules code) (shapes : Shapes) (shaped : AreShapes code shapes) (clear : FenceClear) (images : ℕ) (p : Part) (n : ℕ)
    (after : (t : Task) (m : ImageMemory) → Mid code shapes images p t → IsMemoryOf code here all m → Leaves code here all (exec code clear n t m))
    (t : Task) (m : ImageMemory) (o : Option Instr) → slice_get code.instrs t.address ≡ o → Mid code shapes images p t → IsMemoryOf code here all m → Leaves code here all (then_run (does_at code clear o t m) (exec code clear n))
at_memory code here all keeps shapes shaped clear images p n after t m None at mid sound = sound
at_memory code here all keeps shapes shaped clear images p n after t m (Some i) at mid sound =
    then_memory code here all shapes images p (goes_on t.address i) (does code clear i t m) (exec code clear n) (row_at code keeps shapes shaped clear images p t m mid i at)
    (row_memory code here all clear i t m sound (keeps.instrs t.address i at).operands mid.frame.listed) after

exec_memory : (code : Listing) (here all : ℕ) (keeps : KeepsRules code) (shapes : Shapes) (shaped : AreShapes code shapes) (clear : FenceClear) (images : ℕ) (p : Part) (n : ℕ) (t : Task) (m : ImageMemory)
    → Mid code shapes images p t → IsMemoryOf code here all m → Leaves code here all (exec code clear n t m)
exec_memory code here all keeps shapes shaped clear images p zero t m mid sound = sound
exec_memory code here all keeps shapes shaped clear images p (suc n) t m mid sound =
    at_memory code here all keeps shapes shaped clear images p n (exec_memory code here all keeps shapes shaped clear images p n) t m (slice_get code.instrs t.address) refl mid sound

ended_memory : (code : Listing) (here all : ℕ) (t : Task) (m : ImageMemory) (d : Did) → IsMemoryOf code here all m → Leaves code here all d → IsMemoryOf code here all (ended code t m d).memory
ended_memory code here all t m (Stops e t' m') sound leaves = leaves
ended_memory code here all t m (Blocks n) sound leaves = sound
ended_memory code here all t m (Fails trap m') sound leaves = leaves
ended_memory code here all t m (Goes t' m') sound leaves = leaves
ended_memory code here all t m (Lacks m') sound leaves = leaves

-- it is the same image's, among as many
of_itself : (code : Listing) (m : ImageMemory) → IsSoundMemory code m → IsMemoryOf code m.image m.images m
of_itself code m sound = record { sound = sound; image = refl; images = refl }

waiting_memory : (code : Listing) (keeps : KeepsRules code) (clear : FenceClear) (t : Task) (m : ImageMemory) (w : Option Wait) → t.wait ≡ w → IsSound code t m → IsMemoryOf code m.image m.images (unless_waiting w code clear t m).memory
waiting_memory code keeps clear t m (Some w) is sound = of_itself code m sound.memory
waiting_memory code keeps clear t m None is sound =
    ended_memory code m.image m.images t m (exec code clear (length code.instrs) t m) (of_itself code m sound.memory)
    (exec_memory code m.image m.images keeps sound.task.shapes sound.task.shaped clear m.images sound.task.stands.part (length code.instrs) t m (free_mid code sound.task.shapes m.images t sound.task.stands is) (of_itself code m sound.memory))

parted_memory_sound : (code : Listing) (m : ImageMemory) (w : Option Wait) (new : Team) → is_wait code w ≡ true → IsSoundMemory code m → IsSoundTeam m.image m.images new → IsSoundMemory code (parted_memory w new m)
parted_memory_sound code m None new named sound good = sound
parted_memory_sound code m (Some wait.Value) new named sound good = sound
parted_memory_sound code m (Some wait.Written) new named sound good = sound
parted_memory_sound code m (Some (wait.NewTeam o)) new named sound good = team_sound code m o new sound named good

pub keeps_sound : (code : Listing) → KeepsRules code → KeepsSound code
keeps_sound code keeps = record {
  main = main_sound code keeps;
  shipped = shipped_sound code keeps;
  ran = λ clear images t m sound. waiting_kept code keeps clear images t m t.wait refl sound;
  answers = answered_sound code;
  leaves = left_sound code;
  parts = parted_sound code;
  begins = start_sound code;
  memory = λ clear t m sound. (waiting_memory code keeps clear t m t.wait refl sound).sound;
  image = λ clear t m sound. (waiting_memory code keeps clear t m t.wait refl sound).image;
  images = λ clear t m sound. (waiting_memory code keeps clear t m t.wait refl sound).images;
  team = λ t m new sound good. parted_memory_sound code m t.wait new sound.task.stands.wait sound.memory good;
}
