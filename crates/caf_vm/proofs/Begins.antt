-- A task between Steps, in a code that keeps the rules.
use Rattle.std.proofs.Common.{◌≡◌, ℕ, length, Some, None, refl, ap, ◌∙◌}
use Rattle.caf_base.specs.ImageMemory.{ImageMemory}
use Rattle.caf_base.specs.declared.fence.FenceClear.{FenceClear}
use Rattle.caf_code.specs.Did.{Did, Goes, Stops, Blocks, Fails, Lacks}
use Rattle.caf_code.specs.Sound.{IsSoundTask, shape_of}
use Rattle.caf_code.specs.Step.{blocked_of, ended, exec, need_in, unless_waiting}
use Rattle.caf_code.specs.Task.{Task}
use Rattle.caf_code.specs.declared.listing.Listing.{Listing}
use Rattle.caf_vm.specs.Blocked.{need_of_did}
use Rattle.caf_vm.specs.Run.{InCode}

pub stands_in : (code : Listing) (images : ℕ) (t : Task) → IsSoundTask code images t → t.wait ≡ None → InCode code t
stands_in code images t sound none =
    let frame = sound.stands.frame in
    record {
      shapes = sound.shapes;
      shaped = sound.shaped;
      part = sound.stands.part;
      shape = shape_of None frame.finishes t.frame;
      stands = frame.stands ∙ ap (λ w. Some (shape_of w frame.finishes t.frame)) none;
      fits = record { cells = frame.cells; stack = refl; held = refl; loops = refl; listed = refl; outs = refl };
    }

need_ended : (code : Listing) (t : Task) (m : ImageMemory) (d : Did) → need_in (ended code t m d).effect ≡ need_of_did d
need_ended code t m (Goes u v) = refl
need_ended code t m (Stops e u v) = refl
need_ended code t m (Blocks n) = refl
need_ended code t m (Fails x v) = refl
need_ended code t m (Lacks v) = refl

pub blocks_in : (code : Listing) (clear : FenceClear) (t : Task) (m : ImageMemory) → t.wait ≡ None → blocked_of code clear t m ≡ need_of_did (exec code clear (length code.instrs) t m)
blocks_in code clear t m none =
    ap (λ w. need_in (unless_waiting w code clear t m).effect) none ∙ need_ended code t m (exec code clear (length code.instrs) t m)
