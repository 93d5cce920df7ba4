-- Dummies that are copied out one after another.
use Rattle.std.proofs.Common.{◌≡◌, ℕ, ◌+◌, ◌<◌, List, drop, get_or, length, Err, ap, sym, ◌∙◌, ℤ, pos}
use Rattle.std.proofs.lemmas.List.{drop_more}
use Rattle.std.specs.Prelude.{slice_index_or}
use Rattle.caf_base.specs.ImageMemory.{ImageMemory}
use Rattle.caf_code.specs.Calls.{copies_out, copies_to}
use Rattle.caf_code.specs.Did.{Did}
use Rattle.caf_code.specs.Task.{Frame}
use Rattle.caf_code.specs.declared.task.CopyOut.{CopyOut}
use Rattle.caf_vm.specs.Calls.{CopiedOne, CopiedOut}
use Rattle.caf_vm.specs.declared.draft.CellWrite.{CellWrite}
use Rattle.caf_vm.specs.declared.stop.Stop.{Stop}
use Rattle.caf_vm.specs.declared.stop.Stop.TheVariants as stop

-- what comes behind a dummy
abbrev pub behind : List CopyOut → ℕ → List ℤ → (Frame → ImageMemory → Did) → Frame → ImageMemory → Did
behind outs k cells go f m = copies_out (drop (k + 1) outs) cells f m go

-- a dummy, and then what comes behind it
pub one_more : (outs : List CopyOut) (k : ℕ) (d : CopyOut) (cells here : List ℤ) (z : ℤ) (f : Frame) (m : ImageMemory) (go : Frame → ImageMemory → Did) → k < length outs → z ≡ slice_index_or here (get_or outs k d).cell (pos 0) → here ≡ cells
    → copies_out (drop k outs) cells f m go ≡ copies_to (get_or outs k d).target z f m (behind outs k cells go)
one_more outs k d cells here z f m go within value same =
    ap (λ xs. copies_out xs cells f m go) (drop_more outs k d within) ∙ ap (λ x. copies_to (get_or outs k d).target x f m (behind outs k cells go)) (sym (value ∙ ap (λ xs. slice_index_or xs (get_or outs k d).cell (pos 0)) same))

-- a trap among them is the trap of all
pub fails : (s : Stop) (whole one : Did) (f : Frame) (writes : List CellWrite) (go next : Frame → ImageMemory → Did) (m : ImageMemory) → whole ≡ one → CopiedOne (Err s) one f writes next m → CopiedOut (Err s) whole f go m
fails (stop.Trap x) whole one f writes go next m e h = e ∙ h
fails stop.Memory whole one f writes go next m e h = tt
