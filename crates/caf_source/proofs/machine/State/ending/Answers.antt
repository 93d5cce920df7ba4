use Rattle.std.proofs.Common.{◌≡◌, ◌∙◌, List, ap}
use Rattle.caf_program.specs.declared.program.Program.{Program}
use Rattle.caf_source.specs.declared.state.Image.{Image}
use Rattle.caf_source.specs.Kept.{Kept}
use Rattle.caf_source.specs.Stepping.{of_images}
use Rattle.caf_source.proofs.Defined.{ReadsAreHeld}
use Rattle.caf_source.proofs.Standing.{stands_led}
use Rattle.caf_source.proofs.machine.State.ending.Goals as goal

pub returns : goal.returns
returns c =
    let law : ReadsAreHeld = record { listed = c.each_held_value_has_its_read.ensures.listed; past = c.each_held_value_has_its_read.ensures.past } in
    let same : c.as_slice-subs.result.now ≡ c.args.a.now.subs = c.as_slice-subs.ensures ∙ ap (λ (p : Program). p.subs) c.program.ensures.same in
    let at : of_images c.as_slice.result.now c.self.inside.pending ≡ c.args.self.now.state =
    ap (λ (l : List Image). of_images l c.self.inside.pending) c.as_slice.ensures.value
    ∙ ap (λ (k : Kept). k.state) c.self.view_is in
    stands_led c.args.a.now c.as_slice-subs.result.now c.args.self.now.state (of_images c.as_slice.result.now c.self.inside.pending) c.ending.result c.ending.ensures same at law
