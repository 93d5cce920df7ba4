use Rattle.std.proofs.Common.{◌≡◌, ap}
use Rattle.caf_source.specs.declared.choice.Choice.TheVariants as choice
use Rattle.caf_source.specs.Kept.{Kept}
use Rattle.caf_source.specs.Stepping.{of_images}
use Rattle.caf_source.proofs.AtImage.{choice_led}
use Rattle.caf_source.proofs.machine.State.choose.Goals as goal

pub returns-in-Touch-clause-made : goal.returns-in-Touch-clause-made
returns-in-Touch-clause-made c =
    let is : c.args.c ≡ choice.Touch c.in-Touch.name = cc in
    let was : of_images c.self.inside.images.items c.self.inside.pending ≡ c.args.self.now.state = ap (λ (k : Kept). k.state) c.self.view_is in
    choice_led c.args.program.now c.args.self.now.state (of_images c.touch.new.images.items c.touch.new.pending) (of_images c.self.inside.images.items c.self.inside.pending) c.args.c (choice.Touch c.in-Touch.name) c.touch.result is was c.touch.ensures.made

pub returns-in-Part-clause-made : goal.returns-in-Part-clause-made
returns-in-Part-clause-made c =
    let is : c.args.c ≡ choice.Part c.in-Part.image = cc in
    let was : of_images c.self.inside.images.items c.self.inside.pending ≡ c.args.self.now.state = ap (λ (k : Kept). k.state) c.self.view_is in
    choice_led c.args.program.now c.args.self.now.state (of_images c.part.new.images.items c.self.inside.pending) (of_images c.self.inside.images.items c.self.inside.pending) c.args.c (choice.Part c.in-Part.image) c.part.result is was (c.part.ensures.made c.self.inside.pending)
