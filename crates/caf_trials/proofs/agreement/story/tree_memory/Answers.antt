use Rattle.std.proofs.Common.{◌≡◌, ◌∙◌, List, ap, subst, sym}
use Rattle.caf_base.specs.Start.{start_memory}
use Rattle.caf_base.specs.declared.object.Object.{Object}
use Rattle.caf_program.specs.Accepted.{IsAccepted}
use Rattle.caf_program.specs.declared.program.Program.{Program}
use Rattle.caf_treestep.specs.Placeable.{IsPlaceable}
use Rattle.caf_trials.proofs.agreement.story.tree_memory.Goals as goal

pub returns : goal.returns
returns c =
    let p : Program = c.args.a.now in
    let same = c.program-program.ensures.same in
    let accepted : IsAccepted p = subst IsAccepted same c.program-program.ensures.accepted in
    let begins : c.in_ok-memory.memory ≡ start_memory p.objects c.args.images c.args.image = c.in_ok-memory.ensures ∙ ap (λ (xs : List Object). start_memory xs c.args.images c.args.image) (c.as_slice.ensures ∙ ap (λ (x : Program). x.objects) same) in
    subst IsPlaceable (sym begins) (c.memories_begin_placeable.ensures p.objects c.args.images c.args.image accepted.kinds.declared)
