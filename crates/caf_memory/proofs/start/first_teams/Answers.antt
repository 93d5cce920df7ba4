use Rattle.std.proofs.Common.{◌++◌, ◌∷◌, [], None, ap, sym, ◌∙◌}
use Rattle.caf_memory.proofs.Sized.{map_same_more}
use Rattle.caf_memory.proofs.start.first_teams.Goals as goal

pub loop-object-preserved : goal.loop-object-preserved
loop-object-preserved c =
    c.in_ok-push.ensures.items ∙ ap (λ items. items ++ None ∷ []) c.loop-object.invariant ∙ sym (map_same_more None c.args.objects.now c.loop-object._object-index c.loop-object-test.true)
