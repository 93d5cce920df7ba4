use Rattle.std.proofs.Common.{ap, is_some, ◌∙◌}
use Rattle.caf_finish.proofs.Finds.{position-known}
use Rattle.caf_finish.proofs.desk.place_of.Goals as goal

pub unwrap-requires : goal.unwrap-requires
unwrap-requires c =
    ap is_some c.place.ensures ∙ position-known c.args.known.now c.args.f.now ∙ c.requires
