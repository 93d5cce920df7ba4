use Rattle.std.proofs.Common.{◌∙◌}
use Rattle.caf_outside.proofs.Counts.{append_is_cause_at}
use Rattle.caf_outside.proofs.file_host.FileHostHost.load.Goals as goal

pub returns-clause-cause : goal.returns-clause-cause
returns-clause-cause g c =
    append_is_cause_at c.args.self.now.failed.items c.refuse.new.failed.items c.reserve.new.self.items _ _ _ c.reserve.ensures.items (c.in_ok-own_name.ensures ∙ c.as_bytes.ensures.value) c.refuse.ensures.counted c.refuse.ensures.refused
