use Rattle.std.proofs.Common.{◌∙◌, ap}
use Rattle.caf_outside.specs.declared.mem_host.MemHost.{MemHost}
use Rattle.caf_outside.proofs.Counts.{append_is_cause_at}
use Rattle.caf_outside.proofs.mem_host.MemHostHost.load.Goals as goal

pub returns-then-fails-clause-cause : goal.returns-then-fails-clause-cause
returns-then-fails-clause-cause c =
    append_is_cause_at c.args.self.now.failed.items c.refuse.new.failed.items c.reserve.new.self.items _ _ _ (c.reserve.ensures.items ∙ ap (λ (host : MemHost). host.failed.items) c.next_call_fails-fails.ensures.same) (c.in_ok-own_name.ensures ∙ c.as_bytes.ensures.value) c.refuse.ensures.counted c.refuse.ensures.refused

pub returns-in-None-clause-cause : goal.returns-in-None-clause-cause
returns-in-None-clause-cause c =
    append_is_cause_at c.args.self.now.failed.items c.refuse-in-None.new.failed.items c.reserve.new.self.items _ _ _ (c.reserve.ensures.items ∙ ap (λ (host : MemHost). host.failed.items) c.next_call_fails-fails.ensures.same) (c.in_ok-own_name.ensures ∙ c.as_bytes.ensures.value) c.refuse-in-None.ensures.counted c.refuse-in-None.ensures.refused
