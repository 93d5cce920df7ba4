-- Where a Step of the main task leads: the phase after it, and the entry that the journal gets. Where the task can't go on
-- it stands at the end of the program's finish, and its image contributes.
use Rattle.std.specs.Prelude.{Bool, true, false, Option, Some, None}
use Rattle.caf_base.specs.declared.effect.Effect.{Effect}
use Rattle.caf_base.specs.declared.effect.Effect.TheVariants as effect
use Rattle.caf_base.specs.declared.summary.Ending.{Ending}
use Rattle.caf_base.specs.declared.summary.Ending.TheVariants as ending
use Rattle.caf_base.specs.declared.trap.Trap.{Trap}
use Rattle.caf_journal.specs.declared.entry.Entry.{Entry}
use Rattle.caf_journal.specs.declared.entry.Entry.TheVariants.{Step, Contribute}
use Rattle.caf_solo.specs.declared.phase.Phase.{Phase}
use Rattle.caf_solo.specs.declared.phase.Phase.TheVariants as phase
use Rattle.caf_solo.specs.Waves.{no_counts}

abbrev pub led : Effect → Phase × Entry
led effect.Ran = (phase.Running, Step 0 0)
led (effect.Traps trap) = (phase.Trapped trap, Step 0 0)
led _ = (phase.Contributed, Contribute 0 no_counts)

-- how the state stands in a phase
abbrev pub ending_in : Phase → Ending
ending_in (phase.Trapped trap) = ending.Trapped
ending_in phase.Left = ending.Done
ending_in _ = ending.Going

-- whether nothing more can come
abbrev pub is_over : Phase → Bool
is_over (phase.Trapped trap) = true
is_over phase.Left = true
is_over _ = false

abbrev pub trap_in : Phase → Option Trap
trap_in (phase.Trapped trap) = Some trap
trap_in _ = None
