use Rattle.std.proofs.Common.{◌≡◌, List, [], ap, arith, subst, sym, ◌<◌, ◌∙◌}
use Rattle.caf_base.specs.ImageMemory.{ImageMemory}
use Rattle.caf_base.specs.Start.{start_memory}
use Rattle.caf_code.specs.Kept.{KeepsSound}
use Rattle.caf_code.specs.Sound.{IsSoundMemory}
use Rattle.caf_code.specs.Step.{main_task}
use Rattle.caf_code.specs.Task.{Task}
use Rattle.caf_code.specs.Whole.{IsSettled}
use Rattle.caf_journal.specs.declared.entry.Entry.{Entry}
use Rattle.caf_program.specs.declared.program.Program.{Program}
use Rattle.caf_source.specs.Built.{are_subs_built, is_block_built}
use Rattle.caf_solo.specs.Followed.{Follows}
use Rattle.caf_solo.specs.declared.phase.Phase.TheVariants as phase
use Rattle.caf_solo.proofs.Following.{and_first, follows_begins}
use Rattle.caf_solo.proofs.run.begin.Goals as goal

pub returns-clause-follows : goal.returns-clause-follows
returns-clause-follows c =
    let p : Program = c.args.a.now in
    let code = c.args.code.now in
    let keeps : KeepsSound code = subst KeepsSound c.listing-listing.ensures.same (c.tasks_stay_sound.ensures c.listing-listing.result.now c.listing-listing.ensures.keeps) in
    let some : 0 < 1 = omega arith in
    let sound : IsSoundMemory code (start_memory p.objects 1 0) = subst (λ o. IsSoundMemory code (start_memory o 1 0)) c.requires.compiled.objects (keeps.begins 1 0 some) in
    let memory : c.in_ok-memory.memory ≡ start_memory p.objects 1 0 = c.in_ok-memory.ensures ∙ ap (λ o. start_memory o 1 0) (c.as_slice.ensures ∙ ap (λ (x : Program). x.objects) c.program.ensures.same) in
    let begins = follows_begins p code c.main_tasks_come_to_their_end.ensures.begins (and_first (is_block_built p.body) (are_subs_built p.subs) c.requires.built) c.requires.compiled
    (record { memory = sound; task = keeps.main 1 }) (subst (IsSettled code) c.in_ok-task.ensures.begins c.in_ok-task.ensures.settled) in
    subst (λ (l : List Entry). Follows p code l phase.Running c.in_ok-memory.memory c.in_ok-task.task) (sym c.new-2.ensures)
    (subst (λ (m : ImageMemory). Follows p code [] phase.Running m c.in_ok-task.task) (sym memory)
    (subst (λ (t : Task). Follows p code [] phase.Running (start_memory p.objects 1 0) t) (sym c.in_ok-task.ensures.begins) begins))
