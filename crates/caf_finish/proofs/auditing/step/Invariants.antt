use Rattle.caf_finish.proofs.auditing.step.Given as goal

abbrev pub ghost-allows : goal.ghost-allows
ghost-allows g a = g.h

abbrev pub ghost-add : goal.ghost-add
ghost-add g a = g.h
