use Rattle.caf_finish.proofs.ledger.Ledger.may_result.Given as goal

abbrev pub ghost-is_whole : goal.ghost-is_whole
ghost-is_whole g a = g.h

abbrev pub ghost-total : goal.ghost-total
ghost-total g a = g.h
