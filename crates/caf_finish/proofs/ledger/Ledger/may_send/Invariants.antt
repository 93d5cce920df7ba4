use Rattle.caf_finish.proofs.ledger.Ledger.may_send.Given as goal

abbrev pub ghost-may_send_by : goal.ghost-may_send_by
ghost-may_send_by g a = g.h
