use Rattle.caf_finish.proofs.ledger.Ledger.allows.Given as goal

abbrev pub ghost-may_stand : goal.ghost-may_stand
ghost-may_stand g a = g.h

abbrev pub ghost-may_send : goal.ghost-may_send
ghost-may_send g a = g.h

abbrev pub ghost-may_take : goal.ghost-may_take
ghost-may_take g a = g.h

abbrev pub ghost-may_complete : goal.ghost-may_complete
ghost-may_complete g a = g.h

abbrev pub ghost-may_ack : goal.ghost-may_ack
ghost-may_ack g a = g.h

abbrev pub ghost-may_contribute : goal.ghost-may_contribute
ghost-may_contribute g a = g.h

abbrev pub ghost-may_relay : goal.ghost-may_relay
ghost-may_relay g a = g.h

abbrev pub ghost-may_result : goal.ghost-may_result
ghost-may_result g a = g.h

abbrev pub ghost-may_leave : goal.ghost-may_leave
ghost-may_leave g a = g.h
