use Rattle.caf_finish.proofs.ledger.Ledger.add.Given as goal

abbrev pub ghost-add_stand : goal.ghost-add_stand
ghost-add_stand g a = g.h

abbrev pub ghost-add_send : goal.ghost-add_send
ghost-add_send g a = g.h

abbrev pub ghost-add_take : goal.ghost-add_take
ghost-add_take g a = g.h

abbrev pub ghost-add_complete : goal.ghost-add_complete
ghost-add_complete g a = g.h

abbrev pub ghost-add_ack : goal.ghost-add_ack
ghost-add_ack g a = g.h

abbrev pub ghost-add_contribute : goal.ghost-add_contribute
ghost-add_contribute g a = g.h

abbrev pub ghost-add_relay : goal.ghost-add_relay
ghost-add_relay g a = g.h

abbrev pub ghost-add_result : goal.ghost-add_result
ghost-add_result g a = g.h

abbrev pub ghost-add_leave : goal.ghost-add_leave
ghost-add_leave g a = g.h
