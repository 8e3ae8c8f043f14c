use Rattle.vd_reorder.proofs.Apart.{act_beside_message, acts_apart, message_beside_act, messages_apart}
use Rattle.vd_reorder.proofs.Own.{acts_at_one}
use Rattle.vd_reorder.proofs.Shown.{shown_beside_act, shown_beside_message}
use Rattle.vd_reorder.proofs.choreography_commuting.neighbours_may_turn.Goals as goal

pub returns-clause-acts : goal.returns-clause-acts
returns-clause-acts c = acts_apart

pub returns-clause-own : goal.returns-clause-own
returns-clause-own c = acts_at_one

pub returns-clause-act_message : goal.returns-clause-act_message
returns-clause-act_message c = act_beside_message

pub returns-clause-message_act : goal.returns-clause-message_act
returns-clause-message_act c = message_beside_act

pub returns-clause-messages : goal.returns-clause-messages
returns-clause-messages c = messages_apart

pub returns-clause-shown : goal.returns-clause-shown
returns-clause-shown c = shown_beside_act

pub returns-clause-shown_message : goal.returns-clause-shown_message
returns-clause-shown_message c = shown_beside_message
