use Rattle.vd_reorder.proofs.Instances.{send_before_receive, send_before_send, send_before_action, send_before_print, action_before_receive, action_before_send, action_before_print, action_before_action}
use Rattle.vd_reorder.proofs.reorder_laws.neighbours_may_be_exchanged.Goals as goal

pub returns-clause-send_receive : goal.returns-clause-send_receive
returns-clause-send_receive c = send_before_receive

pub returns-clause-send_send : goal.returns-clause-send_send
returns-clause-send_send c = send_before_send

pub returns-clause-send_action : goal.returns-clause-send_action
returns-clause-send_action c = send_before_action

pub returns-clause-send_print : goal.returns-clause-send_print
returns-clause-send_print c = send_before_print

pub returns-clause-action_receive : goal.returns-clause-action_receive
returns-clause-action_receive c = action_before_receive

pub returns-clause-action_send : goal.returns-clause-action_send
returns-clause-action_send c = action_before_send

pub returns-clause-action_print : goal.returns-clause-action_print
returns-clause-action_print c = action_before_print

pub returns-clause-action_action : goal.returns-clause-action_action
returns-clause-action_action c = action_before_action
