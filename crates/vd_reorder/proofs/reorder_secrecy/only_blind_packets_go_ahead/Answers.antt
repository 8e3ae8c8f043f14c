use Rattle.vd_reorder.proofs.BlindPackets.{only_blind, packets_hide}
use Rattle.vd_reorder.proofs.reorder_secrecy.only_blind_packets_go_ahead.Goals as goal

pub returns-clause-blind : goal.returns-clause-blind
returns-clause-blind c = only_blind

pub returns-clause-hidden : goal.returns-clause-hidden
returns-clause-hidden c = packets_hide
