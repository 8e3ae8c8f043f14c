use Rattle.vd_reorder.proofs.Later.{never_later}
use Rattle.vd_reorder.proofs.HeldUp.{held_alike}
use Rattle.vd_reorder.proofs.Maximal.{no_new_fault}
use Rattle.vd_reorder.proofs.Asking.{no_new_item}
use Rattle.vd_reorder.proofs.reorder_histories.hastened_hosts_are_never_later.Goals as goal

pub returns-clause-never_later : goal.returns-clause-never_later
returns-clause-never_later c = never_later

pub returns-clause-faults : goal.returns-clause-faults
returns-clause-faults c = held_alike

pub returns-clause-no_new_fault : goal.returns-clause-no_new_fault
returns-clause-no_new_fault c = no_new_fault

pub returns-clause-no_new_item : goal.returns-clause-no_new_item
returns-clause-no_new_item c = no_new_item
