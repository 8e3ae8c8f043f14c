use Rattle.vd_elaborate.proofs.Declared.{principals_are_names, hosts_are_names}
use Rattle.vd_elaborate.proofs.anf_wellformed.law.names_are_distinct.Goals as goal

pub returns : goal.returns
returns c = record { principals = principals_are_names; hosts = hosts_are_names }
