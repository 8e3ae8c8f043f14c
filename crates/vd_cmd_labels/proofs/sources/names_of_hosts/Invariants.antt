use Rattle.std.proofs.Common.{◌≡◌, take}
use Rattle.vd_semantics.specs.SourceMeaning.{host_names}
use Rattle.vd_cmd_labels.proofs.sources.names_of_hosts.Given as goal

abbrev pub invariant-loop-host : goal.invariant-loop-host
invariant-loop-host l = l.names ≡ host_names (take l.host-index l.source.hosts)
