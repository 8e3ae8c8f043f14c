use Rattle.std.proofs.Common.{◌≡◌, drop, []}
use Rattle.vd_lsp_names.specs.Uses.{listed_of, hosts_named}
use Rattle.vd_lsp_names.proofs.whole.list_hosts.Given as goal

abbrev pub invariant-loop-host : goal.invariant-loop-host
invariant-loop-host l = hosts_named l.principals (listed_of l.found l.names) (drop l.host-index l.hosts) ≡ hosts_named l.principals (listed_of l.initial.found []) l.hosts
