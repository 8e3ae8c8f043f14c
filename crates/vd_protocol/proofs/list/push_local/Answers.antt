use Rattle.std.proofs.Common.{◌≡◌, ℕ, ◌+◌, ◌≤◌, ◌<◌, Bool, cond, true, false, not, List, [], ◌∷◌, ◌++◌, map, refl, sym, ap, ◌∙◌, subst, arith}
use Rattle.std.specs.Prelude.{filter, nat_le}
use Rattle.std.specs.List.{range_with_len, flat_map}
use Rattle.std.proofs.lemmas.Bool.{lt-ltb, le-ltb, le-leb, lt-leb, ne_eqb, eq-eqb}
use Rattle.vd_base.specs.declared.protocols.Proto.TheVariants as proto
use Rattle.vd_base.specs.HostSets.{host, hosts, host_set, size}
use Rattle.vd_base.specs.Protocols.{differ, is_earlier}
use Rattle.vd_protocol.proofs.Rows.{passing_more, rows_more, changed_more, extended, extended_if, kept_if}
use Rattle.vd_protocol.proofs.list.push_local.Goals as goal

pub loop-host-preserved : goal.loop-host-preserved
loop-host-preserved c = c.in_ok-push.ensures.ok ∙ extended c.loop-host.list _ _ _ _ c.loop-host.invariant (changed_more proto.Local c.loop-host.host)
