use Rattle.std.proofs.Common.{◌≡◌, drop}
use Rattle.vd_duet.specs.Calls.{in_clear, hosts_of}
use Rattle.vd_base.specs.Holders.{is_among}
use Rattle.vd_clear.proofs.show.has_part.Given as goal

abbrev pub invariant-loop-part : goal.invariant-loop-part
invariant-loop-part l = is_among (hosts_of (in_clear (drop l.part-index l.part-items))) l.host.0 ≡ is_among (hosts_of (in_clear l.x)) l.host.0
