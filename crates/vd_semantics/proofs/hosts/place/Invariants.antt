use Rattle.std.proofs.Common.{◌≡◌, ◌+◌, drop}
use Rattle.vd_base.specs.Names.{place_of}
use Rattle.vd_semantics.specs.SourceMeaning.{host_names}
use Rattle.vd_semantics.proofs.hosts.place.Given as goal

abbrev pub invariant-loop-at : goal.invariant-loop-at
invariant-loop-at l = l.at + place_of (host_names (drop l.at l.hosts)) l.name ≡ place_of (host_names l.hosts) l.name
