use Rattle.std.proofs.Common.{◌≡◌, ◌+◌, ◌-◌, ◌≤◌, drop, length}
use Rattle.vd_hostcode.specs.Reading.{alike}
use Rattle.vd_hostcode.proofs.host_text.reading.alike.Given as goal

abbrev pub invariant-places : goal.invariant-places
invariant-places l = (l.count + alike (drop l.count l.word) (drop l.count l.bytes) ≡ alike l.word l.bytes) × (l.count ≤ length l.word)

abbrev pub decreases-places : goal.decreases-places
decreases-places l = length l.word - l.count
