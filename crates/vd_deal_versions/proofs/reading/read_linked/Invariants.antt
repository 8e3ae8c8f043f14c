use Rattle.std.proofs.Common.{◌≡◌, ◌-◌}
use Rattle.vd_deal_versions.specs.Reading.{linked_at}
use Rattle.vd_deal_versions.proofs.LinkLoop.{with_front}
use Rattle.vd_deal_versions.proofs.reading.read_linked.Given as goal

abbrev pub invariant-loop-place : goal.invariant-loop-place
invariant-loop-place l = with_front l.linked (linked_at l.me l.place (l.count - l.place) l.cursor) ≡ linked_at l.me 0 l.count l.fn.cursor
