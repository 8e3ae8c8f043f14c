use Rattle.std.proofs.Common.{◌≡◌, ◌-◌}
use Rattle.vd_base_codec.specs.Reading.{each_at}
use Rattle.vd_base_codec.proofs.Front.{with_front}
use Rattle.vd_tape.proofs.reading.read_items.Given as goal

abbrev pub invariant-loop : goal.invariant-loop
invariant-loop g l = with_front l.items (each_at g.T.Item.reading (l.count - l.counter) l.cursor) ≡ each_at g.T.Item.reading l.count l.fn.cursor
