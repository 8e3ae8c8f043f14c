use Rattle.std.proofs.Common.{◌≡◌, ◌-◌}
use Rattle.vd_base_codec.specs.Reading.{each_at}
use Rattle.vd_base_codec.proofs.Front.{with_front}
use Rattle.vd_hostcode.specs.Reading.{number_at}
use Rattle.vd_hostcode.proofs.host_text.reading.read_each.Given as goal

abbrev pub invariant-loop : goal.invariant-loop
invariant-loop l = with_front l.numbers (each_at number_at (l.count - l.counter) l.cursor) ≡ each_at number_at l.count l.fn.cursor
