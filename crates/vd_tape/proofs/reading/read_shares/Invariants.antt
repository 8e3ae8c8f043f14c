use Rattle.std.proofs.Common.{◌≡◌, ◌-◌}
use Rattle.vd_tape.specs.Reading.{shares_at}
use Rattle.vd_tape.proofs.ShareLoop.{with_front}
use Rattle.vd_tape.proofs.reading.read_shares.Given as goal

abbrev pub invariant-loop-place : goal.invariant-loop-place
invariant-loop-place l = with_front l.shares (shares_at l.me l.place (l.count - l.place) l.cursor) ≡ shares_at l.me 0 l.count l.fn.cursor
