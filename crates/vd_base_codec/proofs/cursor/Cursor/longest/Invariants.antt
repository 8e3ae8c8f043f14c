use Rattle.std.proofs.Common.{◌≡◌, length}
use Rattle.vd_base_codec.specs.Reading.{longest_at}
use Rattle.vd_base_codec.proofs.cursor.Cursor.longest.Given as goal

abbrev pub invariant-digits : goal.invariant-digits
invariant-digits l = longest_at l.most l.number l.self ≡ longest_at l.most l.start l.fn.self

abbrev pub decreases-digits : goal.decreases-digits
decreases-digits l = length l.self
