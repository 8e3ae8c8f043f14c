-- No more is left than there was.
use Rattle.std.proofs.Common.{◌≡◌, ℕ, ◌≤◌, List, length, Err}
use Rattle.vd_base_codec.specs.Reading.{to_the_end}
use Rattle.vd_base_codec.specs.Exact.{IsAnything}
use Rattle.vd_base_codec.proofs.Front.{left_within}
use Rattle.vd_tape.specs.Text.{deal_text}
use Rattle.vd_tape.specs.Reading.{deal_at}
use Rattle.vd_tape.proofs.DealExact.{Fit, deal_exact}

pub left_is_within : (hosts me : ℕ) (bytes left : List ℕ) → to_the_end (deal_at hosts me bytes) ≡ Err left → length left ≤ length bytes
left_is_within hosts me bytes left e = left_within IsAnything (Fit hosts me) deal_text bytes left (deal_at hosts me bytes) (deal_exact hosts me bytes) e
