-- No more is left than there was.
use Rattle.std.proofs.Common.{◌≡◌, ℕ, ◌<◌, ◌≤◌, List, length, Err}
use Rattle.vd_base_codec.specs.Reading.{to_the_end}
use Rattle.vd_base_codec.specs.Exact.{IsAnything}
use Rattle.vd_base_codec.proofs.Front.{left_within}
use Rattle.vd_base.specs.Limits.{most_hosts}
use Rattle.vd_deal_versions.specs.Text.{dealt_text, IsDealtOf}
use Rattle.vd_deal_versions.specs.Reading.{dealt_at}
use Rattle.vd_deal_versions.proofs.DealtExact.{dealt_exact}

pub left_is_within : (hosts me : ℕ) (bytes left : List ℕ) → hosts ≤ most_hosts → me < hosts → to_the_end (dealt_at hosts me bytes) ≡ Err left → length left ≤ length bytes
left_is_within hosts me bytes left few below e = left_within IsAnything (IsDealtOf hosts me) dealt_text bytes left (dealt_at hosts me bytes) (dealt_exact hosts me bytes few below) e
