-- There is one label for each host.
use Rattle.std.proofs.Common.{◌≡◌, suc, List, [], ◌∷◌, length, refl, ap}
use Rattle.vd_core.specs.declared.source.Host.{Host}
use Rattle.vd_core.specs.declared.source.Source.{Source}
use Rattle.vd_core.specs.declared.normal.Written.{Written}
use Rattle.vd_core.specs.Facts.{LabelForEachHost}
use Rattle.vd_semantics.specs.SourceMeaning.{host_names}
use Rattle.vd_elaborate.specs.Normal.{written, normal_form}
use Rattle.std.proofs.Common.{map}

as_many : (hs : List Host) → length (map {B = Written} (λ h. written h.label) hs) ≡ length (host_names hs)
as_many [] = refl
as_many (h ∷ hs) = ap suc (as_many hs)

pub label_for_each : (source : Source) → LabelForEachHost (normal_form source)
label_for_each source = as_many source.hosts
