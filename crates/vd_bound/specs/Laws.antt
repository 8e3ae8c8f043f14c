-- What the checker and sound certificates have to do with each other.
use Rattle.std.specs.Prelude.{◌≡◌, ℕ, Ok, Option, List}
use Rattle.vd_search_tree.specs.Trees.{Tree}
use Rattle.vd_search_tree.specs.declared.search_certificate.certificate.Mark.{Mark}
use Rattle.vd_bound.specs.declared.checking.Proved.{Proved}
use Rattle.vd_bound.specs.Marks.{IsSound, Shows}
use Rattle.vd_bound.specs.Checking.{checked}

abbrev pub SoundShows : Tree → Option ℕ → Type 0
SoundShows tree stated = (marks : List Mark) → IsSound tree stated marks → Shows tree stated

abbrev pub AcceptsSound : Tree → Option ℕ → Type 0
AcceptsSound tree stated = (marks : List Mark) → IsSound tree stated marks → (proved : Proved) × (checked tree stated marks ≡ Ok proved)

abbrev pub SoundWhereAccepted : Tree → Option ℕ → Type 0
SoundWhereAccepted tree stated = (marks : List Mark) (proved : Proved) → checked tree stated marks ≡ Ok proved → IsSound tree stated marks
