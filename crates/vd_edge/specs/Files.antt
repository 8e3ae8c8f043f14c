-- What files over a directory tell as files.
use Rattle.std.specs.Prelude.{ℕ, false, [], None}
use Rattle.vd_outside.specs.Files.{FilesView}

-- how often they have failed, and nothing else
abbrev pub files_view : ℕ → FilesView
files_view faults = record { told = false; contents = λ name. None; asked = []; faults = faults }
