-- Files in memory that fail at listed calls.
use Rattle.std.specs.Prelude.{true}
use Rattle.vd_outside.specs.Files.{FilesView}
use Rattle.vd_fakes.specs.Found.{found}
use Rattle.vd_fakes.specs.declared.mem_files.MemFiles.{MemFiles}

-- what they tell
abbrev pub files_view : MemFiles → FilesView
files_view files = record { told = true; contents = found files.files; asked = files.asked; faults = files.failures.faults }
