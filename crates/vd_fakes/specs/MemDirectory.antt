-- A directory in memory: what it holds.
use Rattle.std.specs.Prelude.{List, [], ◌∷◌, None, if◌then◌else◌}
use Rattle.std.specs.Str.{bytes_eq}
use Rattle.vd_outside.specs.Files.{Contents}
use Rattle.vd_fakes.specs.declared.mem_directory.Entry.{Entry}

-- what the first entry with a name says of it
abbrev pub held_by : List Entry → Contents
held_by [] name = None
held_by (entry ∷ entries) name = if bytes_eq entry.name name then entry.content else held_by entries name
