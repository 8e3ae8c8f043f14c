use Rattle.std.proofs.Common.{◌≡◌, take}
use Rattle.vd_edge.specs.KeptFiles.{AreFailed, AreFaults, AreHeldOf, AreTried}
use Rattle.vd_edge.proofs.kept_files.read_all.Given as goal

abbrev pub invariant-loop-file : goal.invariant-loop-file
invariant-loop-file g l =
    AreHeldOf g.D.Directory.tells l.reading.kept (g.D.Directory.holds l.fn.files.directory)
    × AreTried (take l.file-index l.wanted) l.reading.kept l.reading.unread
    × AreFaults l.reading.unread l.fn.files.faults l.files.faults
    × AreFailed (g.D.Directory.fails_at l.fn.files.directory) l.reading.unread
    × (l.files.directory ≡ l.fn.files.directory)
