use Rattle.std.proofs.Common.{◌≡◌, drop}
use Rattle.vd_edge.specs.KeptFiles.{as_read, is_unanswered}
use Rattle.vd_edge.proofs.kept_files.fetch_kept.Given as goal

abbrev pub invariant-loop-file : goal.invariant-loop-file
invariant-loop-file l =
    (as_read (drop l.file-index l.kept) l.name ≡ as_read l.kept l.name)
    × (is_unanswered (drop l.file-index l.kept) l.name l.limit ≡ is_unanswered l.kept l.name l.limit)
