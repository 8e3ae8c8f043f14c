use Rattle.std.proofs.Common.{◌≡◌, drop}
use Rattle.vd_fakes.specs.Found.{found}
use Rattle.vd_fakes.proofs.finding.find.Given as goal

abbrev pub invariant-loop-file : goal.invariant-loop-file
invariant-loop-file l = found (drop l.file-index l.files) l.name ≡ found l.files l.name
