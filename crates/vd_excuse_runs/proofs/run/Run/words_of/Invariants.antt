use Rattle.std.proofs.Common.{◌≡◌, take}
use Rattle.vd_excuse_runs.specs.Sides.{said_words}
use Rattle.vd_excuse_runs.specs.Runs.{side_at}
use Rattle.vd_excuse_runs.proofs.run.Run.words_of.Given as goal

abbrev pub invariant-loop-register : goal.invariant-loop-register
invariant-loop-register l = l.words ≡ said_words (side_at l.self l.host.0).registers (take l.register-index l.registers)
