use Rattle.std.proofs.Common.{◌≡◌, take}
use Rattle.vd_cmd_excuse.specs.Excusing.{excused_files}
use Rattle.vd_cmd_excuse.proofs.answer.files_of.Given as goal

abbrev pub invariant-loop-number : goal.invariant-loop-number
invariant-loop-number l = l.files ≡ excused_files l.out l.secrets (take l.number l.deals)
