use Rattle.std.proofs.Common.{take, Ok}
use Rattle.vd_cmd_plan.specs.Deliver.{StoresAll}
use Rattle.vd_cmd_plan.proofs.deliver.store_all.Given as goal

abbrev pub invariant-loop-file : goal.invariant-loop-file
invariant-loop-file g l = StoresAll (take l.file-index l.added) (g.F.Files.view l.initial.files) (g.F.Files.view l.files) (Ok tt)
