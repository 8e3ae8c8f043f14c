use Rattle.std.proofs.Common.{◌≡◌, map}
use Rattle.vd_report.specs.Inputs.{words_of}
use Rattle.vd_report.proofs.inputs.inputs_of.Given as goal

abbrev pub invariant-loop-section : goal.invariant-loop-section
invariant-loop-section l = l.inputs ≡ map words_of l.yielded
