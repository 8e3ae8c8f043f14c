use Rattle.std.proofs.Common.{◌≡◌, replicate, None}
use Rattle.vd_report.proofs.inputs.no_sections.Given as goal

abbrev pub invariant-loop : goal.invariant-loop
invariant-loop l = l.sections ≡ replicate l.counter None
