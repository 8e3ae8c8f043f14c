use Rattle.std.proofs.Common.{◌≡◌, drop}
use Rattle.vd_diag_terminal.specs.Stuck.{comes_to}
use Rattle.vd_diag_terminal.proofs.diag_choice.left.comes_to.Given as goal

abbrev pub invariant-loop-source : goal.invariant-loop-source
invariant-loop-source l = comes_to l.problem (drop l.source-index l.sources) l.place ≡ comes_to l.problem l.sources l.place
