use Rattle.std.proofs.Common.{◌≡◌, ◌++◌, drop}
use Rattle.vd_diag_terminal.specs.StuckSentences.{sites_in}
use Rattle.vd_diag_terminal.proofs.diag_choice.sites.+sites.Given as goal

abbrev pub invariant-add_all_sites-loop-stmt : goal.invariant-add_all_sites-loop-stmt
invariant-add_all_sites-loop-stmt l = l.sites ++ sites_in l.form (drop l.stmt-index l.body) ≡ l.initial.sites ++ sites_in l.form l.body
