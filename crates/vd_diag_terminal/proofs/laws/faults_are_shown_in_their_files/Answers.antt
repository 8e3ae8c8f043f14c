use Rattle.std.proofs.Common.{refl}
use Rattle.vd_diag_terminal.proofs.laws.faults_are_shown_in_their_files.Goals as goal

pub returns : goal.returns
returns c = record {
  sources = λ s i p t fault. refl;
  inputs = λ s i p t fault. refl;
  schedules = λ s i p t fault. refl;
  hosts = λ p i more fault. refl;
  within = λ s p i more fault. refl;
  checks = λ p i d fault. refl;
}
