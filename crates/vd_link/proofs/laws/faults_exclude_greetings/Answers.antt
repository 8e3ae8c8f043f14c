use Rattle.vd_link.proofs.GreetingLaws.{no_greet_fault}
use Rattle.vd_link.proofs.laws.faults_exclude_greetings.Goals as goal

pub returns : goal.returns
returns c = no_greet_fault
