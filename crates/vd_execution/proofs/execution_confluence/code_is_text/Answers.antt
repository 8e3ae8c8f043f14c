use Rattle.std.proofs.Common.{[]}
use Rattle.vd_execution.specs.Joint.{code_of}
use Rattle.vd_execution.proofs.Picks.{picks}
use Rattle.vd_execution.proofs.Reading.{read_back, written_back, unbegun}
use Rattle.vd_execution.proofs.execution_confluence.code_is_text.Goals as goal

pub returns-clause-picked : goal.returns-clause-picked
returns-clause-picked c = λ j h tidy. picks h j tidy []

pub returns-clause-read_back : goal.returns-clause-read_back
returns-clause-read_back c = λ j h. read_back (code_of h j) (unbegun h j)

pub returns-clause-written_back : goal.returns-clause-written_back
returns-clause-written_back c = written_back
