use Rattle.vd_execution.proofs.ActsFirst.{runs_first, tidy_first, smooth_first, within_first, flat_first}
use Rattle.vd_execution.proofs.execution_confluence.acts_come_first.Goals as goal

pub returns-clause-runs : goal.returns-clause-runs
returns-clause-runs c = runs_first

pub returns-clause-tidy : goal.returns-clause-tidy
returns-clause-tidy c = tidy_first

pub returns-clause-smooth : goal.returns-clause-smooth
returns-clause-smooth c = smooth_first

pub returns-clause-within : goal.returns-clause-within
returns-clause-within c = within_first

pub returns-clause-lines : goal.returns-clause-lines
returns-clause-lines c = flat_first
