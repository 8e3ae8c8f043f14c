use Rattle.vd_execution.proofs.Compiled.{on_the_way, counted, never_short_on_the_way, whole}
use Rattle.vd_execution.proofs.execution_confluence.every_schedule.Goals as goal

pub returns-clause-on_the_way : goal.returns-clause-on_the_way
returns-clause-on_the_way c = on_the_way

pub returns-clause-counted : goal.returns-clause-counted
returns-clause-counted c = counted

pub returns-clause-never_short : goal.returns-clause-never_short
returns-clause-never_short c = λ s j b runs. never_short_on_the_way s j b runs.well runs.enough

pub returns-clause-whole : goal.returns-clause-whole
returns-clause-whole c = λ s j b runs. whole s j b runs.well runs.enough
