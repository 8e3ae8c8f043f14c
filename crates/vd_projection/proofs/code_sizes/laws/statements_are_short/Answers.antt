use Rattle.vd_projection.proofs.ProgramLengths.{statements_make_few, code_is_short}
use Rattle.vd_projection.proofs.code_sizes.laws.statements_are_short.Goals as goal

pub returns-clause-statements : goal.returns-clause-statements
returns-clause-statements c = statements_make_few

pub returns-clause-code : goal.returns-clause-code
returns-clause-code c = code_is_short
