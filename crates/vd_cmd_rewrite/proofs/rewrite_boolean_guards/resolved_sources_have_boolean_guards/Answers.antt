use Rattle.vd_cmd_rewrite.proofs.Guards.{boolean_guards}
use Rattle.vd_cmd_rewrite.proofs.rewrite_boolean_guards.resolved_sources_have_boolean_guards.Goals as goal

pub returns : goal.returns
returns c = boolean_guards
