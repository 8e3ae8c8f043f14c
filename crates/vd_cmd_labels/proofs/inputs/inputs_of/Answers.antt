use Rattle.std.proofs.Common.{refl}
use Rattle.vd_cmd_labels.proofs.InputLists.{as_many}
use Rattle.vd_cmd_labels.proofs.inputs.inputs_of.Goals as goal

pub returns-in-Ok-clause-given : goal.returns-in-Ok-clause-given
returns-in-Ok-clause-given c = (c.in-Ok.ensures.given (λ e. cc e) c.in-Ok.inputs).0 refl

pub returns-in-Ok-clause-all : goal.returns-in-Ok-clause-all
returns-in-Ok-clause-all c = as_many c.args.hosts.now c.args.bytes.now c.in-Ok.inputs c.in-Ok.ensures.given
