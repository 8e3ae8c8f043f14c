use Rattle.std.proofs.Common.{not, ap, ◌∙◌}
use Rattle.vd_formula.proofs.FormNames.{any_is_among}
use Rattle.vd_formula.proofs.forms.is_unknown.Goals as goal

pub returns : goal.returns
returns c = ap not (c.contains.ensures ∙ any_is_among c.args.names.now c.args.name.now)
