use Rattle.std.proofs.Common.{◌∙◌}
use Rattle.vd_hostcode.proofs.HostSteps.{any_is_among}
use Rattle.vd_hostcode.proofs.host_text.heading.is_among.Goals as goal

pub returns : goal.returns
returns c = c.contains.ensures ∙ any_is_among c.args.known.now c.args.name.now
