use Rattle.vd_lsp_messages.proofs.Lasts.{last_of}
use Rattle.vd_lsp_messages.proofs.members.last_of.Goals as goal

pub returns : goal.returns
returns c = last_of c.args.values.now.items c.as_slice.result.now c.last.result c.as_slice.ensures.value c.last.ensures.value
