use Rattle.vd_cmd_host.proofs.Marked.{used_once}
use Rattle.vd_cmd_host.proofs.laws.deals_are_used_once.Goals as goal

pub returns : goal.returns
returns c = used_once
