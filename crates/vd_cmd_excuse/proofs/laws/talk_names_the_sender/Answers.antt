use Rattle.std.proofs.Common.{◌-◌}
use Rattle.vd_report.specs.LinksRead.{host_name}
use Rattle.vd_report.proofs.Front.{link_read}
use Rattle.vd_cmd_excuse.proofs.laws.talk_names_the_sender.Goals as goal

pub returns : goal.returns
returns c = λ names h words can. link_read (host_name names (1 - h.0)) (host_name names h.0) words can
