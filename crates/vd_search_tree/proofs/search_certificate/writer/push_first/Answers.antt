use Rattle.std.proofs.Common.{codes}
use Rattle.vd_search_tree.specs.Texts.{cost_text}
use Rattle.vd_search_tree.proofs.Forms.{appended}
use Rattle.vd_search_tree.proofs.search_certificate.writer.push_first.Goals as goal

pub returns : goal.returns
returns c = appended c.push_cost.result c.args.text.now (codes "viaduct-cert 1\n") c.extend_from_slice.new.self c.push_cost.new.text (cost_text c.args.cost) (c.in_ok-extend_from_slice.ensures.ok) c.push_cost.ensures
