use Rattle.std.proofs.Common.{Ok, ap}
use Rattle.vd_cmd_host.proofs.Claiming.{taken_by}
use Rattle.vd_cmd_host.proofs.marking.claim.Goals as goal

pub returns-in-Ok-true : goal.returns-in-Ok-true
returns-in-Ok-true g c =
    taken_by c.args.words.now c.args.id.now c.args.program.now (g.M.Marks.view c.args.marks.now) (g.M.Marks.view c.draw-2.new.self) (g.M.Marks.view c.claim.new.self) c.in-Ok.seed (c.in-Ok.ensures {u = tt})
    c.as_str-2.result.now c.in_ok-name.name c.in_ok-text.text c.as_slice.result.now c.as_slice-2.result.now (Ok c.in-Ok-true.field-0)
    c.as_str-2.ensures c.as_slice.ensures c.as_slice-2.ensures (c.in_ok-name.ensures {u = tt}) (c.in_ok-text.ensures {u = tt}) (ap Ok c.in-Ok-true.field-0-test) (c.in-Ok-true.ensures {u = tt})
