use Rattle.vd_resolve.proofs.Tables.{inserted}
use Rattle.vd_resolve.proofs.table.NameTable.insert.Goals as goal

pub returns-in-Ok-clause-ok : goal.returns-in-Ok-clause-ok
returns-in-Ok-clause-ok g c = inserted c.self.inside.entries.entries _ c.self.view_is _ c.args.name (c.args.value, c.args.at) c.requires c.in-Ok.ensures.entries
