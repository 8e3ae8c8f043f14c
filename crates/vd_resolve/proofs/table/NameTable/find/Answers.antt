use Rattle.vd_resolve.proofs.Tables.{found_value, found_place}
use Rattle.vd_resolve.proofs.table.NameTable.find.Goals as goal

pub returns-clause-value : goal.returns-clause-value
returns-clause-value g c = found_value c.self.inside.entries.entries _ c.self.view_is c.args.name.now c.get.result c.get.ensures.value

pub returns-clause-place : goal.returns-clause-place
returns-clause-place g c = found_place c.self.inside.entries.entries _ c.self.view_is c.args.name.now c.get.result c.get.ensures.value
