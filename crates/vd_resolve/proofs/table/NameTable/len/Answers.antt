use Rattle.std.proofs.Common.{◌∙◌}
use Rattle.vd_resolve.proofs.Tables.{counted, counted_places}
use Rattle.vd_resolve.proofs.table.NameTable.len.Goals as goal

pub returns-clause-len : goal.returns-clause-len
returns-clause-len g c = c.len.ensures.len ∙ counted c.self.inside.entries.entries _ c.self.view_is

pub returns-clause-placed : goal.returns-clause-placed
returns-clause-placed g c = c.len.ensures.len ∙ counted_places c.self.inside.entries.entries _ c.self.view_is
