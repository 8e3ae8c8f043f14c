use Rattle.std.proofs.Common.{◌∙◌}
use Rattle.vd_resolve.proofs.Tables.{cut, restored}
use Rattle.vd_resolve.proofs.table.NameTable.truncate.Goals as goal

pub returns-clause-cut : goal.returns-clause-cut
returns-clause-cut g c = cut c.self.inside.entries.entries _ c.self.view_is _ c.args.len c.truncate.ensures.entries

pub returns-clause-restores : goal.returns-clause-restores
returns-clause-restores g c before kept placed is is_placed =
    cut c.self.inside.entries.entries _ c.self.view_is _ c.args.len c.truncate.ensures.entries ∙ restored before _ c.args.len is is_placed kept placed
