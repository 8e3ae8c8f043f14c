use Rattle.vd_lsp_names.proofs.Seen.{names_stand, statements_see}
use Rattle.vd_lsp_names.proofs.laws.sights_are_the_resolvers.Goals as goal

pub returns : goal.returns
returns c = record { statements = statements_see; names = names_stand }
