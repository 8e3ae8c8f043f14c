use Rattle.std.proofs.Common.{◌≡◌, drop, []}
use Rattle.vd_lsp_names.specs.Uses.{listed_of, principals_named}
use Rattle.vd_lsp_names.proofs.whole.list_principals.Given as goal

abbrev pub invariant-loop-ident : goal.invariant-loop-ident
invariant-loop-ident l = principals_named (listed_of l.found l.names) (drop l.ident-index l.idents) ≡ principals_named (listed_of l.initial.found []) l.idents
