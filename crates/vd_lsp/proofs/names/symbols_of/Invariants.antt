use Rattle.std.proofs.Common.{◌≡◌, take, map}
use Rattle.vd_lsp.specs.Names.{symbol_of}
use Rattle.vd_lsp.proofs.names.symbols_of.Given as goal

abbrev pub invariant-loop-name : goal.invariant-loop-name
invariant-loop-name l = l.symbols ≡ map (symbol_of l.text) (take l.name-index l.uses)
