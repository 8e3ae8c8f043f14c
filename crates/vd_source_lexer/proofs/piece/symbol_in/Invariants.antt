use Rattle.std.proofs.Common.{◌≡◌, drop, nat_eq}
use Rattle.std.specs.List.{find, starts_with}
use Rattle.vd_source_lexer.specs.Tables.{entries}
use Rattle.vd_source_lexer.proofs.piece.symbol_in.Given as goal

abbrev pub invariant-loop-symbol : goal.invariant-loop-symbol
invariant-loop-symbol l = find (λ symbol. starts_with nat_eq l.text symbol.0) (entries (drop l.symbol-index l.symbols)) ≡ find (λ symbol. starts_with nat_eq l.text symbol.0) (entries l.symbols)
