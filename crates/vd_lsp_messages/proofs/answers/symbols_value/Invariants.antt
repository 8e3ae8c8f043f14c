use Rattle.std.proofs.Common.{◌≡◌, map, take}
use Rattle.serde_json.specs.View.{view}
use Rattle.vd_lsp_messages.specs.Answers.{symbol_data}
use Rattle.vd_lsp_messages.proofs.answers.symbols_value.Given as goal

-- the values so far
abbrev pub invariant-loop-symbol : goal.invariant-loop-symbol
invariant-loop-symbol l = map view l.values.items ≡ map symbol_data (take l.symbol-index l.symbols)
