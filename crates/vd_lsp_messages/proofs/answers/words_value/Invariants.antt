use Rattle.std.proofs.Common.{◌≡◌, map, take}
use Rattle.serde_json.specs.View.{view}
use Rattle.vd_lsp_messages.specs.Answers.{word_data}
use Rattle.vd_lsp_messages.proofs.answers.words_value.Given as goal

-- the values so far
abbrev pub invariant-loop-word : goal.invariant-loop-word
invariant-loop-word l = map view l.values.items ≡ map word_data (take l.word-index l.words)
