use Rattle.std.proofs.Common.{◌≡◌, drop}
use Rattle.vd_lsp_names.specs.Texts.{words_behind, words_in}
use Rattle.vd_lsp_names.proofs.texts.words_in.Given as goal

abbrev pub invariant-loop-token : goal.invariant-loop-token
invariant-loop-token l = words_behind l.text l.words (drop l.token-index l.tokens) ≡ words_in l.text l.tokens
