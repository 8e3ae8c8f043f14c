use Rattle.std.proofs.Common.{◌≡◌, drop}
use Rattle.vd_base.specs.Names.{is_among}
use Rattle.vd_lsp.proofs.names.is_among.Given as goal

abbrev pub invariant-loop-known : goal.invariant-loop-known
invariant-loop-known l = is_among (drop l.known-index l.words) l.word ≡ is_among l.words l.word
