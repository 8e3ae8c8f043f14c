use Rattle.std.proofs.Common.{◌≡◌, ◌++◌, drop}
use Rattle.std.specs.List.{concat}
use Rattle.vd_lsp.proofs.hovers.push_all.Given as goal

abbrev pub invariant-loop-line : goal.invariant-loop-line
invariant-loop-line l = l.text ++ concat (drop l.line-index l.lines) ≡ l.initial.text ++ concat l.lines
