use Rattle.std.proofs.Common.{◌≡◌, ◌++◌, take, map}
use Rattle.vd_lsp.specs.Names.{word}
use Rattle.vd_lsp.proofs.names.push_fixed.Given as goal

abbrev pub invariant-loop-bytes : goal.invariant-loop-bytes
invariant-loop-bytes l = l.found ≡ l.initial.found ++ map (λ bytes. word bytes.now l.sort) (take l.bytes-index l.words)
