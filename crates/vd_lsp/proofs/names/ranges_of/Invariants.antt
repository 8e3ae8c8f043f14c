use Rattle.std.proofs.Common.{◌≡◌, take}
use Rattle.vd_lsp.specs.Names.{ranges_of}
use Rattle.vd_lsp.proofs.names.ranges_of.Given as goal

abbrev pub invariant-loop-span : goal.invariant-loop-span
invariant-loop-span l = l.ranges ≡ ranges_of l.text (take l.span-index l.spans)
