use Rattle.std.proofs.Common.{◌≡◌, take}
use Rattle.vd_lsp_names.specs.Asking.{places_of}
use Rattle.vd_lsp_names.proofs.asking.places_of.Given as goal

abbrev pub invariant-loop-name : goal.invariant-loop-name
invariant-loop-name l = l.places ≡ places_of l.declaration (take l.name-index l.uses)
