use Rattle.std.proofs.Common.{◌≡◌, drop, map}
use Rattle.vd_lsp_names.specs.Uses.{in_turn, naming, naming_of_segment}
use Rattle.vd_lsp_names.proofs.kinds.Outer.+naming.Given as goal

abbrev pub invariant-exprs-loop-expr : goal.invariant-exprs-loop-expr
invariant-exprs-loop-expr l =
    in_turn (map naming (drop l.expr-index l.exprs)) l.self l.values l.found ≡ in_turn (map naming l.exprs) l.self l.values l.initial.found

abbrev pub invariant-segments-loop-segment : goal.invariant-segments-loop-segment
invariant-segments-loop-segment l =
    in_turn (map naming_of_segment (drop l.segment-index l.segments)) l.self l.values l.found ≡ in_turn (map naming_of_segment l.segments) l.self l.values l.initial.found
