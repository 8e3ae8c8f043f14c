use Rattle.std.proofs.Common.{◌≡◌, drop, map, []}
use Rattle.vd_resolve.specs.declared.size.Size.{Size}
use Rattle.vd_resolve.specs.Causes.{telling, telling_of_segment, tellings, chain_telling}
use Rattle.vd_resolve.specs.Rules.{typing, typing_of_segment, typings, chain_typing}
use Rattle.vd_resolve.specs.Sizes.{IsCapped, sizing, sizing_of_segment, segments_after, sizes_after, nothing}
use Rattle.vd_resolve.specs.Tables.{names}
use Rattle.vd_resolve.specs.Walks.{variables}
use Rattle.vd_resolve.specs.Scopes.{scope_of, sizes_of}
use Rattle.vd_resolve.proofs.declarations.Declarations.+typing.Given as goal

abbrev pub invariant-arguments-loop-expr : goal.invariant-arguments-loop-expr
invariant-arguments-loop-expr l =
    (typings l.kinds (map typing (drop l.expr-index l.exprs)) (scope_of l.self) (names l.values) ≡ typings [] (map typing l.exprs) (scope_of l.self) (names l.values))
    × (tellings l.kinds (map telling (drop l.expr-index l.exprs)) (scope_of l.self) (names l.values) ≡ tellings [] (map telling l.exprs) (scope_of l.self) (names l.values))
    × ((exact : Size) × IsCapped l.size exact
    × (sizes_after exact (map sizing (drop l.expr-index l.exprs)) (sizes_of l.self) (variables (names l.values)) ≡ sizes_after nothing (map sizing l.exprs) (sizes_of l.self) (variables (names l.values))))

abbrev pub invariant-chain-loop-segment : goal.invariant-chain-loop-segment
invariant-chain-loop-segment l =
    (chain_typing (map typing_of_segment (drop l.segment-index l.segments)) (scope_of l.self) (names l.values) l.kind ≡ chain_typing (map typing_of_segment l.segments) (scope_of l.self) (names l.values) l.initial.kind)
    × (chain_telling (map telling_of_segment (drop l.segment-index l.segments)) (scope_of l.self) (names l.values) l.kind ≡ chain_telling (map telling_of_segment l.segments) (scope_of l.self) (names l.values) l.initial.kind)
    × ((exact : Size) × IsCapped l.size exact
    × (segments_after exact (map sizing_of_segment (drop l.segment-index l.segments)) (sizes_of l.self) (variables (names l.values))
    ≡ segments_after nothing (map sizing_of_segment l.segments) (sizes_of l.self) (variables (names l.values))))
