use Rattle.std.proofs.Common.{◌≡◌, drop}
use Rattle.vd_split.specs.Places.{block_onto}
use Rattle.vd_split.proofs.Steps.{Rest}
use Rattle.vd_split.proofs.blocks.+split.Given as goal

abbrev pub invariant-block-loop-stmt : goal.invariant-block-loop-stmt
invariant-block-loop-stmt g l = record {
  exact : block_onto (g.P.Protocols.offer l.protocols).calls l.protos (drop l.stmt-index l.body) l.held l.turns l.to ≡ block_onto (g.P.Protocols.offer l.protocols).calls l.protos l.body l.initial.held l.turns l.initial.to;
  rest : Rest (g.P.Protocols.offer l.protocols) l.protos l.body l.stmt-index l.initial.held l.initial.to.next l.held l.to.next;
}
