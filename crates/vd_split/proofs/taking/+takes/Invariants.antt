use Rattle.std.proofs.Common.{◌≡◌, drop}
use Rattle.vd_split.specs.Emission.{block_emission}
use Rattle.vd_base.specs.Holders.{proto_in}
use Rattle.vd_split.proofs.taking.+takes.Given as goal

abbrev pub invariant-any_takes-loop-stmt : goal.invariant-any_takes-loop-stmt
invariant-any_takes-loop-stmt g l =
    (block_emission (g.P.Protocols.offer l.protocols).calls (proto_in l.protos) (drop l.stmt-index l.body)).takes_part l.host.0 ≡ (block_emission (g.P.Protocols.offer l.protocols).calls (proto_in l.protos) l.body).takes_part l.host.0
