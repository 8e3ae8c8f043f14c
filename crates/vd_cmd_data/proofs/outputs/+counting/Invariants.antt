use Rattle.std.proofs.Common.{◌≡◌, drop, map}
use Rattle.std.specs.List.{fold}
use Rattle.vd_cmd_data.specs.Outputs.{block_span, statement_span}
use Rattle.vd_cmd_data.specs.Spans.{plus}
use Rattle.vd_cmd_data.proofs.outputs.+counting.Given as goal

abbrev pub invariant-block_span-loop-stmt : goal.invariant-block_span-loop-stmt
invariant-block_span-loop-stmt l = fold plus l.span (map (statement_span l.host) (drop l.stmt-index l.body)) ≡ block_span l.host l.body
