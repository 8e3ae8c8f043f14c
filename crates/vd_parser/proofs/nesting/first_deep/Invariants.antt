use Rattle.std.proofs.Common.{◌≡◌, ◌≤◌, drop}
use Rattle.vd_parser.proofs.Scan.{first_deep_from}
use Rattle.vd_parser.proofs.nesting.first_deep.Given as goal

abbrev pub invariant-loop-number : goal.invariant-loop-number
invariant-loop-number l = record {
  same : first_deep_from l.number l.depth (drop l.number l.tokens) ≡ first_deep_from 0 0 l.tokens;
  few : l.depth ≤ 64;
}
