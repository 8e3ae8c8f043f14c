use Rattle.std.proofs.Common.{inl, inr}
use Rattle.vd_parser.proofs.OutcomeLaws.{parses_once}
use Rattle.vd_parser.proofs.whole.parse.Goals as goal

pub returns-clause-exact : goal.returns-clause-exact
returns-clause-exact c = λ answer p. elim c.parse_bytes.ensures.outcome [
  | inl memory ↦ inl memory
  | inr found ↦ inr (parses_once c.args.bytes.now _ answer found p)
]
