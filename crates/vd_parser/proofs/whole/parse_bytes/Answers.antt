use Rattle.vd_parser.proofs.Named.{answer_named}
use Rattle.vd_parser.proofs.Outcomes.{few_tokens, has_tokens}
use Rattle.vd_parser.proofs.whole.parse_bytes.Goals as goal

pub parse_tokens-requires-clause-few : goal.parse_tokens-requires-clause-few
parse_tokens-requires-clause-few c = rw c.as_slice.ensures (few_tokens c.args.bytes.now _ c.if-bytes.false c.in-Ok.ensures.ok)

pub returns-in-Ok-clause-named : goal.returns-in-Ok-clause-named
returns-in-Ok-clause-named c =
    let outcome = rw c.as_slice.ensures at c.parse_tokens.ensures in
    answer_named c.args.bytes.now _ (has_tokens c.args.bytes.now _ _ c.if-bytes.false c.in-Ok.ensures.ok outcome)
