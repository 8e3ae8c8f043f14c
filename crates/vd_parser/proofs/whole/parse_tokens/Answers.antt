use Rattle.vd_parser.proofs.Outcomes.{deep_within}
use Rattle.vd_parser.proofs.Scan.{scan_finds}
use Rattle.vd_parser.proofs.whole.parse_tokens.Goals as goal

pub parse_through-requires-clause-within : goal.parse_through-requires-clause-within
parse_through-requires-clause-within c = deep_within c.args.tokens.now _ c.requires.ended (scan_finds c.args.tokens.now _ c.in-Some.ensures)
