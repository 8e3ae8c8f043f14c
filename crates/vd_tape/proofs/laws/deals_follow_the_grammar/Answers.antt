use Rattle.vd_tape.proofs.DealExact.{follow_grammar}
use Rattle.vd_tape.proofs.laws.deals_follow_the_grammar.Goals as goal

pub returns : goal.returns
returns c = follow_grammar
