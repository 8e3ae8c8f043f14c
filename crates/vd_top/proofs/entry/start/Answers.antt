use Rattle.std.proofs.Common.{refl, rules}
use Rattle.vd_top.proofs.entry.start.Goals as goal

pub returns-in-None : goal.returns-in-None
returns-in-None g c = record {
  own = search rules;
  ran = λ none. c.run.ensures.keeps;
  net_untouched = λ e. rw (c.run.ensures.net_untouched e) refl;
  leaves = c.run.ensures.keeps.leaves;
}
