use Rattle.std.proofs.Common.{sym, ◌∙◌}
use Rattle.vd_excuse.proofs.Answered.{differs, is_excused, is_short, none_left}
use Rattle.vd_excuse.proofs.excusing.excuse.Goals as goal

pub returns-in-Some-clause-err : goal.returns-in-Some-clause-err
returns-in-Some-clause-err c = λ l of other.
    is_short c.args.program.now l c.args.protocols.now of c.args.host c.requires.host c.args.first.now c.args.second.now c.args.deals.now c.requires.asked c.in_ok-walked.walked (c.in_ok-walked.ensures {u = tt} l of) c.in-Some.kind c.in-Some.is

pub returns-in-Some-2-clause-err : goal.returns-in-Some-2-clause-err
returns-in-Some-2-clause-err c = λ l of other.
    differs c.args.program.now l c.args.protocols.now of c.args.host c.requires.host c.args.first.now c.args.second.now c.args.deals.now c.requires.asked c.in_ok-walked.walked (c.in_ok-walked.ensures {u = tt} l of)
    (none_left c.in_ok-walked.walked.short c.in_default.not-Some) c.in-Some-2.place (sym (c.in_ok-place.ensures {u = tt} l) ∙ c.in-Some-2.is)

pub returns-clause-ok : goal.returns-clause-ok
returns-clause-ok c = λ l of.
    is_excused c.args.program.now l c.args.protocols.now of c.args.host c.requires.host c.args.first.now c.args.second.now c.args.deals.now c.requires.asked c.in_ok-walked.walked (c.in_ok-walked.ensures {u = tt} l of)
    (none_left c.in_ok-walked.walked.short c.in_default.not-Some) (sym (c.in_ok-place.ensures {u = tt} l) ∙ none_left c.in_ok-place.field-0 c.in_default-2.not-Some)
