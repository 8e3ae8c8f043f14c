use Rattle.vd_space_api.proofs.Rounds.{loop_given, loop_next, over_places}
use Rattle.vd_space_api.proofs.space_shifts.ledger.hand_all_on.Goals as goal

pub hand_on-requires-clause-ledger : goal.hand_on-requires-clause-ledger
hand_on-requires-clause-ledger c = over_places c.args.problem.now c.args.list.now c.requires.list.all c.args.candidates.now c.requires.candidates c.loop-at.ledger c.loop-at.at c.loop-at.invariant c.requires.list.few

pub hand_on-requires-clause-given : goal.hand_on-requires-clause-given
hand_on-requires-clause-given c =
    loop_given c.args.problem.now c.requires.well_formed.holds c.requires.well_formed.labelled c.args.list.now c.requires.list.all c.args.candidates.now c.requires.candidates
    c.loop-at.ledger c.loop-at.at c.loop-at.invariant c.as_slice-uses.result.now c.as_slice-uses.ensures c.loop-at-test.true c.loop-at.auto.at

pub loop-at-preserved : goal.loop-at-preserved
loop-at-preserved c =
    loop_next c.args.problem.now c.requires.well_formed.holds c.requires.well_formed.labelled c.args.list.now c.requires.list.all c.args.candidates.now c.requires.candidates
    c.loop-at.ledger c.loop-at.at c.loop-at.invariant c.as_slice-uses.result.now c.as_slice-uses.ensures c.loop-at-test.true c.loop-at.auto.at c.hand_on.new.self c.in_ok-hand_on.ensures
