use Rattle.vd_space_api.specs.Ledger.{IsHandedOn}
use Rattle.vd_space_api.proofs.space_shifts.ledger.hand_all_on.Given as goal

abbrev pub invariant-loop-at : goal.invariant-loop-at
invariant-loop-at l = IsHandedOn l.problem l.at l.ledger
