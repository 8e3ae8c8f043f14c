use Rattle.std.proofs.Common.{◌≡◌, List, ℕ, subst}
use Rattle.std.specs.Prelude.{IfOk}
use Rattle.vd_tape.specs.Made.{keyed_deals}
use Rattle.vd_tape.proofs.making.make.Goals as goal

pub returns-clause-made : goal.returns-clause-made
returns-clause-made c =
    subst (λ (key : List ℕ). IfOk c.make_by_key.result (λ deals. deals ≡ keyed_deals c.args.counts key)) c.number_key.ensures c.make_by_key.ensures.made
