use Rattle.std.proofs.Common.{true, false, sym, ap, ap₂, ◌∙◌, subst, arith}
use Rattle.vd_tape.specs.declared.deal_items.deal.Counts.{Counts}
use Rattle.vd_tape.specs.Made.{AreCounts, made_deals}
use Rattle.vd_cmd_trial.specs.Trial.{trial_inputs}
use Rattle.vd_cmd_trial.proofs.Given.{asked_again}
use Rattle.vd_cmd_trial.proofs.asking.asked_by.Goals as goal

pub make-requires : goal.make-requires
make-requires c = subst AreCounts (sym c.sizes-counts.ensures) c.requires.counts

pub returns-clause-made : goal.returns-clause-made
returns-clause-made c =
    let inputs = c.in_ok-inputs.ensures {u = tt} ∙ ap₂ trial_inputs (ap (λ (k : Counts). k.hosts) c.sizes-counts.ensures) c.most_inputs.ensures in
    let deals = (c.in_ok-deals.ensures {u = tt}).made ∙ ap₂ made_deals c.sizes-counts.ensures c.from.ensures in
    λ i. record { inputs = inputs i; deals = deals i; schedule = record { entries = c.new.ensures i; all = true }; messages = false }

pub returns-clause-asked : goal.returns-clause-asked
returns-clause-asked c =
    let inputs = c.in_ok-inputs.ensures {u = tt} ∙ ap₂ trial_inputs (ap (λ (k : Counts). k.hosts) c.sizes-counts.ensures) c.most_inputs.ensures in
    let deals = (c.in_ok-deals.ensures {u = tt}).made ∙ ap₂ made_deals c.sizes-counts.ensures c.from.ensures in
    let most = c.requires.inputs in
    let are = asked_again c.args.needs.now c.args.key c.requires.few (omega (arith, most)) c.in_ok-inputs.inputs c.in_ok-deals.deals inputs deals (c.in_ok-deals.ensures {u = tt}).valid in
    record { few = are.few; inputs = are.inputs; words = are.words; all = are.all; deals = are.deals }
