use Rattle.std.proofs.Common.{ℕ, ◌+◌, ◌∷◌, ◌++◌, [], IsTrue, List, length, length-append, sym, ap, subst, arith}
use Rattle.std.proofs.lemmas.Result.{err_from_is_err_and}
use Rattle.vd_tape.specs.declared.deal_items.deal.Deal.{Deal}
use Rattle.vd_tape.specs.Text.{AreDealsOf, IsDealOf}
use Rattle.vd_tape.proofs.Front.{more_deals}
use Rattle.vd_cmd_files.specs.Deals.{HoldDeals}
use Rattle.vd_cmd_files.proofs.Loops.{GoesOn, all_there, no_memory, one_held, one_more, stops}
use Rattle.vd_cmd_files.proofs.deals.load_deals.Goals as goal

pub returns-in_err-deal-clause-loads : goal.returns-in_err-deal-clause-loads
returns-in_err-deal-clause-loads g c = λ outcomes.
    let p = err_from_is_err_and c.from_residual.result c.from_residual.ensures.1 in
    rw (p.1, p.2)
    (stops c.args.prefix.now c.args.names.now (g.F.Files.view c.args.files.now) (g.F.Files.view c.loop-number.files) (g.F.Files.view c.load_deal.new.files) c.loop-number.number c.index-names-number.result c.loop-number.deals
    c.in_err-deal.field-0.0 c.loop-number-test.true c.index-names-number.is c.loop-number.invariant.goes_on (c.in_err-deal.ensures {u = tt}).loads outcomes)

pub returns-in_err-push-clause-loads : goal.returns-in_err-push-clause-loads
returns-in_err-push-clause-loads g c = λ outcomes.
    let p = err_from_is_err_and c.from_residual-in_err-push.result c.from_residual-in_err-push.ensures.1 in
    rw (p.1, p.2)
    (no_memory c.args.prefix.now c.args.names.now (g.F.Files.view c.args.files.now) (g.F.Files.view c.load_deal.new.files) (c.loop-number.number + 1) (c.loop-number.deals ++ c.in_ok-deal.deal ∷ [])
    (one_more c.args.prefix.now c.args.names.now (g.F.Files.view c.args.files.now) (g.F.Files.view c.loop-number.files) (g.F.Files.view c.load_deal.new.files) c.loop-number.number c.index-names-number.result c.loop-number.deals
    c.in_ok-deal.deal c.loop-number-test.true c.index-names-number.is c.loop-number.invariant.goes_on (c.in_ok-deal.ensures {u = tt}).loads) outcomes)

pub loop-number-preserved : goal.loop-number-preserved
loop-number-preserved g c = record {
  goes_on =
      subst (λ (ds : List Deal). GoesOn c.args.prefix.now c.args.names.now (g.F.Files.view c.args.files.now) (g.F.Files.view c.load_deal.new.files) (c.loop-number.number + 1) ds) (sym c.in_ok-push.ensures.ok)
      (one_more c.args.prefix.now c.args.names.now (g.F.Files.view c.args.files.now) (g.F.Files.view c.loop-number.files) (g.F.Files.view c.load_deal.new.files) c.loop-number.number c.index-names-number.result c.loop-number.deals
      c.in_ok-deal.deal c.loop-number-test.true c.index-names-number.is c.loop-number.invariant.goes_on (c.in_ok-deal.ensures {u = tt}).loads);
  deals =
      subst (λ (ds : List Deal). AreDealsOf (length c.args.names.now) ds) (sym c.in_ok-push.ensures.ok)
      (more_deals (length c.args.names.now) c.loop-number.deals c.in_ok-deal.deal c.loop-number.invariant.deals
      (subst (λ (n : ℕ). IsDealOf (length c.args.names.now) n c.in_ok-deal.deal) (sym c.loop-number.invariant.count) (c.in_ok-deal.ensures {u = tt}).deal));
  count =
      let more = ap (λ (ds : List Deal). length ds) c.in_ok-push.ensures.ok in
      let one = length-append c.loop-number.deals (c.in_ok-deal.deal ∷ []) in
      omega (arith, more, one);
  held =
      subst (λ (ds : List Deal). IsTrue (g.F.Files.view c.args.files.now).told → HoldDeals c.args.prefix.now (length c.args.names.now) (g.F.Files.view c.args.files.now).contents ds) (sym c.in_ok-push.ensures.ok)
      (one_held c.args.prefix.now c.args.names.now (g.F.Files.view c.args.files.now) (g.F.Files.view c.loop-number.files) c.loop-number.number c.loop-number.deals c.in_ok-deal.deal c.loop-number.invariant.goes_on
      c.loop-number.invariant.count c.loop-number.invariant.held (c.in_ok-deal.ensures {u = tt}).given);
}

pub returns-clause-loads : goal.returns-clause-loads
returns-clause-loads g c = λ outcomes.
    all_there c.args.prefix.now c.args.names.now (g.F.Files.view c.args.files.now) (g.F.Files.view c.loop-number.files) c.loop-number.number c.loop-number.deals c.loop-number-test.false c.loop-number.invariant.goes_on outcomes

pub returns-clause-given : goal.returns-clause-given
returns-clause-given g c = c.loop-number.invariant.held
