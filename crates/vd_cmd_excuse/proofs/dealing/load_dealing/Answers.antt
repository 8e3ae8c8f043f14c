use Rattle.std.proofs.Common.{◌≡◌, ℕ, ◌+◌, ◌∷◌, [], IsTrue, length, length-append, sym, ap, subst, arith}
use Rattle.std.proofs.lemmas.Result.{err_from_is_err_and}
use Rattle.vd_tape.specs.Text.{AreDealsOf, IsDealOf}
use Rattle.vd_tape.proofs.Front.{more_deals}
use Rattle.vd_cmd_excuse.specs.declared.dealing.Dealing.{Dealing}
use Rattle.vd_cmd_excuse.specs.Dealing.{HoldDealing, with_dealt}
use Rattle.vd_cmd_excuse.proofs.AllDeals.{GoesOn, all_there, no_memory, one_held, one_more, stops}
use Rattle.vd_cmd_excuse.proofs.dealing.load_dealing.Goals as goal

pub returns-in_err-dealt-clause-loads : goal.returns-in_err-dealt-clause-loads
returns-in_err-dealt-clause-loads g c =
    let p = err_from_is_err_and c.from_residual.result c.from_residual.ensures.1 in
    rw (p.1, p.2)
    (stops c.args.prefix.now c.args.names.now (g.F.Files.view c.args.files.now) (g.F.Files.view c.loop-number.files) (g.F.Files.view c.load_dealt.new.files) c.loop-number.number c.index-names-number.result c.loop-number.dealing
    c.in_err-dealt.field-0.0 c.loop-number-test.true c.index-names-number.is c.loop-number.invariant.goes_on (c.in_err-dealt.ensures {u = tt}).loads)

pub returns-in_err-push_dealt-clause-loads : goal.returns-in_err-push_dealt-clause-loads
returns-in_err-push_dealt-clause-loads g c =
    let p = err_from_is_err_and c.from_residual-in_err-push_dealt.result c.from_residual-in_err-push_dealt.ensures.1 in
    rw (p.1, p.2)
    (no_memory c.args.prefix.now c.args.names.now (g.F.Files.view c.args.files.now) (g.F.Files.view c.load_dealt.new.files) (c.loop-number.number + 1) (with_dealt c.loop-number.dealing c.in_ok-dealt.dealt)
    (one_more c.args.prefix.now c.args.names.now (g.F.Files.view c.args.files.now) (g.F.Files.view c.loop-number.files) (g.F.Files.view c.load_dealt.new.files) c.loop-number.number c.index-names-number.result c.loop-number.dealing
    c.in_ok-dealt.dealt c.loop-number-test.true c.index-names-number.is c.loop-number.invariant.goes_on (c.in_ok-dealt.ensures {u = tt}).loads))

pub loop-number-preserved : goal.loop-number-preserved
loop-number-preserved g c =
    let after = c.in_ok-push_dealt.ensures {u = tt} in
    let more : c.push_dealt.new.dealing ≡ with_dealt c.loop-number.dealing c.in_ok-dealt.dealt = λ i. record { deals = after.deals i; secrets = after.secrets i } in
    record {
      goes_on =
          subst (λ (ds : Dealing). GoesOn c.args.prefix.now c.args.names.now (g.F.Files.view c.args.files.now) (g.F.Files.view c.load_dealt.new.files) (c.loop-number.number + 1) ds) (sym more)
          (one_more c.args.prefix.now c.args.names.now (g.F.Files.view c.args.files.now) (g.F.Files.view c.loop-number.files) (g.F.Files.view c.load_dealt.new.files) c.loop-number.number c.index-names-number.result c.loop-number.dealing
          c.in_ok-dealt.dealt c.loop-number-test.true c.index-names-number.is c.loop-number.invariant.goes_on (c.in_ok-dealt.ensures {u = tt}).loads);
      deals =
          subst (λ (ds : Dealing). AreDealsOf (length c.args.names.now) ds.deals) (sym more)
          (more_deals (length c.args.names.now) c.loop-number.dealing.deals c.in_ok-dealt.dealt.deal c.loop-number.invariant.deals
          (subst (λ (n : ℕ). IsDealOf (length c.args.names.now) n c.in_ok-dealt.dealt.deal) (sym c.loop-number.invariant.count) (c.in_ok-dealt.ensures {u = tt}).deal));
      count =
          let longer = ap (λ (ds : Dealing). length ds.deals) more in
          let one = length-append c.loop-number.dealing.deals (c.in_ok-dealt.dealt.deal ∷ []) in
          omega (arith, longer, one);
      both =
          let longer = ap (λ (ds : Dealing). length ds.secrets) more in
          let one = length-append c.loop-number.dealing.secrets (c.in_ok-dealt.dealt.secrets ∷ []) in
          omega (arith, longer, one);
      held =
          subst (λ (ds : Dealing). IsTrue (g.F.Files.view c.args.files.now).told → HoldDealing c.args.prefix.now (length c.args.names.now) (g.F.Files.view c.args.files.now).contents ds) (sym more)
          (one_held c.args.prefix.now c.args.names.now (g.F.Files.view c.args.files.now) (g.F.Files.view c.loop-number.files) c.loop-number.number c.loop-number.dealing c.in_ok-dealt.dealt c.loop-number.invariant.goes_on
          c.loop-number.invariant.count c.loop-number.invariant.both c.loop-number.invariant.held (c.in_ok-dealt.ensures {u = tt}).given);
    }

pub returns-clause-loads : goal.returns-clause-loads
returns-clause-loads g c =
    all_there c.args.prefix.now c.args.names.now (g.F.Files.view c.args.files.now) (g.F.Files.view c.loop-number.files) c.loop-number.number c.loop-number.dealing c.loop-number-test.false c.loop-number.invariant.goes_on

pub returns-clause-given : goal.returns-clause-given
returns-clause-given g c = c.loop-number.invariant.held
