use Rattle.std.proofs.Common.{◌<◌, refl, sym, ◌∙◌, subst, length, arith}
use Rattle.vd_space.proofs.Front.{on_ok}
use Rattle.vd_space_api.specs.Ledger.{AreSmall, AreSmallTerms}
use Rattle.vd_space_api.proofs.Handing.{amounts_small, givens_few, given_is, handed_is, row_read, taken_small}
use Rattle.vd_space_api.proofs.space_shifts.ledger.Ledger.hand_on.Goals as goal

pub givens-requires-clause-taken : goal.givens-requires-clause-taken
givens-requires-clause-taken c = subst AreSmall (sym (c.as_slice-3.ensures ∙ c.in_ok-taken.ensures.taken)) (amounts_small c.args.self.now.terms c.from-target.result c.requires.ledger.small)

pub give-requires-clause-places : goal.give-requires-clause-places
give-requires-clause-places c =
    givens_few c.args.list.now c.args.u.now.weight c.as_slice.result.now c.as_slice-2.result.now c.as_slice-3.result.now c.as_slice-4.result.now (c.as_slice-4.ensures ∙ c.in_ok-given.ensures) c.requires.ledger.few

pub give-requires-clause-given : goal.give-requires-clause-given
give-requires-clause-given c =
    let candidates = c.args.candidates.now in
    let low_source : c.from-source.result < length candidates = omega (arith, c.from-source.ensures, c.requires.source, c.requires.ledger.slots) in
    let low_target : c.from-target.result < length candidates = omega (arith, c.from-target.ensures, c.requires.target, c.requires.ledger.slots) in
    let is = given_is c.args.list.now candidates c.args.u.now c.args.self.now c.from-source.result c.from-target.result c.as_slice.result.now c.as_slice-2.result.now c.as_slice-3.result.now c.as_slice-4.result.now
    c.from-source.ensures c.from-target.ensures
    (row_read candidates candidates c.index-candidates-source.result c.as_slice.result.now c.from-source.result refl c.index-candidates-source.is low_source c.as_slice.ensures)
    (row_read candidates candidates c.index-candidates-target.result c.as_slice-2.result.now c.from-target.result refl c.index-candidates-target.is low_target c.as_slice-2.ensures)
    (c.as_slice-3.ensures ∙ c.in_ok-taken.ensures.taken) (c.as_slice-4.ensures ∙ c.in_ok-given.ensures) in
    subst AreSmall (sym is) c.requires.given

pub give-requires-clause-small : goal.give-requires-clause-small
give-requires-clause-small c = subst (λ l. AreSmallTerms l.terms) (sym c.in_ok-taken.ensures.ledger) (taken_small c.args.self.now.terms c.from-target.result c.requires.ledger.small)

pub returns : goal.returns
returns c =
    let candidates = c.args.candidates.now in
    let low_source : c.from-source.result < length candidates = omega (arith, c.from-source.ensures, c.requires.source, c.requires.ledger.slots) in
    let low_target : c.from-target.result < length candidates = omega (arith, c.from-target.ensures, c.requires.target, c.requires.ledger.slots) in
    let is = given_is c.args.list.now candidates c.args.u.now c.args.self.now c.from-source.result c.from-target.result c.as_slice.result.now c.as_slice-2.result.now c.as_slice-3.result.now c.as_slice-4.result.now
    c.from-source.ensures c.from-target.ensures
    (row_read candidates candidates c.index-candidates-source.result c.as_slice.result.now c.from-source.result refl c.index-candidates-source.is low_source c.as_slice.ensures)
    (row_read candidates candidates c.index-candidates-target.result c.as_slice-2.result.now c.from-target.result refl c.index-candidates-target.is low_target c.as_slice-2.ensures)
    (c.as_slice-3.ensures ∙ c.in_ok-taken.ensures.taken) (c.as_slice-4.ensures ∙ c.in_ok-given.ensures) in
    on_ok c.give.result
    (λ after_is. handed_is c.args.list.now candidates c.args.at c.args.u.now c.args.self.now c.take.new.self c.give.new.self c.from-source.result c.from-target.result c.as_slice-4.result.now
    c.from-source.ensures c.from-target.ensures c.in_ok-taken.ensures.ledger is after_is) c.give.ensures
