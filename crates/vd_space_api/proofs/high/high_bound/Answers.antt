use Rattle.std.proofs.Common.{subst}
use Rattle.std.proofs.lemmas.List.{take_all}
use Rattle.vd_space_prefix.specs.Tables.{AreSumsOf}
use Rattle.vd_space_prefix.proofs.Front.{max_sum}
use Rattle.vd_space_api.proofs.Along.{all_listed, step}
use Rattle.vd_space_api.proofs.high.high_bound.Goals as goal

pub grown-sums-requires-clause-step : goal.grown-sums-requires-clause-step
grown-sums-requires-clause-step c = step c.args.problem.now c.args.prefix.now c.requires.valid c.loop-slot.slot c.loop-slot-test.true

pub overflow_add-result : goal.overflow_add-result
overflow_add-result c =
    let problem = c.args.problem.now in
    let prefix = c.args.prefix.now in
    let shifts = c.args.tables.now.shifts in
    let are = subst (λ list. AreSumsOf problem shifts list c.loop-slot.sums) (take_all c.loop-slot.slot prefix c.loop-slot-test.false) c.loop-slot.invariant in
    (max_sum problem shifts prefix c.loop-slot.sums c.max.result are (c.requires.tables.small prefix (all_listed problem prefix c.requires.valid)) c.max.ensures.value).0

pub returns : goal.returns
returns c =
    let problem = c.args.problem.now in
    let prefix = c.args.prefix.now in
    let shifts = c.args.tables.now.shifts in
    let are = subst (λ list. AreSumsOf problem shifts list c.loop-slot.sums) (take_all c.loop-slot.slot prefix c.loop-slot-test.false) c.loop-slot.invariant in
    (max_sum problem shifts prefix c.loop-slot.sums c.max.result are (c.requires.tables.small prefix (all_listed problem prefix c.requires.valid)) c.max.ensures.value).1
