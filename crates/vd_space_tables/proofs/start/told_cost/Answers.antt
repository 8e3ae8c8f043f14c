use Rattle.std.proofs.Common.{ap, sym, subst, ◌∙◌, ◌<◌, length, [], w64}
use Rattle.std.proofs.lemmas.Int.{to_z-of_z}
use Rattle.std.proofs.lemmas.List.Elements.{All-nil}
use Rattle.vd_space.specs.Validity.{protocols}
use Rattle.vd_space_prefix.specs.Guards.{IsTelling, guard_under}
use Rattle.vd_space_tables.proofs.Told.{guard_is, telling_small}
use Rattle.vd_space_tables.proofs.start.told_cost.Goals as goal

pub guard_cost-requires-clause-telling : goal.guard_cost-requires-clause-telling
guard_cost-requires-clause-telling c = subst IsTelling (sym c.requires.telling) (telling_small c.args.problem.now c.args.guard.now c.requires.list.labelled c.requires.weight)

pub returns-clause-cost : goal.returns-clause-cost
returns-clause-cost c =
    let problem = c.args.problem.now in
    let guard = c.args.guard.now in
    to_z-of_z w64 c.guard_cost.result (record { sfits = c.guard_cost.type_inv })
    ∙ c.guard_cost.ensures.cost
    ∙ ap (guard_under problem [] guard) c.requires.telling
    ∙ guard_is problem guard [] (All-nil (λ p. p < length (protocols problem)))
