use Rattle.std.proofs.Common.{refl, pos, ◌-ℤ◌, ◌∙◌, w64}
use Rattle.std.proofs.lemmas.Int.{to_z-of_z}
use Rattle.vd_space_prefix.specs.Guards.{guard_under}
use Rattle.vd_space_prefix.proofs.Found.{found, missing}
use Rattle.vd_space_prefix.proofs.guards.change_of.Goals as goal

pub returns-in-Some-clause-change : goal.returns-in-Some-clause-change
returns-in-Some-clause-change c =
    let lookup = c.in-Some.ensures.lookup in
    to_z-of_z w64 c.growth_of_guard.result (record { sfits = c.growth_of_guard.type_inv })
    ∙ found (λ t. guard_under c.args.problem.now c.args.after.now c.args.guard.now t -ℤ guard_under c.args.problem.now c.args.before.now c.args.guard.now t) c.args.tellings.now c.args.tellings.now refl c.args.number (pos 0) c.in-Some.telling.now c.growth_of_guard.result lookup.0 lookup.1 c.growth_of_guard.ensures.growth

pub returns-in-None-clause-change : goal.returns-in-None-clause-change
returns-in-None-clause-change c =
    missing (λ t. guard_under c.args.problem.now c.args.after.now c.args.guard.now t -ℤ guard_under c.args.problem.now c.args.before.now c.args.guard.now t) c.args.tellings.now c.args.tellings.now refl c.args.number (pos 0) c.in-None.ensures.lookup.3
