use Rattle.std.proofs.Common.{pos, slice_get, ◌∙◌, w64}
use Rattle.std.proofs.lemmas.Int.{to_z-of_z}
use Rattle.vd_space_prefix.specs.Guards.{change_of_guard}
use Rattle.vd_space_prefix.proofs.Found.{found, missing}
use Rattle.vd_space_prefix.proofs.guards.change_at.Goals as goal

pub returns-in-Some-clause-change : goal.returns-in-Some-clause-change
returns-in-Some-clause-change c =
    let lookup = c.in-Some.ensures.lookup in
    to_z-of_z w64 c.change_of.result (record { sfits = c.change_of.type_inv })
    ∙ found (λ guard. change_of_guard c.args.problem.now c.args.before.now c.args.after.now guard (slice_get c.args.tellings.now c.args.number)) c.args.problem.now.guards c.as_slice.result.now c.as_slice.ensures c.args.number (pos 0) c.in-Some.guard.now c.change_of.result lookup.0 lookup.1 c.change_of.ensures.change

pub returns-in-None-clause-change : goal.returns-in-None-clause-change
returns-in-None-clause-change c =
    missing (λ guard. change_of_guard c.args.problem.now c.args.before.now c.args.after.now guard (slice_get c.args.tellings.now c.args.number)) c.args.problem.now.guards c.as_slice.result.now c.as_slice.ensures c.args.number (pos 0) c.in-None.ensures.lookup.3
