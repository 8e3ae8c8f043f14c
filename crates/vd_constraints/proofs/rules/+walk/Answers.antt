use Rattle.std.proofs.Common.{sym, ap, ◌∙◌, subst, arith}
use Rattle.std.specs.Prelude.{IsTrue}
use Rattle.vd_constraints.specs.Scoped.{slots_below}
use Rattle.vd_constraints.specs.declared.system.Place.TheVariants.{Slot}
use Rattle.vd_core.specs.Facts.{count_of, statement_count}
use Rattle.vd_constraints.specs.Systems.{size}
use Rattle.vd_constraints.proofs.Sizes.{if_size, stmt_fits}
use Rattle.vd_constraints.proofs.Growth.{stmt_within, branch_small, small_then, small_else}
use Rattle.vd_constraints.proofs.Walks.{extends-trans, place_kept, stmt_below_at, branches_below, branch_extends, branch_place, still_below}
use Rattle.vd_constraints.proofs.rules.+walk.Goals as goal

pub add_body-add_stmt-requires : goal.add_body-add_stmt-requires
add_body-add_stmt-requires t c =
    let more = c.loop-stmt.invariant.extends in (
      omega (arith, stmt_fits c.args.body.now c.loop-stmt.stmt-index c.stmt-item.result c.loop-stmt-test.true c.stmt-item.is),
      (
        place_kept c.args.system.now c.loop-stmt.system c.args.pc more c.requires.place,
        (
          record { few_principals = c.requires.names.few_principals; same_principals = more.principals ∙ c.requires.names.same_principals },
          (
            subst (λ n. IsTrue (slots_below n c.stmt-item.result)) (sym more.slots)
                (subst (λ stmt. IsTrue (slots_below c.args.system.now.slots stmt)) (sym c.stmt-item.is)
                (stmt_below_at c.args.system.now.slots c.args.body.now c.loop-stmt.stmt-index c.stmt-item.result c.loop-stmt-test.true c.requires.slots)),
            (let small = c.requires.small in
                let same = ap size c.loop-stmt.invariant.left_is in
                let within = stmt_within c.args.body.now c.loop-stmt.stmt-index c.stmt-item.result c.args.program.now c.args.pc c.loop-stmt.system c.loop-stmt-test.true c.stmt-item.is in
                omega arith),
          ),
        ),
      ),
    )

pub add_stmt-add_body-requires : goal.add_stmt-add_body-requires
add_stmt-add_body-requires t c =
    let size = ap count_of c.in-If.is ∙ if_size c.in-If.guard c.in-If.then_block c.in-If.else_block c.in-If.field-3 in
    let same = ap statement_count c.as_slice.ensures in
    let branch = c.in_ok-branch-in-If.ensures {u = tt} in
    let more = branch_extends c.args.system.now c.add_branch.new.self (Slot c.in-If.guard) c.args.pc branch.added in
    let below = branches_below c.args.system.now.slots c.in-If.guard c.in-If.then_block c.in-If.else_block c.in-If.field-3
    (subst (λ stmt. IsTrue (slots_below c.args.system.now.slots stmt)) c.in-If.is c.requires.slots) in (
      omega arith,
      (
        branch_place c.args.system.now c.add_branch.new.self (Slot c.in-If.guard) c.args.pc branch.added c.in_ok-branch-in-If.branch branch.place,
        (
          record { few_principals = c.requires.names.few_principals; same_principals = more.principals ∙ c.requires.names.same_principals },
          (
            still_below c.args.system.now c.add_branch.new.self c.in-If.then_block c.as_slice.result.now more c.as_slice.ensures below.0,
            small_then c.in-If.guard c.in-If.then_block c.in-If.else_block c.in-If.field-3 c.args.program.now c.args.pc c.args.system.now c.add_branch.new.self c.args.stmt.now c.as_slice.result.now c.in_ok-branch-in-If.branch
                c.in-If.is branch.added branch.place c.as_slice.ensures c.requires.small,
          ),
        ),
      ),
    )

pub add_stmt-add_body-requires-in-If : goal.add_stmt-add_body-requires-in-If
add_stmt-add_body-requires-in-If t c =
    let size = ap count_of c.in-If.is ∙ if_size c.in-If.guard c.in-If.then_block c.in-If.else_block c.in-If.field-3 in
    let same = ap statement_count c.as_slice-in-If.ensures in
    let branch = c.in_ok-branch-in-If.ensures {u = tt} in
    let first = branch_extends c.args.system.now c.add_branch.new.self (Slot c.in-If.guard) c.args.pc branch.added in
    let second = (c.in_ok-add_body-in-If.ensures {u = tt}).extends in
    let more = extends-trans c.args.system.now c.add_branch.new.self c.add_body.new.system first second in
    let place = branch_place c.args.system.now c.add_branch.new.self (Slot c.in-If.guard) c.args.pc branch.added c.in_ok-branch-in-If.branch branch.place in
    let below = branches_below c.args.system.now.slots c.in-If.guard c.in-If.then_block c.in-If.else_block c.in-If.field-3
    (subst (λ stmt. IsTrue (slots_below c.args.system.now.slots stmt)) c.in-If.is c.requires.slots) in (
      omega arith,
      (
        place_kept c.add_branch.new.self c.add_body.new.system c.in_ok-branch-in-If.branch second place,
        (
          record { few_principals = c.requires.names.few_principals; same_principals = more.principals ∙ c.requires.names.same_principals },
          (
            still_below c.args.system.now c.add_body.new.system c.in-If.else_block c.as_slice-in-If.result.now more c.as_slice-in-If.ensures below.1,
            small_else c.in-If.guard c.in-If.then_block c.in-If.else_block c.in-If.field-3 c.args.program.now c.args.pc c.args.system.now c.add_branch.new.self c.args.stmt.now c.as_slice.result.now c.in_ok-branch-in-If.branch
                c.in-If.is branch.added branch.place c.as_slice.ensures c.add_body.new.system c.as_slice-in-If.result.now (c.in_ok-add_body-in-If.ensures {u = tt}).added c.as_slice-in-If.ensures c.requires.small,
          ),
        ),
      ),
    )

pub add_stmt-add_branch-requires-clause-small : goal.add_stmt-add_branch-requires-clause-small
add_stmt-add_branch-requires-clause-small t c =
    branch_small c.in-If.guard c.in-If.then_block c.in-If.else_block c.in-If.field-3 c.args.program.now c.args.pc c.args.system.now c.args.stmt.now c.in-If.is c.requires.small
