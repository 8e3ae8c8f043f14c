use Rattle.vd_rewrite.specs.Rewriting.{marked}
use Rattle.vd_diag_terminal.proofs.Arms.{own_found, front_found, back_left, in_for}
use Rattle.vd_diag_terminal.proofs.diag_branches.hidden.+branch.Goals as goal

pub branch_in-returns-in-Some : goal.branch_in-returns-in-Some
branch_in-returns-in-Some t c =
    own_found (marked c.args.hidden.now) c.args.stmt.now c.in-If.guard c.in-If.then_block c.in-If.else_block c.as_slice-then_block.result.now c.as_slice-else_block.result.now c.in-If.offset c.in-If.is c.as_slice-then_block.ensures c.as_slice-else_block.ensures
    c.own_branch.result c.own_branch.ensures c.in-Some.branch c.in-Some.is

pub branch_in-returns-in-Some-first_branch : goal.branch_in-returns-in-Some-first_branch
branch_in-returns-in-Some-first_branch t c =
    front_found (marked c.args.hidden.now) c.args.stmt.now c.in-If.guard c.in-If.then_block c.in-If.else_block c.as_slice-then_block.result.now c.as_slice-else_block.result.now c.in-If.offset c.in-If.is c.as_slice-then_block.ensures c.as_slice-else_block.ensures
    c.own_branch.result c.own_branch.ensures c.first_branch.result c.in-Some-first_branch.branch c.first_branch.ensures c.in-None.is c.in-Some-first_branch.is

pub branch_in-returns-in-None-first_branch : goal.branch_in-returns-in-None-first_branch
branch_in-returns-in-None-first_branch t c =
    back_left (marked c.args.hidden.now) c.args.stmt.now c.in-If.guard c.in-If.then_block c.in-If.else_block c.as_slice-then_block.result.now c.as_slice-else_block.result.now c.in-If.offset c.in-If.is c.as_slice-then_block.ensures c.as_slice-else_block.ensures
    c.own_branch.result c.own_branch.ensures c.first_branch.result c.first_branch-in-None-first_branch.result c.first_branch.ensures c.first_branch-in-None-first_branch.ensures c.in-None.is c.in-None-first_branch.is

pub branch_in-returns-in-For : goal.branch_in-returns-in-For
branch_in-returns-in-For t c = in_for (marked c.args.hidden.now) c.args.stmt.now c.in-For.field-0 c.in-For.body c.as_slice.result.now c.first_branch-in-For.result c.in-For.is c.as_slice.ensures c.first_branch-in-For.ensures
