use Rattle.std.proofs.Common.{arith, slice_index_or, refl, ◌∙◌}
use Rattle.std.proofs.lemmas.List.{get_or_default}
use Rattle.std.proofs.lemmas.Result.{err_from_is_err_and}
use Rattle.std.proofs.lemmas.Grind.{common_steps}
use Rattle.vd_host_children.proofs.Children.{no_place, none_read, not_read_well, read_more}
use Rattle.vd_host_children.proofs.running.read_all.Goals as goal

pub loop-number-init : goal.loop-number-init
loop-number-init g c = record { read = none_read c.args.children.now _ _ c.new-printed.ensures; count = grind (arith, common_steps); given = refl }

pub loop-number-preserved : goal.loop-number-preserved
loop-number-preserved g c =
    let i = c.loop-number.invariant in
    let s = c.in_ok-read.ensures {u = tt} in
    record {
      read = rw c.in_ok-push.ensures.ok (read_more c.args.children.now c.loop-number.printed c.in_ok-read.field-0 c.loop-number.number (slice_index_or c.args.children.now c.loop-number.number 0) _ _ _ c.loop-number-test.true (get_or_default c.args.children.now c.loop-number.number 0 (slice_index_or c.args.children.now c.loop-number.number 0) c.loop-number-test.true) i.count i.read s.reads);
      count = grind (arith, common_steps);
      given = c.read.ensures.given ∙ i.given;
    }

pub returns-in_err-read : goal.returns-in_err-read
returns-in_err-read g c =
    let i = c.loop-number.invariant in
    let p = err_from_is_err_and c.from_residual.result c.from_residual.ensures.1 in
    rw (p.1, p.2) (not_read_well c.args.children.now c.loop-number.printed c.loop-number.number (slice_index_or c.args.children.now c.loop-number.number 0) _ _ _ _ c.loop-number-test.true (get_or_default c.args.children.now c.loop-number.number 0 (slice_index_or c.args.children.now c.loop-number.number 0) c.loop-number-test.true) i.count i.read (c.in_err-read.ensures {u = tt}).reads)

pub returns-in_err-push : goal.returns-in_err-push
returns-in_err-push g c =
    let i = c.loop-number.invariant in
    let p = err_from_is_err_and c.from_residual-in_err-push.result c.from_residual-in_err-push.ensures.1 in
    rw (p.1, p.2) (no_place c.args.children.now c.loop-number.printed _ c.loop-number.number (slice_index_or c.args.children.now c.loop-number.number 0) _ _ _ c.loop-number-test.true (get_or_default c.args.children.now c.loop-number.number 0 (slice_index_or c.args.children.now c.loop-number.number 0) c.loop-number-test.true) i.count i.read (c.in_ok-read.ensures {u = tt}).reads)
