use Rattle.std.proofs.Common.{length, sym, ◌∙◌}
use Rattle.vd_cost_network_tables.specs.Tables.{is_kept}
use Rattle.vd_cost_network_tables.proofs.Bringing.{any_passed, any_found, any_ended}
use Rattle.vd_cost_network_tables.proofs.switches.is_any_kept.Goals as goal

pub returns-then-is_kept : goal.returns-then-is_kept
returns-then-is_kept c =
    sym (any_found (is_kept c.args.list.now c.args.tests.now c.args.host) c.loop-place.place (length c.args.tests.now) c.loop-place-test.true (sym c.is_kept.ensures ∙ c.if-is_kept.true)) ∙ c.loop-place.invariant

pub loop-place-preserved : goal.loop-place-preserved
loop-place-preserved c =
    sym (any_passed (is_kept c.args.list.now c.args.tests.now c.args.host) c.loop-place.place (length c.args.tests.now) c.loop-place-test.true (sym c.is_kept.ensures ∙ c.if-is_kept.false)) ∙ c.loop-place.invariant

pub returns : goal.returns
returns c = sym (any_ended (is_kept c.args.list.now c.args.tests.now c.args.host) c.loop-place.place (length c.args.tests.now) c.loop-place-test.false) ∙ c.loop-place.invariant
