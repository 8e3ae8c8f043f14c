use Rattle.std.proofs.Common.{◌≡◌, ◌+◌, ◌<◌, length, sym, ap, ◌∙◌, subst, arith, List}
use Rattle.vd_base.specs.declared.ids.HostId.{HostId}
use Rattle.vd_space_prefix.specs.Transfers.{by_place}
use Rattle.vd_space_prefix.proofs.Front.{grows}
use Rattle.vd_space.specs.declared.problem.Guard.{Guard}
use Rattle.vd_space.specs.Points.{switch_of}
use Rattle.vd_space.specs.Arcs.{switch_value}
use Rattle.vd_cost_network_prefix.specs.States.{count_of_points}
use Rattle.vd_cost_network_tables.proofs.Front.{named_guard, named_inside, switch_at, switches_size}
use Rattle.vd_cost_network_bound.specs.Bounds.{values_at}
use Rattle.vd_cost_network_bound.proofs.Owned.{switch_values_are}
use Rattle.vd_cost_network_bound.proofs.values.push_switch_values.Goals as goal

pub bounds-guards-switch : goal.bounds-guards-switch
bounds-guards-switch c =
    let problem = c.args.problem.now in
    let w = switch_at problem c.requires.holds c.args.switches.now c.requires.switches c.loop-number.number c.loop-number-test.true c.index-switches-number.result c.index-switches-number.is in
    subst (λ (guards : List Guard). c.index-switches-number.result.guard < length guards) (sym c.as_slice-guards.ensures) (named_inside problem.guards c.index-switches-number.result.guard w.0.guard w.2.guard)

pub switch_values-requires-clause-host : goal.switch_values-requires-clause-host
switch_values-requires-clause-host c =
    let problem = c.args.problem.now in
    let w = switch_at problem c.requires.holds c.args.switches.now c.requires.switches c.loop-number.number c.loop-number-test.true c.index-switches-number.result c.index-switches-number.is in
    subst (λ (h : HostId). h.0 < length problem.hosts) (sym w.2.host) w.2.known

pub loop-number-preserved : goal.loop-number-preserved
loop-number-preserved c =
    let problem = c.args.problem.now in
    let number = c.loop-number.number in
    let point = length problem.slots + number in
    let w = switch_at problem c.requires.holds c.args.switches.now c.requires.switches number c.loop-number-test.true c.index-switches-number.result c.index-switches-number.is in
    let guard = named_guard problem.guards c.as_slice-guards.result.now c.index-switches-number.result.guard c.index-guards-switch.result w.0.guard c.as_slice-guards.ensures c.index-guards-switch.is w.2.guard in
    let after : point + 1 ≡ length problem.slots + (number + 1) = omega arith in
    grows (values_at problem) point c.loop-number.values c.push.new.self c.in_ok-switch_values.field-0 c.loop-number.invariant
    (c.in_ok-switch_values.ensures ∙ (λ i. by_place 2 (λ v. switch_value problem v (switch_of (guard i) (w.2.host i)))) ∙ switch_values_are problem number w.0 w.1)
    c.in_ok-push.ensures.ok
    ∙ ap (λ n. by_place n (values_at problem)) after

pub returns : goal.returns
returns c =
    let problem = c.args.problem.now in
    let many = switches_size problem c.requires.holds c.args.switches.now c.requires.switches in
    let all : length problem.slots + c.loop-number.number ≡ count_of_points problem = omega (arith, many) in
    c.loop-number.invariant ∙ ap (λ n. by_place n (values_at problem)) all
