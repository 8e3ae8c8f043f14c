use Rattle.std.proofs.Common.{◌<◌, ◌≤◌, length, refl, sym, ap, ◌∙◌, subst, arith}
use Rattle.std.specs.Prelude.{slice_set}
use Rattle.std.proofs.lemmas.Option.{slice_get_read}
use Rattle.std.proofs.lemmas.List.{length-set}
use Rattle.vd_execution.specs.World.{left}
use Rattle.vd_world.specs.Hosts.{world_of, supply_of, steps_left, Reaches}
use Rattle.vd_world.proofs.Quieter.{ran_on}
use Rattle.vd_world.proofs.Worlds.{supply_stays}
use Rattle.vd_world.proofs.world.World.run_at.Goals as goal

pub returns-clause-supply : goal.returns-clause-supply
returns-clause-supply c =
    let v = c.self.inside.hosts in
    let h = c.args.at in
    let less : h < length v.items = omega (arith, c.if-len-at.false, c.len.ensures, v.ok.0) in
    let there = slice_get_read v.items (length v.items) h c.index_mut.result.now refl less c.index_mut.ensures.value in
    supply_stays v.items h c.index_mut.result.now c.run.new.self there c.run.ensures.lists ∙ ap supply_of c.self.view_is

pub returns-clause-reached : goal.returns-clause-reached
returns-clause-reached c =
    let v = c.self.inside.hosts in
    let less : c.args.at < length v.items = omega (arith, c.if-len-at.false, c.len.ensures, v.ok.0) in
    let there = slice_get_read v.items (length v.items) c.args.at c.index_mut.result.now refl less c.index_mut.ensures.value in
    let ran = ran_on v.items c.args.at c.index_mut.result.now c.run.new.self there c.run.ensures.rest c.run.ensures.steps in
    let later = slice_set v.items c.args.at c.run.new.self in
    subst (λ l. Reaches (supply_of l) (world_of l) (world_of later)) c.self.view_is ran.reached

pub returns-clause-no_more : goal.returns-clause-no_more
returns-clause-no_more c =
    let v = c.self.inside.hosts in
    let less : c.args.at < length v.items = omega (arith, c.if-len-at.false, c.len.ensures, v.ok.0) in
    let there = slice_get_read v.items (length v.items) c.args.at c.index_mut.result.now refl less c.index_mut.ensures.value in
    let ran = ran_on v.items c.args.at c.index_mut.result.now c.run.new.self there c.run.ensures.rest c.run.ensures.steps in
    let later = slice_set v.items c.args.at c.run.new.self in
    subst (λ l. steps_left later ≤ steps_left l) c.self.view_is
    (subst (λ n. left n (world_of later) ≤ steps_left v.items) (sym (length-set v.items c.args.at c.run.new.self)) ran.no_more)
