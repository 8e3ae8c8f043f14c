use Rattle.std.proofs.Common.{refl, ap}
use Rattle.vd_execution.specs.Step.{need}
use Rattle.vd_execution.specs.World.{given}
use Rattle.vd_machine.specs.Kept.{state_of}
use Rattle.vd_machine.specs.Machines.{cursors_of}
use Rattle.vd_machine.specs.declared.want.Want.TheVariants as want
use Rattle.vd_world.specs.Hosts.{local_of, lists_of, world_of, supply_of}
use Rattle.vd_world.proofs.Hearing.{goes_alone, stopped}
use Rattle.vd_world.proofs.heard.heard.Goals as goal

pub returns-in-ShortDeal-clause-hears : goal.returns-in-ShortDeal-clause-hears
returns-in-ShortDeal-clause-hears c =
    let k = c.args.host.now in
    stopped (given (supply_of c.args.hosts.now) (world_of c.args.hosts.now) c.args.h (local_of k)) k.machine.lists (cursors_of k.machine.taken) (need (state_of k.machine))
    (want.ShortDeal c.in-ShortDeal.field-0 c.in-ShortDeal.field-1 c.in-ShortDeal.field-2) (ap lists_of c.requires) c.in-ShortDeal.ensures.need refl

pub returns-in-Nothing-clause-hears : goal.returns-in-Nothing-clause-hears
returns-in-Nothing-clause-hears c =
    let k = c.args.host.now in
    let g = given (supply_of c.args.hosts.now) (world_of c.args.hosts.now) c.args.h (local_of k) in
    (c.in-Nothing.ensures.need, (goes_alone g k.machine.lists (cursors_of k.machine.taken) (need (state_of k.machine)) (ap lists_of c.requires) c.in-Nothing.ensures.need).given)
