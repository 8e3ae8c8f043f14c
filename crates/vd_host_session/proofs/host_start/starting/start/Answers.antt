use Rattle.std.proofs.Common.{refl, sym, subst, ℕ}
use Rattle.vd_execution.specs.Ranges.{IsInRange}
use Rattle.vd_host_session.specs.declared.task.Task.{Task}
use Rattle.vd_host_session.proofs.HostStartPlaying.{program_plays}
use Rattle.vd_host_session.proofs.host_start.starting.start.Goals as goal

pub load-requires-clause-code : goal.load-requires-clause-code
load-requires-clause-code c =
    let run = c.requires.program.code in
    (run.nested, run.is_code, subst (λ (hosts : ℕ). IsInRange hosts run.nested) (sym c.requires.deal.hosts_are) run.ranges)

pub returns-clause-starts : goal.returns-clause-starts
returns-clause-starts c =
    let made = c.in_ok-machine.ensures {u = tt} in
    record { me = refl; plan = refl; addresses_are = refl; state = λ code is. made.pending code is; inputs_are = made.inputs; deal_is = made.deal }

pub returns-clause-ready : goal.returns-clause-ready
returns-clause-ready c =
    let run = c.requires.program.code in
    let task : Task = record { me = c.args.program.me; plan = c.args.program.plan.bytes; addresses = c.args.addresses } in
    let fits = program_plays c.args.program c.requires.program.read.0 c.requires.program.read.1 c.requires.program.heading run task c.in_ok-machine.machine refl c.requires.addresses ((c.in_ok-machine.ensures {u = tt}).pending run.nested run.is_code) in
    record { few = fits.few; own = fits.own; packets = fits.packets; short = fits.short }
