use Rattle.std.proofs.Common.{refl}
use Rattle.vd_cmd.specs.Commands.{form_of}
use Rattle.vd_cmd_host.specs.Hosts.{nets_of}
use Rattle.vd_top.proofs.Answering.{within_limits}
use Rattle.vd_top.proofs.Telling.{does_by, does_nothing, does_refused, silent_by}
use Rattle.vd_top.proofs.entry.run_words.Goals as goal

pub returns-in-Ok-clause-does : goal.returns-in-Ok-clause-does
returns-in-Ok-clause-does g c = does_by (form_of c.args.words.now) c.in-Ok.command c.in-Ok.ensures.command _ c.run_command.result c.run_command.ensures.does

pub returns-in-Ok-clause-net_untouched : goal.returns-in-Ok-clause-net_untouched
returns-in-Ok-clause-net_untouched g c = λ e. c.run_command.ensures.net_untouched (silent_by (form_of c.args.words.now) c.in-Ok.command c.in-Ok.ensures.command e)

pub returns-in-Err-Usage-clause-does : goal.returns-in-Err-Usage-clause-does
returns-in-Err-Usage-clause-does g c =
    let none = rw c.in-Err-Usage.field-0-is at c.in-Err-Usage.ensures.usage in
    does_refused (g.F.Files.view c.args.outside.now.files) (g.M.Marks.view c.args.outside.now.marks) (g.O.Sink.view c.args.outside.now.out) (g.E.Sink.view c.args.outside.now.err)
    (nets_of (g.N.Net.view c.args.outside.now.net.net) c.args.outside.now.net.ledger c.args.outside.now.net.faults) (g.S.Spawner.view c.args.outside.now.spawner) c.args.outside.now.packets (form_of c.args.words.now) (none.0 refl)

pub returns-in-Err-Memory-clause-does : goal.returns-in-Err-Memory-clause-does
returns-in-Err-Memory-clause-does g c =
    let none = rw c.in-Err-Memory.field-0-is at c.in-Err-Memory.ensures.usage in
    does_nothing (g.F.Files.view c.args.outside.now.files) (g.M.Marks.view c.args.outside.now.marks) (g.O.Sink.view c.args.outside.now.out) (g.E.Sink.view c.args.outside.now.err)
    (nets_of (g.N.Net.view c.args.outside.now.net.net) c.args.outside.now.net.ledger c.args.outside.now.net.faults) (g.S.Spawner.view c.args.outside.now.spawner) c.args.outside.now.packets (form_of c.args.words.now) (λ e. let wrong = none.1 e in cc)

pub returns-in-Ok-clause-within : goal.returns-in-Ok-clause-within
returns-in-Ok-clause-within g c = within_limits c.args.words.now c.in-Ok.command c.run_command.result c.in-Ok.ensures.command c.in-Ok.ensures.limits

pub returns-in-Err-Usage-clause-within : goal.returns-in-Err-Usage-clause-within
returns-in-Err-Usage-clause-within g c = λ command is e. absurd (cc e)

pub returns-in-Err-Memory-clause-within : goal.returns-in-Err-Memory-clause-within
returns-in-Err-Memory-clause-within g c = λ command is e. absurd (cc e)
