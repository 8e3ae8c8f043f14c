use Rattle.std.proofs.Common.{◌≡◌, Some, refl, ap}
use Rattle.vd_channel_link.specs.Ledgers.{has_sent}
use Rattle.vd_channel_link.specs.declared.channel_net.ledger.Ledger.{Ledger}
use Rattle.vd_cmd_host.specs.Hosts.{Marked, Plainly, nets_of}
use Rattle.vd_cmd_host.proofs.Ends.{not_begun}
use Rattle.vd_cmd_host.proofs.host_command.run_dealt.Goals as goal

pub returns-in-Ok-None : goal.returns-in-Ok-None
returns-in-Ok-None g c = λ before now loads.
    Plainly c.run_plain.result (c.run_plain.ensures.runs before now loads) refl (ap (λ (l : Ledger). has_sent l) c.run_plain.ensures.same)

pub returns-in-Ok-Some : goal.returns-in-Ok-Some
returns-in-Ok-Some g c = λ before now loads.
    let same = c.in-Ok-Some.ensures.same in
    let is = c.in-Ok-Some.field-0-is in
    let dealt : c.args.loaded.dealt.secrets ≡ Some c.in-Ok-Some.secrets = cc in
    Marked c.args.loaded c.in-Ok-Some.secrets c.run_marked.result loads c.requires.loaded dealt c.run_marked.ensures

pub returns-in-Err : goal.returns-in-Err
returns-in-Err g c = λ before now loads. rw c.from.ensures
    (not_begun c.args.words.now c.args.loaded before now (g.M.Marks.view c.args.marks.now) (nets_of (g.N.Net.view c.args.net.now.net) c.args.net.now.ledger c.args.net.now.faults) _ (g.O.Sink.view c.args.out.now) loads c.requires.loaded c.in-Err.ensures.some refl)
