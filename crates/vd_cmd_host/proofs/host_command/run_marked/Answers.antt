use Rattle.std.proofs.Common.{◌≡◌, refl, subst}
use Rattle.vd_outside.specs.Net.{NetView}
use Rattle.vd_channel_link.specs.Ledgers.{has_sent}
use Rattle.vd_channel_link.specs.Outgoing.{SealsLinks}
use Rattle.vd_channel_link.specs.Views.{sealing}
use Rattle.vd_cmd_host.specs.Hosts.{NotMarked, RunsLoaded, nets_of, sealer_for}
use Rattle.vd_cmd_host.specs.Marking.{Leaves}
use Rattle.vd_cmd_host.proofs.Ends.{is_sealed, ran_marked}
use Rattle.vd_cmd_host.proofs.Sealing.{sealed_links}
use Rattle.vd_cmd_host.proofs.host_command.run_marked.Goals as goal

pub run_sealed-ran-requires-clause-sealed : goal.run_sealed-ran-requires-clause-sealed
run_sealed-ran-requires-clause-sealed g c =
    is_sealed c.args.loaded c.in-Ok.claimed.seed c.args.secrets c.seal.new.self.seal c.requires.dealt c.seal.ensures.sealed

pub returns-in-Err : goal.returns-in-Err
returns-in-Err g c = NotMarked c.in-Err.status (c.in-Err.ensures {u = tt}) refl refl

pub returns : goal.returns
returns g c =
    let below : sealing (g.N.Net.view c.seal.new.self.net) c.seal.new.self.faults ≡ sealing (g.N.Net.view c.args.net.now.net) c.args.net.now.faults = λ j. sealing (g.N.Net.view (c.seal.ensures.net j)) (c.seal.ensures.faults j) in
    let seals : ∥ SealsLinks (sealer_for c.args.loaded.program c.args.secrets c.in-Ok.claimed.seed) (g.N.Net.view c.args.net.now.net) (g.N.Net.view c.run_sealed-ran.new.net.net) ∥₁ =
    sealed_links c.args.loaded c.in-Ok.claimed.seed c.args.secrets c.seal.new.self.seal c.run_sealed-ran.new.net.seal (g.N.Net.view c.args.net.now.net) (g.N.Net.view c.seal.new.self.net)
    (g.N.Net.view c.run_sealed-ran.new.net.net) c.seal.ensures.sealed (λ j. g.N.Net.view (c.seal.ensures.net j)) c.run_sealed-ran.ensures.sealed in
    let leaves : Leaves c.args.words.now c.in-Ok.claimed.name (has_sent c.run_sealed-ran.new.net.ledger) (g.M.Marks.view c.claim.new.marks) (g.M.Marks.view c.leave.new.marks) =
    rw (← c.as_slice.ensures, ← c.has_sent.ensures) c.leave.ensures in
    rw c.status_after.ensures
    (ran_marked c.args.words.now c.args.loaded c.args.secrets (g.M.Marks.view c.args.marks.now) (g.M.Marks.view c.claim.new.marks) (g.M.Marks.view c.leave.new.marks)
    (nets_of (g.N.Net.view c.args.net.now.net) c.args.net.now.ledger c.args.net.now.faults) (nets_of (g.N.Net.view c.run_sealed-ran.new.net.net) c.run_sealed-ran.new.net.ledger c.run_sealed-ran.new.net.faults)
    (g.O.Sink.view c.args.out.now) (g.O.Sink.view c.run_sealed-ran.new.out) c.run_sealed-ran.result c.in-Ok.claimed (c.in-Ok.ensures {u = tt})
    (subst (λ (n : NetView). RunsLoaded c.args.words.now c.args.loaded n (sealing (g.N.Net.view c.run_sealed-ran.new.net.net) c.run_sealed-ran.new.net.faults) (g.O.Sink.view c.args.out.now) (g.O.Sink.view c.run_sealed-ran.new.out) c.run_sealed-ran.result) below c.run_sealed-ran.ensures.runs)
    seals
    leaves)
