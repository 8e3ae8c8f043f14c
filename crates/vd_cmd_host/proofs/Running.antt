-- A host whose files were read is run.
use Rattle.std.proofs.Common.{arith, ◌≡◌, ℕ, List, length, Result, Ok, Err, sym, ap, subst, ◌∙◌}
use Rattle.vd_outside.specs.Net.{NetView}
use Rattle.vd_outside.specs.Sink.{SinkView}
use Rattle.vd_cmd.specs.declared.command.HostWords.{HostWords}
use Rattle.vd_engine.specs.declared.engine.Ended.{Ended}
use Rattle.vd_host_session.specs.Plays.{Plays}
use Rattle.vd_host_session.specs.declared.fault.HostFault.{HostFault}
use Rattle.vd_host_session.specs.Starts.{CanPlay, Starts}
use Rattle.vd_host_session.specs.declared.host_start.starting.Ready.{Ready}
use Rattle.vd_cmd_host.specs.Hosts.{RanWell, RanWrong, RunsLoaded, within}
use Rattle.vd_cmd_host.specs.Loading.{IsLoaded}
use Rattle.vd_cmd_host.specs.Statuses.{PeersAreNamed, status_of}
use Rattle.vd_cmd_host.specs.declared.loading.Loaded.{Loaded}
use Rattle.vd_cmd_host.proofs.Named.{names_a_host}

module _ (words : HostWords) (loaded : Loaded) (addresses : List (List ℕ)) (ready : Ready) (net net_now : NetView) (out out_now : SinkView) (same : addresses ≡ words.addresses)
    (starts : Starts loaded.program loaded.inputs loaded.dealt.deal addresses ready) (can : CanPlay ready) where
  by_words : Starts loaded.program loaded.inputs loaded.dealt.deal words.addresses ready
  by_words = subst (λ (l : List (List ℕ)). Starts loaded.program loaded.inputs loaded.dealt.deal l ready) same starts

  -- it was played over a net that waits as long as the words allow
  module _ (between : NetView) (waits : between ≡ within words net) where
    over : (result : Result Ended HostFault) → Plays ready.machine ready.task between net_now out out_now result → Plays ready.machine ready.task (within words net) net_now out out_now result
    over result plays = subst (λ (n : NetView). Plays ready.machine ready.task n net_now out out_now result) waits plays

    pub ran_well : (done : Ended) → Plays ready.machine ready.task between net_now out out_now (Ok done) → RunsLoaded words loaded net net_now out out_now (Ok tt)
    ran_well done plays = RanWell ready done by_words can (over (Ok done) plays)

    -- the peer of a fault has a name
    pub named : (names : List (List ℕ)) (fault : HostFault) → IsLoaded words loaded → names ≡ loaded.program.hosts → Plays ready.machine ready.task between net_now out out_now (Err fault) → PeersAreNamed names fault
    named names fault is these plays =
        let few = ap (λ (l : List (List ℕ)). length l) (starts.addresses_are ∙ same) in
        let all = ap (λ (l : List (List ℕ)). length l) these in
        let peers = is.addresses in
        names_a_host names ready.machine ready.task between net_now out out_now (Err fault) can.own (omega (arith, few, all, peers)) plays

    pub ran_wrong : (names : List (List ℕ)) (fault : HostFault) → names ≡ loaded.program.hosts → Plays ready.machine ready.task between net_now out out_now (Err fault)
        → RunsLoaded words loaded net net_now out out_now (Err (status_of names fault))
    ran_wrong names fault these plays =
        subst (λ (l : List (List ℕ)). RunsLoaded words loaded net net_now out out_now (Err (status_of l fault))) (sym these) (RanWrong ready fault by_words can (over (Err fault) plays))
