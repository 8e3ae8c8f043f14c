use Rattle.std.proofs.Common.{◌≡◌, List, ℕ, ◌++◌, ap, sym, subst, ◌∙◌, append_assoc}
use Rattle.std.proofs.Math.Numerals.{add-one}
use Rattle.vd_report.specs.ReportLines.{texts_below}
use Rattle.vd_cmd_host.specs.Checking.{peer_lines}
use Rattle.vd_cmd_host.proofs.check_lines.push_shared.Goals as goal

pub loop-peer-preserved : goal.loop-peer-preserved
loop-peer-preserved c =
    let line = peer_lines c.args.names.now c.args.me c.args.shared.now in
    subst (λ (n : ℕ). c.push_peer.new.text ≡ c.args.text.now ++ texts_below line n) (sym (add-one c.loop-peer.peer))
    (c.in_ok-push_peer.ensures {u = tt} ∙ ap (λ (text : List ℕ). text ++ line c.loop-peer.peer) c.loop-peer.invariant
    ∙ append_assoc c.args.text.now (texts_below line c.loop-peer.peer) (line c.loop-peer.peer))
