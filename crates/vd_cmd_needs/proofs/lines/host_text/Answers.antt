use Rattle.std.proofs.Common.{◌≡◌, List, ℕ, ◌++◌, ap, sym, subst, ◌∙◌, append_assoc}
use Rattle.std.proofs.Math.Numerals.{add-one}
use Rattle.vd_deal_needs.specs.declared.taking.Shared.{Shared}
use Rattle.vd_report.specs.ReportLines.{texts_below}
use Rattle.vd_cmd_needs.specs.Lines.{host_line, name_at, peer_line, shared_at}
use Rattle.vd_cmd_needs.proofs.lines.host_text.Goals as goal

pub loop-peer-preserved : goal.loop-peer-preserved
loop-peer-preserved c =
    let line = λ (peer : ℕ). peer_line c.args.names.now c.args.me peer (shared_at c.args.needs.now peer) in
    let front = host_line (name_at c.args.names.now c.args.me) c.args.needs.now in
    subst (λ (n : ℕ). c.push_peer.new.text ≡ front ++ texts_below line n) (sym (add-one c.loop-peer.peer))
    (c.in_ok-push_peer.ensures {u = tt}
    ∙ ap (λ (shared : Shared). c.loop-peer.text ++ peer_line c.args.names.now c.args.me c.loop-peer.peer shared) c.shared_at.ensures
    ∙ ap (λ (text : List ℕ). text ++ line c.loop-peer.peer) c.loop-peer.invariant
    ∙ append_assoc front (texts_below line c.loop-peer.peer) (line c.loop-peer.peer))
