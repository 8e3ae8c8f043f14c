use Rattle.std.proofs.Common.{◌≡◌, ◌≤◌, List, [], ◌∷◌, ◌++◌, map, sym, ap, ◌∙◌, arith}
use Rattle.std.specs.Prelude.{filter}
use Rattle.vd_base.specs.declared.ids.HostId.{HostId}
use Rattle.vd_base.specs.declared.protocols.Proto.{Proto}
use Rattle.vd_base.specs.HostSets.{host, hosts}
use Rattle.vd_protocol.specs.Pairings.{protocol_of, takes}
use Rattle.vd_protocol.proofs.Rows.{passing_more, rows_more, extended, extended_if, kept_if}
use Rattle.vd_protocol.proofs.list.push_pairs.Goals as goal
use Rattle.vd_protocol.proofs.list.push_pairs.Goals.{then-takes+in_ok-push, else-takes}

pub loop-second-preserved : goal.loop-second-preserved
loop-second-preserved c =
    let a = host c.loop-first.first in
    let more = passing_more host (takes c.args.pairing a) (protocol_of c.args.pairing a) c.loop-second.second in
    elim c.if-takes.branch [
      | then-takes+in_ok-push w ↦
          w.list-is ∙ w.in_ok-push.ensures.ok ∙ ap (λ p. c.loop-second.list ++ p ∷ []) w.protocol.ensures
          ∙ extended_if c.loop-second.list _ _ _ _ _ c.loop-second.invariant more (sym c.takes.ensures ∙ w.if-takes.true)
      | else-takes w ↦
          w.list-is ∙ kept_if c.loop-second.list _ _ _ _ _ c.loop-second.invariant more (sym c.takes.ensures ∙ w.if-takes.false)
    ]

pub loop-first-preserved : goal.loop-first-preserved
loop-first-preserved c =
    let high = c.loop-second-test.false in
    let low = c.loop-second.auto.second-end in
    let last : c.loop-second.second ≡ c.args.hosts = omega arith in
    let row : List HostId → List Proto = λ hs. map (protocol_of c.args.pairing (host c.loop-first.first)) (filter (takes c.args.pairing (host c.loop-first.first)) hs) in
    c.loop-second.invariant ∙ ap (λ n. c.loop-first.list ++ row (hosts n)) last
    ∙ extended c.loop-first.list _ _ _ _ c.loop-first.invariant (rows_more (λ a. map (protocol_of c.args.pairing a) (filter (takes c.args.pairing a) (hosts c.args.hosts))) c.loop-first.first)
