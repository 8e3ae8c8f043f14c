use Rattle.std.proofs.Common.{◌≡◌, ℕ, ◌+◌, ◌≤◌, ◌<◌, Bool, cond, true, false, not, List, [], ◌∷◌, ◌++◌, map, refl, sym, ap, ◌∙◌, subst, arith}
use Rattle.std.specs.Prelude.{filter, nat_le}
use Rattle.std.specs.List.{range_with_len, flat_map}
use Rattle.std.proofs.lemmas.Bool.{lt-ltb, le-ltb, le-leb, lt-leb, ne_eqb, eq-eqb}
use Rattle.vd_base.specs.declared.protocols.Proto.TheVariants as proto
use Rattle.vd_base.specs.HostSets.{host, hosts, host_set, size}
use Rattle.vd_base.specs.Protocols.{differ, is_earlier}
use Rattle.vd_protocol.proofs.Rows.{passing_more, rows_more, changed_more, extended, extended_if, kept_if}
use Rattle.vd_protocol.proofs.list.push_copies.Goals as goal
use Rattle.vd_protocol.proofs.list.push_copies.Goals.{then-size-ge2+in_ok-push, else-size-ge2}

pub loop-bits-preserved : goal.loop-bits-preserved
loop-bits-preserved c =
    let more = passing_more host_set (λ set. nat_le 2 (size set)) proto.Rep c.loop-bits.bits in
    elim c.if-size-ge2.branch [
      | then-size-ge2+in_ok-push w ↦
          w.list-is ∙ w.in_ok-push.ensures.ok ∙ extended_if c.loop-bits.list _ _ _ _ _ c.loop-bits.invariant more (le-leb 2 _ (subst (λ n. 2 ≤ n) c.size.ensures.size w.if-size-ge2.true))
      | else-size-ge2 w ↦
          w.list-is ∙ kept_if c.loop-bits.list _ _ _ _ _ c.loop-bits.invariant more (lt-leb 2 _ (subst (λ n. n < 2) c.size.ensures.size w.if-size-ge2.false))
    ]
