use Rattle.std.proofs.Common.{◌≡◌, ◌+◌, drop, subst, sym, ap, ◌∙◌, ◌∷◌}
use Rattle.vd_split.specs.Emission.{block_emission}
use Rattle.vd_base.specs.Holders.{proto_in}
use Rattle.vd_split.proofs.Drops.{drop_next, drop_past}
use Rattle.vd_split.proofs.TakePart.{takes_array, takes_for, takes_here, takes_let, takes_none, takes_none_here, takes_output, takes_put, takes_store, takes_variable}
use Rattle.vd_split.proofs.taking.+takes.Goals as goal

pub takes-returns-in-Let : goal.takes-returns-in-Let
takes-returns-in-Let g t c =
    rw c.in-Let.is (takes_let (g.P.Protocols.offer c.args.protocols.now).calls c.args.protos.now c.in-Let.slot c.in-Let.right c.args.host.0 c.takes_binding.result c.takes_binding.ensures)

pub takes-returns-in-NewVar : goal.takes-returns-in-NewVar
takes-returns-in-NewVar g t c =
    rw c.in-NewVar.is
    (takes_variable (g.P.Protocols.offer c.args.protocols.now).calls c.args.protos.now c.in-NewVar.variable c.in-NewVar.slot c.args.host.0 c.either_stands_at.result c.either_stands_at.ensures)

pub takes-returns-in-NewArray : goal.takes-returns-in-NewArray
takes-returns-in-NewArray g t c =
    rw c.in-NewArray.is
    (takes_array (g.P.Protocols.offer c.args.protocols.now).calls c.args.protos.now c.in-NewArray.array c.in-NewArray.field-1 c.args.host.0 c.slot_stands_at.result c.slot_stands_at.ensures)

pub takes-returns-in-Store : goal.takes-returns-in-Store
takes-returns-in-Store g t c =
    rw c.in-Store.is
    (takes_store (g.P.Protocols.offer c.args.protocols.now).calls c.args.protos.now c.in-Store.variable c.in-Store.slot c.args.host.0 c.either_stands_at-in-Store.result c.either_stands_at-in-Store.ensures)

pub takes-returns-in-Put : goal.takes-returns-in-Put
takes-returns-in-Put g t c =
    rw c.in-Put.is
    (takes_put (g.P.Protocols.offer c.args.protocols.now).calls c.args.protos.now c.in-Put.array c.in-Put.index c.in-Put.slot c.args.host.0 c.put_stands_at.result c.put_stands_at.ensures)

pub takes-returns-in-Output : goal.takes-returns-in-Output
takes-returns-in-Output g t c =
    rw c.in-Output.is
    (takes_output (g.P.Protocols.offer c.args.protocols.now).calls c.args.protos.now c.in-Output.slot c.in-Output.at c.in-Output.field-2 c.args.host.0 c.takes_output.result c.takes_output.ensures)

pub takes-returns-in-For : goal.takes-returns-in-For
takes-returns-in-For g t c =
    rw c.in-For.is
    (takes_for (g.P.Protocols.offer c.args.protocols.now).calls c.args.protos.now c.in-For.field-0 c.in-For.body c.args.host.0 c.any_takes-in-For.result (rw c.as_slice-in-For.ensures at c.any_takes-in-For.ensures))

pub any_takes-returns-then-takes : goal.any_takes-returns-then-takes
any_takes-returns-then-takes g t c =
    let s = (g.P.Protocols.offer c.args.protocols.now).calls in
    let protos = c.args.protos.now in
    let goal = (block_emission s (proto_in protos) c.args.body.now).takes_part c.args.host.0 in
    let rest = drop (c.loop-stmt.stmt-index + 1) c.args.body.now in
    let here = drop_next c.args.body.now c.loop-stmt.stmt-index c.stmt-item.result c.loop-stmt-test.true ∙ ap (λ z. z ∷ rest) (sym c.stmt-item.is) in
    takes_here s protos c.stmt-item.result rest c.args.host.0 c.takes.result goal c.takes.ensures c.if-takes.true
    (subst (λ z. (block_emission s (proto_in protos) z).takes_part c.args.host.0 ≡ goal) here c.loop-stmt.invariant)

pub any_takes-loop-stmt-preserved : goal.any_takes-loop-stmt-preserved
any_takes-loop-stmt-preserved g t c =
    let s = (g.P.Protocols.offer c.args.protocols.now).calls in
    let protos = c.args.protos.now in
    let goal = (block_emission s (proto_in protos) c.args.body.now).takes_part c.args.host.0 in
    let rest = drop (c.loop-stmt.stmt-index + 1) c.args.body.now in
    let here = drop_next c.args.body.now c.loop-stmt.stmt-index c.stmt-item.result c.loop-stmt-test.true ∙ ap (λ z. z ∷ rest) (sym c.stmt-item.is) in
    takes_none_here s protos c.stmt-item.result rest c.args.host.0 c.takes.result goal c.takes.ensures c.if-takes.false
    (subst (λ z. (block_emission s (proto_in protos) z).takes_part c.args.host.0 ≡ goal) here c.loop-stmt.invariant)

pub any_takes-returns : goal.any_takes-returns
any_takes-returns g t c =
    let s = (g.P.Protocols.offer c.args.protocols.now).calls in
    let protos = c.args.protos.now in
    let goal = (block_emission s (proto_in protos) c.args.body.now).takes_part c.args.host.0 in
    takes_none s protos c.args.host.0 goal
    (subst (λ z. (block_emission s (proto_in protos) z).takes_part c.args.host.0 ≡ goal) (drop_past c.args.body.now c.loop-stmt.stmt-index c.loop-stmt-test.false) c.loop-stmt.invariant)
