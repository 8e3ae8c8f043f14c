use Rattle.std.proofs.Common.{◌≡◌, ◌+◌, drop, subst, sym, ap, ◌∙◌, ◌∷◌}
use Rattle.vd_split.specs.Places.{acting}
use Rattle.vd_split.proofs.Drops.{drop_next, drop_past}
use Rattle.vd_split.proofs.Variants.{acts_if}
use Rattle.vd_split.proofs.ActPart.{acts_array, acts_for, acts_here, acts_let, acts_none, acts_none_here, acts_output, acts_put, acts_store, acts_variable}
use Rattle.vd_split.proofs.acting.+acts.Goals as goal

pub acts-returns-in-Let : goal.acts-returns-in-Let
acts-returns-in-Let g t c =
    rw c.in-Let.is
    (acts_let (g.P.Protocols.offer c.args.protocols.now).calls c.args.protos.now c.in-Let.slot c.in-Let.right c.args.host.0 c.right_acts.result (rw c.proto_of.ensures at c.right_acts.ensures))

pub acts-returns-in-NewVar : goal.acts-returns-in-NewVar
acts-returns-in-NewVar g t c =
    rw c.in-NewVar.is
    (acts_variable (g.P.Protocols.offer c.args.protocols.now).calls c.args.protos.now c.in-NewVar.variable c.in-NewVar.slot c.args.host.0 c.acts_in_store.result (rw c.proto_of-in-NewVar.ensures at c.acts_in_store.ensures))

pub acts-returns-in-NewArray : goal.acts-returns-in-NewArray
acts-returns-in-NewArray g t c =
    rw c.in-NewArray.is
    (acts_array (g.P.Protocols.offer c.args.protocols.now).calls c.args.protos.now c.in-NewArray.array c.in-NewArray.field-1 c.args.host.0 c.is_holder.result (rw c.proto_of-in-NewArray.ensures at c.is_holder.ensures))

pub acts-returns-in-Store : goal.acts-returns-in-Store
acts-returns-in-Store g t c =
    rw c.in-Store.is
    (acts_store (g.P.Protocols.offer c.args.protocols.now).calls c.args.protos.now c.in-Store.variable c.in-Store.slot c.args.host.0 c.acts_in_store-in-Store.result
    (rw c.proto_of-in-Store.ensures at c.acts_in_store-in-Store.ensures))

pub acts-returns-in-Put : goal.acts-returns-in-Put
acts-returns-in-Put g t c =
    rw c.in-Put.is
    (acts_put (g.P.Protocols.offer c.args.protocols.now).calls c.args.protos.now c.in-Put.array c.in-Put.index c.in-Put.slot c.args.host.0 c.acts_in_put.result c.acts_in_put.ensures)

pub acts-returns-in-Output : goal.acts-returns-in-Output
acts-returns-in-Output g t c =
    rw c.in-Output.is
    (acts_output (g.P.Protocols.offer c.args.protocols.now).calls c.args.protos.now c.in-Output.slot c.in-Output.at c.in-Output.field-2 c.args.host.0 c.acts_in_output.result c.acts_in_output.ensures)

pub acts-returns-in-If : goal.acts-returns-in-If
acts-returns-in-If g t c =
    rw c.in-If.is
    (acts_if (g.P.Protocols.offer c.args.protocols.now).calls c.args.protos.now c.in-If.guard c.in-If.then_block c.in-If.else_block c.in-If.field-3 c.args.host.0 c.acts_in_branch.result
    (rw (c.as_slice.ensures, c.as_slice-in-If.ensures, c.proto_of-in-If.ensures) at c.acts_in_branch.ensures))

pub acts-returns-in-For : goal.acts-returns-in-For
acts-returns-in-For g t c =
    rw c.in-For.is
    (acts_for (g.P.Protocols.offer c.args.protocols.now).calls c.args.protos.now c.in-For.field-0 c.in-For.body c.args.host.0 c.any_acts.result (rw c.as_slice-in-For.ensures at c.any_acts.ensures))

pub any_acts-returns-then-acts : goal.any_acts-returns-then-acts
any_acts-returns-then-acts g t c =
    let s = (g.P.Protocols.offer c.args.protocols.now).calls in
    let protos = c.args.protos.now in
    let goal = acting s protos c.args.body.now c.args.host.0 in
    let rest = drop (c.loop-stmt.stmt-index + 1) c.args.body.now in
    let here = drop_next c.args.body.now c.loop-stmt.stmt-index c.stmt-item.result c.loop-stmt-test.true ∙ ap (λ z. z ∷ rest) (sym c.stmt-item.is) in
    acts_here s protos c.stmt-item.result rest c.args.host.0 c.acts.result goal c.acts.ensures c.if-acts.true
    (subst (λ z. acting s protos z c.args.host.0 ≡ goal) here c.loop-stmt.invariant)

pub any_acts-loop-stmt-preserved : goal.any_acts-loop-stmt-preserved
any_acts-loop-stmt-preserved g t c =
    let s = (g.P.Protocols.offer c.args.protocols.now).calls in
    let protos = c.args.protos.now in
    let goal = acting s protos c.args.body.now c.args.host.0 in
    let rest = drop (c.loop-stmt.stmt-index + 1) c.args.body.now in
    let here = drop_next c.args.body.now c.loop-stmt.stmt-index c.stmt-item.result c.loop-stmt-test.true ∙ ap (λ z. z ∷ rest) (sym c.stmt-item.is) in
    acts_none_here s protos c.stmt-item.result rest c.args.host.0 c.acts.result goal c.acts.ensures c.if-acts.false
    (subst (λ z. acting s protos z c.args.host.0 ≡ goal) here c.loop-stmt.invariant)

pub any_acts-returns : goal.any_acts-returns
any_acts-returns g t c =
    let s = (g.P.Protocols.offer c.args.protocols.now).calls in
    let protos = c.args.protos.now in
    let goal = acting s protos c.args.body.now c.args.host.0 in
    acts_none s protos c.args.host.0 goal
    (subst (λ z. acting s protos z c.args.host.0 ≡ goal) (drop_past c.args.body.now c.loop-stmt.stmt-index c.loop-stmt-test.false) c.loop-stmt.invariant)
