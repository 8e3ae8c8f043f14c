use Rattle.std.proofs.Common.{◌≡◌, sym, ap, ◌∙◌, arith}
use Rattle.vd_semantics.specs.Turns.{turns}
use Rattle.vd_noninter_protocols.specs.Runs.{after_all, all_heard}
use Rattle.vd_noninter_protocols.proofs.Runs.{on_ok, variable_made, array_made, word_stored, element_written, word_told, goes_other, goes_first, goes_round}
use Rattle.vd_noninter_protocols.proofs.noninter_difference.run.Run.+run.Goals as goal

pub statement-returns-in-NewVar : goal.statement-returns-in-NewVar
statement-returns-in-NewVar t c = on_ok c.store.result (λ same. same c.args.turn ∙ variable_made c.args.listener.now c.args.stmt.now c.in-NewVar.variable c.in-NewVar.slot c.args.turn c.args.self.now c.in-NewVar.is) c.store.ensures

pub statement-returns-in-NewArray : goal.statement-returns-in-NewArray
statement-returns-in-NewArray t c =
    on_ok c.make.result (λ same. same ∙ array_made c.args.listener.now c.args.stmt.now c.in-NewArray.array c.in-NewArray.size c.args.turn c.args.self.now c.in-NewArray.is) (c.make.ensures c.args.listener.now c.args.turn)

pub statement-returns-in-Store : goal.statement-returns-in-Store
statement-returns-in-Store t c =
    on_ok c.store-in-Store.result (λ same. same c.args.turn ∙ word_stored c.args.listener.now c.args.stmt.now c.in-Store.variable c.in-Store.slot c.args.turn c.args.self.now c.in-Store.is) c.store-in-Store.ensures

pub statement-returns-in-Put : goal.statement-returns-in-Put
statement-returns-in-Put t c =
    on_ok c.write.result (λ same. same c.args.turn ∙ element_written c.args.listener.now c.args.stmt.now c.in-Put.array c.in-Put.index c.in-Put.slot c.args.turn c.args.self.now c.in-Put.is) c.write.ensures

pub statement-returns-in-Output : goal.statement-returns-in-Output
statement-returns-in-Output t c =
    on_ok c.tell.result (λ same. same c.args.turn ∙ word_told c.args.listener.now c.args.stmt.now c.in-Output.slot c.in-Output.host c.in-Output.offset c.args.turn c.args.self.now c.in-Output.is) c.tell.ensures

pub statement-returns-then-word-eq0 : goal.statement-returns-then-word-eq0
statement-returns-then-word-eq0 t c =
    on_ok c.block.result
    (λ same. goes_other c.args.listener.now c.args.stmt.now c.in-If.guard c.in-If.then_block c.in-If.else_block c.as_slice-then_block.result.now c.as_slice-else_block.result.now c.in-If.field-3 c.args.turn c.args.self.now c.hear_guard.new.self c.block.new.self
    c.in-If.is c.as_slice-then_block.ensures c.as_slice-else_block.ensures c.in_ok-hear_guard-in-If.ensures (sym c.word.ensures ∙ c.if-word-eq0.true) same)
    c.block.ensures

pub statement-returns-else-word-eq0 : goal.statement-returns-else-word-eq0
statement-returns-else-word-eq0 t c =
    on_ok c.block-else-word-eq0.result
    (λ same. goes_first c.args.listener.now c.args.stmt.now c.in-If.guard c.in-If.then_block c.in-If.else_block c.as_slice-then_block.result.now c.as_slice-else_block.result.now c.in-If.field-3 c.args.turn c.args.self.now c.hear_guard.new.self c.block-else-word-eq0.new.self
    c.in-If.is c.as_slice-then_block.ensures c.as_slice-else_block.ensures c.in_ok-hear_guard-in-If.ensures (λ none. c.if-word-eq0.false (c.word.ensures ∙ none)) same)
    c.block-else-word-eq0.ensures

pub statement-returns-after-loop-number : goal.statement-returns-after-loop-number
statement-returns-after-loop-number t c =
    let last : c.loop-number.number ≡ c.in-For.count = omega (arith, c.loop-number-test.false, c.loop-number.auto.number-end) in
    goes_round c.args.listener.now c.args.stmt.now c.in-For.count c.in-For.body c.args.turn c.args.self.now c.loop-number.self c.in-For.is
    (c.loop-number.invariant ∙ ap (λ n. turns n (after_all (all_heard c.args.listener.now c.in-For.body)) c.args.self.now) last)
