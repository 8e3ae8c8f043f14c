use Rattle.std.proofs.Common.{◌≡◌, ℕ, List, ◌∷◌, [], true, false, bytes_eq, get_or, IfOk, sym, ap, ◌∙◌, subst, append-nil, refl, arith, rules}
use Rattle.vd_base.specs.Names.{bound}
use Rattle.vd_core.specs.declared.source.Expr.TheFolds.{the_lemmas}
use Rattle.vd_core.specs.declared.source.Statement.TheFolds.{the_lemmas as the_statements}
use Rattle.vd_semantics.specs.SourceMeaning.{host_names, parameter_names}
use Rattle.vd_semantics.proofs.Front.{function_fits, statement_fits, function_here, function_not_here}
use Rattle.vd_elaborate.specs.declared.anf.spot.Spot.TheVariants.{Binding}
use Rattle.vd_elaborate.specs.Normal.{Made, Place, call_made, inlining_of, inlinings_of}
use Rattle.vd_elaborate.proofs.AnfWellformedGrowth.{size}
use Rattle.vd_elaborate.specs.Lowered.{Fits, lowered, all_lowered, place, inside}
use Rattle.vd_elaborate.proofs.Growth.{statement_within, expr_within, segment_within, chain_step, exprs_step, min_first, max_first, mux_first, unary_operand, chain_operand, call_arguments, part_fits, second_fits, inside_more, turn_more, body_within, put_index, guard_fits, block_fits}
use Rattle.vd_elaborate.proofs.Blocks.{block_left}
use Rattle.vd_elaborate.proofs.declarations.Declarations.+walk.Goals as goal

pub call-enter-requires : goal.call-enter-requires
call-enter-requires t c =
    let hosts = host_names c.args.self.now.hosts.now in
    let eq : bytes_eq (get_or c.args.self.now.functions.now c.loop-k.k c.index-self-k.result).name.name c.args.name.now ≡ true =
    ap (λ z. bytes_eq z c.args.name.now) (sym c.as_slice.ensures) ∙ sym c.eq.ensures ∙ c.if-eq.true in
    let found = function_here (inlining_of hosts) c.args.self.now.functions.now c.loop-k.k c.index-self-k.result c.args.name.now c.loop-k-test.true c.loop-k.invariant.0 eq in
    let fits = subst (λ o. Fits (call_made o c.args.here (c.args.slots.now, c.args.made.now)).1) found c.requires in
    let entered = rw (← c.loop-k.invariant.1) at fits in
    (omega (arith, function_fits c.args.self.now.functions.now c.loop-k.k c.index-self-k.result c.loop-k-test.true), entered)

pub call-returns-then-eq : goal.call-returns-then-eq
call-returns-then-eq t c =
    let hosts = host_names c.args.self.now.hosts.now in
    let eq : bytes_eq (get_or c.args.self.now.functions.now c.loop-k.k c.index-self-k.result).name.name c.args.name.now ≡ true =
    ap (λ z. bytes_eq z c.args.name.now) (sym c.as_slice.ensures) ∙ sym c.eq.ensures ∙ c.if-eq.true in
    let entered = c.enter.ensures in
    let entered' = rw c.loop-k.invariant.1 at entered in
    subst (λ o. IfOk c.enter.result (λ x. ◌≡◌ {A = ℕ × Made} (x, c.enter.new.made) (call_made o c.args.here (c.args.slots.now, c.args.made.now))))
    (sym (function_here (inlining_of hosts) c.args.self.now.functions.now c.loop-k.k c.index-self-k.result c.args.name.now c.loop-k-test.true c.loop-k.invariant.0 eq)) entered'

pub call-loop-k-preserved : goal.call-loop-k-preserved
call-loop-k-preserved t c =
    let hosts = host_names c.args.self.now.hosts.now in
    let eq : bytes_eq (get_or c.args.self.now.functions.now c.loop-k.k c.index-self-k.result).name.name c.args.name.now ≡ false =
    ap (λ z. bytes_eq z c.args.name.now) (sym c.as_slice.ensures) ∙ sym c.eq.ensures ∙ c.if-eq.false in
    (function_not_here (inlining_of hosts) c.args.self.now.functions.now c.loop-k.k c.index-self-k.result c.args.name.now c.loop-k-test.true c.loop-k.invariant.0 eq, c.loop-k.invariant.1)

pub sequence-statement-requires : goal.sequence-statement-requires
sequence-statement-requires t c =
    let fits = c.requires in
    let same = ap (λ (p : Place). size p.made) c.loop-statement.invariant in
    let within = statement_within (host_names c.args.self.now.hosts.now) c.args.self.now.functions.now c.args.statements.now c.loop-statement.statement-index c.statement-item.result c.args.block
    (place c.loop-statement.names c.loop-statement.made) c.loop-statement-test.true c.statement-item.is in
    (omega (arith, statement_fits c.args.statements.now c.loop-statement.statement-index c.statement-item.result c.loop-statement-test.true c.statement-item.is), omega arith)

pub inner-returns-clause-names : goal.inner-returns-clause-names
inner-returns-clause-names t c =
    let hosts = host_names c.args.self.now.hosts.now in
    let start : Place = record { names = c.args.names.now; made = c.set_aside-outer.new.self } in
    block_left hosts c.args.body.now (inlinings_of hosts c.args.self.now.functions.now) c.args.block start c.sequence.new.made c.args.names.now c.sequence.new.names c.truncate.new.self c.len-count.result
    (search (rules, c.len-count.ensures)) c.truncate.ensures c.in_ok-sequence.ensures [] (sym (append-nil c.args.names.now))

pub turn-returns-clause-names : goal.turn-returns-clause-names
turn-returns-clause-names t c =
    let hosts = host_names c.args.self.now.hosts.now in
    let start : Place = record { names = c.add-2.new.self; made = c.add.new.self } in
    block_left hosts c.args.body.now (inlinings_of hosts c.args.self.now.functions.now) c.args.here.block start c.sequence.new.made c.args.names.now c.sequence.new.names c.truncate.new.self c.len-count.result
    (search (rules, c.len-count.ensures)) c.truncate.ensures c.in_ok-sequence.ensures ((c.as_slice.result.now, Binding c.in_ok-turn.turn) ∷ []) c.in_ok-add.ensures.ok

pub lower-lower-requires-in-Min : goal.lower-lower-requires-in-Min
lower-lower-requires-in-Min t c =
    let part = min_first (host_names c.args.self.now.hosts.now) c.args.self.now.functions.now c.args.names.now c.args.here c.in-Min.field-0 c.in-Min.x c.in-Min.y c.args.made.now in
    (search (rules, the_lemmas, the_statements), part_fits (host_names c.args.self.now.hosts.now) c.args.self.now.functions.now c.args.names.now c.args.here c.in-Min.x c.deref-in-Min.result.now c.args.expr.now _ c.args.made.now c.in-Min.is c.deref-in-Min.ensures part c.requires)

pub lower-lower-requires-in-Max : goal.lower-lower-requires-in-Max
lower-lower-requires-in-Max t c =
    let part = max_first (host_names c.args.self.now.hosts.now) c.args.self.now.functions.now c.args.names.now c.args.here c.in-Max.field-0 c.in-Max.x c.in-Max.y c.args.made.now in
    (search (rules, the_lemmas, the_statements), part_fits (host_names c.args.self.now.hosts.now) c.args.self.now.functions.now c.args.names.now c.args.here c.in-Max.x c.deref-in-Max.result.now c.args.expr.now _ c.args.made.now c.in-Max.is c.deref-in-Max.ensures part c.requires)

pub lower-lower-requires-in-Mux : goal.lower-lower-requires-in-Mux
lower-lower-requires-in-Mux t c =
    let part = mux_first (host_names c.args.self.now.hosts.now) c.args.self.now.functions.now c.args.names.now c.args.here c.in-Mux.field-0 c.in-Mux.x c.in-Mux.y c.in-Mux.z c.args.made.now in
    (search (rules, the_lemmas, the_statements), part_fits (host_names c.args.self.now.hosts.now) c.args.self.now.functions.now c.args.names.now c.args.here c.in-Mux.x c.deref-in-Mux.result.now c.args.expr.now _ c.args.made.now c.in-Mux.is c.deref-in-Mux.ensures part c.requires)

pub lower-lower-requires-in-Unary : goal.lower-lower-requires-in-Unary
lower-lower-requires-in-Unary t c =
    let part = unary_operand (host_names c.args.self.now.hosts.now) c.args.self.now.functions.now c.args.names.now c.args.here c.in-Unary.x c.in-Unary.signs c.args.made.now in
    (search (rules, the_lemmas, the_statements), part_fits (host_names c.args.self.now.hosts.now) c.args.self.now.functions.now c.args.names.now c.args.here c.in-Unary.x c.deref-in-Unary.result.now c.args.expr.now _ c.args.made.now c.in-Unary.is c.deref-in-Unary.ensures part c.requires)

pub lower-lower-requires-in-Chain : goal.lower-lower-requires-in-Chain
lower-lower-requires-in-Chain t c =
    let part = chain_operand (host_names c.args.self.now.hosts.now) c.args.self.now.functions.now c.args.names.now c.args.here c.in-Chain.first c.in-Chain.segments c.args.made.now in
    (search (rules, the_lemmas, the_statements), part_fits (host_names c.args.self.now.hosts.now) c.args.self.now.functions.now c.args.names.now c.args.here c.in-Chain.first c.deref-in-Chain.result.now c.args.expr.now _ c.args.made.now c.in-Chain.is c.deref-in-Chain.ensures part c.requires)

pub lower-lower-requires-in-Mux-2 : goal.lower-lower-requires-in-Mux-2
lower-lower-requires-in-Mux-2 t c = (
  search (rules, the_lemmas, the_statements),
  second_fits (host_names c.args.self.now.hosts.now) c.args.self.now.functions.now c.args.names.now c.args.here c.in-Mux.field-0 c.in-Mux.x c.in-Mux.y c.in-Mux.z c.deref-in-Mux.result.now c.deref-in-Mux-2.result.now c.args.expr.now c.args.made.now
      (c.in_ok-x-in-Mux.x, c.lower-in-Mux.new.made) c.in-Mux.is c.deref-in-Mux.ensures c.deref-in-Mux-2.ensures c.in_ok-x-in-Mux.ensures c.requires,
)

pub lower-lower_all-requires : goal.lower-lower_all-requires
lower-lower_all-requires t c =
    let fits = c.requires in
    let whole = ap (λ e. size (lowered c.args.self.now c.args.names.now c.args.here e c.args.made.now).1) c.in-Call.is in
    let read = ap (λ es. size (all_lowered c.args.self.now c.args.names.now c.args.here es c.args.made.now).1) c.as_slice-in-Call.ensures in
    let part = call_arguments (host_names c.args.self.now.hosts.now) c.args.self.now.functions.now c.args.names.now c.args.here c.in-Call.name c.in-Call.arguments c.args.made.now in
    (search (rules, the_lemmas, the_statements), omega arith)

pub lower_all-lower-requires : goal.lower_all-lower-requires
lower_all-lower-requires t c =
    let fits = c.requires in
    let same = ap (λ (q : List ℕ × Made). size q.1) c.loop-expr.invariant in
    let within = expr_within (host_names c.args.self.now.hosts.now) c.args.self.now.functions.now c.args.exprs.now c.loop-expr.expr-index c.expr-item.result c.args.names.now c.args.here c.loop-expr.made c.loop-expr-test.true c.expr-item.is in
    (search (rules, the_lemmas, the_statements), omega arith)

pub chain-segment-requires : goal.chain-segment-requires
chain-segment-requires t c =
    let fits = c.requires in
    let same = ap (λ (q : ℕ × Made). size q.1) c.loop-segment.invariant in
    let within = segment_within (host_names c.args.self.now.hosts.now) c.args.self.now.functions.now c.args.segments.now c.loop-segment.segment-index c.segment-item.result c.args.names.now c.args.here c.loop-segment.x c.loop-segment.made c.loop-segment-test.true c.segment-item.is in
    (search (rules, the_lemmas, the_statements), omega arith)

pub chain-loop-segment-preserved : goal.chain-loop-segment-preserved
chain-loop-segment-preserved t c =
    chain_step (host_names c.args.self.now.hosts.now) c.args.self.now.functions.now c.args.names.now c.args.here c.args.segments.now c.loop-segment.segment-index c.segment-item.result c.loop-segment.x c.loop-segment.made (c.in_ok-x.x, c.segment.new.made)
    c.loop-segment-test.true c.segment-item.is c.in_ok-x.ensures ∙ c.loop-segment.invariant

pub enter-sequence-requires : goal.enter-sequence-requires
enter-sequence-requires t c =
    let bind = c.in_ok-names.ensures ∙ ap (λ parameters. bound Binding (parameter_names parameters) c.args.slots.now) c.as_slice.ensures in
    (search (rules, the_lemmas, the_statements), body_within (host_names c.args.self.now.hosts.now) c.args.self.now.functions.now c.args.function.now c.args.here c.args.slots.now c.in_ok-names.names c.args.made.now c.as_slice-2.result.now bind c.as_slice-2.ensures c.requires)

pub branches-inner-requires : goal.branches-inner-requires
branches-inner-requires t c =
    let fits = c.requires in
    let more = inside_more (host_names c.args.self.now.hosts.now) c.args.self.now.functions.now c.args.else_block.now c.args.block c.args.names.now (inside c.args.self.now c.args.block c.args.names.now c.args.then_block.now c.args.made.now) in
    (search (rules, the_lemmas, the_statements), omega arith)

pub statement-lower-requires-in-Put : goal.statement-lower-requires-in-Put
statement-lower-requires-in-Put t c = (
  search (rules, the_lemmas, the_statements),
  put_index (host_names c.args.self.now.hosts.now) c.args.self.now.functions.now c.args.statement.now c.in-Put.name c.in-Put.index c.in-Put.value c.args.block c.args.names.now c.args.names.now c.args.made.now
      c.in-Put.is refl c.requires,
)

pub statement-lower-requires-in-If : goal.statement-lower-requires-in-If
statement-lower-requires-in-If t c = (
  search (rules, the_lemmas, the_statements),
  guard_fits (host_names c.args.self.now.hosts.now) c.args.self.now.functions.now c.args.statement.now c.in-If.at c.in-If.guard c.in-If.then_block c.in-If.else_block c.args.block c.args.names.now c.args.names.now c.args.made.now
      c.in-If.is refl c.requires,
)

pub statement-begin_block-inner-requires : goal.statement-begin_block-inner-requires
statement-begin_block-inner-requires t c =
    block_fits (host_names c.args.self.now.hosts.now) c.args.self.now.functions.now c.args.statement.now c.in-If.at c.in-If.guard c.in-If.then_block c.in-If.else_block c.args.block c.args.names.now c.args.names.now c.args.made.now
    (c.in_ok-x-in-If.x, c.lower-in-If.new.made) c.in-If.is refl c.in_ok-x-in-If.ensures c.requires

pub turn-add-requires : goal.turn-add-requires
turn-add-requires t c =
    let fits = c.requires in
    let more = turn_more (host_names c.args.self.now.hosts.now) c.args.self.now.functions.now c.args.name.now c.args.body.now c.args.here c.args.names.now c.args.made.now in
    let same = ap size c.set_aside-outer.ensures.rest in
    omega arith

pub lower_all-loop-expr-preserved : goal.lower_all-loop-expr-preserved
lower_all-loop-expr-preserved t c =
    let step = exprs_step (host_names c.args.self.now.hosts.now) c.args.self.now.functions.now c.args.names.now c.args.here c.args.exprs.now c.loop-expr.expr-index c.expr-item.result
    c.loop-expr.made (c.in_ok-slot.slot, c.lower.new.made) c.loop-expr.slots c.loop-expr-test.true c.expr-item.is c.in_ok-slot.ensures in
    rw (c.in_ok-push.ensures {u = tt}).ok (step ∙ c.loop-expr.invariant)
