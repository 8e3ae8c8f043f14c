use Rattle.std.proofs.Common.{◌≡◌, ℕ, ◌∷◌, ◌++◌, [], map, true, false, bytes_eq, get_or, IfOk, sym, ap, ◌∙◌, subst, arith, rules}
use Rattle.vd_semantics.specs.World.{World}
use Rattle.vd_semantics.specs.declared.held.Held.TheVariants.{Bound}
use Rattle.vd_semantics.specs.SourceMeaning.{called, in_sequence, execution, callee_of, callees_of, host_names}
use Rattle.vd_semantics.specs.Wraps.{Watched, acting, callee_calling, calling, callings_of, scene, seen, sequence_acting}
use Rattle.vd_semantics.proofs.Sizes.{function_fits, statement_fits}
use Rattle.vd_semantics.proofs.Lookup.{function_here, function_not_here, block_left, block_left_watched}
use Rattle.vd_semantics.proofs.source.Declarations.+run.Goals as goal

pub block-returns-clause-outcome : goal.block-returns-clause-outcome
block-returns-clause-outcome t c =
    let hosts = host_names c.args.self.now.hosts.now in
    block_left c.args.env.now c.sequence.new.env c.truncate.new.self c.len-outer.result c.args.world.now c.sequence.new.world
    (in_sequence (map (execution hosts) c.args.body.now) (callees_of hosts c.args.self.now.functions.now) (record { env = c.args.env.now; world = c.args.world.now }))
    (search (rules, c.len-outer.ensures)) c.truncate.ensures c.in_ok-sequence.ensures.outcome

pub block-returns-clause-watched : goal.block-returns-clause-watched
block-returns-clause-watched t c =
    let hosts = host_names c.args.self.now.hosts.now in
    let start = seen c.args.world.now c.args.wraps.now in
    block_left_watched c.args.env.now c.sequence.new.env c.truncate.new.self c.len-outer.result start (seen c.sequence.new.world c.sequence.new.wraps)
    (sequence_acting (map (acting hosts) c.args.body.now) (callings_of hosts c.args.self.now.functions.now) (scene c.args.env.now start))
    (search (rules, c.len-outer.ensures)) c.truncate.ensures c.in_ok-sequence.ensures.watched

pub turn-returns-clause-outcome : goal.turn-returns-clause-outcome
turn-returns-clause-outcome t c =
    let hosts = host_names c.args.self.now.hosts.now in
    let callees = callees_of hosts c.args.self.now.functions.now in
    block_left c.args.env.now c.sequence.new.env c.truncate.new.self c.len-outer.result c.args.world.now c.sequence.new.world
    (in_sequence (map (execution hosts) c.args.body.now) callees (record { env = c.args.env.now ++ (c.args.name.now, Bound c.args.number) ∷ []; world = c.args.world.now }))
    (search (rules, c.len-outer.ensures)) c.truncate.ensures
    (c.in_ok-sequence.ensures.outcome ∙ ap (λ z. in_sequence (map (execution hosts) c.args.body.now) callees (record { env = z; world = c.args.world.now })) c.in_ok-add.ensures.ok)

pub turn-returns-clause-watched : goal.turn-returns-clause-watched
turn-returns-clause-watched t c =
    let hosts = host_names c.args.self.now.hosts.now in
    let callings = callings_of hosts c.args.self.now.functions.now in
    let start = seen c.args.world.now c.args.wraps.now in
    block_left_watched c.args.env.now c.sequence.new.env c.truncate.new.self c.len-outer.result start (seen c.sequence.new.world c.sequence.new.wraps)
    (sequence_acting (map (acting hosts) c.args.body.now) callings (scene (c.args.env.now ++ (c.args.name.now, Bound c.args.number) ∷ []) start))
    (search (rules, c.len-outer.ensures)) c.truncate.ensures
    (c.in_ok-sequence.ensures.watched ∙ ap (λ z. sequence_acting (map (acting hosts) c.args.body.now) callings (scene z start)) c.in_ok-add.ensures.ok)

pub call-enter-requires : goal.call-enter-requires
call-enter-requires t c = (omega (arith, function_fits c.args.self.now.functions.now c.loop-k.k c.index-self-k.result c.loop-k-test.true), tt)

pub call-returns-then-eq-clause-outcome : goal.call-returns-then-eq-clause-outcome
call-returns-then-eq-clause-outcome t c =
    let hosts = host_names c.args.self.now.hosts.now in
    let eq : bytes_eq (get_or c.args.self.now.functions.now c.loop-k.k c.index-self-k.result).name.name c.args.name.now ≡ true = ap (λ z. bytes_eq z c.args.name.now) (sym c.as_slice.ensures) ∙ sym c.eq.ensures ∙ c.if-eq.true in
    let entered = c.enter.ensures.outcome in
    let entered' = rw c.loop-k.invariant.2 at entered in
    subst (λ o. IfOk c.enter.result (λ x. ◌≡◌ {A = ℕ × World} (x, c.enter.new.world) (called o c.args.words.now c.args.world.now)))
    (sym (function_here (callee_of hosts) c.args.self.now.functions.now c.loop-k.k c.index-self-k.result c.args.name.now c.loop-k-test.true c.loop-k.invariant.0 eq)) entered'

pub call-returns-then-eq-clause-watched : goal.call-returns-then-eq-clause-watched
call-returns-then-eq-clause-watched t c =
    let hosts = host_names c.args.self.now.hosts.now in
    let eq : bytes_eq (get_or c.args.self.now.functions.now c.loop-k.k c.index-self-k.result).name.name c.args.name.now ≡ true = ap (λ z. bytes_eq z c.args.name.now) (sym c.as_slice.ensures) ∙ sym c.eq.ensures ∙ c.if-eq.true in
    let entered = c.enter.ensures.watched in
    let entered' = rw (c.loop-k.invariant.2, c.loop-k.invariant.3) at entered in
    subst (λ o. IfOk c.enter.result (λ x. ◌≡◌ {A = ℕ × Watched} (x, seen c.enter.new.world c.enter.new.wraps) (calling o c.args.words.now (seen c.args.world.now c.args.wraps.now))))
    (sym (function_here (callee_calling hosts) c.args.self.now.functions.now c.loop-k.k c.index-self-k.result c.args.name.now c.loop-k-test.true c.loop-k.invariant.1 eq)) entered'

pub call-loop-k-preserved : goal.call-loop-k-preserved
call-loop-k-preserved t c =
    let hosts = host_names c.args.self.now.hosts.now in
    let eq : bytes_eq (get_or c.args.self.now.functions.now c.loop-k.k c.index-self-k.result).name.name c.args.name.now ≡ false = ap (λ z. bytes_eq z c.args.name.now) (sym c.as_slice.ensures) ∙ sym c.eq.ensures ∙ c.if-eq.false in (
      function_not_here (callee_of hosts) c.args.self.now.functions.now c.loop-k.k c.index-self-k.result c.args.name.now c.loop-k-test.true c.loop-k.invariant.0 eq,
      function_not_here (callee_calling hosts) c.args.self.now.functions.now c.loop-k.k c.index-self-k.result c.args.name.now c.loop-k-test.true c.loop-k.invariant.1 eq,
      c.loop-k.invariant.2,
      c.loop-k.invariant.3,
    )

pub sequence-execute-requires : goal.sequence-execute-requires
sequence-execute-requires t c = (omega (arith, statement_fits c.args.statements.now c.loop-statement.statement-index c.statement-item.result c.loop-statement-test.true c.statement-item.is), tt)
