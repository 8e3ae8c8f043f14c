use Rattle.std.proofs.Common.{◌≡◌, ℕ, ◌+◌, ◌*◌, ◌++◌, map, take, drop, None, List}
use Rattle.vd_semantics.specs.World.{World}
use Rattle.vd_base.specs.Names.{at_name}
use Rattle.vd_semantics.specs.Turns.{turns}
use Rattle.vd_semantics.specs.SourceMeaning.{State, chain_evaluation, evaluations, evaluation, evaluation_of_segment, in_sequence, turn_execution, execution, callees_of, host_names}
use Rattle.vd_semantics.specs.Wraps.{Scene, Watched, acting, callings_of, chain_watching, scene, seen, sequence_acting, turn_acting, watching, watching_of_segment, watchings}
use Rattle.vd_semantics.proofs.Sizes.{code_size, size_of, sizes, function_size}
use Rattle.vd_semantics.proofs.source.Declarations.+run.Given as goal

abbrev pub decreases-evaluate : goal.decreases-evaluate
decreases-evaluate l = 4 * (code_size l.self.now.functions.now + goal.size-evaluate l)

abbrev pub decreases-chain : goal.decreases-chain
decreases-chain l = 4 * (code_size l.self.now.functions.now + goal.size-chain l) + 1

abbrev pub decreases-evaluate_all : goal.decreases-evaluate_all
decreases-evaluate_all l = 4 * (code_size l.self.now.functions.now + goal.size-evaluate_all l) + 1

abbrev pub decreases-call : goal.decreases-call
decreases-call l = 4 * code_size l.self.now.functions.now + 2

abbrev pub decreases-enter : goal.decreases-enter
decreases-enter l = 4 * (code_size l.self.now.functions.now + function_size l.function.now) + 1

abbrev pub decreases-sequence : goal.decreases-sequence
decreases-sequence l = 4 * (code_size l.self.now.functions.now + sizes l.statements.now) + 1

abbrev pub decreases-execute : goal.decreases-execute
decreases-execute l = 4 * (code_size l.self.now.functions.now + size_of l.statement.now)

abbrev pub decreases-block : goal.decreases-block
decreases-block l = 4 * (code_size l.self.now.functions.now + sizes l.body.now) + 2

abbrev pub decreases-turn : goal.decreases-turn
decreases-turn l = 4 * (code_size l.self.now.functions.now + sizes l.body.now) + 2

abbrev pub invariant-call-loop-k : goal.invariant-call-loop-k
invariant-call-loop-k l =
    let hosts = host_names l.self.hosts.now in
    (at_name (callees_of hosts (take l.k l.self.functions.now)) l.name ≡ None)
    × (at_name (callings_of hosts (take l.k l.self.functions.now)) l.name ≡ None)
    × (l.world ≡ l.initial.world)
    × (l.wraps ≡ l.initial.wraps)

abbrev pub invariant-chain-loop-segment : goal.invariant-chain-loop-segment
invariant-chain-loop-segment l =
    let hosts = host_names l.self.hosts.now in
    let callees = callees_of hosts l.self.functions.now in
    let callings = callings_of hosts l.self.functions.now in
    (chain_evaluation (map (evaluation_of_segment hosts) (drop l.segment-index l.segments)) callees l.env l.x l.world
    ≡ chain_evaluation (map (evaluation_of_segment hosts) l.segments) callees l.env l.first l.initial.world)
    × (chain_watching (map (watching_of_segment hosts) (drop l.segment-index l.segments)) callings l.env l.x (seen l.world l.wraps)
    ≡ chain_watching (map (watching_of_segment hosts) l.segments) callings l.env l.first (seen l.initial.world l.initial.wraps))

abbrev pub invariant-evaluate_all-loop-expr : goal.invariant-evaluate_all-loop-expr
invariant-evaluate_all-loop-expr l =
    let hosts = host_names l.self.hosts.now in
    let callees = callees_of hosts l.self.functions.now in
    let callings = callings_of hosts l.self.functions.now in
    let rest = evaluations (map (evaluation hosts) (drop l.expr-index l.exprs)) callees l.env l.world in
    let more = watchings (map (watching hosts) (drop l.expr-index l.exprs)) callings l.env (seen l.world l.wraps) in
    (◌≡◌ {A = List ℕ × World} (l.words ++ rest.0, rest.1) (evaluations (map (evaluation hosts) l.exprs) callees l.env l.initial.world))
    × (◌≡◌ {A = List ℕ × Watched} (l.words ++ more.0, more.1)
    (watchings (map (watching hosts) l.exprs) callings l.env (seen l.initial.world l.initial.wraps)))

abbrev pub invariant-execute-loop-number : goal.invariant-execute-loop-number
invariant-execute-loop-number l =
    let hosts = host_names l.self.hosts.now in
    (◌≡◌ {A = State} (record { env = l.env; world = l.world })
    (turns l.number (turn_execution l.name.name (map (execution hosts) l.body) (callees_of hosts l.self.functions.now)) (record { env = l.initial.env; world = l.initial.world })))
    × (◌≡◌ {A = Scene} (scene l.env (seen l.world l.wraps))
    (turns l.number (turn_acting l.name.name (map (acting hosts) l.body) (callings_of hosts l.self.functions.now)) (scene l.initial.env (seen l.initial.world l.initial.wraps))))

abbrev pub invariant-sequence-loop-statement : goal.invariant-sequence-loop-statement
invariant-sequence-loop-statement l =
    let hosts = host_names l.self.hosts.now in
    let callees = callees_of hosts l.self.functions.now in
    let callings = callings_of hosts l.self.functions.now in
    (in_sequence (map (execution hosts) (drop l.statement-index l.statements)) callees (record { env = l.env; world = l.world })
    ≡ in_sequence (map (execution hosts) l.statements) callees (record { env = l.initial.env; world = l.initial.world }))
    × (sequence_acting (map (acting hosts) (drop l.statement-index l.statements)) callings (scene l.env (seen l.world l.wraps))
    ≡ sequence_acting (map (acting hosts) l.statements) callings (scene l.initial.env (seen l.initial.world l.initial.wraps)))
