use Rattle.std.proofs.Common.{◌≡◌, ℕ, ◌+◌, ◌*◌, ◌++◌, map, take, drop, None, List}
use Rattle.vd_base.specs.Names.{at_name}
use Rattle.vd_semantics.specs.SourceMeaning.{host_names}
use Rattle.vd_semantics.proofs.Front.{code_size, size_of, sizes, function_size}
use Rattle.vd_elaborate.specs.Normal.{Made, lowering, lowering_of_segment, chain_made, all_made, lowering_of, statements_made, inlinings_of}
use Rattle.vd_elaborate.proofs.declarations.Declarations.+walk.Given as goal

abbrev pub decreases-lower : goal.decreases-lower
decreases-lower l = 4 * (code_size l.self.now.functions.now + goal.size-lower l)

abbrev pub decreases-segment : goal.decreases-segment
decreases-segment l = 4 * (code_size l.self.now.functions.now + goal.size-segment l)

abbrev pub decreases-chain : goal.decreases-chain
decreases-chain l = 4 * (code_size l.self.now.functions.now + goal.size-chain l) + 1

abbrev pub decreases-lower_all : goal.decreases-lower_all
decreases-lower_all l = 4 * (code_size l.self.now.functions.now + goal.size-lower_all l) + 1

abbrev pub decreases-call : goal.decreases-call
decreases-call l = 4 * code_size l.self.now.functions.now + 2

abbrev pub decreases-enter : goal.decreases-enter
decreases-enter l = 4 * (code_size l.self.now.functions.now + function_size l.function.now) + 1

abbrev pub decreases-sequence : goal.decreases-sequence
decreases-sequence l = 4 * (code_size l.self.now.functions.now + sizes l.statements.now) + 1

abbrev pub decreases-statement : goal.decreases-statement
decreases-statement l = 4 * (code_size l.self.now.functions.now + size_of l.statement.now)

abbrev pub decreases-inner : goal.decreases-inner
decreases-inner l = 4 * (code_size l.self.now.functions.now + sizes l.body.now) + 2

abbrev pub decreases-branches : goal.decreases-branches
decreases-branches l = 4 * (code_size l.self.now.functions.now + (sizes l.then_block.now + sizes l.else_block.now)) + 3

abbrev pub decreases-turn : goal.decreases-turn
decreases-turn l = 4 * (code_size l.self.now.functions.now + sizes l.body.now) + 2

abbrev pub invariant-call-loop-k : goal.invariant-call-loop-k
invariant-call-loop-k l =
    (at_name (inlinings_of (host_names l.self.hosts.now) (take l.k l.self.functions.now)) l.name ≡ None) × (l.made ≡ l.initial.made)

abbrev pub invariant-chain-loop-segment : goal.invariant-chain-loop-segment
invariant-chain-loop-segment l =
    let hosts = host_names l.self.hosts.now in
    let is = inlinings_of hosts l.self.functions.now in
    chain_made (map (lowering_of_segment hosts) (drop l.segment-index l.segments)) is l.names l.here l.x l.made
    ≡ chain_made (map (lowering_of_segment hosts) l.segments) is l.names l.here l.first l.initial.made

abbrev pub invariant-lower_all-loop-expr : goal.invariant-lower_all-loop-expr
invariant-lower_all-loop-expr l =
    let hosts = host_names l.self.hosts.now in
    let is = inlinings_of hosts l.self.functions.now in
    let rest = all_made (map (lowering hosts) (drop l.expr-index l.exprs)) is l.names l.here l.made in
    ◌≡◌ {A = List ℕ × Made} (l.slots ++ rest.0, rest.1) (all_made (map (lowering hosts) l.exprs) is l.names l.here l.initial.made)

abbrev pub invariant-sequence-loop-statement : goal.invariant-sequence-loop-statement
invariant-sequence-loop-statement l =
    let hosts = host_names l.self.hosts.now in
    let is = inlinings_of hosts l.self.functions.now in
    statements_made (map (lowering_of hosts) (drop l.statement-index l.statements)) is l.block (record { names = l.names; made = l.made })
    ≡ statements_made (map (lowering_of hosts) l.statements) is l.block (record { names = l.initial.names; made = l.initial.made })
