-- What is made of the parts of a source under the hosts and functions that they see, from the names of values in sight and
-- what is made so far.
use Rattle.std.specs.Prelude.{◌≡◌, ℕ, ◌+◌, ◌^◌, ◌<◌, List, map, Result, IfOk}
use Rattle.vd_base.specs.Names.{Named, at_name}
use Rattle.vd_core.specs.declared.source.Ident.{Ident}
use Rattle.vd_core.specs.declared.source.Expr.{Expr}
use Rattle.vd_core.specs.declared.source.Segment.{Segment}
use Rattle.vd_core.specs.declared.source.Statement.{Statement}
use Rattle.vd_core.specs.declared.source.Function.{Function}
use Rattle.vd_semantics.specs.SourceMeaning.{host_names}
use Rattle.vd_elaborate.specs.declared.anf.here.Here.{Here}
use Rattle.vd_elaborate.specs.declared.anf.spot.Spot.{Spot}
use Rattle.vd_elaborate.specs.Normal.{Made, Place, Inlining, lowering, lowering_of_segment, chain_made, all_made, call_made, lowering_of, statements_made, with_body, inner_made, loop_made, inlining_of, inlinings_of}
use Rattle.vd_elaborate.specs.declared.declarations.Declarations.{Declarations}

-- 16 bits number all slots, and all blocks
abbrev pub Fits : Made → Type 0
Fits m = m.next + m.blocks < 2 ^ 16

-- on Ok, this value with this made after it
abbrev pub Gives : {A E : Type 0} → Result A E → Made → A × Made → Type 0
Gives {A = A} result made wanted = IfOk result (λ x. ◌≡◌ {A = A × Made} (x, made) wanted)

abbrev pub hosts_of : Declarations → List (List ℕ)
hosts_of s = host_names s.hosts.now

-- how a call of one of its functions is made
abbrev pub calls_of : Declarations → Named Inlining
calls_of s = inlinings_of (hosts_of s) s.functions.now

abbrev pub lowered : Declarations → Named Spot → Here → Expr → Made → ℕ × Made
lowered s names here e = (lowering (hosts_of s) e).run (calls_of s) names here

abbrev pub all_lowered : Declarations → Named Spot → Here → List Expr → Made → List ℕ × Made
all_lowered s names here es = all_made (map (lowering (hosts_of s)) es) (calls_of s) names here

-- one step of a chain, and all its steps, from the slot so far
abbrev pub appended : Declarations → Named Spot → Here → Segment → ℕ → Made → ℕ × Made
appended s names here l = lowering_of_segment (hosts_of s) l (calls_of s) names here

abbrev pub chained : Declarations → Named Spot → Here → List Segment → ℕ → Made → ℕ × Made
chained s names here ls = chain_made (map (lowering_of_segment (hosts_of s)) ls) (calls_of s) names here

-- a call of a name, and what a function makes at a call, from the slots of the arguments
abbrev pub called : Declarations → Here → List ℕ → List ℕ → Made → ℕ × Made
called s here name slots m = call_made (at_name (calls_of s) name) here (slots, m)

abbrev pub entered : Declarations → Here → Function → List ℕ → Made → ℕ × Made
entered s here f = inlining_of (hosts_of s) f (calls_of s) here

-- where a walk over statements stands
abbrev pub place : Named Spot → Made → Place
place names made = record { names = names; made = made }

abbrev pub stated : Declarations → ℕ → Statement → Place → Place
stated s block x = lowering_of (hosts_of s) x (calls_of s) block

abbrev pub sequenced : Declarations → ℕ → List Statement → Place → Place
sequenced s block xs = statements_made (map (lowering_of (hosts_of s)) xs) (calls_of s) block

-- the statements of an inner block, and of a loop's body
abbrev pub inside : Declarations → ℕ → Named Spot → List Statement → Made → Made
inside s block names body = inner_made (map (lowering_of (hosts_of s)) body) (calls_of s) block names

abbrev pub in_turn : Declarations → Here → Ident → Named Spot → List Statement → Made → Made
in_turn s here x names body = loop_made x (map (lowering_of (hosts_of s)) body) (calls_of s) here names

-- the statements of both branches of an If, one after the other
abbrev pub both : Declarations → ℕ → Named Spot → List Statement → List Statement → Made → Made
both s block names a b m = inside s block names b (inside s block names a m)

-- with the statements again that were set aside
abbrev pub around : Made → Made → Made
around outer m = with_body outer.body m

abbrev pub branched : Declarations → ℕ → Named Spot → List Statement → List Statement → Made → Made
branched s block names a b m = around m (both s block names a b m)
