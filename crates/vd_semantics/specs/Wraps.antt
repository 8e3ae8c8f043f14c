-- What a source does, and which of its operators wrap on the way: each evaluation of a sum, a difference or a product whose result by
-- words is not that by integers.
use Rattle.std.specs.Prelude.{ℕ, ◌+◌, ◌*◌, nat_eq, Bool, false, not, if◌then◌else◌, List, [], ◌∷◌, ◌++◌, map, length, take, replicate, Option, Some, None}
use Rattle.vd_base.specs.Names.{Named, at_name, changed, bound, place_of}
use Rattle.vd_base.specs.Operations.{truth_word, result_of}
use Rattle.vd_base.specs.declared.ids.Span.{Span}
use Rattle.vd_base.specs.declared.operations.Op.{Op}
use Rattle.vd_base.specs.declared.operations.Op.TheVariants as op
use Rattle.vd_core.specs.declared.source.Infix.{Infix}
use Rattle.vd_core.specs.declared.source.Infix.TheVariants as infix'
use Rattle.vd_core.specs.declared.source.Expr.{Expr}
use Rattle.vd_core.specs.declared.source.Expr.TheOpen.{Expr-F, Segment-F}
use Rattle.vd_core.specs.declared.source.Expr.TheFolds.{fold-Expr, fold-Segment}
use Rattle.vd_core.specs.declared.source.Segment.{Segment}
use Rattle.vd_core.specs.declared.source.Statement.{Statement}
use Rattle.vd_core.specs.declared.source.Statement.TheOpen.{Statement-F}
use Rattle.vd_core.specs.declared.source.Statement.TheFolds.{fold-Statement}
use Rattle.vd_core.specs.declared.source.Function.{Function}
use Rattle.vd_core.specs.declared.source.Source.{Source}
use Rattle.vd_semantics.specs.declared.held.Held.{Held}
use Rattle.vd_semantics.specs.declared.held.Held.TheVariants.{Bound, Cell, Elements}
use Rattle.vd_semantics.specs.declared.wraps.Wrap.{Wrap}
use Rattle.vd_semantics.specs.Functions.{in_text_order}
use Rattle.vd_semantics.specs.SourceMeaning.{prefixes_word, infix_word, shift_word, held_word, held_element, store_word, store_element, parameter_names, host_names}
use Rattle.vd_semantics.specs.Turns.{turns}
use Rattle.vd_semantics.specs.World.{World, world_at_start, input_word, after_input, after_output}

-- whether the result by integers is another than this word; a difference gives the first operand where the second is added
abbrev pub is_other : Infix → (x y word : ℕ) → Bool
is_other infix'.Add x y word = not (nat_eq (x + y) word)
is_other infix'.Sub x y word = not (nat_eq (word + y) x)
is_other infix'.Mul x y word = not (nat_eq (x * y) word)
is_other other x y word = false

-- the operator is noted where it wrapped
abbrev pub with_wrap : Infix → Span → (x y word : ℕ) → List Wrap → List Wrap
with_wrap o at x y word wraps = if is_other o x y word then wraps ++ record { operator = o; at = at } ∷ [] else wraps

-- the world outside, and what wrapped so far, each operator as often as it did
pub record Watched : Type 0 where
  pub world : World
  pub wraps : List Wrap

abbrev pub seen : World → List Wrap → Watched
seen world wraps = record { world = world; wraps = wraps }

abbrev pub after_infix : Infix → Span → (x y : ℕ) → Watched → Watched
after_infix o at x y w = seen w.world (with_wrap o at x y (infix_word o x y) w.wraps)

-- ---- What follows is the meaning of a source in a world that is watched: an operator leaves it as `after_infix` has it.

abbrev pub Calling : Type 0
Calling = List ℕ → Watched → ℕ × Watched

abbrev pub Watching : Type 0
Watching = Named Calling → Named Held → Watched → ℕ × Watched

abbrev pub SegmentWatching : Type 0
SegmentWatching = Named Calling → Named Held → ℕ → Watched → ℕ × Watched

abbrev pub calling : Option Calling → Calling
calling None words w = (0, w)
calling (Some callee) words w = callee words w

abbrev pub chain_watching : List SegmentWatching → SegmentWatching
chain_watching [] callees env x w = (x, w)
chain_watching (segment ∷ segments) callees env x w = let p = segment callees env x w in chain_watching segments callees env p.0 p.1

abbrev pub watchings : List Watching → Named Calling → Named Held → Watched → List ℕ × Watched
watchings [] callees env w = ([], w)
watchings (e ∷ es) callees env w =
    let p = e callees env w in
    let q = watchings es callees env p.1 in
    (p.0 ∷ q.0, q.1)

abbrev pub applied_to : Op → List ℕ × Watched → ℕ × Watched
applied_to o p = (result_of o p.0, p.1)

abbrev pub expr_watching : List (List ℕ) → Expr-F Watching SegmentWatching → Watching
expr_watching hosts (Expr-F.Number n) callees env w = (n, w)
expr_watching hosts (Expr-F.Truth b) callees env w = (truth_word b, w)
expr_watching hosts (Expr-F.Value x) callees env w = (held_word (at_name env x.name), w)
expr_watching hosts (Expr-F.Element x index) callees env w = let p = index callees env w in (held_element (at_name env x.name) p.0, p.1)
expr_watching hosts (Expr-F.Input host) callees env w =
    (input_word w.world (place_of hosts host.name), seen (after_input w.world (place_of hosts host.name)) w.wraps)
expr_watching hosts (Expr-F.Call f arguments) callees env w =
    let p = watchings arguments callees env w in
    calling (at_name callees f.name) p.0 p.1
expr_watching hosts (Expr-F.Min at x y) callees env w = applied_to op.Min (watchings (x ∷ y ∷ []) callees env w)
expr_watching hosts (Expr-F.Max at x y) callees env w = applied_to op.Max (watchings (x ∷ y ∷ []) callees env w)
expr_watching hosts (Expr-F.Mux at x y z) callees env w = applied_to op.Mux (watchings (x ∷ y ∷ z ∷ []) callees env w)
expr_watching hosts (Expr-F.Declassify x to) callees env w = x callees env w
expr_watching hosts (Expr-F.Endorse x to) callees env w = x callees env w
expr_watching hosts (Expr-F.Unary x signs) callees env w = let p = x callees env w in (prefixes_word signs p.0, p.1)
expr_watching hosts (Expr-F.Chain x segments) callees env w = let p = x callees env w in chain_watching segments callees env p.0 p.1
expr_watching hosts (Expr-F.Brackets x) callees env w = x callees env w

abbrev pub segment_watching : Segment-F Watching SegmentWatching → SegmentWatching
segment_watching (Segment-F.Infix o at right) callees env x w =
    let p = right callees env w in
    (infix_word o x p.0, after_infix o at x p.0 p.1)
segment_watching (Segment-F.Shift towards at bits) callees env x w = (shift_word towards bits x, w)

abbrev pub watching : List (List ℕ) → Expr → Watching
watching hosts = fold-Expr Watching SegmentWatching (expr_watching hosts) segment_watching

abbrev pub watching_of_segment : List (List ℕ) → Segment → SegmentWatching
watching_of_segment hosts = fold-Segment Watching SegmentWatching (expr_watching hosts) segment_watching

-- what the names in sight hold, and the world that is watched
pub record Scene : Type 0 where
  pub env : Named Held
  pub watched : Watched

abbrev pub scene : Named Held → Watched → Scene
scene env w = record { env = env; watched = w }

abbrev pub Acting : Type 0
Acting = Named Calling → Scene → Scene

abbrev pub sequence_acting : List Acting → Acting
sequence_acting [] callees s = s
sequence_acting (f ∷ fs) callees s = sequence_acting fs callees (f callees s)

abbrev pub scene_with : List ℕ → Held → Scene → Scene
scene_with name held s = scene (s.env ++ (name, held) ∷ []) s.watched

abbrev pub left_scene : Scene → Scene → Scene
left_scene outer s = scene (take (length outer.env) s.env) s.watched

abbrev pub block_acting : List Acting → Acting
block_acting fs callees s = left_scene s (sequence_acting fs callees s)

abbrev pub turn_acting : List ℕ → List Acting → Named Calling → ℕ → Scene → Scene
turn_acting name fs callees i s = left_scene s (sequence_acting fs callees (scene_with name (Bound i) s))

abbrev pub statement_acting : List (List ℕ) → Statement-F Acting → Acting
statement_acting hosts (Statement-F.Let at x label e) callees s =
    let p = watching hosts e callees s.env s.watched in
    scene_with x.name (Bound p.0) (scene s.env p.1)
statement_acting hosts (Statement-F.Var at x kind label e) callees s =
    let p = watching hosts e callees s.env s.watched in
    scene_with x.name (Cell p.0) (scene s.env p.1)
statement_acting hosts (Statement-F.Array at x kind size label) callees s = scene_with x.name (Elements (replicate size 0)) s
statement_acting hosts (Statement-F.Store x e) callees s =
    let p = watching hosts e callees s.env s.watched in
    scene (changed (store_word p.0) x.name s.env) p.1
statement_acting hosts (Statement-F.Put x index e) callees s =
    let p = watching hosts index callees s.env s.watched in
    let q = watching hosts e callees s.env p.1 in
    scene (changed (store_element p.0 q.0) x.name s.env) q.1
statement_acting hosts (Statement-F.Output at e host) callees s =
    let p = watching hosts e callees s.env s.watched in
    scene s.env (seen (after_output p.1.world (place_of hosts host.name) p.0) p.1.wraps)
statement_acting hosts (Statement-F.If at guard then_block else_block) callees s =
    let p = watching hosts guard callees s.env s.watched in
    block_acting (if nat_eq p.0 0 then else_block else then_block) callees (scene s.env p.1)
statement_acting hosts (Statement-F.For at x count body) callees s = turns count (turn_acting x.name body callees) s

abbrev pub acting : List (List ℕ) → Statement → Acting
acting hosts = fold-Statement Acting (statement_acting hosts)

abbrev pub callee_calling : List (List ℕ) → Function → Named Calling → Calling
callee_calling hosts f earlier words w =
    let s = sequence_acting (map (acting hosts) f.body) earlier (scene (bound Bound (parameter_names f.parameters) words) w) in
    watching hosts f.gives earlier s.env s.watched

abbrev pub callings_of : List (List ℕ) → List Function → Named Calling
callings_of hosts functions = in_text_order (callee_calling hosts) [] functions

-- what wraps in a run of a source from its start to its end
abbrev pub source_wraps : Source → List (List ℕ) → List Wrap
source_wraps source inputs =
    let hosts = host_names source.hosts in
    (sequence_acting (map (acting hosts) source.main) (callings_of hosts source.functions)
    (scene [] (seen (world_at_start (length source.hosts) inputs) []))).watched.wraps
