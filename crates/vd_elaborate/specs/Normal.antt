-- The let-normal form of a source.
use Rattle.std.specs.Prelude.{ℕ, zero, suc, ◌+◌, Bool, true, false, if◌then◌else◌, List, [], ◌∷◌, ◌++◌, map, Option, Some, None, option_map, slice_index, slice_index_or}
use Rattle.vd_base.specs.declared.ids.SlotId.{SlotId}
use Rattle.vd_base.specs.declared.ids.HostId.{HostId}
use Rattle.vd_base.specs.declared.form.Form.{Form}
use Rattle.vd_base.specs.declared.form.Form as form
use Rattle.vd_base.specs.declared.operations.Kind.{Kind}
use Rattle.vd_base.specs.declared.operations.Kind.TheVariants.{Word, Bool as Truth}
use Rattle.vd_base.specs.declared.operations.Op.{Op}
use Rattle.vd_base.specs.declared.operations.Op.TheVariants as op
use Rattle.vd_core.specs.declared.normal.Right.{Right}
use Rattle.vd_core.specs.declared.normal.Right.TheVariants as right
use Rattle.vd_core.specs.declared.normal.Stmt.{Stmt}
use Rattle.vd_core.specs.declared.normal.Stmt as stmt
use Rattle.vd_core.specs.declared.normal.Written.{Written}
use Rattle.vd_core.specs.declared.normal.Slot.{Slot}
use Rattle.vd_core.specs.declared.normal.NormalForm.{NormalForm}
use Rattle.vd_core.specs.declared.source.Ident.{Ident}
use Rattle.vd_core.specs.declared.source.WrittenForm.{WrittenForm}
use Rattle.vd_core.specs.declared.source.WrittenForm.TheOpen.{WrittenForm-F}
use Rattle.vd_core.specs.declared.source.WrittenForm.TheFolds.{fold-WrittenForm}
use Rattle.vd_core.specs.declared.source.WrittenLabel.{WrittenLabel}
use Rattle.vd_core.specs.declared.source.Prefix.{Prefix}
use Rattle.vd_core.specs.declared.source.Sign.{Sign}
use Rattle.vd_core.specs.declared.source.Prefix.TheVariants as prefix'
use Rattle.vd_core.specs.declared.source.Infix.{Infix}
use Rattle.vd_core.specs.declared.source.Infix.TheVariants as infix'
use Rattle.vd_core.specs.declared.source.Direction.{Direction}
use Rattle.vd_core.specs.declared.source.Direction.TheVariants as direction
use Rattle.vd_core.specs.declared.source.Expr.{Expr}
use Rattle.vd_core.specs.declared.source.Expr.TheOpen.{Expr-F, Segment-F}
use Rattle.vd_core.specs.declared.source.Expr.TheFolds.{fold-Expr, fold-Segment}
use Rattle.vd_core.specs.declared.source.Segment.{Segment}
use Rattle.vd_core.specs.declared.source.Statement.{Statement}
use Rattle.vd_core.specs.declared.source.Statement.TheOpen.{Statement-F}
use Rattle.vd_core.specs.declared.source.Statement.TheFolds.{fold-Statement}
use Rattle.vd_core.specs.declared.source.Function.{Function}
use Rattle.vd_core.specs.declared.source.Source.{Source}
use Rattle.vd_elaborate.specs.declared.anf.here.Here.{Here}
use Rattle.vd_elaborate.specs.declared.anf.spot.Spot.{Spot}
use Rattle.vd_elaborate.specs.declared.anf.spot.Spot.TheVariants.{Binding, Variable, Array}
use Rattle.vd_base.specs.Names.{Named, at_name, bound, place_of}
use Rattle.vd_semantics.specs.Functions.{in_text_order}
use Rattle.vd_semantics.specs.SourceMeaning.{parameter_names, host_names}

-- a written formula, without its places in the text
abbrev pub form_step : WrittenForm-F Form → Form
form_step WrittenForm-F.Any = form.Any
form_step WrittenForm-F.Never = form.Never
form_step (WrittenForm-F.Name x) = form.Name x.name
form_step (WrittenForm-F.Both fs) = form.Both fs
form_step (WrittenForm-F.Either fs) = form.Either fs

abbrev pub form_of : WrittenForm → Form
form_of = fold-WrittenForm Form form_step

abbrev pub written : WrittenLabel → Written
written l = record { conf = form_of l.conf; integ = form_of l.integ }

-- the number of the next slot, the slots, the number of the next block, and the statements so far
pub record Made : Type 0 where
  pub next : ℕ
  pub slots : List Slot
  pub blocks : ℕ
  pub body : List Stmt

abbrev pub slot : ℕ → SlotId
slot k = record { 0 = k }

abbrev pub host_id : List (List ℕ) → Ident → HostId
host_id hosts host = record { 0 = place_of hosts host.name }

abbrev pub with_stmt : Stmt → Made → Made
with_stmt s m = record { next = m.next; slots = m.slots; blocks = m.blocks; body = m.body ++ s ∷ [] }

-- a statement that makes a slot
abbrev pub with_slot : Slot → Stmt → Made → ℕ × Made
with_slot entry s m = (m.next, record { next = m.next + 1; slots = m.slots ++ entry ∷ []; blocks = m.blocks; body = m.body ++ s ∷ [] })

-- a slot without a name has the name _
abbrev pub nameless : Here → Kind → Slot
nameless here kind = record { name = 95 ∷ []; kind = kind; label = None; offset = here.offset; block = here.block }

abbrev pub named_slot : Here → Ident → Kind → Option WrittenLabel → Slot
named_slot here x kind label = record { name = x.name; kind = kind; label = option_map written label; offset = here.offset; block = here.block }

-- one more binding
abbrev pub emitted : Here → Kind → Right → Made → ℕ × Made
emitted here kind r m = with_slot (nameless here kind) (stmt.Let (slot m.next) r) m

abbrev pub kind_at : Made → ℕ → Kind
kind_at m k = slice_index_or (map (λ s. s.kind) m.slots) k Word

-- a slot is given a name and a written label
abbrev pub renamed : List Slot → ℕ → Ident → Option WrittenLabel → List Slot
renamed [] k x label = []
renamed (s ∷ ss) zero x label = record { name = x.name; kind = s.kind; label = option_map written label; offset = s.offset; block = s.block } ∷ ss
renamed (s ∷ ss) (suc k) x label = s ∷ renamed ss k x label

abbrev pub with_name_at : ℕ → Ident → Option WrittenLabel → Made → Made
with_name_at k x label m = record { next = m.next; slots = renamed m.slots k x label; blocks = m.blocks; body = m.body }

-- how a call is made, from the slots of its arguments
abbrev pub Inlining : Type 0
Inlining = Here → List ℕ → Made → ℕ × Made

-- how an expression is made; its number where it is a bare one; and whether it is a binding's name or a call
pub record Lowering : Type 0 where
  pub bare : Option ℕ
  pub plain : Named Spot → Bool
  pub run : Named Inlining → Named Spot → Here → Made → ℕ × Made

-- the same of one step of a chain, from the slot so far
abbrev pub SegmentLowering : Type 0
SegmentLowering = Named Inlining → Named Spot → Here → ℕ → Made → ℕ × Made

abbrev pub chain_made : List SegmentLowering → SegmentLowering
chain_made [] is names here x m = (x, m)
chain_made (l ∷ ls) is names here x m = let p = l is names here x m in chain_made ls is names here p.0 p.1

-- operands from left to right
abbrev pub all_made : List Lowering → Named Inlining → Named Spot → Here → Made → List ℕ × Made
all_made [] is names here m = ([], m)
all_made (e ∷ es) is names here m =
    let p = e.run is names here m in
    let q = all_made es is names here p.1 in
    (p.0 ∷ q.0, q.1)

-- an operation on the slots of its operands
abbrev pub operation_made : Op → Kind → Here → List ℕ × Made → ℕ × Made
operation_made o kind here p = emitted here kind (right.Apply o (map slot p.0)) p.1

abbrev pub scale_of : Infix → Option ℕ → Option ℕ
scale_of infix'.Equal b = None
scale_of infix'.NotEqual b = None
scale_of infix'.Less b = None
scale_of infix'.LessEqual b = None
scale_of infix'.Greater b = None
scale_of infix'.GreaterEqual b = None
scale_of infix'.Or b = None
scale_of infix'.Xor b = None
scale_of infix'.And b = None
scale_of infix'.Add b = None
scale_of infix'.Sub b = None
scale_of infix'.Mul b = b
scale_of infix'.Div b = None
scale_of infix'.Rem b = None

abbrev pub two : Op → ℕ → ℕ → Right
two o x y = right.Apply o (slot x ∷ slot y ∷ [])

abbrev pub infix_right : Infix → ℕ → ℕ → Right
infix_right infix'.Equal x y = two op.Eq x y
infix_right infix'.NotEqual x y = two op.Ne x y
infix_right infix'.Less x y = two op.Lt x y
infix_right infix'.LessEqual x y = two op.Le x y
infix_right infix'.Greater x y = two op.Lt y x
infix_right infix'.GreaterEqual x y = two op.Le y x
infix_right infix'.Or x y = two op.Or x y
infix_right infix'.Xor x y = two op.Xor x y
infix_right infix'.And x y = two op.And x y
infix_right infix'.Add x y = two op.Add x y
infix_right infix'.Sub x y = two op.Sub x y
infix_right infix'.Mul x y = two op.Mul x y
infix_right infix'.Div x y = two op.Div x y
infix_right infix'.Rem x y = two op.Rem x y

-- the kind that an operator gives, where the first operand has this one
abbrev pub infix_kind : Infix → Kind → Kind
infix_kind infix'.Equal k = Truth
infix_kind infix'.NotEqual k = Truth
infix_kind infix'.Less k = Truth
infix_kind infix'.LessEqual k = Truth
infix_kind infix'.Greater k = Truth
infix_kind infix'.GreaterEqual k = Truth
infix_kind infix'.Or k = k
infix_kind infix'.Xor k = k
infix_kind infix'.And k = k
infix_kind infix'.Add k = Word
infix_kind infix'.Sub k = Word
infix_kind infix'.Mul k = Word
infix_kind infix'.Div k = Word
infix_kind infix'.Rem k = Word

abbrev pub shift_op : Direction → ℕ → Op
shift_op direction.Left bits = op.Shl bits
shift_op direction.Right bits = op.Shr bits

abbrev pub prefix_op : Prefix → Op
prefix_op prefix'.Flip = op.Flip
prefix_op prefix'.Not = op.Not

abbrev pub prefix_kind : Prefix → Kind
prefix_kind prefix'.Flip = Truth
prefix_kind prefix'.Not = Word

-- the operators before an operand, the nearest first
abbrev pub prefixes_made : List Sign → Here → ℕ → Made → ℕ × Made
prefixes_made [] here x m = (x, m)
prefixes_made (s ∷ ss) here x m =
    let p = emitted here (prefix_kind s.prefix) (right.Apply (prefix_op s.prefix) (slot x ∷ [])) m in
    prefixes_made ss here p.0 p.1

abbrev pub prefixes_plain : List Sign → Bool → Bool
prefixes_plain [] b = b
prefixes_plain (s ∷ ss) b = false

-- a bare number right of * becomes a Scale
abbrev pub segment_made : Option ℕ → Infix → Lowering → SegmentLowering
segment_made (Some k) o l is names here x m = emitted here Word (right.Apply (op.Scale k) (slot x ∷ [])) m
segment_made None o l is names here x m = let p = l.run is names here m in emitted here (infix_kind o (kind_at p.1 x)) (infix_right o x p.0) p.1

-- a name that is not in sight stands for 0
abbrev pub name_made : Option Spot → Here → Made → ℕ × Made
name_made None here m = emitted here Word (right.Lit 0) m
name_made (Some (Binding k)) here m = (k, m)
name_made (Some (Variable k)) here m = emitted here (kind_at m k) (right.Load (slot k)) m
name_made (Some (Array k)) here m = emitted here Word (right.Lit 0) m

abbrev pub name_plain : Option Spot → Bool
name_plain None = false
name_plain (Some (Binding k)) = true
name_plain (Some (Variable k)) = false
name_plain (Some (Array k)) = false

-- an element, at the index that was made
abbrev pub get_made : Option Spot → Here → ℕ × Made → ℕ × Made
get_made None here p = emitted here Word (right.Lit 0) p.1
get_made (Some (Binding k)) here p = emitted here Word (right.Lit 0) p.1
get_made (Some (Variable k)) here p = emitted here Word (right.Lit 0) p.1
get_made (Some (Array k)) here p = emitted here (kind_at p.1 k) (right.Get (slot k) (slot p.0)) p.1

abbrev pub call_made : Option Inlining → Here → List ℕ × Made → ℕ × Made
call_made None here p = emitted here Word (right.Lit 0) p.1
call_made (Some i) here p = i here p.0 p.1

abbrev pub chain_plain : List SegmentLowering → Bool → Bool
chain_plain [] b = b
chain_plain (l ∷ ls) b = false

abbrev pub truth_right : Bool → Right
truth_right b = right.Lit (if b then 1 else 0)

abbrev pub expr_lowering : List (List ℕ) → Expr-F Lowering SegmentLowering → Lowering
expr_lowering hosts (Expr-F.Number n) = record { bare = Some n; plain = λ names. false; run = λ is names here m. emitted here Word (right.Lit n) m }
expr_lowering hosts (Expr-F.Truth b) = record { bare = None; plain = λ names. false; run = λ is names here m. emitted here Truth (truth_right b) m }
expr_lowering hosts (Expr-F.Value x) = record { bare = None; plain = λ names. name_plain (at_name names x.name); run = λ is names here m. name_made (at_name names x.name) here m }
expr_lowering hosts (Expr-F.Element x e) = record { bare = None; plain = λ names. false; run = λ is names here m. get_made (at_name names x.name) here (e.run is names here m) }
expr_lowering hosts (Expr-F.Input host) = record { bare = None; plain = λ names. false; run = λ is names here m. emitted here Word (right.Input (host_id hosts host)) m }
expr_lowering hosts (Expr-F.Call f arguments) =
    record { bare = None; plain = λ names. true; run = λ is names here m. call_made (at_name is f.name) here (all_made arguments is names here m) }
expr_lowering hosts (Expr-F.Min at x y) =
    record { bare = None; plain = λ names. false; run = λ is names here m. operation_made op.Min Word here (all_made (x ∷ y ∷ []) is names here m) }
expr_lowering hosts (Expr-F.Max at x y) =
    record { bare = None; plain = λ names. false; run = λ is names here m. operation_made op.Max Word here (all_made (x ∷ y ∷ []) is names here m) }
expr_lowering hosts (Expr-F.Mux at x y z) =
    record { bare = None; plain = λ names. false; run = λ is names here m. let p = all_made (x ∷ y ∷ z ∷ []) is names here m in operation_made op.Mux (kind_at p.1 (slice_index p.0 1)) here p }
expr_lowering hosts (Expr-F.Declassify x to) =
    record { bare = None; plain = λ names. false; run = λ is names here m. let p = x.run is names here m in emitted here (kind_at p.1 p.0) (right.Declassify (slot p.0) (form_of to)) p.1 }
expr_lowering hosts (Expr-F.Endorse x to) =
    record { bare = None; plain = λ names. false; run = λ is names here m. let p = x.run is names here m in emitted here (kind_at p.1 p.0) (right.Endorse (slot p.0) (form_of to)) p.1 }
expr_lowering hosts (Expr-F.Unary x signs) =
    record { bare = None; plain = λ names. prefixes_plain signs (x.plain names); run = λ is names here m. let p = x.run is names here m in prefixes_made signs here p.0 p.1 }
expr_lowering hosts (Expr-F.Chain first segments) =
    record { bare = None; plain = λ names. chain_plain segments (first.plain names); run = λ is names here m. let p = first.run is names here m in chain_made segments is names here p.0 p.1 }
expr_lowering hosts (Expr-F.Brackets x) = record { bare = None; plain = x.plain; run = x.run }

abbrev pub segment_lowering : Segment-F Lowering SegmentLowering → SegmentLowering
segment_lowering (Segment-F.Infix o at r) = segment_made (scale_of o r.bare) o r
segment_lowering (Segment-F.Shift towards at bits) = λ is names here x m. emitted here Word (right.Apply (shift_op towards bits) (slot x ∷ [])) m

abbrev pub lowering : List (List ℕ) → Expr → Lowering
lowering hosts = fold-Expr Lowering SegmentLowering (expr_lowering hosts) segment_lowering

abbrev pub lowering_of_segment : List (List ℕ) → Segment → SegmentLowering
lowering_of_segment hosts = fold-Segment Lowering SegmentLowering (expr_lowering hosts) segment_lowering

-- where a walk over statements stands: the names in sight, and what is made
pub record Place : Type 0 where
  pub names : Named Spot
  pub made : Made

-- how a statement is made, in the block of that number
abbrev pub StatementLowering : Type 0
StatementLowering = Named Inlining → ℕ → Place → Place

abbrev pub statements_made : List StatementLowering → StatementLowering
statements_made [] is block p = p
statements_made (l ∷ ls) is block p = statements_made ls is block (l is block p)

-- the statements of an inner block, after what is made
abbrev pub emptied : Made → Made
emptied m = record { next = m.next; slots = m.slots; blocks = m.blocks; body = [] }

abbrev pub with_body : List Stmt → Made → Made
with_body body m = record { next = m.next; slots = m.slots; blocks = m.blocks; body = body }

abbrev pub inner_made : List StatementLowering → Named Inlining → ℕ → Named Spot → Made → Made
inner_made ls is block names m = (statements_made ls is block (record { names = names; made = emptied m })).made

-- the body of a loop begins with its name
abbrev pub loop_made : Ident → List StatementLowering → Named Inlining → Here → Named Spot → Made → Made
loop_made x ls is here names m =
    (statements_made ls is here.block (record { names = names ++ (x.name, Binding m.next) ∷ []; made = (with_slot (named_slot here x Word None) (stmt.Let (slot m.next) right.Turn) (emptied m)).1 })).made

-- a binding's name or a call is copied before it is named
abbrev pub copied : Bool → Here → ℕ × Made → ℕ × Made
copied b here p = if b then emitted here (kind_at p.1 p.0) (right.Copy (slot p.0)) p.1 else p

abbrev pub stored : Option Spot → ℕ × Made → Made
stored None p = p.1
stored (Some (Binding k)) p = p.1
stored (Some (Variable k)) p = with_stmt (stmt.Store (slot k) (slot p.0)) p.1
stored (Some (Array k)) p = p.1

-- a write in an array, at the slot of an index
abbrev pub put_made : Option Spot → ℕ → ℕ × Made → Made
put_made None i p = p.1
put_made (Some (Binding k)) i p = p.1
put_made (Some (Variable k)) i p = p.1
put_made (Some (Array k)) i p = with_stmt (stmt.Put (slot k) (slot i) (slot p.0)) p.1

-- both branches of an If are one block
abbrev pub if_made : ℕ → ℕ × Made → List StatementLowering → List StatementLowering → Named Inlining → Named Spot → Made
if_made offset c a b is names =
    let m : Made = record { next = c.1.next; slots = c.1.slots; blocks = c.1.blocks + 1; body = c.1.body } in
    let p = inner_made a is c.1.blocks names m in
    let q = inner_made b is c.1.blocks names p in
    record { next = q.next; slots = q.slots; blocks = q.blocks; body = c.1.body ++ stmt.If (slot c.0) p.body q.body offset ∷ [] }

abbrev pub for_made : ℕ → Made → Made → Made
for_made count p m = record { next = p.next; slots = p.slots; blocks = p.blocks; body = m.body ++ stmt.For count p.body ∷ [] }

abbrev pub statement_lowering : List (List ℕ) → Statement-F StatementLowering → StatementLowering
statement_lowering hosts (Statement-F.Let at x label e) is block p =
    let here : Here = record { offset = at.start; block = block } in
    let q = copied ((lowering hosts e).plain p.names) here ((lowering hosts e).run is p.names here p.made) in
    record { names = p.names ++ (x.name, Binding q.0) ∷ []; made = with_name_at q.0 x label q.1 }
statement_lowering hosts (Statement-F.Var at x kind label e) is block p =
    let here : Here = record { offset = at.start; block = block } in
    let q = (lowering hosts e).run is p.names here p.made in
    record { names = p.names ++ (x.name, Variable q.1.next) ∷ []; made = (with_slot (named_slot here x kind label) (stmt.NewVar (slot q.1.next) (slot q.0)) q.1).1 }
statement_lowering hosts (Statement-F.Array at x kind size label) is block p =
    let here : Here = record { offset = at.start; block = block } in
    record { names = p.names ++ (x.name, Array p.made.next) ∷ []; made = (with_slot (named_slot here x kind label) (stmt.NewArray (slot p.made.next) size) p.made).1 }
statement_lowering hosts (Statement-F.Store x e) is block p =
    let here : Here = record { offset = x.span.start; block = block } in
    record { names = p.names; made = stored (at_name p.names x.name) ((lowering hosts e).run is p.names here p.made) }
statement_lowering hosts (Statement-F.Put x i e) is block p =
    let here : Here = record { offset = x.span.start; block = block } in
    let q = (lowering hosts i).run is p.names here p.made in
    record { names = p.names; made = put_made (at_name p.names x.name) q.0 ((lowering hosts e).run is p.names here q.1) }
statement_lowering hosts (Statement-F.Output at e host) is block p =
    let here : Here = record { offset = at.start; block = block } in
    let q = (lowering hosts e).run is p.names here p.made in
    record { names = p.names; made = with_stmt (stmt.Output (slot q.0) (host_id hosts host) at.start) q.1 }
statement_lowering hosts (Statement-F.If at guard then_block else_block) is block p =
    let here : Here = record { offset = at.start; block = block } in
    record { names = p.names; made = if_made at.start ((lowering hosts guard).run is p.names here p.made) then_block else_block is p.names }
statement_lowering hosts (Statement-F.For at x count body) is block p =
    let here : Here = record { offset = at.start; block = block } in
    record { names = p.names; made = for_made count (loop_made x body is here p.names p.made) p.made }

abbrev pub lowering_of : List (List ℕ) → Statement → StatementLowering
lowering_of hosts = fold-Statement StatementLowering (statement_lowering hosts)

-- a function's statements at a call, with its parameters at the slots of the arguments; what it returns has the place of the call
abbrev pub inlining_of : List (List ℕ) → Function → Named Inlining → Inlining
inlining_of hosts f is here ks m =
    let p = statements_made (map (lowering_of hosts) f.body) is here.block (record { names = bound Binding (parameter_names f.parameters) ks; made = m }) in
    (lowering hosts f.gives).run is p.names here p.made

abbrev pub inlinings_of : List (List ℕ) → List Function → Named Inlining
inlinings_of hosts functions = in_text_order (inlining_of hosts) [] functions

-- main is block 0
abbrev pub main_made : Source → Made
main_made source =
    let hosts = host_names source.hosts in
    inner_made (map (lowering_of hosts) source.main) (inlinings_of hosts source.functions) 0 [] (record { next = 0; slots = []; blocks = 1; body = [] })

abbrev pub normal_form : Source → NormalForm
normal_form source =
    record {
      principals = map (λ x. x.name) source.principals;
      hosts = host_names source.hosts;
      labels = map (λ h. written h.label) source.hosts;
      slots = (main_made source).slots;
      body = (main_made source).body;
    }
