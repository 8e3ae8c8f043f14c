-- A program in which divisions that stand at no protocol are loops of 32 turns.
use Rattle.std.specs.Prelude.{◌≡◌, ℕ, nat_le, Bool, true, false, ◌&&◌, if◌then◌else◌, List, [], ◌∷◌, map, Option, Some, None}
use Rattle.std.specs.Option.{MatchOption}
use Rattle.vd_base.specs.declared.ids.SlotId.{SlotId}
use Rattle.vd_base.specs.declared.operations.Kind.{Kind}
use Rattle.vd_base.specs.declared.operations.Kind.TheVariants.{Word, Bool as Truth}
use Rattle.vd_base.specs.declared.operations.Op.{Op}
use Rattle.vd_base.specs.declared.operations.Op.TheVariants.{Add, Sub, Mul, Scale, Div, Rem, And, Or, Xor, Not, Flip, Shl, Shr, Eq, Ne, Lt, Le, Min, Max, Mux}
use Rattle.vd_base.specs.Limits.{most_nesting}
use Rattle.vd_core.specs.declared.normal.Right.{Right}
use Rattle.vd_core.specs.declared.normal.Right.TheVariants as right
use Rattle.vd_core.specs.declared.normal.Slot.{Slot}
use Rattle.vd_core.specs.declared.normal.NormalForm.{NormalForm}
use Rattle.vd_core.specs.declared.normal.Stmt.{Stmt}
use Rattle.vd_core.specs.declared.normal.Stmt as stmt
use Rattle.vd_core.specs.declared.normal.Stmt.TheOpen.{Stmt-F}
use Rattle.vd_core.specs.declared.normal.Stmt.TheFolds.{fold-Stmt}
use Rattle.vd_core.specs.Facts.{nesting}
use Rattle.vd_rewrite.specs.Rewriting.{Made, slot, entry_of, in_block, fresh, moved, with_stmt, with_new, with_kept, emptied, closed, Lets, kept_let, rewritten, is_within}
use Rattle.vd_long.specs.Template.{place_at, placed_slot, placed_right, division_start, division_turn, division_choice, division_last, remainder_start, remainder_turn, remainder_last}

-- the kind of a new slot: a comparison gives a truth value
abbrev pub kind_of_op : Op → Kind
kind_of_op Add = Word
kind_of_op Sub = Word
kind_of_op Mul = Word
kind_of_op (Scale k) = Word
kind_of_op Div = Word
kind_of_op Rem = Word
kind_of_op And = Word
kind_of_op Or = Word
kind_of_op Xor = Word
kind_of_op Not = Word
kind_of_op Flip = Word
kind_of_op (Shl k) = Word
kind_of_op (Shr k) = Word
kind_of_op Eq = Truth
kind_of_op Ne = Truth
kind_of_op Lt = Truth
kind_of_op Le = Truth
kind_of_op Min = Word
kind_of_op Max = Word
kind_of_op Mux = Word

abbrev pub kind_of_right : Right → Kind
kind_of_right (right.Lit n) = Word
kind_of_right right.Turn = Word
kind_of_right (right.Copy x) = Word
kind_of_right (right.Apply op xs) = kind_of_op op
kind_of_right (right.Input host) = Word
kind_of_right (right.Declassify x to) = Word
kind_of_right (right.Endorse x to) = Word
kind_of_right (right.Load v) = Word
kind_of_right (right.Get v i) = Word

-- a statement of a template, where new slots have this offset and block
abbrev pub step_made : (ℕ → ℕ) → ℕ → ℕ → Stmt-F Stmt → Made → Made
step_made at offset block (Stmt-F.Let p r) m = with_new (fresh (kind_of_right r) offset block) (stmt.Let (placed_slot at p) (placed_right at r)) m
step_made at offset block (Stmt-F.NewVar p j) m = with_new (fresh Word offset block) (stmt.NewVar (placed_slot at p) (placed_slot at j)) m
step_made at offset block (Stmt-F.NewArray p cells) m = m
step_made at offset block (Stmt-F.Store p j) m = with_stmt (stmt.Store (placed_slot at p) (placed_slot at j)) m
step_made at offset block (Stmt-F.Put p i j) m = m
step_made at offset block (Stmt-F.Output p host at') m = m
step_made at offset block (Stmt-F.If p a b at') m = m
step_made at offset block (Stmt-F.For count body) m = m

abbrev pub steps_made : (ℕ → ℕ) → ℕ → ℕ → List (Stmt-F Stmt) → Made → Made
steps_made at offset block [] m = m
steps_made at offset block (s ∷ ss) m = steps_made at offset block ss (step_made at offset block s m)

-- the steps before the loop, in each turn, and behind it, and what then goes into the slot of the division
pub record Template : Type 0 where
  pub start : List (Stmt-F Stmt)
  pub turn : List (Stmt-F Stmt)
  pub behind : List (Stmt-F Stmt)
  pub last : Right

abbrev pub quotient_template : Template
quotient_template = record { start = division_start; turn = division_turn; behind = division_choice; last = division_last }

abbrev pub remainder_template : Template
remainder_template = record { start = remainder_start; turn = remainder_turn; behind = []; last = remainder_last }

abbrev pub looped : (ℕ → ℕ) → ℕ → ℕ → List (Stmt-F Stmt) → Made → Made
looped at offset block turn m = let inner = steps_made at offset block turn (emptied m) in closed m (stmt.For 32 inner.body) inner

-- the division of a by b, which are new numbers, in the place of the slot x
abbrev pub template_made : Template → List Slot → SlotId → (a b : ℕ) → ℕ → Made → Made
template_made t old x a b block m =
    let at = place_at m.next a b in
    let offset = (entry_of old x).offset in
    let done = steps_made at offset block t.behind (looped at offset block t.turn (steps_made at offset block t.start m)) in
    with_kept (in_block block (entry_of old x)) (stmt.Let (slot done.next) (placed_right at t.last)) done

-- a division with its operands
pub record Parts : Type 0 where
  pub template : Template
  pub dividend : SlotId
  pub divisor : SlotId

abbrev pub two_operands : Template → List SlotId → Option Parts
two_operands t [] = None
two_operands t (a ∷ []) = None
two_operands t (a ∷ b ∷ []) = Some (record { template = t; dividend = a; divisor = b })
two_operands t (a ∷ b ∷ c ∷ xs) = None

abbrev pub parts_of_op : Op → List SlotId → Option Parts
parts_of_op Add xs = None
parts_of_op Sub xs = None
parts_of_op Mul xs = None
parts_of_op (Scale k) xs = None
parts_of_op Div xs = two_operands quotient_template xs
parts_of_op Rem xs = two_operands remainder_template xs
parts_of_op And xs = None
parts_of_op Or xs = None
parts_of_op Xor xs = None
parts_of_op Not xs = None
parts_of_op Flip xs = None
parts_of_op (Shl k) xs = None
parts_of_op (Shr k) xs = None
parts_of_op Eq xs = None
parts_of_op Ne xs = None
parts_of_op Lt xs = None
parts_of_op Le xs = None
parts_of_op Min xs = None
parts_of_op Max xs = None
parts_of_op Mux xs = None

abbrev pub parts_of : Right → Option Parts
parts_of (right.Lit n) = None
parts_of right.Turn = None
parts_of (right.Copy x) = None
parts_of (right.Apply op xs) = parts_of_op op xs
parts_of (right.Input host) = None
parts_of (right.Declassify x to) = None
parts_of (right.Endorse x to) = None
parts_of (right.Load v) = None
parts_of (right.Get v i) = None

abbrev pub parts_made : List Slot → SlotId → Right → Option Parts → ℕ → Made → Made
parts_made old x r None block m = kept_let old x r block m
parts_made old x r (Some p) block m = template_made p.template old x (moved m.table p.dividend).0 (moved m.table p.divisor).0 block m

-- the marked slots are those that no protocol is for
abbrev pub long_let : (SlotId → Bool) → List Slot → Lets
long_let lengthens old x r block m = if lengthens x then parts_made old x r (parts_of r) block m else kept_let old x r block m

abbrev pub nothing_hidden : SlotId → Bool
nothing_hidden g = false

abbrev pub with_long_divisions : (SlotId → Bool) → NormalForm → NormalForm
with_long_divisions lengthens program = rewritten nothing_hidden (long_let lengthens program.slots) program

-- whether a division is lengthened
abbrev pub is_division : Option Parts → Bool
is_division None = false
is_division (Some p) = true

abbrev pub some_true : List Bool → Bool
some_true [] = false
some_true (b ∷ bs) = if b then true else some_true bs

abbrev pub lengthens_step : (SlotId → Bool) → Stmt-F Bool → Bool
lengthens_step lengthens (Stmt-F.Let x r) = lengthens x && is_division (parts_of r)
lengthens_step lengthens (Stmt-F.NewVar v x) = false
lengthens_step lengthens (Stmt-F.NewArray v cells) = false
lengthens_step lengthens (Stmt-F.Store v x) = false
lengthens_step lengthens (Stmt-F.Put v i x) = false
lengthens_step lengthens (Stmt-F.Output x host offset) = false
lengthens_step lengthens (Stmt-F.If guard a b offset) = if some_true a then true else some_true b
lengthens_step lengthens (Stmt-F.For count body) = some_true body

abbrev pub some_lengthened : (SlotId → Bool) → List Stmt → Bool
some_lengthened lengthens body = some_true (map (fold-Stmt Bool (lengthens_step lengthens)) body)

-- loops stand in each other no deeper than they may
abbrev pub is_nested : NormalForm → Bool
is_nested program = nat_le (nesting program.body) most_nesting

-- all divisions without a protocol, or none where that would break a limit
abbrev pub lengthened : (SlotId → Bool) → NormalForm → NormalForm
lengthened lengthens program =
    let new = with_long_divisions lengthens program in
    if some_lengthened lengthens program.body && (is_within new && is_nested new) then new else program

-- the new program, or none where it is the old one
abbrev pub IsLengthened : (SlotId → Bool) → NormalForm → Option NormalForm → Type 0
IsLengthened lengthens program result = MatchOption result (lengthened lengthens program ≡ program) (λ new. new ≡ lengthened lengthens program)
