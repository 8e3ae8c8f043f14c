-- All words of all states are words, where the numbers of a program and the inputs are.
use Rattle.std.proofs.Common.{◌≡◌, ◌⊎◌, inl, inr, ℕ, zero, suc, ◌+◌, ◌-◌, ◌*◌, ◌/◌, ◌%◌, ◌^◌, ◌≤◌, nat_eq, nat_lt, Bool, true, false, ◌&&◌, not, if◌then◌else◌, List, [], ◌∷◌, map, slice_index, slice_index_or, slice_set, replicate, sym, subst, subst₂, arith}
use Rattle.std.specs.List.{list_all}
use Rattle.std.proofs.lemmas.Bool.{cases_eq, and_parts, ltb-true}
use Rattle.std.proofs.lemmas.Bool.Decides.{nat_tests}
use Rattle.std.proofs.lemmas.Nat.{and_le_l, or_lt, xor_lt}
use Rattle.std.proofs.Math.Nat.{mod-lt, mod-le, div-le_self}
use Rattle.vd_base.specs.declared.ids.SlotId.{SlotId}
use Rattle.vd_base.specs.declared.operations.Op.{Op}
use Rattle.vd_base.specs.declared.operations.Op.TheVariants.{Add, Sub, Mul, Scale, Div, Rem, And, Or, Xor, Not, Flip, Shl, Shr, Eq, Ne, Lt, Le, Min, Max, Mux}
use Rattle.vd_base.specs.Operations.{operation, truth_word}
use Rattle.vd_base.specs.Words.{IsWord}
use Rattle.vd_core.specs.declared.normal.Right.{Right}
use Rattle.vd_core.specs.declared.normal.Right.TheVariants.{Lit, Turn, Copy, Apply, Input, Declassify, Endorse, Load, Get}
use Rattle.vd_core.specs.declared.normal.Stmt.{Stmt, roll-Stmt, map-Stmt, ind-Stmt}
use Rattle.vd_core.specs.declared.normal.Stmt.TheOpen.{Stmt-F}
use Rattle.vd_core.specs.declared.normal.Stmt.TheFolds.{fold-roll-Stmt}
use Rattle.vd_core.specs.Facts.{meets, blocks_meet}
use Rattle.vd_semantics.specs.Stores.{put}
use Rattle.vd_semantics.specs.Turns.{turns}
use Rattle.vd_semantics.specs.World.{World, world_at_start, first_word, later_words}
use Rattle.vd_semantics.specs.ProgramMeaning.{SlotState, word_at, array_at, with_word, with_array, right_word, after_right, Effect, in_order, stmt_effect, effect, state_at_start}
use Rattle.vd_core.specs.Numbers.{numbers_fit, number_fits}
use Rattle.vd_rewrite.proofs.Front.{item_put, item_put_other}

abbrev pub AreWords : List ℕ → Type 0
AreWords xs = (i : ℕ) → IsWord (slice_index xs i)

abbrev pub AllWords : List (List ℕ) → Type 0
AllWords xs = (h i : ℕ) → IsWord (slice_index (slice_index_or xs h []) i)

pub record Words (s : SlotState) : Type 0 where
  pub words : AreWords s.words
  pub arrays : AllWords s.arrays
  pub inputs : AllWords s.world.inputs

truth_is : (b : Bool) → IsWord (truth_word b)
truth_is true = omega arith
truth_is false = omega arith

choice_is : (b : Bool) (m n : ℕ) → IsWord m → IsWord n → IsWord (if b then m else n)
choice_is true m n p q = p
choice_is false m n p q = q

operation_is : (o : Op) (x y z : ℕ) → IsWord x → IsWord y → IsWord z → IsWord (operation o x y z)
operation_is Add x y z a b c = mod-lt (x + y) (omega arith)
operation_is Sub x y z a b c = mod-lt (x + (2 ^ 32 - y)) (omega arith)
operation_is Mul x y z a b c = mod-lt (x * y) (omega arith)
operation_is (Scale k) x y z a b c = mod-lt (x * k) (omega arith)
operation_is Div x y z a b c = choice_is (nat_eq y 0) 0 (x / y) (omega arith) (let le = div-le_self x y in omega arith)
operation_is Rem x y z a b c = choice_is (nat_eq y 0) x (x % y) a (let le = mod-le x y in omega arith)
operation_is And x y z a b c = let le = and_le_l x y in omega arith
operation_is Or x y z a b c = or_lt 32 x y a b
operation_is Xor x y z a b c = xor_lt 32 x y a b
operation_is Not x y z a b c = omega arith
operation_is Flip x y z a b c = xor_lt 32 x 1 a (omega arith)
operation_is (Shl k) x y z a b c = mod-lt (x * 2 ^ k) (omega arith)
operation_is (Shr k) x y z a b c = let le = div-le_self x (2 ^ k) in omega arith
operation_is Eq x y z a b c = truth_is (nat_eq x y)
operation_is Ne x y z a b c = truth_is (not (nat_eq x y))
operation_is Lt x y z a b c = truth_is (nat_lt x y)
operation_is Le x y z a b c = truth_is (not (nat_lt y x))
operation_is Min x y z a b c = omega arith
operation_is Max x y z a b c = omega arith
operation_is Mux x y z a b c = choice_is (nat_eq (x % 2) 1) y z b c

operand : (s : SlotState) (xs : List SlotId) (i : ℕ) → Words s → IsWord (slice_index (map (word_at s) xs) i)
operand s [] i w = omega arith
operand s (x ∷ xs) zero w = w.words x.0
operand s (x ∷ xs) (suc i) w = operand s xs i w

zeros_are : (n i : ℕ) → IsWord (slice_index (replicate n 0) i)
zeros_are zero i = omega arith
zeros_are (suc n) zero = omega arith
zeros_are (suc n) (suc i) = zeros_are n i

set_are : (xs : List ℕ) (i w j : ℕ) → IsWord w → AreWords xs → IsWord (slice_index (slice_set xs i w) j)
set_are [] i w j lt h = omega arith
set_are (x ∷ xs) zero w zero lt h = lt
set_are (x ∷ xs) zero w (suc j) lt h = h (suc j)
set_are (x ∷ xs) (suc i) w zero lt h = h zero
set_are (x ∷ xs) (suc i) w (suc j) lt h = set_are xs i w j lt (λ k. h (suc k))

set_all : (xss : List (List ℕ)) (i : ℕ) (ws : List ℕ) (h j : ℕ) → AreWords ws → AllWords xss → IsWord (slice_index (slice_index_or (slice_set xss i ws) h []) j)
set_all [] i ws h j lt all = omega arith
set_all (x ∷ xs) zero ws zero j lt all = lt j
set_all (x ∷ xs) zero ws (suc h) j lt all = all (suc h) j
set_all (x ∷ xs) (suc i) ws zero j lt all = all zero j
set_all (x ∷ xs) (suc i) ws (suc h) j lt all = set_all xs i ws h j lt (λ k. all (suc k))

later_are : (xs : List ℕ) → AreWords xs → AreWords (later_words xs)
later_are [] h i = omega arith
later_are (x ∷ xs) h i = h (suc i)

first_is : (xs : List ℕ) → AreWords xs → IsWord (first_word xs)
first_is [] h = omega arith
first_is (x ∷ xs) h = h zero

right_is : (r : Right) (turn : ℕ) (s : SlotState) → number_fits r ≡ true → IsWord turn → Words s → IsWord (right_word r turn s)
right_is (Lit n) turn s fits t w = grind (arith, nat_tests)
right_is Turn turn s fits t w = t
right_is (Copy x) turn s fits t w = w.words x.0
right_is (Apply op xs) turn s fits t w =
    operation_is op (slice_index (map (word_at s) xs) 0) (slice_index (map (word_at s) xs) 1) (slice_index (map (word_at s) xs) 2) (operand s xs 0 w) (operand s xs 1 w) (operand s xs 2 w)
right_is (Input host) turn s fits t w = first_is (slice_index_or s.world.inputs host.0 []) (w.inputs host.0)
right_is (Declassify x to) turn s fits t w = w.words x.0
right_is (Endorse x to) turn s fits t w = w.words x.0
right_is (Load v) turn s fits t w = w.words v.0
right_is (Get v i) turn s fits t w = w.arrays v.0 (word_at s i)

inputs_after : (r : Right) (w : World) → AllWords w.inputs → AllWords (after_right r w).inputs
inputs_after (Lit n) w h = h
inputs_after Turn w h = h
inputs_after (Copy x) w h = h
inputs_after (Apply op xs) w h = h
inputs_after (Input host) w h = λ k i. set_all w.inputs host.0 (later_words (slice_index_or w.inputs host.0 [])) k i (later_are (slice_index_or w.inputs host.0 []) (h host.0)) h
inputs_after (Declassify x to) w h = h
inputs_after (Endorse x to) w h = h
inputs_after (Load v) w h = h
inputs_after (Get v i) w h = h

put_are : (xs : List ℕ) (k w : ℕ) → IsWord w → AreWords xs → AreWords (put 0 xs k w)
put_are xs k w lt h i = at (cases_eq k i)
  where
    at : (k ≡ i) ⊎ (k ≡ i → ⊥) → IsWord (slice_index (put 0 xs k w) i)
    at (inl e) = subst (λ z. IsWord (slice_index (put 0 xs k w) z)) e (subst IsWord (sym (item_put 0 xs k w)) lt)
    at (inr n) = subst IsWord (sym (item_put_other 0 xs k i w n)) (h i)

put_all : (xss : List (List ℕ)) (k : ℕ) (ws : List ℕ) → AreWords ws → AllWords xss → AllWords (put [] xss k ws)
put_all xss k ws lt all h i = at (cases_eq k h)
  where
    at : (k ≡ h) ⊎ (k ≡ h → ⊥) → IsWord (slice_index (slice_index_or (put [] xss k ws) h []) i)
    at (inl e) = subst (λ z. IsWord (slice_index (slice_index_or (put [] xss k ws) z []) i)) e (subst (λ (z : List ℕ). IsWord (slice_index z i)) (sym (item_put [] xss k ws)) (lt i))
    at (inr n) = subst (λ (z : List ℕ). IsWord (slice_index z i)) (sym (item_put_other [] xss k h ws n)) (all h i)

word_kept : (s : SlotState) (x : SlotId) (w : ℕ) → IsWord w → Words s → Words (with_word x w s)
word_kept s x w lt h = record { words = put_are s.words x.0 w lt h.words; arrays = h.arrays; inputs = h.inputs }

array_kept : (s : SlotState) (v : SlotId) (ws : List ℕ) → AreWords ws → Words s → Words (with_array v ws s)
array_kept s v ws lt h = record { words = h.words; arrays = put_all s.arrays v.0 ws lt h.arrays; inputs = h.inputs }

abbrev Keeps : Effect → Type 0
Keeps f = (turn : ℕ) (s : SlotState) → IsWord turn → Words s → Words (f turn s)

abbrev test : Stmt-F Bool → Bool
test s = numbers_fit s && blocks_meet s

abbrev Meant : Stmt → Type 0
Meant s = meets numbers_fit s ≡ true → Keeps (effect s)

abbrev M : Type 0
M = (s : Stmt) × Meant s

abbrev olds : List M → List Effect
olds ms = map effect (map (λ (m : M). m.0) ms)

abbrev tests : List M → List Bool
tests ms = map (meets numbers_fit) (map (λ (m : M). m.0) ms)

order_keeps : (ms : List M) → list_all (λ b. b) (tests ms) ≡ true → Keeps (in_order (olds ms))
order_keeps [] h turn s t w = w
order_keeps (m ∷ ms) h turn s t w =
    let p = and_parts (meets numbers_fit m.0) (list_all (λ b. b) (tests ms)) h in
    order_keeps ms p.1 turn (effect m.0 turn s) t (m.1 p.0 turn s t w)

turns_keep : (f : Effect) → Keeps f → (count : ℕ) (s : SlotState) → count ≤ 2 ^ 32 → Words s → Words (turns count f s)
turns_keep f h zero s le w = w
turns_keep f h (suc n) s le w = h n (turns n f s) (omega arith) (turns_keep f h n s (omega arith) w)

abbrev layer : Stmt-F M → Stmt-F Stmt
layer = map-Stmt M Stmt (λ m. m.0)

step : (y : Stmt-F M) → test (map-Stmt Stmt Bool (meets numbers_fit) (layer y)) ≡ true → Keeps (stmt_effect (map-Stmt Stmt Effect effect (layer y)))
step (Stmt-F.Let x r) h turn s t w =
    let p = and_parts (number_fits r) true h in
    let one = word_kept s x (right_word r turn s) (right_is r turn s p.0 t w) w in
    record { words = one.words; arrays = one.arrays; inputs = inputs_after r s.world w.inputs }
step (Stmt-F.NewVar v x) h turn s t w = word_kept s v (word_at s x) (w.words x.0) w
step (Stmt-F.NewArray v cells) h turn s t w = array_kept s v (replicate cells 0) (zeros_are cells) w
step (Stmt-F.Store v x) h turn s t w = word_kept s v (word_at s x) (w.words x.0) w
step (Stmt-F.Put v i x) h turn s t w = array_kept s v (slice_set (array_at s v) (word_at s i) (word_at s x)) (λ j. set_are (array_at s v) (word_at s i) (word_at s x) j (w.words x.0) (w.arrays v.0)) w
step (Stmt-F.Output x host offset) h turn s t w = record { words = w.words; arrays = w.arrays; inputs = w.inputs }
step (Stmt-F.If guard a b offset) h turn s t w =
    let q = and_parts (list_all (λ b. b) (tests a)) (list_all (λ b. b) (tests b)) h in
    branch q.0 q.1 (nat_eq (word_at s guard) 0)
  where
    branch : list_all (λ b. b) (tests a) ≡ true → list_all (λ b. b) (tests b) ≡ true → (c : Bool) → Words (in_order (if c then olds b else olds a) turn s)
    branch ha hb true = order_keeps b hb turn s t w
    branch ha hb false = order_keeps a ha turn s t w
step (Stmt-F.For count body) h turn s t w =
    let p = and_parts (nat_lt count (2 ^ 32)) (list_all (λ b. b) (tests body)) h in
    turns_keep (in_order (olds body)) (order_keeps body p.1) count s (let few = ltb-true count (2 ^ 32) p.0 in omega (arith, few)) w

at_roll : (y : Stmt-F M) → Meant (roll-Stmt (layer y))
at_roll y = subst₂ (λ (b : Bool) (f : Effect). b ≡ true → Keeps f) (sym (fold-roll-Stmt Bool test (layer y))) (sym (fold-roll-Stmt Effect stmt_effect (layer y))) (step y)

pub meant : (s : Stmt) → Meant s
meant = ind-Stmt Meant (λ x y is. subst (λ z. Meant (roll-Stmt z)) is (at_roll y))

pub words_at_start : (hosts : ℕ) (inputs : List (List ℕ)) → AllWords inputs → Words (state_at_start (world_at_start hosts inputs))
words_at_start hosts inputs h = record { words = λ i. omega arith; arrays = λ h i. omega arith; inputs = h }
