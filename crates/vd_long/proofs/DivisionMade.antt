-- What a division becomes gives its word, and changes nothing else that was made before.
use Rattle.std.proofs.Common.{◌≡◌, ◌⊎◌, inl, inr, ℕ, zero, suc, ◌+◌, ◌^◌, ◌<◌, nat_le, Bool, true, false, true≢false, ◌&&◌, if◌then◌else◌, List, [], ◌∷◌, ◌++◌, length, map, slice_index, Option, Some, None, refl, sym, ap, ap₂, ◌∙◌, subst, arith}
use Rattle.std.proofs.lemmas.Bool.{and_parts, ltb-true}
use Rattle.vd_base.specs.Words.{IsWord}
use Rattle.vd_base.specs.declared.ids.SlotId.{SlotId}
use Rattle.vd_base.specs.declared.operations.Op.{Op}
use Rattle.vd_base.specs.declared.operations.Op.TheVariants.{Add, Sub, Mul, Scale, Div, Rem, And, Or, Xor, Not, Flip, Shl, Shr, Eq, Ne, Lt, Le, Min, Max, Mux}
use Rattle.vd_base.specs.Limits.{most_nesting}
use Rattle.vd_base.specs.Operations.{operation}
use Rattle.vd_core.specs.declared.normal.Right.{Right}
use Rattle.vd_core.specs.declared.normal.Right.TheVariants as right
use Rattle.vd_core.specs.declared.normal.Slot.{Slot}
use Rattle.vd_core.specs.declared.normal.NormalForm.{NormalForm}
use Rattle.vd_core.specs.declared.normal.Stmt.{Stmt, Let, NewVar, Store, For, map-Stmt}
use Rattle.vd_core.specs.declared.normal.Stmt.TheOpen.{Stmt-F}
use Rattle.vd_core.specs.Facts.{Sight, is_binding, right_sees, nesting, SlotsInOrder, SlotsMadeBefore}
use Rattle.vd_semantics.specs.Turns.{turns}
use Rattle.vd_semantics.specs.ProgramMeaning.{SlotState, right_word, after_right, Effect, stmt_effect, effect, block_effect, program_outputs}
use Rattle.vd_rewrite.specs.Rewriting.{Made, slot, entry_of, moved, emptied, is_within, kept_let}
use Rattle.vd_long.specs.Template.{place_at, placed, placed_slot, placed_right}
use Rattle.vd_core.specs.Numbers.{NumbersFit, numbers_fit}
use Rattle.vd_long.specs.Lengthened.{step_made, steps_made, looped, Template, quotient_template, remainder_template, template_made, Parts, parts_of, parts_made, long_let, nothing_hidden, with_long_divisions, some_lengthened, lengthened}
use Rattle.vd_rewrite.proofs.Front.{item_old, item_last, length_push, pushed, Placed, placed_push, placed_later, Grown, Known, word, state, Adds, effect_let, Agree, effect_var, effect_store, effect_for, LetState, Laws, let_grown, let_adds, let_gives, outputs_kept}
use Rattle.vd_long.proofs.Numbers.{AllWords, Words, meant, words_at_start}
use Rattle.vd_long.proofs.DivisionSteps.{view, IsApart, is_plain, all_plain, run, quotient_ran, remainder_ran}
use Rattle.vd_long.proofs.DivisionOthers.{IsOutside, KeepsOthers, ran_keeps, rest_keeps}

abbrev pub as_effect : Stmt-F Stmt → Stmt-F Effect
as_effect = map-Stmt Stmt Effect effect

abbrev pub as_effects : List (Stmt-F Stmt) → List (Stmt-F Effect)
as_effects ss = map as_effect ss

step_state : (at : ℕ → ℕ) (offset block : ℕ) (x : Stmt-F Stmt) (m : Made) (turn : ℕ) (s0 : SlotState) → is_plain (as_effect x) ≡ true → state (step_made at offset block x m) turn s0 ≡ stmt_effect (placed at (as_effect x)) turn (state m turn s0)
step_state at offset block (Stmt-F.Let p r) m turn s0 h = pushed m.body (Let (placed_slot at p) (placed_right at r)) (stmt_effect (Stmt-F.Let (placed_slot at p) (placed_right at r))) (effect_let (placed_slot at p) (placed_right at r)) turn s0
step_state at offset block (Stmt-F.NewVar p j) m turn s0 h = pushed m.body (NewVar (placed_slot at p) (placed_slot at j)) (stmt_effect (Stmt-F.NewVar (placed_slot at p) (placed_slot at j))) (effect_var (placed_slot at p) (placed_slot at j)) turn s0
step_state at offset block (Stmt-F.NewArray p cells) m turn s0 h = absurd (true≢false (sym h))
step_state at offset block (Stmt-F.Store p j) m turn s0 h = pushed m.body (Store (placed_slot at p) (placed_slot at j)) (stmt_effect (Stmt-F.Store (placed_slot at p) (placed_slot at j))) (effect_store (placed_slot at p) (placed_slot at j)) turn s0
step_state at offset block (Stmt-F.Put p i j) m turn s0 h = absurd (true≢false (sym h))
step_state at offset block (Stmt-F.Output p host offset') m turn s0 h = absurd (true≢false (sym h))
step_state at offset block (Stmt-F.If p a b offset') m turn s0 h = absurd (true≢false (sym h))
step_state at offset block (Stmt-F.For count body) m turn s0 h = absurd (true≢false (sym h))

steps_state : (at : ℕ → ℕ) (offset block : ℕ) (ss : List (Stmt-F Stmt)) (m : Made) (turn : ℕ) (s0 : SlotState) → all_plain (as_effects ss) ≡ true → state (steps_made at offset block ss m) turn s0 ≡ run at (as_effects ss) turn (state m turn s0)
steps_state at offset block [] m turn s0 h = refl
steps_state at offset block (x ∷ ss) m turn s0 h =
    let p = and_parts (is_plain (as_effect x)) (all_plain (as_effects ss)) h in
    steps_state at offset block ss (step_made at offset block x m) turn s0 p.1 ∙ ap (λ (z : SlotState). run at (as_effects ss) turn z) (step_state at offset block x m turn s0 p.0)

turns_same : (f g : Effect) → ((n : ℕ) (s : SlotState) → f n s ≡ g n s) → (count : ℕ) (s : SlotState) → turns count f s ≡ turns count g s
turns_same f g h zero s = refl
turns_same f g h (suc n) s = h n (turns n f s) ∙ ap (λ (z : SlotState). g n z) (turns_same f g h n s)

looped_state : (at : ℕ → ℕ) (offset block : ℕ) (ss : List (Stmt-F Stmt)) (m : Made) (turn : ℕ) (s0 : SlotState) → all_plain (as_effects ss) ≡ true → state (looped at offset block ss m) turn s0 ≡ turns 32 (run at (as_effects ss)) (state m turn s0)
looped_state at offset block ss m turn s0 h =
    let inner = steps_made at offset block ss (emptied m) in
    pushed m.body (For 32 inner.body) (stmt_effect (Stmt-F.For 32 (map effect inner.body))) (effect_for 32 inner.body) turn s0
    ∙ turns_same (block_effect inner.body) (run at (as_effects ss)) (λ n s. steps_state at offset block ss (emptied m) n s h) 32 (state m turn s0)

-- all statements of a division, with the last at this number
abbrev pub full : Template → ℕ → (ℕ → ℕ) → Effect
full t k at turn s = stmt_effect (Stmt-F.Let (slot (at (suc (suc k)))) (placed_right at t.last)) turn (run at (as_effects t.behind) turn (turns 32 (run at (as_effects t.turn)) (run at (as_effects t.start) turn s)))

-- what is known of a template that takes so many new slots before its last
pub record TemplateLaw (t : Template) (o : Op) (k : ℕ) : Type 0 where
  pub plain_start : all_plain (as_effects t.start) ≡ true
  pub plain_turn : all_plain (as_effects t.turn) ≡ true
  pub plain_behind : all_plain (as_effects t.behind) ≡ true
  pub gives : (at : ℕ → ℕ) → IsApart at → (turn : ℕ) (s : SlotState) → view at s 0 < 2 ^ 32 → view at (full t k at turn s) (suc (suc k)) ≡ operation o (view at s 0) (view at s 1) 0
  pub keeps : (at : ℕ → ℕ) (turn : ℕ) (s : SlotState) → KeepsOthers at s (full t k at turn s)
  pub count : (at : ℕ → ℕ) (offset block : ℕ) (m : Made) → (steps_made at offset block t.behind (looped at offset block t.turn (steps_made at offset block t.start m))).next ≡ m.next + k
  pub table : (at : ℕ → ℕ) (offset block : ℕ) (m : Made) → (steps_made at offset block t.behind (looped at offset block t.turn (steps_made at offset block t.start m))).table ≡ m.table

quotient_law : TemplateLaw quotient_template Div 19
quotient_law =
    record {
      plain_start = refl;
      plain_turn = refl;
      plain_behind = refl;
      gives = λ at apart turn s lt. quotient_ran at apart turn s lt;
      keeps = λ at turn s. ran_keeps at turn s;
      count = λ at offset block m. omega arith;
      table = λ at offset block m. refl;
    }

remainder_law : TemplateLaw remainder_template Rem 13
remainder_law =
    record {
      plain_start = refl;
      plain_turn = refl;
      plain_behind = refl;
      gives = λ at apart turn s lt. remainder_ran at apart turn s lt;
      keeps = λ at turn s. rest_keeps at turn s;
      count = λ at offset block m. omega arith;
      table = λ at offset block m. refl;
    }

-- new numbers stand apart from those before them, and from one another
placed_apart_at : (next a b : ℕ) → a < next → b < next → IsApart (place_at next a b)
placed_apart_at next a b la lb (suc (suc p)) zero le e = absurd (omega (arith, e))
placed_apart_at next a b la lb (suc (suc p)) (suc zero) le e = absurd (omega (arith, e))
placed_apart_at next a b la lb (suc (suc p)) (suc (suc j)) le e = omega (arith, e)
placed_apart_at next a b la lb zero j le e = absurd (omega arith)
placed_apart_at next a b la lb (suc zero) j le e = absurd (omega arith)

outside_at : (next a b j : ℕ) → j < next → IsOutside (place_at next a b) j
outside_at next a b j lt (suc (suc p)) le e = omega (arith, e)
outside_at next a b j lt zero le e = omega arith
outside_at next a b j lt (suc zero) le e = omega arith

module _ (t : Template) (o : Op) (k : ℕ) (law : TemplateLaw t o k) (old : List Slot) (x : SlotId) (a b block : ℕ) (m : Made) where
  abbrev at : ℕ → ℕ
  at = place_at m.next a b

  abbrev offset : ℕ
  offset = (entry_of old x).offset

  abbrev done : Made
  done = steps_made at offset block t.behind (looped at offset block t.turn (steps_made at offset block t.start m))

  abbrev made : Made
  made = template_made t old x a b block m

  made_state : (turn : ℕ) (s0 : SlotState) → state made turn s0 ≡ full t k at turn (state m turn s0)
  made_state turn s0 =
      let first = steps_made at offset block t.start m in
      let second = looped at offset block t.turn first in
      pushed done.body (Let (slot done.next) (placed_right at t.last)) (stmt_effect (Stmt-F.Let (slot done.next) (placed_right at t.last))) (effect_let (slot done.next) (placed_right at t.last)) turn s0
      ∙ ap (λ n. stmt_effect (Stmt-F.Let (slot n) (placed_right at t.last)) turn (state done turn s0)) (law.count at offset block m)
      ∙ ap (λ (z : SlotState). stmt_effect (Stmt-F.Let (slot (m.next + k)) (placed_right at t.last)) turn z)
      (steps_state at offset block t.behind second turn s0 law.plain_behind
      ∙ ap (λ (z : SlotState). run at (as_effects t.behind) turn z)
      (looped_state at offset block t.turn first turn s0 law.plain_turn ∙ ap (λ (z : SlotState). turns 32 (run at (as_effects t.turn)) z) (steps_state at offset block t.start m turn s0 law.plain_start)))

  made_grown : Placed m.table m.next → Grown m made 1
  made_grown p =
      let n = law.count at offset block m in
      let e = law.table at offset block m in
      record {
        placed = subst (λ (z : List ℕ). Placed (z ++ done.next ∷ []) (done.next + 1)) (sym e) (placed_push m.table done.next (done.next + 1) (placed_later m.table m.next done.next p (omega arith)) (omega arith));
        next = omega arith;
        size = length_push done.table done.next ∙ ap (λ (z : List ℕ). length z + 1) e;
        kept = λ j h. ap (λ (z : List ℕ). slice_index (z ++ done.next ∷ []) j) e ∙ item_old m.table done.next j h;
      }

  made_adds : (turn : ℕ) (s0 : SlotState) → Adds m.next (state m turn s0) (state made turn s0)
  made_adds turn s0 =
      let keeps = law.keeps at turn (state m turn s0) in
      subst (λ (z : SlotState). Adds m.next (state m turn s0) z) (sym (made_state turn s0))
      (record { world = keeps.world; arrays = keeps.arrays; below = λ j lt. keeps.words j (outside_at m.next a b j lt) })

  made_word : a < m.next → b < m.next → (turn : ℕ) (s0 : SlotState) → word (state m turn s0) a < 2 ^ 32 → word (state made turn s0) (slice_index made.table (length m.table)) ≡ operation o (word (state m turn s0) a) (word (state m turn s0) b) 0
  made_word la lb turn s0 lt =
      let e = law.table at offset block m in
      let there : slice_index made.table (length m.table) ≡ m.next + k = ap (λ (z : List ℕ). slice_index (z ++ done.next ∷ []) (length m.table)) e ∙ item_last m.table done.next ∙ law.count at offset block m in
      ap (λ n. word (state made turn s0) n) there ∙ ap (λ (z : SlotState). word z (m.next + k)) (made_state turn s0) ∙ law.gives at (placed_apart_at m.next a b la lb) turn (state m turn s0) lt

-- a right side that is a division of two operands
pub record IsDivision (r : Right) : Type 0 where
  pub template : Template
  pub op : Op
  pub count : ℕ
  pub law : TemplateLaw template op count
  pub a : SlotId
  pub b : SlotId
  pub is : r ≡ right.Apply op (a ∷ b ∷ [])
  pub parts : parts_of r ≡ Some (record { template = template; dividend = a; divisor = b })
  pub which : (template ≡ quotient_template) ⊎ (template ≡ remainder_template)

classify : (r : Right) → (parts_of r ≡ None) ⊎ IsDivision r
classify (right.Apply Div []) = inl refl
classify (right.Apply Div (a ∷ [])) = inl refl
classify (right.Apply Div (a ∷ b ∷ [])) = inr (record { template = quotient_template; op = Div; count = 19; law = quotient_law; a = a; b = b; is = refl; parts = refl; which = inl refl })
classify (right.Apply Div (a ∷ b ∷ c ∷ xs)) = inl refl
classify (right.Apply Rem []) = inl refl
classify (right.Apply Rem (a ∷ [])) = inl refl
classify (right.Apply Rem (a ∷ b ∷ [])) = inr (record { template = remainder_template; op = Rem; count = 13; law = remainder_law; a = a; b = b; is = refl; parts = refl; which = inr refl })
classify (right.Apply Rem (a ∷ b ∷ c ∷ xs)) = inl refl
classify (right.Apply Add xs) = inl refl
classify (right.Apply Sub xs) = inl refl
classify (right.Apply Mul xs) = inl refl
classify (right.Apply (Scale k) xs) = inl refl
classify (right.Apply And xs) = inl refl
classify (right.Apply Or xs) = inl refl
classify (right.Apply Xor xs) = inl refl
classify (right.Apply Not xs) = inl refl
classify (right.Apply Flip xs) = inl refl
classify (right.Apply (Shl k) xs) = inl refl
classify (right.Apply (Shr k) xs) = inl refl
classify (right.Apply Eq xs) = inl refl
classify (right.Apply Ne xs) = inl refl
classify (right.Apply Lt xs) = inl refl
classify (right.Apply Le xs) = inl refl
classify (right.Apply Min xs) = inl refl
classify (right.Apply Max xs) = inl refl
classify (right.Apply Mux xs) = inl refl
classify (right.Lit n) = inl refl
classify right.Turn = inl refl
classify (right.Copy x) = inl refl
classify (right.Input host) = inl refl
classify (right.Declassify x to) = inl refl
classify (right.Endorse x to) = inl refl
classify (right.Load v) = inl refl
classify (right.Get v i) = inl refl

-- what is true of a Let that stays and of each division is true of what a Let becomes
pub long_cases : (lengthens : SlotId → Bool) (old : List Slot) (P : Made → Type 0) (x : SlotId) (r : Right) (block : ℕ) (m : Made) → P (kept_let old x r block m)
    → ((d : IsDivision r) → P (template_made d.template old x (moved m.table d.a).0 (moved m.table d.b).0 block m)) → P (long_let lengthens old x r block m)
long_cases lengthens old P x r block m kept long = by (lengthens x) (classify r)
  where
    by : (c : Bool) → (parts_of r ≡ None) ⊎ IsDivision r → P (if c then parts_made old x r (parts_of r) block m else kept_let old x r block m)
    by false k = kept
    by true (inl none) = subst (λ (o : Option Parts). P (parts_made old x r o block m)) (sym none) kept
    by true (inr d) = subst (λ (o : Option Parts). P (parts_made old x r o block m)) (sym d.parts) (long d)

-- both operands are in sight
pub operands_seen : (r : Right) (d : IsDivision r) (seen : Sight) → right_sees r seen ≡ true → (is_binding seen d.a ≡ true) × (is_binding seen d.b ≡ true)
operands_seen r d seen sees =
    let s : (is_binding seen d.a && (is_binding seen d.b && true)) ≡ true = subst (λ (z : Right). right_sees z seen ≡ true) d.is sees in
    let p = and_parts (is_binding seen d.a) (is_binding seen d.b && true) s in
    let q = and_parts (is_binding seen d.b) true p.1 in
    (p.0, q.0)

pub long_laws : (lengthens : SlotId → Bool) (old : List Slot) → Laws nothing_hidden (long_let lengthens old) ⊥ IsWord Words numbers_fit
long_laws lengthens old =
    record {
      grown = λ x r block m p. long_cases lengthens old (λ (m' : Made). Grown m m' 1) x r block m (let_grown old x r block m p) (λ d. made_grown d.template d.op d.count d.law old x (moved m.table d.a).0 (moved m.table d.b).0 block m p);
      pure = λ x r block m seen turn s0 pure p known sees.
          long_cases lengthens old (λ (m' : Made). Adds m.next (state m turn s0) (state m' turn s0)) x r block m (let_adds old x r block m turn s0 pure)
          (λ d. made_adds d.template d.op d.count d.law old x (moved m.table d.a).0 (moved m.table d.b).0 block m turn s0);
      gives = λ x r block m seen turn s0 s p known sees holds agree.
          long_cases lengthens old (λ (m' : Made). LetState m m' turn s0 r s) x r block m (let_gives old x r block m seen turn s0 s sees agree) (λ d. divided x r block m seen turn s0 s p known sees holds agree d);
      keeps = λ x met turn s fine holds. meant x met turn s fine holds;
      fine = λ count body met n lt. let few = ltb-true count (2 ^ 32) met in omega (arith, few, lt);
      hidden = λ g h. absurd (true≢false (sym h));
      guard = λ none g a b offset met s holds. absurd none;
    }
  where
    divided : (x : SlotId) (r : Right) (block : ℕ) (m : Made) (seen : Sight) (turn : ℕ) (s0 s : SlotState) → Placed m.table m.next → Known (length m.table) seen → right_sees r seen ≡ true → Words s
        → Agree m.table seen s (state m turn s0) → (d : IsDivision r) → LetState m (template_made d.template old x (moved m.table d.a).0 (moved m.table d.b).0 block m) turn s0 r s
    divided x r block m seen turn s0 s p known sees holds agree d =
        let both = operands_seen r d seen sees in
        let a' = (moved m.table d.a).0 in
        let b' = (moved m.table d.b).0 in
        let s' = state m turn s0 in
        let adds = made_adds d.template d.op d.count d.law old x a' b' block m turn s0 in
        let same_a : word s' a' ≡ word s d.a.0 = agree.bindings d.a.0 both.0 in
        let same_b : word s' b' ≡ word s d.b.0 = agree.bindings d.b.0 both.1 in
        let gives =
        made_word d.template d.op d.count d.law old x a' b' block m (p.below d.a.0 (known.bindings d.a.0 both.0)) (p.below d.b.0 (known.bindings d.b.0 both.1)) turn s0 (subst IsWord (sym same_a) (holds.words d.a.0)) in
        record {
          world = adds.world ∙ agree.world ∙ ap (λ (z : Right). after_right z s.world) (sym d.is);
          arrays = adds.arrays;
          below = adds.below;
          word = gives ∙ ap₂ (λ (y z : ℕ). operation d.op y z 0) same_a same_b ∙ ap (λ (z : Right). right_word z turn s) (sym d.is);
        }

long_divisions_keep : (lengthens : SlotId → Bool) (program : NormalForm) → SlotsInOrder program → SlotsMadeBefore program → NumbersFit program → (inputs : List (List ℕ)) → AllWords inputs
    → program_outputs (with_long_divisions lengthens program) inputs ≡ program_outputs program inputs
long_divisions_keep lengthens program order before fit inputs words =
    outputs_kept nothing_hidden (long_let lengthens program.slots) ⊥ IsWord Words numbers_fit (long_laws lengthens program.slots) program order before fit (omega arith) inputs (words_at_start (length program.hosts) inputs words)

pub lengthened_keeps : (lengthens : SlotId → Bool) (program : NormalForm) → SlotsInOrder program → SlotsMadeBefore program → NumbersFit program → (inputs : List (List ℕ)) → AllWords inputs
    → program_outputs (lengthened lengthens program) inputs ≡ program_outputs program inputs
lengthened_keeps lengthens program order before fit inputs words = by (some_lengthened lengthens program.body && (is_within (with_long_divisions lengthens program) && nat_le (nesting (with_long_divisions lengthens program).body) most_nesting))
  where
    by : (b : Bool) → program_outputs (if b then with_long_divisions lengthens program else program) inputs ≡ program_outputs program inputs
    by true = long_divisions_keep lengthens program order before fit inputs words
    by false = refl
