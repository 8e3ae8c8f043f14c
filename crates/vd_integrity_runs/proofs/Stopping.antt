-- What hosts that keep have printed where a run stops.
use Rattle.std.proofs.Common.{◌≡◌, ◌≢◌, ℕ, zero, suc, ◌+◌, ◌^◌, ◌<◌, ◌≤◌, nat_eq, ◌&&◌, ◌||◌, Bool, true, false, if◌then◌else◌, List, [], ◌∷◌, ◌++◌, inl, inr, length, slice_index, slice_index_or, slice_set, refl, sym, ap, subst, ◌∙◌, arith, append_assoc, append-nil, length-append}
use Rattle.std.specs.List.{list_any}
use Rattle.std.proofs.lemmas.Bool.{and_parts}
use native.Mathlib.Decide.{ℕ_discrete}
use Rattle.vd_base.specs.declared.ids.SlotId.{SlotId}
use Rattle.vd_base.specs.declared.protocols.Proto.{Proto}
use Rattle.vd_base.specs.HostSets.{host}
use Rattle.vd_base.specs.Holders.{is_holder}
use Rattle.vd_core.specs.declared.normal.Right.{Right}
use Rattle.vd_core.specs.declared.normal.Right.TheVariants.{Lit, Turn, Copy, Apply, Input, Declassify, Endorse, Load, Get}
use Rattle.vd_core.specs.declared.normal.Stmt.TheOpen.{Stmt-F}
use Rattle.vd_core.specs.Facts.{Sight}
use Rattle.vd_constraints.specs.Scoped.{is_below, right_below}
use Rattle.vd_semantics.specs.Turns.{turns}
use Rattle.vd_semantics.specs.ProgramMeaning.{SlotState, word_at, after_right}
use Rattle.vd_execution.specs.Joint.{Hosts}
use Rattle.vd_execution.specs.World.{Tape}
use Rattle.vd_execution.specs.Deals.{IsValidDeal}
use Rattle.vd_split.specs.Block.{Block, End, Let, NewVar, NewArray, Store, Put, Output, If, For, each}
use Rattle.vd_split.specs.Joint.{choice}
use Rattle.vd_split.specs.Suite.{Laws, holders_among}
use Rattle.vd_split.specs.Emission.{Emission, Emitted, delivered}
use Rattle.vd_split.specs.Validity.{Fits, Placed, Reaches, turns_at}
use Rattle.vd_split.proofs.Front.{InRow, row_front, row_back, and_left, and_right, or_left, or_right, Binding, Variable, Array, Sees, with_use, After, TurnsIn, array_after, let_after, output_after, put_after, store_after, turns_past, var_after, slots, sees, effect_of, turn_here, turn_later, turns_act, no_slots}
use Rattle.vd_split.proofs.Front as loops
use Rattle.vd_backend_laws.specs.Machine.{machine}
use Rattle.vd_backend_laws.specs.Parts.{Parts, suite_calls}
use Rattle.vd_backend_laws.specs.Suite.{IsOver, suite, AreGiven}
use Rattle.vd_noninter.specs.Flowing.{Knowledge, only_with, right_flows}
use Rattle.vd_integrity_runs.specs.Departing.{RunsGadgets}
use Rattle.vd_integrity_runs.specs.Copies.{IsInClear}
use Rattle.vd_integrity_runs.proofs.Steps.{gadgets_parts}
use Rattle.vd_integrity_runs.specs.Endorsed.{Given, Doing, all_done, bound, given_step}
use Rattle.vd_integrity_runs.proofs.Hiding.{hides, flows, run_of, hidden_still}
use Rattle.vd_integrity_runs.specs.Runs.{GoThisWay, RunsInto, RunsTurns, turn_begun}
use Rattle.vd_integrity_runs.specs.Trusted.{Begins}
use Rattle.vd_integrity_runs.proofs.Calls.{IsKeptAt}
use Rattle.vd_integrity_runs.proofs.Relation.{part_of, trust_on}
use Rattle.vd_integrity_runs.proofs.Statements.{given, var_leads, store_leads, output_leads}
use Rattle.vd_integrity_runs.proofs.Cells.{array_leads, put_leads}
use Rattle.vd_integrity_runs.proofs.Guards.{low_block, nobody_hides, way_is}
use Rattle.vd_integrity_runs.proofs.Blocks as blocks

-- ---- what is told grows
begins_here : (xs : List ℕ) → Begins xs xs
begins_here xs = record { rest = []; is = sym (append-nil xs) }

begins_on : (xs ys zs : List ℕ) → Begins xs ys → Begins ys zs → Begins xs zs
begins_on xs ys zs a b = record { rest = a.rest ++ b.rest; is = b.is ∙ ap (λ (l : List ℕ). l ++ b.rest) a.is ∙ append_assoc xs a.rest b.rest }

told_more : (l : List (List ℕ)) (i w h : ℕ) → Begins (slice_index_or l h []) (slice_index_or (slice_set l i (slice_index_or l i [] ++ w ∷ [])) h [])
told_more [] i w h = begins_here []
told_more (x ∷ l) zero w zero = record { rest = w ∷ []; is = refl }
told_more (x ∷ l) zero w (suc h) = begins_here (slice_index_or l h [])
told_more (x ∷ l) (suc i) w zero = begins_here x
told_more (x ∷ l) (suc i) w (suc h) = told_more l i w h

abbrev pub told_to : ℕ → Given → List ℕ
told_to h s = slice_index_or s.state.world.outputs h []

module _ (k : Knowledge) (h : ℕ) where
  abbrev Grows : Given → Given → Type 0
  Grows s t = Begins (told_to h s) (told_to h t)

  grows_here : (s : Given) → Grows s s
  grows_here s = begins_here (told_to h s)

  grows_on : (s t u : Given) → Grows s t → Grows t u → Grows s u
  grows_on s t u a b = begins_on (told_to h s) (told_to h t) (told_to h u) a b

  -- a binding tells nobody
  bound_tells : (x : SlotId) (right : Right) (turn : ℕ) (s : Given) → Grows s (bound k.given.endorsed x right turn s)
  bound_tells x right turn s = subst (λ z. Begins (told_to h s) (slice_index_or z h [])) (sym (same right)) (begins_here (told_to h s))
    where
      same : (right : Right) → (after_right right s.state.world).outputs ≡ s.state.world.outputs
      same (Lit n) = refl
      same Turn = refl
      same (Copy y) = refl
      same (Apply op ys) = refl
      same (Input g) = refl
      same (Declassify y to) = refl
      same (Endorse y to) = refl
      same (Load v) = refl
      same (Get v i) = refl

  turns_grow : (f : Doing) → ((turn : ℕ) (s : Given) → Grows s (f turn s)) → (n : ℕ) (s : Given) → Grows s (turns n f s)
  turns_grow f one zero s = grows_here s
  turns_grow f one (suc n) s = grows_on s (turns n f s) (f n (turns n f s)) (turns_grow f one n s) (one n (turns n f s))

  -- turns that are still to come
  later_turns : (f : Doing) → ((turn : ℕ) (s : Given) → Grows s (f turn s)) → (i n : ℕ) → i ≤ n → (s : Given) → Grows (turns i f s) (turns n f s)
  later_turns f one i zero le s = subst (λ z. Grows (turns z f s) s) (sym (none i le)) (grows_here s)
    where
      none : (i : ℕ) → i ≤ 0 → i ≡ 0
      none i le = omega (arith, le)
  later_turns f one i (suc n) le s = by (λ less. later_turns f one i n less s) (ℕ_discrete i (suc n))
    where
      lower : i ≢ suc n → i ≤ n
      lower d = grind (arith)

      by : (i ≤ n → Grows (turns i f s) (turns n f s)) → Dec (i ≡ suc n) → Grows (turns i f s) (turns (suc n) f s)
      by again (yes e) = subst (λ z. Grows (turns z f s) (turns (suc n) f s)) (sym e) (grows_here (turns (suc n) f s))
      by again (no d) = grows_on (turns i f s) (turns n f s) (f n (turns n f s)) (again (lower d)) (one n (turns n f s))

  branch_grows : (b : Bool) (ts es : List Doing) (turn : ℕ) (s : Given) → Grows s (all_done ts turn s) → Grows s (all_done es turn s) → Grows s (all_done (if b then es else ts) turn s)
  branch_grows true ts es turn s first other = other
  branch_grows false ts es turn s first other = first

  block_grows : (b : Block) (turn : ℕ) (s : Given) → Grows s (run_of k b turn s)
  block_grows End turn s = grows_here s
  block_grows (Let x right rest) turn s =
      let t = bound k.given.endorsed x right turn s in grows_on s t (run_of k rest turn t) (bound_tells x right turn s) (block_grows rest turn t)
  block_grows (NewVar v y rest) turn s = block_grows rest turn (given_step k.given.endorsed (Stmt-F.NewVar v y) turn s)
  block_grows (NewArray v size rest) turn s = block_grows rest turn (given_step k.given.endorsed (Stmt-F.NewArray v size) turn s)
  block_grows (Store v y rest) turn s = block_grows rest turn (given_step k.given.endorsed (Stmt-F.Store v y) turn s)
  block_grows (Put v i y rest) turn s = block_grows rest turn (given_step k.given.endorsed (Stmt-F.Put v i y) turn s)
  block_grows (Output y g offset rest) turn s =
      let t = given_step k.given.endorsed (Stmt-F.Output y g offset) turn s in
      grows_on s t (run_of k rest turn t) (told_more s.state.world.outputs g.0 (word_at s.state y) h) (block_grows rest turn t)
  block_grows (If g tb eb offset rest) turn s =
      let ts = each (given_step k.given.endorsed) tb in
      let es = each (given_step k.given.endorsed) eb in
      let t = all_done (if nat_eq (word_at s.state g) 0 then es else ts) turn s in
      grows_on s t (run_of k rest turn t) (branch_grows (nat_eq (word_at s.state g) 0) ts es turn s (block_grows tb turn s) (block_grows eb turn s)) (block_grows rest turn t)
  block_grows (For count body rest) turn s =
      let t = turns count (run_of k body) s in grows_on s t (run_of k rest turn t) (turns_grow (run_of k body) (block_grows body) count s) (block_grows rest turn t)

module _ (hosts : ℕ) (t : Tape) (deal : IsValidDeal t) (inputs : ℕ → List ℕ) (dealt : AreGiven inputs t) (proto : ℕ → Proto) (clear : (x : ℕ) → IsInClear (proto x)) (declared : (x : ℕ) → IsOver hosts (proto x))
    (k : Knowledge) (declassified : (x y : ℕ) → k.given.declassified x y ≡ false) (stays : (x : ℕ) → k.kept x ≡ true → IsKeptAt k.known (proto x)) (heard : (h : ℕ) → k.known h ≡ true → k.heard h ≡ true)
    (n : ℕ) (endorses : (x y : ℕ) → x < n → k.given.endorsed x y ≡ true → IsKeptAt k.known (proto x)) (closed : (x y : ℕ) → (k.freed.declassified x y ≡ false) × (k.freed.endorsed x y ≡ false)) (alike : (h : ℕ) → k.heard h ≡ true → k.known h ≡ true) where
  abbrev theory : Laws (machine t inputs) (suite t inputs hosts)
  theory = blocks.theory hosts t deal inputs dealt proto clear declared k declassified stays heard n endorses closed alike

  abbrev Em : Type 0
  Em = blocks.Em hosts t deal inputs dealt proto clear declared k declassified stays heard n endorses closed alike

  abbrev emits : Block → Emission (suite_calls hosts) proto
  emits = blocks.emits hosts t deal inputs dealt proto clear declared k declassified stays heard n endorses closed alike

  abbrev Right' : Sight → List Parts → Hosts → SlotState → Type 0
  Right' = blocks.Right' hosts t deal inputs dealt proto clear declared k declassified stays heard n endorses closed alike

  abbrev Goes : Sight → Sight → List ℕ → List Parts → List Parts → Doing → ℕ → Hosts → Hosts → SlotState → Type 0
  Goes = blocks.Goes hosts t deal inputs dealt proto clear declared k declassified stays heard n endorses closed alike

  abbrev Tie : Sight → Em → Hosts → SlotState → Type 0
  Tie = blocks.Tie hosts t deal inputs dealt proto clear declared k declassified stays heard n endorses closed alike

  abbrev Loop : (ℕ → Bool) → Em → Hosts → ℕ → Type 0
  Loop = blocks.Loop hosts t deal inputs dealt proto clear declared k declassified stays heard n endorses closed alike

  abbrev Run : Block → Em → Hosts → Hosts → Type 0
  Run = blocks.Run hosts t deal inputs dealt proto clear declared k declassified stays heard n endorses closed alike

  abbrev Into : Block → Em → Hosts → Hosts → Type 0
  Into b e w w' = RunsInto hosts proto k.known t k.given.endorsed b e w w'

  -- Hosts that keep have printed the front of what the run tells them, where some words are endorsed.
  pub record Stopped (does : Doing) (turn : ℕ) (w : Hosts) (c : SlotState) : Type 0 where
    pub words : List ℕ
    pub front : (h : ℕ) → k.known h ≡ true → Begins (w h).printed (told_to h (does turn (given c words)))

  abbrev pub BlockStops : Block → Type 0
  BlockStops b =
      (o : Sight) (count : ℕ) → InRow count (slots b) → (sees b o).all ≡ true → Fits hosts b → Placed (machine t inputs) (suite t inputs hosts) proto b → low_block hosts t deal inputs dealt proto clear declared k declassified stays n b ≡ true → flows k b ≡ true
      → (e : Em) (w0 : Hosts) (c0 : SlotState) (turn : ℕ) (has : ℕ → Bool) → length e.held ≡ count → ((h : ℕ) → turns_at (machine t inputs) (suite t inputs hosts) proto b h ≡ true → has h ≡ true) → turn < 2 ^ 32
      → Tie o e w0 c0 → TurnsIn (machine t inputs) (suite t inputs hosts) proto has o e w0 turn
      → (w w' : Hosts) (c : SlotState) → Right' o e.held w c → Loop has e w turn → Into b e w w' → Stopped (run_of k b) turn w' c

  -- a run that stops at once
  stopped_here : (b : Block) (o : Sight) (held : List Parts) (turn : ℕ) (w w' : Hosts) (c : SlotState) → Right' o held w c → w' ≡ w → Stopped (run_of k b) turn w' c
  stopped_here b o held turn w w' c trust is = record {
    words = [];
    front = λ h keep.
        subst (λ (l : List ℕ). Begins l (told_to h (run_of k b turn (given c [])))) (sym (ap (λ (z : Hosts). (z h).printed) is ∙ trust.outer.printed h keep)) (block_grows k h b turn (given c []));
  }

  -- a statement, and then the rest up to a stop
  rest_stops : (rest : Block) → BlockStops rest → (o o1 : Sight) (e : Em) (one : Emitted (suite_calls hosts) proto) (slots_more count : ℕ) (w0 : Hosts) (c0 c1 : SlotState) (turn : ℕ) (has : ℕ → Bool) → length e.held ≡ count
      → InRow (count + slots_more) (slots rest) → (sees rest o1).all ≡ true → Fits hosts rest → Placed (machine t inputs) (suite t inputs hosts) proto rest → low_block hosts t deal inputs dealt proto clear declared k declassified stays n rest ≡ true → flows k rest ≡ true
      → ((h : ℕ) → turns_at (machine t inputs) (suite t inputs hosts) proto rest h ≡ true → has h ≡ true) → turn < 2 ^ 32 → Tie o e w0 c0 → (ts : TurnsIn (machine t inputs) (suite t inputs hosts) proto has o e w0 turn)
      → After (machine t inputs) (suite t inputs hosts) proto o o1 e one slots_more w0 c1
      → (f : Doing) (w u w' : Hosts) (c : SlotState) → Goes o o1 e.next e.held one.state.held f turn w u c → Loop has e w turn → Into rest one.state u w' → Stopped (λ turn z. run_of k rest turn (f turn z)) turn w' c
  rest_stops rest stops o o1 e one slots_more count w0 c0 c1 turn has is row all fits placed low flow needs small ties ts a0 f w u w' c step loop run =
      let b = stops o1 (count + slots_more) row all fits placed low flow one.state a0.reached c1 turn has (ap length a0.held ∙ length-append e.held a0.more ∙ sum is a0.many) needs small a0.tied
      (turns_past (machine t inputs) (suite t inputs hosts) proto has turn o o1 e one slots_more w0 c0 c1 ties a0 ts) u w' step.after step.trust
      (λ h low there keep.
      let q = ts h low there in
      let P : List ℕ → Type 0 = λ l. ((u h).registers (slice_index l h) ≡ turn) × (slice_index l h < slice_index one.state.next h) in
      subst P (sym a0.loop) (step.kept h (slice_index e.loop h) q.1 q.2 ∙ (loop h low there keep).0, further h (slice_index e.loop h) q.1))
      run in
      record {
        words = step.words ++ b.words;
        front = λ h keep. subst (λ (z : Given). Begins (w' h).printed (told_to h (run_of k rest turn z))) (sym (step.runs b.words)) (b.front h keep);
      }
    where
      sum : {i j : ℕ} → i ≡ count → j ≡ slots_more → i + j ≡ count + slots_more
      sum p q = omega (arith, p, q)

      further : (h r : ℕ) → r < slice_index e.next h → r < slice_index one.state.next h
      further h r low = let le = a0.longer h in omega (arith, low, le)

  -- ---- within a branch
  module _ (tb eb : Block) (stops1 : BlockStops tb) (stops2 : BlockStops eb) (x : SlotId) (offset : ℕ) (o : Sight) (count : ℕ) (row1 : InRow count (slots tb)) (row2 : InRow (count + length (slots tb)) (slots eb)) (sees_x : Sees o Binding x.0)
      (seen1 : (sees tb o).all ≡ true) (seen2 : (sees eb o).all ≡ true) (fits1 : Fits hosts tb) (fits2 : Fits hosts eb) (placed1 : Placed (machine t inputs) (suite t inputs hosts) proto tb) (placed2 : Placed (machine t inputs) (suite t inputs hosts) proto eb)
      (low1 : low_block hosts t deal inputs dealt proto clear declared k declassified stays n tb ≡ true) (low2 : low_block hosts t deal inputs dealt proto clear declared k declassified stays n eb ≡ true)
      (reaches : Reaches (machine t inputs) (suite t inputs hosts) proto x (λ g. (emits tb).takes_part g || (emits eb).takes_part g)) (flow : (if k.kept x.0 then flows k tb && flows k eb else hides k tb && hides k eb) ≡ true)
      (e : Em) (w0 : Hosts) (c0 : SlotState) (turn : ℕ) (has : ℕ → Bool) (is : length e.held ≡ count) (covers1 : (h : ℕ) → turns_at (machine t inputs) (suite t inputs hosts) proto tb h ≡ true → has h ≡ true)
      (covers2 : (h : ℕ) → turns_at (machine t inputs) (suite t inputs hosts) proto eb h ≡ true → has h ≡ true) (small : turn < 2 ^ 32) (ties : Tie o e w0 c0) (ts : TurnsIn (machine t inputs) (suite t inputs hosts) proto has o e w0 turn)
      (w u w' : Hosts) (c : SlotState) (trust : Right' o e.held w c) (loop : Loop has e w turn) where
    abbrev then_steps : List Doing
    then_steps = each (given_step k.given.endorsed) tb

    abbrev else_steps : List Doing
    else_steps = each (given_step k.given.endorsed) eb

    abbrev start : Em
    start = blocks.start hosts t deal inputs dealt proto clear declared k declassified stays heard n endorses closed alike tb eb (blocks.block_leads hosts t deal inputs dealt proto clear declared k declassified stays heard n endorses closed alike tb) (blocks.block_leads hosts t deal inputs dealt proto clear declared k declassified stays heard n endorses closed alike eb) x offset o count row1 row2 sees_x seen1 seen2 fits1 fits2 placed1 placed2 low1 low2 reaches flow e w0 c0 turn has is covers1 covers2 small ties ts w u w' c trust loop

    abbrev first : Emitted (suite_calls hosts) proto
    first = blocks.first hosts t deal inputs dealt proto clear declared k declassified stays heard n endorses closed alike tb eb (blocks.block_leads hosts t deal inputs dealt proto clear declared k declassified stays heard n endorses closed alike tb) (blocks.block_leads hosts t deal inputs dealt proto clear declared k declassified stays heard n endorses closed alike eb) x offset o count row1 row2 sees_x seen1 seen2 fits1 fits2 placed1 placed2 low1 low2 reaches flow e w0 c0 turn has is covers1 covers2 small ties ts w u w' c trust loop

    module _ (guard_run : RunsGadgets k.known t (blocks.guard hosts t deal inputs dealt proto clear declared k declassified stays heard n endorses closed alike tb eb (blocks.block_leads hosts t deal inputs dealt proto clear declared k declassified stays heard n endorses closed alike tb) (blocks.block_leads hosts t deal inputs dealt proto clear declared k declassified stays heard n endorses closed alike eb) x offset o count row1 row2 sees_x seen1 seen2 fits1 fits2 placed1 placed2 low1 low2 reaches flow e w0 c0 turn has is covers1 covers2 small ties ts w u w' c trust loop).acts w u) where
      -- a run that stops in the way that was taken
      within : (other : Bool) → choice other (Into eb first.state u w') (Into tb start u w') → Stopped (all_done (if other then else_steps else then_steps)) turn w' c
      within false run =
          let begins = blocks.begins hosts t deal inputs dealt proto clear declared k declassified stays heard n endorses closed alike tb eb (blocks.block_leads hosts t deal inputs dealt proto clear declared k declassified stays heard n endorses closed alike tb) (blocks.block_leads hosts t deal inputs dealt proto clear declared k declassified stays heard n endorses closed alike eb) x offset o count row1 row2 sees_x seen1 seen2 fits1 fits2 placed1 placed2 low1 low2 reaches flow e w0 c0 turn has is covers1 covers2 small ties ts w u w' c trust loop in
          stops1 o count row1 seen1 fits1 placed1 low1 (blocks.flow1 hosts t deal inputs dealt proto clear declared k declassified stays heard n endorses closed alike tb eb (blocks.block_leads hosts t deal inputs dealt proto clear declared k declassified stays heard n endorses closed alike tb) (blocks.block_leads hosts t deal inputs dealt proto clear declared k declassified stays heard n endorses closed alike eb) x offset o count row1 row2 sees_x seen1 seen2 fits1 fits2 placed1 placed2 low1 low2 reaches flow e w0 c0 turn has is covers1 covers2 small ties ts w u w' c trust loop) start _ c0 turn has is covers1 small begins.0.0 begins.0.1 u w' c (blocks.trust1 hosts t deal inputs dealt proto clear declared k declassified stays heard n endorses closed alike tb eb (blocks.block_leads hosts t deal inputs dealt proto clear declared k declassified stays heard n endorses closed alike tb) (blocks.block_leads hosts t deal inputs dealt proto clear declared k declassified stays heard n endorses closed alike eb) x offset o count row1 row2 sees_x seen1 seen2 fits1 fits2 placed1 placed2 low1 low2 reaches flow e w0 c0 turn has is covers1 covers2 small ties ts w u w' c trust loop guard_run) (blocks.loop1 hosts t deal inputs dealt proto clear declared k declassified stays heard n endorses closed alike tb eb (blocks.block_leads hosts t deal inputs dealt proto clear declared k declassified stays heard n endorses closed alike tb) (blocks.block_leads hosts t deal inputs dealt proto clear declared k declassified stays heard n endorses closed alike eb) x offset o count row1 row2 sees_x seen1 seen2 fits1 fits2 placed1 placed2 low1 low2 reaches flow e w0 c0 turn has is covers1 covers2 small ties ts w u w' c trust loop guard_run) run
      within true run =
          let begins = blocks.begins hosts t deal inputs dealt proto clear declared k declassified stays heard n endorses closed alike tb eb (blocks.block_leads hosts t deal inputs dealt proto clear declared k declassified stays heard n endorses closed alike tb) (blocks.block_leads hosts t deal inputs dealt proto clear declared k declassified stays heard n endorses closed alike eb) x offset o count row1 row2 sees_x seen1 seen2 fits1 fits2 placed1 placed2 low1 low2 reaches flow e w0 c0 turn has is covers1 covers2 small ties ts w u w' c trust loop in
          stops2 o (count + length (slots tb)) row2 seen2 fits2 placed2 low2 (blocks.flow2 hosts t deal inputs dealt proto clear declared k declassified stays heard n endorses closed alike tb eb (blocks.block_leads hosts t deal inputs dealt proto clear declared k declassified stays heard n endorses closed alike tb) (blocks.block_leads hosts t deal inputs dealt proto clear declared k declassified stays heard n endorses closed alike eb) x offset o count row1 row2 sees_x seen1 seen2 fits1 fits2 placed1 placed2 low1 low2 reaches flow e w0 c0 turn has is covers1 covers2 small ties ts w u w' c trust loop) first.state _ c0 turn has begins.1.2 covers2 small begins.1.0 begins.1.1 u w' c (blocks.trust2 hosts t deal inputs dealt proto clear declared k declassified stays heard n endorses closed alike tb eb (blocks.block_leads hosts t deal inputs dealt proto clear declared k declassified stays heard n endorses closed alike tb) (blocks.block_leads hosts t deal inputs dealt proto clear declared k declassified stays heard n endorses closed alike eb) x offset o count row1 row2 sees_x seen1 seen2 fits1 fits2 placed1 placed2 low1 low2 reaches flow e w0 c0 turn has is covers1 covers2 small ties ts w u w' c trust loop guard_run) (blocks.loop2 hosts t deal inputs dealt proto clear declared k declassified stays heard n endorses closed alike tb eb (blocks.block_leads hosts t deal inputs dealt proto clear declared k declassified stays heard n endorses closed alike tb) (blocks.block_leads hosts t deal inputs dealt proto clear declared k declassified stays heard n endorses closed alike eb) x offset o count row1 row2 sees_x seen1 seen2 fits1 fits2 placed1 placed2 low1 low2 reaches flow e w0 c0 turn has is covers1 covers2 small ties ts w u w' c trust loop guard_run) run

      abbrev zero_test : Bool
      zero_test = nat_eq (word_at c x) 0

      abbrev Whole : Type 0
      Whole = Stopped (given_step k.given.endorsed (Stmt-F.If x then_steps else_steps offset)) turn w' c

      same_way : (other : Bool) → Stopped (all_done (if other then else_steps else then_steps)) turn w' c → zero_test ≡ other → Whole
      same_way other a same = record {
        words = a.words;
        front = λ h keep. subst (λ (b : Bool). Begins (w' h).printed (told_to h (all_done (if b then else_steps else then_steps) turn (given c a.words)))) (sym same) (a.front h keep);
      }

      -- neither way tells hosts that keep anything
      tells_nothing : (b : Bool) → hides k tb ≡ true → hides k eb ≡ true → (words : List ℕ) (h : ℕ) → k.known h ≡ true → slice_index_or c.world.outputs h [] ≡ told_to h (all_done (if b then else_steps else then_steps) turn (given c words))
      tells_nothing true h1 h2 words h keep = (hidden_still k eb h2 turn (given c words)).agree.outputs h (heard h keep)
      tells_nothing false h1 h2 words h keep = (hidden_still k tb h1 turn (given c words)).agree.outputs h (heard h keep)

      either_way : (other : Bool) → Stopped (all_done (if other then else_steps else then_steps)) turn w' c → hides k tb ≡ true → hides k eb ≡ true → Whole
      either_way other a h1 h2 = record {
        words = [];
        front = λ h keep. subst (λ (l : List ℕ). Begins (w' h).printed l) (sym (tells_nothing other h1 h2 a.words h keep) ∙ tells_nothing zero_test h1 h2 [] h keep) (a.front h keep);
      }

      branch_stops : (other : Bool) → GoThisWay k.known other (blocks.guard hosts t deal inputs dealt proto clear declared k declassified stays heard n endorses closed alike tb eb (blocks.block_leads hosts t deal inputs dealt proto clear declared k declassified stays heard n endorses closed alike tb) (blocks.block_leads hosts t deal inputs dealt proto clear declared k declassified stays heard n endorses closed alike eb) x offset o count row1 row2 sees_x seen1 seen2 fits1 fits2 placed1 placed2 low1 low2 reaches flow e w0 c0 turn has is covers1 covers2 small ties ts w u w' c trust loop).given u → choice other (Into eb first.state u w') (Into tb start u w') → Whole
      branch_stops other ways run = by (k.kept x.0) refl (list_any (λ q. k.known q.0) (blocks.guard hosts t deal inputs dealt proto clear declared k declassified stays heard n endorses closed alike tb eb (blocks.block_leads hosts t deal inputs dealt proto clear declared k declassified stays heard n endorses closed alike tb) (blocks.block_leads hosts t deal inputs dealt proto clear declared k declassified stays heard n endorses closed alike eb) x offset o count row1 row2 sees_x seen1 seen2 fits1 fits2 placed1 placed2 low1 low2 reaches flow e w0 c0 turn has is covers1 covers2 small ties ts w u w' c trust loop).given) refl
        where
          by : (b : Bool) → k.kept x.0 ≡ b → (some : Bool) → list_any (λ q. k.known q.0) (blocks.guard hosts t deal inputs dealt proto clear declared k declassified stays heard n endorses closed alike tb eb (blocks.block_leads hosts t deal inputs dealt proto clear declared k declassified stays heard n endorses closed alike tb) (blocks.block_leads hosts t deal inputs dealt proto clear declared k declassified stays heard n endorses closed alike eb) x offset o count row1 row2 sees_x seen1 seen2 fits1 fits2 placed1 placed2 low1 low2 reaches flow e w0 c0 turn has is covers1 covers2 small ties ts w u w' c trust loop).given ≡ some → Whole
          by true there true some = same_way other (within other run) (way_is k.known other u (word_at c x) (blocks.guard hosts t deal inputs dealt proto clear declared k declassified stays heard n endorses closed alike tb eb (blocks.block_leads hosts t deal inputs dealt proto clear declared k declassified stays heard n endorses closed alike tb) (blocks.block_leads hosts t deal inputs dealt proto clear declared k declassified stays heard n endorses closed alike eb) x offset o count row1 row2 sees_x seen1 seen2 fits1 fits2 placed1 placed2 low1 low2 reaches flow e w0 c0 turn has is covers1 covers2 small ties ts w u w' c trust loop).given ways (blocks.guarded hosts t deal inputs dealt proto clear declared k declassified stays heard n endorses closed alike tb eb (blocks.block_leads hosts t deal inputs dealt proto clear declared k declassified stays heard n endorses closed alike tb) (blocks.block_leads hosts t deal inputs dealt proto clear declared k declassified stays heard n endorses closed alike eb) x offset o count row1 row2 sees_x seen1 seen2 fits1 fits2 placed1 placed2 low1 low2 reaches flow e w0 c0 turn has is covers1 covers2 small ties ts w u w' c trust loop guard_run there) some)
          by true there false none =
              let no = blocks.nobody hosts t deal inputs dealt proto clear declared k declassified stays heard n endorses closed alike tb eb (blocks.block_leads hosts t deal inputs dealt proto clear declared k declassified stays heard n endorses closed alike tb) (blocks.block_leads hosts t deal inputs dealt proto clear declared k declassified stays heard n endorses closed alike eb) x offset o count row1 row2 sees_x seen1 seen2 fits1 fits2 placed1 placed2 low1 low2 reaches flow e w0 c0 turn has is covers1 covers2 small ties ts w u w' c trust loop guard_run none in
              either_way other (within other run) (nobody_hides hosts t deal inputs dealt proto clear declared k declassified stays n endorses closed alike tb (λ h low is. no h low (or_left _ _ is)) low1 fits1 placed1)
              (nobody_hides hosts t deal inputs dealt proto clear declared k declassified stays n endorses closed alike eb (λ h low is. no h low (or_right _ _ is)) low2 fits2 placed2)
          by false away some is' =
              let f = sym (ap (λ (b : Bool). if b then flows k tb && flows k eb else hides k tb && hides k eb) away) ∙ flow in
              let both = and_parts (hides k tb) (hides k eb) f in
              either_way other (within other run) both.0 both.1

  -- a branch in which the run stops, and what would follow
  then_more : (f : Doing) (rest : Block) (turn : ℕ) (w' : Hosts) (c : SlotState) → Stopped f turn w' c → Stopped (λ turn z. run_of k rest turn (f turn z)) turn w' c
  then_more f rest turn w' c a = record {
    words = a.words;
    front = λ h keep. begins_on (w' h).printed (told_to h (f turn (given c a.words))) (told_to h (run_of k rest turn (f turn (given c a.words)))) (a.front h keep) (block_grows k h rest turn (f turn (given c a.words)));
  }

  -- ---- within a loop
  module _ (body : Block) (stops : BlockStops body) (o : Sight) (count : ℕ) (row : InRow count (slots body)) (seen : (sees body o).all ≡ true) (fits : Fits hosts body) (placed : Placed (machine t inputs) (suite t inputs hosts) proto body)
      (low : low_block hosts t deal inputs dealt proto clear declared k declassified stays n body ≡ true) (flow : flows k body ≡ true) (e : Em) (w0 : Hosts) (c0 : SlotState) (is : length e.held ≡ count) (ties : Tie o e w0 c0)
      (w : Hosts) (c : SlotState) (trust : Right' o e.held w c) where
    loop_stops : (often : ℕ) → often ≤ 2 ^ 32 → (i : ℕ) → i < often → (u w' : Hosts) → RunsTurns i (λ j v v'. Run body (blocks.inner hosts t deal inputs dealt proto clear declared k declassified stays heard n endorses closed alike body (blocks.block_leads hosts t deal inputs dealt proto clear declared k declassified stays heard n endorses closed alike body) o count row seen fits placed low flow e w0 c0 is ties w c trust) (turn_begun (blocks.registers hosts t deal inputs dealt proto clear declared k declassified stays heard n endorses closed alike body (blocks.block_leads hosts t deal inputs dealt proto clear declared k declassified stays heard n endorses closed alike body) o count row seen fits placed low flow e w0 c0 is ties w c trust) j v) v') w u → Into body (blocks.inner hosts t deal inputs dealt proto clear declared k declassified stays heard n endorses closed alike body (blocks.block_leads hosts t deal inputs dealt proto clear declared k declassified stays heard n endorses closed alike body) o count row seen fits placed low flow e w0 c0 is ties w c trust) (turn_begun (blocks.registers hosts t deal inputs dealt proto clear declared k declassified stays heard n endorses closed alike body (blocks.block_leads hosts t deal inputs dealt proto clear declared k declassified stays heard n endorses closed alike body) o count row seen fits placed low flow e w0 c0 is ties w c trust) i u) w'
        → (turn : ℕ) → Stopped (given_step k.given.endorsed (Stmt-F.For often (each (given_step k.given.endorsed) body))) turn w' c
    loop_stops often small i less u w' run into turn =
        let before = blocks.all_turned hosts t deal inputs dealt proto clear declared k declassified stays heard n endorses closed alike body (blocks.block_leads hosts t deal inputs dealt proto clear declared k declassified stays heard n endorses closed alike body) o count row seen fits placed low flow e w0 c0 is ties w c trust i (omega (arith, small, less)) u run in
        let comes = blocks.comes hosts t deal inputs dealt proto clear declared k declassified stays heard n endorses closed alike body (blocks.block_leads hosts t deal inputs dealt proto clear declared k declassified stays heard n endorses closed alike body) o count row seen fits placed low flow e w0 c0 is ties w c trust in
        let acts = turns_act (machine t inputs) (suite t inputs hosts) proto theory declared body in
        let at = loops.all_turns (machine t inputs) (suite t inputs hosts) proto theory declared o (sees body o).after (emits body) (effect_of body) (length (slots body)) count (turns_at (machine t inputs) (suite t inputs hosts) proto body) comes acts e w0 c0 is ties i (omega (arith, small, less)) in
        let begins = loops.begins (machine t inputs) (suite t inputs hosts) proto theory declared o (sees body o).after (emits body) (effect_of body) (length (slots body)) count (turns_at (machine t inputs) (suite t inputs hosts) proto body) comes acts e w0 c0 is ties i (omega (arith, small, less)) at in
        let turning = loops.turning (machine t inputs) (suite t inputs hosts) proto theory declared o (sees body o).after (emits body) (effect_of body) (length (slots body)) count (turns_at (machine t inputs) (suite t inputs hosts) proto body) comes acts e w0 c0 is ties i at in
        let begun = turn_begun (blocks.registers hosts t deal inputs dealt proto clear declared k declassified stays heard n endorses closed alike body (blocks.block_leads hosts t deal inputs dealt proto clear declared k declassified stays heard n endorses closed alike body) o count row seen fits placed low flow e w0 c0 is ties w c trust) i u in
        let right : Right' o e.held begun before.after =
        trust_on hosts t inputs proto clear k.known k.kept o e.next e.held w0 c0 ties u begun before.after (blocks.begun_still hosts t deal inputs dealt proto clear declared k declassified stays heard n endorses closed alike body (blocks.block_leads hosts t deal inputs dealt proto clear declared k declassified stays heard n endorses closed alike body) o count row seen fits placed low flow e w0 c0 is ties w c trust u i)
        (record { printed = before.holds.outer.printed; waiting = before.holds.outer.waiting; words = before.holds.outer.words; known = before.holds.outer.known }) before.holds
        in
        let b = stops o count row seen fits placed low flow (blocks.inner hosts t deal inputs dealt proto clear declared k declassified stays heard n endorses closed alike body (blocks.block_leads hosts t deal inputs dealt proto clear declared k declassified stays heard n endorses closed alike body) o count row seen fits placed low flow e w0 c0 is ties w c trust) _ _ i (emits body).acts_at is acts (omega (arith, small, less)) begins turning begun w' before.after right (blocks.loop_at hosts t deal inputs dealt proto clear declared k declassified stays heard n endorses closed alike body (blocks.block_leads hosts t deal inputs dealt proto clear declared k declassified stays heard n endorses closed alike body) o count row seen fits placed low flow e w0 c0 is ties w c trust u i) into in
        record {
          words = before.words ++ b.words;
          front = λ h keep.
              let first : Begins (w' h).printed (told_to h (turns (suc i) (run_of k body) (given c (before.words ++ b.words)))) =
              subst (λ (z : Given). Begins (w' h).printed (told_to h (run_of k body i z))) (sym (before.runs b.words)) (b.front h keep)
              in
              begins_on (w' h).printed (told_to h (turns (suc i) (run_of k body) (given c (before.words ++ b.words)))) (told_to h (turns often (run_of k body) (given c (before.words ++ b.words)))) first
              (later_turns k h (run_of k body) (block_grows k h body) (suc i) often (omega (arith, less)) (given c (before.words ++ b.words)));
        }

  -- ---- all statements
  pub block_stops : (b : Block) → BlockStops b
  block_stops End o count row all fits placed low flow e w0 c0 turn has is needs small ties ts w w' c trust loop run = stopped_here End o e.held turn w w' c trust run
  block_stops (Let x right rest) o count row all fits placed low flow e w0 c0 turn has is needs small ties ts w w' c trust loop (inl is') = stopped_here (Let x right rest) o e.held turn w w' c trust is'
  block_stops (Let x right rest) o count row all fits placed low flow e w0 c0 turn has is needs small ties ts w w' c trust loop (inr run) =
      let lows = and_parts (is_below n x && right_below n right) _ low in
      let flow' = and_parts (right_flows k x right) (flows k rest) flow in
      let reach = λ (i : right ≡ Turn) (g : ℕ) (p : is_holder (proto x.0) (host g) ≡ true). needs g (turn_here (machine t inputs) (suite t inputs hosts) proto theory declared x right rest g i p) in
      let a0 = let_after (machine t inputs) (suite t inputs hosts) proto theory declared o e w0 c0 turn has x right ties (row.0 ∙ sym is) (and_left _ _ all) fits.0 placed.0 small reach ts in
      let step = blocks.let_step hosts t deal inputs dealt proto clear declared k declassified stays heard n endorses closed alike o e w0 c0 turn has x right ties (row.0 ∙ sym is) (and_left _ _ all) fits.0 placed.0 small reach flow'.0 w run.0 c trust loop run.1.0 run.1.1.0 in
      rest_stops rest (block_stops rest) o (with_use Binding x.0 o) e _ 1 count w0 c0 _ turn has is row.1 (and_right _ _ all) fits.1 placed.1 lows.1 flow'.1
      (λ g p. needs g (turn_later (machine t inputs) (suite t inputs hosts) proto theory declared x right rest g p)) small ties ts a0 (bound k.given.endorsed x right) w run.0 w' c step loop run.1.1.1
  block_stops (NewVar v y rest) o count row all fits placed low flow e w0 c0 turn has is needs small ties ts w w' c trust loop (inl is') = stopped_here (NewVar v y rest) o e.held turn w w' c trust is'
  block_stops (NewVar v y rest) o count row all fits placed low flow e w0 c0 turn has is needs small ties ts w w' c trust loop (inr run) =
      let lows = and_parts (is_below n v && is_below n y) _ low in
      let flow' = and_parts (only_with (k.kept v.0) (k.kept y.0)) (flows k rest) flow in
      let a0 = var_after (machine t inputs) (suite t inputs hosts) proto theory declared o e w0 c0 v y ties (row.0 ∙ sym is) (and_left _ _ all) placed.0 placed.1 in
      let step = var_leads hosts t deal inputs dealt proto clear declared k declassified stays heard o e w0 c0 ties turn has w c trust v y (row.0 ∙ sym is) (and_left _ _ all) placed.1 flow'.0 run.0 run.1.0 in
      rest_stops rest (block_stops rest) o (with_use Variable v.0 o) e _ 1 count w0 c0 _ turn has is row.1 (and_right _ _ all) fits placed.2 lows.1 flow'.1 needs small ties ts a0
      (given_step k.given.endorsed (Stmt-F.NewVar v y)) w run.0 w' c step loop run.1.1
  block_stops (NewArray v size rest) o count row all fits placed low flow e w0 c0 turn has is needs small ties ts w w' c trust loop (inl is') = stopped_here (NewArray v size rest) o e.held turn w w' c trust is'
  block_stops (NewArray v size rest) o count row all fits placed low flow e w0 c0 turn has is needs small ties ts w w' c trust loop (inr run) =
      let lows = and_parts (is_below n v) _ low in
      let a0 = array_after (machine t inputs) (suite t inputs hosts) proto theory declared o e w0 c0 v size ties (row.0 ∙ sym is) placed.0 in
      let step = array_leads hosts t deal inputs dealt proto clear declared k declassified stays heard o e w0 c0 ties turn w c trust v size (row.0 ∙ sym is) run.0 run.1.0 in
      rest_stops rest (block_stops rest) o (with_use Array v.0 o) e _ 1 count w0 c0 _ turn has is row.1 all fits placed.1 lows.1 flow needs small ties ts a0
      (given_step k.given.endorsed (Stmt-F.NewArray v size)) w run.0 w' c step loop run.1.1
  block_stops (Store v y rest) o count row all fits placed low flow e w0 c0 turn has is needs small ties ts w w' c trust loop (inl is') = stopped_here (Store v y rest) o e.held turn w w' c trust is'
  block_stops (Store v y rest) o count row all fits placed low flow e w0 c0 turn has is needs small ties ts w w' c trust loop (inr run) =
      let here = and_left _ _ all in
      let lows = and_parts (is_below n v && is_below n y) _ low in
      let flow' = and_parts (only_with (k.kept v.0) (k.kept y.0)) (flows k rest) flow in
      let a0 = store_after (machine t inputs) (suite t inputs hosts) proto theory declared o e w0 c0 v y ties (and_left _ _ here) (and_right _ _ here) placed.0 placed.1 in
      let step = store_leads hosts t deal inputs dealt proto clear declared k declassified stays heard o e w0 c0 ties turn has w c trust v y (and_left _ _ here) (and_right _ _ here) placed.1 flow'.0 run.0 run.1.0 in
      rest_stops rest (block_stops rest) o o e _ 0 count w0 c0 _ turn has is (no_slots (machine t inputs) (suite t inputs hosts) proto theory declared count _ row) (and_right _ _ all) fits placed.2 lows.1 flow'.1 needs small ties ts a0
      (given_step k.given.endorsed (Stmt-F.Store v y)) w run.0 w' c step loop run.1.1
  block_stops (Put v i y rest) o count row all fits placed low flow e w0 c0 turn has is needs small ties ts w w' c trust loop (inl is') = stopped_here (Put v i y rest) o e.held turn w w' c trust is'
  block_stops (Put v i y rest) o count row all fits placed low flow e w0 c0 turn has is needs small ties ts w w' c trust loop (inr run) =
      let here = and_left _ _ all in
      let sees_v = and_left _ _ (and_left _ _ here) in
      let sees_i = and_right _ _ (and_left _ _ here) in
      let sees_y = and_right _ _ here in
      let lows = and_parts (is_below n v && is_below n i && is_below n y) _ low in
      let flow' = and_parts (only_with (k.kept v.0) (k.kept i.0 && k.kept y.0)) (flows k rest) flow in
      let a0 = put_after (machine t inputs) (suite t inputs hosts) proto theory declared o e w0 c0 v i y ties sees_v sees_i sees_y placed.0 placed.1 placed.2 in
      let array = part_of hosts t inputs proto clear e.held v.0 in
      let index = delivered (suite_calls hosts) proto (proto i.0) (part_of hosts t inputs proto clear e.held i.0) (holders_among (suite_calls hosts) (proto v.0)) e.next in
      let moved = (suite_calls hosts).move (proto y.0) (proto v.0) (part_of hosts t inputs proto clear e.held y.0) index.next in
      let last = gadgets_parts k.known t (index.acts ++ moved.acts) ((suite_calls hosts).put (proto v.0) array index.given moved.given) w run.0 run.1.0 in
      let first = gadgets_parts k.known t index.acts moved.acts w last.0 last.1.0 in
      let step = put_leads hosts t deal inputs dealt proto clear declared k declassified stays heard o e w0 c0 ties turn w c trust v i sees_i sees_v placed.2 first.0 first.1.0 y sees_y placed.1 flow'.0 last.0 run.0 first.1.1 last.1.1 in
      rest_stops rest (block_stops rest) o o e _ 0 count w0 c0 _ turn has is (no_slots (machine t inputs) (suite t inputs hosts) proto theory declared count _ row) (and_right _ _ all) fits placed.3 lows.1 flow'.1 needs small ties ts a0
      (given_step k.given.endorsed (Stmt-F.Put v i y)) w run.0 w' c step loop run.1.1
  block_stops (Output y g offset rest) o count row all fits placed low flow e w0 c0 turn has is needs small ties ts w w' c trust loop (inl is') = stopped_here (Output y g offset rest) o e.held turn w w' c trust is'
  block_stops (Output y g offset rest) o count row all fits placed low flow e w0 c0 turn has is needs small ties ts w w' c trust loop (inr run) =
      let lows = and_parts (is_below n y) _ low in
      let flow' = and_parts (only_with (k.heard g.0) (k.kept y.0)) (flows k rest) flow in
      let a0 = output_after (machine t inputs) (suite t inputs hosts) proto theory declared o e w0 c0 y g ties (and_left _ _ all) fits.0 placed.0 in
      let step = output_leads hosts t deal inputs dealt proto clear declared k declassified stays heard o e w0 c0 ties turn has w c trust y g offset (and_left _ _ all) fits.0 (theory.local_is_declared g fits.0) placed.0 flow'.0 run.0 run.1.0 in
      rest_stops rest (block_stops rest) o o e _ 0 count w0 c0 _ turn has is (no_slots (machine t inputs) (suite t inputs hosts) proto theory declared count _ row) (and_right _ _ all) fits.1 placed.1 lows.1 flow'.1 needs small ties ts a0
      (given_step k.given.endorsed (Stmt-F.Output y g offset)) w run.0 w' c step loop run.1.1
  block_stops (If x tb eb offset rest) o count row all fits placed low flow e w0 c0 turn has is needs small ties ts w w' c trust loop (inl is') = stopped_here (If x tb eb offset rest) o e.held turn w w' c trust is'
  block_stops (If x tb eb offset rest) o count row all fits placed low flow e w0 c0 turn has is needs small ties ts w w' c trust loop (inr (u, (acts, (other, (ways, (inl run)))))) =
      let here = and_left _ _ all in
      let row1 = row_front count (slots tb ++ slots eb) (slots rest) row in
      let row2 = row_back count (slots tb ++ slots eb) (slots rest) row in
      let low_if = and_left _ _ low in
      let low1 = and_right _ _ (and_left _ _ low_if) in
      let low2 = and_right _ _ low_if in
      let flow' = and_parts (if k.kept x.0 then flows k tb && flows k eb else hides k tb && hides k eb) (flows k rest) flow in
      let covers1 = λ (g : ℕ) (p : turns_at (machine t inputs) (suite t inputs hosts) proto tb g ≡ true). needs g (or_left _ _ (or_left _ _ p)) in
      let covers2 = λ (g : ℕ) (p : turns_at (machine t inputs) (suite t inputs hosts) proto eb g ≡ true). needs g (or_left _ _ (or_right _ _ p)) in
      let front = row_front count (slots tb) (slots eb) row1 in
      let back = row_back count (slots tb) (slots eb) row1 in
      then_more (given_step k.given.endorsed (Stmt-F.If x (each (given_step k.given.endorsed) tb) (each (given_step k.given.endorsed) eb) offset)) rest turn w' c
      (branch_stops tb eb (block_stops tb) (block_stops eb) x offset o count front back (and_left _ _ (and_left _ _ here)) (and_right _ _ (and_left _ _ here)) (and_right _ _ here) fits.0 fits.1 placed.1 placed.2 low1 low2 placed.0 flow'.0
      e w0 c0 turn has is covers1 covers2 small ties ts w u w' c trust loop acts other ways run)
  block_stops (If x tb eb offset rest) o count row all fits placed low flow e w0 c0 turn has is needs small ties ts w w' c trust loop (inr (u, (acts, (other, (ways, (inr (v, (whole, run)))))))) =
      let here = and_left _ _ all in
      let row1 = row_front count (slots tb ++ slots eb) (slots rest) row in
      let row2 = row_back count (slots tb ++ slots eb) (slots rest) row in
      let low_if = and_left _ _ low in
      let low1 = and_right _ _ (and_left _ _ low_if) in
      let low2 = and_right _ _ low_if in
      let flow' = and_parts (if k.kept x.0 then flows k tb && flows k eb else hides k tb && hides k eb) (flows k rest) flow in
      let covers1 = λ (g : ℕ) (p : turns_at (machine t inputs) (suite t inputs hosts) proto tb g ≡ true). needs g (or_left _ _ (or_left _ _ p)) in
      let covers2 = λ (g : ℕ) (p : turns_at (machine t inputs) (suite t inputs hosts) proto eb g ≡ true). needs g (or_left _ _ (or_right _ _ p)) in
      let front = row_front count (slots tb) (slots eb) row1 in
      let back = row_back count (slots tb) (slots eb) row1 in
      let a0 = blocks.after_branch hosts t deal inputs dealt proto clear declared k declassified stays heard n endorses closed alike tb eb (blocks.block_leads hosts t deal inputs dealt proto clear declared k declassified stays heard n endorses closed alike tb) (blocks.block_leads hosts t deal inputs dealt proto clear declared k declassified stays heard n endorses closed alike eb) x offset o count front back (and_left _ _ (and_left _ _ here)) (and_right _ _ (and_left _ _ here)) (and_right _ _ here) fits.0 fits.1 placed.1 placed.2 low1 low2 placed.0 flow'.0
      e w0 c0 turn has is covers1 covers2 small ties ts w u v c trust loop in
      let step = blocks.branch_leads hosts t deal inputs dealt proto clear declared k declassified stays heard n endorses closed alike tb eb (blocks.block_leads hosts t deal inputs dealt proto clear declared k declassified stays heard n endorses closed alike tb) (blocks.block_leads hosts t deal inputs dealt proto clear declared k declassified stays heard n endorses closed alike eb) x offset o count front back (and_left _ _ (and_left _ _ here)) (and_right _ _ (and_left _ _ here)) (and_right _ _ here) fits.0 fits.1 placed.1 placed.2 low1 low2 placed.0 flow'.0
      e w0 c0 turn has is covers1 covers2 small ties ts w u v c trust loop acts other ways whole in
      rest_stops rest (block_stops rest) o o e _ (length (slots tb) + length (slots eb)) count w0 c0 _ turn has is (subst (λ z. InRow (count + z) (slots rest)) (length-append (slots tb) (slots eb)) row2) (and_right _ _ all) fits.2 placed.3 (and_right _ _ low) flow'.1
      (λ g p. needs g (or_right _ _ p)) small ties ts a0 (given_step k.given.endorsed (Stmt-F.If x (each (given_step k.given.endorsed) tb) (each (given_step k.given.endorsed) eb) offset)) w v w' c step loop run
  block_stops (For turns body rest) o count row all fits placed low flow e w0 c0 turn has is needs small ties ts w w' c trust loop (inl (i, (less, (u, (run, into))))) =
      let row1 = row_front count (slots body) (slots rest) row in
      let row2 = row_back count (slots body) (slots rest) row in
      let lows = and_parts (low_block hosts t deal inputs dealt proto clear declared k declassified stays n body) _ low in
      let flow' = and_parts (flows k body) (flows k rest) flow in
      then_more (given_step k.given.endorsed (Stmt-F.For turns (each (given_step k.given.endorsed) body))) rest turn w' c
      (loop_stops body (block_stops body) o count row1 (and_left _ _ all) fits.1 placed.0 lows.0 flow'.0 e w0 c0 is ties w c trust turns fits.0 i less u w' run into turn)
  block_stops (For turns body rest) o count row all fits placed low flow e w0 c0 turn has is needs small ties ts w w' c trust loop (inr (inl is')) = stopped_here (For turns body rest) o e.held turn w w' c trust is'
  block_stops (For turns body rest) o count row all fits placed low flow e w0 c0 turn has is needs small ties ts w w' c trust loop (inr (inr run)) =
      let row1 = row_front count (slots body) (slots rest) row in
      let row2 = row_back count (slots body) (slots rest) row in
      let lows = and_parts (low_block hosts t deal inputs dealt proto clear declared k declassified stays n body) _ low in
      let flow' = and_parts (flows k body) (flows k rest) flow in
      let a0 = blocks.after_loop hosts t deal inputs dealt proto clear declared k declassified stays heard n endorses closed alike body (blocks.block_leads hosts t deal inputs dealt proto clear declared k declassified stays heard n endorses closed alike body) o count row1 (and_left _ _ all) fits.1 placed.0 lows.0 flow'.0 e w0 c0 is ties w c trust turns fits.0 in
      let step = blocks.loop_leads hosts t deal inputs dealt proto clear declared k declassified stays heard n endorses closed alike body (blocks.block_leads hosts t deal inputs dealt proto clear declared k declassified stays heard n endorses closed alike body) o count row1 (and_left _ _ all) fits.1 placed.0 lows.0 flow'.0 e w0 c0 is ties w c trust turns fits.0 turn run.0 run.1.0 in
      rest_stops rest (block_stops rest) o o e _ (length (slots body)) count w0 c0 _ turn has is row2 (and_right _ _ all) fits.2 placed.1 lows.1 flow'.1 needs small ties ts a0
      (given_step k.given.endorsed (Stmt-F.For turns (each (given_step k.given.endorsed) body))) w run.0 w' c step loop run.1.1
