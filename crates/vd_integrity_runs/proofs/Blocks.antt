-- Whole blocks keep the slots in trust right.
use Rattle.std.proofs.Common.{◌≡◌, ◌≢◌, ℕ, zero, suc, ◌+◌, ◌^◌, ◌<◌, ◌≤◌, nat_eq, ◌&&◌, ◌||◌, Bool, true, false, true≢false, if◌then◌else◌, List, [], ◌∷◌, ◌++◌, inl, inr, length, slice_index, refl, sym, ap, subst, ◌∙◌, arith, append_assoc, length-append}
use Rattle.std.specs.List.{list_any}
use Rattle.std.proofs.lemmas.Bool.{and_parts}
use native.Mathlib.Decide.{ℕ_discrete}
use Rattle.vd_base.specs.declared.ids.SlotId.{SlotId}
use Rattle.vd_base.specs.declared.protocols.Proto.{Proto}
use Rattle.vd_base.specs.declared.protocols.Proto.TheVariants.{Local}
use Rattle.vd_base.specs.HostSets.{host}
use Rattle.vd_base.specs.Holders.{is_holder}
use Rattle.vd_core.specs.declared.normal.Right.{Right}
use Rattle.vd_core.specs.declared.normal.Right.TheVariants.{Lit, Turn, Copy, Apply, Input, Declassify, Endorse, Load, Get}
use Rattle.vd_core.specs.declared.normal.Stmt.TheOpen.{Stmt-F}
use Rattle.vd_core.specs.Facts.{Sight, right_sees}
use Rattle.vd_constraints.specs.Scoped.{is_below, right_below}
use Rattle.vd_semantics.specs.Turns.{turns}
use Rattle.vd_semantics.specs.ProgramMeaning.{SlotState, word_at, in_order, stmt_effect}
use Rattle.vd_execution.specs.Gadgets.{Gadget}
use Rattle.vd_execution.specs.Joint.{Hosts, Part}
use Rattle.vd_execution.specs.World.{Tape}
use Rattle.vd_execution.specs.Deals.{IsValidDeal}
use Rattle.vd_duet.specs.Laws.{IsHost}
use Rattle.vd_split.specs.Block.{Block, End, Let, NewVar, NewArray, Store, Put, Output, If, For, each}
use Rattle.vd_split.specs.Joint.{Each as EachOf, IsIn, choice}
use Rattle.vd_split.specs.Suite.{Word, Cells, Made, Suite, Laws, picked, holders_among}
use Rattle.vd_split.specs.Emission.{Emitting, Emitted, Emission, delivered, right_made, if_made, for_made, loop_registers, after_loop_registers}
use Rattle.vd_split.specs.Validity.{Fits, Placed, RightFits, RightPlaced, Reaches, emission_of, turns_at}
use Rattle.vd_split.proofs.Front.{InRow, front_kept, row_front, row_back, and_left, and_right, or_left, or_right, Use, Binding, Variable, Array, Sees, content, with_use, After, TurnsIn, array_after, let_after, output_after, put_after, store_after, turns_past, unchanging_past, var_after, picked_join, operand_of, slots, sees, effect_of, turn_here, turn_later, turns_act, no_slots, both_idle, means}
use Rattle.vd_split.proofs.Front as loops
use Rattle.vd_backend_laws.specs.Machine.{machine}
use Rattle.vd_backend_laws.specs.Parts.{Parts, suite_calls}
use Rattle.vd_backend_laws.specs.Suite.{IsOver, Names, suite, AreGiven}
use Rattle.vd_noninter.specs.Agreement.{Agree}
use Rattle.vd_noninter.specs.Flowing.{Knowledge, only_with, right_flows}
use Rattle.vd_noninter.proofs.Front.{agree_sym, agree_trans}
use Rattle.vd_integrity_runs.specs.Departing.{RunsGadgets}
use Rattle.vd_integrity_runs.specs.Copies.{IsInClear}
use Rattle.vd_integrity_runs.proofs.Steps.{gadgets_parts}
use Rattle.vd_integrity_runs.specs.Endorsed.{Given, Doing, all_done, bound, given_step, is_given}
use Rattle.vd_integrity_runs.proofs.Hiding.{hides, flows, run_of, hidden_still, hidden_runs, hidden_flows}
use Rattle.vd_integrity_runs.specs.Runs.{GoThisWay, IsOneWord, RunsBlock, RunsTurns, turn_begun}
use Rattle.vd_integrity_runs.proofs.Touching.{IsFramed, runs_framed}
use Rattle.vd_integrity_runs.proofs.Fresh.{Free, IsFresh}
use Rattle.vd_integrity_runs.proofs.Calls.{IsKeptAt, still_of}
use Rattle.vd_integrity_runs.proofs.Relation.{Ties, Lasting, IsRightIn, IsSmall, Still, operand, part_of, quiet_outer, trust_back, trust_held, trust_on}
use Rattle.vd_integrity_runs.proofs.Rights.{Trust, laws}
use Rattle.vd_integrity_runs.proofs.Statements.{Leads, given, let_leads, input_leads, var_leads, store_leads, output_leads}
use Rattle.vd_integrity_runs.proofs.Cells.{array_leads, get_leads, put_leads}
use Rattle.vd_integrity_runs.proofs.Guards.{NoneKeeps, RightAt, delivered_fresh, delivered_right, given_hosts, low_block, nobody_hides, none_keeps, way_is}

module _ (hosts : ℕ) (t : Tape) (deal : IsValidDeal t) (inputs : ℕ → List ℕ) (dealt : AreGiven inputs t) (proto : ℕ → Proto) (clear : (x : ℕ) → IsInClear (proto x)) (declared : (x : ℕ) → IsOver hosts (proto x))
    (k : Knowledge) (declassified : (x y : ℕ) → k.given.declassified x y ≡ false) (stays : (x : ℕ) → k.kept x ≡ true → IsKeptAt k.known (proto x)) (heard : (h : ℕ) → k.known h ≡ true → k.heard h ≡ true)
    (n : ℕ) (endorses : (x y : ℕ) → x < n → k.given.endorsed x y ≡ true → IsKeptAt k.known (proto x)) (closed : (x y : ℕ) → (k.freed.declassified x y ≡ false) × (k.freed.endorsed x y ≡ false)) (alike : (h : ℕ) → k.heard h ≡ true → k.known h ≡ true) where
  abbrev s : Suite (machine t inputs)
  s = suite t inputs hosts

  abbrev pub theory : Laws (machine t inputs) (suite t inputs hosts)
  theory = laws hosts t deal inputs dealt proto clear declared

  abbrev pub Em : Type 0
  Em = Emitting (suite_calls hosts) proto

  abbrev pub emits : Block → Emission (suite_calls hosts) proto
  emits b = emission_of (machine t inputs) (suite t inputs hosts) proto b

  abbrev pub Right' : Sight → List Parts → Hosts → SlotState → Type 0
  Right' o held w c = Trust hosts t deal inputs dealt proto clear declared k declassified stays o held w c

  abbrev pub Goes : Sight → Sight → List ℕ → List Parts → List Parts → Doing → ℕ → Hosts → Hosts → SlotState → Type 0
  Goes o o' next held held' does turn w u c = Leads hosts t deal inputs dealt proto clear declared k declassified stays heard o o' next held held' does turn w u c

  abbrev pub Tie : Sight → Em → Hosts → SlotState → Type 0
  Tie o e w c = Ties hosts t inputs proto clear o e.next e.held w c

  abbrev pub Last : Sight → List Parts → ℕ → ℕ → Type 0
  Last o held h r = Lasting hosts t inputs proto clear o held h r

  -- each host that keeps and has the loop has the number of the turn
  abbrev pub Loop : (ℕ → Bool) → Em → Hosts → ℕ → Type 0
  Loop has e w turn = (h : ℕ) → h < hosts → has h ≡ true → k.known h ≡ true → ((w h).registers (slice_index e.loop h) ≡ turn) × (slice_index e.loop h < slice_index e.next h)

  abbrev pub Run : Block → Em → Hosts → Hosts → Type 0
  Run b e w w' = RunsBlock hosts proto k.known t k.given.endorsed b e w w'

  -- what a block leads to
  abbrev pub BlockLeads : Block → Type 0
  BlockLeads b =
      (o : Sight) (count : ℕ) → InRow count (slots b) → (sees b o).all ≡ true → Fits hosts b → Placed (machine t inputs) (suite t inputs hosts) proto b → low_block hosts t deal inputs dealt proto clear declared k declassified stays n b ≡ true → flows k b ≡ true
      → (e : Em) (w0 : Hosts) (c0 : SlotState) (turn : ℕ) (has : ℕ → Bool) → length e.held ≡ count → ((h : ℕ) → turns_at (machine t inputs) (suite t inputs hosts) proto b h ≡ true → has h ≡ true) → turn < 2 ^ 32
      → Tie o e w0 c0 → TurnsIn (machine t inputs) (suite t inputs hosts) proto has o e w0 turn
      → (w w' : Hosts) (c : SlotState) → Right' o e.held w c → Loop has e w turn → Run b e w w'
      → Goes o (sees b o).after e.next e.held ((emits b).emit e).state.held (run_of k b) turn w w' c

  -- ---- one after the other
  leads_then : (o o1 o2 : Sight) (next next1 : List ℕ) (held held1 held2 : List Parts) (f g : Doing) (turn : ℕ) (w u v : Hosts) (c : SlotState) (a : Goes o o1 next held held1 f turn w u c)
      → ((h : ℕ) → slice_index next h ≤ slice_index next1 h) → ((h r : ℕ) → r < slice_index next h → Last o held h r → Last o1 held1 h r)
      → Goes o1 o2 next1 held1 held2 g turn u v a.after → Goes o o2 next held held2 (λ turn z. g turn (f turn z)) turn w v c
  leads_then o o1 o2 next next1 held held1 held2 f g turn w u v c a longer lasts b = record {
    words = a.words ++ b.words;
    after = b.after;
    runs = λ more. ap (λ (l : List ℕ). g turn (f turn (given c l))) (append_assoc a.words b.words more) ∙ ap (g turn) (a.runs (b.words ++ more)) ∙ b.runs more;
    trust = b.trust;
    kept = λ h r low last. b.kept h r (let le = longer h in omega (arith, low, le)) (lasts h r low last) ∙ a.kept h r low last;
  }

  and_rest : (rest : Block) → BlockLeads rest → (o o1 : Sight) (e : Em) (one : Emitted (suite_calls hosts) proto) (slots_more count : ℕ) (w0 : Hosts) (c0 c1 : SlotState) (turn : ℕ) (has : ℕ → Bool) → length e.held ≡ count
      → InRow (count + slots_more) (slots rest) → (sees rest o1).all ≡ true → Fits hosts rest → Placed (machine t inputs) (suite t inputs hosts) proto rest → low_block hosts t deal inputs dealt proto clear declared k declassified stays n rest ≡ true → flows k rest ≡ true
      → ((h : ℕ) → turns_at (machine t inputs) (suite t inputs hosts) proto rest h ≡ true → has h ≡ true) → turn < 2 ^ 32 → Tie o e w0 c0 → (ts : TurnsIn (machine t inputs) (suite t inputs hosts) proto has o e w0 turn)
      → After (machine t inputs) (suite t inputs hosts) proto o o1 e one slots_more w0 c1
      → (f : Doing) (w u w' : Hosts) (c : SlotState) → Goes o o1 e.next e.held one.state.held f turn w u c → Loop has e w turn → Run rest one.state u w'
      → Goes o (sees rest o1).after e.next e.held ((emits rest).emit one.state).state.held (λ turn z. run_of k rest turn (f turn z)) turn w w' c
  and_rest rest goes o o1 e one slots_more count w0 c0 c1 turn has is row all fits placed low flow needs small ties ts a0 f w u w' c step loop run =
      leads_then o o1 (sees rest o1).after e.next one.state.next e.held one.state.held ((emits rest).emit one.state).state.held f (run_of k rest) turn w u w' c step a0.longer
      (unchanging_past (machine t inputs) (suite t inputs hosts) proto o o1 e one slots_more w0 c0 c1 ties a0)
      (goes o1 (count + slots_more) row all fits placed low flow one.state a0.reached c1 turn has (ap length a0.held ∙ length-append e.held a0.more ∙ sum is a0.many) needs small a0.tied
      (turns_past (machine t inputs) (suite t inputs hosts) proto has turn o o1 e one slots_more w0 c0 c1 ties a0 ts) u w' step.after step.trust
      (λ h low there keep.
      let q = ts h low there in
      let P : List ℕ → Type 0 = λ l. ((u h).registers (slice_index l h) ≡ turn) × (slice_index l h < slice_index one.state.next h) in
      subst P (sym a0.loop) (step.kept h (slice_index e.loop h) q.1 q.2 ∙ (loop h low there keep).0, further h (slice_index e.loop h) q.1))
      run)
    where
      sum : {i j : ℕ} → i ≡ count → j ≡ slots_more → i + j ≡ count + slots_more
      sum p q = omega (arith, p, q)

      further : (h r : ℕ) → r < slice_index e.next h → r < slice_index one.state.next h
      further h r low = let le = a0.longer h in omega (arith, low, le)

  -- ---- bindings
  pub let_step : (o : Sight) (e : Em) (w0 : Hosts) (c0 : SlotState) (turn : ℕ) (has : ℕ → Bool) (x : SlotId) (right : Right) → Tie o e w0 c0 → x.0 ≡ length e.held
      → right_sees right o ≡ true → RightFits hosts right → RightPlaced (machine t inputs) (suite t inputs hosts) proto (proto x.0) right → turn < 2 ^ 32 → (right ≡ Turn → (h : ℕ) → is_holder (proto x.0) (host h) ≡ true → has h ≡ true)
      → right_flows k x right ≡ true → (w u : Hosts) (c : SlotState) → Right' o e.held w c → Loop has e w turn
      → RunsGadgets k.known t (right_made (suite_calls hosts) proto (proto x.0) right e).acts w u → (is_given k.given.endorsed x right ≡ true → IsOneWord k.known (right_made (suite_calls hosts) proto (proto x.0) right e).given.at u)
      → Goes o (with_use Binding x.0 o) e.next e.held (e.held ++ (right_made (suite_calls hosts) proto (proto x.0) right e).given ∷ []) (bound k.given.endorsed x right) turn w u c
  let_step o e w0 c0 turn has x (Lit v) ties is sees fits placed small reach flow w u c trust loop run one =
      let_leads hosts t deal inputs dealt proto clear declared k declassified stays heard o e w0 c0 ties turn has w c trust x (Lit v) tt is sees fits placed small reach loop flow u run one
  let_step o e w0 c0 turn has x Turn ties is sees fits placed small reach flow w u c trust loop run one =
      let_leads hosts t deal inputs dealt proto clear declared k declassified stays heard o e w0 c0 ties turn has w c trust x Turn tt is sees fits placed small reach loop flow u run one
  let_step o e w0 c0 turn has x (Copy y) ties is sees fits placed small reach flow w u c trust loop run one =
      let_leads hosts t deal inputs dealt proto clear declared k declassified stays heard o e w0 c0 ties turn has w c trust x (Copy y) tt is sees fits placed small reach loop flow u run one
  let_step o e w0 c0 turn has x (Apply op ys) ties is sees fits placed small reach flow w u c trust loop run one =
      let_leads hosts t deal inputs dealt proto clear declared k declassified stays heard o e w0 c0 ties turn has w c trust x (Apply op ys) tt is sees fits placed small reach loop flow u run one
  let_step o e w0 c0 turn has x (Input h) ties is sees fits placed small reach flow w u c trust loop run one =
      input_leads hosts t deal inputs dealt proto clear declared k declassified stays heard o e w0 c0 ties turn has w c trust x h is flow u run
  let_step o e w0 c0 turn has x (Declassify y to) ties is sees fits placed small reach flow w u c trust loop run one =
      let_leads hosts t deal inputs dealt proto clear declared k declassified stays heard o e w0 c0 ties turn has w c trust x (Declassify y to) tt is sees fits placed small reach loop flow u run one
  let_step o e w0 c0 turn has x (Endorse y to) ties is sees fits placed small reach flow w u c trust loop run one =
      let_leads hosts t deal inputs dealt proto clear declared k declassified stays heard o e w0 c0 ties turn has w c trust x (Endorse y to) tt is sees fits placed small reach loop flow u run one
  let_step o e w0 c0 turn has x (Load v) ties is sees fits placed small reach flow w u c trust loop run one =
      let_leads hosts t deal inputs dealt proto clear declared k declassified stays heard o e w0 c0 ties turn has w c trust x (Load v) tt is sees fits placed small reach loop flow u run one
  let_step o e w0 c0 turn has x (Get v i) ties is sees fits placed small reach flow w u c trust loop run one =
      let index = delivered (suite_calls hosts) proto (proto i.0) (part_of hosts t inputs proto clear e.held i.0) (holders_among (suite_calls hosts) (proto v.0)) e.next in
      let got = (suite_calls hosts).get (proto v.0) (part_of hosts t inputs proto clear e.held v.0) index.given index.next in
      let moved = (suite_calls hosts).move (proto v.0) (proto x.0) got.given got.next in
      let last = gadgets_parts k.known t (index.acts ++ got.acts) moved.acts w u run in
      let first = gadgets_parts k.known t index.acts got.acts w last.0 last.1.0 in
      get_leads hosts t deal inputs dealt proto clear declared k declassified stays heard o e w0 c0 ties turn w c trust v i (and_right _ _ sees) (and_left _ _ sees) placed.2 first.0 first.1.0 x is placed.0 flow last.0 u first.1.1 last.1.1

  -- ---- states that agree on what is in trust
  trust_agrees : (o : Sight) (held : List Parts) (w : Hosts) (c c' : SlotState) → Agree k c c' → Right' o held w c → Right' o held w c'
  trust_agrees o held w c c' a trust = record {
    right = λ u x i is. subst (λ z. IsRightIn k.known w (part_of hosts t inputs proto clear held x) z) (same u x is) (trust.right u x i is);
    small = λ u x i is. subst IsSmall (same u x is) (trust.small u x i is);
    outer = record {
      printed = λ h keep. trust.outer.printed h keep ∙ a.outputs h (heard h keep);
      waiting = λ h keep i. trust.outer.waiting h keep i ∙ a.inputs h keep i;
      words = λ h keep i. subst (λ z. z < 2 ^ 32) (a.inputs h keep i) (trust.outer.words h keep i);
      known = sym a.hosts ∙ trust.outer.known;
    };
  }
    where
      same : (u : Use) (x : ℕ) → k.kept x ≡ true → content u c x ≡ content u c' x
      same Binding x is = ap Word (a.words x is)
      same Variable x is = ap Word (a.words x is)
      same Array x is = ap Cells (a.arrays x is)

  -- ---- branches
  picked_host : (test : ℕ → Bool) (from count h : ℕ) → from ≤ h → h < from + count → test h ≡ true → IsHost (picked from count test) h
  picked_host test from zero h low high is = absurd (omega (arith, low, high))
  picked_host test from (suc count) h low high is = by (λ d. picked_host test (from + 1) count h (higher d) (omega (arith, high)) is) (test from) refl
    where
      higher : h ≢ from → from + 1 ≤ h
      higher d = grind (arith)

      by : (h ≢ from → IsHost (picked (from + 1) count test) h) → (b : Bool) → test from ≡ b → IsHost (if b then host from ∷ picked (from + 1) count test else picked (from + 1) count test) h
      by later true there = elim (ℕ_discrete h from) [ yes e ↦ inl e | no d ↦ inr (later d) ]
      by later false there = elim (ℕ_discrete h from) [ yes e ↦ absurd (true≢false (sym is ∙ ap test e ∙ there)) | no d ↦ later d ]

  module _ (tb eb : Block) (goes1 : BlockLeads tb) (goes2 : BlockLeads eb) (x : SlotId) (offset : ℕ) (o : Sight) (count : ℕ) (row1 : InRow count (slots tb)) (row2 : InRow (count + length (slots tb)) (slots eb)) (sees_x : Sees o Binding x.0)
      (seen1 : (sees tb o).all ≡ true) (seen2 : (sees eb o).all ≡ true) (fits1 : Fits hosts tb) (fits2 : Fits hosts eb) (placed1 : Placed (machine t inputs) (suite t inputs hosts) proto tb) (placed2 : Placed (machine t inputs) (suite t inputs hosts) proto eb)
      (low1 : low_block hosts t deal inputs dealt proto clear declared k declassified stays n tb ≡ true) (low2 : low_block hosts t deal inputs dealt proto clear declared k declassified stays n eb ≡ true)
      (reaches : Reaches (machine t inputs) (suite t inputs hosts) proto x (λ g. (emits tb).takes_part g || (emits eb).takes_part g)) (flow : (if k.kept x.0 then flows k tb && flows k eb else hides k tb && hides k eb) ≡ true)
      (e : Em) (w0 : Hosts) (c0 : SlotState) (turn : ℕ) (has : ℕ → Bool) (is : length e.held ≡ count) (covers1 : (h : ℕ) → turns_at (machine t inputs) (suite t inputs hosts) proto tb h ≡ true → has h ≡ true)
      (covers2 : (h : ℕ) → turns_at (machine t inputs) (suite t inputs hosts) proto eb h ≡ true → has h ≡ true) (small : turn < 2 ^ 32) (ties : Tie o e w0 c0) (ts : TurnsIn (machine t inputs) (suite t inputs hosts) proto has o e w0 turn)
      (w u v : Hosts) (c : SlotState) (trust : Right' o e.held w c) (loop : Loop has e w turn) where
    abbrev pub test : ℕ → Bool
    test g = (emits tb).takes_part g || (emits eb).takes_part g

    abbrev from : Parts
    from = part_of hosts t inputs proto clear e.held x.0

    abbrev pub guard : Made Gadget (List (ℕ × ℕ))
    guard = delivered (suite_calls hosts) proto (proto x.0) (part_of hosts t inputs proto clear e.held x.0) (picked 0 hosts (λ g. (emits tb).takes_part g || (emits eb).takes_part g)) e.next

    abbrev pub start : Em
    start = record { next = guard.next; held = e.held; loop = e.loop }

    abbrev pub first : Emitted (suite_calls hosts) proto
    first = (emits tb).emit start

    abbrev second : Emitted (suite_calls hosts) proto
    second = (emits eb).emit first.state

    abbrev pub then_steps : List Doing
    then_steps = each (given_step k.given.endorsed) tb

    abbrev pub else_steps : List Doing
    else_steps = each (given_step k.given.endorsed) eb

    within : {g : ℕ} → g < 0 + hosts → g < hosts
    within lt = omega arith

    joins : EachOf (λ g. (g.0 < hosts) × ((suite t inputs hosts).joins (proto x.0) (Local g) ≡ true)) (picked 0 hosts test)
    joins = picked_join (machine t inputs) (suite t inputs hosts) theory proto (proto x.0) test 0 hosts (λ g lt i. reaches g (within lt) i) (omega arith)

    fresh : IsFresh e.next guard.acts guard.next
    fresh = delivered_fresh hosts t deal inputs dealt proto clear declared (proto x.0) (clear x.0) from (picked 0 hosts test) joins e.next ties.ready.known

    pub comes1 : loops.Comes (machine t inputs) (suite t inputs hosts) proto theory declared (emits tb) (effect_of tb) o (sees tb o).after (length (slots tb)) (turns_at (machine t inputs) (suite t inputs hosts) proto tb) count
    comes1 = means (machine t inputs) (suite t inputs hosts) proto theory declared tb o count row1 seen1 fits1 placed1

    pub comes2 : loops.Comes (machine t inputs) (suite t inputs hosts) proto theory declared (emits eb) (effect_of eb) o (sees eb o).after (length (slots eb)) (turns_at (machine t inputs) (suite t inputs hosts) proto eb) (count + length (slots tb))
    comes2 = means (machine t inputs) (suite t inputs hosts) proto theory declared eb o (count + length (slots tb)) row2 seen2 fits2 placed2

    pub after_branch : After (machine t inputs) (suite t inputs hosts) proto o o e (if_made (suite_calls hosts) proto x (emits tb) (emits eb) e) (length (slots tb) + length (slots eb)) w0
        (in_order (if nat_eq (word_at c0 x) 0 then each stmt_effect eb else each stmt_effect tb) turn c0)
    after_branch =
        loops.branch_after (machine t inputs) (suite t inputs hosts) proto theory declared o (sees tb o).after (sees eb o).after (emits tb) (emits eb) (each stmt_effect tb) (each stmt_effect eb) (length (slots tb)) (length (slots eb)) count
        (turns_at (machine t inputs) (suite t inputs hosts) proto tb) (turns_at (machine t inputs) (suite t inputs hosts) proto eb) comes1 comes2 x sees_x reaches (both_idle (machine t inputs) (suite t inputs hosts) proto theory declared tb eb) e w0 c0 turn has is covers1 covers2 small ties ts

    abbrev pub w1 : Hosts
    w1 = (loops.reached (machine t inputs) (suite t inputs hosts) proto theory declared o (sees tb o).after (sees eb o).after (emits tb) (emits eb) (each stmt_effect tb) (each stmt_effect eb) (length (slots tb)) (length (slots eb)) count
        (turns_at (machine t inputs) (suite t inputs hosts) proto tb) (turns_at (machine t inputs) (suite t inputs hosts) proto eb) comes1 comes2 x sees_x reaches (both_idle (machine t inputs) (suite t inputs hosts) proto theory declared tb eb) e w0 c0 turn has is covers1 covers2 small ties ts).between.reached

    pub begins : (Tie o start w1 c0 × TurnsIn (machine t inputs) (suite t inputs hosts) proto has o start w1 turn)
        × (Tie o first.state w1 c0 × TurnsIn (machine t inputs) (suite t inputs hosts) proto has o first.state w1 turn × (length first.state.held ≡ count + length (slots tb)))
    begins =
        loops.begins_at (machine t inputs) (suite t inputs hosts) proto theory declared o (sees tb o).after (sees eb o).after (emits tb) (emits eb) (each stmt_effect tb) (each stmt_effect eb) (length (slots tb)) (length (slots eb)) count
        (turns_at (machine t inputs) (suite t inputs hosts) proto tb) (turns_at (machine t inputs) (suite t inputs hosts) proto eb) comes1 comes2 x sees_x reaches (both_idle (machine t inputs) (suite t inputs hosts) proto theory declared tb eb) e w0 c0 turn has is covers1 covers2 small ties ts

    after1 : After (machine t inputs) (suite t inputs hosts) proto o (sees tb o).after start first (length (slots tb)) w1 (effect_of tb turn c0)
    after1 = comes1 start w1 c0 turn has is covers1 small begins.0.0 begins.0.1

    after2 : After (machine t inputs) (suite t inputs hosts) proto o (sees eb o).after first.state second (length (slots eb)) w1 (effect_of eb turn c0)
    after2 = comes2 first.state w1 c0 turn has begins.1.2 covers2 small begins.1.0 begins.1.1

    pub flow1 : flows k tb ≡ true
    flow1 = by (k.kept x.0) flow
      where
        by : (b : Bool) → (if b then flows k tb && flows k eb else hides k tb && hides k eb) ≡ true → flows k tb ≡ true
        by true f = (and_parts (flows k tb) (flows k eb) f).0
        by false f = hidden_flows k tb (and_parts (hides k tb) (hides k eb) f).0

    pub flow2 : flows k eb ≡ true
    flow2 = by (k.kept x.0) flow
      where
        by : (b : Bool) → (if b then flows k tb && flows k eb else hides k tb && hides k eb) ≡ true → flows k eb ≡ true
        by true f = (and_parts (flows k tb) (flows k eb) f).1
        by false f = hidden_flows k eb (and_parts (hides k tb) (hides k eb) f).1

    module _ (guard_run : RunsGadgets k.known t guard.acts w u) where
      framed : IsFramed (Free e.next) w u
      framed = runs_framed (Free e.next) k.known t guard.acts w u fresh.touches guard_run

      pub trust1 : Right' o e.held u c
      trust1 =
          trust_on hosts t inputs proto clear k.known k.kept o e.next e.held w0 c0 ties w u c (still_of e.next w u framed)
          (quiet_outer hosts t inputs proto clear k.known k.kept (Free e.next) w u c.world framed trust.outer) trust

      pub trust2 : Right' o first.state.held u c
      trust2 = subst (λ (l : List Parts). Right' o l u c) (sym after1.held) (trust_held hosts t inputs proto clear k.known k.kept o e.held after1.more u c ties.made trust1)

      pub loop1 : Loop has start u turn
      loop1 h low there keep =
          let q = loop h low there keep in
          (still_of e.next w u framed h (slice_index e.loop h) q.1 ∙ q.0, further h (slice_index e.loop h) q.1)
        where
          further : (h r : ℕ) → r < slice_index e.next h → r < slice_index guard.next h
          further h r less = let le = fresh.longer h in omega (arith, less, le)

      pub loop2 : Loop has first.state u turn
      loop2 h low there keep =
          let q = loop1 h low there keep in
          let P : List ℕ → Type 0 = λ l. ((u h).registers (slice_index l h) ≡ turn) × (slice_index l h < slice_index first.state.next h) in
          subst P (sym after1.loop) (q.0, further h (slice_index e.loop h) q.1)
        where
          further : (h r : ℕ) → r < slice_index guard.next h → r < slice_index first.state.next h
          further h r less = let le = after1.longer h in omega (arith, less, le)

      -- the way that was taken
      record Taken (other : Bool) : Type 0 where
        words : List ℕ
        after : SlotState
        runs : (more : List ℕ) → all_done (if other then else_steps else then_steps) turn (given c (words ++ more)) ≡ given after more
        holds : Right' o second.state.held v after
        kept : (h r : ℕ) → r < slice_index e.next h → Last o e.held h r → (v h).registers r ≡ (u h).registers r

      all_held : second.state.held ≡ e.held ++ (after1.more ++ after2.more)
      all_held = after2.held ∙ ap (λ (l : List Parts). l ++ after2.more) after1.held ∙ append_assoc e.held after1.more after2.more

      to_end : (z : SlotState) → Right' o e.held v z → Right' o second.state.held v z
      to_end z right = subst (λ (l : List Parts). Right' o l v z) (sym all_held) (trust_held hosts t inputs proto clear k.known k.kept o e.held (after1.more ++ after2.more) v z ties.made right)

      lasts : (h r : ℕ) → Last o e.held h r → Last o first.state.held h r
      lasts h r last v y i changes named =
          last v y i changes (subst (λ (z : Parts). Names z h r) (ap (λ (l : List Parts). part_of hosts t inputs proto clear l y) after1.held ∙ front_kept e.held after1.more y (suite_calls hosts).nowhere (ties.made v y i)) named)

      further_on : (h r : ℕ) → r < slice_index e.next h → r < slice_index guard.next h
      further_on h r less = let le = fresh.longer h in omega (arith, less, le)

      further_still : (h r : ℕ) → r < slice_index e.next h → r < slice_index first.state.next h
      further_still h r less = let le = fresh.longer h in let more = after1.longer h in omega (arith, less, le, more)

      taken : (other : Bool) → choice other (Run eb first.state u v) (Run tb start u v) → Taken other
      taken false run =
          let a = goes1 o count row1 seen1 fits1 placed1 low1 flow1 start w1 c0 turn has is covers1 small begins.0.0 begins.0.1 u v c trust1 loop1 run in
          record {
            words = a.words;
            after = a.after;
            runs = a.runs;
            holds = to_end a.after (trust_back hosts t inputs proto clear k.known k.kept o (sees tb o).after e.held first.state.held after1.more v a.after ties.made after1.seen after1.held a.trust);
            kept = λ h r low last. a.kept h r (further_on h r low) last;
          }
      taken true run =
          let a = goes2 o (count + length (slots tb)) row2 seen2 fits2 placed2 low2 flow2 first.state w1 c0 turn has begins.1.2 covers2 small begins.1.0 begins.1.1 u v c trust2 loop2 run in
          record {
            words = a.words;
            after = a.after;
            runs = a.runs;
            holds = to_end a.after (trust_back hosts t inputs proto clear k.known k.kept o (sees eb o).after e.held second.state.held (after1.more ++ after2.more) v a.after ties.made after2.seen all_held a.trust);
            kept = λ h r low last. a.kept h r (further_still h r low) (lasts h r last);
          }

      all_kept : (other : Bool) → Taken other → (h r : ℕ) → r < slice_index e.next h → Last o e.held h r → (v h).registers r ≡ (w h).registers r
      all_kept other a h r low last = a.kept h r low last ∙ still_of e.next w u framed h r low

      abbrev pub zero_test : Bool
      zero_test = nat_eq (word_at c x) 0

      abbrev Whole : Type 0
      Whole = Goes o o e.next e.held second.state.held (given_step k.given.endorsed (Stmt-F.If x then_steps else_steps offset)) turn w v c

      -- the way is that of the clear run
      same_way : (other : Bool) → Taken other → zero_test ≡ other → Whole
      same_way other a same = record {
        words = a.words;
        after = a.after;
        runs = λ more. ap (λ (b : Bool). all_done (if b then else_steps else then_steps) turn (given c (a.words ++ more))) same ∙ a.runs more;
        trust = a.holds;
        kept = all_kept other a;
      }

      -- nothing in trust changes in either way
      hidden_agrees : (b : Bool) → hides k tb ≡ true → hides k eb ≡ true → (words : List ℕ) (after : SlotState) → all_done (if b then else_steps else then_steps) turn (given c words) ≡ given after [] → Agree k c after
      hidden_agrees true h1 h2 words after run = subst (λ (z : Given). Agree k c z.state) run (hidden_still k eb h2 turn (given c words)).agree
      hidden_agrees false h1 h2 words after run = subst (λ (z : Given). Agree k c z.state) run (hidden_still k tb h1 turn (given c words)).agree

      hidden_way : (b : Bool) → hides k tb ≡ true → hides k eb ≡ true → (more : List ℕ)
          → all_done (if b then else_steps else then_steps) turn (given c more) ≡ given (in_order (if b then each stmt_effect eb else each stmt_effect tb) turn c) more
      hidden_way true h1 h2 more = hidden_runs k eb h2 turn c more
      hidden_way false h1 h2 more = hidden_runs k tb h1 turn c more

      either_way : (other : Bool) → Taken other → hides k tb ≡ true → hides k eb ≡ true → Whole
      either_way other a h1 h2 =
          let after = in_order (if zero_test then each stmt_effect eb else each stmt_effect tb) turn c in
          let one = hidden_agrees other h1 h2 (a.words ++ []) a.after (a.runs []) in
          let two = hidden_agrees zero_test h1 h2 [] after (hidden_way zero_test h1 h2 []) in
          record {
            words = [];
            after = after;
            runs = hidden_way zero_test h1 h2;
            trust = trust_agrees o second.state.held v a.after after (agree_trans k a.after c after (agree_sym k c a.after one) two) a.holds;
            kept = all_kept other a;
          }

      pub guarded : k.kept x.0 ≡ true → RightAt k.known u (word_at c x) guard.given
      guarded there =
          delivered_right hosts t deal inputs dealt proto clear declared k declassified stays (proto x.0) (clear x.0) (declared x.0) (stays x.0 there) from (slice_index c0.words x.0) (word_at c x) (picked 0 hosts test) joins e.next w0 ties.ready
          (operand_of (machine t inputs) (suite t inputs hosts) proto theory declared o e.next e.held w0 c0 ties x.0 sees_x) w u
          (operand hosts t inputs proto clear k.known k.kept o e.next e.held w0 c0 ties w c trust x.0 sees_x there) guard_run

      pub nobody : list_any (λ q. k.known q.0) guard.given ≡ false → NoneKeeps hosts t deal inputs dealt proto clear declared k declassified stays n endorses closed alike test
      nobody none h low part keep =
          none_keeps k.known guard.given none (picked 0 hosts test) (given_hosts hosts t deal inputs dealt proto clear declared (proto x.0) from (picked 0 hosts test) e.next) h (picked_host test 0 hosts h (omega arith) (omega (arith, low)) part) keep

      pub branch_leads : (other : Bool) → GoThisWay k.known other guard.given u → choice other (Run eb first.state u v) (Run tb start u v) → Whole
      branch_leads other ways run = by (k.kept x.0) refl (list_any (λ q. k.known q.0) guard.given) refl
        where
          both : (h1 : hides k tb ≡ true) → (h2 : hides k eb ≡ true) → Whole
          both h1 h2 = either_way other (taken other run) h1 h2

          by : (b : Bool) → k.kept x.0 ≡ b → (some : Bool) → list_any (λ q. k.known q.0) guard.given ≡ some → Whole
          by true there true some = same_way other (taken other run) (way_is k.known other u (word_at c x) guard.given ways (guarded there) some)
          by true there false none =
              let no = nobody none in
              both (nobody_hides hosts t deal inputs dealt proto clear declared k declassified stays n endorses closed alike tb (λ h low is. no h low (or_left _ _ is)) low1 fits1 placed1)
              (nobody_hides hosts t deal inputs dealt proto clear declared k declassified stays n endorses closed alike eb (λ h low is. no h low (or_right _ _ is)) low2 fits2 placed2)
          by false away some is' =
              let f = sym (ap (λ (b : Bool). if b then flows k tb && flows k eb else hides k tb && hides k eb) away) ∙ flow in
              both (and_parts (hides k tb) (hides k eb) f).0 (and_parts (hides k tb) (hides k eb) f).1

  -- ---- loops
  from_zero : (h : ℕ) → 0 + h ≡ h
  from_zero h = omega arith

  module _ (body : Block) (goes : BlockLeads body) (o : Sight) (count : ℕ) (row : InRow count (slots body)) (seen : (sees body o).all ≡ true) (fits : Fits hosts body) (placed : Placed (machine t inputs) (suite t inputs hosts) proto body)
      (low : low_block hosts t deal inputs dealt proto clear declared k declassified stays n body ≡ true) (flow : flows k body ≡ true) (e : Em) (w0 : Hosts) (c0 : SlotState) (is : length e.held ≡ count) (ties : Tie o e w0 c0)
      (w : Hosts) (c : SlotState) (trust : Right' o e.held w c) where
    abbrev pub repeat : Emission (suite_calls hosts) proto
    repeat = emits body

    abbrev pub inner : Em
    inner = record { next = after_loop_registers repeat.acts_at 0 e.next; held = e.held; loop = e.next }

    abbrev pub registers : List Part
    registers = loop_registers repeat.acts_at 0 e.next

    abbrev pub made : Emitted (suite_calls hosts) proto
    made = repeat.emit inner

    pub comes : loops.Comes (machine t inputs) (suite t inputs hosts) proto theory declared (emits body) (effect_of body) o (sees body o).after (length (slots body)) (turns_at (machine t inputs) (suite t inputs hosts) proto body) count
    comes = means (machine t inputs) (suite t inputs hosts) proto theory declared body o count row seen fits placed

    pub after_loop : (often : ℕ) → often ≤ 2 ^ 32 → After (machine t inputs) (suite t inputs hosts) proto o o e (for_made (suite_calls hosts) proto often (emits body) e) (length (slots body)) w0 (turns often (effect_of body) c0)
    after_loop turns small =
        loops.loop_after (machine t inputs) (suite t inputs hosts) proto theory declared o (sees body o).after repeat (effect_of body) (length (slots body)) count (turns_at (machine t inputs) (suite t inputs hosts) proto body) comes
        (turns_act (machine t inputs) (suite t inputs hosts) proto theory declared body) e w0 c0 is ties turns small

    -- a loop's registers are free ones
    fresh_ones : (h r : ℕ) → r < slice_index e.next h → IsIn registers h r → ⊥
    fresh_ones h r less q =
        let p = loops.not_below repeat.acts_at 0 e.next h r q in
        let a = p.2 in
        let b = p.3 in
        let same : slice_index e.next h ≡ slice_index e.next p.0 = ap (slice_index e.next) (a ∙ from_zero p.0) in
        omega (arith, less, b, same)

    pub begun_still : (v : Hosts) (turn : ℕ) → Still hosts t inputs proto clear k.known k.kept e.next v (turn_begun registers turn v)
    begun_still v turn h r less = theory.begun_keeps v registers turn h r (fresh_ones h r less)

    pub loop_at : (u : Hosts) (turn : ℕ) → Loop repeat.acts_at inner (turn_begun registers turn u) turn
    loop_at u turn h less there keep =
        let within : h < length e.next = subst (λ z. h < z) (sym ties.ready.known) less in
        (theory.begun_sets u registers turn h (slice_index e.next h) (loops.has_register repeat.acts_at e.next h within there), loops.register_taken repeat.acts_at e.next h within there)

    -- where a loop stands before a turn
    pub record Turned (turn : ℕ) (v : Hosts) : Type 0 where
      pub words : List ℕ
      pub after : SlotState
      pub runs : (more : List ℕ) → turns turn (run_of k body) (given c (words ++ more)) ≡ given after more
      pub holds : Right' o e.held v after
      pub kept : (h r : ℕ) → r < slice_index e.next h → Last o e.held h r → (v h).registers r ≡ (w h).registers r

    pub all_turned : (turn : ℕ) → turn ≤ 2 ^ 32 → (v : Hosts) → RunsTurns turn (λ i u u'. Run body inner (turn_begun registers i u) u') w v → Turned turn v
    all_turned zero small v run = record {
      words = [];
      after = c;
      runs = λ more. refl;
      holds = subst (λ (z : Hosts). Right' o e.held z c) (sym run) trust;
      kept = λ h r less last. ap (λ (z : Hosts). (z h).registers r) run;
    }
    all_turned (suc turn) small v run =
        let u = run.0 in
        let before = all_turned turn (omega (arith, small)) u run.1.0 in
        let at = loops.all_turns (machine t inputs) (suite t inputs hosts) proto theory declared o (sees body o).after repeat (effect_of body) (length (slots body)) count (turns_at (machine t inputs) (suite t inputs hosts) proto body) comes
        (turns_act (machine t inputs) (suite t inputs hosts) proto theory declared body) e w0 c0 is ties turn (omega (arith, small)) in
        let begins = loops.begins (machine t inputs) (suite t inputs hosts) proto theory declared o (sees body o).after repeat (effect_of body) (length (slots body)) count (turns_at (machine t inputs) (suite t inputs hosts) proto body) comes
        (turns_act (machine t inputs) (suite t inputs hosts) proto theory declared body) e w0 c0 is ties turn (omega (arith, small)) at in
        let turning = loops.turning (machine t inputs) (suite t inputs hosts) proto theory declared o (sees body o).after repeat (effect_of body) (length (slots body)) count (turns_at (machine t inputs) (suite t inputs hosts) proto body) comes
        (turns_act (machine t inputs) (suite t inputs hosts) proto theory declared body) e w0 c0 is ties turn at in
        let a0 = comes inner _ _ turn repeat.acts_at is (turns_act (machine t inputs) (suite t inputs hosts) proto theory declared body) (omega (arith, small)) begins turning in
        let begun = turn_begun registers turn u in
        let right : Right' o inner.held begun before.after =
        trust_on hosts t inputs proto clear k.known k.kept o e.next e.held w0 c0 ties u begun before.after (begun_still u turn)
        (record { printed = before.holds.outer.printed; waiting = before.holds.outer.waiting; words = before.holds.outer.words; known = before.holds.outer.known }) before.holds
        in
        let a = goes o count row seen fits placed low flow inner _ _ turn repeat.acts_at is (turns_act (machine t inputs) (suite t inputs hosts) proto theory declared body) (omega (arith, small)) begins turning begun v before.after right (loop_at u turn) run.1.1 in
        record {
          words = before.words ++ a.words;
          after = a.after;
          runs = λ more. ap (λ (l : List ℕ). run_of k body turn (turns turn (run_of k body) (given c l))) (append_assoc before.words a.words more) ∙ ap (run_of k body turn) (before.runs (a.words ++ more)) ∙ a.runs more;
          holds = trust_back hosts t inputs proto clear k.known k.kept o (sees body o).after e.held made.state.held a0.more v a.after ties.made a0.seen a0.held a.trust;
          kept = λ h r less last. a.kept h r (further h r less) last ∙ begun_still u turn h r less ∙ before.kept h r less last;
        }
      where
        further : (h r : ℕ) → r < slice_index e.next h → r < slice_index inner.next h
        further h r less = let le = loops.after_longer repeat.acts_at 0 e.next h in omega (arith, less, le)

    pub loop_leads : (turns : ℕ) → turns ≤ 2 ^ 32 → (turn : ℕ) (v : Hosts) → RunsTurns turns (λ i u u'. Run body inner (turn_begun registers i u) u') w v
        → Goes o o e.next e.held made.state.held (given_step k.given.endorsed (Stmt-F.For turns (each (given_step k.given.endorsed) body))) turn w v c
    loop_leads turns small turn v run =
        let a = all_turned turns small v run in
        let whole = after_loop turns small in
        record {
          words = a.words;
          after = a.after;
          runs = a.runs;
          trust = subst (λ (l : List Parts). Right' o l v a.after) (sym whole.held) (trust_held hosts t inputs proto clear k.known k.kept o e.held whole.more v a.after ties.made a.holds);
          kept = a.kept;
        }

  -- ---- all statements
  pub block_leads : (b : Block) → BlockLeads b
  block_leads End o count row all fits placed low flow e w0 c0 turn has is needs small ties ts w w' c trust loop run = record {
    words = [];
    after = c;
    runs = λ more. refl;
    trust = subst (λ (z : Hosts). Right' o e.held z c) (sym run) trust;
    kept = λ h r less last. ap (λ (z : Hosts). (z h).registers r) run;
  }
  block_leads (Let x right rest) o count row all fits placed low flow e w0 c0 turn has is needs small ties ts w w' c trust loop run =
      let lows = and_parts (is_below n x && right_below n right) _ low in
      let flow' = and_parts (right_flows k x right) (flows k rest) flow in
      let reach = λ (i : right ≡ Turn) (g : ℕ) (p : is_holder (proto x.0) (host g) ≡ true). needs g (turn_here (machine t inputs) (suite t inputs hosts) proto theory declared x right rest g i p) in
      let a0 = let_after (machine t inputs) (suite t inputs hosts) proto theory declared o e w0 c0 turn has x right ties (row.0 ∙ sym is) (and_left _ _ all) fits.0 placed.0 small reach ts in
      let step = let_step o e w0 c0 turn has x right ties (row.0 ∙ sym is) (and_left _ _ all) fits.0 placed.0 small reach flow'.0 w run.0 c trust loop run.1.0 run.1.1.0 in
      and_rest rest (block_leads rest) o (with_use Binding x.0 o) e _ 1 count w0 c0 _ turn has is row.1 (and_right _ _ all) fits.1 placed.1 lows.1 flow'.1
      (λ g p. needs g (turn_later (machine t inputs) (suite t inputs hosts) proto theory declared x right rest g p)) small ties ts a0 (bound k.given.endorsed x right) w run.0 w' c step loop run.1.1.1
  block_leads (NewVar v y rest) o count row all fits placed low flow e w0 c0 turn has is needs small ties ts w w' c trust loop run =
      let lows = and_parts (is_below n v && is_below n y) _ low in
      let flow' = and_parts (only_with (k.kept v.0) (k.kept y.0)) (flows k rest) flow in
      let a0 = var_after (machine t inputs) (suite t inputs hosts) proto theory declared o e w0 c0 v y ties (row.0 ∙ sym is) (and_left _ _ all) placed.0 placed.1 in
      let step = var_leads hosts t deal inputs dealt proto clear declared k declassified stays heard o e w0 c0 ties turn has w c trust v y (row.0 ∙ sym is) (and_left _ _ all) placed.1 flow'.0 run.0 run.1.0 in
      and_rest rest (block_leads rest) o (with_use Variable v.0 o) e _ 1 count w0 c0 _ turn has is row.1 (and_right _ _ all) fits placed.2 lows.1 flow'.1 needs small ties ts a0
      (given_step k.given.endorsed (Stmt-F.NewVar v y)) w run.0 w' c step loop run.1.1
  block_leads (NewArray v size rest) o count row all fits placed low flow e w0 c0 turn has is needs small ties ts w w' c trust loop run =
      let lows = and_parts (is_below n v) _ low in
      let a0 = array_after (machine t inputs) (suite t inputs hosts) proto theory declared o e w0 c0 v size ties (row.0 ∙ sym is) placed.0 in
      let step = array_leads hosts t deal inputs dealt proto clear declared k declassified stays heard o e w0 c0 ties turn w c trust v size (row.0 ∙ sym is) run.0 run.1.0 in
      and_rest rest (block_leads rest) o (with_use Array v.0 o) e _ 1 count w0 c0 _ turn has is row.1 all fits placed.1 lows.1 flow needs small ties ts a0
      (given_step k.given.endorsed (Stmt-F.NewArray v size)) w run.0 w' c step loop run.1.1
  block_leads (Store v y rest) o count row all fits placed low flow e w0 c0 turn has is needs small ties ts w w' c trust loop run =
      let here = and_left _ _ all in
      let lows = and_parts (is_below n v && is_below n y) _ low in
      let flow' = and_parts (only_with (k.kept v.0) (k.kept y.0)) (flows k rest) flow in
      let a0 = store_after (machine t inputs) (suite t inputs hosts) proto theory declared o e w0 c0 v y ties (and_left _ _ here) (and_right _ _ here) placed.0 placed.1 in
      let step = store_leads hosts t deal inputs dealt proto clear declared k declassified stays heard o e w0 c0 ties turn has w c trust v y (and_left _ _ here) (and_right _ _ here) placed.1 flow'.0 run.0 run.1.0 in
      and_rest rest (block_leads rest) o o e _ 0 count w0 c0 _ turn has is (no_slots (machine t inputs) (suite t inputs hosts) proto theory declared count _ row) (and_right _ _ all) fits placed.2 lows.1 flow'.1 needs small ties ts a0
      (given_step k.given.endorsed (Stmt-F.Store v y)) w run.0 w' c step loop run.1.1
  block_leads (Put v i y rest) o count row all fits placed low flow e w0 c0 turn has is needs small ties ts w w' c trust loop run =
      let here = and_left _ _ all in
      let sees_v = and_left _ _ (and_left _ _ here) in
      let sees_i = and_right _ _ (and_left _ _ here) in
      let sees_y = and_right _ _ here in
      let lows = and_parts (is_below n v && is_below n i && is_below n y) _ low in
      let flow' = and_parts (only_with (k.kept v.0) (k.kept i.0 && k.kept y.0)) (flows k rest) flow in
      let a0 = put_after (machine t inputs) (suite t inputs hosts) proto theory declared o e w0 c0 v i y ties sees_v sees_i sees_y placed.0 placed.1 placed.2 in
      let array = part_of hosts t inputs proto clear e.held v.0 in
      let index = delivered (suite_calls hosts) proto (proto i.0) (part_of hosts t inputs proto clear e.held i.0) (holders_among (suite_calls hosts) (proto v.0)) e.next in
      let moved = (suite_calls hosts).move (proto y.0) (proto v.0) (part_of hosts t inputs proto clear e.held y.0) index.next in
      let last = gadgets_parts k.known t (index.acts ++ moved.acts) ((suite_calls hosts).put (proto v.0) array index.given moved.given) w run.0 run.1.0 in
      let first = gadgets_parts k.known t index.acts moved.acts w last.0 last.1.0 in
      let step = put_leads hosts t deal inputs dealt proto clear declared k declassified stays heard o e w0 c0 ties turn w c trust v i sees_i sees_v placed.2 first.0 first.1.0 y sees_y placed.1 flow'.0 last.0 run.0 first.1.1 last.1.1 in
      and_rest rest (block_leads rest) o o e _ 0 count w0 c0 _ turn has is (no_slots (machine t inputs) (suite t inputs hosts) proto theory declared count _ row) (and_right _ _ all) fits placed.3 lows.1 flow'.1 needs small ties ts a0
      (given_step k.given.endorsed (Stmt-F.Put v i y)) w run.0 w' c step loop run.1.1
  block_leads (Output y g offset rest) o count row all fits placed low flow e w0 c0 turn has is needs small ties ts w w' c trust loop run =
      let lows = and_parts (is_below n y) _ low in
      let flow' = and_parts (only_with (k.heard g.0) (k.kept y.0)) (flows k rest) flow in
      let a0 = output_after (machine t inputs) (suite t inputs hosts) proto theory declared o e w0 c0 y g ties (and_left _ _ all) fits.0 placed.0 in
      let step = output_leads hosts t deal inputs dealt proto clear declared k declassified stays heard o e w0 c0 ties turn has w c trust y g offset (and_left _ _ all) fits.0 (theory.local_is_declared g fits.0) placed.0 flow'.0 run.0 run.1.0 in
      and_rest rest (block_leads rest) o o e _ 0 count w0 c0 _ turn has is (no_slots (machine t inputs) (suite t inputs hosts) proto theory declared count _ row) (and_right _ _ all) fits.1 placed.1 lows.1 flow'.1 needs small ties ts a0
      (given_step k.given.endorsed (Stmt-F.Output y g offset)) w run.0 w' c step loop run.1.1
  block_leads (If x tb eb offset rest) o count row all fits placed low flow e w0 c0 turn has is needs small ties ts w w' c trust loop run =
      let here = and_left _ _ all in
      let row1 = row_front count (slots tb ++ slots eb) (slots rest) row in
      let row2 = row_back count (slots tb ++ slots eb) (slots rest) row in
      let low_if = and_left _ _ low in
      let low1 = and_right _ _ (and_left _ _ low_if) in
      let low2 = and_right _ _ low_if in
      let flow' = and_parts (if k.kept x.0 then flows k tb && flows k eb else hides k tb && hides k eb) (flows k rest) flow in
      let covers1 = λ (g : ℕ) (p : turns_at (machine t inputs) (suite t inputs hosts) proto tb g ≡ true). needs g (or_left _ _ (or_left _ _ p)) in
      let covers2 = λ (g : ℕ) (p : turns_at (machine t inputs) (suite t inputs hosts) proto eb g ≡ true). needs g (or_left _ _ (or_right _ _ p)) in
      let front = row_front count (slots tb) (slots eb) row1 in
      let back = row_back count (slots tb) (slots eb) row1 in
      let u = run.0 in
      let v = run.1.1.1.1.0 in
      let a0 = after_branch tb eb (block_leads tb) (block_leads eb) x offset o count front back (and_left _ _ (and_left _ _ here)) (and_right _ _ (and_left _ _ here)) (and_right _ _ here) fits.0 fits.1 placed.1 placed.2 low1 low2 placed.0 flow'.0
      e w0 c0 turn has is covers1 covers2 small ties ts w u v c trust loop in
      let step = branch_leads tb eb (block_leads tb) (block_leads eb) x offset o count front back (and_left _ _ (and_left _ _ here)) (and_right _ _ (and_left _ _ here)) (and_right _ _ here) fits.0 fits.1 placed.1 placed.2 low1 low2 placed.0 flow'.0
      e w0 c0 turn has is covers1 covers2 small ties ts w u v c trust loop run.1.0 run.1.1.0 run.1.1.1.0 run.1.1.1.1.1.0 in
      and_rest rest (block_leads rest) o o e _ (length (slots tb) + length (slots eb)) count w0 c0 _ turn has is (subst (λ z. InRow (count + z) (slots rest)) (length-append (slots tb) (slots eb)) row2) (and_right _ _ all) fits.2 placed.3 (and_right _ _ low) flow'.1
      (λ g p. needs g (or_right _ _ p)) small ties ts a0 (given_step k.given.endorsed (Stmt-F.If x (each (given_step k.given.endorsed) tb) (each (given_step k.given.endorsed) eb) offset)) w v w' c step loop run.1.1.1.1.1.1
  block_leads (For turns body rest) o count row all fits placed low flow e w0 c0 turn has is needs small ties ts w w' c trust loop run =
      let row1 = row_front count (slots body) (slots rest) row in
      let row2 = row_back count (slots body) (slots rest) row in
      let lows = and_parts (low_block hosts t deal inputs dealt proto clear declared k declassified stays n body) _ low in
      let flow' = and_parts (flows k body) (flows k rest) flow in
      let a0 = after_loop body (block_leads body) o count row1 (and_left _ _ all) fits.1 placed.0 lows.0 flow'.0 e w0 c0 is ties w c trust turns fits.0 in
      let step = loop_leads body (block_leads body) o count row1 (and_left _ _ all) fits.1 placed.0 lows.0 flow'.0 e w0 c0 is ties w c trust turns fits.0 turn run.0 run.1.0 in
      and_rest rest (block_leads rest) o o e _ (length (slots body)) count w0 c0 _ turn has is row2 (and_right _ _ all) fits.2 placed.1 lows.1 flow'.1 needs small ties ts a0
      (given_step k.given.endorsed (Stmt-F.For turns (each (given_step k.given.endorsed) body))) w run.0 w' c step loop run.1.1
