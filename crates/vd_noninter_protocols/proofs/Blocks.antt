-- What comes to a host in the joint run of a block is what it hears of in the clear.
use Rattle.std.proofs.Common.{◌≡◌, ℕ, zero, suc, ◌+◌, ◌^◌, ◌<◌, ◌≤◌, nat_eq, ◌&&◌, ◌||◌, Bool, true, false, if◌then◌else◌, List, [], ◌∷◌, ◌++◌, length, map, slice_index, refl, sym, ap, ap₂, subst, ◌∙◌, arith, append-nil, length-append}
use Rattle.std.specs.List.{list_all}
use Rattle.vd_base.specs.declared.ids.HostId.{HostId}
use Rattle.vd_base.specs.declared.ids.SlotId.{SlotId}
use Rattle.vd_base.specs.declared.protocols.Proto.{Proto}
use Rattle.vd_base.specs.HostSets.{host, same_host}
use Rattle.vd_base.specs.Holders.{is_holder, proto_in}
use Rattle.vd_core.specs.declared.normal.Right.TheVariants.{Turn}
use Rattle.vd_core.specs.Facts.{Sight}
use Rattle.vd_constraints.specs.declared.labels.Labels.{Labels}
use Rattle.vd_constraints.specs.Scoped.{stmt_below}
use Rattle.vd_semantics.specs.Turns.{turns}
use Rattle.vd_semantics.specs.ProgramMeaning.{SlotState, Effect, word_at, in_order, stmt_effect}
use Rattle.vd_split.specs.Block.{Block, End, Let, NewVar, NewArray, Store, Put, Output, If, For, each}
use Rattle.vd_split.specs.Joint.{Hosts, run_acts, Each, branch, choice, joint}
use Rattle.vd_split.specs.Suite.{picked, Made, Suite, Laws, holders_among}
use Rattle.vd_split.specs.Emission.{Emitted, Emission, delivered, if_made, for_made, loop_registers, after_loop_registers}
use Rattle.vd_split.specs.Validity.{Fits, emission_of, turns_at, Placed, Reaches}
use Rattle.vd_split.proofs.Front.{and_left, and_right, or_left, or_right, or_none_left, or_none_right, InRow, row_front, row_back, Binding, Variable, Array, Sees, with_use, part, Tied, tied_past, moved, operand_of, index_reached, Reached, picked_join, E, Ties, TurnsIn, After, turns_past, let_after, var_after, array_after, store_after, put_after, output_after, slots, sees, effect_of, emits, turn_here, turn_later, turns_act, no_slots, both_idle, means}
use Rattle.vd_split.proofs.Front as loops
use Rattle.vd_noninter_protocols.specs.Hearing.{Heard, run_of, word_if, comes, comes_alone, is_part, heard_in_order, heard_in_turns, heard_step}
use Rattle.vd_noninter_protocols.specs.Telling.{in_turns, given_word, delivered_told, told}
use Rattle.vd_noninter_protocols.proofs.Hosts.{comes_clear, picked_once}
use Rattle.vd_noninter_protocols.proofs.Takers.{runs_each, part_is}
use Rattle.vd_noninter_protocols.proofs.Moved.{HasInClear, given_is, delivered_is, index_is, right_is}

module _ (m : Hosts) (s : Suite m) (protocols : List Proto) (h : HostId) (l : Labels) (laws : Laws m s) (declared : (x : ℕ) → s.Declared (proto_in protocols x)) (clear : HasInClear m s h) (known : h.0 < s.calls.hosts) where
  abbrev pub proto : ℕ → Proto
  proto = proto_in protocols

  abbrev pub heards : Block → List Heard
  heards b = each (heard_step protocols h l) b

  abbrev pub low_block : Block → Bool
  low_block b = list_all (λ x. x) (each (stmt_below (length protocols)) b)

  -- ---- where nobody takes part

  abbrev Nobody : Block → Type 0
  Nobody b = (k : ℕ) → k < s.calls.hosts → (emits m s proto laws declared b).takes_part k ≡ false

  somebody : (x : ℕ) → ((k : ℕ) → k < s.calls.hosts → is_holder (proto x) (host k) ≡ false) → ⊥
  somebody x none =
      let p = laws.somewhere (proto x) (declared x) in
      opposite (is_holder (proto x) (host p.0)) p.2 (none p.0 p.1)
    where
      opposite : (b : Bool) → b ≡ true → b ≡ false → ⊥
      opposite true e f = cc
      opposite false e f = cc

  silent_turns : (b : Block) (n : ℕ) (c : SlotState) → ((turn : ℕ) (c : SlotState) → heard_in_order (heards b) turn c ≡ []) → heard_in_turns n (heards b) c ≡ []
  silent_turns b zero c none = refl
  silent_turns b (suc n) c none =
      ap₂ (λ (p q : List ℕ). p ++ q) (silent_turns b n c none) (none n (turns n (in_order (map run_of (heards b))) c))

  -- nothing is heard of there
  silent : (b : Block) → Nobody b → (turn : ℕ) (c : SlotState) → heard_in_order (heards b) turn c ≡ []
  silent End none turn c = refl
  silent (Let x right rest) none turn c = absurd (somebody x.0 (λ k lt. or_none_left _ _ (or_none_left _ _ (none k lt))))
  silent (NewVar v x rest) none turn c = absurd (somebody v.0 (λ k lt. or_none_left _ _ (or_none_left _ _ (none k lt))))
  silent (NewArray v size rest) none turn c = absurd (somebody v.0 (λ k lt. or_none_left _ _ (none k lt)))
  silent (Store v x rest) none turn c = absurd (somebody v.0 (λ k lt. or_none_left _ _ (or_none_left _ _ (none k lt))))
  silent (Put v i x rest) none turn c = absurd (somebody v.0 (λ k lt. or_none_left _ _ (or_none_left _ _ (or_none_left _ _ (none k lt)))))
  silent (Output x k offset rest) none turn c = absurd (somebody x.0 (λ k lt. or_none_right _ _ (or_none_left _ _ (none k lt))))
  silent (If x t e offset rest) none turn c = absurd (somebody x.0 (λ k lt. or_none_left _ _ (or_none_left _ _ (or_none_left _ _ (none k lt)))))
  silent (For count body rest) none turn c =
      ap₂ (λ (p q : List ℕ). p ++ q) (silent_turns body count c (silent body (λ k lt. or_none_left _ _ (none k lt))))
      (silent rest (λ k lt. or_none_right _ _ (none k lt)) turn (turns count (in_order (map run_of (heards body))) c))

  -- ---- one statement, and then the rest

  abbrev pub Tells : Block → Type 0
  Tells b =
      (o : Sight) (k : ℕ) → InRow k (slots b) → (sees b o).all ≡ true → Fits s.calls.hosts b → Placed m s proto b → low_block b ≡ true
      → (e : E m s proto) (w : m.World) (c : SlotState) (turn : ℕ) (has : ℕ → Bool) → length e.held ≡ k → ((g : ℕ) → turns_at m s proto b g ≡ true → has g ≡ true) → turn < 2 ^ 32
      → Ties m s proto o e w c → TurnsIn m s proto has o e w turn → told m s.calls protocols h b e w ≡ heard_in_order (heards b) turn c

  and_rest : (rest : Block) → Tells rest → (o o1 : Sight) (e : E m s proto) (one : Emitted s.calls proto) (n k : ℕ) (w : m.World) (c c1 : SlotState) (turn : ℕ) (has : ℕ → Bool) → length e.held ≡ k
      → InRow (k + n) (slots rest) → (sees rest o1).all ≡ true → Fits s.calls.hosts rest → Placed m s proto rest → low_block rest ≡ true → ((g : ℕ) → turns_at m s proto rest g ≡ true → has g ≡ true) → turn < 2 ^ 32
      → Ties m s proto o e w c → TurnsIn m s proto has o e w turn → After m s proto o o1 e one n w c1
      → told m s.calls protocols h rest one.state (joint m one.tree w) ≡ heard_in_order (heards rest) turn c1
  and_rest rest tells o o1 e one n k w c c1 turn has is row all fits placed low needs small t ts a =
      ap (λ (u : m.World). told m s.calls protocols h rest one.state u) a.runs
      ∙ tells o1 (k + n) row all fits placed low one.state a.reached c1 turn has (ap length a.held ∙ length-append e.held a.more ∙ sum is a.many) needs small a.tied (turns_past m s proto has turn o o1 e one n w c c1 t a ts)
    where
      sum : {i j : ℕ} → i ≡ k → j ≡ n → i + j ≡ k + n
      sum p q = omega arith

  -- a word is moved to where the slot x stands
  word_is : (o : Sight) (next : List ℕ) (held : List s.Parts) (w : m.World) (c : SlotState) → Tied m s proto o next held w c → (y x : SlotId) → Sees o Binding y.0 → s.joins (proto y.0) (proto x.0) ≡ true
      → word_if (comes protocols h y x) (given_word m s.calls h (s.calls.move (proto y.0) (proto x.0) (part m s proto held y.0) next) w) ≡ word_if (comes protocols h y x) (word_at c y)
  word_is o next held w c t y x sees_y joins =
      let one = s.calls.move (proto y.0) (proto x.0) (part m s proto held y.0) next in
      let g = moved m s proto laws declared o next held w c t y.0 sees_y (proto x.0) (declared x.0) joins in
      given_is m s protocols h laws declared clear (comes protocols h y x) (proto x.0) one w g.reached (word_at c y) (comes_clear protocols h y x) g.leads.runs g.stands

  -- ---- branches

  -- of a branch that is taken
  branch_is : (b : Bool) (v : ℕ) → nat_eq v 0 ≡ b → (next : List ℕ) (w : m.World) (given : List (ℕ × ℕ)) → Each (λ q. (m.word w q.0 q.1 ≡ v) × (q.1 < slice_index next q.0)) given → (first second words others : List ℕ)
      → (length given ≡ 0 → (words ≡ []) × (others ≡ [])) → first ≡ words → second ≡ others → branch m given w [] first second ≡ (if b then others else words)
  branch_is true v is next w [] there first second words others none p q = sym (none refl).1
  branch_is false v is next w [] there first second words others none p q = sym (none refl).0
  branch_is true v is next w (g ∷ given) there first second words others none p q = ap (λ z. choice z second first) (ap (λ z. nat_eq z 0) there.0.0 ∙ is) ∙ q
  branch_is false v is next w (g ∷ given) there first second words others none p q = ap (λ z. choice z second first) (ap (λ z. nat_eq z 0) there.0.0 ∙ is) ∙ p

  taken_is : (b : Bool) (ts es : List Heard) (turn : ℕ) (c : SlotState) → (if b then heard_in_order es turn c else heard_in_order ts turn c) ≡ heard_in_order (if b then es else ts) turn c
  taken_is true ts es turn c = refl
  taken_is false ts es turn c = refl

  no_hosts : (xs : List (ℕ × ℕ)) (hs : List HostId) → map (λ q. q.0) xs ≡ map (λ k. k.0) hs → length xs ≡ 0 → length hs ≡ 0
  no_hosts [] [] e z = refl
  no_hosts [] (k ∷ hs) e z = cc
  no_hosts (x ∷ xs) hs e z = absurd (omega arith)

  module _ (tb eb : Block) (tells1 : Tells tb) (tells2 : Tells eb) (x : SlotId) (o : Sight) (k : ℕ) (row1 : InRow k (slots tb)) (row2 : InRow (k + length (slots tb)) (slots eb)) (sees_x : Sees o Binding x.0)
      (seen1 : (sees tb o).all ≡ true) (seen2 : (sees eb o).all ≡ true) (fits1 : Fits s.calls.hosts tb) (fits2 : Fits s.calls.hosts eb) (placed1 : Placed m s proto tb) (placed2 : Placed m s proto eb)
      (low1 : low_block tb ≡ true) (low2 : low_block eb ≡ true) (reaches : Reaches m s proto x (λ g. (emission_of m s proto tb).takes_part g || (emission_of m s proto eb).takes_part g))
      (e : E m s proto) (w : m.World) (c : SlotState) (turn : ℕ) (has : ℕ → Bool) (is : length e.held ≡ k) (covers1 : (g : ℕ) → turns_at m s proto tb g ≡ true → has g ≡ true) (covers2 : (g : ℕ) → turns_at m s proto eb g ≡ true → has g ≡ true)
      (small : turn < 2 ^ 32) (t : Ties m s proto o e w c) (ts : TurnsIn m s proto has o e w turn) where
    abbrev test : ℕ → Bool
    test g = (emission_of m s proto tb).takes_part g || (emission_of m s proto eb).takes_part g

    abbrev guard : Made m.Act (List (ℕ × ℕ))
    guard = delivered s.calls proto (proto x.0) (part m s proto e.held x.0) (picked 0 s.calls.hosts test) e.next

    comes1 : loops.Comes m s proto laws declared (emission_of m s proto tb) (effect_of tb) o (sees tb o).after (length (slots tb)) (turns_at m s proto tb) k
    comes1 = means m s proto laws declared tb o k row1 seen1 fits1 placed1

    comes2 : loops.Comes m s proto laws declared (emission_of m s proto eb) (effect_of eb) o (sees eb o).after (length (slots eb)) (turns_at m s proto eb) (k + length (slots tb))
    comes2 = means m s proto laws declared eb o (k + length (slots tb)) row2 seen2 fits2 placed2

    after_branch : After m s proto o o e (if_made s.calls proto x (emission_of m s proto tb) (emission_of m s proto eb) e) (length (slots tb) + length (slots eb)) w
        (in_order (if nat_eq (word_at c x) 0 then each stmt_effect eb else each stmt_effect tb) turn c)
    after_branch =
        loops.branch_after m s proto laws declared o (sees tb o).after (sees eb o).after (emission_of m s proto tb) (emission_of m s proto eb) (each stmt_effect tb) (each stmt_effect eb) (length (slots tb)) (length (slots eb)) k
        (turns_at m s proto tb) (turns_at m s proto eb) comes1 comes2 x sees_x reaches (both_idle m s proto laws declared tb eb) e w c turn has is covers1 covers2 small t ts

    abbrev given : Reached m s laws e.next w (picked 0 s.calls.hosts test) guard (word_at c x)
    given =
        loops.reached m s proto laws declared o (sees tb o).after (sees eb o).after (emission_of m s proto tb) (emission_of m s proto eb) (each stmt_effect tb) (each stmt_effect eb) (length (slots tb)) (length (slots eb)) k
        (turns_at m s proto tb) (turns_at m s proto eb) comes1 comes2 x sees_x reaches (both_idle m s proto laws declared tb eb) e w c turn has is covers1 covers2 small t ts

    within : {g : ℕ} → g < 0 + s.calls.hosts → g < s.calls.hosts
    within lt = omega arith

    beyond : {g : ℕ} → g < s.calls.hosts → g < 0 + s.calls.hosts
    beyond lt = omega arith

    -- the guard comes to the host where it takes part
    guard_is : delivered_told m s.calls protocols h x e (picked 0 s.calls.hosts test) e.next w ≡ word_if (is_part protocols h x (heards tb) (heards eb) && comes_alone protocols h x) (word_at c x)
    guard_is =
        delivered_is m s protocols h laws declared clear x e (word_at c x) (picked 0 s.calls.hosts test)
        (picked_join m s laws proto (proto x.0) test 0 s.calls.hosts (λ g lt i. reaches g (within lt) i) (omega arith)) e.next w t.ready (operand_of m s proto laws declared o e.next e.held w c t x.0 sees_x)
        ∙ picked_once h (comes_alone protocols h x) (word_at c x) test s.calls.hosts known
        ∙ ap (λ (b : Bool). word_if (b && comes_alone protocols h x) (word_at c x)) (sym (part_is protocols h l s.calls x tb eb low1 low2))

    nobody : length guard.given ≡ 0 → (g : ℕ) → g < s.calls.hosts → test g ≡ false
    nobody none g lt = loops.none_picked m s proto laws declared test 0 s.calls.hosts (no_hosts guard.given (picked 0 s.calls.hosts test) given.there.placed none) g (omega arith) (beyond lt)

    branches_are : delivered_told m s.calls protocols h x e (picked 0 s.calls.hosts test) e.next w
        ++ branch m guard.given (run_acts m guard.acts w) [] (told m s.calls protocols h tb (record { next = guard.next; held = e.held; loop = e.loop }) (run_acts m guard.acts w))
        (told m s.calls protocols h eb ((emission_of m s proto tb).emit (record { next = guard.next; held = e.held; loop = e.loop })).state (run_acts m guard.acts w))
        ≡ word_if (is_part protocols h x (heards tb) (heards eb) && comes_alone protocols h x) (word_at c x) ++ heard_in_order (if nat_eq (word_at c x) 0 then heards eb else heards tb) turn c
    branches_are =
        let start : E m s proto = record { next = guard.next; held = e.held; loop = e.loop } in
        let other : E m s proto = ((emission_of m s proto tb).emit start).state in
        let b = given.between in
        let begins = loops.begins_at m s proto laws declared o (sees tb o).after (sees eb o).after (emission_of m s proto tb) (emission_of m s proto eb) (each stmt_effect tb) (each stmt_effect eb) (length (slots tb)) (length (slots eb)) k
        (turns_at m s proto tb) (turns_at m s proto eb) comes1 comes2 x sees_x reaches (both_idle m s proto laws declared tb eb) e w c turn has is covers1 covers2 small t ts in
        ap₂ (λ (p q : List ℕ). p ++ q) guard_is
        (ap (λ (u : m.World). branch m guard.given u [] (told m s.calls protocols h tb start u) (told m s.calls protocols h eb other u)) b.leads.runs
        ∙ branch_is (nat_eq (word_at c x) 0) (word_at c x) refl guard.next b.reached guard.given given.there.words (told m s.calls protocols h tb start b.reached) (told m s.calls protocols h eb other b.reached)
        (heard_in_order (heards tb) turn c) (heard_in_order (heards eb) turn c)
        (λ z. (silent tb (λ g lt. or_none_left _ _ (nobody z g lt)) turn c, silent eb (λ g lt. or_none_right _ _ (nobody z g lt)) turn c))
        (tells1 o k row1 seen1 fits1 placed1 low1 start b.reached c turn has is covers1 small begins.0.0 begins.0.1)
        (tells2 o (k + length (slots tb)) row2 seen2 fits2 placed2 low2 other b.reached c turn has begins.1.2 covers2 small begins.1.0 begins.1.1)
        ∙ taken_is (nat_eq (word_at c x) 0) (heards tb) (heards eb) turn c)

  -- ---- loops

  module _ (body : Block) (tells1 : Tells body) (o : Sight) (k : ℕ) (row : InRow k (slots body)) (seen : (sees body o).all ≡ true) (fits : Fits s.calls.hosts body) (placed : Placed m s proto body) (low : low_block body ≡ true)
      (e : E m s proto) (w : m.World) (c : SlotState) (is : length e.held ≡ k) (t : Ties m s proto o e w c) where
    abbrev repeat : Emission s.calls proto
    repeat = emission_of m s proto body

    comes_body : loops.Comes m s proto laws declared (emission_of m s proto body) (effect_of body) o (sees body o).after (length (slots body)) (turns_at m s proto body) k
    comes_body = means m s proto laws declared body o k row seen fits placed

    abbrev inner : E m s proto
    inner = record { next = after_loop_registers repeat.acts_at 0 e.next; held = e.held; loop = e.next }

    abbrev registers : List (ℕ × ℕ)
    registers = loop_registers repeat.acts_at 0 e.next

    turns_are : (n : ℕ) → n ≤ 2 ^ 32
        → in_turns n (λ i. told m s.calls protocols h body inner (m.begun registers i (turns i (λ j v. joint m (repeat.emit inner).tree (m.begun registers j v)) w))) ≡ heard_in_turns n (heards body) c
    turns_are zero small = refl
    turns_are (suc n) small =
        let at = loops.all_turns m s proto laws declared o (sees body o).after repeat (effect_of body) (length (slots body)) k (turns_at m s proto body) comes_body (turns_act m s proto laws declared body) e w c is t n (omega arith) in
        let begins = loops.begins m s proto laws declared o (sees body o).after repeat (effect_of body) (length (slots body)) k (turns_at m s proto body) comes_body (turns_act m s proto laws declared body) e w c is t n (omega arith) at in
        let turning = loops.turning m s proto laws declared o (sees body o).after repeat (effect_of body) (length (slots body)) k (turns_at m s proto body) comes_body (turns_act m s proto laws declared body) e w c is t n at in
        ap₂ (λ (p q : List ℕ). p ++ q) (turns_are n (omega arith))
        (tells1 o k row seen fits placed low inner (m.begun registers n (turns n (λ j v. joint m (repeat.emit inner).tree (m.begun registers j v)) w)) (turns n (effect_of body) c) n repeat.acts_at is (turns_act m s proto laws declared body) (omega arith) begins turning
        ∙ ap (λ (fs : List Effect). heard_in_order (heards body) n (turns n (in_order fs) c)) (sym (runs_each protocols h l body)))

    after_loop : (count : ℕ) → count ≤ 2 ^ 32 → After m s proto o o e (for_made s.calls proto count (emission_of m s proto body) e) (length (slots body)) w (turns count (effect_of body) c)
    after_loop count small = loops.loop_after m s proto laws declared o (sees body o).after repeat (effect_of body) (length (slots body)) k (turns_at m s proto body) comes_body (turns_act m s proto laws declared body) e w c is t count small

    loop_is : (count : ℕ) → count ≤ 2 ^ 32
        → in_turns count (λ i. told m s.calls protocols h body inner (m.begun registers i (turns i (λ j v. joint m (repeat.emit inner).tree (m.begun registers j v)) w))) ≡ heard_in_turns count (heards body) c
    loop_is count small = turns_are count small

  -- ---- all statements

  pub all_told : (b : Block) → Tells b
  all_told End o k row all fits placed low e w c turn has is needs small t ts = refl
  all_told (Let x right rest) o k row all fits placed low e w c turn has is needs small t ts =
      let here = and_left _ _ low in
      let reach = λ (i : right ≡ Turn) (g : ℕ) (p : is_holder (proto x.0) (host g) ≡ true). needs g (turn_here m s proto laws declared x right rest g i p) in
      let a = let_after m s proto laws declared o e w c turn has x right t (row.0 ∙ sym is) (and_left _ _ all) fits.0 placed.0 small reach ts in
      ap₂ (λ (p q : List ℕ). p ++ q)
      (right_is m s protocols h laws declared clear known o e w c t turn has x right (and_left _ _ all) fits.0 placed.0 (and_right _ _ here) small reach ts)
      (and_rest rest (all_told rest) o (with_use Binding x.0 o) e _ 1 k w c _ turn has is row.1 (and_right _ _ all) fits.1 placed.1 (and_right _ _ low) (λ g p. needs g (turn_later m s proto laws declared x right rest g p)) small t ts a)
  all_told (NewVar v y rest) o k row all fits placed low e w c turn has is needs small t ts =
      let a = var_after m s proto laws declared o e w c v y t (row.0 ∙ sym is) (and_left _ _ all) placed.0 placed.1 in
      ap₂ (λ (p q : List ℕ). p ++ q)
      (word_is o e.next e.held w c t y v (and_left _ _ all) placed.1)
      (and_rest rest (all_told rest) o (with_use Variable v.0 o) e _ 1 k w c _ turn has is row.1 (and_right _ _ all) fits placed.2 (and_right _ _ low) needs small t ts a)
  all_told (NewArray v size rest) o k row all fits placed low e w c turn has is needs small t ts =
      let a = array_after m s proto laws declared o e w c v size t (row.0 ∙ sym is) placed.0 in
      and_rest rest (all_told rest) o (with_use Array v.0 o) e _ 1 k w c _ turn has is row.1 all fits placed.1 (and_right _ _ low) needs small t ts a
  all_told (Store v y rest) o k row all fits placed low e w c turn has is needs small t ts =
      let here = and_left _ _ all in
      let a = store_after m s proto laws declared o e w c v y t (and_left _ _ here) (and_right _ _ here) placed.0 placed.1 in
      ap₂ (λ (p q : List ℕ). p ++ q)
      (word_is o e.next e.held w c t y v (and_right _ _ here) placed.1)
      (and_rest rest (all_told rest) o o e _ 0 k w c _ turn has is (no_slots m s proto laws declared k _ row) (and_right _ _ all) fits placed.2 (and_right _ _ low) needs small t ts a)
  all_told (Put v i y rest) o k row all fits placed low e w c turn has is needs small t ts =
      let here = and_left _ _ all in
      let sees_i = and_right _ _ (and_left _ _ here) in
      let sees_y = and_right _ _ here in
      let a = put_after m s proto laws declared o e w c v i y t (and_left _ _ (and_left _ _ here)) sees_i sees_y placed.0 placed.1 placed.2 in
      let index = delivered s.calls proto (proto i.0) (part m s proto e.held i.0) (holders_among s.calls (proto v.0)) e.next in
      let b = (index_reached m s proto laws declared o e.next e.held w c t v i sees_i placed.2).between in
      let t1 = tied_past m s proto laws o e.next index.next e.held w b.reached c index.acts t b.leads b.quiet b.known b.longer in
      ap₂ (λ (p q : List ℕ). p ++ q)
      (ap₂ (λ (p q : List ℕ). p ++ q)
      (index_is m s protocols h laws declared clear known o e w c t v i (and_left _ _ (and_left _ _ (and_left _ _ low))) sees_i placed.2)
      (ap (λ (u : m.World). word_if (comes protocols h y v) (given_word m s.calls h (s.calls.move (proto y.0) (proto v.0) (part m s proto e.held y.0) index.next) u)) b.leads.runs
      ∙ word_is o index.next e.held b.reached c t1 y v sees_y placed.1))
      (and_rest rest (all_told rest) o o e _ 0 k w c _ turn has is (no_slots m s proto laws declared k _ row) (and_right _ _ all) fits placed.3 (and_right _ _ low) needs small t ts a)
  all_told (Output y g offset rest) o k row all fits placed low e w c turn has is needs small t ts =
      let a = output_after m s proto laws declared o e w c y g t (and_left _ _ all) fits.0 placed.0 in
      ap₂ (λ (p q : List ℕ). p ++ q)
      (delivered_is m s protocols h laws declared clear y e (word_at c y) (g ∷ []) ((fits.0, placed.0), tt) e.next w t.ready (operand_of m s proto laws declared o e.next e.held w c t y.0 (and_left _ _ all))
      ∙ append-nil (word_if (same_host h g && comes_alone protocols h y) (word_at c y)))
      (and_rest rest (all_told rest) o o e _ 0 k w c _ turn has is (no_slots m s proto laws declared k _ row) (and_right _ _ all) fits.1 placed.1 (and_right _ _ low) needs small t ts a)
  all_told (If x tb eb offset rest) o k row all fits placed low e w c turn has is needs small t ts =
      let here = and_left _ _ all in
      let row1 = row_front k (slots tb ++ slots eb) (slots rest) row in
      let row2 = row_back k (slots tb ++ slots eb) (slots rest) row in
      let low_if = and_left _ _ low in
      let low1 = and_right _ _ (and_left _ _ low_if) in
      let low2 = and_right _ _ low_if in
      let covers1 = λ (g : ℕ) (p : turns_at m s proto tb g ≡ true). needs g (or_left _ _ (or_left _ _ p)) in
      let covers2 = λ (g : ℕ) (p : turns_at m s proto eb g ≡ true). needs g (or_left _ _ (or_right _ _ p)) in
      let front = row_front k (slots tb) (slots eb) row1 in
      let back = row_back k (slots tb) (slots eb) row1 in
      let a = after_branch tb eb (all_told tb) (all_told eb) x o k front back (and_left _ _ (and_left _ _ here)) (and_right _ _ (and_left _ _ here)) (and_right _ _ here) fits.0 fits.1 placed.1 placed.2 low1 low2 placed.0 e w c turn has is covers1 covers2 small t ts in
      ap₂ (λ (p q : List ℕ). p ++ q)
      (branches_are tb eb (all_told tb) (all_told eb) x o k front back (and_left _ _ (and_left _ _ here)) (and_right _ _ (and_left _ _ here)) (and_right _ _ here) fits.0 fits.1 placed.1 placed.2 low1 low2 placed.0 e w c turn has is covers1 covers2 small t ts)
      (and_rest rest (all_told rest) o o e _ (length (slots tb) + length (slots eb)) k w c _ turn has is (subst (λ z. InRow (k + z) (slots rest)) (length-append (slots tb) (slots eb)) row2) (and_right _ _ all) fits.2 placed.3 (and_right _ _ low)
      (λ g p. needs g (or_right _ _ p)) small t ts a
      ∙ ap₂ (λ (gs fs : List Effect). heard_in_order (heards rest) turn (in_order (if nat_eq (word_at c x) 0 then fs else gs) turn c)) (sym (runs_each protocols h l tb)) (sym (runs_each protocols h l eb)))
  all_told (For count body rest) o k row all fits placed low e w c turn has is needs small t ts =
      let row1 = row_front k (slots body) (slots rest) row in
      let row2 = row_back k (slots body) (slots rest) row in
      let low1 = and_left (low_block body) (low_block rest) low in
      let a = after_loop body (all_told body) o k row1 (and_left _ _ all) fits.1 placed.0 low1 e w c is t count fits.0 in
      ap₂ (λ (p q : List ℕ). p ++ q)
      (loop_is body (all_told body) o k row1 (and_left _ _ all) fits.1 placed.0 low1 e w c is t count fits.0)
      (and_rest rest (all_told rest) o o e _ (length (slots body)) k w c _ turn has is row2 (and_right _ _ all) fits.2 placed.1 (and_right (low_block body) (low_block rest) low) needs small t ts a
      ∙ ap (λ (fs : List Effect). heard_in_order (heards rest) turn (turns count (in_order fs) c)) (sym (runs_each protocols h l body)))
