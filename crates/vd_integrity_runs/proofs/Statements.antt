-- Single statements keep the slots in trust right, whatever hosts that depart send.
use Rattle.std.proofs.Common.{◌≡◌, ℕ, suc, ◌+◌, ◌^◌, ◌<◌, Bool, true, false, if◌then◌else◌, List, [], ◌∷◌, ◌++◌, inl, inr, length, slice_index, slice_index_or, slice_set, refl, sym, ap, subst, ◌∙◌, arith, length-set}
use Rattle.std.proofs.lemmas.List.{get_or-set_same}
use native.Mathlib.Decide.{ℕ_discrete}
use Rattle.vd_base.specs.declared.ids.HostId.{HostId}
use Rattle.vd_base.specs.declared.ids.SlotId.{SlotId}
use Rattle.vd_base.specs.declared.protocols.Proto.{Proto}
use Rattle.vd_base.specs.declared.protocols.Proto.TheVariants.{Local}
use Rattle.vd_base.specs.HostSets.{host}
use Rattle.vd_base.specs.Holders.{holders, is_holder}
use Rattle.vd_core.specs.declared.normal.Right.{Right}
use Rattle.vd_core.specs.declared.normal.Right.TheVariants.{Lit, Turn, Copy, Apply, Input, Declassify, Endorse, Load, Get}
use Rattle.vd_core.specs.declared.normal.Stmt.TheOpen.{Stmt-F}
use Rattle.vd_core.specs.Facts.{Sight, right_sees}
use Rattle.vd_semantics.specs.World.{World, first_word, later_words, input_word, after_input, after_output}
use Rattle.vd_semantics.specs.ProgramMeaning.{SlotState, word_at, with_word, in_world, right_word, after_right}
use Rattle.vd_execution.specs.declared.instructions.Action.TheVariants as action
use Rattle.vd_execution.specs.declared.instructions.Reg.{Reg}
use Rattle.vd_execution.specs.Gadgets.{Gadget}
use Rattle.vd_execution.specs.Joint.{Host, Hosts, acted}
use Rattle.vd_execution.specs.Registers.{put, nth}
use Rattle.vd_execution.specs.Step.{Inputs}
use Rattle.vd_execution.specs.World.{Tape}
use Rattle.vd_execution.specs.Deals.{IsValidDeal}
use Rattle.vd_execution.proofs.Front.{put_other, put_same}
use Rattle.vd_duet.specs.Builder.{next_at}
use Rattle.vd_duet.specs.Calls.{Calls, Places, hosts_of, register_of}
use Rattle.vd_duet.specs.Laws.{AreKnown, IsHost, IsIn}
use Rattle.vd_clear.specs.Copies.{renewed}
use Rattle.vd_split.specs.Suite.{Made}
use Rattle.vd_split.specs.Emission.{Emitting, and_on, right_made}
use Rattle.vd_split.specs.Validity.{RightFits, RightPlaced}
use Rattle.vd_split.proofs.Front.{Use, Binding, Variable, Array, Sees, content, with_use, item_put, other_word, moved}
use Rattle.vd_backend_laws.specs.Parts.{Parts, back_end, suite_calls}
use Rattle.vd_backend_laws.specs.Suite.{IsOver, Names, suite, AreGiven}
use Rattle.vd_backend_laws.proofs.Front.{in_names}
use Rattle.vd_noninter.specs.Flowing.{Knowledge, only_with, right_flows}
use Rattle.vd_noninter.proofs.Front.{only, item_set_other, later_at}
use Rattle.vd_integrity_runs.specs.Departing.{AreRight, RunsGadgets}
use Rattle.vd_integrity_runs.specs.Copies.{IsInClear, IsOperand}
use Rattle.vd_integrity_runs.proofs.Shown.{below_later}
use Rattle.vd_integrity_runs.proofs.Steps.{gadgets_parts}
use Rattle.vd_integrity_runs.specs.Endorsed.{Given, Doing, bound, given_step, is_given}
use Rattle.vd_integrity_runs.specs.Runs.{IsOneWord}
use Rattle.vd_integrity_runs.proofs.Touching.{AllTouch, IsFramed, runs_framed}
use Rattle.vd_integrity_runs.proofs.Fresh.{Free, IsFresh, fresh_on, keep_fresh, moved_fresh, moved_hosts}
use Rattle.vd_integrity_runs.proofs.Calls.{IsKeptAt, back_is, keep_right, renew_right, right_register, still_of}
use Rattle.vd_integrity_runs.proofs.Relation.{Ties, Lasting, IsRightIn, IsSmall, Outer, Still, content_stays, part_of, placed, quiet_outer, sized, trust_more, trust_written, word_below}
use Rattle.vd_integrity_runs.proofs.Rights.{IsCalm, LoopIsRight, Trust, from_gives, known_at, laws, one_moved, right_fresh, right_right, right_small}

abbrev pub given : SlotState → List ℕ → Given
given c left = record { state = c; left = left }

-- what is the same of one host is the same of all
same_of : {A : Type 0} (w : Hosts) (h : ℕ) (new : Host) (k : ℕ) (f : Host → A) → f new ≡ f (w h) → f (put w h new k) ≡ f (w k)
same_of w h new k f e =
    elim (ℕ_discrete k h) [
      | yes i ↦ let P : ℕ → Type 0 = λ z. f (put w h new z) ≡ f (w z) in subst P (sym i) (ap f (put_same w h new) ∙ e)
      | no d ↦ ap f (put_other w h new k d)
    ]

first_at : (l : List ℕ) → first_word l ≡ slice_index l 0
first_at [] = refl
first_at (x ∷ xs) = refl

none_more : (n : ℕ) → n ≡ n + 0
none_more n = omega arith

one_on : (n i : ℕ) → suc n + i ≡ n + suc i
one_on n i = omega arith

later_word_at : (l : List ℕ) (i : ℕ) → slice_index (later_words l) i ≡ slice_index l (suc i)
later_word_at [] i = refl
later_word_at (x ∷ xs) i = refl

told_at : (l : List (List ℕ)) (h v : ℕ) → h < length l → slice_index_or (slice_set l h (slice_index_or l h [] ++ v ∷ [])) h [] ≡ slice_index_or l h [] ++ v ∷ []
told_at l h v lt = get_or-set_same l h _ [] lt

calm_world : (right : Right) → IsCalm right → (o : World) → after_right right o ≡ o
calm_world (Lit n) calm o = refl
calm_world Turn calm o = refl
calm_world (Copy y) calm o = refl
calm_world (Apply op ys) calm o = refl
calm_world (Input h) calm o = absurd calm
calm_world (Declassify y to) calm o = refl
calm_world (Endorse y to) calm o = refl
calm_world (Load v) calm o = refl
calm_world (Get v i) calm o = absurd calm

module _ (hosts : ℕ) (t : Tape) (deal : IsValidDeal t) (inputs : ℕ → List ℕ) (dealt : AreGiven inputs t) (proto : ℕ → Proto) (clear : (x : ℕ) → IsInClear (proto x)) (declared : (x : ℕ) → IsOver hosts (proto x))
    (k : Knowledge) (declassified : (x y : ℕ) → k.given.declassified x y ≡ false) (stays : (x : ℕ) → k.kept x ≡ true → IsKeptAt k.known (proto x)) (heard : (h : ℕ) → k.known h ≡ true → k.heard h ≡ true) where
  abbrev pub Em : Type 0
  Em = Emitting (suite_calls hosts) proto

  abbrev pub Right' : Sight → List Parts → Hosts → SlotState → Type 0
  Right' o held w c = Trust hosts t deal inputs dealt proto clear declared k declassified stays o held w c

  -- A statement leads to a state in which the slots in trust are right again. Some words that it endorses explain it.
  pub record Leads (o o' : Sight) (next : List ℕ) (held held' : List Parts) (does : Doing) (turn : ℕ) (w u : Hosts) (c : SlotState) : Type 0 where
    pub words : List ℕ
    pub after : SlotState
    pub runs : (more : List ℕ) → does turn (given c (words ++ more)) ≡ given after more
    pub trust : Right' o' held' u after
    pub kept : (h r : ℕ) → r < slice_index next h → Lasting hosts t inputs proto clear o held h r → (u h).registers r ≡ (w h).registers r

  module _ (o : Sight) (e : Em) (w0 : Hosts) (c0 : SlotState) (ties : Ties hosts t inputs proto clear o e.next e.held w0 c0) (turn : ℕ) (has : ℕ → Bool) (w : Hosts) (c : SlotState) (trust : Right' o e.held w c) where
    abbrev Loop : Type 0
    Loop = LoopIsRight hosts t deal inputs dealt proto clear declared k declassified stays o e w0 c0 ties turn has w c trust

    -- ---- bindings
    bound_to : (x : SlotId) (right : Right) (words : List ℕ) (word : ℕ) (b : Bool) → IsCalm right → is_given k.given.endorsed x right ≡ b
        → ((more : List ℕ) → (if b then first_word (words ++ more) else right_word right turn c) ≡ word) → ((more : List ℕ) → (if b then later_words (words ++ more) else words ++ more) ≡ more)
        → (more : List ℕ) → bound k.given.endorsed x right turn (given c (words ++ more)) ≡ given (with_word x word c) more
    bound_to x right words word b calm is first later more =
        ap (λ (z : Bool). given (with_word x (if z then first_word (words ++ more) else right_word right turn c) (in_world (after_right right c.world) c)) (if z then later_words (words ++ more) else words ++ more)) is
        ∙ ap (λ (z : World). given (with_word x (if b then first_word (words ++ more) else right_word right turn c) (in_world z c)) (if b then later_words (words ++ more) else words ++ more)) (calm_world right calm c.world)
        ∙ ap (λ (z : ℕ). given (with_word x z c) (if b then later_words (words ++ more) else words ++ more)) (first more)
        ∙ ap (λ (l : List ℕ). given (with_word x word c) l) (later more)

    module _ (x : SlotId) (right : Right) (calm : IsCalm right) (is : x.0 ≡ length e.held) (sees : right_sees right o ≡ true) (fits : RightFits hosts right) (placed : RightPlaced _ (suite t inputs hosts) proto (proto x.0) right) (small : turn < 2 ^ 32)
        (reach : right ≡ Turn → (h : ℕ) → is_holder (proto x.0) (host h) ≡ true → has h ≡ true) (loop : Loop) (flows : right_flows k x right ≡ true) (u : Hosts)
        (run : RunsGadgets k.known t (right_made (suite_calls hosts) proto (proto x.0) right e).acts w u)
        (one : is_given k.given.endorsed x right ≡ true → IsOneWord k.known (right_made (suite_calls hosts) proto (proto x.0) right e).given.at u) where
      abbrev made : Made Gadget Parts
      made = right_made (suite_calls hosts) proto (proto x.0) right e

      fresh : IsFresh e.next made.acts made.next
      fresh = right_fresh hosts t deal inputs dealt proto clear declared x.0 right calm e ties.ready.known

      framed : IsFramed (Free e.next) w u
      framed = runs_framed (Free e.next) k.known t made.acts w u fresh.touches run

      with_binding : (word : ℕ) → (k.kept x.0 ≡ true → AreRight k.known u made.given.at word) → (k.kept x.0 ≡ true → word < 2 ^ 32) → Right' (with_use Binding x.0 o) (e.held ++ made.given ∷ []) u (with_word x word c)
      with_binding word right low =
          trust_more hosts t inputs proto clear k.known k.kept o e.next e.held w0 c0 ties w u c (with_word x word c) Binding x.0 made.given is (still_of e.next w u framed)
          (quiet_outer hosts t inputs proto clear k.known k.kept (Free e.next) w u c.world framed trust.outer)
          (λ there. subst (λ z. AreRight k.known u made.given.at z) (sym (item_put 0 c.words x.0 word)) (right there)) (λ there. subst (λ z. z < 2 ^ 32) (sym (item_put 0 c.words x.0 word)) (low there))
          (other_word x word c) trust

      let_by : (b : Bool) → is_given k.given.endorsed x right ≡ b
          → Leads o (with_use Binding x.0 o) e.next e.held (e.held ++ made.given ∷ []) (bound k.given.endorsed x right) turn w u c
      let_by true now =
          let came = one now in
          record {
            words = came.word ∷ [];
            after = with_word x came.word c;
            runs = bound_to x right (came.word ∷ []) came.word true calm now (λ more. refl) (λ more. refl);
            trust = with_binding came.word (λ there. came.same) (λ there. came.small);
            kept = λ h r low n. still_of e.next w u framed h r low;
          }
      let_by false now = record {
        words = [];
        after = with_word x (right_word right turn c) c;
        runs = bound_to x right [] (right_word right turn c) false calm now (λ more. refl) (λ more. refl);
        trust = with_binding (right_word right turn c)
            (λ there. right_right hosts t deal inputs dealt proto clear declared k declassified stays o e w0 c0 ties turn has w c trust x right calm sees fits placed reach loop there flows now u run)
            (λ there. right_small hosts t deal inputs dealt proto clear declared k declassified stays o e w0 c0 ties turn has w c trust x right calm sees fits small there flows now);
        kept = λ h r low n. still_of e.next w u framed h r low;
      }

      pub let_leads : Leads o (with_use Binding x.0 o) e.next e.held (e.held ++ (right_made (suite_calls hosts) proto (proto x.0) right e).given ∷ []) (bound k.given.endorsed x right) turn w u c
      let_leads = let_by (is_given k.given.endorsed x right) refl

    -- ---- inputs
    module _ (x : SlotId) (h : HostId) (is : x.0 ≡ length e.held) (flows : only_with (k.kept x.0) (k.known h.0) ≡ true) (u : Hosts) (run : RunsGadgets k.known t ((suite_calls hosts).input h e.next).acts w u) where
      abbrev word : ℕ
      word = input_word c.world h.0

      now : u ≡ put w h.0 (acted (t h.0) (action.Input (next_at e.next h)) (w h.0))
      now = run.1

      same_content : (v : Use) (y : ℕ) → content v (in_world (after_input c.world h.0) c) y ≡ content v c y
      same_content Binding y = refl
      same_content Variable y = refl
      same_content Array y = refl

      far : (q : ℕ) → q < slice_index e.next h.0 → q ≡ slice_index e.next h.0 → ⊥
      far q a b = omega (arith, a, b)

      still : Still hosts t inputs proto clear k.known k.kept e.next w u
      still g q below =
          ap (λ (v : Hosts). (v g).registers q) now
          ∙ elim (ℕ_discrete g h.0) [
            | yes i ↦ let P : ℕ → Type 0 = λ z. (put w h.0 (acted (t h.0) (action.Input (next_at e.next h)) (w h.0)) z).registers q ≡ (w z).registers q in
                subst P (sym i) (ap (λ (s : Host). s.registers q) (put_same w h.0 (acted (t h.0) (action.Input (next_at e.next h)) (w h.0)))
                ∙ put_other (w h.0).registers (slice_index e.next h.0) (nth (t h.0 Inputs ((w h.0).cursors Inputs)) 0) q (far q (subst (λ z. q < slice_index e.next z) i below)))
            | no d ↦ ap (λ (s : Host). s.registers q) (put_other w h.0 (acted (t h.0) (action.Input (next_at e.next h)) (w h.0)) g d)
          ]

      right : k.known h.0 ≡ true → (u h.0).registers (slice_index e.next h.0) ≡ input_word c.world h.0
      right keep =
          ap (λ (v : Hosts). (v h.0).registers (slice_index e.next h.0)) now
          ∙ ap (λ (s : Host). s.registers (slice_index e.next h.0)) (put_same w h.0 (acted (t h.0) (action.Input (next_at e.next h)) (w h.0)))
          ∙ put_same (w h.0).registers (slice_index e.next h.0) (nth (t h.0 Inputs ((w h.0).cursors Inputs)) 0)
          ∙ dealt h.0 ((w h.0).cursors Inputs) ∙ ap (slice_index (inputs h.0)) (none_more ((w h.0).cursors Inputs)) ∙ trust.outer.waiting h.0 keep 0 ∙ sym (first_at (slice_index_or c.world.inputs h.0 []))

      small : k.known h.0 ≡ true → input_word c.world h.0 < 2 ^ 32
      small keep = subst (λ z. z < 2 ^ 32) (sym (first_at (slice_index_or c.world.inputs h.0 []))) (trust.outer.words h.0 keep 0)

      waits : (g : ℕ) → k.known g ≡ true → (i : ℕ) → slice_index (inputs g) ((put w h.0 (acted (t h.0) (action.Input (next_at e.next h)) (w h.0)) g).cursors Inputs + i) ≡ slice_index (slice_index_or (after_input c.world h.0).inputs g []) i
      waits g keep i =
          elim (ℕ_discrete g h.0) [
            | yes j ↦ let P : ℕ → Type 0 = λ z. slice_index (inputs z) ((put w h.0 (acted (t h.0) (action.Input (next_at e.next h)) (w h.0)) z).cursors Inputs + i) ≡ slice_index (slice_index_or (after_input c.world h.0).inputs z []) i in
                subst P (sym j) (ap (λ (s : Host). slice_index (inputs h.0) (s.cursors Inputs + i)) (put_same w h.0 (acted (t h.0) (action.Input (next_at e.next h)) (w h.0)))
                ∙ ap (slice_index (inputs h.0)) (one_on ((w h.0).cursors Inputs) i) ∙ trust.outer.waiting h.0 (subst (λ z. k.known z ≡ true) j keep) (suc i)
                ∙ sym (later_word_at (slice_index_or c.world.inputs h.0 []) i) ∙ ap (λ (l : List ℕ). slice_index l i) (sym (later_at c.world.inputs h.0)))
            | no d ↦ ap (λ (s : Host). slice_index (inputs g) (s.cursors Inputs + i)) (put_other w h.0 (acted (t h.0) (action.Input (next_at e.next h)) (w h.0)) g d) ∙ trust.outer.waiting g keep i
                ∙ ap (λ (l : List ℕ). slice_index l i) (sym (item_set_other [] c.world.inputs h.0 g (later_words (slice_index_or c.world.inputs h.0 [])) (λ j. d (sym j))))
          ]

      all_words : (g : ℕ) → k.known g ≡ true → (i : ℕ) → slice_index (slice_index_or (after_input c.world h.0).inputs g []) i < 2 ^ 32
      all_words g keep i =
          elim (ℕ_discrete g h.0) [
            | yes j ↦ subst (λ z. slice_index (slice_index_or (after_input c.world h.0).inputs z []) i < 2 ^ 32) (sym j)
                (subst (λ z. slice_index z i < 2 ^ 32) (sym (later_at c.world.inputs h.0)) (subst (λ z. z < 2 ^ 32) (sym (later_word_at (slice_index_or c.world.inputs h.0 []) i)) (trust.outer.words h.0 (subst (λ z. k.known z ≡ true) j keep) (suc i))))
            | no d ↦ subst (λ z. slice_index z i < 2 ^ 32) (sym (item_set_other [] c.world.inputs h.0 g (later_words (slice_index_or c.world.inputs h.0 [])) (λ j. d (sym j)))) (trust.outer.words g keep i)
          ]

      outer : Outer hosts t inputs proto clear k.known k.kept u (after_input c.world h.0)
      outer = record {
        printed = λ g keep. ap (λ (v : Hosts). (v g).printed) now ∙ same_of w h.0 (acted (t h.0) (action.Input (next_at e.next h)) (w h.0)) g (λ (s : Host). s.printed) refl ∙ trust.outer.printed g keep;
        waiting = λ g keep i. ap (λ (v : Hosts). slice_index (inputs g) ((v g).cursors Inputs + i)) now ∙ waits g keep i;
        words = all_words;
        known = trust.outer.known;
      }

      pub input_leads : Leads o (with_use Binding x.0 o) e.next e.held (e.held ++ ((suite_calls hosts).input h e.next).given ∷ []) (bound k.given.endorsed x (Input h)) turn w u c
      input_leads = record {
        words = [];
        after = with_word x word (in_world (after_input c.world h.0) c);
        runs = λ more. refl;
        trust = trust_more hosts t inputs proto clear k.known k.kept o e.next e.held w0 c0 ties w u c (with_word x word (in_world (after_input c.world h.0) c)) Binding x.0 ((suite_calls hosts).input h e.next).given is still outer
            (λ there. subst (λ z. AreRight k.known u ((suite_calls hosts).input h e.next).given.at z) (sym (item_put 0 c.words x.0 word)) (right, tt)) (λ there. subst (λ z. z < 2 ^ 32) (sym (item_put 0 c.words x.0 word)) (small (only (k.kept x.0) (k.known h.0) flows there)))
            (λ v y n. other_word x word (in_world (after_input c.world h.0) c) v y n ∙ same_content v y) trust;
        kept = λ g r below n. still g r below;
      }

    -- ---- variables
    abbrev pub brought : SlotId → Proto → Made Gadget Parts
    brought y q = (suite_calls hosts).move (proto y.0) q (part_of hosts t inputs proto clear e.held y.0) e.next

    -- a word is moved to a protocol
    pub record Brought (y : SlotId) (q : Proto) (u : Hosts) : Type 0 where
      pub fresh : IsFresh e.next (brought y q).acts (brought y q).next
      pub framed : IsFramed (Free e.next) w u
      pub operand : k.kept y.0 ≡ true → IsOperand k.known q (brought y q).next u (brought y q).given.at (word_at c y)
      pub known : AreKnown (holders q) (brought y q).next
      pub at : hosts_of (brought y q).given.at ≡ holders q

    brings : (y : SlotId) (q : Proto) → IsInClear q → IsOver hosts q → Sees o Binding y.0 → (suite t inputs hosts).joins (proto y.0) q ≡ true → (u : Hosts) → RunsGadgets k.known t (brought y q).acts w u → Brought y q u
    brings y q cq dq sees joins u run =
        let many = ties.ready.known in
        let fresh = moved_fresh (proto y.0) q (clear y.0) cq (part_of hosts t inputs proto clear e.held y.0).at e.next (known_at hosts t deal inputs dealt proto clear declared q dq e.next many) in
        let g = moved _ (suite t inputs hosts) proto (laws hosts t deal inputs dealt proto clear declared) declared o e.next e.held w0 c0 ties y.0 sees q dq joins in
        record {
          fresh = fresh;
          framed = runs_framed (Free e.next) k.known t (brought y q).acts w u fresh.touches run;
          operand = λ is. from_gives hosts t deal inputs dealt proto clear declared k declassified stays q cq e.next _ (brought y q) w0 (slice_index c0.words y.0) g u (word_at c y)
              (one_moved hosts t deal inputs dealt proto clear declared k declassified stays o e w0 c0 ties turn has w c trust y q cq dq sees is u run) (trust.small Binding y.0 sees is);
          known = known_at hosts t deal inputs dealt proto clear declared q dq (brought y q).next (fresh.known ∙ many);
          at = moved_hosts (proto y.0) q (clear y.0) cq (part_of hosts t inputs proto clear e.held y.0).at e.next (known_at hosts t deal inputs dealt proto clear declared q dq e.next many);
        }

    pub var_leads : (v y : SlotId) → v.0 ≡ length e.held → Sees o Binding y.0 → (suite t inputs hosts).joins (proto y.0) (proto v.0) ≡ true → only_with (k.kept v.0) (k.kept y.0) ≡ true
        → let made = and_on (suite_calls hosts) proto ((suite_calls hosts).move (proto y.0) (proto v.0) (part_of hosts t inputs proto clear e.held y.0) e.next) ((suite_calls hosts).keep (proto v.0)) in
        (u : Hosts) → RunsGadgets k.known t made.acts w u → Leads o (with_use Variable v.0 o) e.next e.held (e.held ++ made.given ∷ []) (given_step k.given.endorsed (Stmt-F.NewVar v y)) turn w u c
    var_leads v y is sees joins flows u run =
        let one = brought y (proto v.0) in
        let two = (suite_calls hosts).keep (proto v.0) one.given one.next in
        let parts = gadgets_parts k.known t one.acts two.acts w u run in
        let b = brings y (proto v.0) (clear v.0) (declared v.0) sees joins parts.0 parts.1.0 in
        let keeping = keep_fresh (proto v.0) (clear v.0) one.next b.known one.given.at in
        let fresh = fresh_on e.next one.next two.next one.acts two.acts b.fresh keeping in
        let framed = runs_framed (Free e.next) k.known t (one.acts ++ two.acts) w u fresh.touches run in
        record {
          words = [];
          after = with_word v (word_at c y) c;
          runs = λ more. refl;
          trust = trust_more hosts t inputs proto clear k.known k.kept o e.next e.held w0 c0 ties w u c (with_word v (word_at c y) c) Variable v.0 two.given is (still_of e.next w u framed)
              (quiet_outer hosts t inputs proto clear k.known k.kept (Free e.next) w u c.world framed trust.outer)
              (λ there. subst (λ z. AreRight k.known u two.given.at z) (sym (item_put 0 c.words v.0 (word_at c y)))
              (keep_right k.known t one.next parts.0 (proto v.0) (clear v.0) b.known one.given.at (word_at c y) (b.operand (only (k.kept v.0) (k.kept y.0) flows there)) u parts.1.1))
              (λ there. subst (λ z. z < 2 ^ 32) (sym (item_put 0 c.words v.0 (word_at c y))) (trust.small Binding y.0 sees (only (k.kept v.0) (k.kept y.0) flows there)))
              (other_word v (word_at c y) c) trust;
          kept = λ h r low n. still_of e.next w u framed h r low;
        }

    -- copies are written over
    all_renewed : (P : ℕ → ℕ → Type 0) (kept x : Places) → ((h r : ℕ) → IsIn kept h r → P h r) → AllTouch P (renewed kept x)
    all_renewed P [] x there = tt
    all_renewed P (q ∷ kept) x there = (there q.0.0 q.1.0 (inl (refl, refl)), all_renewed P kept x (λ h r i. there h r (inr i)))

    renew_touches : (p : Proto) → IsInClear p → (kept x : Places) → AllTouch (IsIn kept) ((back_end p).renew kept x)
    renew_touches p cp kept x = subst (λ (b : Calls). AllTouch (IsIn kept) (b.renew kept x)) (sym (back_is p cp)) (all_renewed (IsIn kept) kept x (λ h r i. i))

    pub store_leads : (v y : SlotId) → Sees o Variable v.0 → Sees o Binding y.0 → (suite t inputs hosts).joins (proto y.0) (proto v.0) ≡ true → only_with (k.kept v.0) (k.kept y.0) ≡ true
        → let moved = (suite_calls hosts).move (proto y.0) (proto v.0) (part_of hosts t inputs proto clear e.held y.0) e.next in
        (u : Hosts) → RunsGadgets k.known t (moved.acts ++ (suite_calls hosts).renew (proto v.0) (part_of hosts t inputs proto clear e.held v.0) moved.given) w u
        → Leads o o e.next e.held e.held (given_step k.given.endorsed (Stmt-F.Store v y)) turn w u c
    store_leads v y sees_v sees joins flows u run =
        let one = brought y (proto v.0) in
        let kept = part_of hosts t inputs proto clear e.held v.0 in
        let writes = (suite_calls hosts).renew (proto v.0) kept one.given in
        let parts = gadgets_parts k.known t one.acts writes w u run in
        let m = parts.0 in
        let b = brings y (proto v.0) (clear v.0) (declared v.0) sees joins m parts.1.0 in
        let over = runs_framed (IsIn kept.at) k.known t writes m u (renew_touches (proto v.0) (clear v.0) kept.at one.given.at) parts.1.1 in
        let size = sized hosts t inputs proto clear o e.next e.held w0 c0 ties Variable v.0 sees_v c in
        let at = placed hosts t inputs proto clear o e.next e.held w0 c0 ties Variable v.0 sees_v in
        let below = below_later e.next one.next kept.at b.fresh.longer (word_below hosts t inputs proto clear o e.next e.held w0 c0 ties Variable v.0 sees_v size) in
        let still : (h r : ℕ) → r < slice_index e.next h → (Names kept h r → ⊥) → (u h).registers r ≡ (w h).registers r =
        λ h r low n. over.registers h r (λ i. n (in_names kept h r size i)) ∙ still_of e.next w m b.framed h r low in
        record {
          words = [];
          after = with_word v (word_at c y) c;
          runs = λ more. refl;
          trust = trust_written hosts t inputs proto clear k.known k.kept o e.next e.held w0 c0 ties w u c (with_word v (word_at c y) c) Variable v.0 sees_v refl still
              (quiet_outer hosts t inputs proto clear k.known k.kept (IsIn kept.at) m u c.world over (quiet_outer hosts t inputs proto clear k.known k.kept (Free e.next) w m c.world b.framed trust.outer))
              (λ there. subst (λ z. AreRight k.known u kept.at z) (sym (item_put 0 c.words v.0 (word_at c y)))
              (renew_right k.known t one.next m (proto v.0) (clear v.0) b.known kept.at one.given.at (word_at c y) at below (b.operand (only (k.kept v.0) (k.kept y.0) flows there)) u parts.1.1).right)
              (λ there. subst (λ z. z < 2 ^ 32) (sym (item_put 0 c.words v.0 (word_at c y))) (trust.small Binding y.0 sees (only (k.kept v.0) (k.kept y.0) flows there)))
              (other_word v (word_at c y) c) trust;
          kept = λ h r low n. still h r low (n Variable v.0 sees_v refl);
        }

    -- ---- outputs
    module _ (y : SlotId) (g : HostId) (offset : ℕ) (sees : Sees o Binding y.0) (low : g.0 < hosts) (over : IsOver hosts (Local g)) (joins : (suite t inputs hosts).joins (proto y.0) (Local g) ≡ true) (flows : only_with (k.heard g.0) (k.kept y.0) ≡ true) (u : Hosts)
        (run : RunsGadgets k.known t (((suite_calls hosts).move (proto y.0) (Local g) (part_of hosts t inputs proto clear e.held y.0) e.next).acts
        ++ (suite_calls hosts).output g ((suite_calls hosts).move (proto y.0) (Local g) (part_of hosts t inputs proto clear e.held y.0) e.next).given) w u) where
      abbrev one : Made Gadget Parts
      one = brought y (Local g)

      abbrev told_word : Reg
      told_word = register_of one.given.at g.0

      parts : (m : Hosts) × (RunsGadgets k.known t one.acts w m × RunsGadgets k.known t ((suite_calls hosts).output g one.given) m u)
      parts = gadgets_parts k.known t one.acts ((suite_calls hosts).output g one.given) w u run

      abbrev m : Hosts
      m = parts.0

      b : Brought y (Local g) m
      b = brings y (Local g) tt over sees joins m parts.1.0

      abbrev new : Host
      new = acted (t g.0) (action.Print told_word) (m g.0)

      printed_now : u ≡ put m g.0 new
      printed_now = parts.1.1.1

      still_printed : Still hosts t inputs proto clear k.known k.kept e.next w u
      still_printed h r below = ap (λ (z : Hosts). (z h).registers r) printed_now ∙ same_of m g.0 new h (λ (z : Host). z.registers r) refl ∙ still_of e.next w m b.framed h r below

      same_told : (v : Use) (x : ℕ) → content v (in_world (after_output c.world g.0 (word_at c y)) c) x ≡ content v c x
      same_told Binding x = refl
      same_told Variable x = refl
      same_told Array x = refl

      own : k.known g.0 ≡ true → (m g.0).registers told_word.0 ≡ word_at c y
      own keep =
          let op = b.operand (only (k.heard g.0) (k.kept y.0) flows (heard g.0 keep)) in
          right_register k.known m one.given.at g.0 (word_at c y) (subst (λ (l : List HostId). IsHost l g.0) (sym b.at) (inl refl)) op.right keep

      prints : (h : ℕ) → k.known h ≡ true → (put m g.0 new h).printed ≡ slice_index_or (after_output c.world g.0 (word_at c y)).outputs h []
      prints h keep =
          elim (ℕ_discrete h g.0) [
            | yes i ↦ let P : ℕ → Type 0 = λ z. (put m g.0 new z).printed ≡ slice_index_or (after_output c.world g.0 (word_at c y)).outputs z [] in
                let here : k.known g.0 ≡ true = subst (λ z. k.known z ≡ true) i keep in
                subst P (sym i) (ap (λ (z : Host). z.printed) (put_same m g.0 new) ∙ ap (λ z. (m g.0).printed ++ z ∷ []) (own here)
                ∙ ap (λ (l : List ℕ). l ++ word_at c y ∷ []) (b.framed.printed g.0 ∙ trust.outer.printed g.0 here) ∙ sym (told_at c.world.outputs g.0 (word_at c y) (subst (λ n. g.0 < n) (sym trust.outer.known) low)))
            | no d ↦ ap (λ (z : Host). z.printed) (put_other m g.0 new h d) ∙ b.framed.printed h ∙ trust.outer.printed h keep
                ∙ sym (item_set_other [] c.world.outputs g.0 h (slice_index_or c.world.outputs g.0 [] ++ word_at c y ∷ []) (λ j. d (sym j)))
          ]

      outer_told : Outer hosts t inputs proto clear k.known k.kept u (after_output c.world g.0 (word_at c y))
      outer_told = record {
        printed = λ h keep. ap (λ (z : Hosts). (z h).printed) printed_now ∙ prints h keep;
        waiting = λ h keep i.
            ap (λ (z : Hosts). slice_index (inputs h) ((z h).cursors Inputs + i)) printed_now ∙ same_of m g.0 new h (λ (z : Host). slice_index (inputs h) (z.cursors Inputs + i)) refl
            ∙ ap (λ n. slice_index (inputs h) (n + i)) (b.framed.inputs h) ∙ trust.outer.waiting h keep i;
        words = trust.outer.words;
        known = length-set c.world.outputs g.0 _ ∙ trust.outer.known;
      }

      pub output_leads : Leads o o e.next e.held e.held (given_step k.given.endorsed (Stmt-F.Output y g offset)) turn w u c
      output_leads = record {
        words = [];
        after = in_world (after_output c.world g.0 (word_at c y)) c;
        runs = λ more. refl;
        trust = record {
          right = λ v x i there.
              subst (λ z. IsRightIn k.known u (part_of hosts t inputs proto clear e.held x) z) (sym (same_told v x))
              (content_stays k.known w u (part_of hosts t inputs proto clear e.held x) (content v c x) (sized hosts t inputs proto clear o e.next e.held w0 c0 ties v x i c) (λ h r n. still_printed h r (ties.below v x i h r n)) (trust.right v x i there));
          small = λ v x i there. subst IsSmall (sym (same_told v x)) (trust.small v x i there);
          outer = outer_told;
        };
        kept = λ h r low n. still_printed h r low;
      }
