-- What comes to a host in statements and turns, one after another.
use Rattle.std.proofs.Common.{◌≡◌, ◌≢◌, ℕ, zero, suc, Bool, true, false, nat_eq, List, [], ◌∷◌, ◌++◌, append_assoc, append-nil, map, length, sym, ap, ap₂, ◌∙◌, if◌then◌else◌, rules, Ok, Err}
use Rattle.std.specs.Prelude.{filter, ◌||◌}
use Rattle.std.specs.List.{list_any}
use Rattle.std.proofs.lemmas.List.Folds.{list_any-append}
use Rattle.vd_base.specs.HostSets.{same_host}
use Rattle.vd_space.specs.Reading.{all_named, all_told}
use Rattle.std.specs.Prelude.{Result, OnOk, ⊤}
use Rattle.vd_base.specs.declared.ids.HostId.{HostId}
use Rattle.vd_base.specs.declared.ids.SlotId.{SlotId}
use Rattle.std.proofs.lemmas.Bool.{eq-eqb, ne_eqb}
use Rattle.vd_core.specs.declared.normal.Stmt.{Stmt, NewVar, NewArray, Store, Put, Output, If, For}
use Rattle.vd_core.specs.declared.normal.Stmt.TheOpen.{Stmt-F}
use Rattle.vd_core.specs.declared.normal.Stmt.TheFolds.{the_lemmas}
use Rattle.vd_semantics.specs.ProgramMeaning.{SlotState, word_at, in_order}
use Rattle.vd_core.specs.declared.normal.NormalForm.{NormalForm}
use Rattle.vd_noninter.specs.Reading.{start}
use Rattle.vd_semantics.specs.World.{World, world_at_start}
use Rattle.vd_semantics.specs.Turns.{turns}
use Rattle.vd_noninter_protocols.specs.Hearing.{Heard, heard, run_of, read_of, comes, heard_in_order, heard_in_turns}
use Rattle.vd_constraints.specs.declared.labels.Labels.{Labels}
use Rattle.vd_noninter_protocols.proofs.Labels.{labels_free}
use Rattle.vd_noninter_protocols.specs.Runs.{Hearer, HeardRun, no_labels, step_of, storing, making, writing, telling, heard_by, all_heard, after, after_all}
use Rattle.vd_noninter_protocols.specs.Parts.{guard_heard, told_there, held_there, slot_held}

abbrev pub with_words : SlotState → List ℕ → HeardRun
with_words s ws = record { state = s; words = ws }

-- statements one after another
all_after : (hs : List Heard) (turn : ℕ) (r : HeardRun) → after_all hs turn r ≡ with_words (in_order (map run_of hs) turn r.state) (r.words ++ heard_in_order hs turn r.state)
all_after [] turn r = ap (with_words r.state) (sym (append-nil r.words))
all_after (s ∷ more) turn r =
    all_after more turn (after s turn r)
    ∙ ap (with_words (in_order (map run_of more) turn (s.run turn r.state))) (append_assoc r.words (s.words turn r.state) (heard_in_order more turn (s.run turn r.state)))

-- turns one after another
turns_after : (n : ℕ) (hs : List Heard) (r : HeardRun) → turns n (after_all hs) r ≡ with_words (turns n (in_order (map run_of hs)) r.state) (r.words ++ heard_in_turns n hs r.state)
turns_after zero hs r = ap (with_words r.state) (sym (append-nil r.words))
turns_after (suc n) hs r =
    ap (after_all hs n) (turns_after n hs r)
    ∙ all_after hs n (with_words (turns n (in_order (map run_of hs)) r.state) (r.words ++ heard_in_turns n hs r.state))
    ∙ ap (with_words (in_order (map run_of hs) n (turns n (in_order (map run_of hs)) r.state)))
    (append_assoc r.words (heard_in_turns n hs r.state) (heard_in_order hs n (turns n (in_order (map run_of hs)) r.state)))

chosen : (b : Bool) (first other : List Heard) (turn : ℕ) (r : HeardRun) (ws : List ℕ)
    → after_all (if b then other else first) turn (record r { words = r.words ++ ws })
    ≡ with_words (in_order (if b then map run_of other else map run_of first) turn r.state) (r.words ++ (ws ++ heard_in_order (if b then other else first) turn r.state))
chosen true first other turn r ws = all_after other turn (record r { words = r.words ++ ws }) ∙ ap (with_words (in_order (map run_of other) turn r.state)) (append_assoc r.words ws (heard_in_order other turn r.state))
chosen false first other turn r ws = all_after first turn (record r { words = r.words ++ ws }) ∙ ap (with_words (in_order (map run_of first) turn r.state)) (append_assoc r.words ws (heard_in_order first turn r.state))

-- what the statements with blocks do
heard_branch : (x : Hearer) (g : SlotId) (first other : List Stmt) (offset : ℕ)
    → heard_by x (If g first other offset) ≡ step_of x (Stmt-F.If g (all_heard x first) (all_heard x other) offset)
heard_branch x g first other offset = search (rules, the_lemmas)

heard_loop : (x : Hearer) (count : ℕ) (body : List Stmt) → heard_by x (For count body) ≡ step_of x (Stmt-F.For count (all_heard x body))
heard_loop x count body = search (rules, the_lemmas)

-- a branch, once what its guard tells is heard
branch_after : (x : Hearer) (g : SlotId) (first other : List Stmt) (offset turn : ℕ) (r : HeardRun)
    → after_all (if nat_eq (word_at r.state g) 0 then all_heard x other else all_heard x first) turn (record r { words = r.words ++ guard_heard x g (all_heard x first) (all_heard x other) r.state })
    ≡ after (heard_by x (If g first other offset)) turn r
branch_after x g first other offset turn r =
    chosen (nat_eq (word_at r.state g) 0) (all_heard x first) (all_heard x other) turn r (guard_heard x g (all_heard x first) (all_heard x other) r.state)
    ∙ ap (λ (s : Heard). after s turn r) (sym (heard_branch x g first other offset))

other_after : (x : Hearer) (g : SlotId) (first other : List Stmt) (offset turn : ℕ) (r : HeardRun) → word_at r.state g ≡ 0
    → after_all (all_heard x other) turn (record r { words = r.words ++ guard_heard x g (all_heard x first) (all_heard x other) r.state }) ≡ after (heard_by x (If g first other offset)) turn r
other_after x g first other offset turn r none =
    ap (λ (b : Bool). after_all (if b then all_heard x other else all_heard x first) turn (record r { words = r.words ++ guard_heard x g (all_heard x first) (all_heard x other) r.state })) (sym (eq-eqb (word_at r.state g) 0 none))
    ∙ branch_after x g first other offset turn r

first_after : (x : Hearer) (g : SlotId) (first other : List Stmt) (offset turn : ℕ) (r : HeardRun) → word_at r.state g ≢ 0
    → after_all (all_heard x first) turn (record r { words = r.words ++ guard_heard x g (all_heard x first) (all_heard x other) r.state }) ≡ after (heard_by x (If g first other offset)) turn r
first_after x g first other offset turn r more =
    ap (λ (b : Bool). after_all (if b then all_heard x other else all_heard x first) turn (record r { words = r.words ++ guard_heard x g (all_heard x first) (all_heard x other) r.state })) (sym (ne_eqb (word_at r.state g) 0 more))
    ∙ branch_after x g first other offset turn r

loop_after : (x : Hearer) (count : ℕ) (body : List Stmt) (turn : ℕ) (r : HeardRun) → turns count (after_all (all_heard x body)) r ≡ after (heard_by x (For count body)) turn r
loop_after x count body turn r = turns_after count (all_heard x body) r ∙ ap (λ (s : Heard). after s turn r) (sym (heard_loop x count body))

-- what comes to the host where operands are moved
abbrev pub with_operands : Hearer → SlotId → List SlotId → HeardRun → HeardRun
with_operands x onto ys r = with_words r.state (r.words ++ map (word_at r.state) (filter (λ y. comes x.protocols x.host y onto) ys))

-- ---- as the code goes

-- the branch that is executed where the guard is 0
pub goes_other : (x : Hearer) (stmt : Stmt) (g : SlotId) (a b ts es : List Stmt) (offset turn : ℕ) (r r1 r2 : HeardRun) → stmt ≡ If g a b offset → ts ≡ a → es ≡ b
    → r1 ≡ record r { words = r.words ++ guard_heard x g (all_heard x ts) (all_heard x es) r.state } → word_at r1.state g ≡ 0 → r2 ≡ after_all (all_heard x es) turn r1 → r2 ≡ after (heard_by x stmt) turn r
goes_other x stmt g a b ts es offset turn r r1 r2 is a_is b_is one none two =
    two ∙ ap (after_all (all_heard x es) turn) one
    ∙ ap₂ (λ (p q : List Stmt). after_all (all_heard x q) turn (record r { words = r.words ++ guard_heard x g (all_heard x p) (all_heard x q) r.state })) a_is b_is
    ∙ other_after x g a b offset turn r (sym (ap (λ (q : HeardRun). word_at q.state g) one) ∙ none)
    ∙ sym (ap (λ (s : Stmt). after (heard_by x s) turn r) is)

-- and where it is not
pub goes_first : (x : Hearer) (stmt : Stmt) (g : SlotId) (a b ts es : List Stmt) (offset turn : ℕ) (r r1 r2 : HeardRun) → stmt ≡ If g a b offset → ts ≡ a → es ≡ b
    → r1 ≡ record r { words = r.words ++ guard_heard x g (all_heard x ts) (all_heard x es) r.state } → word_at r1.state g ≢ 0 → r2 ≡ after_all (all_heard x ts) turn r1 → r2 ≡ after (heard_by x stmt) turn r
goes_first x stmt g a b ts es offset turn r r1 r2 is a_is b_is one some two =
    two ∙ ap (after_all (all_heard x ts) turn) one
    ∙ ap₂ (λ (p q : List Stmt). after_all (all_heard x p) turn (record r { words = r.words ++ guard_heard x g (all_heard x p) (all_heard x q) r.state })) a_is b_is
    ∙ first_after x g a b offset turn r (λ none. some (ap (λ (q : HeardRun). word_at q.state g) one ∙ none))
    ∙ sym (ap (λ (s : Stmt). after (heard_by x s) turn r) is)

pub goes_round : (x : Hearer) (stmt : Stmt) (count : ℕ) (body : List Stmt) (turn : ℕ) (r r1 : HeardRun) → stmt ≡ For count body → r1 ≡ turns count (after_all (all_heard x body)) r → r1 ≡ after (heard_by x stmt) turn r
goes_round x stmt count body turn r r1 is round = round ∙ loop_after x count body turn r ∙ sym (ap (λ (s : Stmt). after (heard_by x s) turn r) is)

-- ---- what branches name and tell

-- a test of two lists, where none of the first passes
test_after : {X : Type 0} (p : X → Bool) (xs ys : List X) → list_any p xs ≡ false → list_any p ys ≡ list_any p (xs ++ ys)
test_after p xs ys none = sym (list_any-append p xs ys ∙ ap (λ (b : Bool). b || list_any p ys) none)

-- the first branch tells the host nothing
pub told_in_other : (x : Hearer) (stmt : Stmt) (g : SlotId) (a b ts es : List Stmt) (offset : ℕ) (one two : Bool) → stmt ≡ If g a b offset → ts ≡ a → es ≡ b
    → one ≡ told_there x (all_heard x ts) → one ≡ false → two ≡ told_there x (all_heard x es) → two ≡ list_any (same_host x.host) (heard_by x stmt).read.told
told_in_other x stmt g a b ts es offset one two is a_is b_is one_is none two_is =
    two_is ∙ ap (λ (q : List Stmt). told_there x (all_heard x q)) b_is
    ∙ test_after (same_host x.host) (all_told (map read_of (all_heard x a))) (all_told (map read_of (all_heard x b))) (sym (ap (λ (q : List Stmt). told_there x (all_heard x q)) a_is) ∙ sym one_is ∙ none)
    ∙ sym (ap (λ (s : Heard). list_any (same_host x.host) s.read.told) (heard_branch x g a b offset))
    ∙ sym (ap (λ (s : Stmt). list_any (same_host x.host) (heard_by x s).read.told) is)

-- neither the guard nor a slot of the first branch is kept at the host
pub held_in_other : (x : Hearer) (stmt : Stmt) (g : SlotId) (a b ts es : List Stmt) (offset : ℕ) (at_guard one two : Bool) → stmt ≡ If g a b offset → ts ≡ a → es ≡ b
    → at_guard ≡ slot_held x g → at_guard ≡ false → one ≡ held_there x (all_heard x ts) → one ≡ false → two ≡ held_there x (all_heard x es) → two ≡ list_any (slot_held x) (heard_by x stmt).read.named
held_in_other x stmt g a b ts es offset at_guard one two is a_is b_is guard_is absent one_is none two_is =
    two_is ∙ ap (λ (q : List Stmt). held_there x (all_heard x q)) b_is
    ∙ test_after (slot_held x) (all_named (map read_of (all_heard x a))) (all_named (map read_of (all_heard x b))) (sym (ap (λ (q : List Stmt). held_there x (all_heard x q)) a_is) ∙ sym one_is ∙ none)
    ∙ ap (λ (here : Bool). here || list_any (slot_held x) (all_named (map read_of (all_heard x a)) ++ all_named (map read_of (all_heard x b)))) (sym (sym guard_is ∙ absent))
    ∙ sym (ap (λ (s : Heard). list_any (slot_held x) s.read.named) (heard_branch x g a b offset))
    ∙ sym (ap (λ (s : Stmt). list_any (slot_held x) (heard_by x s).read.named) is)

-- ---- statements without blocks

heard_variable_made : (x : Hearer) (v y : SlotId) → heard_by x (NewVar v y) ≡ step_of x (Stmt-F.NewVar v y)
heard_variable_made x v y = search (rules, the_lemmas)

pub variable_made : (x : Hearer) (stmt : Stmt) (v y : SlotId) (turn : ℕ) (r : HeardRun) → stmt ≡ NewVar v y → after (storing x v y) turn r ≡ after (heard_by x stmt) turn r
variable_made x stmt v y turn r is = sym (ap (λ (s : Heard). after s turn r) (heard_variable_made x v y)) ∙ sym (ap (λ (s : Stmt). after (heard_by x s) turn r) is)

heard_array_made : (x : Hearer) (v : SlotId) (size : ℕ) → heard_by x (NewArray v size) ≡ step_of x (Stmt-F.NewArray v size)
heard_array_made x v size = search (rules, the_lemmas)

pub array_made : (x : Hearer) (stmt : Stmt) (v : SlotId) (size : ℕ) (turn : ℕ) (r : HeardRun) → stmt ≡ NewArray v size → after (making x v size) turn r ≡ after (heard_by x stmt) turn r
array_made x stmt v size turn r is = sym (ap (λ (s : Heard). after s turn r) (heard_array_made x v size)) ∙ sym (ap (λ (s : Stmt). after (heard_by x s) turn r) is)

heard_word_stored : (x : Hearer) (v y : SlotId) → heard_by x (Store v y) ≡ step_of x (Stmt-F.Store v y)
heard_word_stored x v y = search (rules, the_lemmas)

pub word_stored : (x : Hearer) (stmt : Stmt) (v y : SlotId) (turn : ℕ) (r : HeardRun) → stmt ≡ Store v y → after (storing x v y) turn r ≡ after (heard_by x stmt) turn r
word_stored x stmt v y turn r is = sym (ap (λ (s : Heard). after s turn r) (heard_word_stored x v y)) ∙ sym (ap (λ (s : Stmt). after (heard_by x s) turn r) is)

heard_element_written : (x : Hearer) (v i y : SlotId) → heard_by x (Put v i y) ≡ step_of x (Stmt-F.Put v i y)
heard_element_written x v i y = search (rules, the_lemmas)

pub element_written : (x : Hearer) (stmt : Stmt) (v i y : SlotId) (turn : ℕ) (r : HeardRun) → stmt ≡ Put v i y → after (writing x v i y) turn r ≡ after (heard_by x stmt) turn r
element_written x stmt v i y turn r is = sym (ap (λ (s : Heard). after s turn r) (heard_element_written x v i y)) ∙ sym (ap (λ (s : Stmt). after (heard_by x s) turn r) is)

heard_word_told : (x : Hearer) (y : SlotId) (k : HostId) (offset : ℕ) → heard_by x (Output y k offset) ≡ step_of x (Stmt-F.Output y k offset)
heard_word_told x y k offset = search (rules, the_lemmas)

pub word_told : (x : Hearer) (stmt : Stmt) (y : SlotId) (k : HostId) (offset : ℕ) (turn : ℕ) (r : HeardRun) → stmt ≡ Output y k offset → after (telling x y k offset) turn r ≡ after (heard_by x stmt) turn r
word_told x stmt y k offset turn r is = sym (ap (λ (s : Heard). after s turn r) (heard_word_told x y k offset)) ∙ sym (ap (λ (s : Stmt). after (heard_by x s) turn r) is)

-- ---- answers of statements

pub on_ok : {E : Type 0} {P Q : Type 0} (r : Result ⊤ E) → (P → Q) → OnOk r P → OnOk r Q
on_ok (Ok x) leads holds = leads holds
on_ok (Err e) leads holds = tt

-- ---- the whole program

heard_at_end : (x : Hearer) (body : List Stmt) (r r1 : HeardRun) (l : Labels) → r.words ≡ [] → r1 ≡ after_all (all_heard x body) 0 r
    → r1.words ≡ heard_in_order (map (heard x.protocols x.host l) body) 0 r.state
heard_at_end x body r r1 l none is =
    ap (λ (q : HeardRun). q.words) (is ∙ all_after (all_heard x body) 0 r)
    ∙ ap (λ (ws : List ℕ). ws ++ heard_in_order (all_heard x body) 0 r.state) none
    ∙ labels_free x.protocols x.host no_labels l body 0 r.state

-- what came to the host in a run from the start
pub words_of_program : (x : Hearer) (p : NormalForm) (inputs : List (List ℕ)) (body : List Stmt) (words : List ℕ) (arrays : List (List ℕ)) (world : World) (heard_before : List ℕ) (r1 : HeardRun) (result : List ℕ)
    → body ≡ p.body → words ≡ [] → arrays ≡ [] → heard_before ≡ [] → world ≡ world_at_start (length p.hosts) inputs
    → r1 ≡ after_all (all_heard x body) 0 (with_words (record { words = words; arrays = arrays; world = world }) heard_before) → result ≡ r1.words
    → (l : Labels) → result ≡ heard_in_order (map (heard x.protocols x.host l) p.body) 0 (start p inputs)
words_of_program x p inputs body words arrays world heard_before r1 result body_is no_words no_arrays none starts run_is result_is l =
    result_is ∙ heard_at_end x body (with_words (record { words = words; arrays = arrays; world = world }) heard_before) r1 l none run_is
    ∙ ap (λ (b : List Stmt). heard_in_order (map (heard x.protocols x.host l) b) 0 (record { words = words; arrays = arrays; world = world })) body_is
    ∙ ap (λ (ws : List ℕ). heard_in_order (map (heard x.protocols x.host l) p.body) 0 (record { words = ws; arrays = arrays; world = world })) no_words
    ∙ ap (λ (xs : List (List ℕ)). heard_in_order (map (heard x.protocols x.host l) p.body) 0 (record { words = []; arrays = xs; world = world })) no_arrays
    ∙ ap (λ (z : World). heard_in_order (map (heard x.protocols x.host l) p.body) 0 (record { words = []; arrays = []; world = z })) starts
