-- The pass over the text of a code.
use Rattle.std.proofs.Common.{◌≡◌, ℕ, zero, suc, ◌+◌, Bool, true, false, ◌&&◌, if◌then◌else◌, List, [], ◌∷◌, ◌++◌, length, take, drop, refl, sym, ap, ap₂, ◌∙◌, subst, arith}
use Rattle.std.proofs.lemmas.List.{append-nil, length-append, take_at, drop_at}
use Rattle.vd_base.specs.HostSets.{host}
use Rattle.vd_execution.specs.declared.instructions.Instr.{Instr}
use Rattle.vd_execution.specs.declared.instructions.Instr.TheVariants as instr
use Rattle.vd_execution.specs.declared.instructions.Action.{Action}
use Rattle.vd_execution.specs.declared.instructions.Action.TheVariants as action
use Rattle.vd_execution.specs.declared.instructions.Reg.{Reg}
use Rattle.vd_execution.specs.Code.{Code, Finished, Then, Send, Recv, Choose, Repeat}
use Rattle.vd_execution.specs.Text.{register, text, IsUnbegun, read, IsCodeOf}
use Rattle.vd_execution.proofs.Front.{read_back, written_back, code_unbegun}
use Rattle.vd_reorder.specs.Hastening.{Piece, Acts, Sends, Awaits, Stretch, One, Branch, Loop, stretch_before}
use Rattle.vd_reorder.specs.ReorderLawsPassing.{passes_turns, passes_all, passes_stretch, sunk, hastened}
use Rattle.vd_reorder.specs.Careful.{careful}
use Rattle.vd_reorder.proofs.Careful.{careful_passes}
use Rattle.vd_reorder.specs.Packets.{stays_by}
use Rattle.vd_reorder.specs.Passing.{IsHastenedText, second_passes, has_room, room_behind, span, turns_pass, all_pass, stretch_passes, sunk_text, sunk_first, hastened_by, hastened_text, window}

-- ---- the text of a block

text_append : (c : Code) (xs ys : List Instr) → text c (xs ++ ys) ≡ text c xs ++ ys
text_append Finished xs ys = refl
text_append (Then a c) xs ys = ap (λ l. instr.Do a ∷ l) (text_append c xs ys)
text_append (Send p rs c) xs ys = ap (λ l. instr.Send (host p) rs ∷ l) (text_append c xs ys)
text_append (Recv p rs c) xs ys = ap (λ l. instr.Recv (host p) rs ∷ l) (text_append c xs ys)
text_append (Choose g first other c) xs ys =
    ap (λ l. instr.If (register g) ∷ text first (instr.Else ∷ text other (instr.End ∷ l))) (text_append c xs ys)
    ∙ ap (λ l. instr.If (register g) ∷ text first (instr.Else ∷ l)) (text_append other (instr.End ∷ text c xs) ys)
    ∙ ap (λ l. instr.If (register g) ∷ l) (text_append first (instr.Else ∷ text other (instr.End ∷ text c xs)) ys)
text_append (Repeat r t n body c) xs ys =
    ap (λ l. instr.For (register r) n ∷ text body (instr.End ∷ l)) (text_append c xs ys)
    ∙ ap (λ l. instr.For (register r) n ∷ l) (text_append body (instr.End ∷ text c xs) ys)

abbrev size : Code → ℕ
size c = length (text c [])

size_with : (c : Code) (behind : List Instr) → length (text c behind) ≡ size c + length behind
size_with c behind = ap length (text_append c [] behind) ∙ length-append (text c []) behind

span_text : (d : ℕ) (c : Code) (behind : List Instr) → span (suc d) (text c behind) ≡ size c + span (suc d) behind
span_text d Finished behind = omega arith
span_text d (Then a c) behind = let ih = span_text d c behind in omega (arith, ih)
span_text d (Send p rs c) behind = let ih = span_text d c behind in omega (arith, ih)
span_text d (Recv p rs c) behind = let ih = span_text d c behind in omega (arith, ih)
span_text d (Choose g first other c) behind =
    let one = span_text (suc d) first (instr.Else ∷ text other (instr.End ∷ text c behind)) in
    let two = span_text (suc d) other (instr.End ∷ text c behind) in
    let three = span_text d c behind in
    let a = size_with first (instr.Else ∷ text other (instr.End ∷ text c [])) in
    let b = size_with other (instr.End ∷ text c []) in
    omega (arith, one, two, three, a, b)
span_text d (Repeat r t n body c) behind =
    let one = span_text (suc d) body (instr.End ∷ text c behind) in
    let two = span_text d c behind in
    let a = size_with body (instr.End ∷ text c []) in
    omega (arith, one, two, a)

abbrev branch_text : ℕ → Code → Code → List Instr
branch_text g first other = instr.If (register g) ∷ text first (instr.Else ∷ text other (instr.End ∷ []))

abbrev loop_text : ℕ → ℕ → Code → List Instr
loop_text r n body = instr.For (register r) n ∷ text body (instr.End ∷ [])

branch_split : (g : ℕ) (first other : Code) (behind : List Instr)
    → instr.If (register g) ∷ text first (instr.Else ∷ text other (instr.End ∷ behind)) ≡ branch_text g first other ++ behind
branch_split g first other behind =
    ap (λ l. instr.If (register g) ∷ text first (instr.Else ∷ l)) (text_append other (instr.End ∷ []) behind)
    ∙ ap (λ l. instr.If (register g) ∷ l) (text_append first (instr.Else ∷ text other (instr.End ∷ [])) behind)

loop_split : (r n : ℕ) (body : Code) (behind : List Instr) → instr.For (register r) n ∷ text body (instr.End ∷ behind) ≡ loop_text r n body ++ behind
loop_split r n body behind = ap (λ l. instr.For (register r) n ∷ l) (text_append body (instr.End ∷ []) behind)

branch_span : (g : ℕ) (first other : Code) (behind : List Instr)
    → length (branch_text g first other) ≡ span 0 (instr.If (register g) ∷ text first (instr.Else ∷ text other (instr.End ∷ behind)))
branch_span g first other behind =
    let one = span_text 0 first (instr.Else ∷ text other (instr.End ∷ behind)) in
    let two = span_text 0 other (instr.End ∷ behind) in
    let a = size_with first (instr.Else ∷ text other (instr.End ∷ [])) in
    let b = size_with other (instr.End ∷ []) in
    omega (arith, one, two, a, b)

loop_span : (r n : ℕ) (body : Code) (behind : List Instr) → length (loop_text r n body) ≡ span 0 (instr.For (register r) n ∷ text body (instr.End ∷ behind))
loop_span r n body behind =
    let one = span_text 0 body (instr.End ∷ behind) in
    let a = size_with body (instr.End ∷ []) in
    omega (arith, one, a)

-- what a block ends with, or nothing
abbrev Ends : List Instr → Type 0
Ends [] = Unit {0}
Ends (instr.Do a ∷ is) = ⊥
Ends (instr.Send p rs ∷ is) = ⊥
Ends (instr.Recv p rs ∷ is) = ⊥
Ends (instr.If g ∷ is) = ⊥
Ends (instr.Else ∷ is) = Unit {0}
Ends (instr.For r n ∷ is) = ⊥
Ends (instr.End ∷ is) = Unit {0}

-- ---- what is passed

and_assoc : (a b c : Bool) → (a && (b && c)) ≡ ((a && b) && c)
and_assoc true b c = refl
and_assoc false b c = refl

and_five : (g f o c r : Bool) → (g && (f && (o && (c && r)))) ≡ (((g && (f && o)) && c) && r)
and_five true true true c r = refl
and_five true true false c r = refl
and_five true false o c r = refl
and_five false f o c r = refl

and_four : (n b c r : Bool) → (n && (b && (c && r))) ≡ (((n && b) && c) && r)
and_four true true c r = refl
and_four true false c r = refl
and_four false b c r = refl

and_true : (b : Bool) → (b && true) ≡ b
and_true true = refl
and_true false = refl

and_false : (b : Bool) → (b && false) ≡ false
and_false true = refl
and_false false = refl

module _ (test : Piece → Piece → Bool) where
  -- a piece as the second of two instructions
  module _ (j : Instr) (y : Piece) (is : (x : Piece) → second_passes test x j ≡ test x y) where
    turns_are : (r n : ℕ) → turns_pass test (register r) n j ≡ passes_turns test y r n
    turns_are r zero = is (Acts (action.Const (register r) zero))
    turns_are r (suc n) = ap₂ (λ (a b : Bool). a && b) (is (Acts (action.Const (register r) (suc n)))) (turns_are r n)

    all_are : (c : Code) (behind : List Instr) → all_pass test (text c behind) j ≡ (passes_all test y c && all_pass test behind j)
    all_are Finished behind = refl
    all_are (Then a c) behind = ap₂ (λ (a b : Bool). a && b) (is (Acts a)) (all_are c behind) ∙ and_assoc (test (Acts a) y) (passes_all test y c) (all_pass test behind j)
    all_are (Send p rs c) behind = refl
    all_are (Recv p rs c) behind = refl
    all_are (Choose g first other c) behind =
        let rest : Bool = all_pass test behind j in
        let three : all_pass test (text other (instr.End ∷ text c behind)) j ≡ (passes_all test y other && (passes_all test y c && rest)) =
        all_are other (instr.End ∷ text c behind) ∙ ap (λ b. passes_all test y other && b) (all_are c behind) in
        let two = all_are first (instr.Else ∷ text other (instr.End ∷ text c behind)) ∙ ap (λ b. passes_all test y first && b) three in
        ap₂ (λ (a b : Bool). a && b) (is (Acts (action.Print (register g)))) two
        ∙ and_five (test (Acts (action.Print (register g))) y) (passes_all test y first) (passes_all test y other) (passes_all test y c) rest
    all_are (Repeat r t n body c) behind =
        let rest : Bool = all_pass test behind j in
        let two = all_are body (instr.End ∷ text c behind) ∙ ap (λ b. passes_all test y body && b) (all_are c behind) in
        ap₂ (λ (a b : Bool). a && b) (turns_are r n) two ∙ and_four (passes_turns test y r n) (passes_all test y body) (passes_all test y c) rest

    branch_is : (g : ℕ) (first other : Code) → stretch_passes test (branch_text g first other) j ≡ passes_stretch test (Branch g first other) y
    branch_is g first other =
        let last = all_are other (instr.End ∷ []) ∙ and_true (passes_all test y other) in
        let two = all_are first (instr.Else ∷ text other (instr.End ∷ [])) ∙ ap (λ b. passes_all test y first && b) last in
        ap₂ (λ (a b : Bool). a && b) (is (Acts (action.Print (register g)))) two

    loop_is : (r t n : ℕ) (body : Code) → stretch_passes test (loop_text r n body) j ≡ passes_stretch test (Loop r t n body) y
    loop_is r t n body = ap₂ (λ (a b : Bool). a && b) (turns_are r n) (all_are body (instr.End ∷ []) ∙ and_true (passes_all test y body))

  -- what never goes before anything
  turns_none : (j : Instr) (r n : ℕ) → ((x : Piece) → second_passes test x j ≡ false) → turns_pass test (register r) n j ≡ false
  turns_none j r zero none = none (Acts (action.Const (register r) zero))
  turns_none j r (suc n) none = ap (λ b. b && turns_pass test (register r) n j) (none (Acts (action.Const (register r) (suc n))))

  -- a stretch and its text
  record Stands (x : Stretch) (xs : List Instr) : Type 0 where
    reads : (c : Code) (behind : List Instr) → text (stretch_before x c) behind ≡ xs ++ text c behind
    tests : (j : Instr) (y : Piece) → ((z : Piece) → second_passes test z j ≡ test z y) → stretch_passes test xs j ≡ passes_stretch test x y
    none : (j : Instr) → ((z : Piece) → second_passes test z j ≡ false) → stretch_passes test xs j ≡ false

  act_stands : (a : Action) → Stands (One (Acts a)) (instr.Do a ∷ [])
  act_stands a = record { reads = λ c behind. refl; tests = λ j y is. is (Acts a); none = λ j none. none (Acts a) }

  await_stands : (p : ℕ) (rs : List Reg) → Stands (One (Awaits p rs)) (instr.Recv (host p) rs ∷ [])
  await_stands p rs = record { reads = λ c behind. refl; tests = λ j y is. is (Awaits p rs); none = λ j none. none (Awaits p rs) }

  branch_stands : (g : ℕ) (first other : Code) → Stands (Branch g first other) (branch_text g first other)
  branch_stands g first other = record {
    reads = λ c behind. branch_split g first other (text c behind);
    tests = λ j y is. branch_is j y is g first other;
    none = λ j none. ap (λ b. b && all_pass test (text first (instr.Else ∷ text other (instr.End ∷ []))) j) (none (Acts (action.Print (register g))));
  }

  loop_stands : (r t n : ℕ) (body : Code) → Stands (Loop r t n body) (loop_text r n body)
  loop_stands r t n body = record {
    reads = λ c behind. loop_split r n body (text c behind);
    tests = λ j y is. loop_is j y is r t n body;
    none = λ j none. ap (λ b. b && all_pass test (text body (instr.End ∷ [])) j) (turns_none j r n none);
  }

  module _ (x : Stretch) (xs : List Instr) (s : Stands x xs) where
    -- what stands behind is not passed
    stops : (n : ℕ) (j : Instr) (is : List Instr) → (stretch_passes test xs j && has_room n j) ≡ false → sunk_text test n xs (j ∷ is) ≡ xs ++ j ∷ is
    stops n j is e = ap (λ b. if b then j ∷ sunk_text test (room_behind n j) xs is else xs ++ j ∷ is) e

    never : (n : ℕ) (j : Instr) (is : List Instr) → ((z : Piece) → second_passes test z j ≡ false) → sunk_text test n xs (j ∷ is) ≡ xs ++ j ∷ is
    never n j is none = stops n j is (ap (λ b. b && has_room n j) (s.none j none))

    at_the_end : (n : ℕ) (behind : List Instr) → Ends behind → sunk_text test n xs behind ≡ text (stretch_before x Finished) behind
    at_the_end n [] e = sym (append-nil xs) ∙ sym (s.reads Finished [])
    at_the_end n (instr.Do a ∷ is) e = absurd e
    at_the_end n (instr.Send p rs ∷ is) e = absurd e
    at_the_end n (instr.Recv p rs ∷ is) e = absurd e
    at_the_end n (instr.If g ∷ is) e = absurd e
    at_the_end n (instr.Else ∷ is) e = never n instr.Else is (λ z. refl) ∙ sym (s.reads Finished (instr.Else ∷ is))
    at_the_end n (instr.For r k ∷ is) e = absurd e
    at_the_end n (instr.End ∷ is) e = never n instr.End is (λ z. refl) ∙ sym (s.reads Finished (instr.End ∷ is))

    -- before an action or a packet, or behind it
    act_by : (a : Action) (n : ℕ) (c : Code) (behind : List Instr) (b : Bool) → sunk_text test n xs (text c behind) ≡ text (sunk test n x c) behind
        → (if b then instr.Do a ∷ sunk_text test n xs (text c behind) else xs ++ instr.Do a ∷ text c behind)
        ≡ text (if b then Then a (sunk test n x c) else stretch_before x (Then a c)) behind
    act_by a n c behind true ih = ap (λ l. instr.Do a ∷ l) ih
    act_by a n c behind false ih = sym (s.reads (Then a c) behind)

    send_by : (p : ℕ) (rs : List Reg) (n : ℕ) (c : Code) (behind : List Instr) (b : Bool) → sunk_text test n xs (text c behind) ≡ text (sunk test n x c) behind
        → (if b then instr.Send (host p) rs ∷ sunk_text test n xs (text c behind) else xs ++ instr.Send (host p) rs ∷ text c behind)
        ≡ text (if b then Send p rs (sunk test n x c) else stretch_before x (Send p rs c)) behind
    send_by p rs n c behind true ih = ap (λ l. instr.Send (host p) rs ∷ l) ih
    send_by p rs n c behind false ih = sym (s.reads (Send p rs c) behind)

    sinks : (n : ℕ) (c : Code) (behind : List Instr) → Ends behind → sunk_text test n xs (text c behind) ≡ text (sunk test n x c) behind
    sinks n Finished behind e = at_the_end n behind e
    sinks n (Then a c) behind e =
        ap (λ b. if b then instr.Do a ∷ sunk_text test n xs (text c behind) else xs ++ instr.Do a ∷ text c behind)
        (and_true (stretch_passes test xs (instr.Do a)) ∙ s.tests (instr.Do a) (Acts a) (λ z. refl))
        ∙ act_by a n c behind (passes_stretch test x (Acts a)) (sinks n c behind e)
    sinks zero (Send p rs c) behind e =
        stops zero (instr.Send (host p) rs) (text c behind) (and_false (stretch_passes test xs (instr.Send (host p) rs))) ∙ sym (s.reads (Send p rs c) behind)
    sinks (suc n) (Send p rs c) behind e =
        ap (λ b. if b then instr.Send (host p) rs ∷ sunk_text test n xs (text c behind) else xs ++ instr.Send (host p) rs ∷ text c behind)
        (and_true (stretch_passes test xs (instr.Send (host p) rs)) ∙ s.tests (instr.Send (host p) rs) (Sends p rs) (λ z. refl))
        ∙ send_by p rs n c behind (passes_stretch test x (Sends p rs)) (sinks n c behind e)
    sinks n (Recv p rs c) behind e = never n (instr.Recv (host p) rs) (text c behind) (λ z. refl) ∙ sym (s.reads (Recv p rs c) behind)
    sinks n (Choose g first other c) behind e =
        never n (instr.If (register g)) (text first (instr.Else ∷ text other (instr.End ∷ text c behind))) (λ z. refl) ∙ sym (s.reads (Choose g first other c) behind)
    sinks n (Repeat r t k body c) behind e = never n (instr.For (register r) k) (text body (instr.End ∷ text c behind)) (λ z. refl) ∙ sym (s.reads (Repeat r t k body c) behind)

  module _ (n : ℕ) where
    -- a packet, or a mark that ends a part
    stays : (i : Instr) (is : List Instr) → ((j : Instr) → stretch_passes test (i ∷ []) j ≡ false) → sunk_text test n (i ∷ []) is ≡ i ∷ is
    stays i [] none = refl
    stays i (j ∷ is) none = ap (λ b. if b && has_room n j then j ∷ sunk_text test (room_behind n j) (i ∷ []) is else i ∷ j ∷ is) (none j)

    still_ends : (is : List Instr) → Ends is → Ends (hastened_text test n is)
    still_ends [] e = tt
    still_ends (instr.Do a ∷ is) e = absurd e
    still_ends (instr.Send p rs ∷ is) e = absurd e
    still_ends (instr.Recv p rs ∷ is) e = absurd e
    still_ends (instr.If g ∷ is) e = absurd e
    still_ends (instr.Else ∷ is) e = subst Ends (sym (stays instr.Else (hastened_text test n is) (λ j. refl))) tt
    still_ends (instr.For r k ∷ is) e = absurd e
    still_ends (instr.End ∷ is) e = subst Ends (sym (stays instr.End (hastened_text test n is) (λ j. refl))) tt

    -- what stands first is the block
    first_block : (whole block behind : List Instr) → whole ≡ block ++ behind → length block ≡ span 0 whole → sunk_first test n whole ≡ sunk_text test n block behind
    first_block whole block behind is long =
        ap₂ (λ (a b : List Instr). sunk_text test n a b) (ap (take (span 0 whole)) is ∙ take_at block behind (span 0 whole) long)
        (ap (drop (span 0 whole)) is ∙ drop_at block behind (span 0 whole) long)

    all_texts : (c : Code) (behind : List Instr) → Ends behind → hastened_text test n (text c behind) ≡ text (hastened test n c) (hastened_text test n behind)
    all_texts Finished behind e = refl
    all_texts (Then a c) behind e =
        ap (sunk_text test n (instr.Do a ∷ [])) (all_texts c behind e)
        ∙ sinks (One (Acts a)) (instr.Do a ∷ []) (act_stands a) n (hastened test n c) (hastened_text test n behind) (still_ends behind e)
    all_texts (Send p rs c) behind e =
        stays (instr.Send (host p) rs) (hastened_text test n (text c behind)) (λ j. refl) ∙ ap (λ l. instr.Send (host p) rs ∷ l) (all_texts c behind e)
    all_texts (Recv p rs c) behind e =
        ap (sunk_text test n (instr.Recv (host p) rs ∷ [])) (all_texts c behind e)
        ∙ sinks (One (Awaits p rs)) (instr.Recv (host p) rs ∷ []) (await_stands p rs) n (hastened test n c) (hastened_text test n behind) (still_ends behind e)
    all_texts (Choose g first other c) behind e =
        let f : Code = hastened test n first in
        let o : Code = hastened test n other in
        let rest = text (hastened test n c) (hastened_text test n behind) in
        let last = stays instr.End (hastened_text test n (text c behind)) (λ j. refl) ∙ ap (λ l. instr.End ∷ l) (all_texts c behind e) in
        let two = all_texts other (instr.End ∷ text c behind) tt ∙ ap (text o) last in
        let mid = stays instr.Else (hastened_text test n (text other (instr.End ∷ text c behind))) (λ j. refl) ∙ ap (λ l. instr.Else ∷ l) two in
        let one = all_texts first (instr.Else ∷ text other (instr.End ∷ text c behind)) tt ∙ ap (text f) mid in
        ap (λ l. sunk_first test n (instr.If (register g) ∷ l)) one
        ∙ first_block _ (branch_text g f o) rest (branch_split g f o rest) (branch_span g f o rest)
        ∙ sinks (Branch g f o) (branch_text g f o) (branch_stands g f o) n (hastened test n c) (hastened_text test n behind) (still_ends behind e)
    all_texts (Repeat r t k body c) behind e =
        let b : Code = hastened test n body in
        let rest = text (hastened test n c) (hastened_text test n behind) in
        let last = stays instr.End (hastened_text test n (text c behind)) (λ j. refl) ∙ ap (λ l. instr.End ∷ l) (all_texts c behind e) in
        let one = all_texts body (instr.End ∷ text c behind) tt ∙ ap (text b) last in
        ap (λ l. sunk_first test n (instr.For (register r) k ∷ l)) one
        ∙ first_block _ (loop_text r k b) rest (loop_split r k b rest) (loop_span r k b rest)
        ∙ sinks (Loop r t k b) (loop_text r k b) (loop_stands r t k b) n (hastened test n c) (hastened_text test n behind) (still_ends behind e)

  -- ---- no loop has begun

  abbrev StretchUnbegun : Stretch → Type 0
  StretchUnbegun x = IsUnbegun (stretch_before x Finished)

  before_unbegun : (x : Stretch) (c : Code) → StretchUnbegun x → IsUnbegun c → IsUnbegun (stretch_before x c)
  before_unbegun (One (Acts a)) c u v = v
  before_unbegun (One (Sends p rs)) c u v = v
  before_unbegun (One (Awaits p rs)) c u v = v
  before_unbegun (Branch g first other) c u v = (u.0, (u.1.0, v))
  before_unbegun (Loop r t n body) c u v = (u.0, (u.1.0, v))

  either_unbegun : (c d : Code) (b : Bool) → IsUnbegun c → IsUnbegun d → IsUnbegun (if b then c else d)
  either_unbegun c d true u v = u
  either_unbegun c d false u v = v

  sunk_unbegun : (n : ℕ) (x : Stretch) (c : Code) → StretchUnbegun x → IsUnbegun c → IsUnbegun (sunk test n x c)
  sunk_unbegun n x Finished u v = before_unbegun x Finished u v
  sunk_unbegun n x (Then a c) u v = either_unbegun (Then a (sunk test n x c)) (stretch_before x (Then a c)) (passes_stretch test x (Acts a)) (sunk_unbegun n x c u v) (before_unbegun x (Then a c) u v)
  sunk_unbegun zero x (Send p rs c) u v = before_unbegun x (Send p rs c) u v
  sunk_unbegun (suc n) x (Send p rs c) u v =
      either_unbegun (Send p rs (sunk test n x c)) (stretch_before x (Send p rs c)) (passes_stretch test x (Sends p rs)) (sunk_unbegun n x c u v) (before_unbegun x (Send p rs c) u v)
  sunk_unbegun n x (Recv p rs c) u v = before_unbegun x (Recv p rs c) u v
  sunk_unbegun n x (Choose g first other c) u v = before_unbegun x (Choose g first other c) u v
  sunk_unbegun n x (Repeat r t k body c) u v = before_unbegun x (Repeat r t k body c) u v

  still_unbegun : (n : ℕ) (c : Code) → IsUnbegun c → IsUnbegun (hastened test n c)
  still_unbegun n Finished u = tt
  still_unbegun n (Then a c) u = sunk_unbegun n (One (Acts a)) (hastened test n c) tt (still_unbegun n c u)
  still_unbegun n (Send p rs c) u = still_unbegun n c u
  still_unbegun n (Recv p rs c) u = sunk_unbegun n (One (Awaits p rs)) (hastened test n c) tt (still_unbegun n c u)
  still_unbegun n (Choose g first other c) u =
      sunk_unbegun n (Branch g (hastened test n first) (hastened test n other)) (hastened test n c) (still_unbegun n first u.0, (still_unbegun n other u.1.0, tt)) (still_unbegun n c u.1.1)
  still_unbegun n (Repeat r t k body c) u =
      sunk_unbegun n (Loop r t k (hastened test n body)) (hastened test n c) (u.0, (still_unbegun n body u.1.0, tt)) (still_unbegun n c u.1.1)

-- ---- all of it

pub text_passed : (test : Piece → Piece → Bool) (n : ℕ) (is : List Instr) (c : Code) → IsCodeOf is c → IsCodeOf (hastened_text test n is) (hastened test n c)
text_passed test n is c e =
    let u : IsUnbegun c = code_unbegun is c e in
    let same : hastened_text test n is ≡ text (hastened test n c) [] = ap (hastened_text test n) (sym (written_back is c e)) ∙ all_texts test n c [] tt in
    ap read same ∙ read_back (hastened test n c) (still_unbegun test n c u)

-- by the careful pass
pub hastened_is : (opened : List Reg) (text : List Instr) (c : Code) → IsCodeOf text c → IsHastenedText opened (hastened_by opened text) c
hastened_is opened text c is = record {
  nested = text_passed (careful (stays_by opened)) window text c is;
  careful = careful_passes (stays_by opened) window c;
}

pub each_text : (opened : List Reg) (code result : List Instr) → result ≡ hastened_by opened code → (nested : Code) → IsCodeOf code nested → IsHastenedText opened result nested
each_text opened code result same nested is = subst (λ t. IsHastenedText opened t nested) (sym same) (hastened_is opened code nested is)
