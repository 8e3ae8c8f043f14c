-- Instructions that do not touch a register.
use Rattle.std.proofs.Common.{◌≡◌, ◌≢◌, ℕ, zero, suc, nat_eq, Bool, true, false, ◌||◌, if◌then◌else◌, List, [], ◌∷◌, ◌++◌, Option, Some, None, refl, sym, ap, ◌∙◌}
use Rattle.std.proofs.lemmas.Bool.{eq-eqb}
use Rattle.std.proofs.lemmas.List.{append_assoc}
use Rattle.vd_execution.specs.declared.instructions.Reg.{Reg}
use Rattle.vd_execution.specs.declared.instructions.Action.{Action}
use Rattle.vd_execution.specs.declared.instructions.Action.TheVariants as action
use Rattle.vd_execution.specs.declared.instructions.Instr.{Instr}
use Rattle.vd_execution.specs.declared.instructions.Instr.TheVariants as instr
use Rattle.vd_execution.specs.Registers.{Registers, put, put_each, written}
use Rattle.vd_execution.specs.Code.{Code, Finished, Then, Recv}
use Rattle.vd_execution.specs.Step.{State, deed, deed_of_print, word_printed, words_in, next}
use Rattle.vd_execution.specs.World.{Local, done, moved_on}
use Rattle.vd_execution.proofs.Front.{put_same, put_other, put_commutes, put_itself}
use Rattle.vd_reorder.specs.Hastening.{Acts, Awaits, at, MayPass}
use Rattle.vd_reorder.specs.ReorderLawsTesting.{is_simple, reads, writes, has, meet, may}
use Rattle.vd_reorder.proofs.ReorderLawsTesting.{sound}
use Rattle.vd_reorder.specs.Packets.{touches}
use Rattle.vd_reorder.proofs.InRows.{meet_turned}
use Rattle.vd_reorder.specs.Blind.{Did, effect, behind, told_by, told, IsLeft, AllLeft}

-- ---- an action

abbrev host : Registers → Local
host f = record {
  state = record { pending = Finished; registers = f; cursors = λ s. zero };
  printed = [];
  sent = λ p. [];
  taken = λ p. zero;
}

print_state : (l : Local) (m : State) (o : Option ℕ) → (done l m (deed_of_print o)).state ≡ m
print_state l m None = refl
print_state l m (Some x) = refl

-- what an action writes, by a step of a host
acted : (l : Local) (a : Action) (c : Code) (ys : List ℕ) → (moved_on (at l (Then a c)) ys).state ≡ next (at l (Then a c)).state ys
acted l a c ys = print_state (at l (Then a c)) (next (at l (Then a c)).state ys) (word_printed l.state.registers a)

acted_registers : (l : Local) (a : Action) (c : Code) (ys : List ℕ) → (moved_on (at l (Then a c)) ys).state.registers ≡ written l.state.registers a ys
acted_registers l a c ys = ap (λ (m : State). m.registers) (acted l a c ys)

plain : (a : Action) (b : Bool) → is_simple a ≡ b → b ≡ false → (f : Registers) (xs : List ℕ) → written f a xs ≡ f
plain (action.Const r k) b e n f xs = absurd cc
plain (action.Copy r x) b e n f xs = absurd cc
plain (action.Apply o r x y) b e n f xs = absurd cc
plain (action.Shl r x k) b e n f xs = absurd cc
plain (action.Shr r x k) b e n f xs = absurd cc
plain (action.Mux r c x y) b e n f xs = absurd cc
plain (action.Own r) b e n f xs = absurd cc
plain (action.Triple p x y z) b e n f xs = absurd cc
plain (action.Bits p x y z) b e n f xs = absurd cc
plain (action.Pair p s x) b e n f xs = absurd cc
plain (action.Input r) b e n f xs = absurd cc
plain (action.Print r) b e n f xs = refl
plain (action.Hash d k v) b e n f xs = absurd cc
plain (action.Same x y) b e n f xs = refl
plain (action.Zero r k) b e n f xs = absurd cc
plain (action.Get r x k i) b e n f xs = absurd cc
plain (action.Put x k i s) b e n f xs = absurd cc

met_one : (r : Reg) (rs : List Reg) → has r rs ≡ false → meet rs (r ∷ []) ≡ false
met_one r rs e = meet_turned rs (r ∷ []) ∙ ap (λ b. if b then true else false) e

all_three : (a b c : Bool) → a ≡ true → b ≡ false → c ≡ false → (if a then (if b then false else (if c then false else true)) else false) ≡ true
all_three true false false e f g = refl
all_three true false true e f g = absurd cc
all_three true true c e f g = absurd cc
all_three false b c e f g = absurd cc

-- an action past a register that it neither reads nor writes
past_one : (a : Action) (r : Reg) → is_simple a ≡ true → has r (reads a) ≡ false → has r (writes a) ≡ false → (f : Registers) (y : ℕ) (ys : List ℕ)
    → written (put f r.0 y) a ys ≡ put (written f a ys) r.0 y
past_one a r simple none_read none_written f y ys =
    let passes : may (Awaits 0 (r ∷ [])) (Acts a) ≡ true =
    all_three (is_simple a) (meet (reads a) (r ∷ [])) (meet (writes a) (r ∷ [])) simple (met_one r (reads a) none_read) (met_one r (writes a) none_written) in
    let m : MayPass (Awaits 0 (r ∷ [])) (Acts a) = sound (Awaits 0 (r ∷ [])) (Acts a) passes in
    let first : Local = moved_on (at (host f) (Recv 0 (r ∷ []) (Then a Finished))) (y ∷ []) in
    let other : Local = moved_on (at (host f) (Then a (Recv 0 (r ∷ []) Finished))) ys in
    sym (acted_registers first a Finished ys)
    ∙ ap (λ (l : Local). l.state.registers) (m.same (host f) Finished (y ∷ []) ys)
    ∙ ap (λ (m : State). (done other (next m (y ∷ [])) (deed m)).state.registers) (acted (host f) a (Recv 0 (r ∷ []) Finished) ys)

any_action : (a : Action) (r : Reg) (b : Bool) → is_simple a ≡ b → has r (reads a) ≡ false → has r (writes a) ≡ false → (f : Registers) (y : ℕ) (ys : List ℕ)
    → written (put f r.0 y) a ys ≡ put (written f a ys) r.0 y
any_action a r true e none_read none_written f y ys = past_one a r e none_read none_written f y ys
any_action a r false e none_read none_written f y ys = plain a false e refl (put f r.0 y) ys ∙ ap (λ (g : Registers). put g r.0 y) (sym (plain a false e refl f ys))

-- ---- a receive

pub not_that : (r q : Reg) (qs : List Reg) (b : Bool) → nat_eq r.0 q.0 ≡ b → (if b then true else has r qs) ≡ false → (r.0 ≢ q.0) × (has r qs ≡ false)
not_that r q qs true e f = absurd cc
not_that r q qs false e f = ((λ same. let t = eq-eqb r.0 q.0 same in cc), f)

past_words : (f : Registers) (r : Reg) (y : ℕ) (qs : List Reg) (xs : List ℕ) → has r qs ≡ false → put_each (put f r.0 y) qs xs ≡ put (put_each f qs xs) r.0 y
past_words f r y [] xs e = refl
past_words f r y (q ∷ qs) [] e = refl
past_words f r y (q ∷ qs) (x ∷ xs) e =
    let n = not_that r q qs (nat_eq r.0 q.0) refl e in
    ap (λ g. put_each g qs xs) (put_commutes f r.0 q.0 y x n.0) ∙ past_words (put f q.0 x) r y qs xs n.1

-- ---- all that does not touch the register

pub neither : (a b : Bool) → (a || b) ≡ false → (a ≡ false) × (b ≡ false)
neither true b e = absurd cc
neither false b e = (refl, e)

past_instruction : (i : Instr) (r : Reg) → touches r i ≡ false → (f : Registers) (y : ℕ) (xs : List ℕ) → effect (put f r.0 y) i xs ≡ put (effect f i xs) r.0 y
past_instruction (instr.Do a) r e f y xs = let n = neither (has r (reads a)) (has r (writes a)) e in any_action a r (is_simple a) refl n.0 n.1 f y xs
past_instruction (instr.Send p rs) r e f y xs = refl
past_instruction (instr.Recv p rs) r e f y xs = past_words f r y rs xs e
past_instruction (instr.If g) r e f y xs = refl
past_instruction instr.Else r e f y xs = refl
past_instruction (instr.For k n) r e f y xs = refl
past_instruction instr.End r e f y xs = refl

abbrev pub AllLeave : Reg → List Did → Type 0
AllLeave r [] = Unit {0}
AllLeave r (d ∷ later) = (touches r d.instruction ≡ false) × AllLeave r later

pub behind_append : (f : Registers) (later earlier : List Did) → behind f (later ++ earlier) ≡ behind (behind f earlier) later
behind_append f [] earlier = refl
behind_append f (d ∷ later) earlier = ap (λ g. effect g d.instruction d.got) (behind_append f later earlier)

pub past_all : (later : List Did) (r : Reg) → AllLeave r later → (f : Registers) (y : ℕ) → behind (put f r.0 y) later ≡ put (behind f later) r.0 y
past_all [] r leave f y = refl
past_all (d ∷ later) r leave f y =
    ap (λ g. effect g d.instruction d.got) (past_all later r leave.1 f y) ∙ past_instruction d.instruction r leave.0 (behind f later) y d.got

-- so its word stays
pub stays : (later : List Did) (r : Reg) → AllLeave r later → (f : Registers) → behind f later r.0 ≡ f r.0
stays later r leave f =
    ap (λ g. behind g later r.0) (sym (put_itself f r.0))
    ∙ ap (λ g. g r.0) (past_all later r leave f (f r.0))
    ∙ put_same (behind f later) r.0 (f r.0)

-- ---- what was told

past_words_in : (f : Registers) (r : Reg) (y : ℕ) (qs : List Reg) → has r qs ≡ false → words_in (put f r.0 y) qs ≡ words_in f qs
past_words_in f r y [] e = refl
past_words_in f r y (q ∷ qs) e =
    let n = not_that r q qs (nat_eq r.0 q.0) refl e in
    ap (λ x. x ∷ words_in (put f r.0 y) qs) (put_other f r.0 y q.0 (λ same. n.0 (sym same))) ∙ ap (λ l. f q.0 ∷ l) (past_words_in f r y qs n.1)

past_told_by : (i : Instr) (r : Reg) → touches r i ≡ false → (f : Registers) (y : ℕ) → told_by (put f r.0 y) i ≡ told_by f i
past_told_by (instr.Do a) r e f y = refl
past_told_by (instr.Send p rs) r e f y = ap (λ l. l ∷ []) (past_words_in f r y rs e)
past_told_by (instr.Recv p rs) r e f y = refl
past_told_by (instr.If g) r e f y = refl
past_told_by instr.Else r e f y = refl
past_told_by (instr.For k n) r e f y = refl
past_told_by instr.End r e f y = refl

pub told_past : (later : List Did) (r : Reg) → AllLeave r later → (f : Registers) (y : ℕ) → told (put f r.0 y) later ≡ told f later
told_past [] r leave f y = refl
told_past (d ∷ later) r leave f y =
    ap (λ g. told_by g d.instruction ++ told (put f r.0 y) later) (past_all later r leave.1 f y)
    ∙ ap (λ l. l ++ told (put f r.0 y) later) (past_told_by d.instruction r leave.0 (behind f later) y)
    ∙ ap (λ l. told_by (behind f later) d.instruction ++ l) (told_past later r leave.1 f y)

pub told_append : (f : Registers) (later earlier : List Did) → told f (later ++ earlier) ≡ told (behind f earlier) later ++ told f earlier
told_append f [] earlier = refl
told_append f (d ∷ later) earlier =
    ap (λ g. told_by g d.instruction ++ told f (later ++ earlier)) (behind_append f later earlier)
    ∙ ap (λ l. told_by (behind (behind f earlier) later) d.instruction ++ l) (told_append f later earlier)
    ∙ sym (append_assoc (told_by (behind (behind f earlier) later) d.instruction) (told (behind f earlier) later) (told f earlier))

-- ---- parts of what leaves a register

pub leave_parts : (r : Reg) (later rest : List Did) → AllLeave r (later ++ rest) → AllLeave r later × AllLeave r rest
leave_parts r [] rest leave = (tt, leave)
leave_parts r (d ∷ later) rest leave = let n = leave_parts r later rest leave.1 in ((leave.0, n.0), n.1)

is_left : (r : Reg) (i : Instr) → touches r i ≡ false → IsLeft r i
is_left r (instr.Do a) e = neither (has r (reads a)) (has r (writes a)) e
is_left r (instr.Send p rs) e = e
is_left r (instr.Recv p rs) e = e
is_left r (instr.If g) e = absurd cc
is_left r instr.Else e = absurd cc
is_left r (instr.For k n) e = absurd cc
is_left r instr.End e = absurd cc

pub all_left : (r : Reg) (later : List Did) → AllLeave r later → AllLeft r later
all_left r [] leave = tt
all_left r (d ∷ later) leave = (is_left r d.instruction leave.0, all_left r later leave.1)
