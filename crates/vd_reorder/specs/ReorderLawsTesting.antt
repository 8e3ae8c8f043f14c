-- A test for neighbours that may be exchanged, by the registers that they read and write: independent instructions, as in the
-- scheduling of instructions.
use Rattle.std.specs.Prelude.{◌≡◌, ℕ, zero, suc, ◌+◌, nat_eq, if◌then◌else◌, Bool, true, false, List, [], ◌∷◌}
use Rattle.vd_execution.specs.declared.instructions.Reg.{Reg}
use Rattle.vd_execution.specs.declared.instructions.Action.{Action}
use Rattle.vd_execution.specs.declared.instructions.Action.TheVariants as action
use Rattle.vd_execution.specs.declared.instructions.Binary.TheVariants as binary
use Rattle.vd_execution.specs.Code.{Code, Finished, Then, Send, Recv, Choose, Repeat}
use Rattle.vd_execution.specs.Step.{Inputs, OwnWords, Triples, BitTriples, Pairs, Need, Nothing, Item, Packet, Unequal, Ended, same_source}
use Rattle.vd_execution.specs.Text.{register}
use Rattle.vd_reorder.specs.Hastening.{Piece, Acts, Sends, Awaits, IsHastened}
use Rattle.vd_reorder.specs.ReorderLawsPassing.{IsSoundTest, hastened}

-- actions that print and compare nothing
abbrev pub is_simple : Action → Bool
is_simple (action.Const r k) = true
is_simple (action.Copy r x) = true
is_simple (action.Apply o r x y) = true
is_simple (action.Shl r x k) = true
is_simple (action.Shr r x k) = true
is_simple (action.Mux r c x y) = true
is_simple (action.Own r) = true
is_simple (action.Triple p a b c) = true
is_simple (action.Bits p a b c) = true
is_simple (action.Pair p s x) = true
is_simple (action.Input r) = true
is_simple (action.Print r) = false
is_simple (action.Hash d n v) = true
is_simple (action.Same x y) = false
is_simple (action.Zero r count) = true
is_simple (action.Get r x count i) = true
is_simple (action.Put x count i s) = true

-- the one action that prints
abbrev pub is_print : Action → Bool
is_print (action.Print r) = true
is_print a = false

-- so many registers in a row, from this one on
abbrev pub row : ℕ → ℕ → List Reg
row r zero = []
row r (suc count) = register r ∷ row (r + 1) count

-- the registers that an action reads; of an array that is read or written to, all of its registers
abbrev pub reads : Action → List Reg
reads (action.Const r k) = []
reads (action.Copy r x) = x ∷ []
reads (action.Apply o r x y) = x ∷ y ∷ []
reads (action.Shl r x k) = x ∷ []
reads (action.Shr r x k) = x ∷ []
reads (action.Mux r c x y) = c ∷ x ∷ y ∷ []
reads (action.Own r) = []
reads (action.Triple p a b c) = []
reads (action.Bits p a b c) = []
reads (action.Pair p s x) = []
reads (action.Input r) = []
reads (action.Print r) = r ∷ []
reads (action.Hash d n v) = v ∷ row n.0 8
reads (action.Same x y) = x ∷ y ∷ []
reads (action.Zero r count) = []
reads (action.Get r x count i) = i ∷ row x.0 count
reads (action.Put x count i s) = i ∷ s ∷ row x.0 count

-- the registers that it may change
abbrev pub writes : Action → List Reg
writes (action.Const r k) = r ∷ []
writes (action.Copy r x) = r ∷ []
writes (action.Apply o r x y) = r ∷ []
writes (action.Shl r x k) = r ∷ []
writes (action.Shr r x k) = r ∷ []
writes (action.Mux r c x y) = r ∷ []
writes (action.Own r) = r ∷ []
writes (action.Triple p a b c) = a ∷ b ∷ c ∷ []
writes (action.Bits p a b c) = a ∷ b ∷ c ∷ []
writes (action.Pair p s x) = s ∷ x ∷ []
writes (action.Input r) = r ∷ []
writes (action.Print r) = []
writes (action.Hash d n v) = row d.0 8
writes (action.Same x y) = []
writes (action.Zero r count) = row r.0 count
writes (action.Get r x count i) = r ∷ []
writes (action.Put x count i s) = row x.0 count

-- what it needs before it can be done, whatever stands in the registers
abbrev pub needs : Action → Need
needs (action.Const r k) = Nothing
needs (action.Copy r x) = Nothing
needs (action.Apply o r x y) = Nothing
needs (action.Shl r x k) = Nothing
needs (action.Shr r x k) = Nothing
needs (action.Mux r c x y) = Nothing
needs (action.Own r) = Item OwnWords
needs (action.Triple p a b c) = Item (Triples p.0)
needs (action.Bits p a b c) = Item (BitTriples p.0)
needs (action.Pair p s x) = Item (Pairs p.0)
needs (action.Input r) = Item Inputs
needs (action.Print r) = Nothing
needs (action.Hash d n v) = Nothing
needs (action.Same x y) = Nothing
needs (action.Zero r count) = Nothing
needs (action.Get r x count i) = Nothing
needs (action.Put x count i s) = Nothing

-- a register among others, and two lists of registers that have one in common
abbrev pub has : Reg → List Reg → Bool
has r [] = false
has r (q ∷ qs) = if nat_eq r.0 q.0 then true else has r qs

abbrev pub meet : List Reg → List Reg → Bool
meet [] qs = false
meet (r ∷ rs) qs = if has r qs then true else meet rs qs

-- a list from which both take
abbrev pub share_list : Need → Need → Bool
share_list Nothing m = false
share_list (Item s) Nothing = false
share_list (Item s) (Item r) = if same_source s r then true else same_source r s
share_list (Item s) (Packet p n) = false
share_list (Item s) (Unequal x y) = false
share_list (Item s) Ended = false
share_list (Packet p n) m = false
share_list (Unequal x y) m = false
share_list Ended m = false

-- two actions that print and compare nothing
abbrev pub both_may : Action → Action → Bool
both_may b a =
    if share_list (needs b) (needs a) then false else (if meet (reads a) (writes b) then false else (if meet (reads b) (writes a) then false
    else (if meet (writes b) (writes a) then false else true)))

-- The second of the two may stand before the first: it is no receive, prints and compares nothing; the first compares nothing; neither
-- writes what the other reads or writes; they take from different lists; and they are no two packets to one peer.
abbrev pub may : Piece → Piece → Bool
may (Awaits q qs) (Sends p rs) = if meet rs qs then false else true
may (Sends q qs) (Sends p rs) = if nat_eq q p then false else true
may (Acts b) (Sends p rs) = if is_simple b then (if meet rs (writes b) then false else true) else is_print b
may (Awaits q qs) (Acts a) = if is_simple a then (if meet (reads a) qs then false else (if meet (writes a) qs then false else true)) else false
may (Sends q qs) (Acts a) = if is_simple a then (if meet qs (writes a) then false else true) else false
may (Acts b) (Acts a) =
    if is_simple a then (if is_simple b then both_may b a else (if is_print b then (if meet (reads b) (writes a) then false else true) else false)) else false
may (Acts b) (Awaits p rs) = false
may (Sends q qs) (Awaits p rs) = false
may (Awaits q qs) (Awaits p rs) = false

abbrev pub TestIsSound : Type 0
TestIsSound = IsSoundTest may

-- Each code is hastened by this test.
abbrev pub EachCodeIsHastened : Type 0
EachCodeIsHastened = (n : ℕ) (c : Code) → IsHastened c (hastened may n c)

-- Two products of a pair of hosts, as one of them makes them: the second's masked operand goes out before the first's answer is awaited.
abbrev pub two_openings : Code
two_openings =
    Then (action.Apply binary.Xor (register 2) (register 0) (register 1))
    (Send 1 (register 2 ∷ [])
    (Recv 1 (register 3 ∷ [])
    (Then (action.Apply binary.Xor (register 4) (register 2) (register 3))
    (Then (action.Apply binary.Xor (register 7) (register 5) (register 6))
    (Send 1 (register 7 ∷ [])
    (Recv 1 (register 8 ∷ []) Finished))))))

abbrev pub both_sent_first : Code
both_sent_first =
    Then (action.Apply binary.Xor (register 2) (register 0) (register 1))
    (Send 1 (register 2 ∷ [])
    (Then (action.Apply binary.Xor (register 7) (register 5) (register 6))
    (Send 1 (register 7 ∷ [])
    (Recv 1 (register 3 ∷ [])
    (Then (action.Apply binary.Xor (register 4) (register 2) (register 3))
    (Recv 1 (register 8 ∷ []) Finished))))))

-- where nothing that is awaited may be passed by a send
abbrev pub none_sent_first : Code
none_sent_first =
    Then (action.Apply binary.Xor (register 2) (register 0) (register 1))
    (Send 1 (register 2 ∷ [])
    (Then (action.Apply binary.Xor (register 7) (register 5) (register 6))
    (Recv 1 (register 3 ∷ [])
    (Then (action.Apply binary.Xor (register 4) (register 2) (register 3))
    (Send 1 (register 7 ∷ [])
    (Recv 1 (register 8 ∷ []) Finished))))))

abbrev pub OpeningsAreHastened : Type 0
OpeningsAreHastened = (hastened may 1 two_openings ≡ both_sent_first) × (hastened may 0 two_openings ≡ none_sent_first)

-- A digest of an own word, as a host makes it behind an answer that it prints and that chooses a word of an array.
abbrev pub digest_last : Code
digest_last =
    Recv 1 (register 40 ∷ [])
    (Then (action.Print (register 40))
    (Then (action.Get (register 41) (register 20) 4 (register 40))
    (Then (action.Hash (register 8) (register 0) (register 16))
    (Send 1 (row 8 8) Finished))))

abbrev pub digest_first : Code
digest_first =
    Then (action.Hash (register 8) (register 0) (register 16))
    (Send 1 (row 8 8)
    (Recv 1 (register 40 ∷ [])
    (Then (action.Get (register 41) (register 20) 4 (register 40))
    (Then (action.Print (register 40)) Finished))))

-- It goes out before the answer is awaited, and what hangs on the answer stays behind it.
abbrev pub DigestsAreHastened : Type 0
DigestsAreHastened = hastened may 1 digest_last ≡ digest_first

-- An answer chooses what is done with words of the host; the operand that is sent then does not hang on it.
abbrev pub branch_passed_last : Code
branch_passed_last =
    Recv 1 (register 3 ∷ [])
    (Choose 3 (Then (action.Copy (register 4) (register 5)) Finished) (Then (action.Copy (register 4) (register 6)) Finished)
    (Then (action.Apply binary.Xor (register 7) (register 5) (register 6))
    (Send 1 (register 7 ∷ []) Finished)))

abbrev pub branch_passed_first : Code
branch_passed_first =
    Then (action.Apply binary.Xor (register 7) (register 5) (register 6))
    (Send 1 (register 7 ∷ [])
    (Recv 1 (register 3 ∷ [])
    (Choose 3 (Then (action.Copy (register 4) (register 5)) Finished) (Then (action.Copy (register 4) (register 6)) Finished) Finished)))

-- A loop adds the answer to itself some times.
abbrev pub loop_passed_last : Code
loop_passed_last =
    Recv 1 (register 3 ∷ [])
    (Repeat 8 0 4 (Then (action.Apply binary.Add (register 3) (register 3) (register 3)) Finished)
    (Then (action.Apply binary.Xor (register 7) (register 5) (register 6))
    (Send 1 (register 7 ∷ []) Finished)))

abbrev pub loop_passed_first : Code
loop_passed_first =
    Then (action.Apply binary.Xor (register 7) (register 5) (register 6))
    (Send 1 (register 7 ∷ [])
    (Recv 1 (register 3 ∷ [])
    (Repeat 8 0 4 (Then (action.Apply binary.Add (register 3) (register 3) (register 3)) Finished) Finished)))

-- The operand goes out before the answer is awaited, past the whole block.
abbrev pub BlocksArePassed : Type 0
BlocksArePassed = (hastened may 1 branch_passed_last ≡ branch_passed_first) × (hastened may 1 loop_passed_last ≡ loop_passed_first)
