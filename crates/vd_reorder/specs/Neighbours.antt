-- Which neighbours may be exchanged.
use Rattle.std.specs.Prelude.{◌≡◌, ◌≢◌, ℕ, false, List, [], ◌∷◌, None}
use Rattle.vd_execution.specs.declared.instructions.Reg.{Reg}
use Rattle.vd_execution.specs.declared.instructions.Action.{Action}
use Rattle.vd_execution.specs.declared.instructions.Action.TheVariants as action
use Rattle.vd_execution.specs.Registers.{Registers, put_each, written}
use Rattle.vd_execution.specs.Step.{Need, Nothing, Item, Packet, Unequal, Ended, same_source, need_of_action, word_printed, words_in}
use Rattle.vd_reorder.specs.Hastening.{Acts, Sends, Awaits, MayPass}

abbrev pub IsItemOrNothing : Need → Type 0
IsItemOrNothing Nothing = Unit {0}
IsItemOrNothing (Item s) = Unit {0}
IsItemOrNothing (Packet p n) = ⊥
IsItemOrNothing (Unequal x y) = ⊥
IsItemOrNothing Ended = ⊥

-- an action that prints nothing, compares nothing, and needs the same whatever stands in the registers
pub record IsPlain (a : Action) (n : Need) : Type 0 where
  pub needs : (f : Registers) → need_of_action f a ≡ n
  pub silent : (f : Registers) → word_printed f a ≡ None
  pub has : IsItemOrNothing n

-- no list from which both take
abbrev pub ListsDiffer : Need → Need → Type 0
ListsDiffer Nothing m = Unit {0}
ListsDiffer (Item s) Nothing = Unit {0}
ListsDiffer (Item s) (Item r) = (same_source s r ≡ false) × (same_source r s ≡ false)
ListsDiffer (Item s) (Packet p n) = Unit {0}
ListsDiffer (Item s) (Unequal x y) = Unit {0}
ListsDiffer (Item s) Ended = Unit {0}
ListsDiffer (Packet p n) m = Unit {0}
ListsDiffer (Unequal x y) m = Unit {0}
ListsDiffer Ended m = Unit {0}

-- none of the one stands in the other
abbrev pub IsApart : Reg → List Reg → Type 0
IsApart r [] = Unit {0}
IsApart r (q ∷ qs) = (r.0 ≢ q.0) × IsApart r qs

abbrev pub AreApart : List Reg → List Reg → Type 0
AreApart [] qs = Unit {0}
AreApart (r ∷ rs) qs = IsApart r qs × AreApart rs qs

-- A packet may go before a receive that does not fill its registers,
abbrev pub SendBeforeReceive : Type 0
SendBeforeReceive = (q p : ℕ) (qs rs : List Reg) → AreApart rs qs → MayPass (Awaits q qs) (Sends p rs)

-- before a packet to another peer,
abbrev pub SendBeforeSend : Type 0
SendBeforeSend = (q p : ℕ) (qs rs : List Reg) → q ≢ p → MayPass (Sends q qs) (Sends p rs)

-- before an action that leaves its words as they are,
abbrev pub SendBeforeAction : Type 0
SendBeforeAction = (b : Action) (m : Need) (p : ℕ) (rs : List Reg) → IsPlain b m
    → ((f : Registers) (xs : List ℕ) → words_in (written f b xs) rs ≡ words_in f rs) → MayPass (Acts b) (Sends p rs)

-- and before a printed word.
abbrev pub SendBeforePrint : Type 0
SendBeforePrint = (r : Reg) (p : ℕ) (rs : List Reg) → MayPass (Acts (action.Print r)) (Sends p rs)

-- An action may stand before a receive with which it commutes,
abbrev pub ActionBeforeReceive : Type 0
ActionBeforeReceive = (q : ℕ) (qs : List Reg) (a : Action) (n : Need) → IsPlain a n
    → ((f : Registers) (xs ys : List ℕ) → written (put_each f qs xs) a ys ≡ put_each (written f a ys) qs xs) → MayPass (Awaits q qs) (Acts a)

-- before a packet whose words it leaves as they are,
abbrev pub ActionBeforeSend : Type 0
ActionBeforeSend = (q : ℕ) (qs : List Reg) (a : Action) (n : Need) → IsPlain a n
    → ((f : Registers) (ys : List ℕ) → words_in (written f a ys) qs ≡ words_in f qs) → MayPass (Sends q qs) (Acts a)

-- before a printed word that it leaves as it is,
abbrev pub ActionBeforePrint : Type 0
ActionBeforePrint = (r : Reg) (a : Action) (n : Need) → IsPlain a n → ((f : Registers) (ys : List ℕ) → written f a ys r.0 ≡ f r.0) → MayPass (Acts (action.Print r)) (Acts a)

-- and before another action with which it commutes and which takes from another list.
abbrev pub ActionBeforeAction : Type 0
ActionBeforeAction = (b a : Action) (m n : Need) → IsPlain b m → IsPlain a n → ListsDiffer m n
    → ((f : Registers) (xs ys : List ℕ) → written (written f b xs) a ys ≡ written (written f a ys) b xs) → MayPass (Acts b) (Acts a)
