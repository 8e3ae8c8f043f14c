-- Which neighbours in joint code may be exchanged.
use Rattle.std.specs.Prelude.{◌≡◌, ◌≢◌, ℕ, true, false, List}
use Rattle.vd_execution.specs.declared.instructions.Reg.{Reg}
use Rattle.vd_execution.specs.declared.instructions.Action.{Action}
use Rattle.vd_execution.specs.Registers.{Registers, put_each, written}
use Rattle.vd_execution.specs.Step.{Need, words_in}
use Rattle.vd_reorder.specs.Neighbours.{AreApart, IsPlain, ListsDiffer}
use Rattle.vd_reorder.specs.ReorderLawsTesting.{is_simple, reads}
use Rattle.vd_reorder.specs.Turning.{Turn, Does, Tells, MayTurn}

-- Two hosts act by themselves.
abbrev pub ActsApart : Type 0
ActsApart = (g h : ℕ) (a b : Action) → g ≢ h → MayTurn (Does g a) (Does h b)

-- One host does two acts that print and compare nothing, take from different lists, and leave the same registers in either order.
abbrev pub ActsAtOne : Type 0
ActsAtOne = (h : ℕ) (a b : Action) (m n : Need) → is_simple a ≡ true → is_simple b ≡ true → IsPlain a m → IsPlain b n → ListsDiffer m n
    → ((f : Registers) (xs ys : List ℕ) → written (written f a xs) b ys ≡ written (written f b ys) a xs) → MayTurn (Does h a) (Does h b)

-- A host acts, and a message is told. Where the host that acts is the sender it leaves the words that are told, and where it is the
-- receiver it is the same before the registers are filled and behind it.
pub record IsBeside (h : ℕ) (a : Action) (from : ℕ) (said : List Reg) (to : ℕ) (heard : List Reg) : Type 0 where
  pub leaves : h ≡ from → (f : Registers) (xs : List ℕ) → words_in (written f a xs) said ≡ words_in f said
  pub passes : h ≡ to → (f : Registers) (xs ys : List ℕ) → written (put_each f heard xs) a ys ≡ put_each (written f a ys) heard xs

abbrev pub ActBesideMessage : Type 0
ActBesideMessage = (h : ℕ) (a : Action) (n : Need) (from : ℕ) (said : List Reg) (to : ℕ) (heard : List Reg) → is_simple a ≡ true → IsPlain a n
    → from ≢ to → IsBeside h a from said to heard → MayTurn (Does h a) (Tells from said to heard)

abbrev pub MessageBesideAct : Type 0
MessageBesideAct = (h : ℕ) (a : Action) (n : Need) (from : ℕ) (said : List Reg) (to : ℕ) (heard : List Reg) → is_simple a ≡ true → IsPlain a n
    → from ≢ to → IsBeside h a from said to heard → MayTurn (Tells from said to heard) (Does h a)

-- Two messages: none fills a register that the other sends, and at one receiver they fill different ones.
pub record AreBeside (a : ℕ) (said : List Reg) (b : ℕ) (heard : List Reg) (c : ℕ) (says : List Reg) (d : ℕ) (hears : List Reg) : Type 0 where
  pub first : b ≡ c → AreApart says heard
  pub second : d ≡ a → AreApart said hears
  pub filled : b ≡ d → AreApart heard hears

abbrev pub MessagesApart : Type 0
MessagesApart = (a : ℕ) (said : List Reg) (b : ℕ) (heard : List Reg) (c : ℕ) (says : List Reg) (d : ℕ) (hears : List Reg) → a ≢ b → c ≢ d
    → AreBeside a said b heard c says d hears → MayTurn (Tells a said b heard) (Tells c says d hears)

-- ---- what is printed or compared

-- A host prints or compares, and does another act: where that leaves the words that are printed or compared, either may stand first.
abbrev pub ShownBesideAct : Type 0
ShownBesideAct = (h : ℕ) (a b : Action) (n : Need) → is_simple a ≡ false → is_simple b ≡ true → IsPlain b n
    → ((f : Registers) (xs : List ℕ) → words_in (written f b xs) (reads a) ≡ words_in f (reads a)) → MayTurn (Does h a) (Does h b) × MayTurn (Does h b) (Does h a)

-- A host prints or compares, and a message is told: where the host receives it, it fills other registers.
abbrev pub ShownBesideMessage : Type 0
ShownBesideMessage = (h : ℕ) (a : Action) (from : ℕ) (said : List Reg) (to : ℕ) (heard : List Reg) → is_simple a ≡ false → from ≢ to
    → (h ≡ to → AreApart (reads a) heard) → MayTurn (Does h a) (Tells from said to heard) × MayTurn (Tells from said to heard) (Does h a)
