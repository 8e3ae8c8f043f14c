-- Gadgets: the seven forms in which hosts act. A back end and the splitter append nothing else, so it is known of each message
-- whether it is a clear word, a fresh random word, a part of a word that is opened, or a word masked by a dealt item.
use Rattle.std.specs.Prelude.{◌≡◌, ◌≢◌, ℕ, ◌^◌, List, [], ◌∷◌, ◌++◌, ◌<◌, length}
use Rattle.vd_base.specs.declared.ids.HostId.{HostId}
use Rattle.vd_execution.specs.declared.instructions.Reg.{Reg}
use Rattle.vd_execution.specs.declared.instructions.Binary.{Binary}
use Rattle.vd_execution.specs.declared.instructions.Binary.TheVariants as binary
use Rattle.vd_execution.specs.declared.instructions.Action.{Action}
use Rattle.vd_execution.specs.declared.instructions.Action.TheVariants as action
use Rattle.vd_execution.specs.declared.instructions.Act.{Act}
use Rattle.vd_execution.specs.declared.instructions.Act.TheVariants as act
use Rattle.vd_execution.specs.Step.{Source, Triples, BitTriples, Pairs}
use Rattle.vd_execution.specs.Joint.{Hosts}

-- how two parts make a word: by their sum, or by their xor
pub data Sharing : Type 0 where
  BySums : Sharing
  ByXors : Sharing

-- one host's side of a masked product: its operands x and y, the parts a, b, c of its item, the masked operands d and e, and
-- where it hears the other's
pub record Masking : Type 0 where
  pub host : HostId
  pub x : Reg
  pub y : Reg
  pub a : Reg
  pub b : Reg
  pub c : Reg
  pub d : Reg
  pub e : Reg
  pub heard_d : Reg
  pub heard_e : Reg

-- one host's side of a conversion's pair, with its part of the word that is converted
pub record Pairing : Type 0 where
  pub host : HostId
  pub word : Reg
  pub s : Reg
  pub x : Reg

pub data Gadget : Type 0 where
  -- a host acts by itself, and takes at most an own word or an input
  Alone : (host : HostId) (action : Action) → Gadget
  -- a host tells another clear words
  Tells : (from : HostId) (said : List Reg) (to : HostId) (heard : List Reg) → Gadget
  -- a host takes an own word and gives it to another as its part
  Shares : (from : HostId) (mask : Reg) (to : HostId) (heard : Reg) → Gadget
  -- both take an own word and give it to each other
  BothShare : (first : HostId) (mask : Reg) (heard : Reg) (second : HostId) (other_mask : Reg) (other_heard : Reg) → Gadget
  -- a host gives its part of a word to another, which has the other part
  Opens : (sharing : Sharing) (from : HostId) (part : Reg) (to : HostId) (own_part : Reg) (heard : Reg) → Gadget
  -- both take an item, and tell each other their operands masked by it
  Masked : (sharing : Sharing) (first second : Masking) → Gadget
  -- both take a pair
  Paired : (first second : Pairing) → Gadget

abbrev pub hide : Sharing → Binary
hide BySums = binary.Sub
hide ByXors = binary.Xor

abbrev pub take : Sharing → HostId → Reg → Reg → Reg → Action
take BySums p a b c = action.Triple p a b c
take ByXors p a b c = action.Bits p a b c

abbrev pub source_of : Sharing → ℕ → Source
source_of BySums p = Triples p
source_of ByXors p = BitTriples p

-- a host takes an item and masks its operands
abbrev pub masking : Sharing → Masking → HostId → List Act
masking sharing m peer =
    act.Do m.host (take sharing peer m.a m.b m.c) ∷ act.Do m.host (action.Apply (hide sharing) m.d m.x m.a) ∷ act.Do m.host (action.Apply (hide sharing) m.e m.y m.b) ∷ []

abbrev pub told_by : Masking → Masking → List Act
told_by m n = act.Msg m.host (m.d ∷ m.e ∷ []) n.host (n.heard_d ∷ n.heard_e ∷ []) ∷ []

abbrev pub acts_of_gadget : Gadget → List Act
acts_of_gadget (Alone h a) = act.Do h a ∷ []
acts_of_gadget (Tells a said b heard) = act.Msg a said b heard ∷ []
acts_of_gadget (Shares a r b heard) = act.Do a (action.Own r) ∷ act.Msg a (r ∷ []) b (heard ∷ []) ∷ []
acts_of_gadget (BothShare a r heard b q heard_b) =
    act.Do a (action.Own r) ∷ act.Do b (action.Own q) ∷ act.Msg a (r ∷ []) b (heard_b ∷ []) ∷ act.Msg b (q ∷ []) a (heard ∷ []) ∷ []
acts_of_gadget (Opens sharing a x b y heard) = act.Msg a (x ∷ []) b (heard ∷ []) ∷ []
acts_of_gadget (Masked sharing m n) = masking sharing m n.host ++ (masking sharing n m.host ++ (told_by m n ++ told_by n m))
acts_of_gadget (Paired p q) = act.Do p.host (action.Pair q.host p.s p.x) ∷ act.Do q.host (action.Pair p.host q.s q.x) ∷ []

abbrev pub acts_of_gadgets : List Gadget → List Act
acts_of_gadgets [] = []
acts_of_gadgets (g ∷ gadgets) = acts_of_gadget g ++ acts_of_gadgets gadgets

-- ---- registers that are apart

pub record IsFresh (m : Masking) : Type 0 where
  pub x_a : m.x.0 ≢ m.a.0
  pub x_b : m.x.0 ≢ m.b.0
  pub x_c : m.x.0 ≢ m.c.0
  pub y_a : m.y.0 ≢ m.a.0
  pub y_b : m.y.0 ≢ m.b.0
  pub y_c : m.y.0 ≢ m.c.0
  pub y_d : m.y.0 ≢ m.d.0
  pub a_b : m.a.0 ≢ m.b.0
  pub a_c : m.a.0 ≢ m.c.0
  pub b_c : m.b.0 ≢ m.c.0
  pub b_d : m.b.0 ≢ m.d.0
  pub d_e : m.d.0 ≢ m.e.0
  pub d_heard : (m.d.0 ≢ m.heard_d.0) × (m.d.0 ≢ m.heard_e.0)
  pub e_heard : (m.e.0 ≢ m.heard_d.0) × (m.e.0 ≢ m.heard_e.0)

-- an action that takes no item shared with a peer, and no number that is no word
abbrev pub TakesNoPart : Action → Type 0
TakesNoPart (action.Const r k) = k < 2 ^ 32
TakesNoPart (action.Triple p a b c) = ⊥
TakesNoPart (action.Bits p a b c) = ⊥
TakesNoPart (action.Pair p s x) = ⊥
TakesNoPart a = Unit {0}

-- the hosts differ, and registers that are written before others are read are apart from these
abbrev pub GadgetIsTidy : Gadget → Type 0
GadgetIsTidy (Alone h a) = TakesNoPart a
GadgetIsTidy (Tells a said b heard) = (a.0 ≢ b.0) × (length said ≡ length heard)
GadgetIsTidy (Shares a r b heard) = a.0 ≢ b.0
GadgetIsTidy (BothShare a r heard b q heard_b) = (a.0 ≢ b.0) × (q.0 ≢ heard_b.0)
GadgetIsTidy (Opens sharing a x b y heard) = a.0 ≢ b.0
GadgetIsTidy (Masked sharing m n) = (m.host.0 ≢ n.host.0) × (IsFresh m × IsFresh n)
GadgetIsTidy (Paired p q) = p.host.0 ≢ q.host.0

abbrev pub GadgetsAreTidy : List Gadget → Type 0
GadgetsAreTidy [] = Unit {0}
GadgetsAreTidy (g ∷ gadgets) = GadgetIsTidy g × GadgetsAreTidy gadgets

-- ---- what every state of a run keeps

-- registers hold words, and the two hosts of a pair have taken equally many items of each kind
pub record IsSound (w : Hosts) : Type 0 where
  pub words : (g r : ℕ) → (w g).registers r < 2 ^ 32
  pub triples : (g q : ℕ) → (w g).cursors (Triples q) ≡ (w q).cursors (Triples g)
  pub bit_triples : (g q : ℕ) → (w g).cursors (BitTriples q) ≡ (w q).cursors (BitTriples g)
  pub pairs : (g q : ℕ) → (w g).cursors (Pairs q) ≡ (w q).cursors (Pairs g)
