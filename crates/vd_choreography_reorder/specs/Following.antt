-- Joint code in which some words are known and others have other registers: where each word of the old code is, act by act.
use Rattle.std.specs.Prelude.{◌≡◌, ◌≢◌, ◌<◌, ◌+◌, ℕ, Bool, if◌then◌else◌, List, [], ◌∷◌, None, length}
use Rattle.vd_base.specs.declared.ids.HostId.{HostId}
use Rattle.vd_execution.specs.declared.instructions.Reg.{Reg}
use Rattle.vd_execution.specs.declared.instructions.Binary.{Binary}
use Rattle.vd_execution.specs.declared.instructions.Action.{Action}
use Rattle.vd_execution.specs.declared.instructions.Action.TheVariants as action
use Rattle.vd_execution.specs.Registers.{Registers, put, put_each, written}
use Rattle.vd_execution.specs.Step.{Cursors, Nothing, need_of_action, word_printed, words_in}
use Rattle.vd_execution.specs.World.{Tape}
use Rattle.vd_execution.specs.Joint.{Part, Joint, Done, Do, Msg, If, For, Host, Hosts, is_other, turn_begun, joint, Agrees, GuardsAre, IsSmooth}
use Rattle.vd_reorder.specs.ReorderLawsTesting.{reads, writes}
use Rattle.vd_choreography_reorder.specs.LaidOut.{then_joint}

-- ---- where words are

-- the word of an old register: it is in a register, or it is known
pub data Place : Type 0 where
  At : (register : ℕ) → Place
  Is : (word : ℕ) → Place
  Lost : Place

-- of each register of a host
abbrev pub Places : Type 0
Places = ℕ → Place

abbrev pub Stands : Registers → Registers → ℕ → Place → Type 0
Stands old new r (At q) = new q ≡ old r
Stands old new r (Is k) = old r ≡ k
Stands old new r Lost = Unit {0}

abbrev pub AllStand : Places → Registers → Registers → Type 0
AllStand m old new = (r : ℕ) → Stands old new r (m r)

-- what is seen of a host: what it took, printed and sent
abbrev pub Sight : Type 0
Sight = Cursors × (List ℕ × (ℕ → List (List ℕ)))

abbrev pub seen : Host → Sight
seen s = (s.cursors, (s.printed, s.sent))

-- The words of all hosts are where they are said to be, and hosts took, printed and sent the same, packet by packet.
pub record AreMapped (m : ℕ → Places) (w v : Hosts) : Type 0 where
  pub words : (h : ℕ) → AllStand (m h) (w h).registers (v h).registers
  pub same : (h : ℕ) → seen (w h) ≡ seen (v h)

-- ---- what follows what

-- Both codes do an act.
pub record ActsFollow (m : Places) (a b : Action) (n : Places) : Type 0 where
  pub words : (old new : Registers) (xs : List ℕ) → AllStand m old new → AllStand n (written old a xs) (written new b xs)
  pub needs : (old new : Registers) → AllStand m old new → need_of_action new b ≡ need_of_action old a
  pub prints : (old new : Registers) → AllStand m old new → word_printed new b ≡ word_printed old a
  pub compares : (old new : Registers) → AllStand m old new → Agrees old a → Agrees new b

-- The old one does an act, and it is known where its words are.
pub record IsLeftOut (m : Places) (a : Action) (n : Places) : Type 0 where
  pub words : (old new : Registers) → AllStand m old new → AllStand n (written old a []) new
  pub needs : (f : Registers) → need_of_action f a ≡ Nothing
  pub silent : (f : Registers) → word_printed f a ≡ None

-- The new one does an act, as to have a known word in a register.
pub record IsAdded (m : Places) (b : Action) (n : Places) : Type 0 where
  pub words : (old new : Registers) → AllStand m old new → AllStand n old (written new b [])
  pub needs : (f : Registers) → need_of_action f b ≡ Nothing
  pub silent : (f : Registers) → word_printed f b ≡ None
  pub compares : (f : Registers) → Agrees f b

-- Both tell a message: its words, where the sender has them, and where the receiver has them behind it.
pub record MessagesFollow (from to : Places) (said says heard hears : List Reg) (n : Places) : Type 0 where
  pub told : (old new : Registers) → AllStand from old new → words_in new says ≡ words_in old said
  pub filled : (old new : Registers) (xs : List ℕ) → length xs ≡ length said → AllStand to old new → AllStand n (put_each old heard xs) (put_each new hears xs)

-- Both decide a branch alike.
pub record GuardsFollow (m : ℕ → Places) (ps qs : List Part) : Type 0 where
  pub way : (w v : Hosts) → AreMapped m w v → is_other qs v ≡ is_other ps w
  pub guards : (w v : Hosts) (b : Bool) → AreMapped m w v → GuardsAre b ps w → GuardsAre b qs v

-- Both begin a turn of a loop.
abbrev pub TurnsFollow : (ℕ → Places) → List Part → List Part → (ℕ → Places) → Type 0
TurnsFollow m ps qs n = (i : ℕ) (w v : Hosts) → AreMapped m w v → AreMapped n (turn_begun ps i w) (turn_begun qs i v)

-- which way a branch goes is known
abbrev pub GoesOneWay : (ℕ → Places) → List Part → Bool → Type 0
GoesOneWay m ps other = (w v : Hosts) → AreMapped m w v → is_other ps w ≡ other

-- One code follows another, from words at some places to words at others.
pub data Follows : (ℕ → Places) → Joint → Joint → (ℕ → Places) → Type 0 where
  Ends : (m : ℕ → Places) → Follows m Done Done m
  Both : (m n : ℕ → Places) (h : ℕ) (a b : Action) (here : Places) (j k : Joint) (acts : ActsFollow (m h) a b here) (rest : Follows (put m h here) j k n)
      → Follows m (Do h a j) (Do h b k) n
  Less : (m n : ℕ → Places) (h : ℕ) (a : Action) (here : Places) (j k : Joint) (left : IsLeftOut (m h) a here) (rest : Follows (put m h here) j k n)
      → Follows m (Do h a j) k n
  More : (m n : ℕ → Places) (h : ℕ) (b : Action) (here : Places) (j k : Joint) (added : IsAdded (m h) b here) (rest : Follows (put m h here) j k n)
      → Follows m j (Do h b k) n
  Message : (m n : ℕ → Places) (a : ℕ) (said says : List Reg) (b : ℕ) (heard hears : List Reg) (here : Places) (j k : Joint)
      (told : MessagesFollow (m a) (m b) said says heard hears here) (rest : Follows (put m b here) j k n) → Follows m (Msg a said b heard j) (Msg a says b hears k) n
  Branch : (m i n : ℕ → Places) (ps qs : List Part) (first other one two j k : Joint) (guards : GuardsFollow m ps qs) (in_first : Follows m first one i)
      (in_other : Follows m other two i) (rest : Follows i j k n) → Follows m (If ps first other j) (If qs one two k) n
  OneWay : (m n : ℕ → Places) (ps : List Part) (other_way : Bool) (first other j k : Joint) (known : GoesOneWay m ps other_way)
      (rest : Follows m (then_joint (if other_way then other else first) j) k n) → Follows m (If ps first other j) k n
  Loop : (m begun n : ℕ → Places) (ps qs : List Part) (count : ℕ) (body one j k : Joint) (turn : TurnsFollow m ps qs begun) (in_body : Follows begun body one m)
      (rest : Follows m j k n) → Follows m (For ps count body j) (For qs count one k) n

-- ---- what holds of it

-- Hosts with their words at these places come to hosts with theirs at those, and take, print and send the same, packet by packet. What ran
-- smoothly does.
pub record ComesAlong (t : Tape) (n : ℕ → Places) (j k : Joint) (w v : Hosts) : Type 0 where
  pub mapped : AreMapped n (joint t j w) (joint t k v)
  pub smooth : IsSmooth t k v

abbrev pub FollowedCodeTellsTheSame : Type 0
FollowedCodeTellsTheSame = (t : Tape) (m n : ℕ → Places) (j k : Joint) (w v : Hosts) → Follows m j k n → AreMapped m w v → IsSmooth t j w → ComesAlong t n j k w v

-- ---- some that follow

-- A constant is known,
abbrev pub ConstantsAreKnown : Type 0
ConstantsAreKnown = (m : Places) (r : Reg) (k : ℕ) → IsLeftOut m (action.Const r k) (put m r.0 (Is k))

-- a copy is where the word is that is copied,
abbrev pub CopiesAreFollowed : Type 0
CopiesAreFollowed = (m : Places) (r x : Reg) → IsLeftOut m (action.Copy r x) (put m r.0 (m x.0))

-- and what is read may stand in other registers, as what is written may in any that are free.

-- ---- registers of their own

-- the words of some registers are in others
abbrev pub StandIn : Places → List Reg → List Reg → Type 0
StandIn m [] [] = Unit {0}
StandIn m [] (q ∷ qs) = ⊥
StandIn m (r ∷ rs) [] = ⊥
StandIn m (r ∷ rs) (q ∷ qs) = (m r.0 ≡ At q.0) × StandIn m rs qs

-- where words are, behind such as some registers get and others have
abbrev pub filled_places : Places → List Reg → List Reg → Places
filled_places m [] qs = m
filled_places m (r ∷ rs) [] = m
filled_places m (r ∷ rs) (q ∷ qs) = filled_places (put m r.0 (At q.0)) rs qs

-- no word but that of r is in the register
abbrev pub IsFree : Places → ℕ → ℕ → Type 0
IsFree m r q = (s : ℕ) → s ≢ r → m s ≢ At q

abbrev pub AreFree : Places → List Reg → List Reg → Type 0
AreFree m [] [] = Unit {0}
AreFree m [] (q ∷ qs) = ⊥
AreFree m (r ∷ rs) [] = ⊥
AreFree m (r ∷ rs) (q ∷ qs) = IsFree m r.0 q.0 × AreFree (put m r.0 (At q.0)) rs qs

-- acts that do the same with other registers
pub data DoAlike : Action → Action → Type 0 where
  Constants : (r q : Reg) (k : ℕ) → DoAlike (action.Const r k) (action.Const q k)
  Copies : (r x q u : Reg) → DoAlike (action.Copy r x) (action.Copy q u)
  Operations : (o : Binary) (r x y q u s : Reg) → DoAlike (action.Apply o r x y) (action.Apply o q u s)
  LeftShifts : (r x q u : Reg) (k : ℕ) → DoAlike (action.Shl r x k) (action.Shl q u k)
  RightShifts : (r x q u : Reg) (k : ℕ) → DoAlike (action.Shr r x k) (action.Shr q u k)
  Choices : (r c x y q d u s : Reg) → DoAlike (action.Mux r c x y) (action.Mux q d u s)
  Drawn : (r q : Reg) → DoAlike (action.Own r) (action.Own q)
  Fetched : (r q : Reg) → DoAlike (action.Input r) (action.Input q)
  Products : (p : HostId) (a b c d e f : Reg) → DoAlike (action.Triple p a b c) (action.Triple p d e f)
  BitProducts : (p : HostId) (a b c d e f : Reg) → DoAlike (action.Bits p a b c) (action.Bits p d e f)
  Converted : (p : HostId) (a b c d : Reg) → DoAlike (action.Pair p a b) (action.Pair p c d)
  Prints : (r q : Reg) → DoAlike (action.Print r) (action.Print q)
  Comparisons : (x y u s : Reg) → DoAlike (action.Same x y) (action.Same u s)

abbrev pub ActsAreRenamed : Type 0
ActsAreRenamed = (m : Places) (a b : Action) → DoAlike a b → StandIn m (reads a) (reads b) → AreFree m (writes a) (writes b)
    → ActsFollow m a b (filled_places m (writes a) (writes b))

abbrev pub MessagesAreRenamed : Type 0
MessagesAreRenamed = (from to : Places) (said says heard hears : List Reg) → length said ≡ length heard → StandIn from said says → AreFree to heard hears
    → MessagesFollow from to said says heard hears (filled_places to heard hears)

-- A word of an array is taken by a computed number, where the array's registers are in others in a row.
abbrev pub ArraysAreRenamed : Type 0
ArraysAreRenamed = (m : Places) (r x i q u j : Reg) (count : ℕ) → ((k : ℕ) → k < count → m (x.0 + k) ≡ At (u.0 + k)) → m i.0 ≡ At j.0 → IsFree m r.0 q.0
    → ActsFollow m (action.Get r x count i) (action.Get q u count j) (put m r.0 (At q.0))
