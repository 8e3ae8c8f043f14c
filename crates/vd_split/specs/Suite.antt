-- The calls of the protocols, and their laws.
use Rattle.std.specs.Prelude.{◌≡◌, ℕ, zero, suc, ◌+◌, ◌^◌, ◌<◌, ◌≤◌, Bool, IsTrue, if◌then◌else◌, List, [], ◌∷◌, ◌++◌, length, map, replicate, slice_index, slice_set, ◌⊎◌}
use Rattle.vd_base.specs.declared.ids.HostId.{HostId}
use Rattle.vd_base.specs.declared.operations.Op.{Op}
use Rattle.vd_base.specs.declared.protocols.Proto.{Proto}
use Rattle.vd_base.specs.declared.protocols.Proto.TheVariants.{Local}
use Rattle.vd_base.specs.declared.rows.Row.{Row}
use Rattle.vd_base.specs.declared.rows.Row.TheVariants.{Constant, Input, Variable, Apply}
use Rattle.vd_base.specs.HostSets.{host}
use Rattle.vd_base.specs.Holders.{is_holder}
use Rattle.vd_base.specs.Arity.{arity}
use Rattle.vd_base.specs.Operations.{result_of}
use Rattle.vd_semantics.specs.World.{first_word, later_words}
use Rattle.vd_duet.specs.Laws.{NumberFits}
use Rattle.vd_split.specs.Joint.{Hosts, run_acts, AllFine, Each, IsIn}

-- those of the first n hosts that pass a test, in order
abbrev pub picked : ℕ → ℕ → (ℕ → Bool) → List HostId
picked from zero test = []
picked from (suc n) test = if test from then host from ∷ picked (from + 1) n test else picked (from + 1) n test

-- what a slot has: a word, or the words of an array
pub data Content : Type 0 where
  Word : ℕ → Content
  Cells : List ℕ → Content

-- what a call makes: what it gives, its acts, and the next free register of each host
pub record Made (A X : Type 0) : Type 0 where
  pub given : X
  pub acts : List A
  pub next : List ℕ

-- The calls, each a function of the next free registers. P is what a slot has: the registers of its parts, of whatever shape its protocol asks.
pub record Calls (A P : Type 0) : Type 0 where
  pub hosts : ℕ
  pub nowhere : P
  -- the register of a word in clear at a host
  pub register : P → ℕ → ℕ
  -- the hosts that have an instruction in a move, and in an operation
  pub moves_at : Proto → Proto → ℕ → Bool
  pub applies_at : Op → Proto → ℕ → Bool
  pub literal : Proto → ℕ → List ℕ → Made A P
  -- the number of the turn, from the loop's register of each host
  pub turn : Proto → List ℕ → List ℕ → Made A P
  pub move : Proto → Proto → P → List ℕ → Made A P
  pub apply : Op → Proto → List P → List ℕ → Made A P
  pub input : HostId → List ℕ → Made A P
  pub output : HostId → P → List A
  -- a copy in fresh registers, and a copy into the registers of a variable
  pub keep : Proto → P → List ℕ → Made A P
  pub renew : Proto → P → P → List A
  -- an array; its index stands in clear at each host
  pub cells : Proto → ℕ → List ℕ → Made A P
  pub get : Proto → P → List (ℕ × ℕ) → List ℕ → Made A P
  pub put : Proto → P → List (ℕ × ℕ) → P → List A

-- the hosts of a program that pass `is_holder` for the protocol, in the order of hosts, where `holders` goes by parts
abbrev pub holders_among : {A P : Type 0} → Calls A P → Proto → List HostId
holders_among s p = picked 0 s.hosts (λ h. is_holder p (host h))

-- The calls of all protocols, and what the parts that they make stand for.
pub record Suite (m : Hosts) : Type 1 where
  pub Parts : Type 0
  pub calls : Calls m.Act Parts
  -- parts name registers, and stand for what a slot has
  pub Names : Parts → ℕ → ℕ → Type 0
  pub Stands : m.World → Proto → Parts → Content → Type 0
  -- a protocol over the hosts that are there
  pub Declared : Proto → Type 0
  -- what can stand at a protocol, and which protocols join
  pub holds : Row → Proto → Bool
  pub joins : Proto → Proto → Bool

abbrev pub nothing : ℕ → ℕ → Type 0
nothing h r = ⊥

module _ (m : Hosts) (s : Suite m) where
  -- acts lead from one state to another, and change no register but fresh ones and these
  pub record Leads (next : List ℕ) (changed : ℕ → ℕ → Type 0) (acts : List m.Act) (w w' : m.World) : Type 0 where
    pub runs : run_acts m acts w ≡ w'
    pub fine : AllFine m acts w
    pub sound : m.Sound w'
    pub kept : (h r : ℕ) → r < slice_index next h → (changed h r → ⊥) → m.word w' h r ≡ m.word w h r

  -- nothing is printed, and no input is taken
  pub record Quiet (w w' : m.World) : Type 0 where
    pub printed : (h : ℕ) → m.printed w' h ≡ m.printed w h
    pub waiting : (h : ℕ) → m.waiting w' h ≡ m.waiting w h

  abbrev pub Below : List ℕ → s.Parts → Type 0
  Below next x = (h r : ℕ) → s.Names x h r → r < slice_index next h

  -- what is made names fresh registers, or those of its operands
  pub record Fresh (next : List ℕ) (source : ℕ → ℕ → Type 0) (given : s.Parts) (next' : List ℕ) : Type 0 where
    pub known : length next' ≡ length next
    pub longer : (h : ℕ) → slice_index next h ≤ slice_index next' h
    pub below : Below next' given
    pub from : (h r : ℕ) → s.Names given h r → (slice_index next h ≤ r) ⊎ source h r

  -- a call makes parts that stand for the content
  pub record Gives (next : List ℕ) (source : ℕ → ℕ → Type 0) (made : Made m.Act s.Parts) (w : m.World) (p : Proto) (content : Content) : Type 0 where
    pub reached : m.World
    pub leads : Leads next nothing made.acts w reached
    pub quiet : Quiet w reached
    pub fresh : Fresh next source made.given made.next
    pub stands : s.Stands reached p made.given content

  -- the hosts are known, and their state is sound
  pub record Ready (next : List ℕ) (w : m.World) : Type 0 where
    pub known : length next ≡ s.calls.hosts
    pub sound : m.Sound w

  -- parts that name no free register stand for a word
  pub record Operand (next : List ℕ) (w : m.World) (p : Proto) (x : s.Parts) (v : ℕ) : Type 0 where
    pub below : Below next x
    pub stands : s.Stands w p x (Word v)

  abbrev pub Operands : List ℕ → m.World → Proto → List s.Parts → List ℕ → Type 0
  Operands next w p [] [] = Unit {0}
  Operands next w p (x ∷ xs) (v ∷ vs) = Operand next w p x v × Operands next w p xs vs
  Operands next w p [] (v ∷ vs) = ⊥
  Operands next w p (x ∷ xs) [] = ⊥

  abbrev pub NamedBy : List s.Parts → ℕ → ℕ → Type 0
  NamedBy [] h r = ⊥
  NamedBy (x ∷ xs) h r = s.Names x h r ⊎ NamedBy xs h r

  -- a word stands in clear in these registers, one for each of the hosts
  pub record Delivered (next : List ℕ) (w : m.World) (hosts : List HostId) (at : List (ℕ × ℕ)) (v : ℕ) : Type 0 where
    pub placed : map (λ q. q.0) at ≡ map (λ h. h.0) hosts
    pub words : Each (λ q. (m.word w q.0 q.1 ≡ v) × (q.1 < slice_index next q.0)) at

  -- acts that change the registers of a variable or an array
  pub record Renews (next : List ℕ) (kept : s.Parts) (acts : List m.Act) (w : m.World) (p : Proto) (content : Content) : Type 0 where
    pub reached : m.World
    pub leads : Leads next (s.Names kept) acts w reached
    pub quiet : Quiet w reached
    pub stands : s.Stands reached p kept content

  -- an input is taken
  pub record Takes (next : List ℕ) (made : Made m.Act s.Parts) (w : m.World) (h : HostId) : Type 0 where
    pub reached : m.World
    pub leads : Leads next nothing made.acts w reached
    pub fresh : Fresh next nothing made.given made.next
    pub printed : (k : ℕ) → m.printed reached k ≡ m.printed w k
    pub taken : m.waiting reached h.0 ≡ later_words (m.waiting w h.0)
    pub waiting : (k : ℕ) → (k ≡ h.0 → ⊥) → m.waiting reached k ≡ m.waiting w k
    pub stands : s.Stands reached (Local h) made.given (Word (first_word (m.waiting w h.0)))

  -- a word is printed
  pub record Tells (next : List ℕ) (acts : List m.Act) (w : m.World) (h : HostId) (v : ℕ) : Type 0 where
    pub reached : m.World
    pub leads : Leads next nothing acts w reached
    pub told : m.printed reached h.0 ≡ m.printed w h.0 ++ v ∷ []
    pub printed : (k : ℕ) → (k ≡ h.0 → ⊥) → m.printed reached k ≡ m.printed w k
    pub waiting : (k : ℕ) → m.waiting reached k ≡ m.waiting w k

  -- The laws of the protocols.
  pub record Laws : Type 0 where
    -- a register that a loop begins with
    pub begun_sets : (w : m.World) (ps : List (ℕ × ℕ)) (t h r : ℕ) → IsIn ps h r → m.word (m.begun ps t w) h r ≡ t
    pub begun_keeps : (w : m.World) (ps : List (ℕ × ℕ)) (t h r : ℕ) → (IsIn ps h r → ⊥) → m.word (m.begun ps t w) h r ≡ m.word w h r
    pub begun_sound : (w : m.World) (ps : List (ℕ × ℕ)) (t : ℕ) → t < 2 ^ 32 → m.Sound w → m.Sound (m.begun ps t w)
    pub begun_prints : (w : m.World) (ps : List (ℕ × ℕ)) (t h : ℕ) → m.printed (m.begun ps t w) h ≡ m.printed w h
    pub begun_waits : (w : m.World) (ps : List (ℕ × ℕ)) (t h : ℕ) → m.waiting (m.begun ps t w) h ≡ m.waiting w h
    -- parts go on standing where the registers that they name are kept
    pub still : (w w' : m.World) (p : Proto) (x : s.Parts) (c : Content) → s.Stands w p x c → ((h r : ℕ) → s.Names x h r → m.word w' h r ≡ m.word w h r) → s.Stands w' p x c
    -- a protocol is somewhere
    pub somewhere : (p : Proto) → s.Declared p → (h : ℕ) × (h < s.calls.hosts) × IsTrue (is_holder p (host h))
    pub local_is_declared : (h : HostId) → h.0 < s.calls.hosts → s.Declared (Local h)
    -- where a word in clear stands
    pub in_clear : (w : m.World) (h : HostId) (x : s.Parts) (v : ℕ) → s.Stands w (Local h) x (Word v) → (m.word w h.0 (s.calls.register x h.0) ≡ v) × s.Names x h.0 (s.calls.register x h.0)
    pub input_stands : (h : HostId) (p : Proto) → IsTrue (s.holds (Input h) p) → p ≡ Local h
    -- the calls
    pub literal_law : (p : Proto) → s.Declared p → IsTrue (s.holds Constant p) → (v : ℕ) → v < 2 ^ 32 → (next : List ℕ) (w : m.World) → Ready next w
        → Gives next nothing (s.calls.literal p v next) w p (Word v)
    pub turn_law : (p : Proto) → s.Declared p → IsTrue (s.holds Constant p) → (t : ℕ) → t < 2 ^ 32 → (loop next : List ℕ) (w : m.World) → Ready next w
        → ((h : ℕ) → h < s.calls.hosts → IsTrue (is_holder p (host h)) → (m.word w h (slice_index loop h) ≡ t) × (slice_index loop h < slice_index next h))
        → Gives next nothing (s.calls.turn p loop next) w p (Word t)
    pub move_law : (p q : Proto) → s.Declared p → s.Declared q → IsTrue (s.joins p q) → (x : s.Parts) (v : ℕ) (next : List ℕ) (w : m.World) → Ready next w
        → Operand next w p x v → Gives next (s.Names x) (s.calls.move p q x next) w q (Word v)
    pub apply_law : (o : Op) (p : Proto) → s.Declared p → IsTrue (s.holds (Apply o) p) → NumberFits o → (xs : List s.Parts) (vs : List ℕ) → length xs ≡ arity o
        → (next : List ℕ) (w : m.World) → Ready next w → Operands next w p xs vs → Gives next (NamedBy xs) (s.calls.apply o p xs next) w p (Word (result_of o vs))
    pub input_law : (h : HostId) → h.0 < s.calls.hosts → (next : List ℕ) (w : m.World) → Ready next w → first_word (m.waiting w h.0) < 2 ^ 32
        → Takes next (s.calls.input h next) w h
    pub output_law : (h : HostId) → h.0 < s.calls.hosts → (x : s.Parts) (v : ℕ) (next : List ℕ) (w : m.World) → Ready next w → Operand next w (Local h) x v
        → Tells next (s.calls.output h x) w h v
    pub keep_law : (p : Proto) → s.Declared p → IsTrue (s.holds Variable p) → (x : s.Parts) (v : ℕ) (next : List ℕ) (w : m.World) → Ready next w
        → Operand next w p x v → Gives next nothing (s.calls.keep p x next) w p (Word v)
    pub renew_law : (p : Proto) → s.Declared p → IsTrue (s.holds Variable p) → (kept x : s.Parts) (u v : ℕ) (next : List ℕ) (w : m.World) → Ready next w
        → Operand next w p kept u → Operand next w p x v → Renews next kept (s.calls.renew p kept x) w p (Word v)
    pub cells_law : (p : Proto) → s.Declared p → IsTrue (s.holds Variable p) → (n : ℕ) (next : List ℕ) (w : m.World) → Ready next w
        → Gives next nothing (s.calls.cells p n next) w p (Cells (replicate n 0))
    pub get_law : (p : Proto) → s.Declared p → IsTrue (s.holds Variable p) → (x : s.Parts) (ws : List ℕ) (at : List (ℕ × ℕ)) (i : ℕ) (next : List ℕ) (w : m.World) → Ready next w
        → Below next x → s.Stands w p x (Cells ws) → Delivered next w (holders_among s.calls p) at i → Gives next nothing (s.calls.get p x at next) w p (Word (slice_index ws i))
    pub put_law : (p : Proto) → s.Declared p → IsTrue (s.holds Variable p) → (kept : s.Parts) (ws : List ℕ) (at : List (ℕ × ℕ)) (i : ℕ) (x : s.Parts) (v : ℕ) (next : List ℕ) (w : m.World) → Ready next w
        → Below next kept → s.Stands w p kept (Cells ws) → Delivered next w (holders_among s.calls p) at i → Operand next w p x v
        → Renews next kept (s.calls.put p kept at x) w p (Cells (slice_set ws i v))
