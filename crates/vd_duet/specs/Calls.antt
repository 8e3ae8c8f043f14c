-- The calls of a back end, each a function of the next free registers. What a call makes is gadgets, never acts.
use Rattle.std.specs.Prelude.{◌≡◌, ℕ, ◌+◌, ◌%◌, ◌^◌, bit_xor, nat_eq, Bool, if◌then◌else◌, List, [], ◌∷◌, ◌++◌, map}
use Rattle.vd_base.specs.declared.ids.HostId.{HostId}
use Rattle.vd_base.specs.declared.operations.Op.{Op}
use Rattle.vd_base.specs.declared.protocols.Proto.{Proto}
use Rattle.vd_base.specs.declared.protocols.Proto.TheVariants.{Local, Rep, Commit, Add, Xor}
use Rattle.vd_execution.specs.declared.instructions.Reg.{Reg}
use Rattle.vd_execution.specs.declared.instructions.Line.{Line}
use Rattle.vd_execution.specs.Acts.{lines_of}
use Rattle.vd_execution.specs.Gadgets.{Gadget, acts_of_gadgets}
use Rattle.vd_execution.specs.Text.{register}
use Rattle.vd_duet.specs.Builder.{Builder}
use Rattle.vd_duet.specs.declared.parts.Part.{Part}

-- hosts, each with a register
abbrev pub Places : Type 0
Places = List (HostId × Reg)

-- parts, as hosts with registers
abbrev pub placed : {P : Type 0} → (P → Reg) → List (HostId × P) → Places
placed register x = map (λ q. (q.0, register q.1)) x

abbrev pub all_placed : {P : Type 0} → (P → Reg) → List (List (HostId × P)) → List Places
all_placed register xs = map (placed register) xs

abbrev pub in_clear : List (HostId × Part) → Places
in_clear x = placed (λ c. c.0) x

abbrev pub hosts_of : Places → List HostId
hosts_of x = map (λ q. q.0) x

-- the register of a host's part
abbrev pub register_of : Places → ℕ → Reg
register_of [] h = register 0
register_of (q ∷ x) h = if nat_eq h q.0.0 then q.1 else register_of x h

-- ---- what parts stand for

-- each is this word
abbrev pub AllAre : ℕ → List ℕ → Type 0
AllAre v [] = Unit {0}
AllAre v (x ∷ xs) = (x ≡ v) × AllAre v xs

-- two parts that give a word together
abbrev pub Join : (ℕ → ℕ → ℕ) → List ℕ → ℕ → Type 0
Join f [] v = ⊥
Join f (x ∷ []) v = ⊥
Join f (x ∷ y ∷ []) v = f x y ≡ v
Join f (x ∷ y ∷ z ∷ xs) v = ⊥

-- the words of the parts at a protocol, in the order of its hosts, stand for a word. A commitment is no back end: it stands apart
abbrev pub Stand : Proto → List ℕ → ℕ → Type 0
Stand (Local h) xs v = xs ≡ v ∷ []
Stand (Rep set) xs v = AllAre v xs
Stand (Commit p v) xs x = ⊥
Stand (Add a b) xs v = Join (λ x y. (x + y) % 2 ^ 32) xs v
Stand (Xor a b) xs v = Join bit_xor xs v

-- ---- calls

-- what a call makes: what it gives, its gadgets, and the next free register of each host
pub record Made (X : Type 0) : Type 0 where
  pub given : X
  pub gadgets : List Gadget
  pub next : List ℕ

pub record Calls : Type 0 where
  pub proto : Proto
  pub serves : Op → Bool
  pub literal : ℕ → List ℕ → Made Places
  pub share : HostId → Reg → List ℕ → Made Places
  pub adopt : Places → List ℕ → Made Places
  pub show : Places → HostId → List ℕ → Made Reg
  pub show_all : Places → List ℕ → Made Places
  pub keep : Places → List ℕ → Made Places
  pub renew : Places → Places → List Gadget
  pub apply : Op → List Places → List ℕ → Made Places

-- the lines of gadgets
abbrev pub emitted : List Gadget → List Line
emitted gadgets = lines_of (acts_of_gadgets gadgets)

-- what a call gives, and the code after it
abbrev pub called : {X : Type 0} → Made X → Builder → X × Builder
called made b = (made.given, record { lines = b.lines ++ emitted made.gadgets; next = made.next })

-- the code goes on with a call, which gives this
abbrev pub Makes : {X : Type 0} → (List ℕ → Made X) → Builder → X → Builder → Type 0
Makes call b given b' = (given, b') ≡ called (call b.next) b

-- the code with more gadgets, of no fresh register
abbrev pub appended : List Gadget → Builder → Builder
appended gadgets b = record { lines = b.lines ++ emitted gadgets; next = b.next }
