-- What calls may take: registers below a bound, packets of one to nine words, and so many fresh registers.
use Rattle.std.specs.Prelude.{ℕ, ◌+◌, ◌<◌, ◌≤◌, List, length, slice_index, All}
use Rattle.vd_base.specs.declared.ids.HostId.{HostId}
use Rattle.vd_base.specs.declared.operations.Op.{Op}
use Rattle.vd_execution.specs.declared.instructions.Reg.{Reg}
use Rattle.vd_execution.specs.declared.instructions.Act.{Act}
use Rattle.vd_execution.specs.declared.instructions.Act.TheVariants as act
use Rattle.vd_execution.specs.Gadgets.{Gadget, acts_of_gadget}
use Rattle.vd_execution.specs.Ranges.{ActionFits}
use Rattle.vd_duet.specs.Calls.{Places, Made, Calls}
use Rattle.vd_duet.specs.Laws.{Each, at_host}
use Rattle.vd_commit.specs.declared.ends.Held.{Held}
use Rattle.vd_commit.specs.declared.ends.Seen.{Seen}

-- the next free registers of all hosts are at most so many
abbrev pub IsLow : ℕ → List ℕ → Type 0
IsLow n next = (h : ℕ) → slice_index next h ≤ n

-- ---- acts

-- one to nine words, in registers below the bound
abbrev pub PacketFits : ℕ → List Reg → Type 0
PacketFits bound rs = All (λ (r : Reg). r.0 < bound) rs × (0 < length rs) × (length rs ≤ 9)

-- registers are below the bound, and packets go between hosts that are there
abbrev pub ActFits : ℕ → ℕ → Act → Type 0
ActFits hosts bound (act.Do h a) = ActionFits bound a
ActFits hosts bound (act.Msg a said b heard) = (a.0 < hosts) × (b.0 < hosts) × PacketFits bound said × PacketFits bound heard

abbrev pub GadgetFits : ℕ → ℕ → Gadget → Type 0
GadgetFits hosts bound g = Each (ActFits hosts bound) (acts_of_gadget g)

-- ---- what a call makes

-- at hosts that are there, so many registers from each on, all below n
abbrev pub PlacesFit : ℕ → ℕ → ℕ → Places → Type 0
PlacesFit hosts size n x = Each (λ (q : HostId × Reg). (q.0.0 < hosts) × (q.1.0 + size ≤ n)) x

-- and at most as many as a commitment has
pub record PartsFit (hosts size n : ℕ) (x : Places) : Type 0 where
  pub few : length x ≤ 17
  pub at : PlacesFit hosts size n x

-- the parts of a word are made: afterwards all registers that are taken are below n
pub record WordMade (hosts bound n : ℕ) (made : Made Places) : Type 0 where
  pub low : IsLow n made.next
  pub given : PartsFit hosts 1 n made.given
  pub gadgets : Each (GadgetFits hosts bound) made.gadgets

-- a commitment is made: its value and rows of eight registers are below n
pub record EndsMade (hosts bound n : ℕ) (made : Made (Held × Seen)) : Type 0 where
  pub low : IsLow n made.next
  pub value : made.given.0.value.0 < n
  pub nonce : made.given.0.nonce.0 + 8 ≤ n
  pub digest : made.given.1.digest.0 + 8 ≤ n
  pub gadgets : Each (GadgetFits hosts bound) made.gadgets

-- a register is made
pub record RegisterMade (hosts bound n : ℕ) (made : Made Reg) : Type 0 where
  pub low : IsLow n made.next
  pub given : made.given.0 < n
  pub gadgets : Each (GadgetFits hosts bound) made.gadgets

-- the registers that a call takes of a host, at most
abbrev pub call_registers : ℕ
call_registers = 384

-- the next free registers are at most m, and those after a call at most n, which is not above the bound
pub record Room (bound m n : ℕ) (next : List ℕ) : Type 0 where
  pub low : IsLow m next
  pub more : m + call_registers ≤ n
  pub within : n ≤ bound

-- a call that makes a word of parts, whose registers are at most m
abbrev pub MoveFits : ℕ → ℕ → (Places → List ℕ → Made Places) → Type 0
MoveFits hosts bound call =
    (x : Places) (m n : ℕ) (next : List ℕ) → PartsFit hosts 0 m x → Room bound m n next → WordMade hosts bound n (call x next)

-- each call of a back end, where its operands are in registers that are at most m
pub record CallsFit (hosts bound : ℕ) (c : Calls) : Type 0 where
  pub literal : (v m n : ℕ) (next : List ℕ) → Room bound m n next → WordMade hosts bound n (c.literal v next)
  pub share : (from : HostId) → from.0 < hosts → (x : Reg) (m n : ℕ) (next : List ℕ) → x.0 ≤ m → Room bound m n next
      → WordMade hosts bound n (c.share from x next)
  pub adopt : MoveFits hosts bound c.adopt
  pub show : (to : HostId) → to.0 < hosts → MoveFits hosts bound (λ x next. at_host to (c.show x to next))
  pub show_all : MoveFits hosts bound c.show_all
  pub keep : MoveFits hosts bound c.keep
  pub renew : (kept x : Places) (n : ℕ) → PartsFit hosts 0 n kept → PartsFit hosts 0 n x → n < bound
      → Each (GadgetFits hosts bound) (c.renew kept x)
  pub apply : (o : Op) (xs : List Places) (m n : ℕ) (next : List ℕ) → Each (PartsFit hosts 0 m) xs → Room bound m n next
      → WordMade hosts bound n (c.apply o xs next)
