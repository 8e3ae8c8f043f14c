-- Shared words: where both hosts keep to their programs, no other sends anything in their calls.
use Rattle.std.specs.Prelude.{◌≡◌, ℕ, Bool, true, IsTrue, List}
use Rattle.vd_base.specs.declared.ids.HostId.{HostId}
use Rattle.vd_base.specs.declared.operations.Op.{Op}
use Rattle.vd_base.specs.Holders.{holders}
use Rattle.vd_execution.specs.declared.instructions.Reg.{Reg}
use Rattle.vd_execution.specs.Gadgets.{Gadget, acts_of_gadgets}
use Rattle.vd_duet.specs.Calls.{Calls, Places, hosts_of}
use Rattle.vd_words.specs.AddCalls.{add_calls}
use Rattle.vd_circuit.specs.CircuitCalls.{circuit_calls}
use Rattle.vd_convert.specs.Convert.{to_add_made, to_xor_made}
use Rattle.vd_integrity_runs.specs.Departing.{SendersKeep}

abbrev pub AllSendersKeep : (ℕ → Bool) → List Gadget → Type 0
AllSendersKeep keeps gadgets = SendersKeep keeps (acts_of_gadgets gadgets)

-- in each call all that send keep to their programs
pub record CallsAreKept (keeps : ℕ → Bool) (c : Calls) : Type 0 where
  pub literal : (v : ℕ) (next : List ℕ) → AllSendersKeep keeps (c.literal v next).gadgets
  pub share : (from : HostId) (x : Reg) (next : List ℕ) → AllSendersKeep keeps (c.share from x next).gadgets
  pub adopt : (x : Places) (next : List ℕ) → AllSendersKeep keeps (c.adopt x next).gadgets
  pub show : (x : Places) → hosts_of x ≡ holders c.proto → (to : HostId) (next : List ℕ) → AllSendersKeep keeps (c.show x to next).gadgets
  pub show_all : (x : Places) → hosts_of x ≡ holders c.proto → (next : List ℕ) → AllSendersKeep keeps (c.show_all x next).gadgets
  pub keep : (x : Places) (next : List ℕ) → AllSendersKeep keeps (c.keep x next).gadgets
  pub renew : (kept x : Places) → hosts_of kept ≡ holders c.proto → AllSendersKeep keeps (c.renew kept x)
  pub apply : (o : Op) → IsTrue (c.serves o) → (xs : List Places) (next : List ℕ) → AllSendersKeep keeps (c.apply o xs next).gadgets

-- in the conversions of a shared word too
pub record ConversionsAreKept (keeps : ℕ → Bool) (a b : HostId) : Type 0 where
  pub to_bits : (x : Places) (next : List ℕ) → AllSendersKeep keeps (to_xor_made a b x next).gadgets
  pub to_sums : (x : Places) (next : List ℕ) → AllSendersKeep keeps (to_add_made a b x next).gadgets

-- of words that two hosts share by sums, and by exclusive or
pub record SharedWordsAreKept (keeps : ℕ → Bool) (a b : HostId) : Type 0 where
  pub sums : CallsAreKept keeps (add_calls a b)
  pub xors : CallsAreKept keeps (circuit_calls a b)
  pub conversions : ConversionsAreKept keeps a b

abbrev pub SharesAreKept : Type 0
SharesAreKept = (keeps : ℕ → Bool) (a b : HostId) → keeps a.0 ≡ true → keeps b.0 ≡ true → SharedWordsAreKept keeps a b
