-- How many words calls send.
use Rattle.std.specs.Prelude.{◌≡◌, ℕ, suc, ◌+◌, List, [], ◌∷◌, length}
use Rattle.vd_base.specs.declared.ids.HostId.{HostId}
use Rattle.vd_base.specs.declared.operations.Op.{Op}
use Rattle.vd_base.specs.declared.operations.Op.TheVariants as op
use Rattle.vd_execution.specs.declared.instructions.Reg.{Reg}
use Rattle.vd_execution.specs.Gadgets.{Gadget, Alone, Tells, Shares, BothShare, Opens, Masked, Paired}
use Rattle.vd_duet.specs.Calls.{Places, Calls}
use Rattle.vd_backend_sharing.specs.Gates.{Gate, And, Xor, Shl, Shr, Not, Flip, Lowest, Mask}
use Rattle.vd_words.specs.AddCalls.{add_calls}
use Rattle.vd_circuit.specs.CircuitCalls.{circuit_calls}
use Rattle.vd_convert.specs.Convert.{to_xor_made, to_add_made}
use Rattle.vd_commit.specs.declared.ends.Held.{Held}
use Rattle.vd_commit.specs.declared.ends.Seen.{Seen}
use Rattle.vd_commit.specs.Commit.{committed, revealed}

abbrev pub words_of : Gadget → ℕ
words_of (Alone h a) = 0
words_of (Tells a said b heard) = length said
words_of (Shares a r b heard) = 1
words_of (BothShare a r heard b q heard_b) = 2
words_of (Opens sharing a x b y heard) = 1
words_of (Masked sharing m n) = 4
words_of (Paired p q) = 0

abbrev pub words_sent : List Gadget → ℕ
words_sent [] = 0
words_sent (g ∷ gs) = words_of g + words_sent gs

-- one word shares a word or shows it to one host, and two show it to both. An operation sends what is stated of it
pub record PairSends (c : Calls) (applied : Op → ℕ) : Type 0 where
  pub literal : (v : ℕ) (next : List ℕ) → words_sent (c.literal v next).gadgets ≡ 0
  pub share : (from : HostId) (x : Reg) (next : List ℕ) → words_sent (c.share from x next).gadgets ≡ 1
  pub adopt : (x : Places) (next : List ℕ) → words_sent (c.adopt x next).gadgets ≡ 0
  pub keep : (x : Places) (next : List ℕ) → words_sent (c.keep x next).gadgets ≡ 0
  pub renew : (kept x : Places) → words_sent (c.renew kept x) ≡ 0
  pub show : (x : Places) (to : HostId) (next : List ℕ) → words_sent (c.show x to next).gadgets ≡ 1
  pub show_all : (x : Places) (next : List ℕ) → words_sent (c.show_all x next).gadgets ≡ 2
  pub apply : (o : Op) (xs : List Places) (next : List ℕ) → words_sent (c.apply o xs next).gadgets ≡ applied o

-- a product of sums takes four words; what is not served sends none
abbrev pub sum_words : Op → ℕ
sum_words op.Mul = 4
sum_words o = 0

-- so does each product of bits of a circuit
abbrev pub products : List Gate → ℕ
products [] = 0
products (And x y ∷ gates) = suc (products gates)
products (Xor x y ∷ gates) = products gates
products (Shl k x ∷ gates) = products gates
products (Shr k x ∷ gates) = products gates
products (Not x ∷ gates) = products gates
products (Flip x ∷ gates) = products gates
products (Lowest x ∷ gates) = products gates
products (Mask x ∷ gates) = products gates

abbrev pub bit_words : Op → ℕ
bit_words op.And = 4
bit_words op.Or = 4
bit_words op.Mux = 4
bit_words op.Eq = 20
bit_words op.Ne = 20
bit_words op.Add = 40
bit_words op.Sub = 40
bit_words op.Lt = 40
bit_words op.Le = 40
bit_words op.Min = 44
bit_words op.Max = 44
bit_words o = 0

pub record WordsAreSent : Type 0 where
  pub sums : (a b : HostId) → PairSends (add_calls a b) sum_words
  pub bits : (a b : HostId) → PairSends (circuit_calls a b) bit_words
  pub to_bits : (a b : HostId) (x : Places) (next : List ℕ) → words_sent (to_xor_made a b x next).gadgets ≡ 42
  pub to_sums : (a b : HostId) (x : Places) (next : List ℕ) → words_sent (to_add_made a b x next).gadgets ≡ 42
  pub commit : (p v : HostId) (x : Reg) (next : List ℕ) → words_sent (committed p v x next).gadgets ≡ 8
  pub reveal : (p v : HostId) (held : Held) (seen : Seen) (next : List ℕ) → words_sent (revealed p v held seen next).gadgets ≡ 9
