-- What is proved of conversions, of two hosts that differ.
use Rattle.std.specs.Prelude.{◌≡◌, ◌≢◌, ℕ, List}
use Rattle.vd_base.specs.declared.ids.HostId.{HostId}
use Rattle.vd_execution.specs.World.{Tape}
use Rattle.vd_execution.specs.Joint.{Hosts}
use Rattle.vd_duet.specs.Acting.{is_either, acts_at}
use Rattle.vd_duet.specs.Calls.{Places}
use Rattle.vd_duet.specs.Laws.{IsIn, GivesWord, Operand, IsReady}
use Rattle.vd_words.specs.AddCalls.{add_calls}
use Rattle.vd_bits.specs.BitCalls.{bit_calls}
use Rattle.vd_convert.specs.Convert.{to_xor_made, to_add_made}

-- from sums: the parts that are given stand for the word by exclusive or
abbrev pub SumsBecomeBits : Type 0
SumsBecomeBits =
    (a b : HostId) → a.0 ≢ b.0 → (t : Tape) (next : List ℕ) (w : Hosts) → IsReady (add_calls a b) t next w
    → (x : Places) (v : ℕ) → Operand (add_calls a b) next w x v → GivesWord (bit_calls a b) t next (IsIn x) (to_xor_made a b x next) w v

-- and to sums
abbrev pub BitsBecomeSums : Type 0
BitsBecomeSums =
    (a b : HostId) → a.0 ≢ b.0 → (t : Tape) (next : List ℕ) (w : Hosts) → IsReady (bit_calls a b) t next w
    → (x : Places) (v : ℕ) → Operand (bit_calls a b) next w x v → GivesWord (add_calls a b) t next (IsIn x) (to_add_made a b x next) w v

-- both hosts act, and no other
pub record ConversionsActAtBoth : Type 0 where
  pub to_bits : (a b : HostId) (x : Places) (next : List ℕ) (h : ℕ) → acts_at (to_xor_made a b x next).gadgets h ≡ is_either h a b
  pub to_sums : (a b : HostId) (x : Places) (next : List ℕ) (h : ℕ) → acts_at (to_add_made a b x next).gadgets h ≡ is_either h a b
