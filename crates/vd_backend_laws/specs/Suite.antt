-- The suite of all protocols: what the parts of a slot stand for, what can stand where, and which protocols join.
use Rattle.std.specs.Prelude.{◌≡◌, ℕ, ◌+◌, ◌<◌, nat_eq, nat_lt, Bool, true, not, ◌&&◌, IsTrue, is_some, List, [], ◌∷◌, length, map, slice_index}
use Rattle.vd_base.specs.declared.ids.HostId.{HostId}
use Rattle.vd_base.specs.declared.protocols.Proto.{Proto}
use Rattle.vd_base.specs.declared.protocols.Proto.TheVariants.{Local, Rep, Commit, Add, Xor}
use Rattle.vd_base.specs.declared.rows.Row.{Row}
use Rattle.vd_base.specs.Costs.{cost_at}
use Rattle.vd_base.specs.Moves.{move_at}
use Rattle.vd_base.specs.Holders.{holders, HasHosts}
use Rattle.vd_execution.specs.Registers.{nth, words_from, digest_of}
use Rattle.vd_execution.specs.Step.{Inputs}
use Rattle.vd_execution.specs.World.{Tape}
use Rattle.vd_execution.specs.Joint.{Hosts}
use Rattle.vd_execution.specs.Text.{register}
use Rattle.vd_duet.specs.Calls.{Places, hosts_of, Stand}
use Rattle.vd_duet.specs.Laws.{IsIn, IsHost, words_at}
use Rattle.vd_split.specs.Suite.{Suite, Content, Word, Cells}
use Rattle.vd_backend_laws.specs.Machine.{machine}
use Rattle.vd_backend_laws.specs.Commits.{committed_at, held_of, seen_of}
use Rattle.vd_backend_laws.specs.Parts.{Parts, suite_calls}

-- the registers of a slot's cell at all hosts
abbrev pub cell : ℕ → Places → Places
cell i x = map (λ q. (q.0, register (q.1.0 + i))) x

-- a register of a host is one of the slot's
abbrev pub Names : Parts → ℕ → ℕ → Type 0
Names x h r = (i : ℕ) × (i < x.size) × IsIn (cell i x.at) h r

-- at the hosts of a protocol that is no commitment, each cell stands for its word
pub record StandForCells (w : Hosts) (p : Proto) (x : Parts) (vs : List ℕ) : Type 0 where
  pub size : x.size ≡ length vs
  pub at : hosts_of x.at ≡ holders p
  pub cells : (i : ℕ) → i < x.size → Stand p (words_at w (cell i x.at)) (slice_index vs i)

-- a commitment: the host that is bound has the word and a nonce, and the other host their digest
pub record IsBound (w : Hosts) (p v : HostId) (x : Parts) (word : ℕ) : Type 0 where
  pub size : x.size ≡ 1
  pub at : x.at ≡ committed_at p v (held_of x.at, seen_of x.at)
  pub value : (w p.0).registers (held_of x.at).value.0 ≡ word
  pub digest : words_from (w v.0).registers (seen_of x.at).digest.0 8 ≡ digest_of (words_from (w p.0).registers (held_of x.at).nonce.0 8) word

abbrev pub stands : Hosts → Proto → Parts → Content → Type 0
stands w (Commit p v) x (Word n) = IsBound w p v x n
stands w (Commit p v) x (Cells ns) = ⊥
stands w q x (Word n) = StandForCells w q x (n ∷ [])
stands w q x (Cells ns) = StandForCells w q x ns

-- two hosts that share are in order, and can be members of a set; those of a commitment differ, and can be members too
abbrev pub is_in_order : Proto → Bool
is_in_order (Local h) = true
is_in_order (Rep set) = true
is_in_order (Commit p v) = not (nat_eq p.0 v.0) && (nat_lt p.0 8 && nat_lt v.0 8)
is_in_order (Add a b) = nat_lt a.0 b.0 && nat_lt b.0 8
is_in_order (Xor a b) = nat_lt a.0 b.0 && nat_lt b.0 8

-- the protocol has a host, and its hosts are among the first ones, in order
pub record IsOver (hosts : ℕ) (p : Proto) : Type 0 where
  pub some : (h : ℕ) × IsHost (holders p) h
  pub known : HasHosts hosts p
  pub ordered : IsTrue (is_in_order p)

-- the tables
abbrev pub holds : Row → Proto → Bool
holds row p = is_some (cost_at row p)

abbrev pub joins : Proto → Proto → Bool
joins p q = is_some (move_at p q)

abbrev pub suite : (t : Tape) (inputs : ℕ → List ℕ) → ℕ → Suite (machine t inputs)
suite t inputs hosts = record {
  Parts = Parts;
  calls = suite_calls hosts;
  Names = Names;
  Stands = stands;
  Declared = IsOver hosts;
  holds = holds;
  joins = joins;
}

-- the inputs that each host is given are these, followed by zeros
abbrev pub AreGiven : (ℕ → List ℕ) → Tape → Type 0
AreGiven inputs t = (h i : ℕ) → nth (t h Inputs i) 0 ≡ slice_index (inputs h) i
