-- What a slot has, and the calls of all protocols: those of the back ends, those of commitments, and those that no back end has.
use Rattle.std.specs.Prelude.{ℕ, nat_eq, Bool, true, false, if◌then◌else◌, List, [], ◌∷◌, map}
use Rattle.vd_base.specs.declared.ids.HostId.{HostId}
use Rattle.vd_base.specs.declared.protocols.Proto.{Proto}
use Rattle.vd_base.specs.declared.protocols.Proto.TheVariants.{Local, Rep, Commit, Add, Xor}
use Rattle.vd_base.specs.Holders.{holders}
use Rattle.vd_execution.specs.declared.instructions.Reg.{Reg}
use Rattle.vd_execution.specs.declared.instructions.Action.TheVariants as action
use Rattle.vd_execution.specs.Joint.{Part}
use Rattle.vd_execution.specs.Gadgets.{Gadget, Alone}
use Rattle.vd_execution.specs.Text.{register}
use Rattle.vd_duet.specs.Builder.{next_at, taken}
use Rattle.vd_duet.specs.Calls.{Places, Made, Calls, register_of}
use Rattle.vd_duet.specs.Acting.{apply_at}
use Rattle.vd_duet.specs.Laws.{at_host}
use Rattle.vd_clear.specs.Copies.{written_by, each_made, clear_calls}
use Rattle.vd_words.specs.AddCalls.{add_calls}
use Rattle.vd_circuit.specs.CircuitCalls.{circuit_calls}
use Rattle.vd_split.specs.Suite.{Calls as AllCalls, Made as AnyMade}
use Rattle.vd_backend_laws.specs.Commits.{commit_calls}
use Rattle.vd_backend_laws.specs.Moves.{Route, Share, Adopt, Show, ShowAll, Spread, Same, SameBound, ToXor, ToAdd, moved, moved_at}

-- A register at each host of the protocol, and how many registers from there on are the slot's: one for a word, and for an array its size.
-- A commitment has each of its registers by itself.
pub record Parts : Type 0 where
  pub at : Places
  pub size : ℕ

abbrev pub word_in : Places → Parts
word_in x = record { at = x; size = 1 }

-- what a call makes, as the theory of splitting has it
abbrev pub made_of : Made Places → AnyMade Gadget Parts
made_of made = record { given = word_in made.given; acts = made.gadgets; next = made.next }

-- ---- the back ends

-- all protocols but commitments: there words are made, operations stand, and variables
abbrev pub has_back_end : Proto → Bool
has_back_end (Commit p v) = false
has_back_end p = true

abbrev pub back_end : Proto → Calls
back_end (Local h) = clear_calls (Local h)
back_end (Rep set) = clear_calls (Rep set)
back_end (Add a b) = add_calls a b
back_end (Xor a b) = circuit_calls a b
back_end (Commit p v) = commit_calls p v

-- how a word gets from one protocol to another
abbrev pub route : Proto → Proto → Route
route (Local h) q = Share h
route (Rep set) (Local k) = Show k
route (Rep set) (Rep other) = Spread other
route (Rep set) q = Adopt
route (Commit p v) (Local k) = Show k
route (Commit p v) (Rep set) = ShowAll
route (Commit p v) (Commit c d) = SameBound c d
route (Commit p v) q = Adopt
route (Add a b) (Local k) = Show k
route (Add a b) (Rep set) = ShowAll
route (Add a b) (Add c d) = Same c d
route (Add a b) (Xor c d) = ToXor c d
route (Add a b) q = Adopt
route (Xor a b) (Local k) = Show k
route (Xor a b) (Rep set) = ShowAll
route (Xor a b) (Add c d) = ToAdd c d
route (Xor a b) (Xor c d) = Same c d
route (Xor a b) q = Adopt

-- ---- the calls that no back end has

-- a host's part of the number of a turn, which stands in clear in its loop's register
abbrev pub turn_part : Proto → List ℕ → HostId → List ℕ → Made Reg
turn_part (Add a b) loop h next = if nat_eq h.0 a.0 then written_by h (λ r. action.Copy r (next_at loop h)) next else written_by h (λ r. action.Const r 0) next
turn_part (Xor a b) loop h next = if nat_eq h.0 a.0 then written_by h (λ r. action.Copy r (next_at loop h)) next else written_by h (λ r. action.Const r 0) next
turn_part p loop h next = written_by h (λ r. action.Copy r (next_at loop h)) next

abbrev pub turned : Proto → List ℕ → List ℕ → Made Places
turned p loop = each_made (turn_part p loop) (holders p)

abbrev pub put_in : HostId → List ℕ → Made Places
put_in h next = at_host h (written_by h (λ r. action.Input r) next)

abbrev pub printed : HostId → Places → List Gadget
printed h x = Alone h (action.Print (register_of x h.0)) ∷ []

-- a host's registers of an array get 0
abbrev pub zeros_at : ℕ → HostId → List ℕ → Made Reg
zeros_at size h next = record { given = next_at next h; gadgets = Alone h (action.Zero (next_at next h) size) ∷ []; next = taken h size next }

abbrev pub new_cells : Proto → ℕ → List ℕ → Made Places
new_cells p size = each_made (zeros_at size) (holders p)

-- the register of a host's index
abbrev pub index_of : List Part → ℕ → Reg
index_of [] h = register 0
index_of (q ∷ at) h = if nat_eq h q.0 then register q.1 else index_of at h

abbrev pub cell_read : Proto → Parts → List Part → List ℕ → Made Places
cell_read p x at = each_made (λ h. written_by h (λ r. action.Get r (register_of x.at h.0) x.size (index_of at h.0))) (holders p)

abbrev pub cell_written : Proto → Parts → List Part → Places → List Gadget
cell_written p kept at x = map (λ h. Alone h (action.Put (register_of kept.at h.0) kept.size (index_of at h.0) (register_of x h.0))) (holders p)

-- ---- all calls, over so many hosts

abbrev pub suite_calls : ℕ → AllCalls Gadget Parts
suite_calls hosts = record {
  hosts = hosts;
  nowhere = record { at = []; size = 0 };
  register = λ x h. (register_of x.at h).0;
  moves_at = λ p q h. moved_at (route p q) p q h;
  applies_at = apply_at;
  literal = λ p v next. made_of ((back_end p).literal v next);
  turn = λ p loop next. made_of (turned p loop next);
  move = λ p q x next. made_of (moved (route p q) (back_end p) (back_end q) x.at next);
  apply = λ o p xs next. made_of ((back_end p).apply o (map (λ x. x.at) xs) next);
  input = λ h next. made_of (put_in h next);
  output = λ h x. printed h x.at;
  keep = λ p x next. made_of ((back_end p).keep x.at next);
  renew = λ p kept x. (back_end p).renew kept.at x.at;
  cells = λ p size next. let made = new_cells p size next in record { given = record { at = made.given; size = size }; acts = made.gadgets; next = made.next };
  get = λ p x at next. made_of (cell_read p x at next);
  put = λ p kept at x. cell_written p kept at x.at;
}
