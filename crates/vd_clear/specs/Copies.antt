-- The calls of hosts that hold a word in clear, each a copy: of one host, or of two and more.
use Rattle.std.specs.Prelude.{ℕ, ◌+◌, nat_eq, true, if◌then◌else◌, List, [], ◌∷◌, ◌++◌, map}
use Rattle.vd_base.specs.declared.ids.HostId.{HostId}
use Rattle.vd_base.specs.declared.operations.Op.{Op}
use Rattle.vd_base.specs.declared.operations.Op.TheVariants as op
use Rattle.vd_base.specs.declared.protocols.HostSet.{HostSet}
use Rattle.vd_base.specs.declared.protocols.Proto.{Proto}
use Rattle.vd_base.specs.declared.protocols.Proto.TheVariants.{Rep}
use Rattle.vd_base.specs.Holders.{holders, is_among}
use Rattle.vd_execution.specs.declared.instructions.Reg.{Reg}
use Rattle.vd_execution.specs.declared.instructions.Binary.{Binary}
use Rattle.vd_execution.specs.declared.instructions.Binary.TheVariants as binary
use Rattle.vd_execution.specs.declared.instructions.Action.{Action}
use Rattle.vd_execution.specs.declared.instructions.Action.TheVariants as action
use Rattle.vd_execution.specs.Gadgets.{Gadget, Alone, Tells}
use Rattle.vd_execution.specs.Text.{register}
use Rattle.vd_duet.specs.Builder.{next_at, taken}
use Rattle.vd_duet.specs.Calls.{Places, hosts_of, register_of, Made, Calls}

-- ---- what one host does to have its copy

-- one action writes a fresh register
abbrev pub written_by : HostId → (Reg → Action) → List ℕ → Made Reg
written_by h act next = record { given = next_at next h; gadgets = Alone h (act (next_at next h)) ∷ []; next = taken h 1 next }

-- an operation with a number, which another action puts beside it
abbrev pub with_number : HostId → ℕ → Binary → Reg → List ℕ → Made Reg
with_number h k o x next =
    let n : Reg = next_at next h in
    let m : Reg = register (n.0 + 1) in
    record { given = m; gadgets = Alone h (action.Const n k) ∷ Alone h (action.Apply o m x n) ∷ []; next = taken h 2 next }

abbrev pub literal_at : ℕ → HostId → List ℕ → Made Reg
literal_at v h next = written_by h (λ r. action.Const r v) next

-- a word goes from a host to another, or stays
abbrev pub passed : HostId → Reg → HostId → List ℕ → Made Reg
passed a x b next =
    if nat_eq a.0 b.0 then record { given = x; gadgets = []; next = next }
    else record { given = next_at next b; gadgets = Tells a (x ∷ []) b (next_at next b ∷ []) ∷ []; next = taken b 1 next }

abbrev pub adopted : Places → HostId → List ℕ → Made Reg
adopted x h next = record { given = register_of x h.0; gadgets = []; next = next }

abbrev pub kept_by : Places → HostId → List ℕ → Made Reg
kept_by x h next = written_by h (λ r. action.Copy r (register_of x h.0)) next

-- a host's register of the first operand, and the operands after it
abbrev pub first_of : List Places → HostId → Reg
first_of [] h = register 0
first_of (x ∷ xs) h = register_of x h.0

abbrev pub after_first : List Places → List Places
after_first [] = []
after_first (x ∷ xs) = xs

-- an operation on a host's registers of up to three operands
abbrev pub operated : Op → Reg → Reg → Reg → HostId → List ℕ → Made Reg
operated op.Add x y z h next = written_by h (λ r. action.Apply binary.Add r x y) next
operated op.Sub x y z h next = written_by h (λ r. action.Apply binary.Sub r x y) next
operated op.Mul x y z h next = written_by h (λ r. action.Apply binary.Mul r x y) next
operated (op.Scale k) x y z h next = with_number h k binary.Mul x next
operated op.Div x y z h next = written_by h (λ r. action.Apply binary.Div r x y) next
operated op.Rem x y z h next = written_by h (λ r. action.Apply binary.Rem r x y) next
operated op.And x y z h next = written_by h (λ r. action.Apply binary.And r x y) next
operated op.Or x y z h next = written_by h (λ r. action.Apply binary.Or r x y) next
operated op.Xor x y z h next = written_by h (λ r. action.Apply binary.Xor r x y) next
operated op.Not x y z h next = with_number h 4294967295 binary.Xor x next
operated op.Flip x y z h next = with_number h 1 binary.Xor x next
operated (op.Shl k) x y z h next = written_by h (λ r. action.Shl r x k) next
operated (op.Shr k) x y z h next = written_by h (λ r. action.Shr r x k) next
operated op.Eq x y z h next = written_by h (λ r. action.Apply binary.Eq r x y) next
operated op.Ne x y z h next = written_by h (λ r. action.Apply binary.Ne r x y) next
operated op.Lt x y z h next = written_by h (λ r. action.Apply binary.Lt r x y) next
operated op.Le x y z h next = written_by h (λ r. action.Apply binary.Le r x y) next
operated op.Min x y z h next = written_by h (λ r. action.Apply binary.Min r x y) next
operated op.Max x y z h next = written_by h (λ r. action.Apply binary.Max r x y) next
operated op.Mux x y z h next = written_by h (λ r. action.Mux r x y z) next

abbrev pub applied_at : Op → List Places → HostId → List ℕ → Made Reg
applied_at o xs h next = operated o (first_of xs h) (first_of (after_first xs) h) (first_of (after_first (after_first xs)) h) h next

-- ---- copies are told to a host, which compares them

-- each host tells its copy
abbrev pub told : Places → HostId → List ℕ → Made (List Reg)
told [] to next = record { given = []; gadgets = []; next = next }
told (q ∷ x) to next =
    let rest = told x to (taken to 1 next) in
    record {
      given = next_at next to ∷ rest.given;
      gadgets = Tells q.0 (q.1 ∷ []) to (next_at next to ∷ []) ∷ rest.gadgets;
      next = rest.next;
    }

-- the first is compared with each other
abbrev pub compared : HostId → List Reg → List Gadget
compared h [] = []
compared h (r ∷ rs) = map (λ s. Alone h (action.Same r s)) rs

abbrev pub first_register : List Reg → Reg
first_register [] = register 0
first_register (r ∷ rs) = r

abbrev pub shown : Places → HostId → List ℕ → Made Reg
shown x to next =
    if is_among (hosts_of x) to.0 then adopted x to next
    else record {
      given = first_register (told x to next).given;
      gadgets = (told x to next).gadgets ++ compared to (told x to next).given;
      next = (told x to next).next;
    }

-- ---- the calls

-- each of some hosts, in order
abbrev pub each_made : (HostId → List ℕ → Made Reg) → List HostId → List ℕ → Made Places
each_made f [] next = record { given = []; gadgets = []; next = next }
each_made f (h ∷ hs) next =
    let rest = each_made f hs (f h next).next in
    record { given = (h, (f h next).given) ∷ rest.given; gadgets = (f h next).gadgets ++ rest.gadgets; next = rest.next }

-- each copy is written over
abbrev pub renewed : Places → Places → List Gadget
renewed kept x = map (λ q. Alone q.0 (action.Copy q.1 (register_of x q.0.0))) kept

abbrev pub clear_calls : Proto → Calls
clear_calls p = record {
  proto = p;
  serves = λ o. true;
  literal = λ v. each_made (literal_at v) (holders p);
  share = λ from x. each_made (passed from x) (holders p);
  adopt = λ x. each_made (adopted x) (holders p);
  show = shown;
  show_all = λ x next. record { given = x; gadgets = []; next = next };
  keep = λ x. each_made (kept_by x) (holders p);
  renew = renewed;
  apply = λ o xs. each_made (applied_at o xs) (holders p);
}

-- copies at one set of hosts become copies at another
abbrev pub spread_to : HostSet → Places → List ℕ → Made Places
spread_to set x = each_made (shown x) (holders (Rep set))
