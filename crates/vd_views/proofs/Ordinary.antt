-- The calls of the suite but its moves tell nothing openly and take no pair; and no call has a host take an own word by itself, but commitments.
use Rattle.std.proofs.Common.{ℕ, nat_eq, Bool, true, false, if◌then◌else◌, List, [], ◌∷◌, ◌++◌}
use Rattle.std.specs.Prelude.{map}
use Rattle.vd_base.specs.declared.ids.HostId.{HostId}
use Rattle.vd_base.specs.declared.operations.Op.{Op}
use Rattle.vd_base.specs.declared.operations.Op.TheVariants as op
use Rattle.vd_base.specs.declared.protocols.Proto.{Proto}
use Rattle.vd_base.specs.declared.protocols.Proto.TheVariants.{Local, Rep, Commit, Add, Xor}
use Rattle.vd_base.specs.Holders.{holders}
use Rattle.vd_execution.specs.declared.instructions.Reg.{Reg}
use Rattle.vd_execution.specs.declared.instructions.Action.TheVariants as action
use Rattle.vd_execution.specs.Joint.{Part}
use Rattle.vd_execution.specs.Gadgets.{Sharing, BySums, ByXors, Gadget, Alone, Tells, Shares as Gives, BothShare, Opens, Masked, Paired}
use Rattle.vd_duet.specs.Builder.{next_at}
use Rattle.vd_duet.specs.Calls.{Places, Made, register_of}
use Rattle.vd_clear.specs.Copies.{written_by, literal_at, kept_by, operated, applied_at, first_of, after_first, each_made, renewed}
use Rattle.vd_backend_sharing.specs.Gates.{Gate, And, Xor as XorGate, Shl, Shr, Not, Flip, Lowest, Mask, gates_of}
use Rattle.vd_backend_sharing.specs.declared.shares.PartRegisters.{PartRegisters}
use Rattle.vd_backend_sharing.specs.PairCalls.{shares_of, product_shares}
use Rattle.vd_words.specs.AddCalls.{add_apply}
use Rattle.vd_bits.specs.BitCalls.{parts_at, gate_shares, gates_shares}
use Rattle.vd_backend_laws.specs.Parts.{Parts, back_end, turn_part, turned, put_in, printed, zeros_at, new_cells, index_of, cell_read, cell_written}
use Rattle.vd_views.specs.Views.{Coalition}
use Rattle.vd_views.specs.Sides.{Each, IsPlainAction, IsPlain, IsQuiet}
use Rattle.vd_views.proofs.Sides.{each_append}
use Rattle.vd_views.proofs.Rows.{IsUnpaired}

-- no host takes an own word by itself, and no pair is taken
abbrev pub IsUsual : Gadget → Type 0
IsUsual (Alone h a) = IsPlainAction a
IsUsual (Tells a said b heard) = Unit {0}
IsUsual (Gives a r b heard) = Unit {0}
IsUsual (BothShare a r heard b q heard_b) = Unit {0}
IsUsual (Opens sharing a x b y heard) = Unit {0}
IsUsual (Masked sharing m n) = Unit {0}
IsUsual (Paired p q) = ⊥

-- and nothing is told openly
abbrev pub IsOrdinary : Gadget → Type 0
IsOrdinary (Alone h a) = IsPlainAction a
IsOrdinary (Tells a said b heard) = ⊥
IsOrdinary (Gives a r b heard) = Unit {0}
IsOrdinary (BothShare a r heard b q heard_b) = Unit {0}
IsOrdinary (Opens sharing a x b y heard) = ⊥
IsOrdinary (Masked sharing m n) = Unit {0}
IsOrdinary (Paired p q) = ⊥

abbrev pub AreUsual : List Gadget → Type 0
AreUsual gs = Each IsUsual gs

abbrev pub AreOrdinary : List Gadget → Type 0
AreOrdinary gs = Each IsOrdinary gs

each_so : (P Q : Gadget → Type 0) → ((g : Gadget) → P g → Q g) → (gs : List Gadget) → Each P gs → Each Q gs
each_so P Q so [] e = tt
each_so P Q so (g ∷ gs) e = (so g e.0, each_so P Q so gs e.1)

ordinary_quiet : (g : Gadget) → IsOrdinary g → IsQuiet g
ordinary_quiet (Alone h a) o = o
ordinary_quiet (Tells a said b heard) o = o
ordinary_quiet (Gives a r b heard) o = tt
ordinary_quiet (BothShare a r heard b q heard_b) o = tt
ordinary_quiet (Opens sharing a x b y heard) o = o
ordinary_quiet (Masked sharing m n) o = tt
ordinary_quiet (Paired p q) o = tt

ordinary_usual : (g : Gadget) → IsOrdinary g → IsUsual g
ordinary_usual (Alone h a) o = o
ordinary_usual (Tells a said b heard) o = tt
ordinary_usual (Gives a r b heard) o = tt
ordinary_usual (BothShare a r heard b q heard_b) o = tt
ordinary_usual (Opens sharing a x b y heard) o = tt
ordinary_usual (Masked sharing m n) o = tt
ordinary_usual (Paired p q) o = o

usual_plain : (K : Coalition) (g : Gadget) → IsUsual g → IsPlain K g
usual_plain K (Alone h a) u = λ o. u
usual_plain K (Tells a said b heard) u = tt
usual_plain K (Gives a r b heard) u = tt
usual_plain K (BothShare a r heard b q heard_b) u = tt
usual_plain K (Opens sharing a x b y heard) u = tt
usual_plain K (Masked sharing m n) u = tt
usual_plain K (Paired p q) u = tt

usual_unpaired : (g : Gadget) → IsUsual g → IsUnpaired g
usual_unpaired (Alone h a) u = tt
usual_unpaired (Tells a said b heard) u = tt
usual_unpaired (Gives a r b heard) u = tt
usual_unpaired (BothShare a r heard b q heard_b) u = tt
usual_unpaired (Opens sharing a x b y heard) u = tt
usual_unpaired (Masked sharing m n) u = tt
usual_unpaired (Paired p q) u = u

pub all_quiet : (gs : List Gadget) → AreOrdinary gs → Each IsQuiet gs
all_quiet gs e = each_so IsOrdinary IsQuiet ordinary_quiet gs e

pub all_usual : (gs : List Gadget) → AreOrdinary gs → AreUsual gs
all_usual gs e = each_so IsOrdinary IsUsual ordinary_usual gs e

pub all_plain : (K : Coalition) (gs : List Gadget) → AreUsual gs → Each (IsPlain K) gs
all_plain K gs e = each_so IsUsual (IsPlain K) (usual_plain K) gs e

pub all_unpaired : (gs : List Gadget) → AreUsual gs → Each IsUnpaired gs
all_unpaired gs e = each_so IsUsual IsUnpaired usual_unpaired gs e

-- ---- hosts one after the other

pub each_by : (P : Gadget → Type 0) (f : HostId → List ℕ → Made Reg) → ((k : HostId) (next : List ℕ) → Each P (f k next).gadgets) → (hs : List HostId) (next : List ℕ) → Each P (each_made f hs next).gadgets
each_by P f q [] next = tt
each_by P f q (k ∷ hs) next = each_append P (f k next).gadgets (each_made f hs (f k next).next).gadgets (q k next) (each_by P f q hs (f k next).next)

operated_ordinary : (o : Op) (x y z : Reg) (k : HostId) (next : List ℕ) → AreOrdinary (operated o x y z k next).gadgets
operated_ordinary op.Add x y z k next = (tt, tt)
operated_ordinary op.Sub x y z k next = (tt, tt)
operated_ordinary op.Mul x y z k next = (tt, tt)
operated_ordinary (op.Scale n) x y z k next = (tt, (tt, tt))
operated_ordinary op.Div x y z k next = (tt, tt)
operated_ordinary op.Rem x y z k next = (tt, tt)
operated_ordinary op.And x y z k next = (tt, tt)
operated_ordinary op.Or x y z k next = (tt, tt)
operated_ordinary op.Xor x y z k next = (tt, tt)
operated_ordinary op.Not x y z k next = (tt, (tt, tt))
operated_ordinary op.Flip x y z k next = (tt, (tt, tt))
operated_ordinary (op.Shl n) x y z k next = (tt, tt)
operated_ordinary (op.Shr n) x y z k next = (tt, tt)
operated_ordinary op.Eq x y z k next = (tt, tt)
operated_ordinary op.Ne x y z k next = (tt, tt)
operated_ordinary op.Lt x y z k next = (tt, tt)
operated_ordinary op.Le x y z k next = (tt, tt)
operated_ordinary op.Min x y z k next = (tt, tt)
operated_ordinary op.Max x y z k next = (tt, tt)
operated_ordinary op.Mux x y z k next = (tt, tt)

applied_ordinary : (o : Op) (xs : List Places) (hs : List HostId) (next : List ℕ) → AreOrdinary (each_made (applied_at o xs) hs next).gadgets
applied_ordinary o xs hs next = each_by IsOrdinary (applied_at o xs) (λ k n. operated_ordinary o (first_of xs k) (first_of (after_first xs) k) (first_of (after_first (after_first xs)) k) k n) hs next

renewed_ordinary : (kept x : Places) → AreOrdinary (renewed kept x)
renewed_ordinary [] x = tt
renewed_ordinary (q ∷ kept) x = (tt, renewed_ordinary kept x)

-- ---- two hosts

product_ordinary : (s : Sharing) (a b : HostId) (x y : PartRegisters) (next : List ℕ) → AreOrdinary (product_shares s a b x y next).gadgets
unfolding product_shares
product_ordinary s a b x y next = (tt, (tt, (tt, (tt, (tt, (tt, (tt, (tt, (tt, (tt, (tt, (tt, (tt, (tt, (tt, tt)))))))))))))))

gate_ordinary : (a b : HostId) (g : Gate) (words : List PartRegisters) (next : List ℕ) → AreOrdinary (gate_shares a b g words next).gadgets
gate_ordinary a b (And x y) words next = product_ordinary ByXors a b (parts_at words x) (parts_at words y) next
gate_ordinary a b (XorGate x y) words next = (tt, (tt, tt))
gate_ordinary a b (Shl k x) words next = (tt, (tt, tt))
gate_ordinary a b (Shr k x) words next = (tt, (tt, tt))
gate_ordinary a b (Not x) words next = (tt, (tt, tt))
gate_ordinary a b (Flip x) words next = (tt, (tt, tt))
gate_ordinary a b (Lowest x) words next = (tt, (tt, (tt, (tt, tt))))
gate_ordinary a b (Mask x) words next = (tt, (tt, (tt, (tt, (tt, (tt, (tt, (tt, tt))))))))

pub gates_ordinary : (a b : HostId) (gates : List Gate) (words : List PartRegisters) (next : List ℕ) → AreOrdinary (gates_shares a b gates words next).gadgets
gates_ordinary a b [] words next = tt
gates_ordinary a b (g ∷ gates) words next =
    let one : Made PartRegisters = gate_shares a b g words next in
    each_append IsOrdinary one.gadgets (gates_shares a b gates (words ++ one.given ∷ []) one.next).gadgets (gate_ordinary a b g words next) (gates_ordinary a b gates (words ++ one.given ∷ []) one.next)

added_ordinary : (a b : HostId) (o : Op) (xs : List Places) (next : List ℕ) → AreOrdinary (add_apply a b o xs next).gadgets
added_ordinary a b op.Add xs next = (tt, (tt, tt))
added_ordinary a b op.Sub xs next = (tt, (tt, tt))
added_ordinary a b op.Mul xs next = product_ordinary BySums a b _ _ next
added_ordinary a b (op.Scale k) xs next = (tt, (tt, (tt, (tt, tt))))
added_ordinary a b op.Div xs next = tt
added_ordinary a b op.Rem xs next = tt
added_ordinary a b op.And xs next = tt
added_ordinary a b op.Or xs next = tt
added_ordinary a b op.Xor xs next = tt
added_ordinary a b op.Not xs next = tt
added_ordinary a b op.Flip xs next = tt
added_ordinary a b (op.Shl k) xs next = tt
added_ordinary a b (op.Shr k) xs next = tt
added_ordinary a b op.Eq xs next = tt
added_ordinary a b op.Ne xs next = tt
added_ordinary a b op.Lt xs next = tt
added_ordinary a b op.Le xs next = tt
added_ordinary a b op.Min xs next = tt
added_ordinary a b op.Max xs next = tt
added_ordinary a b op.Mux xs next = tt

-- ---- the calls

pub literal_ordinary : (p : Proto) (v : ℕ) (next : List ℕ) → AreOrdinary ((back_end p).literal v next).gadgets
literal_ordinary (Local h) v next = each_by IsOrdinary (literal_at v) (λ k n. (tt, tt)) (holders (Local h)) next
literal_ordinary (Rep set) v next = each_by IsOrdinary (literal_at v) (λ k n. (tt, tt)) (holders (Rep set)) next
literal_ordinary (Commit a b) v next = tt
literal_ordinary (Add a b) v next = (tt, (tt, tt))
literal_ordinary (Xor a b) v next = (tt, (tt, tt))

pub apply_ordinary : (p : Proto) (o : Op) (xs : List Places) (next : List ℕ) → AreOrdinary ((back_end p).apply o xs next).gadgets
apply_ordinary (Local h) o xs next = applied_ordinary o xs (holders (Local h)) next
apply_ordinary (Rep set) o xs next = applied_ordinary o xs (holders (Rep set)) next
apply_ordinary (Commit a b) o xs next = tt
apply_ordinary (Add a b) o xs next = added_ordinary a b o xs next
apply_ordinary (Xor a b) o xs next = gates_ordinary a b (gates_of o) (map shares_of xs) next

pub keep_ordinary : (p : Proto) (x : Places) (next : List ℕ) → AreOrdinary ((back_end p).keep x next).gadgets
keep_ordinary (Local h) x next = each_by IsOrdinary (kept_by x) (λ k n. (tt, tt)) (holders (Local h)) next
keep_ordinary (Rep set) x next = each_by IsOrdinary (kept_by x) (λ k n. (tt, tt)) (holders (Rep set)) next
keep_ordinary (Commit a b) x next = tt
keep_ordinary (Add a b) x next = (tt, (tt, tt))
keep_ordinary (Xor a b) x next = (tt, (tt, tt))

pub renew_ordinary : (p : Proto) (kept x : Places) → AreOrdinary ((back_end p).renew kept x)
renew_ordinary (Local h) kept x = renewed_ordinary kept x
renew_ordinary (Rep set) kept x = renewed_ordinary kept x
renew_ordinary (Commit a b) kept x = tt
renew_ordinary (Add a b) kept x = (tt, (tt, tt))
renew_ordinary (Xor a b) kept x = (tt, (tt, tt))

either_ordinary : (b : Bool) (k : HostId) (r : Reg) (next : List ℕ)
    → AreOrdinary (if b then written_by k (λ q. action.Copy q r) next else written_by k (λ q. action.Const q 0) next).gadgets
either_ordinary true k r next = (tt, tt)
either_ordinary false k r next = (tt, tt)

part_ordinary : (p : Proto) (loop : List ℕ) (k : HostId) (next : List ℕ) → AreOrdinary (turn_part p loop k next).gadgets
part_ordinary (Local h) loop k next = (tt, tt)
part_ordinary (Rep set) loop k next = (tt, tt)
part_ordinary (Commit a b) loop k next = (tt, tt)
part_ordinary (Add a b) loop k next = either_ordinary (nat_eq k.0 a.0) k (next_at loop k) next
part_ordinary (Xor a b) loop k next = either_ordinary (nat_eq k.0 a.0) k (next_at loop k) next

pub turn_ordinary : (p : Proto) (loop next : List ℕ) → AreOrdinary (turned p loop next).gadgets
turn_ordinary p loop next = each_by IsOrdinary (turn_part p loop) (λ k n. part_ordinary p loop k n) (holders p) next

pub input_ordinary : (k : HostId) (next : List ℕ) → AreOrdinary (put_in k next).gadgets
input_ordinary k next = (tt, tt)

pub output_ordinary : (k : HostId) (x : Places) → AreOrdinary (printed k x)
output_ordinary k x = (tt, tt)

pub cells_ordinary : (p : Proto) (size : ℕ) (next : List ℕ) → AreOrdinary (new_cells p size next).gadgets
cells_ordinary p size next = each_by IsOrdinary (zeros_at size) (λ k n. (tt, tt)) (holders p) next

pub get_ordinary : (p : Proto) (x : Parts) (at : List Part) (next : List ℕ) → AreOrdinary (cell_read p x at next).gadgets
get_ordinary p x at next = each_by IsOrdinary (λ k. written_by k (λ r. action.Get r (register_of x.at k.0) x.size (index_of at k.0))) (λ k n. (tt, tt)) (holders p) next

written_ordinary : (f : HostId → Gadget) → ((k : HostId) → IsOrdinary (f k)) → (hs : List HostId) → AreOrdinary (map f hs)
written_ordinary f q [] = tt
written_ordinary f q (k ∷ hs) = (q k, written_ordinary f q hs)

pub put_ordinary : (p : Proto) (kept : Parts) (at : List Part) (x : Places) → AreOrdinary (cell_written p kept at x)
put_ordinary p kept at x = written_ordinary (λ k. Alone k (action.Put (register_of kept.at k.0) kept.size (index_of at k.0) (register_of x k.0))) (λ k. tt) (holders p)
