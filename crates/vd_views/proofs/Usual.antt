-- What holds of usual gadgets, of the conversion to sums and of commitments holds of every move.
use Rattle.std.proofs.Common.{ℕ, nat_eq, Bool, true, false, if◌then◌else◌, List, [], ◌∷◌, ◌++◌}
use Rattle.std.specs.Prelude.{map}
use Rattle.vd_base.specs.declared.ids.HostId.{HostId}
use Rattle.vd_base.specs.declared.protocols.Proto.{Proto}
use Rattle.vd_base.specs.declared.protocols.Proto.TheVariants.{Local, Rep, Commit, Add, Xor}
use Rattle.vd_base.specs.declared.operations.Op.TheVariants as op
use Rattle.vd_base.specs.Holders.{holders, is_among}
use Rattle.vd_execution.specs.declared.instructions.Reg.{Reg}
use Rattle.vd_execution.specs.declared.instructions.Action.TheVariants as action
use Rattle.vd_execution.specs.Gadgets.{Sharing, BySums, ByXors, Gadget, Alone, Tells}
use Rattle.vd_duet.specs.Builder.{next_at, taken}
use Rattle.vd_duet.specs.Calls.{Places, hosts_of, Made}
use Rattle.vd_clear.specs.Copies.{passed, told, compared, adopted, first_register, shown}
use Rattle.vd_backend_sharing.specs.declared.shares.PartRegisters.{PartRegisters}
use Rattle.vd_backend_sharing.specs.PairCalls.{shares_of, split_off, exchanged, shared_from, opened_by, shown_at}
use Rattle.vd_backend_sharing.specs.Gates.{gates_of}
use Rattle.vd_convert.specs.Convert.{masked_parts, to_xor_made, to_add_made}
use Rattle.vd_commit.specs.declared.ends.Held.{Held}
use Rattle.vd_commit.specs.declared.ends.Seen.{Seen}
use Rattle.vd_commit.specs.Commit.{committed, revealed}
use Rattle.vd_backend_laws.specs.Commits.{held_of, place, seen_of, shown_bound, taken_over}
use Rattle.vd_backend_laws.specs.Moves.{only}
use Rattle.vd_backend_laws.specs.Parts.{Parts as SlotParts, suite_calls}
use Rattle.vd_views.proofs.Sides.{each_append}
use Rattle.vd_views.proofs.Ordinary.{IsUsual, AreUsual, AreOrdinary, all_usual, each_by, gates_ordinary}

-- ---- what moves are made of

pub share_ordinary : (s : Sharing) (a b from : HostId) (x : Reg) (next : List ℕ) → AreOrdinary (shared_from s a b from x next).gadgets
share_ordinary s a b from x next = at (nat_eq from.0 a.0)
  where
    at : (z : Bool) → AreOrdinary (if z then split_off s a b x next else exchanged (split_off s b a x next)).gadgets
    at true = (tt, (tt, tt))
    at false = (tt, (tt, tt))

pub to_xor_ordinary : (a b : HostId) (x : Places) (next : List ℕ) → AreOrdinary (to_xor_made a b x next).gadgets
to_xor_ordinary a b x next = (tt, (tt, (tt, gates_ordinary a b (gates_of op.Add) _ (masked_parts a b (shares_of x) next).next)))

passed_usual : (a : HostId) (x : Reg) (k : HostId) (next : List ℕ) → AreUsual (passed a x k next).gadgets
passed_usual a x k next = at (nat_eq a.0 k.0)
  where
    at : (b : Bool) → let one : Made Reg = if b then record { given = x; gadgets = []; next = next } else record { given = next_at next k; gadgets = Tells a (x ∷ []) k (next_at next k ∷ []) ∷ []; next = taken k 1 next } in AreUsual one.gadgets
    at true = tt
    at false = (tt, tt)

told_usual : (x : Places) (k : HostId) (next : List ℕ) → AreUsual (told x k next).gadgets
told_usual [] k next = tt
told_usual (q ∷ x) k next = (tt, told_usual x k (taken k 1 next))

compared_usual : (k : HostId) (rs : List Reg) → AreUsual (compared k rs)
compared_usual k [] = tt
compared_usual k (r ∷ rs) = each k r rs
  where
    each : (k : HostId) (r : Reg) (rs : List Reg) → AreUsual (map (λ s. Alone k (action.Same r s)) rs)
    each k r [] = tt
    each k r (s ∷ rs) = (tt, each k r rs)

shown_usual : (x : Places) (k : HostId) (next : List ℕ) → AreUsual (shown x k next).gadgets
shown_usual x k next = at (is_among (hosts_of x) k.0)
  where
    at : (b : Bool)
        → let one : Made Reg = if b then adopted x k next else record { given = first_register (told x k next).given; gadgets = (told x k next).gadgets ++ compared k (told x k next).given; next = (told x k next).next } in
        AreUsual one.gadgets
    at true = tt
    at false = each_append IsUsual (told x k next).gadgets (compared k (told x k next).given) (told_usual x k next) (compared_usual k (told x k next).given)

opened_usual : (s : Sharing) (a b : HostId) (x : PartRegisters) (k : HostId) (next : List ℕ) → AreUsual (shown_at s a b x k next).gadgets
opened_usual s a b x k next = at (nat_eq k.0 a.0)
  where
    at : (z : Bool) → AreUsual (if z then opened_by s b x.second a x.first next else opened_by s a x.first b x.second next).gadgets
    at true = (tt, (tt, tt))
    at false = (tt, (tt, tt))

-- ---- every move, where Q holds of both protocols

module _ (A : List Gadget → Type 0) (Q : Proto → Type 0) (usual : (gs : List Gadget) → AreUsual gs → A gs) (to_sums : (a b : HostId) (x : Places) (next : List ℕ) → A (to_add_made a b x next).gadgets)
    (bound : (u v : HostId) → Q (Commit u v) → (x : Reg) (next : List ℕ) → A (committed u v x next).gadgets)
    (told_word : (u v : HostId) → Q (Commit u v) → (held : Held) (seen : Seen) (next : List ℕ) → A (revealed u v held seen next).gadgets) where
  ordinary : (gs : List Gadget) → AreOrdinary gs → A gs
  ordinary gs e = usual gs (all_usual gs e)

  shown_kept : (u v : HostId) → Q (Commit u v) → (x : Places) (k : HostId) (next : List ℕ) → A (shown_bound u v x k next).gadgets
  shown_kept u v e x k next = at (nat_eq k.0 u.0)
    where
      at : (b : Bool) → let one : Made Reg = if b then taken_over (place x 0) next else revealed u v (held_of x) (seen_of x) next in A one.gadgets
      at true = usual [] tt
      at false = told_word u v e (held_of x) (seen_of x) next

  pub move_keeps : (hosts : ℕ) (p q : Proto) → Q p → Q q → (x : SlotParts) (next : List ℕ) → A ((suite_calls hosts).move p q x next).acts
  move_keeps hosts (Commit u v) (Local k) e f x next = shown_kept u v e x.at k next
  move_keeps hosts (Commit u v) (Rep set) e f x next = told_word u v e (held_of x.at) (seen_of x.at) next
  move_keeps hosts (Commit u v) (Commit a b) e f x next = usual _ tt
  move_keeps hosts (Commit u v) (Add a b) e f x next = usual _ (tt, tt)
  move_keeps hosts (Commit u v) (Xor a b) e f x next = usual _ (tt, tt)
  move_keeps hosts (Local a) (Local k) e f x next = usual _ (each_by IsUsual (passed a (only x.at)) (passed_usual a (only x.at)) (holders (Local k)) next)
  move_keeps hosts (Local a) (Rep set) e f x next = usual _ (each_by IsUsual (passed a (only x.at)) (passed_usual a (only x.at)) (holders (Rep set)) next)
  move_keeps hosts (Local a) (Commit u v) e f x next = bound u v f (only x.at) next
  move_keeps hosts (Local a) (Add u v) e f x next = ordinary (shared_from BySums u v a (only x.at) next).gadgets (share_ordinary BySums u v a (only x.at) next)
  move_keeps hosts (Local a) (Xor u v) e f x next = ordinary (shared_from ByXors u v a (only x.at) next).gadgets (share_ordinary ByXors u v a (only x.at) next)
  move_keeps hosts (Rep set) (Local k) e f x next = usual _ (shown_usual x.at k next)
  move_keeps hosts (Rep set) (Rep other) e f x next = usual _ (each_by IsUsual (shown x.at) (shown_usual x.at) (holders (Rep other)) next)
  move_keeps hosts (Rep set) (Commit u v) e f x next = usual _ tt
  move_keeps hosts (Rep set) (Add u v) e f x next = usual _ (tt, tt)
  move_keeps hosts (Rep set) (Xor u v) e f x next = usual _ (tt, tt)
  move_keeps hosts (Add a b) (Local k) e f x next = usual _ (opened_usual BySums a b (shares_of x.at) k next)
  move_keeps hosts (Add a b) (Rep set) e f x next = usual _ (tt, (tt, (tt, (tt, tt))))
  move_keeps hosts (Add a b) (Commit u v) e f x next = usual _ tt
  move_keeps hosts (Add a b) (Add u v) e f x next = usual _ tt
  move_keeps hosts (Add a b) (Xor u v) e f x next = ordinary (to_xor_made u v x.at next).gadgets (to_xor_ordinary u v x.at next)
  move_keeps hosts (Xor a b) (Local k) e f x next = usual _ (opened_usual ByXors a b (shares_of x.at) k next)
  move_keeps hosts (Xor a b) (Rep set) e f x next = usual _ (tt, (tt, (tt, (tt, tt))))
  move_keeps hosts (Xor a b) (Commit u v) e f x next = usual _ tt
  move_keeps hosts (Xor a b) (Add u v) e f x next = to_sums u v x.at next
  move_keeps hosts (Xor a b) (Xor u v) e f x next = usual _ tt
