-- What the calls of all protocols take.
use Rattle.std.proofs.Common.{◌≡◌, ℕ, suc, ◌≤◌, nat_eq, Bool, true, false, if◌then◌else◌, List, [], ◌∷◌, length, map, refl, ap, lit≤, arith}
use Rattle.vd_base.specs.declared.ids.HostId.{HostId}
use Rattle.vd_base.specs.declared.operations.Op.{Op}
use Rattle.vd_base.specs.declared.protocols.Proto.{Proto}
use Rattle.vd_base.specs.declared.protocols.Proto.TheVariants.{Local, Rep, Commit, Add, Xor}
use Rattle.vd_base.specs.Holders.{holders}
use Rattle.vd_base.proofs.Front.{few_holders}
use Rattle.vd_execution.specs.declared.instructions.Reg.{Reg}
use Rattle.vd_execution.specs.declared.instructions.Action.TheVariants as action
use Rattle.vd_execution.specs.Gadgets.{Gadget, Alone}
use Rattle.vd_execution.specs.Joint.{Part}
use Rattle.vd_duet.specs.Builder.{next_at}
use Rattle.vd_duet.specs.Calls.{Places, Made, Calls, register_of}
use Rattle.vd_clear.specs.Copies.{written_by, shown}
use Rattle.vd_split.specs.Suite.{Made as AnyMade}
use Rattle.vd_backend_laws.specs.Moves.{Route, Share, Adopt, Show, ShowAll, Spread, Same, SameBound, ToXor, ToAdd, only, copies_at, moved}
use Rattle.vd_backend_laws.specs.Parts.{Parts, made_of, back_end, route, turn_part, turned, put_in, index_of, cell_read, cell_written}
use Rattle.vd_projection.proofs.Counts.{acts_in, Takes, takes_none, takes_more, WordTakes, CallsTake, most_plain, most_applied, most_moved}
use Rattle.vd_projection.proofs.Shared.{sums_take, circuits_take, to_bits_take, to_sums_take, commits_take}
use Rattle.vd_projection.proofs.ClearLengths.{EachTakes, written_takes, shown_takes, each_word, clear_takes}

-- what a slot has is in few registers, each with those of an array behind it
abbrev pub IsSmall : Parts → Type 0
IsSmall x = length x.at ≤ 17

pub record CallTakes (n : ℕ) (next : List ℕ) (made : AnyMade Gadget Parts) : Type 0 where
  pub takes : Takes n next made.acts made.next
  pub given : IsSmall made.given

word_takes : (n : ℕ) (next : List ℕ) (made : Made Places) → WordTakes n next made → CallTakes n next (made_of made)
word_takes n next made f = record { takes = f.takes; given = f.given }

-- ---- the back ends

back_end_takes : (p : Proto) → CallsTake (back_end p)
back_end_takes (Local h) = clear_takes (Local h)
back_end_takes (Rep set) = clear_takes (Rep set)
back_end_takes (Commit a b) = commits_take a b
back_end_takes (Add a b) = sums_take a b
back_end_takes (Xor a b) = circuits_take a b

pub literal_takes : (p : Proto) (v : ℕ) (next : List ℕ) → CallTakes most_plain next (made_of ((back_end p).literal v next))
literal_takes p v next = word_takes most_plain next ((back_end p).literal v next) ((back_end_takes p).literal v next)

pub apply_takes : (o : Op) (p : Proto) (xs : List Parts) (next : List ℕ) → CallTakes (most_applied o) next (made_of ((back_end p).apply o (map (λ (x : Parts). x.at) xs) next))
apply_takes o p xs next = word_takes (most_applied o) next ((back_end p).apply o (map (λ (x : Parts). x.at) xs) next) ((back_end_takes p).apply o (map (λ (x : Parts). x.at) xs) next)

pub keep_takes : (p : Proto) (x : Parts) (next : List ℕ) → CallTakes most_plain next (made_of ((back_end p).keep x.at next))
keep_takes p x next = word_takes most_plain next ((back_end p).keep x.at next) ((back_end_takes p).keep x.at next)

pub renew_acts : (p : Proto) (kept x : Parts) → IsSmall kept → acts_in ((back_end p).renew kept.at x.at) ≤ most_plain
renew_acts p kept x f = (back_end_takes p).renew kept.at x.at f

-- ---- moves

copies_length : (hs : List HostId) (x : Places) → length (copies_at hs x) ≡ length hs
copies_length [] x = refl
copies_length (h ∷ hs) x = ap suc (copies_length hs x)

word_more : (m n : ℕ) (next : List ℕ) (made : Made Places) → m ≤ n → WordTakes m next made → WordTakes n next made
word_more m n next made le f = record { takes = takes_more m n next made.gadgets made.next le f.takes; given = f.given }

moved_takes : (r : Route) (p q : Calls) → CallsTake p → CallsTake q → (x : Places) → length x ≤ 17 → (next : List ℕ) → WordTakes most_moved next (moved r p q x next)
moved_takes (Share h) p q from onto x some next = word_more most_plain most_moved next (q.share h (only x) next) (lit≤ tt) (onto.share h (only x) next)
moved_takes Adopt p q from onto x some next = word_more most_plain most_moved next (q.adopt x next) (lit≤ tt) (onto.adopt x next)
moved_takes (Show k) p q from onto x some next =
    record { takes = takes_more most_plain most_moved next (p.show x k next).gadgets (p.show x k next).next (lit≤ tt) (from.show x some k next); given = lit≤ tt }
moved_takes ShowAll p q from onto x some next =
    let made : Made Places = p.show_all x next in
    let same = copies_length (holders q.proto) made.given in
    let few = few_holders q.proto in
    let shown : WordTakes most_plain next made = from.show_all x some next in
    record { takes = takes_more most_plain most_moved next made.gadgets made.next (lit≤ tt) shown.takes; given = omega (arith, same, few) }
moved_takes (Spread set) p q from onto x some next = each_word (Rep set) most_plain most_moved (lit≤ tt) (shown x) (shown_takes x some) next
moved_takes (Same a b) p q from onto x some next = record { takes = takes_none most_moved next; given = lit≤ tt }
moved_takes (SameBound a b) p q from onto x some next = record { takes = takes_none most_moved next; given = lit≤ tt }
moved_takes (ToXor a b) p q from onto x some next = to_bits_take a b x next
moved_takes (ToAdd a b) p q from onto x some next = to_sums_take a b x next

pub move_takes : (p q : Proto) (x : Parts) → IsSmall x → (next : List ℕ) → CallTakes most_moved next (made_of (moved (route p q) (back_end p) (back_end q) x.at next))
move_takes p q x f next =
    word_takes most_moved next (moved (route p q) (back_end p) (back_end q) x.at next)
    (moved_takes (route p q) (back_end p) (back_end q) (back_end_takes p) (back_end_takes q) x.at f next)

-- a move to one host in clear
pub told_takes : (p : Proto) (k : HostId) (x : Parts) → IsSmall x → (next : List ℕ)
    → let made = moved (route p (Local k)) (back_end p) (back_end (Local k)) x.at next in Takes most_plain next made.gadgets made.next
told_takes (Local h) k x f next = let one : WordTakes most_plain next ((back_end (Local k)).share h (only x.at) next) = (clear_takes (Local k)).share h (only x.at) next in one.takes
told_takes (Rep set) k x f next = (clear_takes (Rep set)).show x.at f k next
told_takes (Commit a b) k x f next = (commits_take a b).show x.at f k next
told_takes (Add a b) k x f next = (sums_take a b).show x.at f k next
told_takes (Xor a b) k x f next = (circuits_take a b).show x.at f k next

-- ---- the calls that no back end has

pub turn_takes : (p : Proto) (loop next : List ℕ) → CallTakes most_plain next (made_of (turned p loop next))
turn_takes p loop next = word_takes most_plain next (turned p loop next) (each_word p 1 most_plain (lit≤ tt) (turn_part p loop) (at p) next)
  where
    copied : EachTakes 1 (λ h l. written_by h (λ r. action.Copy r (next_at loop h)) l)
    copied h l = written_takes h (λ r. action.Copy r (next_at loop h)) l

    either : (z : Bool) (h : HostId) (l : List ℕ)
        → (let made : Made Reg = if z then written_by h (λ r. action.Copy r (next_at loop h)) l else written_by h (λ r. action.Const r 0) l in Takes 1 l made.gadgets made.next)
    either true h l = copied h l
    either false h l = written_takes h (λ r. action.Const r 0) l

    at : (p : Proto) → EachTakes 1 (turn_part p loop)
    at (Local k) h l = copied h l
    at (Rep set) h l = copied h l
    at (Commit k j) h l = copied h l
    at (Add k j) h l = either (nat_eq h.0 k.0) h l
    at (Xor k j) h l = either (nat_eq h.0 k.0) h l

pub input_takes : (h : HostId) (next : List ℕ) → CallTakes most_plain next (made_of (put_in h next))
input_takes h next = record { takes = takes_more 1 most_plain next _ _ (lit≤ tt) (written_takes h (λ r. action.Input r) next); given = lit≤ tt }

pub get_takes : (p : Proto) (x : Parts) (at : List Part) (next : List ℕ) → CallTakes most_plain next (made_of (cell_read p x at next))
get_takes p x at next =
    word_takes most_plain next (cell_read p x at next)
    (each_word p 1 most_plain (lit≤ tt) (λ h. written_by h (λ r. action.Get r (register_of x.at h.0) x.size (index_of at h.0)))
    (λ h l. written_takes h (λ r. action.Get r (register_of x.at h.0) x.size (index_of at h.0)) l) next)

pub put_acts : (p : Proto) (kept : Parts) (at : List Part) (x : Parts) → acts_in (cell_written p kept at x.at) ≤ most_plain
put_acts p kept at x = let few = few_holders p in let e = each (holders p) in omega (arith, few, e)
  where
    each : (hs : List HostId) → acts_in (map (λ h. Alone h (action.Put (register_of kept.at h.0) kept.size (index_of at h.0) (register_of x.at h.0))) hs) ≡ length hs
    each [] = refl
    each (h ∷ hs) = let e = each hs in omega (arith, e)
