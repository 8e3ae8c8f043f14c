-- The calls of all protocols make few gadgets.
use Rattle.std.proofs.Common.{◌≡◌, ℕ, suc, ◌≤◌, nat_eq, Bool, true, false, if◌then◌else◌, List, [], ◌∷◌, length, map, refl, ap, lit≤, arith}
use Rattle.vd_base.specs.Limits.{most_cells}
use Rattle.vd_base.specs.declared.ids.HostId.{HostId}
use Rattle.vd_base.specs.declared.operations.Op.{Op}
use Rattle.vd_base.specs.declared.protocols.Proto.{Proto}
use Rattle.vd_base.specs.declared.protocols.Proto.TheVariants.{Local, Rep, Commit, Add, Xor}
use Rattle.vd_base.specs.Holders.{holders}
use Rattle.vd_base.proofs.Front.{few_holders}
use Rattle.vd_core.specs.Facts.{amount_fits}
use Rattle.vd_execution.specs.declared.instructions.Reg.{Reg}
use Rattle.vd_execution.specs.declared.instructions.Action.TheVariants as action
use Rattle.vd_execution.specs.Gadgets.{Gadget, Alone}
use Rattle.vd_execution.specs.Joint.{Part}
use Rattle.vd_duet.specs.Builder.{next_at}
use Rattle.vd_duet.specs.Calls.{Places, Made, Calls, register_of}
use Rattle.vd_clear.specs.Copies.{written_by, shown}
use Rattle.vd_split.specs.Suite.{Made as AnyMade}
use Rattle.vd_commit.specs.Commit.{revealed}
use Rattle.vd_backend_laws.specs.Commits.{place, held_of, seen_of, taken_over, shown_bound, commit_calls}
use Rattle.vd_backend_laws.specs.Moves.{Route, Share, Adopt, Show, ShowAll, Spread, Same, SameBound, ToXor, ToAdd, only, copies_at, moved}
use Rattle.vd_backend_laws.specs.Parts.{Parts, made_of, back_end, route, turn_part, turned, put_in, printed, zeros_at, new_cells, index_of, cell_read, cell_written}
use Rattle.vd_projection.proofs.Few.{AreFew, few_none, few_more}
use Rattle.vd_projection.proofs.FewClear.{most_gadgets, WordFew, CallsAreFew, EachFew, shown_few as told_few, each_word, clear_few}
use Rattle.vd_projection.proofs.FewShared.{sums_few, circuits_few, to_bits_few, to_sums_few}

-- what a slot has is at few hosts, and has no more cells than are allowed
pub record SlotIsSmall (x : Parts) : Type 0 where
  pub few : length x.at ≤ 17
  pub size : x.size ≤ most_cells

pub record CallIsFew (made : AnyMade Gadget Parts) : Type 0 where
  pub acts : AreFew most_gadgets made.acts
  pub given : SlotIsSmall made.given

word_few : (made : Made Places) → WordFew made → CallIsFew (made_of made)
word_few made f = record { acts = f.gadgets; given = record { few = f.given; size = lit≤ tt } }

-- ---- the back ends

-- a commitment: eight own words, their digest and a packet; and a packet, its digest and eight comparisons
shown_few : (p v : HostId) (x : Places) (to : HostId) (next : List ℕ) → AreFew most_gadgets (shown_bound p v x to next).gadgets
shown_few p v x to next = at (nat_eq to.0 p.0)
  where
    at : (b : Bool) → (let made : Made Reg = if b then taken_over (place x 0) next else revealed p v (held_of x) (seen_of x) next in AreFew most_gadgets made.gadgets)
    at true = few_none most_gadgets
    at false = record { small = (tt, (tt, (tt, (tt, (tt, (tt, (tt, (tt, (tt, (tt, tt)))))))))); few = lit≤ tt; lines = lit≤ tt }

commit_few : (p v : HostId) → CallsAreFew (commit_calls p v)
commit_few p v = record {
  literal = λ n next. record { gadgets = few_none most_gadgets; given = lit≤ tt };
  share = λ from x next. record { gadgets = record { small = (tt, (tt, (tt, (tt, (tt, (tt, (tt, (tt, (tt, (tt, tt)))))))))); few = lit≤ tt; lines = lit≤ tt }; given = lit≤ tt };
  adopt = λ x next. record { gadgets = few_none most_gadgets; given = lit≤ tt };
  show = λ x some to next. shown_few p v x to next;
  show_all = λ x some next. record { gadgets = record { small = (tt, (tt, (tt, (tt, (tt, (tt, (tt, (tt, (tt, (tt, tt)))))))))); few = lit≤ tt; lines = lit≤ tt }; given = lit≤ tt };
  keep = λ x next. record { gadgets = few_none most_gadgets; given = lit≤ tt };
  renew = λ kept x some. few_none most_gadgets;
  apply = λ o e xs next. record { gadgets = few_none most_gadgets; given = lit≤ tt };
}

back_end_few : (p : Proto) → CallsAreFew (back_end p)
back_end_few (Local h) = clear_few (Local h)
back_end_few (Rep set) = clear_few (Rep set)
back_end_few (Commit a b) = commit_few a b
back_end_few (Add a b) = sums_few a b
back_end_few (Xor a b) = circuits_few a b

pub literal_few : (p : Proto) (v : ℕ) (next : List ℕ) → CallIsFew (made_of ((back_end p).literal v next))
literal_few p v next = word_few ((back_end p).literal v next) ((back_end_few p).literal v next)

pub apply_few : (o : Op) → amount_fits o ≡ true → (p : Proto) (xs : List Parts) (next : List ℕ) → CallIsFew (made_of ((back_end p).apply o (map (λ (x : Parts). x.at) xs) next))
apply_few o e p xs next = word_few ((back_end p).apply o (map (λ (x : Parts). x.at) xs) next) ((back_end_few p).apply o e (map (λ (x : Parts). x.at) xs) next)

pub keep_few : (p : Proto) (x : Parts) (next : List ℕ) → CallIsFew (made_of ((back_end p).keep x.at next))
keep_few p x next = word_few ((back_end p).keep x.at next) ((back_end_few p).keep x.at next)

pub renew_few : (p : Proto) (kept x : Parts) → SlotIsSmall kept → AreFew most_gadgets ((back_end p).renew kept.at x.at)
renew_few p kept x f = (back_end_few p).renew kept.at x.at f.few

-- ---- moves

copies_length : (hs : List HostId) (x : Places) → length (copies_at hs x) ≡ length hs
copies_length [] x = refl
copies_length (h ∷ hs) x = ap suc (copies_length hs x)

moved_few : (r : Route) (p q : Calls) → CallsAreFew p → CallsAreFew q → (x : Places) → length x ≤ 17 → (next : List ℕ) → WordFew (moved r p q x next)
moved_few (Share h) p q from onto x some next = onto.share h (only x) next
moved_few Adopt p q from onto x some next = onto.adopt x next
moved_few (Show k) p q from onto x some next = record { gadgets = from.show x some k next; given = lit≤ tt }
moved_few ShowAll p q from onto x some next =
    let same = copies_length (holders q.proto) (p.show_all x next).given in
    let few = few_holders q.proto in
    record { gadgets = (from.show_all x some next).gadgets; given = omega (arith, same, few) }
moved_few (Spread set) p q from onto x some next = each_word (Rep set) (shown x) (told_few x some) next
moved_few (Same a b) p q from onto x some next = record { gadgets = few_none most_gadgets; given = lit≤ tt }
moved_few (SameBound a b) p q from onto x some next = record { gadgets = few_none most_gadgets; given = lit≤ tt }
moved_few (ToXor a b) p q from onto x some next = to_bits_few a b x next
moved_few (ToAdd a b) p q from onto x some next = to_sums_few a b x next

pub move_few : (p q : Proto) (x : Parts) → SlotIsSmall x → (next : List ℕ) → CallIsFew (made_of (moved (route p q) (back_end p) (back_end q) x.at next))
move_few p q x f next =
    word_few (moved (route p q) (back_end p) (back_end q) x.at next) (moved_few (route p q) (back_end p) (back_end q) (back_end_few p) (back_end_few q) x.at f.few next)

-- ---- the calls that no back end has

pub turn_few : (p : Proto) (loop next : List ℕ) → CallIsFew (made_of (turned p loop next))
turn_few p loop next = word_few (turned p loop next) (each_word p (turn_part p loop) (at p) next)
  where
    copied : EachFew (λ h l. written_by h (λ r. action.Copy r (next_at loop h)) l)
    copied h l = record { small = (tt, tt); few = lit≤ tt; lines = lit≤ tt }

    either : (z : Bool) (h : HostId) (l : List ℕ)
        → AreFew 40 (if z then written_by h (λ r. action.Copy r (next_at loop h)) l else written_by h (λ r. action.Const r 0) l).gadgets
    either true h l = record { small = (tt, tt); few = lit≤ tt; lines = lit≤ tt }
    either false h l = record { small = (tt, tt); few = lit≤ tt; lines = lit≤ tt }

    at : (p : Proto) → EachFew (turn_part p loop)
    at (Local k) h l = copied h l
    at (Rep set) h l = copied h l
    at (Commit k j) h l = copied h l
    at (Add k j) h l = either (nat_eq h.0 k.0) h l
    at (Xor k j) h l = either (nat_eq h.0 k.0) h l

pub input_few : (h : HostId) (next : List ℕ) → CallIsFew (made_of (put_in h next))
input_few h next = word_few (put_in h next) (record { gadgets = record { small = (tt, tt); few = lit≤ tt; lines = lit≤ tt }; given = lit≤ tt })

pub output_few : (h : HostId) (x : Parts) → AreFew most_gadgets (printed h x.at)
output_few h x = record { small = (tt, tt); few = lit≤ tt; lines = lit≤ tt }

pub cells_few : (p : Proto) (size : ℕ) → size ≤ most_cells → (next : List ℕ)
    → let made = new_cells p size next in CallIsFew (record { given = record { at = made.given; size = size }; acts = made.gadgets; next = made.next })
cells_few p size le next =
    let word = each_word p (zeros_at size) (λ h l. record { small = (le, tt); few = lit≤ tt; lines = lit≤ tt }) next in
    record { acts = word.gadgets; given = record { few = word.given; size = le } }

pub get_few : (p : Proto) (x : Parts) (at : List Part) → SlotIsSmall x → (next : List ℕ) → CallIsFew (made_of (cell_read p x at next))
get_few p x at f next =
    word_few (cell_read p x at next)
    (each_word p (λ h. written_by h (λ r. action.Get r (register_of x.at h.0) x.size (index_of at h.0))) (λ h l. record { small = (f.size, tt); few = lit≤ tt; lines = lit≤ tt }) next)

pub put_few : (p : Proto) (kept : Parts) (at : List Part) (x : Parts) → SlotIsSmall kept → AreFew most_gadgets (cell_written p kept at x.at)
put_few p kept at x f = let few = few_holders p in few_more (length (holders p)) most_gadgets (cell_written p kept at x.at) (omega (arith, few)) (each (holders p))
  where
    each : (hs : List HostId) → AreFew (length hs) (map (λ h. Alone h (action.Put (register_of kept.at h.0) kept.size (index_of at h.0) (register_of x.at h.0))) hs)
    each [] = few_none 0
    each (h ∷ hs) = let rest = each hs in let some = rest.few in let all = rest.lines in record { small = (f.size, rest.small); few = omega (arith, some); lines = omega (arith, all) }
