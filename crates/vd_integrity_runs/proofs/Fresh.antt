-- The calls of hosts that hold words in clear write fresh registers alone, whatever words come.
use Rattle.std.proofs.Common.{◌≡◌, ℕ, ◌<◌, ◌≤◌, nat_eq, Bool, true, false, if◌then◌else◌, List, [], ◌∷◌, ◌++◌, length, map, slice_index, refl, sym, ap, subst, ◌∙◌, arith}
use Rattle.vd_base.specs.declared.ids.HostId.{HostId}
use Rattle.vd_base.specs.declared.operations.Op.{Op}
use Rattle.vd_base.specs.declared.operations.Op.TheVariants as op
use Rattle.vd_base.specs.declared.protocols.Proto.{Proto}
use Rattle.vd_base.specs.declared.protocols.Proto.TheVariants.{Local, Rep, Commit, Add, Xor}
use Rattle.vd_base.specs.Holders.{holders, is_among}
use Rattle.vd_execution.specs.declared.instructions.Action.{Action}
use Rattle.vd_execution.specs.declared.instructions.Action.TheVariants as action
use Rattle.vd_execution.specs.declared.instructions.Binary.{Binary}
use Rattle.vd_execution.specs.declared.instructions.Binary.TheVariants as binary
use Rattle.vd_execution.specs.declared.instructions.Reg.{Reg}
use Rattle.vd_execution.specs.Gadgets.{Gadget, Alone, Tells}
use Rattle.vd_execution.specs.Joint.{Part}
use Rattle.vd_duet.specs.Builder.{next_at, taken}
use Rattle.vd_duet.specs.Calls.{Made, Places, hosts_of, register_of}
use Rattle.vd_duet.specs.Laws.{AreKnown, Each}
use Rattle.vd_duet.proofs.Front.{taken_bounds, taken_known}
use Rattle.vd_clear.specs.Copies.{adopted, applied_at, compared, each_made, first_register, kept_by, literal_at, operated, passed, shown, told, with_number, written_by}
use Rattle.vd_integrity_runs.specs.Copies.{IsInClear}
use Rattle.vd_backend_laws.specs.Moves.{moved, only}
use Rattle.vd_backend_laws.specs.Parts.{Parts, back_end, route, turn_part, turned, index_of, zeros_at, new_cells, cell_read}
use Rattle.vd_integrity_runs.proofs.Touching.{Registered, AllTouch, ActTouches, touch_append, touch_wider}

-- the free registers of each host
abbrev pub Free : List ℕ → Registered
Free next h r = slice_index next h ≤ r

-- gadgets write free registers alone, and some of them are taken
pub record IsFresh (next : List ℕ) (gadgets : List Gadget) (next' : List ℕ) : Type 0 where
  pub touches : AllTouch (Free next) gadgets
  pub longer : (h : ℕ) → slice_index next h ≤ slice_index next' h
  pub known : length next' ≡ length next

pub fresh_none : (next : List ℕ) → IsFresh next [] next
fresh_none next = record { touches = tt; longer = λ h. omega arith; known = refl }

pub fresh_on : (a b c : List ℕ) (xs ys : List Gadget) → IsFresh a xs b → IsFresh b ys c → IsFresh a (xs ++ ys) c
fresh_on a b c xs ys first second = record {
  touches = touch_append (Free a) xs ys first.touches (touch_wider (Free b) (Free a) (λ h r le. let more = first.longer h in omega (arith, le, more)) ys second.touches);
  longer = λ h. let p = first.longer h in let q = second.longer h in omega (arith, p, q);
  known = second.known ∙ first.known;
}

pub known_later : (hs : List HostId) (next next' : List ℕ) → length next' ≡ length next → AreKnown hs next → AreKnown hs next'
known_later hs next next' same known = subst (λ n. Each (λ (h : HostId). h.0 < n) hs) (sym same) known

-- ---- one host

abbrev pub OneIsFresh : (HostId → List ℕ → Made Reg) → Type 0
OneIsFresh f = (h : HostId) (next : List ℕ) → h.0 < length next → IsFresh next (f h next).gadgets (f h next).next

pub taken_fresh : (h : HostId) (n : ℕ) (next : List ℕ) (gs : List Gadget) → h.0 < length next → AllTouch (Free next) gs → IsFresh next gs (taken h n next)
taken_fresh h n next gs known touch = record { touches = touch; longer = λ k. (taken_bounds h n next known k).0; known = taken_known h n next }

-- one action, which writes a free register
written_fresh : (h : HostId) (act : Reg → Action) (next : List ℕ) → h.0 < length next → (slice_index next h.0 ≤ slice_index next h.0 → ActTouches (Free next) h.0 (act (next_at next h)))
    → IsFresh next (written_by h act next).gadgets (written_by h act next).next
written_fresh h act next known touch = taken_fresh h 1 next (written_by h act next).gadgets known (touch (omega arith), tt)

numbered_fresh : (h : HostId) (k : ℕ) (o : Binary) (x : Reg) (next : List ℕ) → h.0 < length next → IsFresh next (with_number h k o x next).gadgets (with_number h k o x next).next
numbered_fresh h k o x next known = taken_fresh h 2 next (with_number h k o x next).gadgets known (omega arith, (omega arith, tt))

passed_fresh : (from : HostId) (x : Reg) → OneIsFresh (passed from x)
passed_fresh from x h next known = by (nat_eq from.0 h.0)
  where
    by : (same : Bool) → let made : Made Reg = if same then record { given = x; gadgets = []; next = next } else record { given = next_at next h; gadgets = Tells from (x ∷ []) h (next_at next h ∷ []) ∷ []; next = taken h 1 next } in
        IsFresh next made.gadgets made.next
    by true = fresh_none next
    by false = taken_fresh h 1 next (Tells from (x ∷ []) h (next_at next h ∷ []) ∷ []) known ((omega arith, tt), tt)

told_fresh : (x : Places) (h : HostId) (next : List ℕ) → h.0 < length next → IsFresh next (told x h next).gadgets (told x h next).next
told_fresh [] h next known = fresh_none next
told_fresh (q ∷ x) h next known =
    let next' = taken h 1 next in
    let more = told_fresh x h next' (subst (λ n. h.0 < n) (sym (taken_known h 1 next)) known) in
    fresh_on next next' (told x h next').next (Tells q.0 (q.1 ∷ []) h (next_at next h ∷ []) ∷ []) (told x h next').gadgets
    (taken_fresh h 1 next (Tells q.0 (q.1 ∷ []) h (next_at next h ∷ []) ∷ []) known ((omega arith, tt), tt)) more

compared_touch : (next : List ℕ) (h : HostId) (r : Reg) (rs : List Reg) → AllTouch (Free next) (map (λ s. Alone h (action.Same r s)) rs)
compared_touch next h r [] = tt
compared_touch next h r (s ∷ rs) = (tt, compared_touch next h r rs)

compared_fresh : (next : List ℕ) (h : HostId) (rs : List Reg) → IsFresh next (compared h rs) next
compared_fresh next h [] = fresh_none next
compared_fresh next h (r ∷ rs) = record { touches = compared_touch next h r rs; longer = λ k. omega arith; known = refl }

shown_fresh : (x : Places) → OneIsFresh (shown x)
shown_fresh x h next known = by (is_among (hosts_of x) h.0)
  where
    by : (b : Bool) → let made : Made Reg = if b then adopted x h next else record { given = first_register (told x h next).given; gadgets = (told x h next).gadgets ++ compared h (told x h next).given; next = (told x h next).next } in
        IsFresh next made.gadgets made.next
    by true = fresh_none next
    by false = fresh_on next (told x h next).next (told x h next).next (told x h next).gadgets (compared h (told x h next).given) (told_fresh x h next known) (compared_fresh (told x h next).next h (told x h next).given)

operated_fresh : (o : Op) (x y z : Reg) → OneIsFresh (operated o x y z)
operated_fresh op.Add x y z h next known = written_fresh h (λ r. action.Apply binary.Add r x y) next known (λ q. q)
operated_fresh op.Sub x y z h next known = written_fresh h (λ r. action.Apply binary.Sub r x y) next known (λ q. q)
operated_fresh op.Mul x y z h next known = written_fresh h (λ r. action.Apply binary.Mul r x y) next known (λ q. q)
operated_fresh (op.Scale k) x y z h next known = numbered_fresh h k binary.Mul x next known
operated_fresh op.Div x y z h next known = written_fresh h (λ r. action.Apply binary.Div r x y) next known (λ q. q)
operated_fresh op.Rem x y z h next known = written_fresh h (λ r. action.Apply binary.Rem r x y) next known (λ q. q)
operated_fresh op.And x y z h next known = written_fresh h (λ r. action.Apply binary.And r x y) next known (λ q. q)
operated_fresh op.Or x y z h next known = written_fresh h (λ r. action.Apply binary.Or r x y) next known (λ q. q)
operated_fresh op.Xor x y z h next known = written_fresh h (λ r. action.Apply binary.Xor r x y) next known (λ q. q)
operated_fresh op.Not x y z h next known = numbered_fresh h 4294967295 binary.Xor x next known
operated_fresh op.Flip x y z h next known = numbered_fresh h 1 binary.Xor x next known
operated_fresh (op.Shl k) x y z h next known = written_fresh h (λ r. action.Shl r x k) next known (λ q. q)
operated_fresh (op.Shr k) x y z h next known = written_fresh h (λ r. action.Shr r x k) next known (λ q. q)
operated_fresh op.Eq x y z h next known = written_fresh h (λ r. action.Apply binary.Eq r x y) next known (λ q. q)
operated_fresh op.Ne x y z h next known = written_fresh h (λ r. action.Apply binary.Ne r x y) next known (λ q. q)
operated_fresh op.Lt x y z h next known = written_fresh h (λ r. action.Apply binary.Lt r x y) next known (λ q. q)
operated_fresh op.Le x y z h next known = written_fresh h (λ r. action.Apply binary.Le r x y) next known (λ q. q)
operated_fresh op.Min x y z h next known = written_fresh h (λ r. action.Apply binary.Min r x y) next known (λ q. q)
operated_fresh op.Max x y z h next known = written_fresh h (λ r. action.Apply binary.Max r x y) next known (λ q. q)
operated_fresh op.Mux x y z h next known = written_fresh h (λ r. action.Mux r x y z) next known (λ q. q)

-- ---- each of some hosts

pub each_fresh : (f : HostId → List ℕ → Made Reg) → OneIsFresh f → (hs : List HostId) (next : List ℕ) → AreKnown hs next → IsFresh next (each_made f hs next).gadgets (each_made f hs next).next
each_fresh f one [] next known = fresh_none next
each_fresh f one (h ∷ hs) next known =
    let first = one h next known.0 in
    let next' = (f h next).next in
    fresh_on next next' (each_made f hs next').next (f h next).gadgets (each_made f hs next').gadgets first (each_fresh f one hs next' (known_later hs next next' first.known known.1))

each_hosts : (f : HostId → List ℕ → Made Reg) (hs : List HostId) (next : List ℕ) → hosts_of (each_made f hs next).given ≡ hs
each_hosts f [] next = refl
each_hosts f (h ∷ hs) next = ap (λ (l : List HostId). h ∷ l) (each_hosts f hs (f h next).next)

-- ---- the calls

module _ (p : Proto) (clear : IsInClear p) (next : List ℕ) (known : AreKnown (holders p) next) where
  pub literal_fresh : (v : ℕ) → IsFresh next ((back_end p).literal v next).gadgets ((back_end p).literal v next).next
  literal_fresh v = by p clear known
    where
      by : (p : Proto) → IsInClear p → AreKnown (holders p) next → IsFresh next ((back_end p).literal v next).gadgets ((back_end p).literal v next).next
      by (Local h) c k = each_fresh (literal_at v) (λ h next low. written_fresh h (λ r. action.Const r v) next low (λ q. q)) (holders (Local h)) next k
      by (Rep set) c k = each_fresh (literal_at v) (λ h next low. written_fresh h (λ r. action.Const r v) next low (λ q. q)) (holders (Rep set)) next k
      by (Commit a b) c k = absurd c
      by (Add a b) c k = absurd c
      by (Xor a b) c k = absurd c

  pub keep_fresh : (x : Places) → IsFresh next ((back_end p).keep x next).gadgets ((back_end p).keep x next).next
  keep_fresh x = by p clear known
    where
      by : (p : Proto) → IsInClear p → AreKnown (holders p) next → IsFresh next ((back_end p).keep x next).gadgets ((back_end p).keep x next).next
      by (Local h) c k = each_fresh (kept_by x) (λ h next low. written_fresh h (λ r. action.Copy r (register_of x h.0)) next low (λ q. q)) (holders (Local h)) next k
      by (Rep set) c k = each_fresh (kept_by x) (λ h next low. written_fresh h (λ r. action.Copy r (register_of x h.0)) next low (λ q. q)) (holders (Rep set)) next k
      by (Commit a b) c k = absurd c
      by (Add a b) c k = absurd c
      by (Xor a b) c k = absurd c

  pub apply_fresh : (o : Op) (xs : List Places) → IsFresh next ((back_end p).apply o xs next).gadgets ((back_end p).apply o xs next).next
  apply_fresh o xs = by p clear known
    where
      one : OneIsFresh (applied_at o xs)
      one h next low = operated_fresh o _ _ _ h next low

      by : (p : Proto) → IsInClear p → AreKnown (holders p) next → IsFresh next ((back_end p).apply o xs next).gadgets ((back_end p).apply o xs next).next
      by (Local h) c k = each_fresh (applied_at o xs) one (holders (Local h)) next k
      by (Rep set) c k = each_fresh (applied_at o xs) one (holders (Rep set)) next k
      by (Commit a b) c k = absurd c
      by (Add a b) c k = absurd c
      by (Xor a b) c k = absurd c

  pub turn_fresh : (loop : List ℕ) → IsFresh next (turned p loop next).gadgets (turned p loop next).next
  turn_fresh loop = by p clear known
    where
      by : (p : Proto) → IsInClear p → AreKnown (holders p) next → IsFresh next (turned p loop next).gadgets (turned p loop next).next
      by (Local k) c low = each_fresh (turn_part (Local k) loop) (λ h next low. written_fresh h (λ r. action.Copy r (next_at loop h)) next low (λ q. q)) (holders (Local k)) next low
      by (Rep set) c low = each_fresh (turn_part (Rep set) loop) (λ h next low. written_fresh h (λ r. action.Copy r (next_at loop h)) next low (λ q. q)) (holders (Rep set)) next low
      by (Commit a b) c low = absurd c
      by (Add a b) c low = absurd c
      by (Xor a b) c low = absurd c

  pub cells_fresh : (size : ℕ) → IsFresh next (new_cells p size next).gadgets (new_cells p size next).next
  cells_fresh size =
      each_fresh (zeros_at size) (λ h next low. taken_fresh h size next (zeros_at size h next).gadgets low ((λ q from to. from), tt)) (holders p) next known

  pub get_fresh : (x : Parts) (at : List Part) → IsFresh next (cell_read p x at next).gadgets (cell_read p x at next).next
  get_fresh x at =
      each_fresh (λ h. written_by h (λ r. action.Get r (register_of x.at h.0) x.size (index_of at h.0)))
      (λ h next low. written_fresh h (λ r. action.Get r (register_of x.at h.0) x.size (index_of at h.0)) next low (λ q. q)) (holders p) next known

-- a word that goes from one protocol to another
module _ (p q : Proto) (from : IsInClear p) (to : IsInClear q) (x : Places) (next : List ℕ) (known : AreKnown (holders q) next) where
  abbrev pub brought : Made Places
  brought = moved (route p q) (back_end p) (back_end q) x next

  pub moved_fresh : IsFresh next brought.gadgets brought.next
  moved_fresh = by p q from to known
    where
      by : (p q : Proto) → IsInClear p → IsInClear q → AreKnown (holders q) next
          → IsFresh next (moved (route p q) (back_end p) (back_end q) x next).gadgets (moved (route p q) (back_end p) (back_end q) x next).next
      by (Local h) (Local k) c d low = each_fresh (passed h (only x)) (passed_fresh h (only x)) (holders (Local k)) next low
      by (Local h) (Rep set) c d low = each_fresh (passed h (only x)) (passed_fresh h (only x)) (holders (Rep set)) next low
      by (Rep set) (Local k) c d low = shown_fresh x k next low.0
      by (Rep set) (Rep other) c d low = each_fresh (shown x) (shown_fresh x) (holders (Rep other)) next low
      by (Local h) (Commit a b) c d low = absurd d
      by (Local h) (Add a b) c d low = absurd d
      by (Local h) (Xor a b) c d low = absurd d
      by (Rep set) (Commit a b) c d low = absurd d
      by (Rep set) (Add a b) c d low = absurd d
      by (Rep set) (Xor a b) c d low = absurd d
      by (Commit a b) q c d low = absurd c
      by (Add a b) q c d low = absurd c
      by (Xor a b) q c d low = absurd c

  pub moved_hosts : hosts_of brought.given ≡ holders q
  moved_hosts = by p q from to
    where
      by : (p q : Proto) → IsInClear p → IsInClear q → hosts_of (moved (route p q) (back_end p) (back_end q) x next).given ≡ holders q
      by (Local h) (Local k) c d = each_hosts (passed h (only x)) (holders (Local k)) next
      by (Local h) (Rep set) c d = each_hosts (passed h (only x)) (holders (Rep set)) next
      by (Rep set) (Local k) c d = refl
      by (Rep set) (Rep other) c d = each_hosts (shown x) (holders (Rep other)) next
      by (Local h) (Commit a b) c d = absurd d
      by (Local h) (Add a b) c d = absurd d
      by (Local h) (Xor a b) c d = absurd d
      by (Rep set) (Commit a b) c d = absurd d
      by (Rep set) (Add a b) c d = absurd d
      by (Rep set) (Xor a b) c d = absurd d
      by (Commit a b) q c d = absurd c
      by (Add a b) q c d = absurd c
      by (Xor a b) q c d = absurd c
