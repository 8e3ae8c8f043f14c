-- What hosts do for words in clear.
use Rattle.std.proofs.Common.{◌≡◌, ℕ, suc, ◌+◌, ◌*◌, ◌≤◌, nat_eq, Bool, true, false, if◌then◌else◌, List, [], ◌∷◌, ◌++◌, length, map, refl, ap, lit≤, mul-le-mul_left, arith}
use Rattle.vd_base.specs.declared.ids.HostId.{HostId}
use Rattle.vd_base.specs.declared.operations.Op.{Op}
use Rattle.vd_base.specs.declared.operations.Op.TheVariants as op
use Rattle.vd_base.specs.declared.protocols.Proto.{Proto}
use Rattle.vd_base.specs.Holders.{holders, is_among}
use Rattle.vd_base.proofs.Front.{few_holders}
use Rattle.vd_execution.specs.declared.instructions.Reg.{Reg}
use Rattle.vd_execution.specs.declared.instructions.Action.{Action}
use Rattle.vd_execution.specs.declared.instructions.Action.TheVariants as action
use Rattle.vd_execution.specs.Gadgets.{Alone, Tells}
use Rattle.vd_duet.specs.Builder.{next_at, taken}
use Rattle.vd_duet.specs.Calls.{Places, hosts_of, Made, register_of}
use Rattle.vd_clear.specs.Copies.{written_by, literal_at, passed, adopted, kept_by, first_of, after_first, operated, applied_at, told, compared, first_register, shown, each_made, renewed, clear_calls}
use Rattle.vd_projection.proofs.ClearCalls.{each_length}
use Rattle.vd_projection.proofs.Counts.{acts_in, Grows, one_grows, Takes, takes_none, takes_more, takes_both, WordTakes, CallsTake, most_plain, most_applied, some_room}

-- ---- one host

abbrev pub EachTakes : ℕ → (HostId → List ℕ → Made Reg) → Type 0
EachTakes n f = (h : HostId) (next : List ℕ) → Takes n next (f h next).gadgets (f h next).next

pub written_takes : (h : HostId) (a : Reg → Action) (next : List ℕ) → let made = written_by h a next in Takes 1 next made.gadgets made.next
written_takes h a next = record { acts = lit≤ tt; registers = one_grows h 1 next }

passed_takes : (from : HostId) (x : Reg) → EachTakes 1 (passed from x)
passed_takes from x h next = at (nat_eq from.0 h.0)
  where
    at : (b : Bool) → (let made : Made Reg = if b then record { given = x; gadgets = []; next = next }
        else record { given = next_at next h; gadgets = Tells from (x ∷ []) h (next_at next h ∷ []) ∷ []; next = taken h 1 next } in Takes 1 next made.gadgets made.next)
    at true = takes_none 1 next
    at false = record { acts = lit≤ tt; registers = one_grows h 1 next }

operated_takes : (o : Op) (x y z : Reg) → EachTakes 2 (operated o x y z)
operated_takes o x y z h next = at o
  where
    one : Grows 2 next (taken h 1 next)
    one j = let p = one_grows h 1 next j in omega (arith, p)

    two : Grows 2 next (taken h 2 next)
    two j = one_grows h 2 next j

    at : (o : Op) → Takes 2 next (operated o x y z h next).gadgets (operated o x y z h next).next
    at op.Add = record { acts = lit≤ tt; registers = one }
    at op.Sub = record { acts = lit≤ tt; registers = one }
    at op.Mul = record { acts = lit≤ tt; registers = one }
    at (op.Scale k) = record { acts = lit≤ tt; registers = two }
    at op.Div = record { acts = lit≤ tt; registers = one }
    at op.Rem = record { acts = lit≤ tt; registers = one }
    at op.And = record { acts = lit≤ tt; registers = one }
    at op.Or = record { acts = lit≤ tt; registers = one }
    at op.Xor = record { acts = lit≤ tt; registers = one }
    at op.Not = record { acts = lit≤ tt; registers = two }
    at op.Flip = record { acts = lit≤ tt; registers = two }
    at (op.Shl k) = record { acts = lit≤ tt; registers = one }
    at (op.Shr k) = record { acts = lit≤ tt; registers = one }
    at op.Eq = record { acts = lit≤ tt; registers = one }
    at op.Ne = record { acts = lit≤ tt; registers = one }
    at op.Lt = record { acts = lit≤ tt; registers = one }
    at op.Le = record { acts = lit≤ tt; registers = one }
    at op.Min = record { acts = lit≤ tt; registers = one }
    at op.Max = record { acts = lit≤ tt; registers = one }
    at op.Mux = record { acts = lit≤ tt; registers = one }

applied_takes : (o : Op) (xs : List Places) → EachTakes 2 (applied_at o xs)
applied_takes o xs h next = operated_takes o (first_of xs h) (first_of (after_first xs) h) (first_of (after_first (after_first xs)) h) h next

-- ---- copies that are told

told_takes : (x : Places) (to : HostId) (next : List ℕ) → let made = told x to next in Takes (length x) next made.gadgets made.next
told_takes [] to next = takes_none 0 next
told_takes (q ∷ x) to next =
    let rest = told_takes x to (taken to 1 next) in
    let few = rest.acts in
    record {
      acts = omega (arith, few);
      registers = λ h. (let p = rest.registers h in let s = one_grows to 1 next h in omega (arith, p, s));
    }

told_length : (x : Places) (to : HostId) (next : List ℕ) → length (told x to next).given ≡ length x
told_length [] to next = refl
told_length (q ∷ x) to next = ap suc (told_length x to (taken to 1 next))

each_compared : (h : HostId) (r : Reg) (rs : List Reg) → acts_in (map (λ s. Alone h (action.Same r s)) rs) ≡ length rs
each_compared h r [] = refl
each_compared h r (s ∷ rs) = let e = each_compared h r rs in omega (arith, e)

compared_acts : (h : HostId) (rs : List Reg) → acts_in (compared h rs) ≤ length rs
compared_acts h [] = omega arith
compared_acts h (r ∷ rs) = let e = each_compared h r rs in omega (arith, e)

pub shown_takes : (x : Places) → length x ≤ 17 → EachTakes most_plain (shown x)
shown_takes x some h next = at (is_among (hosts_of x) h.0)
  where
    both : (n m k : ℕ) → m ≡ n → k ≤ m → n ≤ 17 → n + k ≤ 34
    both n m k e p q = omega (arith, e, p, q)

    compares : Takes (acts_in (compared h (told x h next).given)) (told x h next).next (compared h (told x h next).given) (told x h next).next
    compares = record { acts = omega arith; registers = λ j. omega arith }

    whole : Takes most_plain next ((told x h next).gadgets ++ compared h (told x h next).given) (told x h next).next
    whole =
        let made = told x h next in
        let gs = compared h made.given in
        takes_more (length x + acts_in gs) most_plain next (made.gadgets ++ gs) made.next
        (both (length x) (length made.given) (acts_in gs) (told_length x h next) (compared_acts h made.given) some)
        (takes_both (length x) (acts_in gs) next made.gadgets made.next gs made.next (told_takes x h next) compares)

    at : (b : Bool) → (let made : Made Reg = if b then adopted x h next else record {
      given = first_register (told x h next).given;
      gadgets = (told x h next).gadgets ++ compared h (told x h next).given;
      next = (told x h next).next;
    } in Takes most_plain next made.gadgets made.next)
    at true = takes_none most_plain next
    at false = whole

-- ---- each of some hosts

each_takes : (n : ℕ) (f : HostId → List ℕ → Made Reg) → EachTakes n f → (hs : List HostId) (next : List ℕ)
    → let made = each_made f hs next in Takes (n * length hs) next made.gadgets made.next
each_takes n f law [] next = takes_none (n * 0) next
each_takes n f law (h ∷ hs) next =
    let one : Made Reg = f h next in
    let rest : Made Places = each_made f hs one.next in
    takes_more (n + n * length hs) (n * suc (length hs)) next (one.gadgets ++ rest.gadgets) rest.next (omega arith)
    (takes_both n (n * length hs) next one.gadgets one.next rest.gadgets rest.next (law h next) (each_takes n f law hs one.next))

pub each_word : (p : Proto) (n most : ℕ) → n * 8 ≤ most → (f : HostId → List ℕ → Made Reg) → EachTakes n f → (next : List ℕ) → WordTakes most next (each_made f (holders p) next)
each_word p n most le f law next =
    let few : length (holders p) ≤ 8 = few_holders p in
    let product : n * length (holders p) ≤ n * 8 = mul-le-mul_left n few in
    let same = each_length f (holders p) next in
    let made : Made Places = each_made f (holders p) next in
    record {
      takes = takes_more (n * length (holders p)) most next made.gadgets made.next (omega (arith, product, le)) (each_takes n f law (holders p) next);
      given = omega (arith, few, same);
    }

renewed_acts : (kept x : Places) → acts_in (renewed kept x) ≡ length kept
renewed_acts [] x = refl
renewed_acts (q ∷ kept) x = let e = renewed_acts kept x in omega (arith, e)

pub clear_takes : (p : Proto) → CallsTake (clear_calls p)
clear_takes p = record {
  literal = λ v next. each_word p 1 most_plain (lit≤ tt) (literal_at v) (λ h l. written_takes h (λ r. action.Const r v) l) next;
  share = λ from x next. each_word p 1 most_plain (lit≤ tt) (passed from x) (passed_takes from x) next;
  adopt = λ x next. each_word p 1 most_plain (lit≤ tt) (adopted x) (λ h l. takes_none 1 l) next;
  show = λ x some to next. shown_takes x some to next;
  show_all = λ x some next. record { takes = takes_none most_plain next; given = some };
  keep = λ x next. each_word p 1 most_plain (lit≤ tt) (kept_by x) (λ h l. written_takes h (λ r. action.Copy r (register_of x h.0)) l) next;
  renew = λ kept x some. (let e = renewed_acts kept x in omega (arith, e, some));
  apply = λ o xs next. each_word p 2 (most_applied o) (let room = some_room o in omega (arith, room)) (applied_at o xs) (applied_takes o xs) next;
}
