-- What hosts do for words in clear is few gadgets.
use Rattle.std.proofs.Common.{◌≡◌, ℕ, suc, ◌+◌, ◌*◌, ◌≤◌, nat_eq, Bool, true, false, if◌then◌else◌, List, [], ◌∷◌, ◌++◌, length, map, refl, ap, lit≤, arith}
use Rattle.vd_base.specs.declared.ids.HostId.{HostId}
use Rattle.vd_base.specs.declared.operations.Op.{Op}
use Rattle.vd_base.specs.declared.operations.Op.TheVariants as op
use Rattle.vd_base.specs.declared.protocols.Proto.{Proto}
use Rattle.vd_base.specs.Holders.{holders, is_among}
use Rattle.vd_base.proofs.Front.{few_holders}
use Rattle.vd_core.specs.Facts.{amount_fits}
use Rattle.vd_execution.specs.declared.instructions.Reg.{Reg}
use Rattle.vd_execution.specs.declared.instructions.Action.TheVariants as action
use Rattle.vd_execution.specs.Gadgets.{Alone, Tells}
use Rattle.vd_duet.specs.Builder.{next_at, taken}
use Rattle.vd_duet.specs.Calls.{Places, hosts_of, Made, Calls}
use Rattle.vd_clear.specs.Copies.{literal_at, passed, adopted, kept_by, operated, applied_at, first_of, after_first, told, compared, first_register, shown, each_made, renewed, clear_calls}
use Rattle.vd_projection.proofs.ClearCalls.{each_length}
use Rattle.vd_projection.proofs.Few.{AreFew, few_none, few_more, few_both}
use Rattle.vd_projection.proofs.Numbers.{shift_below}

-- the gadgets of a call, at most, and the places of a word
abbrev pub most_gadgets : ℕ
most_gadgets = 340

-- a call makes the parts of a word
pub record WordFew (made : Made Places) : Type 0 where
  pub gadgets : AreFew most_gadgets made.gadgets
  pub given : length made.given ≤ 17

-- each call of a back end
pub record CallsAreFew (c : Calls) : Type 0 where
  pub literal : (v : ℕ) (next : List ℕ) → WordFew (c.literal v next)
  pub share : (from : HostId) (x : Reg) (next : List ℕ) → WordFew (c.share from x next)
  pub adopt : (x : Places) (next : List ℕ) → WordFew (c.adopt x next)
  pub show : (x : Places) → length x ≤ 17 → (to : HostId) (next : List ℕ) → AreFew most_gadgets (c.show x to next).gadgets
  pub show_all : (x : Places) → length x ≤ 17 → (next : List ℕ) → WordFew (c.show_all x next)
  pub keep : (x : Places) (next : List ℕ) → WordFew (c.keep x next)
  pub renew : (kept x : Places) → length kept ≤ 17 → AreFew most_gadgets (c.renew kept x)
  pub apply : (o : Op) → amount_fits o ≡ true → (xs : List Places) (next : List ℕ) → WordFew (c.apply o xs next)

-- ---- one host

literal_few : (v : ℕ) (h : HostId) (next : List ℕ) → AreFew 40 (literal_at v h next).gadgets
literal_few v h next = record { small = (tt, tt); few = lit≤ tt; lines = lit≤ tt }

passed_few : (from : HostId) (x : Reg) (h : HostId) (next : List ℕ) → AreFew 40 (passed from x h next).gadgets
passed_few from x h next = at (nat_eq from.0 h.0)
  where
    at : (b : Bool) → (let made : Made Reg = if b then record { given = x; gadgets = []; next = next }
        else record { given = next_at next h; gadgets = Tells from (x ∷ []) h (next_at next h ∷ []) ∷ []; next = taken h 1 next } in AreFew 40 made.gadgets)
    at true = few_none 40
    at false = record { small = (tt, tt); few = lit≤ tt; lines = lit≤ tt }

kept_few : (x : Places) (h : HostId) (next : List ℕ) → AreFew 40 (kept_by x h next).gadgets
kept_few x h next = record { small = (tt, tt); few = lit≤ tt; lines = lit≤ tt }

operated_few : (o : Op) → amount_fits o ≡ true → (x y z : Reg) (h : HostId) (next : List ℕ) → AreFew 40 (operated o x y z h next).gadgets
operated_few op.Add e x y z h next = record { small = (tt, tt); few = lit≤ tt; lines = lit≤ tt }
operated_few op.Sub e x y z h next = record { small = (tt, tt); few = lit≤ tt; lines = lit≤ tt }
operated_few op.Mul e x y z h next = record { small = (tt, tt); few = lit≤ tt; lines = lit≤ tt }
operated_few (op.Scale k) e x y z h next = record { small = (tt, (tt, tt)); few = lit≤ tt; lines = lit≤ tt }
operated_few op.Div e x y z h next = record { small = (tt, tt); few = lit≤ tt; lines = lit≤ tt }
operated_few op.Rem e x y z h next = record { small = (tt, tt); few = lit≤ tt; lines = lit≤ tt }
operated_few op.And e x y z h next = record { small = (tt, tt); few = lit≤ tt; lines = lit≤ tt }
operated_few op.Or e x y z h next = record { small = (tt, tt); few = lit≤ tt; lines = lit≤ tt }
operated_few op.Xor e x y z h next = record { small = (tt, tt); few = lit≤ tt; lines = lit≤ tt }
operated_few op.Not e x y z h next = record { small = (tt, (tt, tt)); few = lit≤ tt; lines = lit≤ tt }
operated_few op.Flip e x y z h next = record { small = (tt, (tt, tt)); few = lit≤ tt; lines = lit≤ tt }
operated_few (op.Shl k) e x y z h next = record { small = (shift_below k e, tt); few = lit≤ tt; lines = lit≤ tt }
operated_few (op.Shr k) e x y z h next = record { small = (shift_below k e, tt); few = lit≤ tt; lines = lit≤ tt }
operated_few op.Eq e x y z h next = record { small = (tt, tt); few = lit≤ tt; lines = lit≤ tt }
operated_few op.Ne e x y z h next = record { small = (tt, tt); few = lit≤ tt; lines = lit≤ tt }
operated_few op.Lt e x y z h next = record { small = (tt, tt); few = lit≤ tt; lines = lit≤ tt }
operated_few op.Le e x y z h next = record { small = (tt, tt); few = lit≤ tt; lines = lit≤ tt }
operated_few op.Min e x y z h next = record { small = (tt, tt); few = lit≤ tt; lines = lit≤ tt }
operated_few op.Max e x y z h next = record { small = (tt, tt); few = lit≤ tt; lines = lit≤ tt }
operated_few op.Mux e x y z h next = record { small = (tt, tt); few = lit≤ tt; lines = lit≤ tt }

applied_few : (o : Op) → amount_fits o ≡ true → (xs : List Places) (h : HostId) (next : List ℕ) → AreFew 40 (applied_at o xs h next).gadgets
applied_few o e xs h next = operated_few o e (first_of xs h) (first_of (after_first xs) h) (first_of (after_first (after_first xs)) h) h next

-- ---- copies that are told

told_few : (x : Places) (to : HostId) (next : List ℕ) → AreFew (length x) (told x to next).gadgets
told_few [] to next = few_none 0
told_few (q ∷ x) to next = let rest = told_few x to (taken to 1 next) in let few = rest.few in let all = rest.lines in record { small = (tt, rest.small); few = omega (arith, few); lines = omega (arith, all) }

told_length : (x : Places) (to : HostId) (next : List ℕ) → length (told x to next).given ≡ length x
told_length [] to next = refl
told_length (q ∷ x) to next = ap suc (told_length x to (taken to 1 next))

each_compared : (h : HostId) (r : Reg) (rs : List Reg) → AreFew (length rs) (map (λ s. Alone h (action.Same r s)) rs)
each_compared h r [] = few_none 0
each_compared h r (s ∷ rs) = let rest = each_compared h r rs in let few = rest.few in let all = rest.lines in record { small = (tt, rest.small); few = omega (arith, few); lines = omega (arith, all) }

compared_few : (h : HostId) (rs : List Reg) → AreFew (length rs) (compared h rs)
compared_few h [] = few_none 0
compared_few h (r ∷ rs) = few_more (length rs) (suc (length rs)) (map (λ s. Alone h (action.Same r s)) rs) (omega arith) (each_compared h r rs)

pub shown_few : (x : Places) → length x ≤ 17 → (h : HostId) (next : List ℕ) → AreFew 40 (shown x h next).gadgets
shown_few x some h next = at (is_among (hosts_of x) h.0)
  where
    whole : AreFew 40 ((told x h next).gadgets ++ compared h (told x h next).given)
    whole =
        let n = length x in
        let m = length (told x h next).given in
        let same : m ≡ n = told_length x h next in
        few_more (n + m) 40 ((told x h next).gadgets ++ compared h (told x h next).given) (omega (arith, same, some))
        (few_both n m (told x h next).gadgets (compared h (told x h next).given) (told_few x h next) (compared_few h (told x h next).given))

    at : (b : Bool) → (let made : Made Reg = if b then adopted x h next else record {
      given = first_register (told x h next).given;
      gadgets = (told x h next).gadgets ++ compared h (told x h next).given;
      next = (told x h next).next;
    } in AreFew 40 made.gadgets)
    at true = few_none 40
    at false = whole

-- ---- each of some hosts

abbrev pub EachFew : (HostId → List ℕ → Made Reg) → Type 0
EachFew f = (h : HostId) (next : List ℕ) → AreFew 40 (f h next).gadgets

each_few : (f : HostId → List ℕ → Made Reg) → EachFew f → (hs : List HostId) (next : List ℕ) → AreFew (40 * length hs) (each_made f hs next).gadgets
each_few f law [] next = few_none 0
each_few f law (h ∷ hs) next =
    let rest = each_made f hs (f h next).next in
    few_more (40 + 40 * length hs) (40 * suc (length hs)) ((f h next).gadgets ++ rest.gadgets) (omega arith)
    (few_both 40 (40 * length hs) (f h next).gadgets rest.gadgets (law h next) (each_few f law hs (f h next).next))

pub each_word : (p : Proto) (f : HostId → List ℕ → Made Reg) → EachFew f → (next : List ℕ) → WordFew (each_made f (holders p) next)
each_word p f law next =
    let few : length (holders p) ≤ 8 = few_holders p in
    let same = each_length f (holders p) next in
    record {
      gadgets = few_more (40 * length (holders p)) most_gadgets (each_made f (holders p) next).gadgets (omega (arith, few)) (each_few f law (holders p) next);
      given = omega (arith, few, same);
    }

renewed_few : (kept x : Places) → AreFew (length kept) (renewed kept x)
renewed_few [] x = few_none 0
renewed_few (q ∷ kept) x = let rest = renewed_few kept x in let few = rest.few in let all = rest.lines in record { small = (tt, rest.small); few = omega (arith, few); lines = omega (arith, all) }

pub clear_few : (p : Proto) → CallsAreFew (clear_calls p)
clear_few p = record {
  literal = λ v next. each_word p (literal_at v) (literal_few v) next;
  share = λ from x next. each_word p (passed from x) (passed_few from x) next;
  adopt = λ x next. each_word p (adopted x) (λ h l. few_none 40) next;
  show = λ x some to next. few_more 40 most_gadgets (shown x to next).gadgets (lit≤ tt) (shown_few x some to next);
  show_all = λ x some next. record { gadgets = few_none most_gadgets; given = some };
  keep = λ x next. each_word p (kept_by x) (kept_few x) next;
  renew = λ kept x some. few_more (length kept) most_gadgets (renewed kept x) (omega (arith, some)) (renewed_few kept x);
  apply = λ o e xs next. each_word p (applied_at o xs) (applied_few o e xs) next;
}
