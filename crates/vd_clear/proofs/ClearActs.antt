-- Where the calls of hosts that hold words in clear act.
use Rattle.std.proofs.Common.{◌≡◌, ℕ, nat_eq, Bool, true, false, ◌||◌, if◌then◌else◌, List, [], ◌∷◌, ◌++◌, map, refl, ap, ap₂, ◌∙◌}
use Rattle.std.specs.List.{list_any}
use Rattle.std.proofs.lemmas.List.Folds.{list_any-append}
use Rattle.vd_base.specs.declared.ids.HostId.{HostId}
use Rattle.vd_base.specs.declared.operations.Op.{Op}
use Rattle.vd_base.specs.declared.operations.Op.TheVariants as op
use Rattle.vd_base.specs.declared.protocols.HostSet.{HostSet}
use Rattle.vd_base.specs.declared.protocols.Proto.{Proto}
use Rattle.vd_base.specs.declared.protocols.Proto.TheVariants.{Local, Rep, Commit, Add, Xor}
use Rattle.vd_base.specs.Holders.{holders, is_among}
use Rattle.vd_execution.specs.declared.instructions.Reg.{Reg}
use Rattle.vd_execution.specs.declared.instructions.Action.TheVariants as action
use Rattle.vd_execution.specs.Gadgets.{Alone, Tells}
use Rattle.vd_duet.specs.Builder.{next_at, taken}
use Rattle.vd_duet.specs.Calls.{Places, hosts_of, Made}
use Rattle.vd_duet.specs.Acting.{is_either, acts_in, acts_at, pass_at, share_at, adopt_at, told_at, show_at, show_all_at, apply_at, ActsWhereItSays}
use Rattle.vd_clear.specs.Copies.{literal_at, passed, adopted, kept_by, operated, first_of, after_first, applied_at, told, compared, first_register, shown, each_made, renewed, clear_calls, spread_to}
use Rattle.vd_clear.proofs.ClearLaws.{IsClear}

or_false : (b : Bool) → (b || false) ≡ b
or_false true = refl
or_false false = refl

or_same : (b : Bool) → (b || (b || false)) ≡ b
or_same true = refl
or_same false = refl

none_any : {X : Type 0} (xs : List X) → list_any (λ x. false) xs ≡ false
none_any [] = refl
none_any (x ∷ xs) = none_any xs

pub each_acts : (h : ℕ) (f : HostId → List ℕ → Made Reg) (g : HostId → Bool) → ((k : HostId) (next : List ℕ) → acts_at (f k next).gadgets h ≡ g k)
    → (hs : List HostId) (next : List ℕ) → acts_at (each_made f hs next).gadgets h ≡ list_any g hs
each_acts h f g law [] next = refl
each_acts h f g law (k ∷ hs) next =
    list_any-append (acts_in h) (f k next).gadgets (each_made f hs (f k next).next).gadgets
    ∙ ap₂ (λ (a b : Bool). a || b) (law k next) (each_acts h f g law hs (f k next).next)

passed_acts : (h : ℕ) (a : HostId) (x : Reg) (b : HostId) (next : List ℕ) → acts_at (passed a x b next).gadgets h ≡ pass_at a b h
passed_acts h a x b next = at (nat_eq a.0 b.0)
  where
    at : (same : Bool)
        → let made : Made Reg = if same then record { given = x; gadgets = []; next = next } else record { given = next_at next b; gadgets = Tells a (x ∷ []) b (next_at next b ∷ []) ∷ []; next = taken b 1 next } in
        acts_at made.gadgets h ≡ (if same then false else is_either h a b)
    at true = refl
    at false = or_false (is_either h a b)

operated_acts : (h : ℕ) (o : Op) (x y z : Reg) (k : HostId) (next : List ℕ) → acts_at (operated o x y z k next).gadgets h ≡ nat_eq h k.0
operated_acts h op.Add x y z k next = or_false (nat_eq h k.0)
operated_acts h op.Sub x y z k next = or_false (nat_eq h k.0)
operated_acts h op.Mul x y z k next = or_false (nat_eq h k.0)
operated_acts h (op.Scale n) x y z k next = or_same (nat_eq h k.0)
operated_acts h op.Div x y z k next = or_false (nat_eq h k.0)
operated_acts h op.Rem x y z k next = or_false (nat_eq h k.0)
operated_acts h op.And x y z k next = or_false (nat_eq h k.0)
operated_acts h op.Or x y z k next = or_false (nat_eq h k.0)
operated_acts h op.Xor x y z k next = or_false (nat_eq h k.0)
operated_acts h op.Not x y z k next = or_same (nat_eq h k.0)
operated_acts h op.Flip x y z k next = or_same (nat_eq h k.0)
operated_acts h (op.Shl n) x y z k next = or_false (nat_eq h k.0)
operated_acts h (op.Shr n) x y z k next = or_false (nat_eq h k.0)
operated_acts h op.Eq x y z k next = or_false (nat_eq h k.0)
operated_acts h op.Ne x y z k next = or_false (nat_eq h k.0)
operated_acts h op.Lt x y z k next = or_false (nat_eq h k.0)
operated_acts h op.Le x y z k next = or_false (nat_eq h k.0)
operated_acts h op.Min x y z k next = or_false (nat_eq h k.0)
operated_acts h op.Max x y z k next = or_false (nat_eq h k.0)
operated_acts h op.Mux x y z k next = or_false (nat_eq h k.0)

-- ---- what is told and compared

told_acts : (h : ℕ) (x : Places) (to : HostId) (next : List ℕ) → acts_at (told x to next).gadgets h ≡ list_any (λ k. is_either h k to) (hosts_of x)
told_acts h [] to next = refl
told_acts h (q ∷ x) to next = ap (λ (b : Bool). is_either h q.0 to || b) (told_acts h x to (taken to 1 next))

others_act : (h : ℕ) (to : HostId) (r : Reg) (rs : List Reg) → acts_at (map (λ s. Alone to (action.Same r s)) rs) h ≡ list_any (λ s. nat_eq h to.0) rs
others_act h to r [] = refl
others_act h to r (s ∷ rs) = ap (λ (b : Bool). nat_eq h to.0 || b) (others_act h to r rs)

absorbed : (a b rest : Bool) (rs : List Reg) → (((a || b) || rest) || list_any (λ s. b) rs) ≡ ((a || b) || rest)
absorbed true b rest rs = refl
absorbed false true rest rs = refl
absorbed false false rest rs = ap (λ (c : Bool). rest || c) (none_any rs) ∙ or_false rest

all_told : (h : ℕ) (x : Places) (to : HostId) (next : List ℕ)
    → acts_at ((told x to next).gadgets ++ compared to (told x to next).given) h ≡ list_any (λ k. is_either h k to) (hosts_of x)
all_told h [] to next = refl
all_told h (q ∷ x) to next =
    let rest : List Reg = (told x to (taken to 1 next)).given in
    list_any-append (acts_in h) (told (q ∷ x) to next).gadgets (compared to (told (q ∷ x) to next).given)
    ∙ ap₂ (λ (a b : Bool). a || b) (told_acts h (q ∷ x) to next) (others_act h to (next_at next to) rest)
    ∙ absorbed (nat_eq h q.0.0) (nat_eq h to.0) (list_any (λ k. is_either h k to) (hosts_of x)) rest

shown_acts : (h : ℕ) (x : Places) (to : HostId) (next : List ℕ) → acts_at (shown x to next).gadgets h ≡ told_at (hosts_of x) to h
shown_acts h x to next = at (is_among (hosts_of x) to.0)
  where
    at : (own : Bool)
        → let made : Made Reg = if own then adopted x to next else record {
          given = first_register (told x to next).given;
          gadgets = (told x to next).gadgets ++ compared to (told x to next).given;
          next = (told x to next).next;
        } in acts_at made.gadgets h ≡ (if own then false else list_any (λ k. is_either h k to) (hosts_of x))
    at true = refl
    at false = all_told h x to next

renewed_acts : (h : ℕ) (kept x : Places) → acts_at (renewed kept x) h ≡ is_among (hosts_of kept) h
renewed_acts h [] x = refl
renewed_acts h (q ∷ kept) x = ap (λ (b : Bool). nat_eq h q.0.0 || b) (renewed_acts h kept x)

-- ---- the tables at these protocols

share_is : (p : Proto) → IsClear p → (from : HostId) (h : ℕ) → list_any (λ k. pass_at from k h) (holders p) ≡ share_at from p h
share_is (Local k) clear from h = or_false (pass_at from k h)
share_is (Rep set) clear from h = refl
share_is (Commit p v) clear from h = absurd clear
share_is (Add a b) clear from h = absurd clear
share_is (Xor a b) clear from h = absurd clear

adopt_is : (p : Proto) → IsClear p → (h : ℕ) → false ≡ adopt_at p h
adopt_is (Local k) clear h = refl
adopt_is (Rep set) clear h = refl
adopt_is (Commit p v) clear h = absurd clear
adopt_is (Add a b) clear h = absurd clear
adopt_is (Xor a b) clear h = absurd clear

show_is : (p : Proto) → IsClear p → (to : HostId) (h : ℕ) → told_at (holders p) to h ≡ show_at p to h
show_is (Local k) clear to h = refl
show_is (Rep set) clear to h = refl
show_is (Commit p v) clear to h = absurd clear
show_is (Add a b) clear to h = absurd clear
show_is (Xor a b) clear to h = absurd clear

show_all_is : (p : Proto) → IsClear p → (h : ℕ) → false ≡ show_all_at p h
show_all_is (Local k) clear h = refl
show_all_is (Rep set) clear h = refl
show_all_is (Commit p v) clear h = absurd clear
show_all_is (Add a b) clear h = absurd clear
show_all_is (Xor a b) clear h = absurd clear

apply_is : (p : Proto) → IsClear p → (o : Op) (h : ℕ) → is_among (holders p) h ≡ apply_at o p h
apply_is (Local k) clear o h = refl
apply_is (Rep set) clear o h = refl
apply_is (Commit p v) clear o h = absurd clear
apply_is (Add a b) clear o h = absurd clear
apply_is (Xor a b) clear o h = absurd clear

pub clear_acts : (p : Proto) → IsClear p → ActsWhereItSays (clear_calls p)
clear_acts p clear = record {
  literal = λ v next h. each_acts h (literal_at v) (λ k. nat_eq h k.0) (λ k n. or_false (nat_eq h k.0)) (holders p) next;
  share = λ from x next h. each_acts h (passed from x) (λ k. pass_at from k h) (λ k n. passed_acts h from x k n) (holders p) next ∙ share_is p clear from h;
  adopt = λ x next h. each_acts h (adopted x) (λ k. false) (λ k n. refl) (holders p) next ∙ none_any (holders p) ∙ adopt_is p clear h;
  show = λ x at to next h. shown_acts h x to next ∙ ap (λ (l : List HostId). told_at l to h) at ∙ show_is p clear to h;
  show_all = λ x at next h. show_all_is p clear h;
  keep = λ x next h. each_acts h (kept_by x) (λ k. nat_eq h k.0) (λ k n. or_false (nat_eq h k.0)) (holders p) next;
  renew = λ kept x at h. renewed_acts h kept x ∙ ap (λ (l : List HostId). is_among l h) at;
  apply = λ o serves xs next h. each_acts h (applied_at o xs) (λ k. nat_eq h k.0)
      (λ k n. operated_acts h o (first_of xs k) (first_of (after_first xs) k) (first_of (after_first (after_first xs)) k) k n) (holders p) next ∙ apply_is p clear o h;
}

pub spread_acts : (from to : HostSet) (x : Places) → hosts_of x ≡ holders (Rep from) → (next : List ℕ) (h : ℕ)
    → acts_at (spread_to to x next).gadgets h ≡ list_any (λ k. told_at (holders (Rep from)) k h) (holders (Rep to))
spread_acts from to x at next h =
    each_acts h (shown x) (λ k. told_at (holders (Rep from)) k h) (λ k n. shown_acts h x k n ∙ ap (λ (l : List HostId). told_at l k h) at) (holders (Rep to)) next
