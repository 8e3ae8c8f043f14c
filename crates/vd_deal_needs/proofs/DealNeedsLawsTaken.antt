-- What the hosts have taken after joint code.
use Rattle.std.proofs.Common.{◌≡◌, inl, inr, ℕ, zero, suc, ◌+◌, ◌*◌, ◌≤◌, nat_eq, Bool, true, false, if◌then◌else◌, List, [], ◌∷◌, refl, sym, ap, ◌∙◌, subst, arith, zero-add}
use Rattle.std.proofs.lemmas.Bool.Decides.{eqb_tells}
use Rattle.vd_execution.specs.declared.instructions.Reg.{Reg}
use Rattle.vd_execution.specs.declared.instructions.Action.{Action}
use Rattle.vd_execution.specs.declared.instructions.Action.TheVariants as action
use Rattle.vd_execution.specs.Registers.{Registers, put}
use Rattle.vd_execution.specs.Step.{Source, Inputs, OwnWords, Triples, BitTriples, Pairs, Cursors, Nothing, Unequal, same_source, advanced, need_of_action, words_in}
use Rattle.vd_execution.specs.World.{Supply, Tape, followed_by_zeros, IsShort, IsStuck}
use Rattle.vd_execution.specs.Joint.{Part, Joint, Done, Do, Msg, If, For, Host, Hosts, fresh, acted, after_do, after_msg, said_to, has_heard, is_other, turn_begun, turns, joint, at_end}
use Rattle.vd_execution.specs.Claims.{RunsWell, Suffices, last_of, reached}
use Rattle.vd_execution.proofs.Front.{never_short_on_the_way, whole}
use Rattle.vd_execution.proofs.Front.{put_same, put_other}
use Rattle.vd_deal_needs.specs.DealNeedsLawsNeeds.{source_of, one_of, greater, takes, IsEven, HasWhatItTakes}

further : (c : Cursors) (s r : Source) (b : Bool) → (if b then suc (c r) else c r) ≡ c r + (if b then 1 else 0)
further c s r true = omega arith
further c s r false = omega arith

none_more : (n : ℕ) → n ≡ n + 0
none_more n = omega arith

same_takes_none : (c : Cursors) (r : Source) (b : Bool) (x y : ℕ) → advanced c (if b then Nothing else Unequal x y) r ≡ c r + 0
same_takes_none c r true x y = none_more (c r)
same_takes_none c r false x y = none_more (c r)

-- an action takes what is read off it
pub action_takes : (c : Cursors) (f : Registers) (a : Action) (r : Source) → advanced c (need_of_action f a) r ≡ c r + one_of (source_of a) r
action_takes c f (action.Const q k) r = none_more (c r)
action_takes c f (action.Copy q x) r = none_more (c r)
action_takes c f (action.Apply o q x y) r = none_more (c r)
action_takes c f (action.Shl q x k) r = none_more (c r)
action_takes c f (action.Shr q x k) r = none_more (c r)
action_takes c f (action.Mux q g x y) r = none_more (c r)
action_takes c f (action.Own q) r = further c OwnWords r (same_source r OwnWords)
action_takes c f (action.Triple p x y z) r = further c (Triples p.0) r (same_source r (Triples p.0))
action_takes c f (action.Bits p x y z) r = further c (BitTriples p.0) r (same_source r (BitTriples p.0))
action_takes c f (action.Pair p x y) r = further c (Pairs p.0) r (same_source r (Pairs p.0))
action_takes c f (action.Input q) r = further c Inputs r (same_source r Inputs)
action_takes c f (action.Print q) r = none_more (c r)
action_takes c f (action.Hash d n v) r = none_more (c r)
action_takes c f (action.Same x y) r = same_takes_none c r (nat_eq (f x.0) (f y.0)) (f x.0) (f y.0)
action_takes c f (action.Zero q count) r = none_more (c r)
action_takes c f (action.Get q x count i) r = none_more (c r)
action_takes c f (action.Put x count i s) r = none_more (c r)

-- a host's act adds to its own cursors alone
do_takes : (t : Tape) (a : ℕ) (x : Action) (w : Hosts) (h : ℕ) (r : Source)
    → (after_do t a x w h).cursors r ≡ (w h).cursors r + (if nat_eq h a then one_of (source_of x) r else 0)
do_takes t a x w h r =
    elim (eqb_tells h a) [
      | inl p ↦
          ap (λ g. (after_do t a x w g).cursors r) p.1
          ∙ ap (λ (k : Host). k.cursors r) (put_same w a (acted (t a) x (w a)))
          ∙ action_takes (w a).cursors (w a).registers x r
          ∙ ap (λ g. (w g).cursors r + one_of (source_of x) r) (sym p.1)
          ∙ ap (λ b. (w h).cursors r + (if b then one_of (source_of x) r else 0)) (sym p.0)
      | inr p ↦
          ap (λ (k : Host). k.cursors r) (put_other w a (acted (t a) x (w a)) h p.1)
          ∙ none_more ((w h).cursors r)
          ∙ ap (λ b. (w h).cursors r + (if b then one_of (source_of x) r else 0)) (sym p.0)
    ]

put_keeps : (w : Hosts) (a : ℕ) (k : Host) (h : ℕ) (r : Source) → k.cursors r ≡ (w a).cursors r → (put w a k h).cursors r ≡ (w h).cursors r
put_keeps w a k h r same =
    elim (eqb_tells h a) [
      | inl p ↦ ap (λ g. (put w a k g).cursors r) p.1 ∙ ap (λ (x : Host). x.cursors r) (put_same w a k) ∙ same ∙ ap (λ g. (w g).cursors r) (sym p.1)
      | inr p ↦ ap (λ (x : Host). x.cursors r) (put_other w a k h p.1)
    ]

-- a message takes nothing
msg_takes : (a : ℕ) (xs : List Reg) (b : ℕ) (ys : List Reg) (w : Hosts) (h : ℕ) (r : Source) → (after_msg a xs b ys w h).cursors r ≡ (w h).cursors r
msg_takes a xs b ys w h r =
    let said : Host = said_to b (words_in (w a).registers xs) (w a) in
    put_keeps (put w a said) b (has_heard ys (words_in (w a).registers xs) (w b)) h r (sym (put_keeps w a said b r refl)) ∙ put_keeps w a said h r refl

part_keeps : (ps : List Part) (turn : ℕ) (w : Hosts) (h : ℕ) (r : Source) → (turn_begun ps turn w h).cursors r ≡ (w h).cursors r
part_keeps [] turn w h r = refl
part_keeps (p ∷ ps) turn w h r = part_at (nat_eq h p.0) (part_keeps ps turn w h r)
  where
    part_at : (b : Bool) → (turn_begun ps turn w h).cursors r ≡ (w h).cursors r
        → (if b then (record (w h) { registers = put (w h).registers p.1 turn }) else turn_begun ps turn w h).cursors r ≡ (w h).cursors r
    part_at true e = refl
    part_at false e = e

-- ---- at most what is read off

turns_most : (f : ℕ → Hosts → Hosts) (h : ℕ) (r : Source) (k : ℕ) → ((i : ℕ) (w : Hosts) → (f i w h).cursors r ≤ (w h).cursors r + k)
    → (n i : ℕ) (w : Hosts) → (turns f n i w h).cursors r ≤ (w h).cursors r + n * k
turns_most f h r k each zero i w = omega arith
turns_most f h r k each (suc n) i w =
    let one = each i w in
    let more = turns_most f h r k each n (suc i) (f i w) in
    more_turns ((w h).cursors r) ((f i w h).cursors r) ((turns f n (suc i) (f i w) h).cursors r) k n one more
  where
    more_turns : (a b c k n : ℕ) → b ≤ a + k → c ≤ b + n * k → c ≤ a + (suc n) * k
    more_turns a b c k n x y = omega (arith, x, y)

branch_most : (b : Bool) (w u v : Hosts) (h : ℕ) (r : Source) (m n : ℕ) → (u h).cursors r ≤ (w h).cursors r + m → (v h).cursors r ≤ (w h).cursors r + n
    → ((if b then v else u) h).cursors r ≤ (w h).cursors r + greater m n
branch_most true w u v h r m n x y = omega (arith, y)
branch_most false w u v h r m n x y = omega (arith, x)

pub most : (t : Tape) (j : Joint) (w : Hosts) (h : ℕ) (r : Source) → (joint t j w h).cursors r ≤ (w h).cursors r + takes j h r
most t Done w h r = omega arith
most t (Do a x rest) w h r =
    let e = do_takes t a x w h r in
    let i = most t rest (after_do t a x w) h r in
    joined ((w h).cursors r) ((after_do t a x w h).cursors r) ((joint t rest (after_do t a x w) h).cursors r) (if nat_eq h a then one_of (source_of x) r else 0) (takes rest h r) e i
  where
    joined : (a b c k n : ℕ) → b ≡ a + k → c ≤ b + n → c ≤ a + (k + n)
    joined a b c k n x y = omega (arith, x, y)
most t (Msg a xs b ys rest) w h r =
    subst (λ k. (joint t rest (after_msg a xs b ys w) h).cursors r ≤ k + takes rest h r) (msg_takes a xs b ys w h r) (most t rest (after_msg a xs b ys w) h r)
most t (If ps first other rest) w h r =
    let v : Hosts = if is_other ps w then joint t other w else joint t first w in
    let one = branch_most (is_other ps w) w (joint t first w) (joint t other w) h r (takes first h r) (takes other h r) (most t first w h r) (most t other w h r) in
    let i = most t rest v h r in
    joined ((w h).cursors r) ((v h).cursors r) ((joint t rest v h).cursors r) (greater (takes first h r) (takes other h r)) (takes rest h r) one i
  where
    joined : (a b c k n : ℕ) → b ≤ a + k → c ≤ b + n → c ≤ a + (k + n)
    joined a b c k n x y = omega (arith, x, y)
most t (For ps count body rest) w h r =
    let f : ℕ → Hosts → Hosts = λ i v. joint t body (turn_begun ps i v) in
    let each : (i : ℕ) (v : Hosts) → (f i v h).cursors r ≤ (v h).cursors r + takes body h r =
    λ i v. subst (λ k. (f i v h).cursors r ≤ k + takes body h r) (part_keeps ps i v h r) (most t body (turn_begun ps i v) h r) in
    let all = turns_most f h r (takes body h r) each count 0 w in
    let i = most t rest (turns f count 0 w) h r in
    joined ((w h).cursors r) ((turns f count 0 w h).cursors r) ((joint t rest (turns f count 0 w) h).cursors r) (count * takes body h r) (takes rest h r) all i
  where
    joined : (a b c k n : ℕ) → b ≤ a + k → c ≤ b + n → c ≤ a + (k + n)
    joined a b c k n x y = omega (arith, x, y)

-- ---- exactly that, where no branch takes differently

turns_exact : (f : ℕ → Hosts → Hosts) (h : ℕ) (r : Source) (k : ℕ) → ((i : ℕ) (w : Hosts) → (f i w h).cursors r ≡ (w h).cursors r + k)
    → (n i : ℕ) (w : Hosts) → (turns f n i w h).cursors r ≡ (w h).cursors r + n * k
turns_exact f h r k each zero i w = omega arith
turns_exact f h r k each (suc n) i w =
    let one = each i w in
    let more = turns_exact f h r k each n (suc i) (f i w) in
    more_turns ((w h).cursors r) ((f i w h).cursors r) ((turns f n (suc i) (f i w) h).cursors r) k n one more
  where
    more_turns : (a b c k n : ℕ) → b ≡ a + k → c ≡ b + n * k → c ≡ a + (suc n) * k
    more_turns a b c k n x y = omega (arith, x, y)

branch_exact : (b : Bool) (w u v : Hosts) (h : ℕ) (r : Source) (m n : ℕ) → (u h).cursors r ≡ (w h).cursors r + m → (v h).cursors r ≡ (w h).cursors r + n → m ≡ n
    → ((if b then v else u) h).cursors r ≡ (w h).cursors r + greater m n
branch_exact true w u v h r m n x y e = omega (arith, y, e)
branch_exact false w u v h r m n x y e = omega (arith, x, e)

exact : (t : Tape) (j : Joint) (w : Hosts) (h : ℕ) (r : Source) → IsEven j → (joint t j w h).cursors r ≡ (w h).cursors r + takes j h r
exact t Done w h r s = omega arith
exact t (Do a x rest) w h r s =
    let e = do_takes t a x w h r in
    let i = exact t rest (after_do t a x w) h r s in
    joined ((w h).cursors r) ((after_do t a x w h).cursors r) ((joint t rest (after_do t a x w) h).cursors r) (if nat_eq h a then one_of (source_of x) r else 0) (takes rest h r) e i
  where
    joined : (a b c k n : ℕ) → b ≡ a + k → c ≡ b + n → c ≡ a + (k + n)
    joined a b c k n x y = omega (arith, x, y)
exact t (Msg a xs b ys rest) w h r s =
    exact t rest (after_msg a xs b ys w) h r s ∙ ap (λ k. k + takes rest h r) (msg_takes a xs b ys w h r)
exact t (If ps first other rest) w h r s =
    let v : Hosts = if is_other ps w then joint t other w else joint t first w in
    let one = branch_exact (is_other ps w) w (joint t first w) (joint t other w) h r (takes first h r) (takes other h r) (exact t first w h r s.1.0) (exact t other w h r s.1.1.0) (s.0 h r) in
    let i = exact t rest v h r s.1.1.1 in
    joined ((w h).cursors r) ((v h).cursors r) ((joint t rest v h).cursors r) (greater (takes first h r) (takes other h r)) (takes rest h r) one i
  where
    joined : (a b c k n : ℕ) → b ≡ a + k → c ≡ b + n → c ≡ a + (k + n)
    joined a b c k n x y = omega (arith, x, y)
exact t (For ps count body rest) w h r s =
    let f : ℕ → Hosts → Hosts = λ i v. joint t body (turn_begun ps i v) in
    let each : (i : ℕ) (v : Hosts) → (f i v h).cursors r ≡ (v h).cursors r + takes body h r =
    λ i v. exact t body (turn_begun ps i v) h r s.0 ∙ ap (λ k. k + takes body h r) (part_keeps ps i v h r) in
    let all = turns_exact f h r (takes body h r) each count 0 w in
    let i = exact t rest (turns f count 0 w) h r s.1 in
    joined ((w h).cursors r) ((turns f count 0 w h).cursors r) ((joint t rest (turns f count 0 w) h).cursors r) (count * takes body h r) (takes rest h r) all i
  where
    joined : (a b c k n : ℕ) → b ≡ a + k → c ≡ b + n → c ≡ a + (k + n)
    joined a b c k n x y = omega (arith, x, y)

-- ---- from the start

pub enough : (s : Supply) (j : Joint) → HasWhatItTakes s j → Suffices s (last_of s j)
enough s j has h r i less =
    let m = most (followed_by_zeros s) j fresh h r in
    has h r i (omega (arith, less, m))

pub exactly : (s : Supply) (j : Joint) (h : ℕ) (r : Source) → IsEven j → (last_of s j h).cursors r ≡ takes j h r
exactly s j h r even = exact (followed_by_zeros s) j fresh h r even ∙ zero-add (takes j h r)

pub least : (s : Supply) (j : Joint) → IsEven j → Suffices s (last_of s j) → HasWhatItTakes s j
least s j even suffices h r i less =
    let e = exactly s j h r even in
    suffices h r i (omega (arith, less, e))

pub nobody_short : (s : Supply) (j : Joint) (b : List ℕ) (h : ℕ) → RunsWell s j → HasWhatItTakes s j → IsShort s (reached s j b) h → ⊥
nobody_short s j b h well has short = never_short_on_the_way s j b well (enough s j has) h short

pub all_end : (s : Supply) (j : Joint) (b : List ℕ) → RunsWell s j → HasWhatItTakes s j → IsStuck s (reached s j b) → reached s j b ≡ at_end (last_of s j)
all_end s j b well has stuck = (whole s j b well (enough s j has) stuck).0
