-- Tidy gadgets keep states sound.
use Rattle.std.proofs.Common.{◌≡◌, ℕ, suc, ◌+◌, ◌^◌, ◌<◌, Bool, true, false, ◌&&◌, nat_eq, nat_lt, nat_le, if◌then◌else◌, List, [], ◌∷◌, refl, sym, ap, subst, ◌∙◌, inl, inr, arith}
use Rattle.std.proofs.lemmas.Bool.Decides.{nat_tests}
use Rattle.vd_base.specs.declared.operations.Op.TheVariants as op
use Rattle.vd_execution.specs.declared.instructions.Reg.{Reg}
use Rattle.vd_execution.specs.declared.instructions.Action.{Action}
use Rattle.vd_execution.specs.declared.instructions.Action.TheVariants as action
use Rattle.vd_execution.specs.declared.instructions.Act.{Act}
use Rattle.vd_execution.specs.declared.instructions.Act.TheVariants as act
use Rattle.vd_execution.specs.Registers.{Registers, put, put_each, put_from, zeroed, written, nth, digest_of, words_from, operation_of}
use Rattle.vd_execution.specs.Step.{Source, Inputs, OwnWords, Triples, BitTriples, Pairs, same_source, Cursors, Need, Nothing, Item, Packet, Unequal, Ended, need_of_action, advanced, words_in}
use Rattle.vd_execution.specs.World.{Tape}
use Rattle.vd_execution.specs.Deals.{IsValidDeal}
use Rattle.vd_execution.specs.Joint.{Host, Hosts, supplied, acted, after_do, after_msg, said_to, has_heard}
use Rattle.vd_execution.specs.Acts.{run_act, run_acts}
use Rattle.vd_execution.specs.Gadgets.{TakesNoPart}
use Rattle.vd_execution.proofs.Puts.{same_or_not}
use Rattle.vd_execution.proofs.Words.{operation_word}
use Rattle.vd_execution.proofs.Digests.{Each, digest_words}

-- ---- words

abbrev pub AreWords : Registers → Type 0
AreWords f = (r : ℕ) → f r < 2 ^ 32

either : (b : Bool) (x y : ℕ) → x < 2 ^ 32 → y < 2 ^ 32 → (if b then x else y) < 2 ^ 32
either true x y p q = p
either false x y p q = q

pub put_words : (f : Registers) (r x : ℕ) → AreWords f → x < 2 ^ 32 → AreWords (put f r x)
unfolding put
put_words f r x all small j = either (nat_eq j r) x (f j) small (all j)

each_words : (f : Registers) (rs : List Reg) (xs : List ℕ) → AreWords f → Each (λ x. x < 2 ^ 32) xs → AreWords (put_each f rs xs)
each_words f [] xs all small = all
each_words f (r ∷ rs) [] all small = all
each_words f (r ∷ rs) (x ∷ xs) all small = each_words (put f r.0 x) rs xs (put_words f r.0 x all small.0) small.1

from_words : (f : Registers) (r : ℕ) (xs : List ℕ) → AreWords f → Each (λ x. x < 2 ^ 32) xs → AreWords (put_from f r xs)
from_words f r [] all small = all
from_words f r (x ∷ xs) all small = from_words (put f r x) (r + 1) xs (put_words f r x all small.0) small.1

zero_words : (f : Registers) (r count : ℕ) → AreWords f → AreWords (zeroed f r count)
unfolding zeroed
zero_words f r count all j = either (nat_le r j && nat_lt j (r + count)) 0 (f j) (omega arith) (all j)

maybe : (b : Bool) (f g : Registers) → AreWords f → AreWords g → AreWords (if b then f else g)
maybe true f g p q = p
maybe false f g p q = q

-- the number of a literal is a word
abbrev pub NumberFits : Action → Type 0
NumberFits (action.Const r k) = k < 2 ^ 32
NumberFits a = Unit {0}

-- the words of an item
abbrev pub AreItem : List ℕ → Type 0
AreItem xs = (place : ℕ) → nth xs place < 2 ^ 32

pub written_words : (f : Registers) (a : Action) (xs : List ℕ) → NumberFits a → AreItem xs → AreWords f → AreWords (written f a xs)
written_words f (action.Const r k) xs fits item all = put_words f r.0 k all fits
written_words f (action.Copy r x) xs fits item all = put_words f r.0 (f x.0) all (all x.0)
written_words f (action.Apply o r x y) xs fits item all = put_words f r.0 _ all (operation_word (operation_of o) (f x.0) (f y.0) 0 (all x.0) (all y.0) (omega arith))
written_words f (action.Shl r x k) xs fits item all = put_words f r.0 _ all (operation_word (op.Shl k) (f x.0) 0 0 (all x.0) (omega arith) (omega arith))
written_words f (action.Shr r x k) xs fits item all = put_words f r.0 _ all (operation_word (op.Shr k) (f x.0) 0 0 (all x.0) (omega arith) (omega arith))
written_words f (action.Mux r c x y) xs fits item all = put_words f r.0 _ all (operation_word op.Mux (f c.0) (f x.0) (f y.0) (all c.0) (all x.0) (all y.0))
written_words f (action.Own r) xs fits item all = put_words f r.0 (nth xs 0) all (item 0)
written_words f (action.Triple p a b c) xs fits item all =
    put_words (put (put f a.0 (nth xs 0)) b.0 (nth xs 1)) c.0 (nth xs 2) (put_words (put f a.0 (nth xs 0)) b.0 (nth xs 1) (put_words f a.0 (nth xs 0) all (item 0)) (item 1)) (item 2)
written_words f (action.Bits p a b c) xs fits item all =
    put_words (put (put f a.0 (nth xs 0)) b.0 (nth xs 1)) c.0 (nth xs 2) (put_words (put f a.0 (nth xs 0)) b.0 (nth xs 1) (put_words f a.0 (nth xs 0) all (item 0)) (item 1)) (item 2)
written_words f (action.Pair p s x) xs fits item all = put_words (put f s.0 (nth xs 0)) x.0 (nth xs 1) (put_words f s.0 (nth xs 0) all (item 0)) (item 1)
written_words f (action.Input r) xs fits item all = put_words f r.0 (nth xs 0) all (item 0)
written_words f (action.Print r) xs fits item all = all
written_words f (action.Hash d n v) xs fits item all = from_words f d.0 (digest_of (words_from f n.0 8) (f v.0)) all (digest_words (words_from f n.0 8) (f v.0))
written_words f (action.Same x y) xs fits item all = all
written_words f (action.Zero r count) xs fits item all = zero_words f r.0 count all
written_words f (action.Get r x count i) xs fits item all = put_words f r.0 _ all (either (nat_lt (f i.0) count) (f (x.0 + f i.0)) 0 (all (x.0 + f i.0)) (omega arith))
written_words f (action.Put x count i s) xs fits item all = maybe (nat_lt (f i.0) count) (put f (x.0 + f i.0) (f s.0)) f (put_words f (x.0 + f i.0) (f s.0) all (all s.0)) all

nothing_small : AreItem []
nothing_small place = omega arith

supplied_words : (t : Tape) → IsValidDeal t → (h : ℕ) (c : Cursors) (n : Need) → AreItem (supplied (t h) c n)
supplied_words t deal h c Nothing = nothing_small
supplied_words t deal h c (Item s) = deal.words h s (c s)
supplied_words t deal h c (Packet p n) = nothing_small
supplied_words t deal h c (Unequal x y) = nothing_small
supplied_words t deal h c Ended = nothing_small

abbrev pub AllAreWords : Hosts → Type 0
AllAreWords w = (g : ℕ) → AreWords (w g).registers

put_host : (w : Hosts) (h : ℕ) (s : Host) → AllAreWords w → AreWords s.registers → AllAreWords (put w h s)
unfolding put
put_host w h s all small g = chosen (nat_eq g h)
  where
    chosen : (b : Bool) → AreWords (if b then s else w g).registers
    chosen true = small
    chosen false = all g

said_words : (f : Registers) (rs : List Reg) → AreWords f → Each (λ x. x < 2 ^ 32) (words_in f rs)
said_words f [] all = tt
said_words f (r ∷ rs) all = (all r.0, said_words f rs all)

abbrev pub ActFits : Act → Type 0
ActFits (act.Do h a) = NumberFits a
ActFits (act.Msg a said b heard) = Unit {0}

act_words : (t : Tape) → IsValidDeal t → (x : Act) (w : Hosts) → ActFits x → AllAreWords w → AllAreWords (run_act t x w)
act_words t deal (act.Do h a) w fits all =
    let s : Host = w h.0 in
    put_host w h.0 (acted (t h.0) a s) all (written_words s.registers a _ fits (supplied_words t deal h.0 s.cursors (need_of_action s.registers a)) (all h.0))
act_words t deal (act.Msg a said b heard) w fits all =
    let words : List ℕ = words_in (w a.0).registers said in
    put_host (put w a.0 (said_to b.0 words (w a.0))) b.0 (has_heard heard words (w b.0)) (put_host w a.0 (said_to b.0 words (w a.0)) all (all a.0))
    (each_words (w b.0).registers heard words (all b.0) (said_words (w a.0).registers said (all a.0)))

pub acts_words : (t : Tape) → IsValidDeal t → (acts : List Act) (w : Hosts) → Each ActFits acts → AllAreWords w → AllAreWords (run_acts t acts w)
acts_words t deal [] w fits all = all
acts_words t deal (x ∷ acts) w fits all = acts_words t deal acts (run_act t x w) fits.1 (act_words t deal x w fits.0 all)

-- ---- cursors

-- items that two hosts share
abbrev pub is_shared : Source → Bool
is_shared Inputs = false
is_shared OwnWords = false
is_shared (Triples p) = true
is_shared (BitTriples p) = true
is_shared (Pairs p) = true

abbrev pub one_more : Bool → ℕ → ℕ
one_more b n = if b then suc n else n

-- no shared item was taken; one host took one
abbrev pub Keeps : Hosts → Hosts → Type 0
Keeps w v = (g : ℕ) (s : Source) → is_shared s ≡ true → (v g).cursors s ≡ (w g).cursors s

abbrev pub Takes : ℕ → Source → Hosts → Hosts → Type 0
Takes h source w v = (g : ℕ) (s : Source) → (v g).cursors s ≡ one_more (nat_eq g h && same_source s source) ((w g).cursors s)

pub keeps_on : (w u v : Hosts) → Keeps w u → Keeps u v → Keeps w v
keeps_on w u v p q g s e = q g s e ∙ p g s e

of_put : {A B : Type 0} (f : A → B) (w : ℕ → A) (h : ℕ) (x : A) (g : ℕ) → f (put w h x g) ≡ (if nat_eq g h then f x else f (w g))
unfolding put
of_put {A = A} {B = B} f w h x g = chosen (nat_eq g h)
  where
    chosen : (b : Bool) → f (if b then x else w g) ≡ (if b then f x else f (w g))
    chosen true = refl
    chosen false = refl

kept_at : (w : Hosts) (g h : ℕ) (s : Source) (n : ℕ) → n ≡ (w h).cursors s → (if nat_eq g h then n else (w g).cursors s) ≡ (w g).cursors s
kept_at w g h s n e =
    elim (same_or_not g h) [
      | inl same ↦ subst (λ k. (if nat_eq k h then n else (w k).cursors s) ≡ (w k).cursors s) (sym same) (grind (arith, nat_tests, e))
      | inr differ ↦ grind (arith, nat_tests, differ)
    ]

put_keeps : (w : Hosts) (h : ℕ) (x : Host) → ((s : Source) → is_shared s ≡ true → x.cursors s ≡ (w h).cursors s) → Keeps w (put w h x)
put_keeps w h x same g s e = of_put (λ (z : Host). z.cursors s) w h x g ∙ kept_at w g h s (x.cursors s) (same s e)

-- what a host takes by itself
own_need : (f : Registers) (a : Action) → TakesNoPart a → (c : Cursors) (s : Source) → is_shared s ≡ true → advanced c (need_of_action f a) s ≡ c s
own_need f (action.Const r k) own c s e = refl
own_need f (action.Copy r x) own c s e = refl
own_need f (action.Apply o r x y) own c s e = refl
own_need f (action.Shl r x k) own c s e = refl
own_need f (action.Shr r x k) own c s e = refl
own_need f (action.Mux r d x y) own c s e = refl
own_need f (action.Own r) own c s e = other s e
  where
    other : (s : Source) → is_shared s ≡ true → advanced c (Item OwnWords) s ≡ c s
    other Inputs e = refl
    other OwnWords e = cc
    other (Triples p) e = refl
    other (BitTriples p) e = refl
    other (Pairs p) e = refl
own_need f (action.Triple p x y z) own c s e = absurd own
own_need f (action.Bits p x y z) own c s e = absurd own
own_need f (action.Pair p x y) own c s e = absurd own
own_need f (action.Input r) own c s e = other s e
  where
    other : (s : Source) → is_shared s ≡ true → advanced c (Item Inputs) s ≡ c s
    other Inputs e = cc
    other OwnWords e = refl
    other (Triples p) e = refl
    other (BitTriples p) e = refl
    other (Pairs p) e = refl
own_need f (action.Print r) own c s e = refl
own_need f (action.Hash d n v) own c s e = refl
own_need f (action.Same x y) own c s e = chosen (nat_eq (f x.0) (f y.0))
  where
    chosen : (b : Bool) → advanced c (if b then Nothing else Unequal (f x.0) (f y.0)) s ≡ c s
    chosen true = refl
    chosen false = refl
own_need f (action.Zero r count) own c s e = refl
own_need f (action.Get r x count i) own c s e = refl
own_need f (action.Put x count i y) own c s e = refl

pub do_keeps : (t : Tape) (h : ℕ) (a : Action) (w : Hosts) → TakesNoPart a → Keeps w (after_do t h a w)
do_keeps t h a w own = put_keeps w h (acted (t h) a (w h)) (own_need (w h).registers a own (w h).cursors)

pub msg_keeps : (a : ℕ) (said : List Reg) (b : ℕ) (heard : List Reg) (w : Hosts) → Keeps w (after_msg a said b heard w)
msg_keeps a said b heard w =
    let words : List ℕ = words_in (w a).registers said in
    let u : Hosts = put w a (said_to b words (w a)) in
    let p : Keeps w u = put_keeps w a (said_to b words (w a)) (λ s e. refl) in
    λ g s e. of_put (λ (z : Host). z.cursors s) u b (has_heard heard words (w b)) g
    ∙ ap (λ n. if nat_eq g b then (w b).cursors s else n) (p g s e) ∙ kept_at w g b s ((w b).cursors s) refl

took_at : (w : Hosts) (g h : ℕ) (s source : Source) → (if nat_eq g h then one_more (same_source s source) ((w h).cursors s) else (w g).cursors s) ≡ one_more (nat_eq g h && same_source s source) ((w g).cursors s)
took_at w g h s source =
    elim (same_or_not g h) [
      | inl same ↦ subst (λ k. (if nat_eq k h then one_more (same_source s source) ((w h).cursors s) else (w k).cursors s) ≡ one_more (nat_eq k h && same_source s source) ((w k).cursors s)) (sym same) (grind (arith, nat_tests))
      | inr differ ↦ grind (arith, nat_tests, differ)
    ]

pub put_takes : (w : Hosts) (h : ℕ) (x : Host) (source : Source) → ((s : Source) → x.cursors s ≡ one_more (same_source s source) ((w h).cursors s)) → Takes h source w (put w h x)
put_takes w h x source same g s =
    of_put (λ (z : Host). z.cursors s) w h x g ∙ ap (λ n. if nat_eq g h then n else (w g).cursors s) (same s) ∙ took_at w g h s source

-- both hosts took one item that they share
pub after_both : (m n : ℕ) (source : ℕ → Source) (w a b c v : Hosts) → Takes m (source n) w a → Keeps a b → Takes n (source m) b c → Keeps c v
    → (g : ℕ) (s : Source) → is_shared s ≡ true
    → (v g).cursors s ≡ one_more (nat_eq g n && same_source s (source m)) (one_more (nat_eq g m && same_source s (source n)) ((w g).cursors s))
after_both m n source w a b c v p q r z g s e =
    z g s e ∙ r g s ∙ ap (one_more (nat_eq g n && same_source s (source m))) (q g s e ∙ p g s)

pub crossed : (a b d e : Bool) (x y : ℕ) → x ≡ y → one_more (a && b) (one_more (d && e) x) ≡ one_more (e && d) (one_more (b && a) y)
crossed true true true true x y same = ap (λ k. suc (suc k)) same
crossed true true true false x y same = ap suc same
crossed true true false true x y same = ap suc same
crossed true true false false x y same = ap suc same
crossed true false true true x y same = ap suc same
crossed true false true false x y same = same
crossed true false false true x y same = same
crossed true false false false x y same = same
crossed false true true true x y same = ap suc same
crossed false true true false x y same = same
crossed false true false true x y same = same
crossed false true false false x y same = same
crossed false false true true x y same = ap suc same
crossed false false true false x y same = same
crossed false false false true x y same = same
crossed false false false false x y same = same

pub not_both : (a d : Bool) (x y : ℕ) → x ≡ y → one_more (a && false) (one_more (d && false) x) ≡ y
not_both true true x y same = same
not_both true false x y same = same
not_both false true x y same = same
not_both false false x y same = same
