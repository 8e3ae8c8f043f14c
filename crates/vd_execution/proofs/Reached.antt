-- What holds in each world that some schedule reaches, from one schedule that ends all hosts.
use Rattle.std.proofs.Common.{◌≡◌, ◌≢◌, ℕ, zero, suc, ◌+◌, ◌<◌, ◌≤◌, Bool, true, false, List, ◌++◌, Option, Some, None, refl, sym, ap, ◌∙◌, subst, arith, ◌⊎◌, inl, inr, length, append_assoc, cond}
use Rattle.std.proofs.lemmas.Bool.Decides.{eqb_tells}
use Rattle.std.proofs.lemmas.Bool.{eq-eqb}
use Rattle.vd_execution.specs.Registers.{put}
use Rattle.vd_execution.specs.Code.{Finished}
use Rattle.vd_execution.specs.Step.{Source, Inputs, OwnWords, Triples, BitTriples, Pairs, same_source, State, Cursors, Need, Nothing, Item, Packet, Unequal, Ended, advanced, Deed, Quiet, Said, Heard, Printed, of_length, answer, need, need_of, next, deed}
use Rattle.vd_execution.specs.Schedule.{Steps}
use Rattle.vd_execution.specs.World.{Local, World, Supply, given, done, moved_on, with_answer, step, run, effective, IsStuck, IsPrefixOf, AllEnded, IsWrong, HasNoFault, IsShortAt, IsShort, CanStep, or_zeros, followed_by_zeros, endless}
use Rattle.vd_execution.specs.Claims.{Grows}
use Rattle.vd_execution.proofs.Puts.{same_or_not, put_same, put_other}
use Rattle.vd_execution.proofs.Confluence.{run_steps, steps_run, steps_keep, steps_more, on_the_way, none_left}
use Rattle.vd_execution.proofs.Diamond.{diamond, Below, answer_more, Stepped, stepped, steps_to, prefix_same, moved_grows, front_later}

-- each host of w is in u, and there it has printed and sent what it had, and maybe more
abbrev pub GrowsInto : World → World → Type 0
GrowsInto w u = (h : ℕ) → Grows (w h) (u h)

prefix_trans : {X : Type 0} (xs ys zs : List X) → IsPrefixOf xs ys → IsPrefixOf ys zs → IsPrefixOf xs zs
prefix_trans xs ys zs p q = (p.0 ++ q.0, sym (append_assoc xs p.0 q.0) ∙ ap (λ l. l ++ q.0) p.1 ∙ q.1)

grows_refl : (l : Local) → Grows l l
grows_refl l = record { printed = prefix_same _ _ refl; sent = λ p. prefix_same _ _ refl }

grows_trans : (l k m : Local) → Grows l k → Grows k m → Grows l m
grows_trans l k m a b = record { printed = prefix_trans _ _ _ a.printed b.printed; sent = λ p. prefix_trans _ _ _ (a.sent p) (b.sent p) }

-- the record of a host after a step of h
new_of : (w u : World) (h : ℕ) (k : Local) → u ≡ put w h k → (j : ℕ) → j ≡ h → u j ≡ k
new_of w u h k e j same = ap (λ x. x j) e ∙ ap (put w h k) same ∙ put_same w h k

old_of : (w u : World) (h : ℕ) (k : Local) → u ≡ put w h k → (j : ℕ) → j ≢ h → u j ≡ w j
old_of w u h k e j other = ap (λ x. x j) e ∙ put_other w h k j other

grows_by : (s : Supply) (w0 : World) (h : ℕ) (w u : World) → step s h w ≡ Some u → GrowsInto w0 w → GrowsInto w0 u
grows_by s w0 h w u e g j =
    let a = stepped s h w u e in
    let k : Local = moved_on (w h) a.words in
    let into : Local → Type 0 = λ x. Grows (w0 j) x in
    elim (same_or_not j h) [
      | inl same ↦ subst into (sym (new_of w u h k a.made j same)) (grows_trans (w0 j) (w h) k (subst (λ i. Grows (w0 j) (w i)) same (g j)) (moved_grows (w h) a.words))
      | inr other ↦ subst into (sym (old_of w u h k a.made j other)) (g j)
    ]

pub grows_along : (s : Supply) (n : ℕ) (w v : World) → Steps (step s) n w v → GrowsInto w v
grows_along s n w v t = steps_keep (step s) (GrowsInto w) (grows_by s w) n w v t (λ h. grows_refl (w h))

-- a fault stays
of_length_wrong : (n : ℕ) (xs : List ℕ) → length xs ≢ n → of_length n (Some xs) ≡ None
of_length_wrong n xs ne = elim (eqb_tells (length xs) n) [ inl p ↦ absurd (ne p.1) | inr p ↦ ap (λ b. cond b (Some xs) None) p.0 ]

wrong_waits : (s : Supply) (w : World) (h : ℕ) (l : Local) (x : Need) → IsWrong w h l x → answer (given s w h l) l.state.cursors x ≡ None
wrong_waits s w h l Nothing q = absurd q
wrong_waits s w h l (Item r) q = absurd q
wrong_waits s w h l (Packet p n) q = ap (of_length n) q.1 ∙ of_length_wrong n q.0 q.2
wrong_waits s w h l (Unequal x y) q = refl
wrong_waits s w h l Ended q = absurd q

wrong_later : (w : World) (g h : ℕ) (k m : Local) (x : Need) → Grows (w g) k → IsWrong w h m x → IsWrong (put w g k) h m x
wrong_later w g h k m Nothing grows q = q
wrong_later w g h k m (Item r) grows q = q
wrong_later w g h k m (Packet p n) grows q = (q.0, front_later w g h k m p q.0 grows q.1, q.2)
wrong_later w g h k m (Unequal x y) grows q = q
wrong_later w g h k m Ended grows q = q

abbrev StaysWrong : ℕ → Local → World → Type 0
StaysWrong h l w = (w h ≡ l) × IsWrong w h l (need l.state)

wrong_by : (s : Supply) (h : ℕ) (l : Local) (g : ℕ) (w u : World) → step s g w ≡ Some u → StaysWrong h l w → StaysWrong h l u
wrong_by s h l g w u e q =
    let a = stepped s g w u e in
    let new : Local = moved_on (w g) a.words in
    elim (same_or_not h g) [
      | inl same ↦
          let none : answer (given s w h l) l.state.cursors (need l.state) ≡ None = wrong_waits s w h l (need l.state) q.1 in
          let able : answer (given s w h l) l.state.cursors (need l.state) ≡ Some a.words =
          ap (λ x. answer (given s w h x) x.state.cursors (need x.state)) (sym q.0) ∙ ap (λ i. answer (given s w i (w i)) (w i).state.cursors (need (w i).state)) same ∙ a.able in
          absurd cc
      | inr other ↦ (
        old_of w u g new a.made h other ∙ q.0,
        subst (λ x. IsWrong x h l (need l.state)) (sym a.made) (wrong_later w g h new l (need l.state) (moved_grows (w g) a.words) q.1),
      )
    ]

pub ended_needs : (l : Local) → l.state.pending ≡ Finished → need l.state ≡ Ended
ended_needs l e = ap (need_of l.state.registers) e

pub faultless : (s : Supply) (n : ℕ) (w v : World) → Steps (step s) n w v → AllEnded v → HasNoFault w
faultless s n w v t ended h wrong =
    let q = steps_keep (step s) (StaysWrong h (w h)) (wrong_by s h (w h)) n w v t (refl, wrong) in
    let at_last : (w h).state.pending ≡ Finished = ap (λ x. x.state.pending) (sym q.0) ∙ ended h in
    subst (λ x. IsWrong v h (w h) x) (ended_needs (w h) at_last) q.1

-- where all have ended, no host can step
pub ended_stuck : (s : Supply) (w : World) → AllEnded w → IsStuck s w
ended_stuck s w ended h = ap (λ x. with_answer w h (w h) (answer (given s w h (w h)) (w h).state.cursors x)) (ended_needs (w h) (ended h))

-- the world with endless lists does what the other does
abbrev pub twin : Supply → Supply
twin s = endless (followed_by_zeros s)

item_more : (r : Source) (o : Option (List ℕ)) (x : List ℕ) → o ≡ Some x → Some (or_zeros r o) ≡ Some x
item_more r None x e = absurd cc
item_more r (Some y) x e = e

twin_below : (s : Supply) (w : World) (h : ℕ) (l : Local) → Below (given s w h l) (given (twin s) w h l)
twin_below s w h l = record {
  item = λ r i x e. item_more r (s h r i) x e;
  front = λ p x e. e;
}

pub twin_steps : (s : Supply) (h : ℕ) (w u : World) → step s h w ≡ Some u → step (twin s) h w ≡ Some u
twin_steps s h w u e =
    let a = stepped s h w u e in
    steps_to (twin s) h w (w h) a.words refl (answer_more _ _ (w h).state.cursors (need (w h).state) a.words (twin_below s w h (w h)) a.able) ∙ ap Some (sym a.made)

-- a host that cannot step where its twin can is short
pub short_at : (s : Supply) (w : World) (h : ℕ) (l : Local) (x : Need) (xs : List ℕ) → answer (given s w h l) l.state.cursors x ≡ None
    → answer (given (twin s) w h l) l.state.cursors x ≡ Some xs → IsShortAt (s h) l.state.cursors x
short_at s w h l Nothing xs e f = absurd cc
short_at s w h l (Item r) xs e f = e
short_at s w h l (Packet p n) xs e f = absurd cc
short_at s w h l (Unequal x y) xs e f = absurd cc
short_at s w h l Ended xs e f = absurd cc

abbrev pub GoesOn : Supply → World → Type 0
GoesOn s w = AllEnded w ⊎ ((h : ℕ) × CanStep s w h) ⊎ ((h : ℕ) × IsShort s w h)

goes_or_short : (s : Supply) (w u : World) (h : ℕ) → (a : Stepped (twin s) h w u) → (o : Option (List ℕ)) → answer (given s w h (w h)) (w h).state.cursors (need (w h).state) ≡ o
    → ((h : ℕ) × CanStep s w h) ⊎ ((h : ℕ) × IsShort s w h)
goes_or_short s w u h a None e = inr (h, short_at s w h (w h) (need (w h).state) a.words e a.able)
goes_or_short s w u h a (Some xs) e = inl (h, (put w h (moved_on (w h) xs), steps_to s h w (w h) xs refl e))

pub goes_on : (s : Supply) (m : ℕ) (w v : World) → Steps (step (twin s)) m w v → AllEnded v → GoesOn s w
goes_on s zero w v t ended = inl (subst AllEnded (sym t) ended)
goes_on s (suc m) w v t ended =
    let a = stepped (twin s) t.0 w t.1 t.2 in
    inr (goes_or_short s w t.1 t.0 a (answer (given s w t.0 (w t.0)) (w t.0).state.cursors (need (w t.0).state)) refl)

-- the rest of the way, for the endless lists
pub remaining : (s : Supply) (w : World) (a b : List ℕ) → AllEnded (run (twin s) a w)
    → (m : ℕ) × (effective (twin s) a w ≡ effective s b w + m) × Steps (step (twin s)) m (run s b w) (run (twin s) a w)
remaining s w a b ended =
    let e = twin s in
    let t = steps_more (step s) (step e) (twin_steps s) (effective s b w) w (run s b w) (run_steps (step s) b w) in
    let q = steps_run (step e) (effective s b w) w (run s b w) t in
    let r = on_the_way (step e) (diamond e) w a q.0 (ended_stuck e (run e a w) ended) in
    (r.0, r.1 ∙ ap (λ n. n + r.0) q.2, subst (λ x. Steps (step e) r.0 x (run e a w)) q.1 r.2)

-- where the lists have what was taken in the end, no host is ever short

-- the second has taken what the first needs
abbrev Took : Cursors → Need → Cursors → Type 0
Took c Nothing d = ⊥
Took c (Item r) d = c r < d r
Took c (Packet p n) d = ⊥
Took c (Unequal x y) d = ⊥
Took c Ended d = ⊥

-- no cursor goes back
abbrev NotBefore : Cursors → Cursors → Type 0
NotBefore c d = (r : Source) → c r ≤ d r

le_self : (n : ℕ) → n ≤ n
le_self n = omega arith

further_more : (b : Bool) (n : ℕ) → n ≤ cond b (suc n) n
further_more true n = omega arith
further_more false n = omega arith

advances : (c : Cursors) (n : Need) → NotBefore c (advanced c n)
advances c Nothing r = le_self (c r)
advances c (Item q) r = further_more (same_source r q) (c r)
advances c (Packet p n) r = le_self (c r)
advances c (Unequal x y) r = le_self (c r)
advances c Ended r = le_self (c r)

same_itself : (r : Source) → same_source r r ≡ true
same_itself Inputs = refl
same_itself OwnWords = refl
same_itself (Triples p) = eq-eqb p p refl
same_itself (BitTriples p) = eq-eqb p p refl
same_itself (Pairs p) = eq-eqb p p refl

less_suc : (n : ℕ) → n < suc n
less_suc n = omega arith

took_now : (items : Source → ℕ → Option (List ℕ)) (c : Cursors) (n : Need) → IsShortAt items c n → Took c n (advanced c n)
took_now items c Nothing q = q
took_now items c (Item r) q = subst (λ b. c r < cond b (suc (c r)) (c r)) (sym (same_itself r)) (less_suc (c r))
took_now items c (Packet p n) q = q
took_now items c (Unequal x y) q = q
took_now items c Ended q = q

took_later : (c d e : Cursors) (n : Need) → NotBefore d e → Took c n d → Took c n e
took_later c d e Nothing n t = t
took_later c d e (Item r) n t = let a = n r in omega arith
took_later c d e (Packet p k) n t = t
took_later c d e (Unequal x y) n t = t
took_later c d e Ended n t = t

pub done_state : (l : Local) (m : State) (d : Deed) → (done l m d).state ≡ m
done_state l m Quiet = refl
done_state l m (Said p words) = refl
done_state l m (Heard p) = refl
done_state l m (Printed x) = refl

moved_cursors : (l : Local) (xs : List ℕ) → (moved_on l xs).state.cursors ≡ advanced l.state.cursors (need l.state)
moved_cursors l xs = ap (λ m. m.cursors) (done_state l (next l.state xs) (deed l.state))

-- h is where it was short, or has passed it
abbrev ShortOrPast : ℕ → Local → World → Type 0
ShortOrPast h l w = ((w h).state ≡ l.state) ⊎ Took l.state.cursors (need l.state) (w h).state.cursors

past_by : (s r : Supply) (h : ℕ) (l : Local) → IsShortAt (s h) l.state.cursors (need l.state) → (g : ℕ) (w u : World) → step r g w ≡ Some u → ShortOrPast h l w → ShortOrPast h l u
past_by s r h l short g w u e q =
    let a = stepped r g w u e in
    let new : Local = moved_on (w g) a.words in
    let taken : Cursors → Type 0 = λ c. Took l.state.cursors (need l.state) c in
    elim (same_or_not h g) [
      | inl same ↦
          let moved : (u h).state.cursors ≡ advanced (w h).state.cursors (need (w h).state) =
          ap (λ x. x.state.cursors) (new_of w u g new a.made h same) ∙ moved_cursors (w g) a.words ∙ ap (λ i. advanced (w i).state.cursors (need (w i).state)) (sym same) in
          inr (subst taken (sym moved)
          (elim q [
            | inl at ↦ subst (λ x. taken (advanced x.cursors (need x))) (sym at) (took_now (s h) l.state.cursors (need l.state) short)
            | inr past ↦ took_later l.state.cursors (w h).state.cursors (advanced (w h).state.cursors (need (w h).state)) (need l.state) (advances (w h).state.cursors (need (w h).state)) past
          ]))
      | inr other ↦ subst (λ x. (x.state ≡ l.state) ⊎ taken x.state.cursors) (sym (old_of w u g new a.made h other)) q
    ]

short_not_ended : (items : Source → ℕ → Option (List ℕ)) (c : Cursors) (n : Need) → n ≡ Ended → IsShortAt items c n → ⊥
short_not_ended items c n e q = subst (λ x. IsShortAt items c x) e q

-- each list has as many items as the hosts of v took
abbrev pub Enough : Supply → World → Type 0
Enough s v = (h : ℕ) (r : Source) (i : ℕ) → i < (v h).state.cursors r → s h r i ≢ None

enough_for : (s : Supply) (v : World) (h : ℕ) (c : Cursors) (n : Need) → Enough s v → IsShortAt (s h) c n → Took c n (v h).state.cursors → ⊥
enough_for s v h c Nothing f q t = q
enough_for s v h c (Item r) f q t = f h r (c r) t q
enough_for s v h c (Packet p n) f q t = q
enough_for s v h c (Unequal x y) f q t = q
enough_for s v h c Ended f q t = q

pub never_short : (s : Supply) (m : ℕ) (w v : World) → Steps (step (twin s)) m w v → AllEnded v → Enough s v → (h : ℕ) → IsShort s w h → ⊥
never_short s m w v t ended enough h short =
    let q = steps_keep (step (twin s)) (ShortOrPast h (w h)) (past_by s (twin s) h (w h) short) m w v t (inl refl) in
    elim q [
      | inl same ↦ short_not_ended (s h) (w h).state.cursors (need (w h).state) (ap need (sym same) ∙ ended_needs (v h) (ended h)) short
      | inr past ↦ enough_for s v h (w h).state.cursors (need (w h).state) enough short past
    ]

-- where all have ended, the end is reached
pub ended_whole : (s : Supply) (w : World) (a b : List ℕ) → AllEnded (run (twin s) a w) → AllEnded (run s b w)
    → (run s b w ≡ run (twin s) a w) × (effective s b w ≡ effective (twin s) a w)
ended_whole s w a b ended all =
    let r = remaining s w a b ended in
    let z = none_left (step (twin s)) r.0 (run s b w) (run (twin s) a w) (ended_stuck (twin s) (run s b w) all) r.2 in
    (z.1, omega (arith, r.1, z.0))

-- with enough, every schedule that leaves no host able to step ends where the one with endless lists ends
pub stuck_ended : (s : Supply) (w : World) (a b : List ℕ) → AllEnded (run (twin s) a w) → Enough s (run (twin s) a w) → IsStuck s (run s b w) → AllEnded (run s b w)
stuck_ended s w a b ended enough stuck =
    let r = remaining s w a b ended in
    let q = goes_on s r.0 (run s b w) (run (twin s) a w) r.2 ended in
    elim q [
      | inl all ↦ all
      | inr more ↦ elim more [
        | inl can ↦ absurd (let k = stuck can.0 in let f = can.1.1 in cc)
        | inr short ↦ absurd (never_short s r.0 (run s b w) (run (twin s) a w) r.2 ended enough short.0 short.1)
      ]
    ]
