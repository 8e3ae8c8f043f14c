-- What is sent goes to the end of its queue, and what is taken was at its front.
use Rattle.std.proofs.Common.{◌≡◌, ◌≢◌, ℕ, zero, suc, ◌<◌, ◌≤◌, ◌⊎◌, inl, inr, List, [], ◌∷◌, ◌++◌, Option, Some, None, length, drop, refl, sym, ap, ◌∙◌, subst, arith, length-append}
use Rattle.std.specs.Prelude.{slice_get}
use Rattle.vd_execution.specs.Registers.{put}
use Rattle.vd_execution.specs.Code.{Code, Finished, Then, Send, Recv, Choose, Repeat}
use Rattle.vd_execution.specs.Step.{State, Given, Deed, Quiet, Said, Heard, Printed, answer, of_length, need_of, deed_of, deed_of_print, word_printed, next, deed}
use Rattle.vd_execution.specs.World.{Local, World, Supply, front, given, done, step, run}
use Rattle.vd_execution.specs.Joint.{Joint, started}
use Rattle.vd_execution.specs.Queues.{AllStay, QueuesGo, IsOrderly}
use Rattle.vd_execution.proofs.Puts.{same_or_not, put_same, put_other}
use Rattle.vd_execution.proofs.Confluence.{run_steps, steps_keep}
use Rattle.vd_execution.proofs.Diamond.{stepped}

drop_append : {X : Type 0} (n : ℕ) (xs ys : List X) → n ≤ length xs → drop n (xs ++ ys) ≡ drop n xs ++ ys
drop_append zero xs ys h = refl
drop_append (suc n) [] ys h = absurd (omega arith)
drop_append (suc n) (x ∷ xs) ys h = drop_append n xs ys (omega arith)

drop_first : {X : Type 0} (n : ℕ) (xs : List X) (x : X) → slice_get xs n ≡ Some x → drop n xs ≡ x ∷ drop (suc n) xs
drop_first n [] x e = absurd cc
drop_first zero (y ∷ xs) x e = let z : y ≡ x = cc in ap (λ q. q ∷ xs) z
drop_first (suc n) (y ∷ xs) x e = drop_first n xs x e

get_within : {X : Type 0} (n : ℕ) (xs : List X) (x : X) → slice_get xs n ≡ Some x → n < length xs
get_within n [] x e = absurd cc
get_within zero (y ∷ xs) x e = omega arith
get_within (suc n) (y ∷ xs) x e = let h = get_within n xs x e in omega arith

-- the packets that a host has sent and taken, where its record alone changes
sent_of : (w : World) (h : ℕ) (k : Local) (a b : ℕ) → ((j : ℕ) → k.sent j ≡ (w h).sent j) → (put w h k a).sent b ≡ (w a).sent b
sent_of w h k a b e =
    elim (same_or_not a h) [
      | inl i ↦ ap (λ q. (put w h k q).sent b) i ∙ ap (λ l. l.sent b) (put_same w h k) ∙ e b ∙ ap (λ q. (w q).sent b) (sym i)
      | inr n ↦ ap (λ l. l.sent b) (put_other w h k a n)
    ]

taken_of : (w : World) (h : ℕ) (k : Local) (a b : ℕ) → ((j : ℕ) → k.taken j ≡ (w h).taken j) → (put w h k b).taken a ≡ (w b).taken a
taken_of w h k a b e =
    elim (same_or_not b h) [
      | inl i ↦ ap (λ q. (put w h k q).taken a) i ∙ ap (λ l. l.taken a) (put_same w h k) ∙ e a ∙ ap (λ q. (w q).taken a) (sym i)
      | inr n ↦ ap (λ l. l.taken a) (put_other w h k b n)
    ]

queue_eq : (n m : ℕ) (xs ys : List (List ℕ)) → n ≡ m → xs ≡ ys → drop n xs ≡ drop m ys
queue_eq n m xs ys e f = ap (λ i. drop i xs) e ∙ ap (drop m) f

all_stay : (w : World) (h : ℕ) (k : Local) → ((j : ℕ) → k.sent j ≡ (w h).sent j) → ((j : ℕ) → k.taken j ≡ (w h).taken j) → AllStay w (put w h k)
all_stay w h k e f a b = queue_eq _ _ _ _ (taken_of w h k a b f) (sent_of w h k a b e)

-- what is said: the packets from h to p have one more, no other's change, and nothing is taken
said_sent : (w : World) (h p : ℕ) (k : Local) (words : List ℕ) → k.sent ≡ put (w h).sent p ((w h).sent p ++ words ∷ []) → (put w h k h).sent p ≡ (w h).sent p ++ words ∷ []
said_sent w h p k words e = ap (λ l. l.sent p) (put_same w h k) ∙ ap (λ f. f p) e ∙ put_same (w h).sent p ((w h).sent p ++ words ∷ [])

said_others : (w : World) (h p : ℕ) (k : Local) (words : List ℕ) → k.sent ≡ put (w h).sent p ((w h).sent p ++ words ∷ []) → (a b : ℕ) → (a ≢ h) ⊎ (b ≢ p) → (put w h k a).sent b ≡ (w a).sent b
said_others w h p k words e a b (inl n) = ap (λ l. l.sent b) (put_other w h k a n)
said_others w h p k words e a b (inr n) =
    elim (same_or_not a h) [
      | inl i ↦ ap (λ q. (put w h k q).sent b) i ∙ ap (λ l. l.sent b) (put_same w h k) ∙ ap (λ f. f b) e ∙ put_other (w h).sent p ((w h).sent p ++ words ∷ []) b n ∙ ap (λ q. (w q).sent b) (sym i)
      | inr m ↦ ap (λ l. l.sent b) (put_other w h k a m)
    ]

said_goes : (w : World) (h p : ℕ) (m : State) (words : List ℕ) → IsOrderly w → QueuesGo w (put w h (done (w h) m (Said p words))) h (Said p words)
said_goes w h p m words orderly =
    let k : Local = done (w h) m (Said p words) in (
      queue_eq _ _ _ _ (taken_of w h k h p (λ j. refl)) (said_sent w h p k words refl) ∙ drop_append ((w p).taken h) ((w h).sent p) (words ∷ []) (orderly h p),
      λ a b other. queue_eq _ _ _ _ (taken_of w h k a b (λ j. refl)) (said_others w h p k words refl a b other),
    )

-- what is heard: h has taken one more from p, no other has, and nothing is sent
heard_taken : (w : World) (h p : ℕ) (k : Local) → k.taken ≡ put (w h).taken p (suc ((w h).taken p)) → (put w h k h).taken p ≡ suc ((w h).taken p)
heard_taken w h p k e = ap (λ l. l.taken p) (put_same w h k) ∙ ap (λ f. f p) e ∙ put_same (w h).taken p (suc ((w h).taken p))

heard_others : (w : World) (h p : ℕ) (k : Local) → k.taken ≡ put (w h).taken p (suc ((w h).taken p)) → (a b : ℕ) → (a ≢ p) ⊎ (b ≢ h) → (put w h k b).taken a ≡ (w b).taken a
heard_others w h p k e a b (inr n) = ap (λ l. l.taken a) (put_other w h k b n)
heard_others w h p k e a b (inl n) =
    elim (same_or_not b h) [
      | inl i ↦ ap (λ q. (put w h k q).taken a) i ∙ ap (λ l. l.taken a) (put_same w h k) ∙ ap (λ f. f a) e ∙ put_other (w h).taken p (suc ((w h).taken p)) a n ∙ ap (λ q. (w q).taken a) (sym i)
      | inr m ↦ ap (λ l. l.taken a) (put_other w h k b m)
    ]

heard_goes : (w : World) (h p : ℕ) (m : State) (words : List ℕ) → front w h (w h) p ≡ Some words → QueuesGo w (put w h (done (w h) m (Heard p))) h (Heard p)
heard_goes w h p m words at_front =
    let k : Local = done (w h) m (Heard p) in (
      (
        words,
        drop_first ((w h).taken p) ((w p).sent h) words at_front
            ∙ ap (λ l. words ∷ l) (sym (queue_eq _ _ _ _ (heard_taken w h p k refl) (sent_of w h k p h (λ j. refl)))),
      ),
      λ a b other. queue_eq _ _ _ _ (heard_others w h p k refl a b other) (sent_of w h k a b (λ j. refl)),
    )

-- what is heard was asked for
of_length_some : (n : ℕ) (o : Option (List ℕ)) (xs : List ℕ) → of_length n o ≡ Some xs → (ys : List ℕ) × (o ≡ Some ys)
of_length_some n None xs e = absurd cc
of_length_some n (Some ys) xs e = (ys, refl)

abbrev HasFront : (ℕ → Option (List ℕ)) → Deed → Type 0
HasFront front Quiet = Unit {0}
HasFront front (Said p words) = Unit {0}
HasFront front (Heard p) = (ys : List ℕ) × (front p ≡ Some ys)
HasFront front (Printed x) = Unit {0}

print_front : (front : ℕ → Option (List ℕ)) (o : Option ℕ) → HasFront front (deed_of_print o)
print_front front None = tt
print_front front (Some x) = tt

has_front : (g : Given) (m : State) (c : Code) (xs : List ℕ) → answer g m.cursors (need_of m.registers c) ≡ Some xs → HasFront g.front (deed_of m.registers c)
has_front g m Finished xs e = tt
has_front g m (Then a r) xs e = print_front g.front (word_printed m.registers a)
has_front g m (Send p rs r) xs e = tt
has_front g m (Recv p rs r) xs e = of_length_some (length rs) (g.front p) xs e
has_front g m (Choose x first other r) xs e = tt
has_front g m (Repeat x turn count body r) xs e = tt

goes : (w : World) (h : ℕ) (m : State) (d : Deed) → IsOrderly w → HasFront (front w h (w h)) d → QueuesGo w (put w h (done (w h) m d)) h d
goes w h m Quiet orderly f = all_stay w h (done (w h) m Quiet) (λ j. refl) (λ j. refl)
goes w h m (Said p words) orderly f = said_goes w h p m words orderly
goes w h m (Heard p) orderly f = heard_goes w h p m f.0 f.1
goes w h m (Printed x) orderly f = all_stay w h (done (w h) m (Printed x)) (λ j. refl) (λ j. refl)

-- no host takes more than was sent
orderly_after : (w : World) (h : ℕ) (m : State) (d : Deed) → HasFront (front w h (w h)) d → IsOrderly w → IsOrderly (put w h (done (w h) m d))
orderly_after w h m Quiet f o a b =
    let k : Local = done (w h) m Quiet in
    let x = taken_of w h k a b (λ j. refl) in let y = ap length (sent_of w h k a b (λ j. refl)) in let z = o a b in omega (arith, x, y, z)
orderly_after w h m (Printed v) f o a b =
    let k : Local = done (w h) m (Printed v) in
    let x = taken_of w h k a b (λ j. refl) in let y = ap length (sent_of w h k a b (λ j. refl)) in let z = o a b in omega (arith, x, y, z)
orderly_after w h m (Said p words) f o a b =
    let k : Local = done (w h) m (Said p words) in
    let x = taken_of w h k a b (λ j. refl) in let z = o a b in
    let there : (a ≡ h) → (b ≡ p) → (put w h k b).taken a ≤ length ((put w h k a).sent b) = λ i e.
    let s = ap length (ap (λ q. (put w h k q).sent b) i ∙ ap (λ q. (put w h k h).sent q) e ∙ said_sent w h p k words refl) in
    let u = length-append ((w h).sent p) (words ∷ []) in
    let v = ap (λ q. length ((w q).sent b)) i in let v' = ap (λ q. length ((w h).sent q)) e in omega (arith, x, z, s, u, v, v') in
    let elsewhere : (a ≢ h) ⊎ (b ≢ p) → (put w h k b).taken a ≤ length ((put w h k a).sent b) = λ other.
    let y = ap length (said_others w h p k words refl a b other) in omega (arith, x, y, z) in
    elim (same_or_not a h) [
      | inl i ↦ elim (same_or_not b p) [ inl e ↦ there i e | inr n ↦ elsewhere (inr n) ]
      | inr n ↦ elsewhere (inl n)
    ]
orderly_after w h m (Heard p) f o a b =
    let k : Local = done (w h) m (Heard p) in
    let y = ap length (sent_of w h k a b (λ j. refl)) in let z = o a b in
    let there : (a ≡ p) → (b ≡ h) → (put w h k b).taken a ≤ length ((put w h k a).sent b) = λ i e.
    let t = ap (λ q. (put w h k q).taken a) e ∙ ap (λ q. (put w h k h).taken q) i ∙ heard_taken w h p k refl in
    let u = get_within ((w h).taken p) ((w p).sent h) f.0 f.1 in
    let v = ap (λ q. length ((w q).sent b)) i in let v' = ap (λ q. length ((w p).sent q)) e in omega (arith, y, t, u, v, v') in
    let elsewhere : (a ≢ p) ⊎ (b ≢ h) → (put w h k b).taken a ≤ length ((put w h k a).sent b) = λ other.
    let x = heard_others w h p k refl a b other in omega (arith, x, y, z) in
    elim (same_or_not a p) [
      | inl i ↦ elim (same_or_not b h) [ inl e ↦ there i e | inr n ↦ elsewhere (inr n) ]
      | inr n ↦ elsewhere (inl n)
    ]

orderly_by : (s : Supply) (h : ℕ) (w u : World) → step s h w ≡ Some u → IsOrderly w → IsOrderly u
orderly_by s h w u e o =
    let a = stepped s h w u e in
    subst IsOrderly (sym a.made)
    (orderly_after w h (next (w h).state a.words) (deed (w h).state) (has_front (given s w h (w h)) (w h).state (w h).state.pending a.words a.able) o)

orderly_start : (j : Joint) → IsOrderly (started j)
orderly_start j a b = omega arith

pub queues_go : (s : Supply) (j : Joint) (b : List ℕ) (h : ℕ) (u : World) → step s h (run s b (started j)) ≡ Some u → QueuesGo (run s b (started j)) u h (deed (run s b (started j) h).state)
queues_go s j b h u e =
    let w : World = run s b (started j) in
    let o : IsOrderly w = steps_keep (step s) IsOrderly (orderly_by s) _ (started j) w (run_steps (step s) b (started j)) (orderly_start j) in
    let a = stepped s h w u e in
    subst (λ x. QueuesGo w x h (deed (w h).state)) (sym a.made)
    (goes w h (next (w h).state a.words) (deed (w h).state) o (has_front (given s w h (w h)) (w h).state (w h).state.pending a.words a.able))
