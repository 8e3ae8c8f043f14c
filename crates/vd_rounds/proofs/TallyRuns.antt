-- What a host has told and still tells, along its steps.
use Rattle.std.proofs.Common.{◌≡◌, ◌≢◌, ◌⊎◌, inl, inr, ℕ, zero, suc, ◌+◌, ◌-◌, ◌*◌, ◌<◌, ◌≤◌, nat_eq, Bool, true, false, cond, if◌then◌else◌, List, [], ◌∷◌, ◌++◌, length, length-append, min, max, Option, Some, None, refl, sym, ap, ◌∙◌, subst, arith}
use Rattle.std.specs.Prelude.{nat_lt}
use Rattle.std.proofs.lemmas.Bool.Decides.{eqb_tells}
use Rattle.std.proofs.lemmas.List.{length-map}
use Rattle.std.proofs.lemmas.Bool.{ltb-true, ltb-false}
use Rattle.vd_base.specs.declared.ids.HostId.{HostId}
use Rattle.vd_execution.specs.declared.instructions.Reg.{Reg}
use Rattle.vd_execution.specs.Registers.{Registers, put}
use Rattle.vd_execution.specs.Code.{Code, Finished, Then, Send, Recv, Choose, Repeat, followed_by}
use Rattle.vd_execution.specs.Step.{State, Quiet, Said, Heard, Printed, answer, deed_of, deed_of_print, need, next, pending_after, word_printed, words_in}
use Rattle.vd_execution.specs.Schedule.{after}
use Rattle.vd_execution.specs.World.{Local, World, Supply, done, given, moved_on, run, step, with_answer, words_of}
use Rattle.vd_execution.specs.Joint.{Joint, code_of, started}
use Rattle.vd_execution.specs.Histories.{gone}
use Rattle.vd_execution.specs.Claims.{reached}
use Rattle.vd_execution.proofs.Front.{put_other, put_same, same_or_not}
use Rattle.vd_rounds.specs.declared.tallies.Bound.{Bound}
use Rattle.vd_rounds.specs.declared.tallies.Bound.TheVariants.{Least, Most}
use Rattle.vd_rounds.specs.declared.tallies.Measure.{Measure}
use Rattle.vd_rounds.specs.declared.tallies.Measure.TheVariants.{Packets, Words}
use Rattle.vd_rounds.specs.declared.tallies.Tally.{Tally}
use Rattle.vd_rounds.specs.Tallies.{chosen, size_by, size_to, told}
use Rattle.vd_rounds.specs.TallyLaws.{HostsTellWithin, SchedulesTellWithin, TellsWithin, alone, least_of, most_of, size_of}

-- ---- bounds

-- what there is in all does not rise where the most is counted, and does not fall where the least is
abbrev pub Holds : Bound → ℕ → ℕ → Type 0
Holds Least x y = x ≤ y
Holds Most x y = y ≤ x

holds_same : (b : Bound) (x y : ℕ) → x ≡ y → Holds b x y
holds_same Least x y e = omega (arith, e)
holds_same Most x y e = omega (arith, e)

holds_on : (b : Bound) (x y z : ℕ) → Holds b x y → Holds b y z → Holds b x z
holds_on Least x y z p q = omega (arith, p, q)
holds_on Most x y z p q = omega (arith, p, q)

holds_chosen : (b : Bound) (taken : Bool) (a x y c n : ℕ) → n ≡ (if taken then y else x) + c → Holds b (a + (chosen b x y + c)) (a + n)
holds_chosen Least true a x y c n e = omega (arith, e)
holds_chosen Least false a x y c n e = omega (arith, e)
holds_chosen Most true a x y c n e = omega (arith, e)
holds_chosen Most false a x y c n e = omega (arith, e)

-- ---- what is still told

both : (a n d x : ℕ) → n ≡ x + d → a + n ≡ a + x + d
both a n d x e = omega (arith, e)

told_both : (t : Tally) (c d : Code) → told t (followed_by c d) ≡ told t c + told t d
told_both t Finished d = omega arith
told_both t (Then a c) d = told_both t c d
told_both t (Send p rs c) d = both (size_to t p rs) (told t (followed_by c d)) (told t d) (told t c) (told_both t c d)
told_both t (Recv p rs c) d = told_both t c d
told_both t (Choose g x y c) d = both (chosen t.bound (told t x) (told t y)) (told t (followed_by c d)) (told t d) (told t c) (told_both t c d)
told_both t (Repeat q turn n body c) d = both ((n - turn) * told t body) (told t (followed_by c d)) (told t d) (told t c) (told_both t c d)

one_turn : (n m x y : ℕ) → n ≡ suc m → n * x + y ≡ x + (m * x + y)
one_turn n m x y e = subst (λ z. z * x + y ≡ x + (m * x + y)) (sym e) (omega arith)

no_turn : (n x y : ℕ) → n ≡ 0 → n * x + y ≡ y
no_turn n x y e = subst (λ z. z * x + y ≡ y) (sym e) (omega arith)

turn_told : (t : Tally) (b : Bool) (q turn n : ℕ) (body c : Code) → (b ≡ true → turn < n) → (b ≡ false → n ≤ turn)
    → told t (Repeat q turn n body c) ≡ told t (cond b (followed_by body (Repeat q (suc turn) n body c)) c)
turn_told t true q turn n body c below past =
    let lt = below refl in
    let e : n - turn ≡ suc (n - suc turn) = omega (arith, lt) in
    one_turn (n - turn) (n - suc turn) (told t body) (told t c) e ∙ sym (told_both t body (Repeat q (suc turn) n body c))
turn_told t false q turn n body c below past = let le = past refl in no_turn (n - turn) (told t body) (told t c) (omega (arith, le))

block_told : (t : Tally) (b : Bool) (first other c : Code) → told t (followed_by (cond b other first) c) ≡ (if b then told t other else told t first) + told t c
block_told t true first other c = told_both t other c
block_told t false first other c = told_both t first c

-- ---- what was told

words_more : (packets : List (List ℕ)) (words : List ℕ) → length (words_of (packets ++ words ∷ [])) ≡ length (words_of packets) + length words
words_more [] words = length-append words [] ∙ omega arith
words_more (xs ∷ packets) words =
    let i = words_more packets words in
    length-append xs (words_of (packets ++ words ∷ [])) ∙ ap (λ n. length xs + n) i ∙ omega arith ∙ ap (λ n. n + length words) (sym (length-append xs (words_of packets)))

packet_more : (m : Measure) (packets : List (List ℕ)) (f : Registers) (rs : List Reg) → size_of m (packets ++ words_in f rs ∷ []) ≡ size_of m packets + size_by m rs
packet_more Packets packets f rs = length-append packets (words_in f rs ∷ [])
packet_more Words packets f rs = words_more packets (words_in f rs) ∙ ap (λ n. length (words_of packets) + n) (length-map rs (λ (r : Reg). f r.0))

-- what a host has told, and what it still tells
abbrev pub in_all : Tally → Local → ℕ
in_all t l = size_of t.measure (l.sent t.peer.0) + told t l.state.pending

abbrev then_told : Tally → Local → ℕ → ℕ
then_told t l n = size_of t.measure (l.sent t.peer.0) + n

print_all : (t : Tally) (l : Local) (m : State) (o : Option ℕ) → in_all t (done l m (deed_of_print o)) ≡ then_told t l (told t m.pending)
print_all t l m None = refl
print_all t l m (Some x) = refl

to_peer : (t : Tally) (l : Local) (f : Registers) (p : ℕ) (rs : List Reg) (n : ℕ)
    → then_told t l (size_to t p rs + n) ≡ size_of t.measure (put l.sent p (l.sent p ++ words_in f rs ∷ []) t.peer.0) + n
to_peer t l f p rs n =
    elim (eqb_tells t.peer.0 p) [
      | inl same ↦
          let now = put l.sent p (l.sent p ++ words_in f rs ∷ []) in
          let there : now t.peer.0 ≡ l.sent t.peer.0 ++ words_in f rs ∷ [] = ap now same.1 ∙ put_same l.sent p (l.sent p ++ words_in f rs ∷ []) ∙ ap (λ q. l.sent q ++ words_in f rs ∷ []) (sym same.1) in
          let more = ap (size_of t.measure) there ∙ packet_more t.measure (l.sent t.peer.0) f rs in
          let size : size_to t p rs ≡ size_by t.measure rs = ap (λ b. if b then size_by t.measure rs else 0) same.0 in
          omega (arith, more, size)
      | inr other ↦
          let now = put l.sent p (l.sent p ++ words_in f rs ∷ []) in
          let there = ap (size_of t.measure) (put_other l.sent p (l.sent p ++ words_in f rs ∷ []) t.peer.0 other.1) in
          let size : size_to t p rs ≡ 0 = ap (λ b. if b then size_by t.measure rs else 0) other.0 in
          omega (arith, there, size)
    ]

code_moved : (t : Tally) (l : Local) (f : Registers) (code : Code) (m : State) → m.pending ≡ pending_after f code
    → Holds t.bound (then_told t l (told t code)) (in_all t (done l m (deed_of f code)))
code_moved t l f Finished m e = holds_same t.bound _ _ (ap (λ c. then_told t l (told t c)) (sym e))
code_moved t l f (Then a c) m e = holds_same t.bound _ _ (ap (λ d. then_told t l (told t d)) (sym e) ∙ sym (print_all t l m (word_printed f a)))
code_moved t l f (Send p rs c) m e =
    holds_same t.bound _ _ (to_peer t l f p rs (told t c) ∙ ap (λ d. size_of t.measure (put l.sent p (l.sent p ++ words_in f rs ∷ []) t.peer.0) + told t d) (sym e))
code_moved t l f (Recv p rs c) m e = holds_same t.bound _ _ (ap (λ d. then_told t l (told t d)) (sym e))
code_moved t l f (Choose g first other c) m e =
    holds_chosen t.bound (nat_eq (f g) 0) (size_of t.measure (l.sent t.peer.0)) (told t first) (told t other) (told t c) (told t m.pending)
    (ap (told t) e ∙ block_told t (nat_eq (f g) 0) first other c)
code_moved t l f (Repeat q turn n body c) m e =
    holds_same t.bound _ _ (ap (then_told t l) (turn_told t (nat_lt turn n) q turn n body c (ltb-true turn n) (ltb-false turn n)) ∙ ap (λ d. then_told t l (told t d)) (sym e))

moved : (t : Tally) (l : Local) (words : List ℕ) → Holds t.bound (in_all t l) (in_all t (moved_on l words))
moved t l words = code_moved t l l.state.registers l.state.pending (next l.state words) refl

-- ---- a host alone

gone_all : (t : Tally) (l : Local) (words : List (List ℕ)) → Holds t.bound (in_all t l) (in_all t (gone l words))
gone_all t l [] = holds_same t.bound _ _ refl
gone_all t l (xs ∷ words) = holds_on t.bound (in_all t l) (in_all t (moved_on l xs)) (in_all t (gone (moved_on l xs) words)) (moved t l xs) (gone_all t (moved_on l xs) words)

nothing_yet : (m : Measure) → size_of m [] ≡ 0
nothing_yet Packets = refl
nothing_yet Words = refl

most_told : (a n z c : ℕ) → z ≡ 0 → a + n ≤ z + c → a ≤ c
most_told a n z c e le = omega (arith, e, le)

least_told : (a n z c : ℕ) → z ≡ 0 → n ≡ 0 → z + c ≤ a + n → c ≤ a
least_told a n z c e none le = omega (arith, e, none, le)

within : (code : Code) (l : Local) → ((t : Tally) → Holds t.bound (size_of t.measure [] + told t code) (in_all t l)) → TellsWithin code l
within code l all = record {
  most = λ measure peer.
      let t = most_of measure peer in
      most_told (size_of measure (l.sent peer.0)) (told t l.state.pending) (size_of measure []) (told t code) (nothing_yet measure) (all t);
  least = λ measure peer ended.
      let t = least_of measure peer in
      least_told (size_of measure (l.sent peer.0)) (told t l.state.pending) (size_of measure []) (told t code) (nothing_yet measure) (ap (told t) ended) (all t);
}

pub hosts_tell_within : HostsTellWithin
hosts_tell_within code words = within code (gone (alone code) words) (λ t. gone_all t (alone code) words)

-- ---- all hosts, under a schedule

answered_all : (t : Tally) (n : ℕ) (w : World) (g h : ℕ) (o : Option (List ℕ)) → Holds t.bound n (in_all t (w h)) → Holds t.bound n (in_all t (after (with_answer w g (w g) o) w h))
answered_all t n w g h None p = p
answered_all t n w g h (Some xs) p =
    elim (same_or_not h g) [
      | inl same ↦
          let there : put w g (moved_on (w g) xs) h ≡ moved_on (w h) xs = ap (put w g (moved_on (w g) xs)) same ∙ put_same w g (moved_on (w g) xs) ∙ ap (λ k. moved_on (w k) xs) (sym same) in
          subst (λ l. Holds t.bound n (in_all t l)) (sym there) (holds_on t.bound n (in_all t (w h)) (in_all t (moved_on (w h) xs)) p (moved t (w h) xs))
      | inr other ↦ subst (λ l. Holds t.bound n (in_all t l)) (sym (put_other w g (moved_on (w g) xs) h other)) p
    ]

run_all : (t : Tally) (n : ℕ) (s : Supply) (turns : List ℕ) (w : World) (h : ℕ) → Holds t.bound n (in_all t (w h)) → Holds t.bound n (in_all t (run s turns w h))
run_all t n s [] w h p = p
run_all t n s (g ∷ turns) w h p =
    run_all t n s turns (after (step s g w) w) h (answered_all t n w g h (answer (given s w g (w g)) (w g).state.cursors (need (w g).state)) p)

pub schedules_tell_within : SchedulesTellWithin
schedules_tell_within s j turns h =
    within (code_of h j) (reached s j turns h) (λ t. run_all t (size_of t.measure [] + told t (code_of h j)) s turns (started j) h (holds_same t.bound _ _ refl))
