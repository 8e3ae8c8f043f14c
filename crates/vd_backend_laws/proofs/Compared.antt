-- What fails where copies or digests differ, and what a nonce is.
use Rattle.std.proofs.Common.{◌≡◌, ◌≢◌, ℕ, zero, suc, ◌+◌, ◌<◌, nat_eq, Bool, true, false, if◌then◌else◌, ◌||◌, List, [], ◌∷◌, ◌++◌, length, map, slice_index, refl, sym, ap, ap₂, subst, ◌∙◌, arith, add-zero, rules}
use Rattle.vd_base.specs.declared.ids.HostId.{HostId}
use Rattle.vd_base.specs.Holders.{is_among}
use Rattle.vd_execution.specs.declared.instructions.Reg.{Reg}
use Rattle.vd_execution.specs.declared.instructions.Action.TheVariants as action
use Rattle.vd_execution.specs.declared.instructions.Act.{Act}
use Rattle.vd_execution.specs.Registers.{put, words_from, digest_of, nth}
use Rattle.vd_execution.specs.Step.{Nothing, Unequal, Cursors, OwnWords, advanced, words_in}
use Rattle.vd_execution.specs.World.{Tape}
use Rattle.vd_execution.specs.Joint.{Host, Hosts, acted, after_do, after_msg}
use Rattle.vd_execution.specs.Acts.{run_act, run_acts, ActsAgree}
use Rattle.vd_execution.specs.Gadgets.{Gadget, Alone, acts_of_gadgets}
use Rattle.vd_execution.specs.Text.{register}
use Rattle.vd_execution.proofs.Front.{put_itself, put_same}
use Rattle.vd_duet.specs.Builder.{next_at, taken}
use Rattle.vd_duet.specs.Calls.{Places, hosts_of, Made}
use Rattle.vd_duet.specs.Laws.{Copies, words_at}
use Rattle.vd_duet.proofs.Front.{taken_known, taken_there, gadgets_append}
use Rattle.vd_clear.specs.Copies.{adopted, told, compared, first_register}
use Rattle.vd_backend_sharing.proofs.Front.{Adds, do_adds_one, adds_on, msg_cursors}
use Rattle.vd_commit.specs.Commit.{eight, own_each, same_each}
use Rattle.vd_commit.proofs.Front.{IsRow, eight_row, words_alike, words_are, said_row, digest_count, hash_adds, tell_adds}
use Rattle.vd_backend_laws.specs.Compared.{after, CopiesAreCompared, own_words_from, NoncesAreDrawn, DigestsAreCompared}

-- ---- a comparison changes nothing

still_there : (b : Bool) (x y : ℕ) (c : Cursors) → advanced c (if b then Nothing else Unequal x y) ≡ c
still_there true x y c = refl
still_there false x y c = refl

same_stays : (t : Tape) (h : ℕ) (x y : Reg) (w : Hosts) → after_do t h (action.Same x y) w ≡ w
same_stays t h x y w =
    ap (λ (s : Host). put w h s) (ap (λ (c : Cursors). let s : Host = record (w h) { cursors = c } in s)
    (still_there (nat_eq ((w h).registers x.0) ((w h).registers y.0)) ((w h).registers x.0) ((w h).registers y.0) (w h).cursors))
    ∙ put_itself w h

abbrev others : HostId → Reg → List Reg → List Gadget
others to r rs = map (λ s. Alone to (action.Same r s)) rs

compared_runs : (t : Tape) (to : HostId) (r : Reg) (w : Hosts) (rs : List Reg) → run_acts t (acts_of_gadgets (others to r rs)) w ≡ w
compared_runs t to r w [] = refl
compared_runs t to r w (s ∷ rs) = ap (run_acts t (acts_of_gadgets (others to r rs))) (same_stays t to.0 r s w) ∙ compared_runs t to r w rs

run_append : (t : Tape) (xs ys : List Act) (w : Hosts) → run_acts t (xs ++ ys) w ≡ run_acts t ys (run_acts t xs w)
run_append t [] ys w = refl
run_append t (x ∷ xs) ys w = run_append t xs ys (run_act t x w)

agree_later : (t : Tape) (xs ys : List Act) (w : Hosts) → ActsAgree t (xs ++ ys) w → ActsAgree t ys (run_acts t xs w)
agree_later t [] ys w a = a
agree_later t (x ∷ xs) ys w a = agree_later t xs ys (run_act t x w) a.1

neither : (b c : Bool) → (b || c) ≡ false → (b ≡ false) × (c ≡ false)
neither true c e = cc
neither false c e = (refl, e)

differ : (a b : ℕ) → nat_eq a b ≡ false → b ≢ a
differ a b e f = grind (arith, rules)

-- ---- copies

words_kept : (w u : Hosts) (to : HostId) (x : Places) → is_among (hosts_of x) to.0 ≡ false → ((k r : ℕ) → k ≢ to.0 → (u k).registers r ≡ (w k).registers r) → words_at u x ≡ words_at w x
words_kept w u to [] out kept = refl
words_kept w u to (q ∷ x) out kept =
    let both = neither (nat_eq to.0 q.0.0) (is_among (hosts_of x) to.0) out in
    ap₂ (λ (v : ℕ) (l : List ℕ). v ∷ l) (kept q.0.0 q.1.0 (differ to.0 q.0.0 both.0)) (words_kept w u to x both.1 kept)

counted : (w : Hosts) (x : Places) → length (words_at w x) ≡ length x
counted w [] = refl
counted w (q ∷ x) = ap suc (counted w x)

-- what is told stands in registers that follow each other
module _ (t : Tape) (to : HostId) where
  told_adds : (x : Places) (next : List ℕ) (w : Hosts) → to.0 < length next → is_among (hosts_of x) to.0 ≡ false
      → Adds to.0 (slice_index next to.0) (words_at w x) w (run_acts t (acts_of_gadgets (told x to next).gadgets) w)
  told_adds [] next w known out = record { there = λ i low. absurd (omega (arith, low)); below = λ r low. refl; others = λ k r d. refl; printed = λ k. refl; inputs = λ k. refl }
  told_adds (q ∷ x) next w known out =
      let both = neither (nat_eq to.0 q.0.0) (is_among (hosts_of x) to.0) out in
      let m : ℕ = slice_index next to.0 in
      let v : ℕ = (w q.0.0).registers q.1.0 in
      let u : Hosts = after_msg q.0.0 (q.1 ∷ []) to.0 (next_at next to ∷ []) w in
      let one : Adds to.0 m (v ∷ []) w u = tell_adds q.0.0 to.0 m (q.1 ∷ []) (next_at next to ∷ []) w (differ to.0 q.0.0 both.0) (refl, tt) refl in
      let z : Hosts = run_acts t (acts_of_gadgets (told x to (taken to 1 next)).gadgets) u in
      let more : Adds to.0 (slice_index (taken to 1 next) to.0) (words_at u x) u z =
      told_adds x (taken to 1 next) u (subst (λ n. to.0 < n) (sym (taken_known to 1 next)) known) both.1 in
      let P : ℕ → Type 0 = λ n. Adds to.0 n (words_at u x) u z in
      let Q : List ℕ → Type 0 = λ l. Adds to.0 (m + 1) l u z in
      adds_on to.0 m (v ∷ []) (words_at w x) w u z one (subst Q (words_kept w u to x both.1 one.others) (subst P (taken_there to 1 next known) more))

  told_row : (x : Places) (next : List ℕ) → to.0 < length next → IsRow (slice_index next to.0) (told x to next).given
  told_row [] next known = tt
  told_row (q ∷ x) next known =
      let rest : List Reg = (told x to (taken to 1 next)).given in
      (refl, subst (λ n. IsRow n rest) (taken_there to 1 next known) (told_row x (taken to 1 next) (subst (λ n. to.0 < n) (sym (taken_known to 1 next)) known)))

  told_count : (x : Places) (next : List ℕ) → length (told x to next).given ≡ length x
  told_count [] next = refl
  told_count (q ∷ x) next = ap suc (told_count x (taken to 1 next))

  -- each is compared with the first
  compares : (r : Reg) (w : Hosts) (rs : List Reg) (s : ℕ) → IsRow s rs → ActsAgree t (acts_of_gadgets (others to r rs)) w → (i : ℕ) → i < length rs
      → (w to.0).registers r.0 ≡ (w to.0).registers (s + i)
  compares r w [] s row a i low = absurd (omega (arith, low))
  compares r w (x ∷ rs) s row a zero low = a.0 ∙ ap (w to.0).registers (row.0 ∙ sym (add-zero s))
  compares r w (x ∷ rs) s row a (suc i) low =
      let later : ActsAgree t (acts_of_gadgets (others to r rs)) w = subst (ActsAgree t (acts_of_gadgets (others to r rs))) (same_stays t to.0 r x w) a.1 in
      compares r w rs (s + 1) row.1 later i (omega (arith, low)) ∙ ap (w to.0).registers (omega arith)

  copies_of : (w : Hosts) (x : Places) (v : ℕ) → ((i : ℕ) → i < length x → nth (words_at w x) i ≡ v) → Copies w x v
  copies_of w [] v e = tt
  copies_of w (q ∷ x) v e = (e 0 (omega arith), copies_of w x v (λ i low. e (suc i) (omega (arith, low))))

  abbrev told_and_compared : Places → List ℕ → Made Reg
  told_and_compared x next = record {
    given = first_register (told x to next).given;
    gadgets = (told x to next).gadgets ++ compared to (told x to next).given;
    next = (told x to next).next;
  }

  all_compared : (x : Places) (next : List ℕ) (w : Hosts) → to.0 < length next → is_among (hosts_of x) to.0 ≡ false
      → ActsAgree t (acts_of_gadgets (told_and_compared x next).gadgets) w → Copies w x ((after t (told_and_compared x next).gadgets w to.0).registers (told_and_compared x next).given.0)
  all_compared [] next w known out a = tt
  all_compared (q ∷ x) next w known out a =
      let m : ℕ = slice_index next to.0 in
      let first : List Gadget = (told (q ∷ x) to next).gadgets in
      let rest : List Reg = (told x to (taken to 1 next)).given in
      let r : Reg = next_at next to in
      let u : Hosts = run_acts t (acts_of_gadgets first) w in
      let adds : Adds to.0 m (words_at w (q ∷ x)) w u = told_adds (q ∷ x) next w known out in
      let agree : ActsAgree t (acts_of_gadgets (others to r rest)) u =
      agree_later t (acts_of_gadgets first) (acts_of_gadgets (others to r rest)) w (subst (λ l. ActsAgree t l w) (gadgets_append first (others to r rest)) a) in
      let ends : run_acts t (acts_of_gadgets (first ++ others to r rest)) w ≡ u =
      ap (λ (l : List Act). run_acts t l w) (gadgets_append first (others to r rest)) ∙ run_append t (acts_of_gadgets first) (acts_of_gadgets (others to r rest)) w ∙ compared_runs t to r u rest in
      let row : IsRow (m + 1) rest = (told_row (q ∷ x) next known).1 in
      let v : ℕ = (u to.0).registers m in
      let each : (i : ℕ) → i < length (q ∷ x) → nth (words_at w (q ∷ x)) i ≡ v = λ i low.
      sym (adds.there i (let c = counted w (q ∷ x) in omega (arith, c, low))) ∙ is_first u r.0 rest (compares r u rest (m + 1) row agree) i (let c = told_count x (taken to 1 next) in omega (arith, c, low)) in
      subst (λ (z : Hosts). Copies w (q ∷ x) ((z to.0).registers m)) (sym ends) (copies_of w (q ∷ x) v each)
    where
      is_first : (u : Hosts) (m : ℕ) (rest : List Reg) → ((i : ℕ) → i < length rest → (u to.0).registers m ≡ (u to.0).registers (m + 1 + i))
          → (i : ℕ) → i < suc (length rest) → (u to.0).registers (m + i) ≡ (u to.0).registers m
      is_first u m rest same zero low = ap (u to.0).registers (add-zero m)
      is_first u m rest same (suc i) low = ap (u to.0).registers (omega arith) ∙ sym (same i (omega (arith, low)))

pub copies_are_compared : CopiesAreCompared
copies_are_compared x to t next w known out =
    let P : Bool → Type 0 = λ b. let made : Made Reg = if b then adopted x to next else told_and_compared t to x next in
    ActsAgree t (acts_of_gadgets made.gadgets) w → Copies w x ((after t made.gadgets w to.0).registers made.given.0) in
    subst P (sym out) (all_compared t to x next w known out)

-- ---- nonces

module _ (t : Tape) (p : HostId) where
  drawn : (xs : List Reg) (r : ℕ) → IsRow r xs → (u : Hosts)
      → Adds p.0 r (own_words_from t p.0 ((u p.0).cursors OwnWords) (length xs)) u (run_acts t (acts_of_gadgets (own_each p xs)) u)
      × ((run_acts t (acts_of_gadgets (own_each p xs)) u p.0).cursors OwnWords ≡ (u p.0).cursors OwnWords + length xs)
  drawn [] r row u =
      (record { there = λ i low. absurd (omega (arith, low)); below = λ q low. refl; others = λ k q d. refl; printed = λ k. refl; inputs = λ k. refl }, sym (add-zero ((u p.0).cursors OwnWords)))
  drawn (x ∷ xs) r row u =
      let c : ℕ = (u p.0).cursors OwnWords in
      let v : ℕ = nth (t p.0 OwnWords c) 0 in
      let u1 : Hosts = after_do t p.0 (action.Own x) u in
      let z : Hosts = run_acts t (acts_of_gadgets (own_each p xs)) u1 in
      let one : Adds p.0 r (v ∷ []) u u1 = subst (λ (z : ℕ). Adds p.0 z (v ∷ []) u u1) row.0 (do_adds_one t p.0 (action.Own x) x.0 v u refl refl refl) in
      let further : (u1 p.0).cursors OwnWords ≡ suc c = ap (λ (s : Host). s.cursors OwnWords) (put_same u p.0 (acted (t p.0) (action.Own x) (u p.0))) in
      let more = drawn xs (r + 1) row.1 u1 in
      let P : ℕ → Type 0 = λ n. Adds p.0 (r + 1) (own_words_from t p.0 n (length xs)) u1 z in (
        adds_on p.0 r (v ∷ []) (own_words_from t p.0 (suc c) (length xs)) u u1 z one (subst P further more.0),
        more.1 ∙ (let e = further in omega (arith, e)),
      )

pub nonces_are_drawn : NoncesAreDrawn
nonces_are_drawn p v t next w x apart =
    let n : ℕ = slice_index next p.0 in
    let m : ℕ = slice_index (taken p 16 next) v.0 in
    let c : ℕ = (w p.0).cursors OwnWords in
    let u1 : Hosts = run_acts t (acts_of_gadgets (own_each p (eight n))) w in
    let u2 : Hosts = after_do t p.0 (action.Hash (register (n + 8)) (register n) x) u1 in
    let u3 : Hosts = after_msg p.0 (eight (n + 8)) v.0 (eight m) u2 in
    let own = drawn t p (eight n) n (eight_row n n refl) w in
    let digest : List ℕ = digest_of (words_from (u1 p.0).registers n 8) ((u1 p.0).registers x.0) in
    let hashed : Adds p.0 (n + 8) digest u1 u2 = hash_adds t p.0 (register (n + 8)) (register n) x u1 in
    let told : Adds v.0 m (words_in (u2 p.0).registers (eight (n + 8))) u2 u3 = tell_adds p.0 v.0 m (eight (n + 8)) (eight m) u2 apart (eight_row m m refl) refl in
    record {
      words = words_are (u3 p.0).registers n (own_words_from t p.0 c 8) (λ i low.
          told.others p.0 (n + i) apart ∙ hashed.below (n + i) (omega (arith, low)) ∙ own.0.there i low);
      taken = msg_cursors p.0 (eight (n + 8)) v.0 (eight m) u2 apart p.0 OwnWords
          ∙ ap (λ (s : Host). s.cursors OwnWords) (put_same u1 p.0 (acted (t p.0) (action.Hash (register (n + 8)) (register n) x) (u1 p.0))) ∙ own.1;
    }

-- ---- digests

rows_agree : (t : Tape) (h : HostId) (w : Hosts) (xs ys : List Reg) (r s : ℕ) → IsRow r xs → IsRow s ys → ActsAgree t (acts_of_gadgets (same_each h xs ys)) w
    → (i : ℕ) → i < length xs → i < length ys → (w h.0).registers (r + i) ≡ (w h.0).registers (s + i)
rows_agree t h w [] ys r s p q a i low few = absurd (omega (arith, low))
rows_agree t h w (x ∷ xs) [] r s p q a i low few = absurd (omega (arith, few))
rows_agree t h w (x ∷ xs) (y ∷ ys) r s p q a zero low few = ap (w h.0).registers (add-zero r ∙ sym p.0) ∙ a.0 ∙ ap (w h.0).registers (q.0 ∙ sym (add-zero s))
rows_agree t h w (x ∷ xs) (y ∷ ys) r s p q a (suc i) low few =
    let later : ActsAgree t (acts_of_gadgets (same_each h xs ys)) w = subst (ActsAgree t (acts_of_gadgets (same_each h xs ys))) (same_stays t h.0 x y w) a.1 in
    let e : r + suc i ≡ r + 1 + i = omega arith in
    let k : s + 1 + i ≡ s + suc i = omega arith in
    ap (w h.0).registers e ∙ rows_agree t h w xs ys (r + 1) (s + 1) p.1 q.1 later i (omega (arith, low)) (omega (arith, few)) ∙ ap (w h.0).registers k

pub digests_are_compared : DigestsAreCompared
digests_are_compared p v t next w held seen apart low a =
    let m : ℕ = slice_index next v.0 in
    let n : ℕ = held.nonce.0 in
    let d : ℕ = seen.digest.0 in
    let u1 : Hosts = after_msg p.0 (held.value ∷ eight n) v.0 (register m ∷ eight (m + 1)) w in
    let u2 : Hosts = after_do t v.0 (action.Hash (register (m + 9)) (register (m + 1)) (register m)) u1 in
    let told : Adds v.0 m (words_in (w p.0).registers (held.value ∷ eight n)) w u1 =
    tell_adds p.0 v.0 m (held.value ∷ eight n) (register m ∷ eight (m + 1)) w apart (refl, eight_row (m + 1) (m + 1) refl) refl in
    let digest : List ℕ = digest_of (words_from (u1 v.0).registers (m + 1) 8) ((u1 v.0).registers m) in
    let count : length digest ≡ 8 = digest_count (words_from (u1 v.0).registers (m + 1) 8) ((u1 v.0).registers m) in
    let hashed : Adds v.0 (m + 9) digest u1 u2 = hash_adds t v.0 (register (m + 9)) (register (m + 1)) (register m) u1 in
    let value : (u1 v.0).registers m ≡ (w p.0).registers held.value.0 = ap (u1 v.0).registers (sym (add-zero m)) ∙ told.there 0 (omega arith) in
    let nonce : words_from (u1 v.0).registers (m + 1) 8 ≡ words_from (w p.0).registers n 8 =
    words_alike (u1 v.0).registers (w p.0).registers (m + 1) n 8 (λ i few.
    let e : m + 1 + i ≡ m + suc i = omega arith in
    ap (u1 v.0).registers e ∙ told.there (suc i) (omega (arith, few)) ∙ said_row (w p.0).registers n (eight n) (eight_row n n refl) i few) in
    let same : (i : ℕ) → i < 8 → (u2 v.0).registers (m + 9 + i) ≡ (u2 v.0).registers (d + i) =
    λ i few. rows_agree t v u2 (eight (m + 9)) (eight d) (m + 9) d (eight_row (m + 9) (m + 9) refl) (eight_row d d refl) a.1.1 i few few in
    let kept : words_from (w v.0).registers d (length digest) ≡ digest = words_are (w v.0).registers d digest (λ i few.
    sym (told.below (d + i) (omega (arith, low, count, few))) ∙ sym (hashed.below (d + i) (omega (arith, low, count, few))) ∙ sym (same i (omega (arith, count, few))) ∙ hashed.there i few) in
    ap (words_from (w v.0).registers d) (sym count) ∙ kept ∙ ap₂ digest_of nonce value
