-- What a host knows that came past its comparisons.
use Rattle.std.proofs.Common.{◌≡◌, ℕ, zero, suc, ◌+◌, ◌<◌, nat_eq, Bool, true, false, ◌||◌, if◌then◌else◌, List, [], ◌∷◌, ◌++◌, length, map, refl, sym, ap, ap₂, subst, ◌∙◌, arith, add-zero}
use Rattle.std.proofs.lemmas.Bool.{ne_eqb}
use Rattle.vd_base.specs.declared.ids.HostId.{HostId}
use Rattle.vd_base.specs.Holders.{is_among}
use Rattle.vd_execution.specs.declared.instructions.Reg.{Reg}
use Rattle.vd_execution.specs.declared.instructions.Action.TheVariants as action
use Rattle.vd_execution.specs.Gadgets.{Gadget, Alone}
use Rattle.vd_execution.specs.Joint.{Joint}
use Rattle.vd_execution.specs.Registers.{Registers, digest_of, nth, put, put_each, put_from, words_from}
use Rattle.vd_execution.specs.Step.{State, next, words_in}
use Rattle.vd_execution.specs.Text.{register}
use Rattle.vd_execution.proofs.Front.{put_same, put_other}
use Rattle.vd_duet.specs.Builder.{next_at, taken}
use Rattle.vd_duet.specs.Calls.{Made, Places, hosts_of}
use Rattle.vd_clear.specs.Copies.{adopted, compared, first_register, shown, told}
use Rattle.vd_commit.specs.Commit.{eight, same_each}
use Rattle.vd_commit.proofs.Front.{IsRow, digest_count, eight_row, said_from, words_alike, words_are}
use Rattle.vd_integrity_runs.specs.Alone.{Goes}
use Rattle.vd_integrity_runs.specs.Passing.{AllHave, ComparedAreEqual, IsPast, OpenedHasTheDigest, ShownAreEqual, code_for}
use Rattle.vd_integrity_runs.proofs.IntegrityChecksSteps.{acted, heard_some, passed}

-- ---- copies

-- the first is compared with each
abbrev with_each : HostId → Reg → List Reg → List Gadget
with_each h r rs = map (λ s. Alone h (action.Same r s)) rs

compare_all : (h : HostId) (r : Reg) (rs : List Reg) (rest : Joint) (before after : State) → before.pending ≡ code_for h (with_each h r rs) rest → Goes (length rs) before after
    → IsPast h rest before after × AllHave after.registers (after.registers r.0) rs
compare_all h r [] rest before after begins goes =
    (record { past = ap (λ (s : State). s.pending) (sym goes) ∙ begins; still = ap (λ (s : State). s.registers) (sym goes) }, tt)
compare_all h r (s ∷ rs) rest before after begins goes =
    let words = goes.0 in
    let one = acted h (with_each h r rs) rest before words (action.Same r s) begins in
    let same = passed h (with_each h r rs) rest before words r s begins goes.1.0 in
    let more = compare_all h r rs rest (next before words) after one.0 goes.1.1 in
    let still = more.0.still ∙ one.1 in (
      record { past = more.0.past; still = still },
      (ap (λ (f : Registers). f s.0) still ∙ sym same ∙ sym (ap (λ (f : Registers). f r.0) still), more.1),
    )

pub compared_are_equal : ComparedAreEqual
compared_are_equal h first others rest before after begins goes = compare_all h first others rest before after begins goes

-- ---- copies that are shown

neither : (a b : Bool) → (a || b) ≡ false → (a ≡ false) × (b ≡ false)
neither true b is = absurd (cc is)
neither false b is = (refl, is)

hear_all : (to : HostId) (x : Places) (next_free : List ℕ) (gadgets : List Gadget) (rest : Joint) (before after : State) → is_among (hosts_of x) to.0 ≡ false
    → before.pending ≡ code_for to ((told x to next_free).gadgets ++ gadgets) rest → Goes (length x) before after → after.pending ≡ code_for to gadgets rest
hear_all to [] next_free gadgets rest before after away begins goes = ap (λ (s : State). s.pending) (sym goes) ∙ begins
hear_all to (q ∷ x) next_free gadgets rest before after away begins goes =
    let off = neither (nat_eq to.0 q.0.0) (is_among (hosts_of x) to.0) away in
    let more = (told x to (taken to 1 next_free)).gadgets ++ gadgets in
    let one = heard_some to more rest before goes.0 q.0 (q.1 ∷ []) (next_at next_free to ∷ []) off.0 begins in
    hear_all to x (taken to 1 next_free) gadgets rest (next before goes.0) after off.1 one.0 goes.1.1

shown_away : (x : Places) (to : HostId) (next_free : List ℕ) → is_among (hosts_of x) to.0 ≡ false
    → shown x to next_free
    ≡ record { given = first_register (told x to next_free).given; gadgets = (told x to next_free).gadgets ++ compared to (told x to next_free).given; next = (told x to next_free).next }
shown_away x to next_free away =
    ap
    (λ (b : Bool).
    if b then adopted x to next_free
    else record { given = first_register (told x to next_free).given; gadgets = (told x to next_free).gadgets ++ compared to (told x to next_free).given; next = (told x to next_free).next }) away

pub shown_are_equal : ShownAreEqual
shown_are_equal to first others next_free rest before between after away begins hears compares =
    let x = first ∷ others in
    let all = told x to next_free in
    let is = shown_away x to next_free away in
    let r = next_at next_free to in
    let more = (told others to (taken to 1 next_free)).given in
    let start = begins ∙ ap (λ (made : Made Reg). code_for to made.gadgets rest) is in
    let heard = hear_all to x next_free (with_each to r more) rest before between away start hears in
    let many = told_count others to (taken to 1 next_free) in
    let done = compare_all to r more rest between after heard (subst (λ (n : ℕ). Goes n between after) (sym many) compares) in (
      done.0.past,
      subst (λ (z : Reg). AllHave after.registers (after.registers z.0) all.given) (sym (ap (λ (made : Made Reg). made.given) is)) (refl, done.1),
    )
  where
    told_count : (x : Places) (to : HostId) (next_free : List ℕ) → length (told x to next_free).given ≡ length x
    told_count [] to next_free = refl
    told_count (q ∷ x) to next_free = ap (λ (n : ℕ). suc n) (told_count x to (taken to 1 next_free))

-- ---- openings

below_from : (f : Registers) (r : ℕ) (xs : List ℕ) (q : ℕ) → q < r → put_from f r xs q ≡ f q
below_from f r [] q low = refl
below_from f r (x ∷ xs) q low = below_from (put f r x) (r + 1) xs q (omega (arith, low)) ∙ put_other f r x q (λ e. omega (arith, e, low))

there_from : (f : Registers) (r : ℕ) (xs : List ℕ) (i : ℕ) → i < length xs → put_from f r xs (r + i) ≡ nth xs i
there_from f r [] i low = absurd (omega (arith, low))
there_from f r (x ∷ xs) zero low =
    below_from (put f r x) (r + 1) xs (r + 0) (omega arith) ∙ ap (put f r x) (add-zero r) ∙ put_same f r x
there_from f r (x ∷ xs) (suc i) low =
    let e : r + suc i ≡ r + 1 + i = omega arith in ap (put_from (put f r x) (r + 1) xs) e ∙ there_from (put f r x) (r + 1) xs i (omega (arith, low))

below_each : (f : Registers) (r : ℕ) (rs : List Reg) (ws : List ℕ) (q : ℕ) → IsRow r rs → q < r → put_each f rs ws q ≡ f q
below_each f r [] ws q row low = refl
below_each f r (x ∷ rs) [] q row low = refl
below_each f r (x ∷ rs) (y ∷ ws) q row low =
    below_each (put f x.0 y) (r + 1) rs ws q row.1 (omega (arith, low)) ∙ put_other f x.0 y q (λ e. let k = row.0 in omega (arith, e, k, low))

-- registers one by one
same_all : (h : HostId) (xs ys : List Reg) (rest : Joint) (before after : State) → length xs ≡ length ys → before.pending ≡ code_for h (same_each h xs ys) rest → Goes (length xs) before after
    → IsPast h rest before after × (words_in after.registers xs ≡ words_in after.registers ys)
same_all h [] [] rest before after many begins goes =
    (record { past = ap (λ (s : State). s.pending) (sym goes) ∙ begins; still = ap (λ (s : State). s.registers) (sym goes) }, refl)
same_all h [] (y ∷ ys) rest before after many begins goes = absurd (omega (arith, many))
same_all h (x ∷ xs) [] rest before after many begins goes = absurd (omega (arith, many))
same_all h (x ∷ xs) (y ∷ ys) rest before after many begins goes =
    let words = goes.0 in
    let one = acted h (same_each h xs ys) rest before words (action.Same x y) begins in
    let same = passed h (same_each h xs ys) rest before words x y begins goes.1.0 in
    let more = same_all h xs ys rest (next before words) after (omega (arith, many)) one.0 goes.1.1 in
    let still = more.0.still ∙ one.1 in (
      record { past = more.0.past; still = still },
      ap₂ (λ (w : ℕ) (ws : List ℕ). w ∷ ws) (ap (λ (f : Registers). f x.0) still ∙ same ∙ sym (ap (λ (f : Registers). f y.0) still)) more.1,
    )

pub opened_has_the_digest : OpenedHasTheDigest
opened_has_the_digest p v held seen m rest before heard hashed after apart low begins hears hashes compares =
    let d = seen.digest.0 in
    let rs = register m ∷ eight (m + 1) in
    let hash = action.Hash (register (m + 9)) (register (m + 1)) (register m) in
    let ends = same_each v (eight (m + 9)) (eight d) in
    let first = heard_some v (Alone v hash ∷ ends) rest before hears.0 p (held.value ∷ eight held.nonce.0) rs (ne_eqb v.0 p.0 (λ e. apart (sym e))) begins in
    let at_heard = hears.1.1 in
    let heard_pending = ap (λ (s : State). s.pending) (sym at_heard) ∙ first.0 in
    let heard_registers : heard.registers ≡ put_each before.registers rs hears.0 = ap (λ (s : State). s.registers) (sym at_heard) ∙ first.1 in
    let second = acted v ends rest heard hashes.0 hash heard_pending in
    let at_hashed = hashes.1.1 in
    let hashed_pending = ap (λ (s : State). s.pending) (sym at_hashed) ∙ second.0 in
    let D = digest_of (words_from heard.registers (m + 1) 8) (heard.registers m) in
    let hashed_registers : hashed.registers ≡ put_from heard.registers (m + 9) D = ap (λ (s : State). s.registers) (sym at_hashed) ∙ second.1 in
    let third = same_all v (eight (m + 9)) (eight d) rest hashed after refl hashed_pending compares in
    let f = after.registers in
    let g = put_from heard.registers (m + 9) D in
    let fs : f ≡ g = third.0.still ∙ hashed_registers in
    let new : words_from g (m + 9) 8 ≡ D = subst (λ (n : ℕ). words_from g (m + 9) n ≡ D) (digest_count (words_from heard.registers (m + 1) 8) (heard.registers m)) (words_are g (m + 9) D (there_from heard.registers (m + 9) D)) in
    let row_new = said_from f (m + 9) (eight (m + 9)) (eight_row (m + 9) (m + 9) refl) in
    let row_kept = said_from f d (eight d) (eight_row d d refl) in
    let equal : words_from f (m + 9) 8 ≡ words_from f d 8 = sym row_new ∙ third.1 ∙ row_kept in
    let nonce : words_from g (m + 1) 8 ≡ words_from heard.registers (m + 1) 8 =
    words_alike g heard.registers (m + 1) (m + 1) 8 (λ i small. below_from heard.registers (m + 9) D (m + 1 + i) (omega (arith, small)))
    in
    let value : g m ≡ heard.registers m = below_from heard.registers (m + 9) D m (omega arith) in
    let kept_hash : words_from g d 8 ≡ words_from heard.registers d 8 =
    words_alike g heard.registers d d 8 (λ i small. below_from heard.registers (m + 9) D (d + i) (omega (arith, small, low)))
    in
    let kept_heard : words_from heard.registers d 8 ≡ words_from before.registers d 8 =
    ap (λ (z : Registers). words_from z d 8) heard_registers
    ∙ words_alike (put_each before.registers rs hears.0) before.registers d d 8 (λ i small. below_each before.registers m rs hears.0 (d + i) (refl, eight_row (m + 1) (m + 1) refl) (omega (arith, small, low)))
    in
    let kept : words_from f d 8 ≡ words_from before.registers d 8 = ap (λ (z : Registers). words_from z d 8) fs ∙ kept_hash ∙ kept_heard in
    record {
      past = third.0.past;
      kept = kept;
      digest =
          ap₂ (λ (ws : List ℕ) (w : ℕ). digest_of ws w) (ap (λ (z : Registers). words_from z (m + 1) 8) fs ∙ nonce) (ap (λ (z : Registers). z m) fs ∙ value)
          ∙ sym new ∙ sym (ap (λ (z : Registers). words_from z (m + 9) 8) fs) ∙ equal ∙ kept;
    }
