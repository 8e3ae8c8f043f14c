-- Registers that follow each other, and the words in them.
use Rattle.std.proofs.Common.{◌≡◌, ◌≢◌, ℕ, zero, suc, ◌+◌, ◌<◌, ◌≤◌, List, [], ◌∷◌, ◌++◌, length, refl, sym, ap, ap₂, subst, ◌∙◌, arith, add-zero, lit<}
use native.Mathlib.Decide.{ℕ_discrete}
use Rattle.std.specs.Prelude.{slice_index}
use Rattle.vd_base.specs.declared.ids.HostId.{HostId}
use Rattle.vd_execution.specs.declared.instructions.Reg.{Reg}
use Rattle.vd_execution.specs.declared.instructions.Action.TheVariants as action
use Rattle.vd_execution.specs.Registers.{Registers, put, put_each, put_from, words_from, words_of_bytes, digest_of, nth}
use Rattle.vd_execution.specs.Step.{Inputs, OwnWords, words_in}
use Rattle.vd_execution.specs.World.{Tape}
use Rattle.vd_execution.specs.Joint.{Host, Hosts, acted, after_do, after_msg}
use Rattle.vd_execution.specs.Acts.{run_acts}
use Rattle.vd_execution.specs.Gadgets.{acts_of_gadgets}
use Rattle.vd_execution.proofs.Front.{put_same, put_other}
use Rattle.vd_backend_sharing.proofs.Front.{Adds, put_adds, msg_adds, do_adds_one, adds_on}
use Rattle.vd_commit.specs.Commit.{eight, own_each}

-- registers follow each other from this one on
abbrev pub IsRow : ℕ → List Reg → Type 0
IsRow r [] = Unit {0}
IsRow r (x ∷ xs) = (x.0 ≡ r) × IsRow (r + 1) xs

pub eight_row : (n r : ℕ) → n ≡ r → IsRow r (eight n)
eight_row n r e = (
  e,
  (
    omega (arith, e),
    (omega (arith, e), (omega (arith, e), (omega (arith, e), (omega (arith, e), (omega (arith, e), (omega (arith, e), tt)))))),
  ),
)

none_below : {X : Type 0} (i : ℕ) → i < 0 → X
none_below i low = absurd (omega (arith, low))

-- ---- words in a row

pub words_alike : (f g : Registers) (r s count : ℕ) → ((i : ℕ) → i < count → f (r + i) ≡ g (s + i)) → words_from f r count ≡ words_from g s count
words_alike f g r s zero h = refl
words_alike f g r s (suc count) h =
    ap₂ (λ (x : ℕ) (l : List ℕ). x ∷ l) (ap f (sym (add-zero r)) ∙ h 0 (omega arith) ∙ ap g (add-zero s))
    (words_alike f g (r + 1) (s + 1) count (λ i low.
    let e : r + 1 + i ≡ r + suc i = omega arith in
    let k : s + suc i ≡ s + 1 + i = omega arith in
    ap f e ∙ h (suc i) (omega (arith, low)) ∙ ap g k))

-- the word at a place
pub from_nth : (f : Registers) (r count i : ℕ) → i < count → nth (words_from f r count) i ≡ f (r + i)
from_nth f r zero i low = none_below i low
from_nth f r (suc count) zero low = ap f (sym (add-zero r))
from_nth f r (suc count) (suc i) low = from_nth f (r + 1) count i (omega (arith, low)) ∙ ap f (omega arith)

pub words_are : (f : Registers) (r : ℕ) (ws : List ℕ) → ((i : ℕ) → i < length ws → f (r + i) ≡ nth ws i) → words_from f r (length ws) ≡ ws
words_are f r [] h = refl
words_are f r (x ∷ ws) h =
    ap₂ (λ (y : ℕ) (l : List ℕ). y ∷ l) (ap f (sym (add-zero r)) ∙ h 0 (omega arith))
    (words_are f (r + 1) ws (λ i low. let e : r + 1 + i ≡ r + suc i = omega arith in ap f e ∙ h (suc i) (omega (arith, low))))

pub said_row : (f : Registers) (r : ℕ) (rs : List Reg) → IsRow r rs → (i : ℕ) → i < length rs → nth (words_in f rs) i ≡ f (r + i)
said_row f r [] row i low = none_below i low
said_row f r (x ∷ rs) row zero low = ap f (row.0 ∙ sym (add-zero r))
said_row f r (x ∷ rs) row (suc i) low = said_row f (r + 1) rs row.1 i (omega (arith, low)) ∙ ap f (omega arith)

pub said_from : (f : Registers) (r : ℕ) (rs : List Reg) → IsRow r rs → words_in f rs ≡ words_from f r (length rs)
said_from f r [] row = refl
said_from f r (x ∷ rs) row = ap₂ (λ (y : ℕ) (l : List ℕ). y ∷ l) (ap f row.0) (said_from f (r + 1) rs row.1)

said_count : (f : Registers) (rs : List Reg) → length (words_in f rs) ≡ length rs
said_count f [] = refl
said_count f (x ∷ rs) = (let e = said_count f rs in omega (arith, e))

from_below : (f : Registers) (r : ℕ) (xs : List ℕ) (q : ℕ) → q < r → put_from f r xs q ≡ f q
from_below f r [] q low = refl
from_below f r (x ∷ xs) q low = from_below (put f r x) (r + 1) xs q (omega (arith, low)) ∙ put_other f r x q (λ e. omega (arith, e, low))

from_there : (f : Registers) (r : ℕ) (xs : List ℕ) (i : ℕ) → i < length xs → put_from f r xs (r + i) ≡ nth xs i
from_there f r [] i low = none_below i low
from_there f r (x ∷ xs) zero low =
    from_below (put f r x) (r + 1) xs (r + 0) (omega arith) ∙ ap (put f r x) (add-zero r) ∙ put_same f r x
from_there f r (x ∷ xs) (suc i) low =
    let e : r + suc i ≡ r + 1 + i = omega arith in ap (put_from (put f r x) (r + 1) xs) e ∙ from_there (put f r x) (r + 1) xs i (omega (arith, low))

each_below : (f : Registers) (r : ℕ) (rs : List Reg) (ws : List ℕ) (q : ℕ) → IsRow r rs → q < r → put_each f rs ws q ≡ f q
each_below f r [] ws q row low = refl
each_below f r (x ∷ rs) [] q row low = refl
each_below f r (x ∷ rs) (y ∷ ws) q row low =
    each_below (put f x.0 y) (r + 1) rs ws q row.1 (omega (arith, low)) ∙ put_other f x.0 y q (λ e. let k = row.0 in omega (arith, e, k, low))

each_there : (f : Registers) (r : ℕ) (rs : List Reg) (ws : List ℕ) → IsRow r rs → length ws ≡ length rs → (i : ℕ) → i < length ws → put_each f rs ws (r + i) ≡ nth ws i
each_there f r rs [] row same i low = none_below i low
each_there f r [] (y ∷ ws) row same i low = absurd (omega (arith, same))
each_there f r (x ∷ rs) (y ∷ ws) row same zero low =
    each_below (put f x.0 y) (r + 1) rs ws (r + 0) row.1 (omega arith) ∙ ap (put f x.0 y) (add-zero r ∙ sym row.0) ∙ put_same f x.0 y
each_there f r (x ∷ rs) (y ∷ ws) row same (suc i) low =
    let e : r + suc i ≡ r + 1 + i = omega arith in
    ap (put_each (put f x.0 y) rs ws) e ∙ each_there (put f x.0 y) (r + 1) rs ws row.1 (omega (arith, same)) i (omega (arith, low))

-- ---- what acts add

pub own_adds : (t : Tape) (p : HostId) (xs : List Reg) (r : ℕ) → IsRow r xs → (u : Hosts)
    → (ws : List ℕ) × (length ws ≡ length xs) × Adds p.0 r ws u (run_acts t (acts_of_gadgets (own_each p xs)) u)
own_adds t p [] r row u =
    ([], refl, record { there = λ i low. none_below i low; below = λ q low. refl; others = λ k q d. refl; printed = λ k. refl; inputs = λ k. refl })
own_adds t p (x ∷ xs) r row u =
    let v : ℕ = nth (t p.0 OwnWords ((u p.0).cursors OwnWords)) 0 in
    let u1 : Hosts = after_do t p.0 (action.Own x) u in
    let one : Adds p.0 r (v ∷ []) u u1 = subst (λ (z : ℕ). Adds p.0 z (v ∷ []) u u1) row.0 (do_adds_one t p.0 (action.Own x) x.0 v u refl refl refl) in
    let more = own_adds t p xs (r + 1) row.1 u1 in (
      v ∷ more.0,
      (let e = more.1 in omega (arith, e)),
      adds_on p.0 r (v ∷ []) more.0 u u1 (run_acts t (acts_of_gadgets (own_each p xs)) u1) one more.2,
    )

pub digest_count : (nonce : List ℕ) (value : ℕ) → length (digest_of nonce value) ≡ 8
unfolding digest_of
digest_count nonce value = refl

pub hash_adds : (t : Tape) (h : ℕ) (d n x : Reg) (u : Hosts)
    → Adds h d.0 (digest_of (words_from (u h).registers n.0 8) ((u h).registers x.0)) u (after_do t h (action.Hash d n x) u)
hash_adds t h d n x u =
    put_adds h d.0 (digest_of (words_from (u h).registers n.0 8) ((u h).registers x.0)) (acted (t h) (action.Hash d n x) (u h)) u
    (from_there (u h).registers d.0 (digest_of (words_from (u h).registers n.0 8) ((u h).registers x.0)))
    (from_below (u h).registers d.0 (digest_of (words_from (u h).registers n.0 8) ((u h).registers x.0))) refl refl

pub tell_adds : (a b r : ℕ) (said heard : List Reg) (u : Hosts) → a ≢ b → IsRow r heard → length said ≡ length heard
    → Adds b r (words_in (u a).registers said) u (after_msg a said b heard u)
tell_adds a b r said heard u apart row same =
    msg_adds a said b heard u apart r (words_in (u a).registers said)
    (each_there (u b).registers r heard (words_in (u a).registers said) row (said_count (u a).registers said ∙ same))
    (λ q low. each_below (u b).registers r heard (words_in (u a).registers said) q row low)

-- what is below the registers that get words is kept
pub keeps : (h from : ℕ) (ws : List ℕ) (u u' : Hosts) → Adds h from ws u u' → (k r : ℕ) → (k ≡ h → r < from) → (u' k).registers r ≡ (u k).registers r
keeps h from ws u u' a k r low =
    elim (ℕ_discrete k h) [
      | yes e ↦ let P : ℕ → Type 0 = λ z. (u' z).registers r ≡ (u z).registers r in subst P (sym e) (a.below r (low e))
      | no d ↦ a.others k r d
    ]
