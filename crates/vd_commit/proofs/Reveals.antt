-- What is revealed was committed to.
use Rattle.std.proofs.Common.{◌≡◌, ◌≢◌, ℕ, suc, ◌+◌, ◌<◌, ◌≤◌, nat_eq, Bool, true, false, if◌then◌else◌, List, [], ◌∷◌, ◌++◌, length, refl, sym, ap, ap₂, subst, ◌∙◌, arith, add-zero}
use Rattle.std.specs.Prelude.{slice_index}
use Rattle.vd_base.specs.declared.ids.HostId.{HostId}
use Rattle.vd_execution.specs.declared.instructions.Reg.{Reg}
use Rattle.vd_execution.specs.declared.instructions.Action.TheVariants as action
use Rattle.vd_execution.specs.Registers.{Registers, put, words_from, digest_of, nth}
use Rattle.vd_execution.specs.Step.{Nothing, Unequal, Cursors, advanced, words_in}
use Rattle.vd_execution.specs.World.{Tape}
use Rattle.vd_execution.specs.Joint.{Host, Hosts, after_do, after_msg}
use Rattle.vd_execution.specs.Acts.{run_acts, ActsAgree}
use Rattle.vd_execution.specs.Gadgets.{acts_of_gadgets, GadgetsAreTidy, IsSound}
use Rattle.vd_execution.specs.Text.{register}
use Rattle.vd_execution.proofs.Front.{put_itself, gadgets_sound}
use Rattle.vd_duet.specs.Builder.{taken}
use Rattle.vd_duet.proofs.Front.{taken_known, taken_bounds}
use Rattle.vd_backend_sharing.proofs.Front.{Adds}
use Rattle.vd_commit.specs.declared.ends.Held.{Held}
use Rattle.vd_commit.specs.declared.ends.Seen.{Seen}
use Rattle.vd_commit.specs.Commit.{eight, same_each, revealing, revealed}
use Rattle.vd_commit.specs.Law.{IsCommitted, AreReady, LeadsTo}
use Rattle.vd_commit.proofs.Rows.{IsRow, eight_row, words_alike, from_nth, said_row, digest_count, hash_adds, tell_adds, keeps}

-- a comparison of equal words changes nothing
still_there : (b : Bool) (x y : ℕ) (c : Cursors) → advanced c (if b then Nothing else Unequal x y) ≡ c
still_there true x y c = refl
still_there false x y c = refl

same_stays : (t : Tape) (h : ℕ) (x y : Reg) (w : Hosts) → after_do t h (action.Same x y) w ≡ w
same_stays t h x y w =
    ap (λ (s : Host). put w h s) (ap (λ (c : Cursors). let s : Host = record (w h) { cursors = c } in s)
    (still_there (nat_eq ((w h).registers x.0) ((w h).registers y.0)) ((w h).registers x.0) ((w h).registers y.0) (w h).cursors))
    ∙ put_itself w h

-- ---- registers one by one

same_run : (t : Tape) (h : HostId) (w : Hosts) (xs ys : List Reg) → run_acts t (acts_of_gadgets (same_each h xs ys)) w ≡ w
same_run t h w [] ys = refl
same_run t h w (x ∷ xs) [] = refl
same_run t h w (x ∷ xs) (y ∷ ys) = ap (run_acts t (acts_of_gadgets (same_each h xs ys))) (same_stays t h.0 x y w) ∙ same_run t h w xs ys

same_tidy : (h : HostId) (xs ys : List Reg) → GadgetsAreTidy (same_each h xs ys)
same_tidy h [] ys = tt
same_tidy h (x ∷ xs) [] = tt
same_tidy h (x ∷ xs) (y ∷ ys) = (tt, same_tidy h xs ys)

-- rows of the same words agree
same_agree : (t : Tape) (h : HostId) (w : Hosts) (xs ys : List Reg) (r s : ℕ) → IsRow r xs → IsRow s ys
    → ((i : ℕ) → i < length xs → (w h.0).registers (r + i) ≡ (w h.0).registers (s + i)) → ActsAgree t (acts_of_gadgets (same_each h xs ys)) w
same_agree t h w [] ys r s p q same = tt
same_agree t h w (x ∷ xs) [] r s p q same = tt
same_agree t h w (x ∷ xs) (y ∷ ys) r s p q same = (
  ap (w h.0).registers (p.0 ∙ sym (add-zero r)) ∙ same 0 (omega arith) ∙ ap (w h.0).registers (add-zero s ∙ sym q.0),
  subst (ActsAgree t (acts_of_gadgets (same_each h xs ys))) (sym (same_stays t h.0 x y w))
      (same_agree t h w xs ys (r + 1) (s + 1) p.1 q.1 (λ i low.
      let e : r + 1 + i ≡ r + suc i = omega arith in
      let k : s + suc i ≡ s + 1 + i = omega arith in
      ap (w h.0).registers e ∙ same (suc i) (omega (arith, low)) ∙ ap (w h.0).registers k)),
)

module _ (p v : HostId) (t : Tape) (next : List ℕ) (w : Hosts) (ready : AreReady p v t next w) (held : Held) (seen : Seen) (x : ℕ) (c : IsCommitted p v next w held seen x) where
  revealing_tidy : (m : ℕ) → GadgetsAreTidy (revealing p v held seen m)
  revealing_tidy m = ((ready.apart, refl), (tt, same_tidy v (eight (m + 9)) (eight seen.digest.0)))

  pub reveals : LeadsTo t next (revealed p v held seen next) w (λ u. (u v.0).registers (slice_index next v.0) ≡ x)
  reveals =
      let m : ℕ = slice_index next v.0 in
      let n : ℕ = held.nonce.0 in
      let d : ℕ = seen.digest.0 in
      let said : List Reg = held.value ∷ eight n in
      let u1 : Hosts = after_msg p.0 (held.value ∷ eight n) v.0 (register m ∷ eight (m + 1)) w in
      let u2 : Hosts = after_do t v.0 (action.Hash (register (m + 9)) (register (m + 1)) (register m)) u1 in
      let told : Adds v.0 m (words_in (w p.0).registers (held.value ∷ eight n)) w u1 =
      tell_adds p.0 v.0 m (held.value ∷ eight n) (register m ∷ eight (m + 1)) w ready.apart (refl, eight_row (m + 1) (m + 1) refl) refl in
      let digest : List ℕ = digest_of (words_from (u1 v.0).registers (m + 1) 8) ((u1 v.0).registers m) in
      let count : length digest ≡ 8 = digest_count (words_from (u1 v.0).registers (m + 1) 8) ((u1 v.0).registers m) in
      let hashed : Adds v.0 (m + 9) digest u1 u2 = hash_adds t v.0 (register (m + 9)) (register (m + 1)) (register m) u1 in
      let value : (u1 v.0).registers m ≡ x = ap (u1 v.0).registers (sym (add-zero m)) ∙ told.there 0 (omega arith) ∙ c.value in
      let nonce : words_from (u1 v.0).registers (m + 1) 8 ≡ words_from (w p.0).registers n 8 =
      words_alike (u1 v.0).registers (w p.0).registers (m + 1) n 8 (λ i low.
      let e : m + 1 + i ≡ m + suc i = omega arith in
      ap (u1 v.0).registers e ∙ told.there (suc i) (omega (arith, low)) ∙ said_row (w p.0).registers n (eight n) (eight_row n n refl) i low) in
      let anew : words_from (w v.0).registers d 8 ≡ digest = c.digest ∙ sym (ap₂ digest_of nonce value) in
      let kept : (i : ℕ) → i < 8 → (u2 v.0).registers (d + i) ≡ (w v.0).registers (d + i) =
      λ i low. let k = c.digest_low in hashed.below (d + i) (omega (arith, k, low)) ∙ told.below (d + i) (omega (arith, k, low)) in
      let same : (i : ℕ) → i < 8 → (u2 v.0).registers (m + 9 + i) ≡ (u2 v.0).registers (d + i) =
      λ i low. hashed.there i (omega (arith, count, low)) ∙ sym (ap (λ (l : List ℕ). nth l i) anew) ∙ from_nth (w v.0).registers d 8 i low ∙ sym (kept i low) in
      let run : run_acts t (acts_of_gadgets (revealing p v held seen m)) w ≡ u2 = same_run t v u2 (eight (m + 9)) (eight d) in
      let tidy : GadgetsAreTidy (revealing p v held seen m) = revealing_tidy m in
      record {
        tidy = tidy;
        few = (taken_known v 17 next, λ h. let i = (taken_bounds v 17 next ready.second h).1 in omega (arith, i));
        reached = u2;
        leads = record {
          runs = run;
          agrees = (tt, (tt, same_agree t v u2 (eight (m + 9)) (eight d) (m + 9) d (eight_row (m + 9) (m + 9) refl) (eight_row d d refl) same));
          sound = subst IsSound run (gadgets_sound t ready.deal (revealing p v held seen m) tidy w ready.sound);
          kept = λ h r below not.
              keeps v.0 (m + 9) digest u1 u2 hashed h r (λ e. let P : ℕ → Type 0 = λ z. r < slice_index next z in let k = subst P e below in omega (arith, k))
              ∙ keeps v.0 m (words_in (w p.0).registers (held.value ∷ eight n)) w u1 told h r (λ e. let P : ℕ → Type 0 = λ z. r < slice_index next z in subst P e below);
          printed = λ h. hashed.printed h ∙ told.printed h;
          inputs = λ h. hashed.inputs h ∙ told.inputs h;
        };
        is = hashed.below m (omega arith) ∙ value;
      }
