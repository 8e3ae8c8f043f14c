-- A commitment binds whoever departs from its program, as long as the other host keeps to it.
use Rattle.std.proofs.Common.{◌≡◌, ◌≢◌, ℕ, ◌+◌, ◌%◌, ◌^◌, ◌<◌, ◌≤◌, ◌⊎◌, inl, inr, Bool, true, List, [], ◌∷◌, length, slice_index, refl, sym, ap, ap₂, subst, ◌∙◌, arith}
use native.Mathlib.Decide.{ℕ_discrete}
use Rattle.vd_base.specs.declared.ids.HostId.{HostId}
use Rattle.vd_execution.specs.declared.instructions.Action.TheVariants as action
use Rattle.vd_execution.specs.declared.instructions.Reg.{Reg}
use Rattle.vd_execution.specs.Joint.{Host, Hosts, acted, after_do, has_heard, said_to}
use Rattle.vd_execution.specs.Registers.{Registers, digest_of, put, put_each, words_from}
use Rattle.vd_execution.specs.Step.{words_in}
use Rattle.vd_execution.specs.Text.{register}
use Rattle.vd_execution.specs.World.{Tape}
use Rattle.vd_execution.proofs.Front.{put_other, put_same}
use Rattle.vd_backend_sharing.proofs.Front.{Adds}
use Rattle.vd_commit.specs.declared.ends.Held.{Held}
use Rattle.vd_commit.specs.declared.ends.Seen.{Seen}
use Rattle.vd_commit.specs.Commit.{eight, revealed, same_each}
use Rattle.vd_commit.proofs.Front.{IsRow, digest_count, eight_row, hash_adds, words_alike, words_are}
use Rattle.vd_integrity_runs.specs.Departing.{AreStill, RunsGadgets, after_telling}
use Rattle.vd_integrity_runs.specs.Commitments.{CommitmentsBind, IsOpened}
use Rattle.vd_integrity_runs.specs.Digests.{Collide}
use Rattle.vd_integrity_runs.proofs.Digests.{collides, last_same}

-- registers in a row that are written
each_below : (f : Registers) (r : ℕ) (rs : List Reg) (ws : List ℕ) (q : ℕ) → IsRow r rs → q < r → put_each f rs ws q ≡ f q
each_below f r [] ws q row low = refl
each_below f r (x ∷ rs) [] q row low = refl
each_below f r (x ∷ rs) (y ∷ ws) q row low =
    each_below (put f x.0 y) (r + 1) rs ws q row.1 (omega (arith, low)) ∙ put_other f x.0 y q (λ e. let k = row.0 in omega (arith, e, k, low))

-- ---- what comes to a host
module _ (from to : ℕ) (words : List ℕ) (heard : List Reg) (w : Hosts) (apart : from ≢ to) where
  at_receiver : (q : ℕ) → (after_telling from words to heard w to).registers q ≡ put_each (w to).registers heard words q
  at_receiver q = ap (λ (s : Host). s.registers q) (put_same (put w from (said_to to words (w from))) to (has_heard heard words (w to)))

  at_other : (k q : ℕ) → k ≢ to → (after_telling from words to heard w k).registers q ≡ (w k).registers q
  at_other k q d =
      ap (λ (s : Host). s.registers q) (put_other (put w from (said_to to words (w from))) to (has_heard heard words (w to)) k d)
      ∙ elim (ℕ_discrete k from) [
        | yes i ↦ let P : ℕ → Type 0 = λ z. (put w from (said_to to words (w from)) z).registers q ≡ (w z).registers q in
            subst P (sym i) (ap (λ (s : Host). s.registers q) (put_same w from (said_to to words (w from))))
        | no c ↦ ap (λ (s : Host). s.registers q) (put_other w from (said_to to words (w from)) k c)
      ]

module _ (keeps : ℕ → Bool) (t : Tape) (v : HostId) where
  -- nothing changes where words are compared
  same_after : (r s : Reg) (w : Hosts) (k q : ℕ) → (after_do t v.0 (action.Same r s) w k).registers q ≡ (w k).registers q
  same_after r s w k q =
      elim (ℕ_discrete k v.0) [
        | yes i ↦ let P : ℕ → Type 0 = λ z. (after_do t v.0 (action.Same r s) w z).registers q ≡ (w z).registers q in
            subst P (sym i) (ap (λ (h : Host). h.registers q) (put_same w v.0 (acted (t v.0) (action.Same r s) (w v.0))))
        | no d ↦ ap (λ (h : Host). h.registers q) (put_other w v.0 (acted (t v.0) (action.Same r s) (w v.0)) k d)
      ]

  record AreSame (xs ys : List Reg) (w w' : Hosts) : Type 0 where
    kept : (k q : ℕ) → (w' k).registers q ≡ (w k).registers q
    same : keeps v.0 ≡ true → words_in (w v.0).registers xs ≡ words_in (w v.0).registers ys

  compares : (xs ys : List Reg) (w w' : Hosts) → length xs ≡ length ys → RunsGadgets keeps t (same_each v xs ys) w w' → AreSame xs ys w w'
  compares [] [] w w' many run = record { kept = λ k q. ap (λ (u : Hosts). (u k).registers q) run; same = λ is. refl }
  compares [] (y ∷ ys) w w' many run = absurd (omega (arith, many))
  compares (x ∷ xs) [] w w' many run = absurd (omega (arith, many))
  compares (x ∷ xs) (y ∷ ys) w w' many run =
      let u = after_do t v.0 (action.Same x y) w in
      let more = compares xs ys u w' (omega (arith, many)) run.1 in
      record {
        kept = λ k q. more.kept k q ∙ same_after x y w k q;
        same = λ is. ap₂ (λ (z : ℕ) (zs : List ℕ). z ∷ zs) (run.0 is) (sym (all_kept xs x y w) ∙ more.same is ∙ all_kept ys x y w);
      }
    where
      all_kept : (zs : List Reg) (x y : Reg) (w : Hosts) → words_in (after_do t v.0 (action.Same x y) w v.0).registers zs ≡ words_in (w v.0).registers zs
      all_kept [] x y w = refl
      all_kept (z ∷ zs) x y w = ap₂ (λ (a : ℕ) (as' : List ℕ). a ∷ as') (same_after x y w v.0 z.0) (all_kept zs x y w)

  -- ---- an opening
  module _ (p : HostId) (next : List ℕ) (w w' : Hosts) (apart : p.0 ≢ v.0) (held : Held) (seen : Seen) (low : seen.digest.0 + 8 ≤ slice_index next v.0) (run : RunsGadgets keeps t (revealed p v held seen next).gadgets w w') where
    abbrev hears : List Reg
    hears = register (slice_index next v.0) ∷ eight (slice_index next v.0 + 1)

    abbrev words : List ℕ
    words = run.0

    abbrev first : Hosts
    first = after_telling p.0 run.0 v.0 (register (slice_index next v.0) ∷ eight (slice_index next v.0 + 1)) w

    abbrev hash : Hosts
    hash = after_do t v.0 (action.Hash (register (slice_index next v.0 + 9)) (register (slice_index next v.0 + 1)) (register (slice_index next v.0))) first

    row : IsRow (slice_index next v.0) hears
    row = (refl, eight_row (slice_index next v.0 + 1) (slice_index next v.0 + 1) refl)

    abbrev digest : List ℕ
    digest = digest_of (words_from (first v.0).registers (slice_index next v.0 + 1) 8) ((first v.0).registers (slice_index next v.0))

    adds : Adds v.0 (slice_index next v.0 + 9) digest first hash
    adds = hash_adds t v.0 (register (slice_index next v.0 + 9)) (register (slice_index next v.0 + 1)) (register (slice_index next v.0)) first

    compared : AreSame (eight (slice_index next v.0 + 9)) (eight seen.digest.0) hash w'
    compared = compares (eight (slice_index next v.0 + 9)) (eight seen.digest.0) hash w' refl run.1.1.1

    first_below : (q : ℕ) → q < slice_index next v.0 → (first v.0).registers q ≡ (w v.0).registers q
    first_below q few = at_receiver p.0 v.0 run.0 hears w apart q ∙ each_below (w v.0).registers (slice_index next v.0) hears run.0 q row few

    still : AreStill next w w'
    still h r few =
        compared.kept h r
        ∙ elim (ℕ_discrete h v.0) [
          | yes i ↦ let P : ℕ → Type 0 = λ z. (hash z).registers r ≡ (w z).registers r in
              let there : r < slice_index next v.0 = subst (λ z. r < slice_index next z) i few in
              subst P (sym i) (adds.below r (omega (arith, there)) ∙ first_below r there)
          | no d ↦ adds.others h r d ∙ at_other p.0 v.0 run.0 hears w apart h r d
        ]

    -- the word and the nonce that were told
    told : (w' v.0).registers (slice_index next v.0) ≡ (first v.0).registers (slice_index next v.0)
    told = compared.kept v.0 (slice_index next v.0) ∙ adds.below (slice_index next v.0) (omega arith)

    row_of_eight : (f : Registers) (r : ℕ) → words_in f (eight r) ≡ words_from f r 8
    row_of_eight f r = said f r (eight r) (eight_row r r refl)
      where
        said : (f : Registers) (r : ℕ) (rs : List Reg) → IsRow r rs → words_in f rs ≡ words_from f r (length rs)
        said f r [] follows = refl
        said f r (x ∷ rs) follows = ap₂ (λ (y : ℕ) (l : List ℕ). y ∷ l) (ap f follows.0) (said f (r + 1) rs follows.1)

    digest_is : words_from (hash v.0).registers (slice_index next v.0 + 9) 8 ≡ digest
    digest_is = subst (λ n. words_from (hash v.0).registers (slice_index next v.0 + 9) n ≡ digest) (digest_count (words_from (first v.0).registers (slice_index next v.0 + 1) 8) ((first v.0).registers (slice_index next v.0))) (words_are (hash v.0).registers (slice_index next v.0 + 9) digest adds.there)

    abbrev nonce : List ℕ
    nonce = words_from (first v.0).registers (slice_index next v.0 + 1) 8

    bound : keeps v.0 ≡ true → words_from (w' v.0).registers seen.digest.0 8 ≡ digest_of nonce ((w' v.0).registers (slice_index next v.0))
    bound is =
        words_alike (w' v.0).registers (hash v.0).registers seen.digest.0 seen.digest.0 8 (λ i few. compared.kept v.0 (seen.digest.0 + i))
        ∙ sym (row_of_eight (hash v.0).registers seen.digest.0) ∙ sym (compared.same is) ∙ row_of_eight (hash v.0).registers (slice_index next v.0 + 9) ∙ digest_is ∙ ap (digest_of nonce) (sym told)

    opened : IsOpened keeps v next seen w w'
    opened = record { still = still; bound = λ is. (nonce, bound is) }

    kept_digest : words_from (w' v.0).registers seen.digest.0 8 ≡ words_from (w v.0).registers seen.digest.0 8
    kept_digest = words_alike (w' v.0).registers (w v.0).registers seen.digest.0 seen.digest.0 8 (λ i few. still v.0 (seen.digest.0 + i) (omega (arith, low, few)))

    -- the word that was told is that one, or two texts collide
    either_word : (x : ℕ) (other : List ℕ) → words_from (w v.0).registers seen.digest.0 8 ≡ digest_of other x → keeps v.0 ≡ true
        → ((w' v.0).registers (slice_index next v.0) % 2 ^ 32 ≡ x % 2 ^ 32) ⊎ Collide
    either_word x other is keep =
        elim (ℕ_discrete ((w' v.0).registers (slice_index next v.0) % 2 ^ 32) (x % 2 ^ 32)) [
          | yes e ↦ inl e
          | no d ↦ inr (
              collides nonce other ((w' v.0).registers (slice_index next v.0)) x (λ e. d (last_same nonce other ((w' v.0).registers (slice_index next v.0)) x e))
              (sym (bound keep) ∙ kept_digest ∙ is)
              )
        ]

    own_word : (x : ℕ) → (w p.0).registers held.value.0 ≡ x → keeps p.0 ≡ true → (w' v.0).registers (slice_index next v.0) ≡ x
    own_word x is keep =
        told ∙ at_receiver p.0 v.0 run.0 hears w apart (slice_index next v.0)
        ∙ ap (λ ws. put_each (w v.0).registers hears ws (slice_index next v.0)) (run.1.0.own keep)
        ∙ each_below (put (w v.0).registers (slice_index next v.0) ((w p.0).registers held.value.0)) (slice_index next v.0 + 1) (eight (slice_index next v.0 + 1)) (words_in (w p.0).registers (eight held.nonce.0)) (slice_index next v.0) (eight_row (slice_index next v.0 + 1) (slice_index next v.0 + 1) refl) (omega arith)
        ∙ put_same (w v.0).registers (slice_index next v.0) ((w p.0).registers held.value.0) ∙ is

pub commitments_bind : CommitmentsBind
commitments_bind keeps p v t next w apart = record {
  commit = λ x keep. (keep, tt);
  committed = λ held seen x is. record { digest_low = is.digest_low; value = λ keep. is.value; digest = λ keep. (words_from (w p.0).registers held.nonce.0 8, is.digest) };
  opens = λ held seen low w' run. opened keeps t v p next w w' apart held seen low run;
  gives = λ held seen x is w' run. record {
    word = λ keep. let kept = is.digest keep in either_word keeps t v p next w w' apart held seen is.digest_low run x kept.0 kept.1 keep;
    own = λ keep. own_word keeps t v p next w w' apart held seen is.digest_low run x (is.value keep) keep;
  };
}
