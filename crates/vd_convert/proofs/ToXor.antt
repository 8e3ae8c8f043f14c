-- A word shared by sums becomes one shared by exclusive or.
use Rattle.std.proofs.Common.{◌≡◌, ◌≢◌, ℕ, ◌+◌, ◌≤◌, List, [], ◌∷◌, ◌++◌, inl, inr, refl, ap₂, subst, ◌∙◌, arith, lit≤, bit_xor}
use Rattle.vd_base.specs.declared.ids.HostId.{HostId}
use Rattle.vd_base.specs.declared.operations.Op.TheVariants as op
use Rattle.vd_execution.specs.declared.instructions.Binary.TheVariants as binary
use Rattle.vd_execution.specs.Joint.{Hosts}
use Rattle.vd_execution.specs.World.{Tape}
use Rattle.vd_execution.specs.Gadgets.{BySums, ByXors}
use Rattle.vd_duet.specs.Builder.{most_taken}
use Rattle.vd_duet.specs.Calls.{Places, Made}
use Rattle.vd_duet.specs.Laws.{IsIn, IsInOne, Gives, GivesWord, StandFor, Operand, IsReady}
use Rattle.vd_backend_sharing.proofs.Front.{taken_off, put_on}
use Rattle.vd_backend_sharing.specs.declared.shares.PartRegisters.{PartRegisters}
use Rattle.vd_backend_sharing.specs.PairCalls.{two, shares_of, places_at}
use Rattle.vd_backend_sharing.proofs.Front.{First, Second, Old, New, BothGive, Applied, nothing_left, own_word, pair_at, fresh_gives, Parts, parts_of, both_known, stands_by, gives_then}
use Rattle.vd_words.specs.AddCalls.{add_serves, add_apply, add_calls}
use Rattle.vd_bits.specs.BitCalls.{circuit_shares, computed, bit_serves, bit_calls}
use Rattle.vd_bits.proofs.Front.{gives_wider, circuit_gives_few}
use Rattle.vd_convert.specs.Convert.{masking, masked_parts, to_xor_made}

-- the parts of two words
abbrev Hold : Hosts → Places → ℕ → ℕ → Type 0
Hold u (p ∷ q ∷ r ∷ s ∷ []) x y =
    (bit_xor ((u p.0.0).registers p.1.0) ((u q.0.0).registers q.1.0) ≡ x) × (bit_xor ((u r.0.0).registers r.1.0) ((u s.0.0).registers s.1.0) ≡ y)
Hold u l x y = ⊥

-- a register of one of two words
either_word : (a b : HostId) (p q : PartRegisters) (h r : ℕ) → IsInOne (places_at a b p ∷ places_at a b q ∷ []) h r → IsIn (places_at a b p ++ places_at a b q) h r
either_word a b p q h r (inl (inl i)) = inl i
either_word a b p q h r (inl (inr (inl i))) = inr (inl i)
either_word a b p q h r (inl (inr (inr i))) = absurd i
either_word a b p q h r (inr (inl i)) = inr (inr i)
either_word a b p q h r (inr (inr i)) = absurd i

module _ (a b : HostId) (apart : a.0 ≢ b.0) (t : Tape) (next : List ℕ) (w : Hosts) (ready : IsReady (add_calls a b) t next w) (x : Places) (v : ℕ)
    (o : Operand (add_calls a b) next w x v) where
  abbrev words_there : List ℕ → Made Places
  words_there n = record {
    given = places_at a b (masked_parts a b (shares_of x) next).given.0 ++ places_at a b (masked_parts a b (shares_of x) next).given.1;
    gadgets = (masked_parts a b (shares_of x) next).gadgets;
    next = (masked_parts a b (shares_of x) next).next;
  }

  masked_gives : Gives 32 t next (IsIn x) (words_there next) w
      (λ u. Hold u (words_there next).given ((w a.0).registers (shares_of x).first.0) ((w b.0).registers (shares_of x).second.0))
  masked_gives =
      let p : Parts BySums a b next w (shares_of x) v = parts_of a b add_serves (add_apply a b) BySums next w x v o in
      let known = both_known a b add_serves (add_apply a b) BySums next ready.known in
      let y : PartRegisters = shares_of x in
      let x0 : ℕ = (w a.0).registers (shares_of x).first.0 in
      let x1 : ℕ = (w b.0).registers (shares_of x).second.0 in
      let own0 : ℕ = own_word t (pair_at a b ((shares_of x).first ∷ []) ((shares_of x).second ∷ []) next) w nothing_left First in
      let own1 : ℕ = own_word t (pair_at a b ((shares_of x).first ∷ []) ((shares_of x).second ∷ []) next) w nothing_left Second in
      fresh_gives t ready.deal next w ready.sound a b apart known.0 known.1 ((shares_of x).first ∷ []) ((shares_of x).second ∷ []) (p.first_low, tt) (p.second_low, tt) 32 3 3 (IsIn x)
      (λ n m. places_at a b (two (n + 2) (m + 1)) ++ places_at a b (two (n + 1) (m + 2))) (masking a b (shares_of x))
      (λ l u. Hold u l ((w a.0).registers (shares_of x).first.0) ((w b.0).registers (shares_of x).second.0))
      (BothGive ∷ Applied First binary.Xor (Old 0) (New 0) ∷ Applied Second binary.Xor (Old 0) (New 0) ∷ [])
      ((First, New 2) ∷ (Second, New 1) ∷ (First, New 1) ∷ (Second, New 2) ∷ []) refl refl refl (tt, (tt, (tt, tt))) refl (tt, (tt, (tt, (tt, tt)))) refl refl (lit≤ tt) (lit≤ tt)
      (λ u h. (
        ap₂ (λ (i j : ℕ). bit_xor i j) h.0 h.1.0 ∙ taken_off ((w a.0).registers (shares_of x).first.0) (own_word t (pair_at a b ((shares_of x).first ∷ []) ((shares_of x).second ∷ []) next) w nothing_left First),
        ap₂ (λ (i j : ℕ). bit_xor i j) h.1.1.0 h.1.1.1.0 ∙ put_on ((w b.0).registers (shares_of x).second.0) (own_word t (pair_at a b ((shares_of x).first ∷ []) ((shares_of x).second ∷ []) next) w nothing_left Second),
      ))

  pub to_xor_gives : GivesWord (bit_calls a b) t next (IsIn x) (to_xor_made a b x next) w v
  to_xor_gives =
      let p : Parts BySums a b next w (shares_of x) v = parts_of a b add_serves (add_apply a b) BySums next w x v o in
      let made : Made (PartRegisters × PartRegisters) = masked_parts a b (shares_of x) next in
      let one = masked_gives in
      let below = one.orderly.below in
      let xs : List Places = places_at a b made.given.0 ∷ places_at a b made.given.1 ∷ [] in
      let x0 : ℕ = (w a.0).registers (shares_of x).first.0 in
      let x1 : ℕ = (w b.0).registers (shares_of x).second.0 in
      let Is : Hosts → Type 0 = λ u. StandFor (bit_calls a b) u (to_xor_made a b x next).given v in
      gives_wider 1056 most_taken t next (IsIn x) w Is (lit≤ tt)
      (gives_then 32 1024 t next (IsIn x) (IsInOne xs) (words_there next) (computed a b op.Add xs made.next) w (λ u. Hold u (words_there next).given x0 x1) Is ready.sound one
      (λ u since is.
      subst (λ (z : ℕ). Gives 1024 t made.next (IsInOne xs) (computed a b op.Add xs made.next) u (λ q. StandFor (bit_calls a b) q (to_xor_made a b x next).given z)) p.word
      (circuit_gives_few a b apart bit_serves (circuit_shares a b) t made.next u
      (record {
        deal = ready.deal;
        sound = since.sound;
        known = (
          (let k = ready.known.0 in let l = since.known in omega (arith, k, l)),
          ((let k = ready.known.1.0 in let l = since.known in omega (arith, k, l)), tt),
        );
      })
      op.Add refl xs (x0 ∷ x1 ∷ []) refl (
        record { below = (below.0, (below.1.0, tt)); stands = stands_by a b bit_serves (circuit_shares a b) ByXors u made.given.0.first made.given.0.second x0 is.0 },
        (
          record { below = (below.1.1.0, (below.1.1.1.0, tt)); stands = stands_by a b bit_serves (circuit_shares a b) ByXors u made.given.1.first made.given.1.second x1 is.1 },
          tt,
        ),
      )))
      (λ h r i. one.orderly.from h r (either_word a b made.given.0 made.given.1 h r i)))
