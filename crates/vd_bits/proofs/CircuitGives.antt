-- What gates give, one after the other.
use Rattle.std.proofs.Common.{◌≡◌, ◌≢◌, ℕ, zero, suc, ◌+◌, ◌-◌, ◌*◌, ◌<◌, ◌≤◌, nat_lt, Bool, true, IsTrue, List, [], ◌∷◌, ◌++◌, ◌⊎◌, inl, inr, length, refl, sym, ap, subst, ◌∙◌, arith, length-append}
use Rattle.std.specs.Prelude.{slice_index}
use Rattle.std.specs.List.{list_all}
use Rattle.vd_base.specs.declared.ids.HostId.{HostId}
use Rattle.vd_base.specs.declared.operations.Op.{Op}
use Rattle.vd_execution.specs.Joint.{Hosts}
use Rattle.vd_execution.specs.World.{Tape}
use Rattle.vd_execution.specs.Gadgets.{ByXors}
use Rattle.vd_duet.specs.Calls.{Places, Made}
use Rattle.vd_duet.specs.Laws.{nowhere, IsIn, Gives, StandFor, IsReady}
use Rattle.vd_duet.proofs.Front.{leads_nothing, orderly_still, Since}
use Rattle.vd_backend_sharing.specs.Gates.{Gate, taken_by, are_in_order, after, newest, made_by}
use Rattle.vd_backend_sharing.specs.declared.shares.PartRegisters.{PartRegisters}
use Rattle.vd_backend_sharing.specs.PairCalls.{places_at, at_hosts, pair_calls}
use Rattle.vd_backend_sharing.proofs.Front.{both_first, both_second, Parts, stands_by, gives_then}
use Rattle.vd_bits.specs.BitCalls.{parts_at, newest_of, gate_shares, gates_shares}
use Rattle.vd_bits.proofs.Places.{AreParts, AreFrom, parts_there, from_there, same_count, parts_more, from_more}
use Rattle.vd_bits.proofs.GateGives.{gate_gives}

-- the registers that gates take of one host, at most
abbrev pub steps : List Gate → ℕ
steps [] = 0
steps (g ∷ gates) = 32 + steps gates

pub steps_are : (gates : List Gate) → steps gates ≡ 32 * length gates
steps_are [] = refl
steps_are (g ∷ gates) = (let e = steps_are gates in omega (arith, e))

one_longer : (words : List PartRegisters) (x : PartRegisters) (n : ℕ) → n ≡ length words → suc n ≡ length (words ++ x ∷ [])
one_longer words x n e = let l = length-append words (x ∷ []) in omega (arith, l, e)

module _ (a b : HostId) (apart : a.0 ≢ b.0) (serves : Op → Bool) (apply : Op → List Places → List ℕ → Made PartRegisters) (t : Tape) where
  abbrev GivesNewest : List Gate → List ℕ → Hosts → (ℕ → ℕ → Type 0) → List PartRegisters → List ℕ → Type 0
  GivesNewest gates next w source words vs =
      Gives (steps gates) t next source (at_hosts a b (gates_shares a b gates words next)) w
      (λ u. StandFor (pair_calls ByXors a b serves apply) u (places_at a b (gates_shares a b gates words next).given) (newest (after gates vs)))

  newest_there : (next : List ℕ) (w : Hosts) (words : List PartRegisters) (vs : List ℕ) → AreParts a b next w words vs → 0 < length words
      → Parts ByXors a b next w (newest_of words) (newest vs)
  newest_there next w words vs p some =
      subst (λ (n : ℕ). Parts ByXors a b next w (newest_of words) (slice_index vs (n - 1))) (same_count a b next w words vs p)
      (parts_there a b next w words vs p (length words - 1) (omega (arith, some)))

  last_gives : (next : List ℕ) (w : Hosts) → IsReady (pair_calls ByXors a b serves apply) t next w → (source : ℕ → ℕ → Type 0) (words : List PartRegisters) (vs : List ℕ)
      → AreParts a b next w words vs → AreFrom source a b words → 0 < length words → GivesNewest [] next w source words vs
  last_gives next w ready source words vs parts from some =
      let x : PartRegisters = newest_of words in
      let p : Parts ByXors a b next w (newest_of words) (newest vs) = newest_there next w words vs parts some in
      let f = from_there source a b words from (length words - 1) (omega (arith, some)) in
      record {
        orderly = orderly_still 0 next source (places_at a b (newest_of words)) (p.first_low, (p.second_low, tt)) (λ h r i. named f h r i);
        reached = w;
        leads = leads_nothing t next nowhere w ready.sound;
        is = stands_by a b serves apply ByXors w x.first x.second (newest vs) p.word;
      }
    where
      named : source a.0 (newest_of words).first.0 × source b.0 (newest_of words).second.0 → (h r : ℕ) → IsIn (places_at a b (newest_of words)) h r → source h r
      named f h r (inl i) =
          let P : ℕ → Type 0 = λ z. source z r in let Q : ℕ → Type 0 = λ z. source a.0 z in subst P (sym i.0) (subst Q (sym i.1) f.0)
      named f h r (inr (inl i)) =
          let P : ℕ → Type 0 = λ z. source z r in let Q : ℕ → Type 0 = λ z. source b.0 z in subst P (sym i.0) (subst Q (sym i.1) f.1)
      named f h r (inr (inr i)) = absurd i

  pub gates_give : (gates : List Gate) (next : List ℕ) (w : Hosts) → IsReady (pair_calls ByXors a b serves apply) t next w → (source : ℕ → ℕ → Type 0)
      (words : List PartRegisters) (vs : List ℕ) → AreParts a b next w words vs → AreFrom source a b words → 0 < length words + length gates
      → (n : ℕ) → n ≡ length words → are_in_order n gates ≡ true → GivesNewest gates next w source words vs
  gates_give [] next w ready source words vs parts from some n count order = last_gives next w ready source words vs parts from (omega (arith, some))
  gates_give (g ∷ gates) next w ready source words vs parts from some n count order =
      let made : Made PartRegisters = gate_shares a b g words next in
      let rest : Made PartRegisters = gates_shares a b gates (words ++ made.given ∷ []) made.next in
      let there : list_all (λ place. nat_lt place (length words)) (taken_by g) ≡ true =
      subst (λ (m : ℕ). list_all (λ place. nat_lt place m) (taken_by g) ≡ true) count (both_first (list_all (λ place. nat_lt place n) (taken_by g)) (are_in_order (suc n) gates) order) in
      let one = gate_gives a b apart serves apply t next w ready source g words vs parts from there in
      let source' : ℕ → ℕ → Type 0 = λ h r. (slice_index next h ≤ r) ⊎ source h r in
      gives_then 32 (steps gates) t next source source' (at_hosts a b made) (at_hosts a b rest) w
      (λ u. StandFor (pair_calls ByXors a b serves apply) u (places_at a b made.given) (made_by g vs))
      (λ u. StandFor (pair_calls ByXors a b serves apply) u (places_at a b rest.given) (newest (after gates (vs ++ made_by g vs ∷ []))))
      ready.sound one
      (λ u since is.
      gates_give gates made.next u
      (record {
        deal = ready.deal;
        sound = since.sound;
        known = (
          (let k = ready.known.0 in let l = since.known in omega (arith, k, l)),
          ((let k = ready.known.1.0 in let l = since.known in omega (arith, k, l)), tt),
        );
      })
      source' (words ++ made.given ∷ []) (vs ++ made_by g vs ∷ [])
      (parts_more a b next made.next w u words vs made.given (made_by g vs) since parts
      (record { first_low = one.orderly.below.0; second_low = one.orderly.below.1.0; word = is.word }))
      (from_more source source' a b words made.given (λ h r s. inr s) from
      (one.orderly.from a.0 made.given.first.0 (inl (refl, refl)), one.orderly.from b.0 made.given.second.0 (inr (inl (refl, refl)))))
      (let l = length-append words (made.given ∷ []) in omega (arith, l)) (suc n) (one_longer words made.given n count)
      (both_second (list_all (λ place. nat_lt place n) (taken_by g)) (are_in_order (suc n) gates) order))
      (λ h r s. s)
