-- A commitment is made from a word in clear, and shown.
use Rattle.std.proofs.Common.{◌≡◌, ℕ, ◌+◌, ◌<◌, ◌≤◌, List, [], ◌∷◌, ◌⊎◌, inl, inr, slice_index, length, drop, refl, sym, ap, subst, subst₂, ◌∙◌, arith}
use Rattle.vd_base.specs.declared.ids.HostId.{HostId}
use Rattle.vd_base.specs.declared.protocols.HostSet.{HostSet}
use Rattle.vd_base.specs.declared.protocols.Proto.TheVariants.{Local, Rep, Commit}
use Rattle.vd_base.specs.HostSets.{host}
use Rattle.vd_base.specs.Holders.{holders}
use Rattle.vd_execution.specs.declared.instructions.Reg.{Reg}
use Rattle.vd_execution.specs.Registers.{words_from, digest_of}
use Rattle.vd_execution.specs.World.{Tape}
use Rattle.vd_execution.specs.Deals.{IsValidDeal}
use Rattle.vd_execution.specs.Joint.{Hosts}
use Rattle.vd_execution.specs.Text.{register}
use Rattle.vd_duet.specs.Builder.{most_taken, taken}
use Rattle.vd_duet.specs.Calls.{Places, hosts_of, Made}
use Rattle.vd_duet.specs.Laws.{IsIn, IsHost, Copies, nowhere, at_host, Gives as DuetGives, GivesWord, GivesThere, Operand as DuetOperand}
use Rattle.vd_duet.proofs.Front.{leads_nothing, orderly_still, orderly_fresh, taken_known, taken_there, taken_bounds}
use Rattle.vd_clear.specs.Copies.{clear_calls}
use Rattle.vd_commit.specs.declared.ends.Held.{Held}
use Rattle.vd_commit.specs.declared.ends.Seen.{Seen}
use Rattle.vd_commit.specs.Commit.{committed, revealed}
use Rattle.vd_commit.specs.Law.{IsCommitted, AreReady, LeadsTo}
use Rattle.vd_commit.proofs.Front.{binds, reveals}
use Rattle.vd_split.specs.Suite.{Word, Gives, Ready, Operand, nothing}
use Rattle.vd_backend_laws.specs.Commits.{committed_at, held_of, seen_of, taken_over, bound, shown_to_all}
use Rattle.vd_backend_laws.specs.Moves.{only, shown_each}
use Rattle.vd_backend_laws.specs.Parts.{Parts, word_in, made_of}
use Rattle.vd_backend_laws.specs.Suite.{Names, IsBound, IsOver}
use Rattle.vd_backend_laws.proofs.BoundParts.{value_in, nonce_in, digest_in, IsPart, which_part}
use Rattle.vd_backend_laws.proofs.Standing.{names_in, in_names}
use Rattle.vd_backend_laws.proofs.Over.{bound_differ}
use Rattle.vd_backend_laws.proofs.Moves.{Sole, sole, copies_give}
use Rattle.vd_backend_laws.proofs.Gives.{M, S, leads_as, operand_at}

-- ---- it is shown

module _ (p v : HostId) (t : Tape) (next : List ℕ) (w : Hosts) (ready : AreReady p v t next w) (x : Places) (n : ℕ) (c : IsCommitted p v next w (held_of x) (seen_of x) n)
    (named : IsIn x p.0 (held_of x).value.0) where
  opening : LeadsTo t next (revealed p v (held_of x) (seen_of x) next) w (λ u. (u v.0).registers (slice_index next v.0) ≡ n)
  opening = reveals p v t next w ready (held_of x) (seen_of x) n c

  -- the other host computes the digest anew, and has the value
  there : GivesThere most_taken t next (IsIn x) v (revealed p v (held_of x) (seen_of x) next) w n
  there = record {
    orderly = orderly_fresh v 17 most_taken next (IsIn x) (revealed p v (held_of x) (seen_of x) next).gadgets (register (slice_index next v.0)) ready.second (omega arith)
        opening.tidy (omega arith) (omega arith);
    reached = opening.reached;
    leads = opening.leads;
    is = opening.is;
  }

  -- the host that is bound has the value
  here : GivesThere most_taken t next (IsIn x) p (taken_over (held_of x).value next) w n
  here = record {
    orderly = orderly_still most_taken next (IsIn x) ((p, (held_of x).value) ∷ []) (c.value_low, tt) (λ h r i. at h r i);
    reached = w;
    leads = leads_nothing t next nowhere w ready.sound;
    is = c.value;
  }
    where
      at : (h r : ℕ) → ((h ≡ p.0) × (r ≡ (held_of x).value.0)) ⊎ ⊥ → IsIn x h r
      at h r (inl e) = subst₂ (IsIn x) (sym e.0) (sym e.1) named
      at h r (inr e) = absurd e

  -- both have it
  both : DuetGives most_taken t next (IsIn x) (shown_to_all p v x next) w (λ u. (hosts_of (shown_to_all p v x next).given ≡ p ∷ v ∷ []) × Copies u (shown_to_all p v x next).given n)
  both =
      let longer : (h : ℕ) → slice_index next h ≤ slice_index (taken v 17 next) h = λ h. (taken_bounds v 17 next ready.second h).0 in
      record {
        orderly = record {
          tidy = opening.tidy;
          few = opening.few;
          longer = longer;
          below = (
            (let a = c.value_low in let b = longer p.0 in omega (arith, a, b)),
            ((let a = taken_there v 17 next ready.second in omega (arith, a)), tt),
          );
          from = λ h r i. at h r i;
        };
        reached = opening.reached;
        leads = opening.leads;
        is = (refl, (opening.leads.kept p.0 (held_of x).value.0 c.value_low (λ z. z) ∙ c.value, (opening.is, tt)));
      }
    where
      at : (h r : ℕ) → ((h ≡ p.0) × (r ≡ (held_of x).value.0)) ⊎ (((h ≡ v.0) × (r ≡ slice_index next v.0)) ⊎ ⊥) → (slice_index next h ≤ r) ⊎ IsIn x h r
      at h r (inl e) = inr (subst₂ (IsIn x) (sym e.0) (sym e.1) named)
      at h r (inr (inl e)) = inl (subst₂ (λ a b. slice_index next a ≤ b) (sym e.0) (sym e.1) (omega arith))
      at h r (inr (inr e)) = absurd e

  -- what one host is given stands there in clear
  in_clear_at : (k : HostId) (made : Made Reg) → GivesThere most_taken t next (IsIn x) k made w n → GivesWord (clear_calls (Local k)) t next (IsIn x) (at_host k made) w n
  in_clear_at k made g = record {
    orderly = g.orderly;
    reached = g.reached;
    leads = g.leads;
    is = record { at = refl; word = ap (λ (z : ℕ). z ∷ []) g.is };
  }

  pub shown_there : (k : HostId) → k.0 ≡ v.0 → GivesWord (clear_calls (Local k)) t next (IsIn x) (at_host k (revealed p v (held_of x) (seen_of x) next)) w n
  shown_there k e =
      let made : Made Reg = revealed p v (held_of x) (seen_of x) next in
      subst (λ (z : ℕ). GivesWord (clear_calls (Local (host z))) t next (IsIn x) (at_host (host z) made) w n) (sym e) (in_clear_at v made there)

  pub shown_here : (k : HostId) → k.0 ≡ p.0 → GivesWord (clear_calls (Local k)) t next (IsIn x) (at_host k (taken_over (held_of x).value next)) w n
  shown_here k e =
      let made : Made Reg = taken_over (held_of x).value next in
      subst (λ (z : ℕ). GivesWord (clear_calls (Local (host z))) t next (IsIn x) (at_host (host z) made) w n) (sym e) (in_clear_at p made here)

  pub shown_at_both : (set : HostSet) → ((h : ℕ) → IsHost (holders (Rep set)) h → IsHost (p ∷ v ∷ []) h)
      → GivesWord (clear_calls (Rep set)) t next (IsIn x) (shown_each (holders (Rep set)) (shown_to_all p v x next)) w n
  shown_at_both set among = copies_give (clear_calls (Rep set)) set refl t next w (IsIn x) (shown_to_all p v x next) n (p ∷ v ∷ []) among both

-- ---- as calls of the suite

module _ (t : Tape) (deal : IsValidDeal t) (inputs : ℕ → List ℕ) (hosts : ℕ) where
  pub both_ready : (p v : HostId) → IsOver hosts (Commit p v) → (next : List ℕ) (w : Hosts) → Ready (M t inputs hosts) (S t inputs hosts) next w → AreReady p v t next w
  both_ready p v d next w r = record {
    apart = bound_differ p v d.ordered;
    deal = deal;
    sound = r.sound;
    first = subst (λ (n : ℕ). p.0 < n) (sym r.known) d.known.0;
    second = subst (λ (n : ℕ). v.0 < n) (sym r.known) d.known.1.0;
  }

  -- an operand is a commitment, as its law asks
  pub is_committed : (p v : HostId) (next : List ℕ) (w : Hosts) (x : Parts) (n : ℕ) → Operand (M t inputs hosts) (S t inputs hosts) next w (Commit p v) x n
      → IsCommitted p v next w (held_of x.at) (seen_of x.at) n
  is_committed p v next w x n o =
      let s : IsBound w p v x n = o.stands in
      let low : (h r : ℕ) → IsIn x.at h r → r < slice_index next h = λ h r i. o.below h r (in_names x h r s.size i) in
      record {
        value_low = low p.0 (held_of x.at).value.0 (value_in p v x.at s.at);
        nonce_low = (let k = low p.0 ((held_of x.at).nonce.0 + 7) (nonce_in p v x.at s.at 7 (omega arith)) in omega (arith, k));
        digest_low = (let k = low v.0 ((seen_of x.at).digest.0 + 7) (digest_in p v x.at s.at 7 (omega arith)) in omega (arith, k));
        value = s.value;
        digest = s.digest;
      }

  pub bind_law : (p v : HostId) → IsOver hosts (Commit p v) → (x : Parts) (n : ℕ) (next : List ℕ) (w : Hosts) → Ready (M t inputs hosts) (S t inputs hosts) next w
      → Operand (M t inputs hosts) (S t inputs hosts) next w (Local p) x n
      → Gives (M t inputs hosts) (S t inputs hosts) next (Names x) (made_of (bound p v (only x.at) next)) w (Commit p v) (Word n)
  bind_law p v d x n next w r o =
      let ready : AreReady p v t next w = both_ready p v d next w r in
      let operand : DuetOperand (clear_calls (Local p)) next w x.at n = operand_at t inputs hosts (clear_calls (Local p)) next w (Local p) x n refl refl o in
      let s : Sole p next w x.at n = sole (clear_calls (Local p)) p next w x.at n refl operand.stands.at operand in
      let g = binds p v t next w ready (only x.at) s.low in
      let second : v.0 < length (taken p 16 next) = (let k = taken_known p 16 next in let l = ready.second in omega (arith, k, l)) in
      let first_longer : (h : ℕ) → slice_index next h ≤ slice_index (taken p 16 next) h = λ h. (taken_bounds p 16 next ready.first h).0 in
      record {
        reached = g.reached;
        leads = leads_as t inputs hosts next nowhere nothing (bound p v (only x.at) next).gadgets w g.reached (λ h q z. z) g.tidy g.leads;
        quiet = record { printed = g.leads.printed; waiting = λ h. ap (λ (k : ℕ). drop k (inputs h)) (g.leads.inputs h) };
        fresh = record {
          known = g.few.0;
          longer = λ h. let a = first_longer h in let b = (taken_bounds v 8 (taken p 16 next) second h).0 in omega (arith, a, b);
          below = λ h q i. below g.reached ((w p.0).registers (only x.at).0) g.is h q (which_part p v ends h q (names_in (word_in (committed_at p v ends)) h q refl i));
          from = λ h q i. from s first_longer h q (which_part p v ends h q (names_in (word_in (committed_at p v ends)) h q refl i));
        };
        stands = record {
          size = refl;
          at = refl;
          value = g.is.value ∙ s.here;
          digest = g.is.digest ∙ ap (λ (z : ℕ). digest_of (words_from (g.reached p.0).registers (slice_index next p.0) 8) z) s.here;
        };
      }
    where
      ends : Held × Seen
      ends = (record { value = only x.at; nonce = register (slice_index next p.0) }, record { digest = register (slice_index (taken p 16 next) v.0) })

      below : (u : Hosts) (z : ℕ) → IsCommitted p v (committed p v (only x.at) next).next u ends.0 ends.1 z → (h q : ℕ) → IsPart p v ends h q → q < slice_index (committed p v (only x.at) next).next h
      below u z c h q (inl e) = subst₂ (λ (a b : ℕ). b < slice_index (committed p v (only x.at) next).next a) (sym e.0) (sym e.1) c.value_low
      below u z c h q (inr (inl e)) = subst (λ (a : ℕ). q < slice_index (committed p v (only x.at) next).next a) (sym e.0) (let k = c.nonce_low in let l = e.2 in omega (arith, k, l))
      below u z c h q (inr (inr e)) = subst (λ (a : ℕ). q < slice_index (committed p v (only x.at) next).next a) (sym e.0) (let k = c.digest_low in let l = e.2 in omega (arith, k, l))

      -- the value stays in its register, and all others are fresh
      from : Sole p next w x.at n → ((h : ℕ) → slice_index next h ≤ slice_index (taken p 16 next) h) → (h q : ℕ) → IsPart p v ends h q → (slice_index next h ≤ q) ⊎ Names x h q
      from s longer h q (inl e) = inr (subst₂ (λ (a b : ℕ). Names x a b) (sym e.0) (sym e.1) (in_names x p.0 (only x.at).0 o.stands.size s.named))
      from s longer h q (inr (inl e)) = inl (subst (λ (a : ℕ). slice_index next a ≤ q) (sym e.0) e.1)
      from s longer h q (inr (inr e)) = inl (subst (λ (a : ℕ). slice_index next a ≤ q) (sym e.0) (let k = longer v.0 in let l = e.1 in omega (arith, k, l)))
