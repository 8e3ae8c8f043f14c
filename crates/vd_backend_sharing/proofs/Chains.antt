-- One call after the other, of two hosts that share words.
use Rattle.std.proofs.Common.{ℕ, ◌+◌, ◌≤◌, List, ◌++◌, ◌⊎◌, inl, inr, ap₂, ◌∙◌, arith}
use Rattle.std.specs.Prelude.{slice_index}
use Rattle.vd_base.specs.declared.ids.HostId.{HostId}
use Rattle.vd_execution.specs.Joint.{Hosts}
use Rattle.vd_execution.specs.World.{Tape}
use Rattle.vd_execution.specs.Gadgets.{Sharing, IsSound}
use Rattle.vd_duet.specs.Calls.{Places, Made}
use Rattle.vd_duet.specs.Laws.{nowhere, Gives}
use Rattle.vd_duet.proofs.Front.{leads_on, tidy_append, Since, since_start, since_on}
use Rattle.vd_backend_sharing.specs.declared.shares.PartRegisters.{PartRegisters}
use Rattle.vd_backend_sharing.specs.Sharings.{joined}
use Rattle.vd_backend_sharing.proofs.Parts.{Parts}

-- a call, and then another that is given what it needs in the state that the first leads to. What the second gives is given
pub gives_then : (count count' : ℕ) (t : Tape) (next : List ℕ) (source source' : ℕ → ℕ → Type 0) (one more : Made Places) (w : Hosts) (P Q : Hosts → Type 0)
    → IsSound w → Gives count t next source one w P → ((u : Hosts) → Since next w one.next u → P u → Gives count' t one.next source' more u Q)
    → ((h r : ℕ) → source' h r → (slice_index next h ≤ r) ⊎ source h r)
    → Gives (count + count') t next source (record { given = more.given; gadgets = one.gadgets ++ more.gadgets; next = more.next }) w Q
gives_then count count' t next source source' one more w P Q sound a f fresh_or_named =
    let since : Since next w one.next a.reached = since_on t count next next source one w w a.reached (since_start next w sound) a.orderly a.leads in
    let b = f a.reached since a.is in
    record {
      orderly = record {
        tidy = tidy_append one.gadgets more.gadgets a.orderly.tidy b.orderly.tidy;
        few = (b.orderly.few.0 ∙ a.orderly.few.0, λ h. let p = a.orderly.few.1 h in let q = b.orderly.few.1 h in omega (arith, p, q));
        longer = λ h. let p = a.orderly.longer h in let q = b.orderly.longer h in omega (arith, p, q);
        below = b.orderly.below;
        from = λ h r i. later h r (b.orderly.from h r i);
      };
      reached = b.reached;
      leads = leads_on t next one.next nowhere one.gadgets more.gadgets w a.reached b.reached a.orderly.longer a.leads b.leads;
      is = b.is;
    }
  where
    later : (h r : ℕ) → (slice_index one.next h ≤ r) ⊎ source' h r → (slice_index next h ≤ r) ⊎ source h r
    later h r (inl low) = inl (let l = a.orderly.longer h in omega (arith, l, low))
    later h r (inr s) = fresh_or_named h r s

-- parts stand for their word later too
pub parts_later : (s : Sharing) (a b : HostId) (next next' : List ℕ) (w u : Hosts) (x : PartRegisters) (v : ℕ) → Since next w next' u → Parts s a b next w x v → Parts s a b next' u x v
parts_later s a b next next' w u x v since p = record {
  first_low = (let l = since.longer a.0 in let q = p.first_low in omega (arith, l, q));
  second_low = (let l = since.longer b.0 in let q = p.second_low in omega (arith, l, q));
  word = ap₂ (joined s) (since.kept a.0 x.first.0 p.first_low) (since.kept b.0 x.second.0 p.second_low) ∙ p.word;
}
