-- Hosts that take a step each, one after the other.
use Rattle.std.proofs.Common.{◌≡◌, ℕ, suc, ◌+◌, ◌*◌, List, [], ◌∷◌, length, refl, ap, ◌∙◌, arith}
use Rattle.vd_base.specs.declared.ids.HostId.{HostId}
use Rattle.vd_execution.specs.declared.instructions.Reg.{Reg}
use Rattle.vd_execution.specs.World.{Tape}
use Rattle.vd_execution.specs.Joint.{Hosts}
use Rattle.vd_duet.specs.Calls.{hosts_of, Made}
use Rattle.vd_duet.specs.Laws.{Each, nowhere, Gives, GivesThere, at_host, Copies}
use Rattle.vd_duet.proofs.Front.{leads_nothing, leads_on, orderly_still, orderly_on, orderly_wider, Since, since_on}
use Rattle.vd_clear.specs.Copies.{each_made}

module _ (t : Tape) (source : ℕ → ℕ → Type 0) (f : HostId → List ℕ → Made Reg) (v : ℕ) (next0 : List ℕ) (w : Hosts) (P : HostId → Type 0)
    (law : (h : HostId) → P h → (next : List ℕ) (u : Hosts) → Since next0 w next u → GivesThere 8 t next source h (f h next) u v) where
  -- copies of the word at these hosts
  abbrev pub AreCopies : List HostId → List ℕ → Hosts → Type 0
  AreCopies hs next z = (hosts_of (each_made f hs next).given ≡ hs) × Copies z (each_made f hs next).given v

  pub each_law : (hs : List HostId) → Each P hs → (next : List ℕ) (u : Hosts) → Since next0 w next u
      → Gives (8 * length hs) t next source (each_made f hs next) u (AreCopies hs next)
  each_law [] ps next u s = record {
    orderly = orderly_still (8 * 0) next source [] tt (λ h r i. absurd i);
    reached = u;
    leads = leads_nothing t next nowhere u s.sound;
    is = (refl, tt);
  }
  each_law (h ∷ hs) ps next u s =
      let one = law h ps.0 next u s in
      let more = each_law hs ps.1 (f h next).next one.reached (since_on t 8 next0 next source (at_host h (f h next)) w u one.reached s one.orderly one.leads) in
      record {
        orderly = orderly_wider (8 + 8 * length hs) (8 * suc (length hs)) next source source (each_made f (h ∷ hs) next) (omega arith) (λ k r i. i)
            (orderly_on 8 (8 * length hs) next source (at_host h (f h next)) (each_made f hs (f h next).next) one.orderly more.orderly);
        reached = more.reached;
        leads = leads_on t next (f h next).next nowhere (f h next).gadgets (each_made f hs (f h next).next).gadgets u one.reached more.reached
            one.orderly.longer one.leads more.leads;
        is = (ap (λ (l : List HostId). h ∷ l) more.is.0, (more.leads.kept h.0 (f h next).given.0 one.orderly.below.0 (λ x. x) ∙ one.is, more.is.1));
      }
