-- Hosts that take a step each, one after the other.
use Rattle.std.proofs.Common.{◌≡◌, ℕ, ◌≤◌, Bool, List, [], ◌∷◌, length, slice_index, refl, ◌∙◌, arith}
use Rattle.vd_base.specs.declared.ids.HostId.{HostId}
use Rattle.vd_execution.specs.declared.instructions.Reg.{Reg}
use Rattle.vd_execution.specs.Joint.{Hosts}
use Rattle.vd_execution.specs.World.{Tape}
use Rattle.vd_duet.specs.Calls.{Made}
use Rattle.vd_duet.specs.Laws.{Each}
use Rattle.vd_clear.specs.Copies.{each_made}
use Rattle.vd_integrity_runs.specs.Departing.{AreStill, IsRightThen, RunsGadgets}
use Rattle.vd_integrity_runs.proofs.Steps.{gadgets_parts, still_on, still_start}
use Rattle.vd_integrity_runs.proofs.Local.{IsStep}

-- a state that is reached from another, with the next free registers
pub record IsSince (next : List ℕ) (w : Hosts) (next' : List ℕ) (u : Hosts) : Type 0 where
  pub still : AreStill next w u
  pub longer : (k : ℕ) → slice_index next k ≤ slice_index next' k
  pub known : length next' ≡ length next

module _ (keeps : ℕ → Bool) (t : Tape) (f : HostId → List ℕ → Made Reg) (v : ℕ) (next0 : List ℕ) (w : Hosts) (P : HostId → Type 0)
    (law : (h : HostId) → P h → (next : List ℕ) (u u' : Hosts) → IsSince next0 w next u → RunsGadgets keeps t (f h next).gadgets u u' → IsStep keeps next h (f h next) u u' v) where
  each_right : (hs : List HostId) → Each P hs → (next : List ℕ) (u u' : Hosts) → IsSince next0 w next u → RunsGadgets keeps t (each_made f hs next).gadgets u u' → IsRightThen keeps next (each_made f hs next) u u' v
  each_right [] ps next u u' since run = record { still = still_start next u u' run; right = tt }
  each_right (h ∷ hs) ps next u u' since run =
      let parts = gadgets_parts keeps t (f h next).gadgets (each_made f hs (f h next).next).gadgets u u' run in
      let m = parts.0 in
      let one = law h ps.0 next u m since parts.1.0 in
      let next' = (f h next).next in
      let longer = one.longer in
      let since' : IsSince next0 w next' m = record {
        still = still_on next0 next w u m since.longer since.still one.still;
        longer = λ k. let a = since.longer k in let b = longer k in omega (arith, a, b);
        known = one.known ∙ since.known;
      } in
      let more = each_right hs ps.1 next' m u' since' parts.1.1 in
      record {
        still = still_on next next' u m u' longer one.still more.still;
        right = (λ is. more.still h.0 (f h next).given.0 one.low ∙ one.right is, more.right);
      }

  pub all_right : (hs : List HostId) → Each P hs → (u' : Hosts) → RunsGadgets keeps t (each_made f hs next0).gadgets w u' → IsRightThen keeps next0 (each_made f hs next0) w u' v
  all_right hs ps u' run = each_right hs ps next0 w u' (record { still = λ h r low. refl; longer = λ k. omega arith; known = refl }) run
