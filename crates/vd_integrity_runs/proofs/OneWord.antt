-- One word that a host that departs hands to copies.
use Rattle.std.proofs.Common.{◌≡◌, ◌≢◌, ℕ, ◌<◌, ◌≤◌, nat_eq, Bool, true, false, true≢false, if◌then◌else◌, List, [], ◌∷◌, ◌++◌, slice_index, refl, sym, ap, subst, ◌∙◌, arith}
use Rattle.vd_base.specs.declared.ids.HostId.{HostId}
use Rattle.vd_base.specs.Holders.{holders}
use Rattle.vd_execution.specs.declared.instructions.Reg.{Reg}
use Rattle.vd_execution.specs.Gadgets.{Tells, acts_of_gadgets}
use Rattle.vd_execution.specs.Joint.{Hosts}
use Rattle.vd_execution.specs.World.{Tape}
use Rattle.vd_duet.specs.Builder.{next_at, taken}
use Rattle.vd_duet.specs.Calls.{Made, Places}
use Rattle.vd_duet.specs.Laws.{AreKnown, Each}
use Rattle.vd_duet.proofs.Front.{taken_bounds, taken_known, taken_there}
use Rattle.vd_clear.specs.Copies.{each_made, passed}
use Rattle.vd_integrity_runs.specs.Copies.{OneWordIsRight}
use Rattle.vd_integrity_runs.specs.Departing.{AreStill, IsRightThen, RunsGadgets, SaysOne, after_telling}
use Rattle.vd_integrity_runs.proofs.Steps.{Wrote, differ_of, equal_of, heard_word, still_on, still_start, still_written}

module _ (keeps : ℕ → Bool) (t : Tape) (from : HostId) (x : Reg) (word : ℕ) (departs : keeps from.0 ≡ false) where
  abbrev SaidToAll : List HostId → Type 0
  SaidToAll hs = (next : List ℕ) (w w' : Hosts) → AreKnown hs next → (run : RunsGadgets keeps t (each_made (passed from x) hs next).gadgets w w')
      → SaysOne keeps t from.0 word (acts_of_gadgets (each_made (passed from x) hs next).gadgets) w w' run → IsRightThen keeps next (each_made (passed from x) hs next) w w' word

  said_to_more : (h : HostId) (hs : List HostId) → SaidToAll hs → SaidToAll (h ∷ hs)
  said_to_more h hs again next w w' known run says = at (nat_eq from.0 h.0) refl run says
    where
      at : (b : Bool) → nat_eq from.0 h.0 ≡ b
          → let made : Made Reg = if b then record { given = x; gadgets = []; next = next } else record { given = next_at next h; gadgets = Tells from (x ∷ []) h (next_at next h ∷ []) ∷ []; next = taken h 1 next } in
          let rest : Made Places = each_made (passed from x) hs made.next in
          (run : RunsGadgets keeps t (made.gadgets ++ rest.gadgets) w w') → SaysOne keeps t from.0 word (acts_of_gadgets (made.gadgets ++ rest.gadgets)) w w' run
          → IsRightThen keeps next (record { given = (h, made.given) ∷ rest.given; gadgets = made.gadgets ++ rest.gadgets; next = rest.next }) w w' word
      at true e run says =
          let more = again next w w' known.1 run says in
          let same : from.0 ≡ h.0 = equal_of from.0 h.0 e in
          record { still = more.still; right = (λ is. absurd (true≢false (sym is ∙ ap keeps (sym same) ∙ departs)), more.right) }
      at false e run says =
          let next' = taken h 1 next in
          let r = slice_index next h.0 in
          let there = taken_there h 1 next known.0 in
          let bounds = taken_bounds h 1 next known.0 in
          let apart : from.0 ≢ h.0 = differ_of from.0 h.0 e in
          let u = after_telling from.0 run.0 h.0 (next_at next h ∷ []) w in
          let heard : Wrote h.0 r word w u = subst (λ ws. Wrote h.0 r word w (after_telling from.0 ws h.0 (next_at next h ∷ []) w)) (sym (says.0 refl)) (heard_word from.0 word h.0 (next_at next h) w apart) in
          let longer : (k : ℕ) → slice_index next k ≤ slice_index next' k = λ k. (bounds k).0 in
          let more = again next' u w' (subst (λ n. Each (λ (k : HostId). k.0 < n) hs) (sym (taken_known h 1 next)) known.1) run.1.1 says.1 in
          let still : AreStill next w u = still_written next h.0 r word w u (omega arith) heard in
          record {
            still = still_on next next' w u w' longer still more.still;
            right = (λ is. more.still h.0 r (omega (arith, there)) ∙ heard.there, more.right);
          }

  said_to_all : (hs : List HostId) → SaidToAll hs
  said_to_all [] = λ next w w' known run says. record { still = still_start next w w' run; right = tt }
  said_to_all (h ∷ hs) = said_to_more h hs (said_to_all hs)

pub one_word_to_all_is_right : OneWordIsRight
one_word_to_all_is_right keeps p t next w w' known from x word departs run says = said_to_all keeps t from x word departs (holders p) next w w' known run says
