-- A host that has ended is where the joint run leaves it.
use Rattle.std.proofs.Common.{◌≡◌, ℕ, Some, refl, sym, ap, ◌∙◌, subst, inl, inr}
use Rattle.vd_execution.specs.Code.{Finished}
use Rattle.vd_execution.specs.Step.{Need, answer, need}
use Rattle.vd_execution.specs.Schedule.{Steps}
use Rattle.vd_execution.specs.World.{Local, World, Supply, given, step, run, moved_on}
use Rattle.vd_execution.specs.Joint.{started, at_end}
use Rattle.vd_execution.specs.Claims.{last_of, order_of}
use Rattle.vd_execution.proofs.Puts.{same_or_not, put_other}
use Rattle.vd_execution.proofs.Confluence.{steps_keep}
use Rattle.vd_execution.proofs.Diamond.{stepped}
use Rattle.vd_execution.proofs.Reached.{twin, remaining, ended_needs}
use Rattle.vd_execution.proofs.Compiled.{in_program_order}
use Rattle.vd_execution.specs.Histories.{EndedHostsAreWhole}
use Rattle.vd_execution.proofs.Following.{order_ended, reached_by, twin_well}

-- no step of a host is one of a host that has ended
stays_by : (s : Supply) (h : ℕ) (l : Local) → l.state.pending ≡ Finished → (g : ℕ) (w u : World) → step s g w ≡ Some u → w h ≡ l → u h ≡ l
stays_by s h l over g w u e is =
    let a = stepped s g w u e in
    elim (same_or_not h g) [
      | inl same ↦
          let there : w g ≡ l = ap w (sym same) ∙ is in
          let none : need (w g).state ≡ need l.state = ap (λ (k : Local). need k.state) there in
          let able = subst (λ (n : Need). answer (given s w g (w g)) (w g).state.cursors n ≡ Some a.words) (none ∙ ended_needs l over) a.able in
          absurd cc
      | inr other ↦ ap (λ (x : World). x h) a.made ∙ put_other w g (moved_on (w g) a.words) h other ∙ is
    ]

pub stays : (s : Supply) (n : ℕ) (w v : World) (h : ℕ) → Steps (step s) n w v → (w h).state.pending ≡ Finished → v h ≡ w h
stays s n w v h t over = steps_keep (step s) (λ (x : World). x h ≡ w h) (stays_by s h (w h) over) n w v t refl

pub ended_whole : EndedHostsAreWhole
ended_whole s j words well a h over =
    let b = reached_by s j words well a in
    let r = remaining s (started j) (order_of (twin s) j) b.0 (order_ended s j well) in
    let here : (run s b.0 (started j) h).state.pending ≡ Finished = ap (λ (l : Local). l.state.pending) (b.1 h) ∙ over in
    let end : run (twin s) (order_of (twin s) j) (started j) ≡ at_end (last_of s j) = (in_program_order (twin s) j (twin_well s j well) (λ g source i less none. cc)).0 in
    sym (b.1 h) ∙ sym (stays (twin s) r.0 _ _ h r.2 here) ∙ ap (λ (w : World). w h) end
