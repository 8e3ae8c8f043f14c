-- Under any schedules.
use Rattle.std.proofs.Common.{◌≡◌, ℕ, List, length, sym, ap, subst, ◌∙◌}
use mathlib.Core.Path.{fun_ext}
use Rattle.vd_base.specs.declared.protocols.Proto.{Proto}
use Rattle.vd_core.specs.declared.normal.NormalForm.{NormalForm}
use Rattle.vd_constraints.specs.declared.labels.Labels.{Labels}
use Rattle.vd_execution.specs.Code.{Finished}
use Rattle.vd_execution.specs.World.{World, Local, Tape, endless, IsPrefixOf}
use Rattle.vd_execution.specs.Joint.{Host, Hosts, fresh, joint, at_end}
use Rattle.vd_execution.specs.Plans.{joint_of}
use Rattle.vd_execution.specs.Claims.{RunsWell, IsOnTheWay}
use Rattle.vd_execution.proofs.Front.{on_the_way}
use Rattle.vd_views.specs.Views.{Coalition}
use Rattle.vd_views.specs.Contract.{Explains}
use Rattle.vd_noninter_protocols.specs.Told.{IsDealt}
use Rattle.vd_projection.specs.Assignments.{IsValidFor}
use Rattle.vd_views.specs.Explained.{plan_of, input_words}
use Rattle.vd_views.specs.AnyOrder.{world_after, SeesFronts, SeesFrontsInAnyOrder}
use Rattle.vd_views.proofs.Theorem.{runs}

module _ (p : NormalForm) (l : Labels) (protocols : List Proto) (chosen : IsValidFor p l protocols) (K : Coalition) where
  well : (inputs : List (List ℕ)) (t : Tape) → IsDealt inputs t → RunsWell (endless t) (joint_of (plan_of p protocols))
  well inputs t dealt = let r = runs p l protocols chosen inputs t dealt in record { tidy = r.tidy; smooth = r.smooth }

  -- two ends that look alike to a host
  same_end : (h : ℕ) (w v : Hosts) → w h ≡ v h → ((g : ℕ) → (w g).sent h ≡ (v g).sent h) → at_end w h ≡ at_end v h
  same_end h w v itself told =
      let local : Host → (ℕ → ℕ) → Local = λ s taken. record {
        state = record { pending = Finished; registers = s.registers; cursors = s.cursors };
        printed = s.printed;
        sent = s.sent;
        taken = taken;
      } in
      ap (λ (s : Host). local s (λ g. length ((w g).sent h))) itself ∙ ap (local (v h)) (fun_ext (λ g. ap (λ (l : List (List ℕ)). length l) (told g)))

  module _ (first second : List (List ℕ)) (t y : Tape) (dealt : IsDealt first t) (dealt' : IsDealt second y) (e : Explains K (plan_of p protocols) t (input_words second) y) (a b : List ℕ) where
    abbrev end : Hosts
    end = joint t (joint_of (plan_of p protocols)) fresh

    one : IsOnTheWay (endless t) (world_after (plan_of p protocols) t a) end
    one = on_the_way (endless t) (joint_of (plan_of p protocols)) a (well first t dealt)

    other : IsOnTheWay (endless y) (world_after (plan_of p protocols) y b) (joint y (joint_of (plan_of p protocols)) fresh)
    other = on_the_way (endless y) (joint_of (plan_of p protocols)) b (well second y dealt')

    fronts : SeesFronts K (world_after (plan_of p protocols) t a) (world_after (plan_of p protocols) y b)
    fronts = record {
      prints = λ h. (end h).printed;
      printed = λ h m. one.printed h;
      printed_too = λ h m. subst (λ (xs : List ℕ). IsPrefixOf (world_after (plan_of p protocols) y b h).printed xs) (sym (ap (λ (s : Host). s.printed) (e.view h m).itself)) (other.printed h);
      packets = λ g h. (end g).sent h;
      told = λ h m g. one.sent g h;
      told_too = λ h m g. subst (λ (xs : List (List ℕ)). IsPrefixOf ((world_after (plan_of p protocols) y b g).sent h) xs) (sym ((e.view h m).told g)) (other.sent g h);
      ends = λ h m i j. ap (λ (w : World). w h) (one.whole i) ∙ same_end h end (joint y (joint_of (plan_of p protocols)) fresh) (e.view h m).itself (e.view h m).told ∙ sym (ap (λ (w : World). w h) (other.whole j));
    }

pub fronts_in_any_order : SeesFrontsInAnyOrder
fronts_in_any_order p l protocols chosen K first second t y dealt dealt' e a b = fronts p l protocols chosen K first second t y dealt dealt' e a b
