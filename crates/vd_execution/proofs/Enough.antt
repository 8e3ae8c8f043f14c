-- Room for one packet is enough for compiled hosts.
use Rattle.std.proofs.Common.{◌≡◌, ℕ, suc, Bool, true, false, if◌then◌else◌, List, Option, None, refl, sym, ◌∙◌, subst}
use Rattle.vd_execution.specs.Code.{Finished, followed_by}
use Rattle.vd_execution.specs.Step.{deed}
use Rattle.vd_execution.specs.Schedule.{run_by, IsStuckBy}
use Rattle.vd_execution.specs.World.{World, Tape, step, endless, AllEnded}
use Rattle.vd_execution.specs.Joint.{Joint, fresh, joint, started, at_end, code_of, program_order, IsTidy, IsSmooth}
use Rattle.vd_execution.proofs.Confluence.{Through, through_run, one_end}
use Rattle.vd_execution.proofs.Reached.{ended_stuck}
use Rattle.vd_execution.proofs.Reading.{ends_there}
use Rattle.vd_execution.proofs.Resting.{same_resting}
use Rattle.vd_execution.specs.Room.{has_room, narrow}
use Rattle.vd_execution.proofs.Commuting.{commute}
use Rattle.vd_execution.proofs.Calm.{same_start}
use Rattle.vd_execution.proofs.Narrow.{calm_room}
use Rattle.vd_execution.proofs.Order.{calmly_in_order}

none_either : (b : Bool) (o : Option World) → o ≡ None → (if b then o else None) ≡ None
none_either true o e = e
none_either false o e = refl

pub enough : (room : ℕ) (t : Tape) (j : Joint) (b : List ℕ) → IsTidy j → IsSmooth t j fresh
    → IsStuckBy (narrow (suc room) (endless t)) (run_by (narrow (suc room) (endless t)) b (started j))
    → run_by (narrow (suc room) (endless t)) b (started j) ≡ at_end (joint t j fresh)
enough room t j b tidy smooth stuck =
    let hs : List ℕ = program_order t j fresh in
    let way : Through (narrow (suc room) (endless t)) hs (started j) (at_end (joint t j fresh)) =
    calm_room room t hs (started j) (at_end (joint t j fresh))
    (same_start t hs (started j) _ (at_end (joint t j fresh))
    (same_resting (λ h. code_of h j) (λ h. followed_by (code_of h j) Finished) fresh fresh (λ h. sym (ends_there (code_of h j))) (λ h. refl))
    (calmly_in_order t j fresh (λ h. Finished) tidy smooth)) in
    let ends = (through_run (narrow (suc room) (endless t)) hs (started j) (at_end (joint t j fresh)) way).0 in
    let last : AllEnded (at_end (joint t j fresh)) = λ h. refl in
    let over : IsStuckBy (narrow (suc room) (endless t)) (at_end (joint t j fresh)) =
    λ h. none_either (has_room (suc room) (at_end (joint t j fresh)) h (deed (at_end (joint t j fresh) h).state)) (step (endless t) h (at_end (joint t j fresh))) (ended_stuck (endless t) (at_end (joint t j fresh)) last h) in
    (one_end (narrow (suc room) (endless t)) (commute (suc room) (endless t)) (started j) hs b (subst (λ w. IsStuckBy (narrow (suc room) (endless t)) w) (sym ends) over) stuck).0 ∙ ends
