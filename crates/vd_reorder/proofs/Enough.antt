-- Room for as many packets as the window is enough.
use Rattle.std.proofs.Common.{◌≡◌, ℕ, suc, ◌≤◌, Bool, true, false, if◌then◌else◌, List, [], ◌∷◌, Option, None, refl, sym, ap, ◌∙◌, subst, arith}
use mathlib.Core.Path.{fun_ext}
use Rattle.vd_execution.specs.Code.{Code, Finished, followed_by}
use Rattle.vd_execution.specs.Step.{deed}
use Rattle.vd_execution.specs.Schedule.{run_by, IsStuckBy}
use Rattle.vd_execution.specs.World.{Local, World, Tape, step, endless}
use Rattle.vd_execution.specs.Joint.{Joint, fresh, joint, started, at_end, code_of, program_order}
use Rattle.vd_execution.proofs.Front.{through_run, one_end, ended_stuck, ends_there, same_resting, Calmly, same_start, calmly_in_order}
use Rattle.vd_reorder.specs.Hastening.{Piece, at, MayPass}
use Rattle.vd_reorder.specs.ReorderLawsPassing.{IsSoundTest, hastened}
use Rattle.vd_reorder.specs.ReorderLawsTesting.{may}
use Rattle.vd_reorder.specs.Careful.{careful}
use Rattle.vd_reorder.proofs.ReorderLawsTesting.{sound}
use Rattle.vd_execution.specs.Room.{has_room, narrow}
use Rattle.vd_execution.proofs.Front.{commute}
use Rattle.vd_reorder.specs.Window.{begun, RoomForTheWindowIsEnough, RoomForCarefulHostsIsEnough}
use Rattle.vd_reorder.proofs.Passed.{ahead, hastened_passed, no_end, end_is_end}
use Rattle.vd_reorder.proofs.Early.{Items, eagerly}
use Rattle.vd_reorder.proofs.Keeping.{Hasty, AllHasty, along}

none_either : (b : Bool) (o : Option World) → o ≡ None → (if b then o else None) ≡ None
none_either true o e = e
none_either false o e = refl

-- where a host would have ended it has ended
none_early : (items : Items) (es : List Piece) (r : Code) (l : Local) → Finished ≡ ahead es r → eagerly items es (at l Finished) ≡ at l Finished
none_early items [] r l e = refl
none_early items (y ∷ es) r l e = absurd (no_end y (ahead es r) (sym e))

ended_alike : (t : Tape) (n h : ℕ) (l k : Local) → l.state.pending ≡ Finished → Hasty t n h l k → k ≡ l
ended_alike t n h l k over y =
    let code_over : y.code ≡ Finished = end_is_end n y.passed over in
    y.stands ∙ ap (λ c. eagerly (t h) y.early (at l c)) code_over ∙ none_early (t h) y.early y.rest l (sym code_over ∙ y.split) ∙ ap (at l) (sym over)

-- at their start all are where they would be
hasty_at_first : (room : ℕ) (t : Tape) (j : Joint) (test : ℕ → Piece → Piece → Bool) (window : ℕ → ℕ) → ((h : ℕ) → IsSoundTest (test h)) → ((h : ℕ) → window h ≤ suc room)
    → AllHasty t (suc room) (started j) (begun j test window)
hasty_at_first room t j test window sound within h = record {
  code = hastened (test h) (window h) (code_of h j);
  passed = hastened_passed (test h) (sound h) (suc room) (window h) (code_of h j) (omega arith) (within h);
  early = [];
  rest = hastened (test h) (window h) (code_of h j);
  split = refl;
  free = tt;
  few = omega arith;
  stands = refl;
}

pub enough : RoomForTheWindowIsEnough
enough room t j test window tidy smooth sound within b stuck =
    let hs : List ℕ = program_order t j fresh in
    let last : World = at_end (joint t j fresh) in
    let way : Calmly t hs (started j) last =
    same_start t hs (started j) _ last
    (same_resting (λ h. code_of h j) (λ h. followed_by (code_of h j) Finished) fresh fresh (λ h. sym (ends_there (code_of h j))) (λ h. refl))
    (calmly_in_order t j fresh (λ h. Finished) tidy smooth) in
    let r = along room t hs (started j) last (begun j test window) (hasty_at_first room t j test window sound within) way in
    let there : r.world ≡ last = fun_ext (λ h. ended_alike t (suc room) h (last h) (r.world h) refl (r.all_hasty h)) in
    let ends : run_by (narrow (suc room) (endless t)) r.hosts (begun j test window) ≡ last = (through_run (narrow (suc room) (endless t)) r.hosts (begun j test window) r.world r.through).0 ∙ there in
    let over : IsStuckBy (narrow (suc room) (endless t)) last =
    λ h. none_either (has_room (suc room) last h (deed (last h).state)) (step (endless t) h last) (ended_stuck (endless t) last (λ g. refl) h) in
    (one_end (narrow (suc room) (endless t)) (commute (suc room) (endless t)) (begun j test window) r.hosts b (subst (λ w. IsStuckBy (narrow (suc room) (endless t)) w) (sym ends) over) stuck).0 ∙ ends

careful_may : (a b c : Bool) → (if a then (if b then (if c then false else true) else true) else false) ≡ true → a ≡ true
careful_may true b c e = refl
careful_may false b c e = absurd cc

careful_sound : (stays : Piece → Bool) (x y : Piece) → careful stays x y ≡ true → MayPass x y
careful_sound stays x y e = sound x y (careful_may (may x y) (stays x) (stays y) e)

pub careful_enough : RoomForCarefulHostsIsEnough
careful_enough room t j stays window tidy smooth within = enough room t j (λ h. careful (stays h)) window tidy smooth (λ h. careful_sound (stays h)) within
