-- Hastened hosts stand where a schedule leads them.
use Rattle.std.proofs.Common.{◌≡◌, ℕ, List, [], refl, sym, ap, ◌∙◌, subst}
use mathlib.Core.Path.{fun_ext}
use Rattle.vd_execution.specs.Code.{Code, Finished}
use Rattle.vd_execution.specs.World.{Local, World, Supply, run}
use Rattle.vd_execution.specs.Joint.{Joint, fresh, resting}
use Rattle.vd_execution.proofs.Front.{stays}
use Rattle.vd_execution.specs.Claims.{RunsWell, IsOnTheWay, last_of}
use Rattle.vd_execution.proofs.Front.{twin, remaining}
use Rattle.vd_execution.proofs.Front.{Behind, follow}
use Rattle.vd_reorder.specs.Hastening.{AreHastened}
use Rattle.vd_reorder.proofs.Hosts.{comes, hastened_on_the_way}
use Rattle.vd_reorder.specs.Hastened.{stand_from, AreHistoriesFrom, EndedHastenedHostsAreWhole}

pub reached_from : (s : Supply) (j : Joint) (n : ℕ) (codes : ℕ → Code) (words : ℕ → List (List ℕ)) → RunsWell s j → AreHastened n j codes
    → AreHistoriesFrom s (resting codes fresh) words → (b : List ℕ) × ((h : ℕ) → run s b (resting codes fresh) h ≡ stand_from (resting codes fresh) words h)
reached_from s j n codes words well are histories =
    let start : World = resting codes fresh in
    let end : World = stand_from start words in
    let c = comes s j n codes well are in
    let r = remaining s start c.hosts [] c.ended in
    let behind : Behind s end start words = record { goes = histories.each; ends = λ h. refl; linked = histories.linked } in
    follow s start end c.hosts c.ended r.0 [] words r.1 behind

pub on_the_way : (s : Supply) (j : Joint) (n : ℕ) (codes : ℕ → Code) (words : ℕ → List (List ℕ)) → RunsWell s j → AreHastened n j codes
    → AreHistoriesFrom s (resting codes fresh) words → IsOnTheWay s (stand_from (resting codes fresh) words) (last_of s j)
on_the_way s j n codes words well are histories =
    let to = reached_from s j n codes words well are histories in
    subst (λ w. IsOnTheWay s w (last_of s j)) (fun_ext to.1) (hastened_on_the_way s j n codes to.0 well are)

-- ---- a host that has ended

pub ended_whole : EndedHastenedHostsAreWhole
ended_whole s j n codes words well are histories h over =
    let start : World = resting codes fresh in
    let b = reached_from s j n codes words well are histories in
    let c = comes s j n codes well are in
    let r = remaining s start c.hosts b.0 c.ended in
    let here : (run s b.0 start h).state.pending ≡ Finished = ap (λ (l : Local). l.state.pending) (b.1 h) ∙ over in
    sym (b.1 h) ∙ sym (stays (twin s) r.0 _ _ h r.2 here) ∙ ap (λ (w : World). w h) c.ends
