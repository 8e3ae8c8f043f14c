-- A schedule as one list of turns.
use Rattle.std.proofs.Common.{◌≡◌, ℕ, ◌+◌, ◌<◌, ◌≤◌, Bool, true, false, List, ◌∷◌, ◌++◌, length, get_or, drop, refl, sym, ap, ◌∙◌, add-one, drop-cons}
use Rattle.std.proofs.Math.ListN.{drop_of_length-le}
use Rattle.vd_base.specs.declared.ids.HostId.{HostId}
use Rattle.vd_execution.specs.Schedule.{after}
use Rattle.std.specs.Prelude.{if◌then◌else◌}
use Rattle.vd_execution.specs.World.{World, Supply, run, step, all_rounds}
use Rattle.vd_execution.specs.Claims.{then_all}
use Rattle.vd_execution.proofs.Front.{run_both}
use Rattle.vd_report.specs.declared.schedule.Schedule.{Schedule}
use Rattle.vd_world.specs.Schedules.{numbers, replayed}

-- one entry more, where the entries that are left lead to z
pub one_turn : (s others : Supply) (entries : List HostId) (i : ℕ) (d : HostId) (w v z : World) → i < length entries → others ≡ s → v ≡ after (step others (get_or entries i d).0 w) w
    → run s (numbers (drop i entries)) w ≡ z → run s (numbers (drop (i + 1) entries)) v ≡ z
one_turn s others entries i d w v z lt same moved left =
    let host = get_or entries i d in
    let more : drop i entries ≡ host ∷ drop (i + 1) entries = rw (add-one i) (drop-cons entries i d lt) in
    ap (run s (numbers (drop (i + 1) entries))) (moved ∙ ap (λ (t : Supply). after (step t host.0 w) w) same) ∙ sym (ap (λ (es : List HostId). run s (numbers es) w) more) ∙ left

pub no_turn_left : (s : Supply) (entries : List HostId) (i : ℕ) (w z : World) → length entries ≤ i → run s (numbers (drop i entries)) w ≡ z → w ≡ z
no_turn_left s entries i w z le left = sym (ap (λ (es : List HostId). run s (numbers es) w) (drop_of_length-le entries le)) ∙ left

module _ (s : Supply) (n : ℕ) (schedule : Schedule) (w : World) where
  abbrev rounds_too : Bool → List ℕ
  rounds_too all = if all then numbers schedule.entries ++ all_rounds n (run s (numbers schedule.entries) w) else numbers schedule.entries

  abbrev pub turns_of : List ℕ
  turns_of = rounds_too schedule.all

  pub replayed_is : replayed s n schedule w ≡ run s turns_of w
  replayed_is = at schedule.all
    where
      at : (all : Bool) → (if all then then_all s n (run s (numbers schedule.entries) w) else run s (numbers schedule.entries) w) ≡ run s (rounds_too all) w
      at true = sym (run_both s (numbers schedule.entries) (all_rounds n (run s (numbers schedule.entries) w)) w)
      at false = refl
