-- Of tidy code the pass leads to code that tells the same.
use Rattle.std.proofs.Common.{◌≡◌, ℕ, ◌<◌, List, [], refl, sym, ap, ◌∙◌, subst}
use Rattle.vd_execution.specs.declared.instructions.Line.{Line}
use Rattle.vd_execution.specs.World.{Tape, Supply, followed_by_zeros}
use Rattle.vd_execution.specs.Joint.{Joint, Hosts, IsTidy, IsSmooth, joint, fresh}
use Rattle.vd_execution.specs.Text.{flat}
use Rattle.vd_execution.specs.Claims.{RunsWell, RunsToItsEnd, last_of}
use Rattle.vd_reorder.specs.Turning.{Look, look, AreAlike, TellsTheSame}
use Rattle.vd_reorder.proofs.Front.{tidy_too, tells_the_same}
use Rattle.vd_choreography_reorder.specs.Testing.{Opened, may_pass}
use Rattle.vd_choreography_reorder.specs.Order.{CarefulTurns, IsCarefully, without_empty, IsBroughtForward, RunsOn}
use Rattle.vd_choreography_reorder.specs.Passing.{arranged_lines, AreArranged}
use Rattle.vd_choreography_reorder.proofs.Leads.{arranged, arranged_leads, as_turns}
use Rattle.vd_choreography_reorder.proofs.Texts.{arranged_flat}
use Rattle.vd_choreography_reorder.proofs.Empty.{same_lines, has_parts, same_run, still_smooth, still_tidy}

pub same_told : (opened : Opened) (j k : Joint) (n : ℕ) → IsTidy j → CarefulTurns opened n (without_empty j) k → (t : Tape) (w : Hosts) → IsSmooth t j w → TellsTheSame t w j k
same_told opened j k n tidy x t w s =
    let told = tells_the_same t w n (without_empty j) k (as_turns opened n (without_empty j) k x) (still_smooth t j tidy w s) in
    record { smooth = told.smooth; alike = λ h. sym (ap (λ (v : Hosts). look (v h)) (same_run t j tidy w)) ∙ told.alike h }

abbrev pub forward_by : (opened : Opened) (j code : Joint) → IsTidy j → IsCarefully opened (without_empty j) code → IsBroughtForward opened j (flat code [])
forward_by opened j code tidy x = record {
  code = code;
  text = refl;
  exchanged = x;
  tidy = tidy_too x.0 (without_empty j) code (as_turns opened x.0 (without_empty j) code x.1) (still_tidy j tidy);
  same = same_told opened j code x.0 tidy x.1;
}

pub brought_forward : (opened : Opened) (j : Joint) (new : List Line) → IsTidy j → AreArranged opened (flat j []) new → IsBroughtForward opened j new
brought_forward opened j new tidy x =
    let code = arranged (may_pass opened) x.far (without_empty j) [] in
    let f = forward_by opened j code tidy (arranged_leads opened x.far (without_empty j) []) in
    record {
      code = code;
      text = x.lines ∙ ap (arranged_lines (may_pass opened) x.far) (sym (same_lines j tidy [])) ∙ sym (arranged_flat (may_pass opened) x.far (without_empty j) [] (has_parts j) tt);
      exchanged = f.exchanged;
      tidy = f.tidy;
      same = f.same;
    }

-- ---- runs of the new code

module _ (j k : Joint) (tidy : IsTidy k) (same : (t : Tape) (w : Hosts) → IsSmooth t j w → TellsTheSame t w j k) (s : Supply) where
  runs_well : RunsWell s j → RunsWell s k
  runs_well well = record { tidy = tidy; smooth = (same (followed_by_zeros s) fresh well.smooth).smooth }

  alike_at_end : RunsWell s j → AreAlike (last_of s j) (last_of s k)
  alike_at_end well = (same (followed_by_zeros s) fresh well.smooth).alike

  pub runs_alike : RunsOn s j k
  runs_alike = record {
    well = runs_well;
    ends = λ runs. record {
      well = runs_well runs.well;
      enough = λ h source i lt. runs.enough h source i (subst (λ (l : Look). i < l.1.0 source) (sym (alike_at_end runs.well h)) lt);
    };
    alike = alike_at_end;
  }

pub runs_on : (opened : Opened) (j : Joint) (lines : List Line) (x : IsBroughtForward opened j lines) (s : Supply) → RunsOn s j x.code
runs_on opened j lines x s = runs_alike j x.code x.tidy x.same s
