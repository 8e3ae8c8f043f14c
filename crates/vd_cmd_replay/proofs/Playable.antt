-- The codes of a selected list of protocols can be played, and the world that is then played is reported.
use Rattle.std.proofs.Common.{◌≡◌, ℕ, ◌≤◌, Some, List, [], length, refl, sym, ap, ap₂, ◌∙◌, subst, arith, Result, Ok, Err, IfOk}
use Rattle.std.specs.Prelude.{slice_get}
use Rattle.std.proofs.lemmas.List.FromFn.{get_or-map-range_with_len}
use Rattle.std.proofs.lemmas.Option.{get_or_from_slice_get, slice_get_within}
use Rattle.vd_base.specs.Limits.{most_hosts}
use Rattle.vd_base.specs.declared.protocols.Proto.{Proto}
use Rattle.vd_core.specs.declared.normal.NormalForm.{NormalForm}
use Rattle.vd_core.specs.Facts.{IsWellMade}
use Rattle.vd_semantics.specs.ProgramMeaning.{program_outputs}
use Rattle.vd_core.specs.Numbers.{NumbersFit}
use Rattle.vd_tape.specs.Validity.{AreDeals, IsConsistent}
use Rattle.vd_tape.specs.Text.{AreDealsOf}
use Rattle.vd_tape.proofs.Front.{all_deals}
use Rattle.vd_execution.specs.declared.instructions.Instr.{Instr}
use Rattle.vd_execution.specs.Joint.{Joint, code_of, started}
use Rattle.vd_execution.specs.Ranges.{IsInRange}
use Rattle.vd_execution.specs.Text.{IsCodeOf, text}
use Rattle.vd_execution.specs.World.{World, Supply}
use Rattle.vd_execution.specs.Claims.{IsOf}
use Rattle.vd_backend_laws.specs.Given.{zero_deal}
use Rattle.vd_backend_laws.specs.Whole.{inputs_of}
use Rattle.vd_backend_laws.proofs.Front.{zero_deals_are_valid}
use Rattle.vd_projection.specs.Programs.{CanRunAt, host_codes, joint_of}
use Rattle.vd_projection.proofs.Front.{codes_can_be_loaded, codes_run_as_told, no_words, runnable_over, valid_for}
use Rattle.vd_search_stages.specs.declared.optimum.Assignment.{Assignment}
use Rattle.vd_cmd_plan.specs.Plans.{Computes, ended}
use Rattle.vd_cmd_plan.specs.declared.answer.Answer.{Answer}
use Rattle.vd_cmd_plan.specs.declared.status.Status.{Status}
use Rattle.vd_world.specs.Packets.{counted, packets_of}
use Rattle.vd_world.specs.Loading.{AreCodesOf, AreForAll}
use Rattle.vd_world.specs.Reports.{report_of}
use Rattle.vd_world.specs.Schedules.{replayed}
use Rattle.vd_world.specs.Supplies.{AreFiles, supply_of_files}
use Rattle.vd_world.specs.Told.{TellsUnder}
use Rattle.vd_world.proofs.Front.{programs_tell}
use Rattle.vd_cmd_choice.specs.Choice.{IsSelected}
use Rattle.vd_cmd_compile.proofs.Front.{code_count, runnable_of, covered, stored_for}
use Rattle.vd_cmd_files.specs.declared.run_files.RunFiles.{RunFiles}
use Rattle.vd_cmd_files.specs.Asking.{AreAsked}
use Rattle.vd_cmd_replay.specs.Counting.{packets_for}
use Rattle.vd_cmd_replay.specs.Replaying.{report_for, world_for}
use Rattle.vd_cmd_replay.specs.Telling.{IsReport, TellsOf}

-- the deals that were read are the deals of all hosts
pub dealt : (hosts : ℕ) (asked : RunFiles) → AreAsked hosts asked → AreDeals asked.deals
dealt hosts asked are =
    let few : length asked.deals ≤ most_hosts = let limit = are.few in let all = are.all in omega (arith, limit, all) in
    all_deals asked.deals few (subst (λ (n : ℕ). AreDealsOf n asked.deals) (sym are.all) are.deals)

pub few_names : (program form : NormalForm) → IsWellMade program → form ≡ program → length form.hosts ≤ most_hosts
few_names program form made same = subst (λ (f : NormalForm). length f.hosts ≤ most_hosts) (sym same) made.limits.hosts

-- a report is told of, whatever the status
pub told_then : (program : NormalForm) (asked : RunFiles) (result : Result Answer Status) → IfOk result (λ answer. IsReport program (program_outputs program asked.inputs) asked answer.printed) → TellsOf program asked result
told_then program asked (Ok answer) is = λ e. is
told_then program asked (Err status) is = tt

-- the answer that prints a text
pub prints : (answer : Answer) (printed wanted : List ℕ) → answer ≡ ended [] printed → printed ≡ wanted → Computes (ended [] wanted) (Ok answer)
prints answer printed wanted is same =
    subst (λ (a : Answer). Computes (ended [] wanted) (Ok a)) (sym (is ∙ ap (λ (t : List ℕ). ended [] t) same)) (record { proper = (tt, refl); no_fault = λ file e. cc e; settled = refl })

module _ (program : NormalForm) (a : Assignment) (made : IsWellMade program) (numbers : NumbersFit program) (selected : IsSelected program a) where
  abbrev list : List Proto
  list = a.protocols

  abbrev can : CanRunAt program list
  can = record { made = made; numbers = numbers; runnable = runnable_of program a selected a.protocols refl }

  code_at_host : (h : ℕ) (code : List Instr) → slice_get (host_codes program list) h ≡ Some code → code ≡ text (code_of h (joint_of program list)) []
  code_at_host h code is =
      let within = slice_get_within (host_codes program list) h code is in
      let count = code_count program list in
      sym (get_or_from_slice_get (host_codes program list) h code code is)
      ∙ get_or-map-range_with_len (λ (k : ℕ). text (code_of k (joint_of program list)) []) 0 (length program.hosts) h h code (omega (arith, within, count)) (omega arith)

  are_codes : AreCodesOf (host_codes program list) (joint_of program list)
  are_codes = record {
    each = λ h code is. subst (λ (c : List Instr). IsCodeOf c (code_of h (joint_of program list))) (sym (code_at_host h code is)) (codes_can_be_loaded program list made (runnable_over program list made can.runnable) h).nested;
    in_range = λ h lt. subst (λ (hosts : ℕ). IsInRange hosts (code_of h (joint_of program list))) (sym (code_count program list)) (codes_can_be_loaded program list made (runnable_over program list made can.runnable) h).in_range;
    all =
        let zeros = zero_deals_are_valid (inputs_of []) no_words in
        let told = codes_run_as_told program list can [] no_words (zero_deal (inputs_of [])) zeros.0 zeros.1 in
        subst (λ (hosts : ℕ). IsOf hosts (joint_of program list)) (sym (code_count program list)) told.hosts;
  }

  -- so all hosts can be played
  pub are_for_all : (codes : List (List Instr)) (asked : RunFiles) → codes ≡ host_codes program list → AreAsked (length program.hosts) asked → AreForAll codes asked.inputs asked.deals
  are_for_all codes asked is are = subst (λ (cs : List (List Instr)). AreForAll cs asked.inputs asked.deals) (sym is) (record {
    are_codes = (joint_of program list, are_codes);
    all_inputs = are.inputs ∙ sym (code_count program list);
    all_deals = are.all ∙ sym (code_count program list);
    are_deals = dealt (length program.hosts) asked are;
  })

  host_count : (codes : List (List Instr)) → codes ≡ host_codes program list → length codes ≡ length program.hosts
  host_count codes is = ap (λ (cs : List (List Instr)). length cs) is ∙ code_count program list

  world_is : (codes : List (List Instr)) (asked : RunFiles) (w : World) → codes ≡ host_codes program list
      → ((j : Joint) → AreCodesOf codes j → w ≡ replayed (supply_of_files asked.inputs asked.deals) (length codes) asked.schedule (started j)) → w ≡ world_for program list asked
  world_is codes asked w is world =
      let of_joint : AreCodesOf codes (joint_of program list) = subst (λ (cs : List (List Instr)). AreCodesOf cs (joint_of program list)) (sym is) are_codes in
      world (joint_of program list) of_joint ∙ ap (λ (k : ℕ). replayed (supply_of_files asked.inputs asked.deals) k asked.schedule (started (joint_of program list))) (host_count codes is)

  pub report_is : (codes : List (List Instr)) (asked : RunFiles) (form : NormalForm) (s : Supply) (w : World) (printed : List ℕ) → codes ≡ host_codes program list → form ≡ program
      → s ≡ supply_of_files asked.inputs asked.deals → ((j : Joint) → AreCodesOf codes j → w ≡ replayed (supply_of_files asked.inputs asked.deals) (length codes) asked.schedule (started j))
      → printed ≡ report_of form.hosts s w asked.messages → printed ≡ report_for program list asked
  report_is codes asked form s w printed is same supply world report =
      let there = world_is codes asked w is world in
      report ∙ (λ i. report_of (same i).hosts (supply i) (there i) asked.messages)

  -- the packets of that world are counted
  pub count_is : (codes : List (List Instr)) (asked : RunFiles) (w : World) (hosts packets : ℕ) → codes ≡ host_codes program list
      → ((j : Joint) → AreCodesOf codes j → w ≡ replayed (supply_of_files asked.inputs asked.deals) (length codes) asked.schedule (started j)) → hosts ≡ length codes
      → packets ≡ counted (packets_of w hosts) → packets ≡ packets_for program list asked
  count_is codes asked w hosts packets is world all count =
      count ∙ ap₂ (λ (v : World) (n : ℕ). counted (packets_of v n)) (world_is codes asked w is world) (all ∙ host_count codes is)

  -- ---- what is told

  told : (asked : RunFiles) → AreAsked (length program.hosts) asked → IsConsistent asked.deals
      → TellsUnder (length program.hosts) (program_outputs program asked.inputs) (supply_of_files asked.inputs asked.deals) (joint_of program list) asked.schedule
  told asked are consistent =
      let files : AreFiles asked.inputs asked.deals = record {
        words = are.words;
        few = let one = are.inputs in let two = are.all in omega (arith, one, two);
        dealt = subst (λ (hosts : ℕ). AreDealsOf hosts asked.deals) (sym are.all) are.deals;
        consistent = consistent;
      } in
      programs_tell program can.runnable.labels list (valid_for program list can) asked.inputs asked.deals files are.all asked.schedule

  pub is_report : (asked : RunFiles) (answer : Answer) (printed : List ℕ) → AreAsked (length program.hosts) asked → IsConsistent asked.deals
      → answer ≡ ended [] printed → printed ≡ report_for program list asked → IsReport program (program_outputs program asked.inputs) asked answer.printed
  is_report asked answer printed are consistent is report =
      record {
        joint = joint_of program list;
        told = record {
          codes = host_codes program list;
          counted = code_count program list;
          parts = are_codes;
          consistent = consistent;
          report = ap (λ (a : Answer). a.printed) is ∙ report;
          told = told asked are consistent;
        };
        code = record {
          assignment = a;
          selected = selected;
          covered = covered program a made selected;
          compiled = refl;
          stored = λ h low. stored_for program a h low;
        };
      }
