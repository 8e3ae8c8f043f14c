-- What a run by a plan has shown of its answer, command by command.
use Rattle.std.proofs.Common.{◌≡◌, ℕ, true, IsTrue, List, ◌++◌, Option, Some, None, refl, sym, ap, ◌∙◌, subst}
use Rattle.vd_outside.specs.Files.{Contents, FilesView}
use Rattle.vd_outside.specs.Sink.{SinkView}
use Rattle.vd_tape.specs.declared.deal_items.deal.Counts.{Counts}
use Rattle.vd_cmd.specs.Commands.{KeepsLimits, form_of}
use Rattle.vd_cmd.specs.declared.command.Command.{Command}
use Rattle.vd_cmd.specs.declared.command.Command.TheVariants.{OnFiles}
use Rattle.vd_cmd.specs.declared.command.FilesCommand.{FilesCommand}
use Rattle.vd_cmd.specs.declared.command.FilesCommand.TheVariants.{Certify, Choose, Column, Compile, Deal, Draw, Labels, Report, Reveals}
use Rattle.vd_cmd_plan.specs.Deliver.{stored}
use Rattle.vd_cmd_plan.specs.Plans.{answer_then}
use Rattle.vd_cmd_plan.specs.declared.answer.Answer.{Answer}
use Rattle.vd_cmd_plan.specs.declared.status.Status.{Status}
use Rattle.vd_cmd_plan.specs.declared.status.Status.TheVariants.{Ended}
use Rattle.vd_cmd_deal.specs.Dealing.{deal_answer, deal_plan}
use Rattle.vd_cmd_laws.specs.Answers.{TellsChoice, TellsCompiled, TellsLabels, TellsProof}
use Rattle.vd_cmd_laws.proofs.Front.{choices_tell, compiled_tell, labels_tell, proofs_tell}
use Rattle.vd_cmd_laws.specs.Dealt.{TellsDeal}
use Rattle.vd_cmd_laws.proofs.Front.{deals_tell}
use Rattle.vd_cmd_data.proofs.Front.{columns_told, reports_told}
use Rattle.vd_cmd_draw.proofs.Front.{drawings_tell, reveals_told}
use Rattle.vd_top.specs.Answers.{Adds, AreWithinLimits, KeepsChoice, KeepsColumn, KeepsCompiled, KeepsDeal, KeepsDrawing, KeepsLabels, KeepsProof, KeepsReport, KeepsReveals}
use Rattle.vd_top.specs.Commands.{RunsForm, RunsWords, plan_of, search_of}
use Rattle.vd_top.proofs.Words.{are_counts, some_outcomes}

-- the answer of `deal` is what its plan comes to
deal_planned : (counts : Counts) (key : ℕ) (prefix : List ℕ) (contents : Contents) → (deal_plan counts key prefix contents).answer ≡ deal_answer counts key prefix
unfolding answer_then
deal_planned counts key prefix contents = refl

-- the one form of words
one_form : (form : Option Command) (command other : Command) → form ≡ Some command → form ≡ Some other → command ≡ other
one_form form command other first second = let same : Some command ≡ Some other = sym first ∙ second in cc same

pub within_limits : (words : List (List ℕ)) (command : Command) (status : Status) → form_of words ≡ Some command → KeepsLimits command → AreWithinLimits words status
within_limits words command status form limits = λ other is e. subst KeepsLimits (one_form (form_of words) command other form is) limits

module _ (words : List (List ℕ)) (before now : FilesView) (out_before out_now : SinkView) (status : Status) (runs : RunsWords words before now out_before out_now status) where
  -- the run of a command that ended well
  ran : (command : FilesCommand) → form_of words ≡ Some (OnFiles command) → status ≡ Ended → RunsForm (Some (OnFiles command)) before now out_before out_now Ended
  ran command form ends =
      subst (λ (s : Status). RunsForm (Some (OnFiles command)) before now out_before out_now s) ends (subst (λ (f : Option Command). RunsForm f before now out_before out_now status) form runs)

  pub labels_of : KeepsLabels words before out_before out_now status
  labels_of source form told out_told ends =
      let r = ran (Labels source) form ends in
      let w = r.1 some_outcomes in
      record {
        printed = (plan_of some_outcomes (search_of some_outcomes r.0) (Labels source) before.contents).answer.printed;
        added = w.left told out_told;
        tells = labels_tell some_outcomes.texts some_outcomes.labels source before.contents (sym (w.answered told));
      }

  pub proof_of : KeepsProof words before out_before out_now status
  proof_of source certificate form told out_told ends =
      let r = ran (Certify source certificate) form ends in
      let w = r.1 some_outcomes in
      record {
        printed = (plan_of some_outcomes (search_of some_outcomes r.0) (Certify source certificate) before.contents).answer.printed;
        added = w.left told out_told;
        tells = proofs_tell some_outcomes.texts some_outcomes.labels some_outcomes.certificates source certificate before.contents (sym (w.answered told));
      }

  pub choice_of : AreWithinLimits words status → KeepsChoice words before now out_before out_now status
  choice_of within source budget form told out_told ends =
      let r = ran (Choose source budget) form ends in
      let w = r.1 some_outcomes in
      let limits = within (OnFiles (Choose source budget)) form ends in
      let plan = plan_of some_outcomes (search_of some_outcomes r.0) (Choose source budget) before.contents in
      record {
        printed = plan.answer.printed;
        added = w.left told out_told;
        tells = subst (λ (c : Contents). TellsChoice source before.contents c plan.answer.printed) (sym (w.stores told tt))
            (choices_tell some_outcomes.texts some_outcomes.labels some_outcomes.certificates some_outcomes.choices r.0 source budget before.contents limits.1 (sym (w.answered told)));
      }

  pub drawing_of : KeepsDrawing words before out_before out_now status
  drawing_of source budget form told out_told ends =
      let r = ran (Draw source budget) form ends in
      let w = r.1 some_outcomes in
      record {
        printed = (plan_of some_outcomes (search_of some_outcomes r.0) (Draw source budget) before.contents).answer.printed;
        added = w.left told out_told;
        tells = drawings_tell some_outcomes.texts some_outcomes.labels some_outcomes.certificates some_outcomes.choices r.0 source budget before.contents (sym (w.answered told));
      }

  pub reveals_of : KeepsReveals words before out_before out_now status
  reveals_of reveals form told out_told ends =
      let r = ran (Reveals reveals) form ends in
      let w = r.1 some_outcomes in
      record {
        printed = (plan_of some_outcomes (search_of some_outcomes r.0) (Reveals reveals) before.contents).answer.printed;
        added = w.left told out_told;
        tells = reveals_told some_outcomes.texts some_outcomes.labels some_outcomes.certificates some_outcomes.choices r.0 reveals before.contents (sym (w.answered told));
      }

  pub compiled_of : KeepsCompiled words before now out_before out_now status
  compiled_of source prefix budget form told out_told ends =
      let r = ran (Compile source prefix budget) form ends in
      let w = r.1 some_outcomes in
      let plan = plan_of some_outcomes (search_of some_outcomes r.0) (Compile source prefix budget) before.contents in
      record {
        printed = plan.answer.printed;
        added = w.left told out_told;
        tells = subst (λ (c : Contents). TellsCompiled source prefix before.contents c plan.answer.printed) (sym (w.stores told tt))
            (compiled_tell some_outcomes.texts some_outcomes.labels some_outcomes.certificates some_outcomes.choices r.0 source prefix budget before.contents (sym (w.answered told)));
      }

  pub column_of : KeepsColumn words before out_before out_now status
  column_of column form told out_told ends =
      let r = ran (Column column) form ends in
      let w = r.1 some_outcomes in
      record {
        printed = (plan_of some_outcomes (search_of some_outcomes r.0) (Column column) before.contents).answer.printed;
        added = w.left told out_told;
        tells = columns_told column before.contents (sym (w.answered told));
      }

  pub report_of : KeepsReport words before out_before out_now status
  report_of report form told out_told ends =
      let r = ran (Report report) form ends in
      let w = r.1 some_outcomes in
      record {
        printed = (plan_of some_outcomes (search_of some_outcomes r.0) (Report report) before.contents).answer.printed;
        added = w.left told out_told;
        tells = reports_told some_outcomes.texts some_outcomes.labels report before.contents (sym (w.answered told));
      }

  pub deal_of : AreWithinLimits words status → KeepsDeal words before now status
  deal_of within counts key prefix form told ends =
      let r = ran (Deal counts key prefix) form ends in
      let w = r.1 some_outcomes in
      let limits = within (OnFiles (Deal counts key prefix)) form ends in
      subst (λ (c : Contents). TellsDeal counts prefix c) (sym (w.stores told tt ∙ ap (λ (a : Answer). stored a.stores before.contents) (deal_planned counts key prefix before.contents))) (deals_tell counts key prefix before.contents (are_counts counts limits))
