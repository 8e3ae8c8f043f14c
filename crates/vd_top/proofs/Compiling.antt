-- A run of `compile` that ended has stored the programs of all hosts, and one of `excuse` the deals.
use Rattle.std.proofs.Common.{◌≡◌, ℕ, true, List, ◌++◌, Option, Some, None, Result, Ok, Err, sym, ap, ◌∙◌, subst}
use Rattle.vd_outside.specs.Files.{FilesView, Contents}
use Rattle.vd_outside.specs.Sink.{SinkView}
use Rattle.vd_cmd.specs.declared.command.Command.{Command}
use Rattle.vd_cmd.specs.declared.command.Command.TheVariants.{OnFiles, KeyDeal, Early, Host, Check, Run}
use Rattle.vd_cmd.specs.declared.command.FilesCommand.{FilesCommand}
use Rattle.vd_cmd.specs.declared.command.FilesCommand.TheVariants.{Compile, Excuse}
use Rattle.vd_cmd.specs.declared.command.ExcuseWords.{ExcuseWords}
use Rattle.vd_cmd_plan.specs.Deliver.{IsDone, IsLeft, stored}
use Rattle.vd_cmd_plan.specs.Plans.{Executes, Plan}
use Rattle.vd_cmd_plan.specs.Runs.{Finishes}
use Rattle.vd_cmd_plan.specs.declared.answer.Answer.{Answer}
use Rattle.vd_cmd_plan.specs.declared.status.Status.{Status}
use Rattle.vd_cmd_plan.specs.declared.status.Status.TheVariants.{Ended}
use Rattle.vd_cmd.specs.Commands.{form_of}
use Rattle.vd_cmd_laws.proofs.Front.{programs_held}
use Rattle.vd_top.specs.Compiled.{KeepsStored, StoresForm, StoresOf}
use Rattle.vd_top.specs.Headline.{KeepsExcuse, TellsOf}
use Rattle.vd_cmd_laws.proofs.Front.{ending_answered as answered, never}

module _ (plan : Contents → Plan) (before mid now : FilesView) (out_before out_now : SinkView) where
  compiled : (source prefix : List ℕ) (budget : ℕ) (came : Result Answer Status) (status : Status) → Executes true plan before mid came → Finishes came mid now out_before out_now status
      → TellsOf (Compile source prefix budget) before came → StoresOf (Compile source prefix budget) before now out_before out_now status
  compiled source prefix budget (Ok answer) status w finishes tells = λ t e.
      let runs = finishes true plan before w in
      let same = w.settled t in
      let ended = ap (λ (a : Answer). a.status) same ∙ sym (answered plan before mid now out_before out_now (Ok answer) status plan w finishes t e) in
      let text = tells t ended in
      let files = runs.stores t (subst IsDone (sym e) tt) ∙ ap (λ (a : Answer). stored a.stores before.contents) (sym same) in
      record {
        printed = answer.printed;
        added = λ o.
            subst (λ (s : Status). IsLeft (plan before.contents).answer.printed out_before.taken out_now.taken s) e (runs.left t o)
            ∙ ap (λ (a : Answer). out_before.taken ++ a.printed) (sym same);
        compiled = record { bytes = text.bytes; is_fetched = text.is_fetched; holds = programs_held text.bytes prefix answer before.contents now.contents text.holds files };
      }
  compiled source prefix budget (Err came) status w finishes tells = λ t e. absurd (never plan before mid now out_before out_now came status w finishes t e)

  explained : (words : ExcuseWords) (came : Result Answer Status) (status : Status) → Executes true plan before mid came → Finishes came mid now out_before out_now status → TellsOf (Excuse words) before came
      → StoresOf (Excuse words) before now out_before out_now status
  explained words (Ok answer) status w finishes tells = λ t e.
      let runs = finishes true plan before w in
      let same = w.settled t in
      let ended = ap (λ (a : Answer). a.status) same ∙ sym (answered plan before mid now out_before out_now (Ok answer) status plan w finishes t e) in
      record {
        printed = answer.printed;
        added = λ o.
            subst (λ (s : Status). IsLeft (plan before.contents).answer.printed out_before.taken out_now.taken s) e (runs.left t o)
            ∙ ap (λ (a : Answer). out_before.taken ++ a.printed) (sym same);
        files = answer.stores;
        kept = runs.stores t (subst IsDone (sym e) tt) ∙ ap (λ (a : Answer). stored a.stores before.contents) (sym same);
        excuse = tells t ended;
      }
  explained words (Err came) status w finishes tells = λ t e. absurd (never plan before mid now out_before out_now came status w finishes t e)

  -- what the answer of a command tells, its run has stored
  pub stores : (command : FilesCommand) (came : Result Answer Status) (status : Status) → Executes true plan before mid came → Finishes came mid now out_before out_now status → TellsOf command before came
      → StoresOf command before now out_before out_now status
  stores (Compile source prefix budget) came status w finishes tells = compiled source prefix budget came status w finishes tells
  stores (Excuse words) came status w finishes tells = explained words came status w finishes tells
  stores command came status w finishes tells = tt

module _ (before now : FilesView) (out_before out_now : SinkView) (status : Status) where
  -- a run that did not end says nothing
  pub stores_nothing : (status ≡ Ended → ⊥) → (form : Option Command) → StoresForm form before now out_before out_now status
  stores_nothing not None = tt
  stores_nothing not (Some (OnFiles (Compile source prefix budget))) = λ t e. absurd (not e)
  stores_nothing not (Some (OnFiles (Excuse words))) = λ t e. absurd (not e)
  stores_nothing not (Some (OnFiles command)) = tt
  stores_nothing not (Some (KeyDeal words)) = tt
  stores_nothing not (Some (Early words)) = tt
  stores_nothing not (Some (Host words)) = tt
  stores_nothing not (Some (Check words)) = tt
  stores_nothing not (Some (Run words)) = tt

  -- what is said of the form of the words is said of them
  pub stored_of : (words : List (List ℕ)) → StoresForm (form_of words) before now out_before out_now status → KeepsStored words before now out_before out_now status
  stored_of words said = λ source prefix budget form. subst (λ (f : Option Command). StoresForm f before now out_before out_now status) form said

  pub excuse_of : (words : List (List ℕ)) → StoresForm (form_of words) before now out_before out_now status → KeepsExcuse words before now out_before out_now status
  excuse_of words said = λ excuse form. subst (λ (f : Option Command). StoresForm f before now out_before out_now status) form said
