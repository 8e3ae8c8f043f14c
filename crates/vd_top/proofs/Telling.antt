-- What holds of a command holds of the words that are its form.
use Rattle.std.proofs.Common.{◌≡◌, ℕ, List, [], ◌∷◌, Option, Some, None, Err, true, false, refl, sym, ap, subst, ◌∙◌, arith}
use Rattle.vd_outside.specs.Files.{FilesView}
use Rattle.vd_outside.specs.declared.files.FilesCall.TheVariants.{Fetch}
use Rattle.vd_outside.specs.Marks.{MarksView}
use Rattle.vd_outside.specs.Sink.{SinkView}
use Rattle.vd_outside.specs.Spawner.{SpawnerView}
use Rattle.vd_cmd.specs.Commands.{form_of}
use Rattle.vd_cmd.specs.declared.command.Command.{Command}
use Rattle.vd_cmd.specs.declared.command.Command.TheVariants.{OnFiles, KeyDeal, Early, Host, Check, Run}
use Rattle.vd_cmd.specs.declared.command.FilesCommand.{FilesCommand}
use Rattle.vd_cmd.specs.declared.command.ReplayWords.{ReplayWords}
use Rattle.vd_cmd.specs.declared.command.FilesCommand.TheVariants.{Depends, Influences, Needs, Replay, Trial}
use Rattle.vd_cmd_plan.specs.Plans.{Executes, fetch_calls}
use Rattle.vd_cmd_plan.specs.declared.status.Status.{Status}
use Rattle.vd_cmd_plan.specs.declared.status.Status.TheVariants.{Ended, Memory, Usage}
use Rattle.vd_cmd_plan.proofs.Front.{same_within, any_memory, runs_err}
use Rattle.vd_cmd_choice.specs.Searching.{GaveUp, searched_by}
use Rattle.vd_execution.specs.Joint.{Done}
use Rattle.vd_cmd_compile_early.specs.Compiling.{early_plan}
use Rattle.vd_cmd_host.specs.Hosts.{HostRuns, Marked, NetsView, NotLoaded, Plainly}
use Rattle.vd_cmd_host.proofs.Front.{are_sealed, used_once}
use Rattle.vd_cmd_deal.specs.Sources.{FromFile, NoMemory, RunsKeyDeal, file_plan}
use Rattle.vd_cmd_host.specs.Checking.{NotRead}
use Rattle.vd_cmd_host.specs.Loading.{NoProgram, OfProgram, files_of}
use Rattle.vd_cmd_run.specs.Running.{Refused}
use Rattle.vd_cmd_run.specs.RunsHosts.{outside}
use Rattle.vd_cmd.specs.declared.command.CheckWords.{CheckWords}
use Rattle.vd_cmd.specs.declared.command.HostWords.{HostWords}
use Rattle.vd_cmd.specs.declared.command.KeyDealWords.{KeyDealWords}
use Rattle.vd_cmd.specs.declared.command.KeySource.{KeySource}
use Rattle.vd_cmd.specs.declared.command.KeySource.TheVariants.{Drawn, InFile}
use Rattle.vd_cmd.specs.declared.command.RunWords.{RunWords}
use Rattle.vd_top.specs.Commands.{RunsForm, plan_of, search_of, usage_plan}
use Rattle.vd_top.specs.Counts.{CountedForm, KeepsCount, counts_packets_by}
use Rattle.vd_top.specs.Early.{EarlyForm}
use Rattle.vd_top.specs.Headline.{KeepsTrial, KeepsDependence, KeepsHeadline, KeepsInfluence, KeepsNeeds, ShowsForm}
use Rattle.vd_cmd_run.proofs.Front.{complete}
use Rattle.vd_cmd_host.proofs.Front.{plain_served, served}
use Rattle.vd_top.specs.Promises.{Around, Does}
use Rattle.vd_top.proofs.Compiling.{stores_nothing}
use Rattle.vd_top.specs.Hosts.{ChecksForm, KeysForm, MarksForm, PlaysForm, ReportsForm, SealsForm, ServesForm, SpawnsForm, marks_by, speaks_by, spawns_by}

-- what is shown by the form is what is said of the words
pub headline_of : (words : List (List ℕ)) (before : FilesView) (out_before out_now : SinkView) (status : Status) → ShowsForm (form_of words) before out_before out_now status → KeepsHeadline words before out_before out_now status
headline_of words before out_before out_now status shows = λ replay form. subst (λ (f : Option Command). ShowsForm f before out_before out_now status) form shows

pub dependence_of : (words : List (List ℕ)) (before : FilesView) (out_before out_now : SinkView) (status : Status) → ShowsForm (form_of words) before out_before out_now status → KeepsDependence words before out_before out_now status
dependence_of words before out_before out_now status shows = λ source names form. subst (λ (f : Option Command). ShowsForm f before out_before out_now status) form shows

pub influence_of : (words : List (List ℕ)) (before : FilesView) (out_before out_now : SinkView) (status : Status) → ShowsForm (form_of words) before out_before out_now status → KeepsInfluence words before out_before out_now status
influence_of words before out_before out_now status shows = λ source name form. subst (λ (f : Option Command). ShowsForm f before out_before out_now status) form shows

pub needs_of : (words : List (List ℕ)) (before : FilesView) (out_before out_now : SinkView) (status : Status) → ShowsForm (form_of words) before out_before out_now status → KeepsNeeds words before out_before out_now status
needs_of words before out_before out_now status shows = λ needs form. subst (λ (f : Option Command). ShowsForm f before out_before out_now status) form shows

pub trial_of : (words : List (List ℕ)) (before : FilesView) (out_before out_now : SinkView) (status : Status) → ShowsForm (form_of words) before out_before out_now status → KeepsTrial words before out_before out_now status
trial_of words before out_before out_now status shows = λ coordinates form. subst (λ (f : Option Command). ShowsForm f before out_before out_now status) form shows

pub count_of : (words : List (List ℕ)) (before : FilesView) (packets : Option ℕ) (status : Status) → CountedForm (form_of words) before packets status → KeepsCount words before packets status
count_of words before packets status counted = λ replay form. subst (λ (f : Option Command). CountedForm f before packets status) form counted

-- where it did not end well, nothing is counted
pub counts_nothing : (before : FilesView) (packets : Option ℕ) (status : Status) → (status ≡ Ended → ⊥) → (form : Option Command) → CountedForm form before packets status
counts_nothing before packets status bad None = tt
counts_nothing before packets status bad (Some (OnFiles (Replay words))) = λ t e. absurd (bad e)
counts_nothing before packets status bad (Some (OnFiles command)) = tt
counts_nothing before packets status bad (Some (KeyDeal words)) = tt
counts_nothing before packets status bad (Some (Check words)) = tt
counts_nothing before packets status bad (Some (Early words)) = tt
counts_nothing before packets status bad (Some (Host words)) = tt
counts_nothing before packets status bad (Some (Run words)) = tt

-- ---- where there was no memory for the words, nothing was done

module _ (files : FilesView) (out : SinkView) where
  pub early_nothing : (form : Option Command) → EarlyForm form files files out out Memory
  early_nothing None = tt
  early_nothing (Some (OnFiles command)) = tt
  early_nothing (Some (KeyDeal words)) = tt
  early_nothing (Some (Check words)) = tt
  early_nothing (Some (Early words)) = record {
    runs = (
      Done,
      (
        GaveUp,
        λ certificates choices texts least.
            let plan = early_plan texts least choices (searched_by certificates choices GaveUp) Done words.source words.prefix words.budget in
            runs_err true plan files files out Memory (any_memory plan files),
      ),
    );
    keeps = λ t e. absurd (cc e);
  }
  early_nothing (Some (Host words)) = tt
  early_nothing (Some (Run words)) = tt

  pub runs_nothing : (form : Option Command) → (form ≡ None → ⊥) → RunsForm form files files out out Memory
  runs_nothing None some = absurd (some refl)
  runs_nothing (Some (OnFiles command)) some = (GaveUp, λ outcomes. runs_err _ (plan_of outcomes (search_of outcomes GaveUp) command) files files out Memory (any_memory (plan_of outcomes (search_of outcomes GaveUp) command) files))
  runs_nothing (Some (KeyDeal words)) some = tt
  runs_nothing (Some (Check words)) some = tt
  runs_nothing (Some (Early words)) some = tt
  runs_nothing (Some (Host words)) some = tt
  runs_nothing (Some (Run words)) some = tt

  pub shows_nothing : (form : Option Command) → ShowsForm form files out out Memory
  shows_nothing None = tt
  shows_nothing (Some (OnFiles (Replay words))) = λ t o e. absurd (cc e)
  shows_nothing (Some (OnFiles (Depends source names))) = λ t o e. absurd (cc e)
  shows_nothing (Some (OnFiles (Influences source name))) = λ t o e. absurd (cc e)
  shows_nothing (Some (OnFiles (Needs words))) = λ t o e. absurd (cc e)
  shows_nothing (Some (OnFiles (Trial coordinates))) = λ t. (tt, λ o e. absurd (cc e))
  shows_nothing (Some (OnFiles command)) = tt
  shows_nothing (Some (KeyDeal words)) = tt
  shows_nothing (Some (Check words)) = tt
  shows_nothing (Some (Early words)) = tt
  shows_nothing (Some (Host words)) = tt
  shows_nothing (Some (Run words)) = tt

  pub plays_nothing : (marks : MarksView) (nets : NetsView) (form : Option Command) → PlaysForm form files files marks marks nets nets out out Memory
  plays_nothing marks nets None = tt
  plays_nothing marks nets (Some (OnFiles command)) = tt
  plays_nothing marks nets (Some (KeyDeal words)) = tt
  plays_nothing marks nets (Some (Check words)) = tt
  plays_nothing marks nets (Some (Early words)) = tt
  plays_nothing marks nets (Some (Run words)) = tt
  plays_nothing marks nets (Some (Host words)) = Plainly Memory (NotLoaded Memory (record {
    later = omega arith;
    ends = tt;
    fault = λ name e. absurd (cc e);
    last = λ t name e. absurd (cc e);
    still_told = λ t. t;
    contents = λ t. refl;
    front = λ t. same_within files.asked files.asked (fetch_calls (files_of words)) refl;
    whole = λ t. tt;
    given = λ t. tt;
    cause = λ t. OfProgram tt;
  }) refl refl) refl refl

  pub keys_nothing : (marks : MarksView) (form : Option Command) → KeysForm form files files marks marks out out Memory
  keys_nothing marks None = tt
  keys_nothing marks (Some (OnFiles command)) = tt
  keys_nothing marks (Some (Check words)) = tt
  keys_nothing marks (Some (Early words)) = tt
  keys_nothing marks (Some (Host words)) = tt
  keys_nothing marks (Some (Run words)) = tt
  keys_nothing marks (Some (KeyDeal words)) = by words.key refl
    where
      by : (key : KeySource) → words.key ≡ key → RunsKeyDeal words files files marks marks out out Memory
      by Drawn is = NoMemory is refl refl refl
      by (InFile name) is =
          FromFile name Memory is refl (runs_err true (file_plan words.counts name words.prefix) files files out Memory (any_memory (file_plan words.counts name words.prefix) files))

  pub checks_nothing : (marks : MarksView) (form : Option Command) → ChecksForm form files files marks marks out out Memory
  checks_nothing marks None = tt
  checks_nothing marks (Some (OnFiles command)) = tt
  checks_nothing marks (Some (KeyDeal words)) = tt
  checks_nothing marks (Some (Early words)) = tt
  checks_nothing marks (Some (Host words)) = tt
  checks_nothing marks (Some (Run words)) = tt
  checks_nothing marks (Some (Check words)) = NotRead Memory (NoProgram Memory (record {
    later = omega arith;
    ends = tt;
    fault = λ name e. absurd (cc e);
    last = λ t name e. absurd (cc e);
    still_told = λ t. t;
    contents = λ t. refl;
    front = λ t. same_within files.asked files.asked (Fetch words.program ∷ []) refl;
    whole = λ t. tt;
    given = λ t. tt;
    cause = λ t. tt;
  })) refl refl

  pub spawns_nothing : (spawner : SpawnerView) (form : Option Command) → SpawnsForm form files files out out spawner spawner Memory
  spawns_nothing spawner None = tt
  spawns_nothing spawner (Some (OnFiles command)) = tt
  spawns_nothing spawner (Some (KeyDeal words)) = tt
  spawns_nothing spawner (Some (Check words)) = tt
  spawns_nothing spawner (Some (Early words)) = tt
  spawns_nothing spawner (Some (Host words)) = tt
  spawns_nothing spawner (Some (Run words)) = record {
    compiled = files;
    came = Err Memory;
    names = [];
    executes = (GaveUp, λ certificates choices texts least. any_memory _ files);
    hosts = λ t. tt;
    plays = Refused Memory refl;
  }

-- ---- words without a form

module _ (files : FilesView) (out : SinkView) where
  usage_executes : Executes false usage_plan files files (Err Usage)
  usage_executes = record {
    later = omega arith;
    proper = refl;
    fault = λ file e. absurd (cc e);
    last = λ t file e. absurd (cc e);
    still_told = λ t. t;
    contents = λ t. refl;
    front = λ t. same_within files.asked files.asked [] refl;
    whole = λ t. tt;
    settled = λ t. refl;
  }

  pub runs_refused : (form : Option Command) → form ≡ None → RunsForm form files files out out Usage
  runs_refused form none = subst (λ (f : Option Command). RunsForm f files files out out Usage) (sym none) (runs_err false usage_plan files files out Usage usage_executes)

  pub early_refused : (form : Option Command) → form ≡ None → EarlyForm form files files out out Usage
  early_refused form none = subst (λ (f : Option Command). EarlyForm f files files out out Usage) (sym none) tt

  pub shows_refused : (form : Option Command) → form ≡ None → ShowsForm form files out out Usage
  shows_refused form none = subst (λ (f : Option Command). ShowsForm f files out out Usage) (sym none) tt

  pub plays_refused : (marks : MarksView) (nets : NetsView) (form : Option Command) → form ≡ None → PlaysForm form files files marks marks nets nets out out Usage
  plays_refused marks nets form none = subst (λ (f : Option Command). PlaysForm f files files marks marks nets nets out out Usage) (sym none) tt

  pub keys_refused : (marks : MarksView) (form : Option Command) → form ≡ None → KeysForm form files files marks marks out out Usage
  keys_refused marks form none = subst (λ (f : Option Command). KeysForm f files files marks marks out out Usage) (sym none) tt

  pub checks_refused : (marks : MarksView) (form : Option Command) → form ≡ None → ChecksForm form files files marks marks out out Usage
  checks_refused marks form none = subst (λ (f : Option Command). ChecksForm f files files marks marks out out Usage) (sym none) tt

  pub spawns_refused : (spawner : SpawnerView) (form : Option Command) → form ≡ None → SpawnsForm form files files out out spawner spawner Usage
  spawns_refused spawner form none = subst (λ (f : Option Command). SpawnsForm f files files out out spawner spawner Usage) (sym none) tt

-- ---- which commands use what

pub host_speaks : (command : Command) (words : HostWords) → command ≡ Host words → speaks_by (Some command) ≡ false → ⊥
host_speaks command words is e = let wrong : true ≡ false = sym (ap (λ (k : Command). speaks_by (Some k)) is) ∙ e in cc

pub host_marks : (command : Command) (words : HostWords) → command ≡ Host words → marks_by (Some command) ≡ false → ⊥
host_marks command words is e = let wrong : true ≡ false = sym (ap (λ (k : Command). marks_by (Some k)) is) ∙ e in cc

pub check_marks : (command : Command) (words : CheckWords) → command ≡ Check words → marks_by (Some command) ≡ false → ⊥
check_marks command words is e = let wrong : true ≡ false = sym (ap (λ (k : Command). marks_by (Some k)) is) ∙ e in cc

pub key_marks : (command : Command) (words : KeyDealWords) → command ≡ KeyDeal words → marks_by (Some command) ≡ false → ⊥
key_marks command words is e = let wrong : true ≡ false = sym (ap (λ (k : Command). marks_by (Some k)) is) ∙ e in cc

pub replay_counts : (command : FilesCommand) (words : ReplayWords) → command ≡ Replay words → counts_packets_by (Some (OnFiles command)) ≡ false → ⊥
replay_counts command words is e = let wrong : true ≡ false = sym (ap (λ (k : FilesCommand). counts_packets_by (Some (OnFiles k))) is) ∙ e in cc

pub uncounted : (command : Command) (inner : FilesCommand) → command ≡ OnFiles inner → counts_packets_by (Some command) ≡ false → counts_packets_by (Some (OnFiles inner)) ≡ false
uncounted command inner is e = subst (λ (k : Command). counts_packets_by (Some k) ≡ false) is e

pub run_spawns : (command : Command) (words : RunWords) → command ≡ Run words → spawns_by (Some command) ≡ false → ⊥
run_spawns command words is e = let wrong : true ≡ false = sym (ap (λ (k : Command). spawns_by (Some k)) is) ∙ e in cc

-- ---- what is said of a command is said of the words of which it is the form

module _ (form : Option Command) (command : Command) (is : form ≡ Some command) where
  pub does_by : (o : Around) (status : Status) → Does (Some command) o status → Does form o status
  does_by o status said = subst (λ (f : Option Command). Does f o status) (sym is) said

  pub silent_by : speaks_by form ≡ false → speaks_by (Some command) ≡ false
  silent_by silent = subst (λ (f : Option Command). speaks_by f ≡ false) is silent

-- ---- what was done ends well where it can

-- a mark is there where something was sent, whatever the command is
pub marked_all : (files files_now : FilesView) (marks marks_now : MarksView) (nets nets_now : NetsView) (out out_now : SinkView) (status : Status) (form : Option Command)
    → PlaysForm form files files_now marks marks_now nets nets_now out out_now status → MarksForm form files files_now marks marks_now nets nets_now
marked_all files files_now marks marks_now nets nets_now out out_now status None plays = tt
marked_all files files_now marks marks_now nets nets_now out out_now status (Some (OnFiles command)) plays = tt
marked_all files files_now marks marks_now nets nets_now out out_now status (Some (KeyDeal words)) plays = tt
marked_all files files_now marks marks_now nets nets_now out out_now status (Some (Check words)) plays = tt
marked_all files files_now marks marks_now nets nets_now out out_now status (Some (Early words)) plays = tt
marked_all files files_now marks marks_now nets nets_now out out_now status (Some (Run words)) plays = tt
marked_all files files_now marks marks_now nets nets_now out out_now status (Some (Host words)) plays = used_once words files files_now marks marks_now nets nets_now out out_now status plays

pub seals : (files files_now : FilesView) (marks marks_now : MarksView) (nets nets_now : NetsView) (out out_now : SinkView) (status : Status) (form : Option Command)
    → PlaysForm form files files_now marks marks_now nets nets_now out out_now status → SealsForm form files files_now marks nets nets_now
seals files files_now marks marks_now nets nets_now out out_now status None plays = tt
seals files files_now marks marks_now nets nets_now out out_now status (Some (OnFiles command)) plays = tt
seals files files_now marks marks_now nets nets_now out out_now status (Some (KeyDeal words)) plays = tt
seals files files_now marks marks_now nets nets_now out out_now status (Some (Check words)) plays = tt
seals files files_now marks marks_now nets nets_now out out_now status (Some (Early words)) plays = tt
seals files files_now marks marks_now nets nets_now out out_now status (Some (Run words)) plays = tt
seals files files_now marks marks_now nets nets_now out out_now status (Some (Host words)) plays = are_sealed words files files_now marks marks_now nets nets_now out out_now status plays

-- where nothing was done, nothing has changed
module _ (files : FilesView) (marks : MarksView) (out err : SinkView) (nets : NetsView) (spawner : SpawnerView) (packets : Option ℕ) where
  abbrev still : Around
  still = record {
    files = (files, files);
    out = (out, out);
    err = (err, err);
    marks = (marks, marks);
    nets = (nets, nets);
    spawner = (spawner, spawner);
    packets = (packets, packets);
  }

  pub does_nothing : (form : Option Command) → (form ≡ None → ⊥) → Does form still Memory
  does_nothing form some = record {
    runs = runs_nothing files out form some;
    shows = shows_nothing files out form;
    stores = stores_nothing files files out out Memory (λ e. cc e) form;
    counts = counts_nothing files packets Memory (λ e. cc e) form;
    early = early_nothing files out form;
    host = plays_nothing files out marks nets form;
    used_once = marked_all files files marks marks nets nets out out Memory form (plays_nothing files out marks nets form);
    checked = checks_nothing files out marks form;
    keyed = keys_nothing files out marks form;
    hosts = spawns_nothing files out spawner form;
    err_untouched = refl;
    marks_untouched = λ e. refl;
    spawner_untouched = λ e. refl;
    packets_untouched = λ e. refl;
  }

  pub does_refused : (form : Option Command) → form ≡ None → Does form still Usage
  does_refused form none = record {
    runs = runs_refused files out form none;
    shows = shows_refused files out form none;
    stores = stores_nothing files files out out Usage (λ e. cc e) form;
    counts = counts_nothing files packets Usage (λ e. cc e) form;
    early = early_refused files out form none;
    host = plays_refused files out marks nets form none;
    used_once = marked_all files files marks marks nets nets out out Usage form (plays_refused files out marks nets form none);
    checked = checks_refused files out marks form none;
    keyed = keys_refused files out marks form none;
    hosts = spawns_refused files out spawner form none;
    err_untouched = refl;
    marks_untouched = λ e. refl;
    spawner_untouched = λ e. refl;
    packets_untouched = λ e. refl;
  }

serves_host : (words : HostWords) (files files_now : FilesView) (marks marks_now : MarksView) (nets nets_now : NetsView) (out out_now : SinkView) (status : Status)
    → HostRuns words files files_now marks marks_now nets nets_now out out_now status → ServesForm (Some (Host words)) files files_now nets nets_now out out_now status
serves_host words files files_now marks marks_now nets nets_now out out_now status runs = by runs
  where
    by : {end : Status} → HostRuns words files files_now marks marks_now nets nets_now out out_now end → ServesForm (Some (Host words)) files files_now nets nets_now out out_now end
    by (Plainly end plain same_marks same_sent) = served words files files_now nets.plain nets_now.plain out out_now end plain
    by (Marked loaded secrets end loads is dealt ends) =
        λ files_told net_told room quiet is_served. absurd (plain_served words files files_now nets.plain loaded secrets files_told is_served loads dealt)

pub serves : (files files_now : FilesView) (marks marks_now : MarksView) (nets nets_now : NetsView) (out out_now : SinkView) (status : Status) (form : Option Command)
    → PlaysForm form files files_now marks marks_now nets nets_now out out_now status → ServesForm form files files_now nets nets_now out out_now status
serves files files_now marks marks_now nets nets_now out out_now status None plays = tt
serves files files_now marks marks_now nets nets_now out out_now status (Some (OnFiles command)) plays = tt
serves files files_now marks marks_now nets nets_now out out_now status (Some (KeyDeal words)) plays = tt
serves files files_now marks marks_now nets nets_now out out_now status (Some (Check words)) plays = tt
serves files files_now marks marks_now nets nets_now out out_now status (Some (Early words)) plays = tt
serves files files_now marks marks_now nets nets_now out out_now status (Some (Run words)) plays = tt
serves files files_now marks marks_now nets nets_now out out_now status (Some (Host words)) plays = serves_host words files files_now marks marks_now nets nets_now out out_now status plays

pub reports : (files files_now : FilesView) (out out_now : SinkView) (spawner spawner_now : SpawnerView) (status : Status) (form : Option Command) → SpawnsForm form files files_now out out_now spawner spawner_now status
    → ReportsForm form files files_now out out_now spawner spawner_now status
reports files files_now out out_now spawner spawner_now status None spawned = tt
reports files files_now out out_now spawner spawner_now status (Some (OnFiles command)) spawned = tt
reports files files_now out out_now spawner spawner_now status (Some (KeyDeal words)) spawned = tt
reports files files_now out out_now spawner spawner_now status (Some (Check words)) spawned = tt
reports files files_now out out_now spawner spawner_now status (Some (Early words)) spawned = tt
reports files files_now out out_now spawner spawner_now status (Some (Host words)) spawned = tt
reports files files_now out out_now spawner spawner_now status (Some (Run words)) spawned = complete words (outside files out spawner) (outside files_now out_now spawner_now) status spawned
