-- The commands that run hosts: `host` runs one over a net, `check` looks at its files before, and `run` runs all of a source as children.
use Rattle.std.specs.Prelude.{ℕ, Bool, true, false, List, Option, Some}
use Rattle.vd_outside.specs.Files.{FilesView}
use Rattle.vd_outside.specs.Marks.{MarksView}
use Rattle.vd_outside.specs.Sink.{SinkView}
use Rattle.vd_outside.specs.Spawner.{SpawnerView}
use Rattle.vd_cmd.specs.Commands.{form_of}
use Rattle.vd_cmd.specs.declared.command.Command.{Command}
use Rattle.vd_cmd.specs.declared.command.Command.TheVariants.{Check, Host, KeyDeal, Run}
use Rattle.vd_cmd_plan.specs.declared.status.Status.{Status}
use Rattle.vd_cmd_host.specs.Checking.{HostChecks}
use Rattle.vd_cmd_host.specs.Hosts.{HostRuns, NetsView}
use Rattle.vd_cmd_host.specs.Once.{UsesOnce}
use Rattle.vd_cmd_host.specs.Sealing.{SealsByDeal}
use Rattle.vd_cmd_deal.specs.Sources.{RunsKeyDeal}
use Rattle.vd_cmd_run.specs.Completing.{IsCompleteRun}
use Rattle.vd_cmd_run.specs.Running.{Runs}
use Rattle.vd_cmd_run.specs.RunsHosts.{outside}
use Rattle.vd_cmd_host.specs.Serving.{IsCompleteHost}

-- ---- which commands use what

abbrev pub speaks_by : Option Command → Bool
speaks_by (Some (Host words)) = true
speaks_by other = false

abbrev pub spawns_by : Option Command → Bool
spawns_by (Some (Run words)) = true
spawns_by other = false

-- whether the words are those of the command that uses the net
abbrev pub speaks : List (List ℕ) → Bool
speaks words = speaks_by (form_of words)

-- whether the words are those of a command that may use marks
abbrev pub marks_by : Option Command → Bool
marks_by (Some (Host words)) = true
marks_by (Some (Check words)) = true
marks_by (Some (KeyDeal words)) = true
marks_by other = false

abbrev pub may_mark : List (List ℕ) → Bool
may_mark words = marks_by (form_of words)

-- whether they are those of the command that uses the spawner
abbrev pub spawns : List (List ℕ) → Bool
spawns words = spawns_by (form_of words)

-- ---- what they do

-- The files of the host are fetched and read, and it is run over the net: it listens for its later peers, says so, gets the link
-- to each peer and greets it, takes the steps of its machine on the words that come, and says that it ended. Each link that was
-- given comes back, in the order of the hosts, whatever the status is. No wait is longer than the words allow. With a deal of version 2 its mark is taken before, and the links are sealed.
abbrev pub PlaysForm : Option Command → FilesView → FilesView → MarksView → MarksView → NetsView → NetsView → SinkView → SinkView → Status → Type 0
PlaysForm (Some (Host words)) files files_now marks marks_now nets nets_now out out_now status = HostRuns words files files_now marks marks_now nets nets_now out out_now status
PlaysForm other files files_now marks marks_now nets nets_now out out_now status = Unit {0}

abbrev pub PlaysWords : List (List ℕ) → FilesView → FilesView → MarksView → MarksView → NetsView → NetsView → SinkView → SinkView → Status → Type 0
PlaysWords words files files_now marks marks_now nets nets_now out out_now status = PlaysForm (form_of words) files files_now marks marks_now nets nets_now out out_now status

-- Where something went out over a sealed link behind its greeting, the mark of the deal was not there before, and is there now.
abbrev pub MarksForm : Option Command → FilesView → FilesView → MarksView → MarksView → NetsView → NetsView → Type 0
MarksForm (Some (Host words)) files files_now marks marks_now nets nets_now = UsesOnce words files files_now marks marks_now nets nets_now
MarksForm other files files_now marks marks_now nets nets_now = Unit {0}

abbrev pub MarksWords : List (List ℕ) → FilesView → FilesView → MarksView → MarksView → NetsView → NetsView → Type 0
MarksWords words files files_now marks marks_now nets nets_now = MarksForm (form_of words) files files_now marks marks_now nets nets_now

-- With a deal of version 2 all that was sent over each link that came back was sealed by what the deal tells, and by bytes that were
-- drawn for this run.
abbrev pub SealsForm : Option Command → FilesView → FilesView → MarksView → NetsView → NetsView → Type 0
SealsForm (Some (Host words)) files files_now marks nets nets_now = SealsByDeal words files files_now marks nets.plain nets_now.plain
SealsForm other files files_now marks nets nets_now = Unit {0}

abbrev pub SealsWords : List (List ℕ) → FilesView → FilesView → MarksView → NetsView → NetsView → Type 0
SealsWords words files files_now marks nets nets_now = SealsForm (form_of words) files files_now marks nets nets_now

-- The files of a host are read, and the mark of its deal is looked for: what it takes at most, what there is and whether the deal was used is printed.
abbrev pub ChecksForm : Option Command → FilesView → FilesView → MarksView → MarksView → SinkView → SinkView → Status → Type 0
ChecksForm (Some (Check words)) files files_now marks marks_now out out_now status = HostChecks words files files_now marks marks_now out out_now status
ChecksForm other files files_now marks marks_now out out_now status = Unit {0}

abbrev pub ChecksWords : List (List ℕ) → FilesView → FilesView → MarksView → MarksView → SinkView → SinkView → Status → Type 0
ChecksWords words files files_now marks marks_now out out_now status = ChecksForm (form_of words) files files_now marks marks_now out out_now status

-- A key of 32 bytes is drawn or read, and the deal that it makes is stored.
abbrev pub KeysForm : Option Command → FilesView → FilesView → MarksView → MarksView → SinkView → SinkView → Status → Type 0
KeysForm (Some (KeyDeal words)) files files_now marks marks_now out out_now status = RunsKeyDeal words files files_now marks marks_now out out_now status
KeysForm other files files_now marks marks_now out out_now status = Unit {0}

abbrev pub KeysWords : List (List ℕ) → FilesView → FilesView → MarksView → MarksView → SinkView → SinkView → Status → Type 0
KeysWords words files files_now marks marks_now out out_now status = KeysForm (form_of words) files files_now marks marks_now out out_now status

-- The source is compiled as `compile` does, the files of its hosts are stored, and a child is started for each host, in order;
-- each is read to its end and finished, in order; and a line is written for each.
abbrev pub SpawnsForm : Option Command → FilesView → FilesView → SinkView → SinkView → SpawnerView → SpawnerView → Status → Type 0
SpawnsForm (Some (Run words)) files files_now out out_now spawner spawner_now status = Runs words (outside files out spawner) (outside files_now out_now spawner_now) status
SpawnsForm other files files_now out out_now spawner spawner_now status = Unit {0}

abbrev pub SpawnsWords : List (List ℕ) → FilesView → FilesView → SinkView → SinkView → SpawnerView → SpawnerView → Status → Type 0
SpawnsWords words files files_now out out_now spawner spawner_now status = SpawnsForm (form_of words) files files_now out out_now spawner spawner_now status

-- ---- when they end well

-- A host whose files are good, with a deal of version 1, and whose peers serve it ends with status 0 or is out of memory, unless something outside fails.
abbrev pub ServesForm : Option Command → FilesView → FilesView → NetsView → NetsView → SinkView → SinkView → Status → Type 0
ServesForm (Some (Host words)) files files_now nets nets_now out out_now status = IsCompleteHost words files files_now nets.plain nets_now.plain out out_now status
ServesForm other files files_now nets nets_now out out_now status = Unit {0}

abbrev pub ServesWords : List (List ℕ) → FilesView → FilesView → NetsView → NetsView → SinkView → SinkView → Status → Type 0
ServesWords words files files_now nets nets_now out out_now status = ServesForm (form_of words) files files_now nets nets_now out out_now status

-- So does a run of all hosts of a source at its choice whose children say what hosts say.
abbrev pub ReportsForm : Option Command → FilesView → FilesView → SinkView → SinkView → SpawnerView → SpawnerView → Status → Type 0
ReportsForm (Some (Run words)) files files_now out out_now spawner spawner_now status = IsCompleteRun words (outside files out spawner) (outside files_now out_now spawner_now) status
ReportsForm other files files_now out out_now spawner spawner_now status = Unit {0}

abbrev pub ReportsWords : List (List ℕ) → FilesView → FilesView → SinkView → SinkView → SpawnerView → SpawnerView → Status → Type 0
ReportsWords words files files_now out out_now spawner spawner_now status = ReportsForm (form_of words) files files_now out out_now spawner spawner_now status
