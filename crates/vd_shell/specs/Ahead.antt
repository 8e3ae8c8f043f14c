-- The files that are read ahead of a run, by its words.
use Rattle.std.specs.Prelude.{ℕ, List, [], ◌∷◌, ◌++◌, Option, Some, None, codes}
use Rattle.vd_base.specs.Limits.{most_source_bytes, most_inputs_bytes, most_certificate_bytes, most_schedule_bytes, most_deal_bytes, most_host_file_bytes}
use Rattle.vd_cmd.specs.declared.command.Command.{Command}
use Rattle.vd_cmd.specs.declared.command.Command.TheVariants.{OnFiles, KeyDeal, Early, Host, Check, Run}
use Rattle.vd_cmd.specs.declared.command.KeySource.{KeySource}
use Rattle.vd_cmd.specs.declared.command.KeySource.TheVariants.{Drawn, InFile}
use Rattle.vd_cmd.specs.declared.command.FilesCommand.TheVariants.{Clear, Labels, Choose, Draw, Reveals, Certify, Compile, Needs, Deal, Replay, Excuse, Depends, Influences, Column, Report, Gen, Trial}
use Rattle.vd_cmd_plan.specs.Numbered.{file_name}
use Rattle.vd_edge.specs.declared.kept.Wanted.{Wanted}

-- a file, and the most bytes with which it is fetched
abbrev pub file : List ℕ → ℕ → Wanted
file name most = record { name = name; most = most }

-- the deal of the host with this number
abbrev pub deal : List ℕ → ℕ → Wanted
deal prefix number = file (file_name prefix number (codes ".deal")) most_deal_bytes

-- the deals of as many hosts as a source may have
abbrev pub deals_of : List ℕ → List Wanted
deals_of prefix = deal prefix 0 ∷ deal prefix 1 ∷ deal prefix 2 ∷ deal prefix 3 ∷ []

-- the file of a key, where it is read
abbrev pub key_files : KeySource → List Wanted
key_files Drawn = []
key_files (InFile name) = file name 32 ∷ []

abbrev pub wanted_of : Command → List Wanted
wanted_of (OnFiles (Clear source inputs)) = file source most_source_bytes ∷ file inputs most_inputs_bytes ∷ []
wanted_of (OnFiles (Labels source)) = file source most_source_bytes ∷ []
wanted_of (OnFiles (Choose source budget)) = file source most_source_bytes ∷ []
wanted_of (OnFiles (Draw source budget)) = file source most_source_bytes ∷ []
wanted_of (OnFiles (Reveals words)) = file words.source most_source_bytes ∷ []
wanted_of (OnFiles (Certify source certificate)) = file source most_source_bytes ∷ file certificate most_certificate_bytes ∷ []
wanted_of (OnFiles (Compile source prefix budget)) = file source most_source_bytes ∷ []
wanted_of (OnFiles (Needs words)) = file words.file most_host_file_bytes ∷ []
wanted_of (OnFiles (Deal counts key prefix)) = []
wanted_of (OnFiles (Replay words)) =
    (file words.source most_source_bytes ∷ file words.inputs most_inputs_bytes ∷ []) ++ deals_of words.prefix ++ file words.schedule most_schedule_bytes ∷ []
wanted_of (OnFiles (Excuse words)) =
    (file words.source most_source_bytes ∷ file words.inputs most_inputs_bytes ∷ file words.second most_inputs_bytes ∷ []) ++ deals_of words.prefix
wanted_of (OnFiles (Depends source names)) = file source most_source_bytes ∷ []
wanted_of (OnFiles (Influences source host)) = file source most_source_bytes ∷ []
wanted_of (OnFiles (Column words)) = file words.file most_inputs_bytes ∷ []
wanted_of (OnFiles (Report words)) = file words.source most_source_bytes ∷ file words.file most_inputs_bytes ∷ []
wanted_of (OnFiles (Gen coordinates)) = []
wanted_of (OnFiles (Trial coordinates)) = []
wanted_of (KeyDeal words) = key_files words.key
wanted_of (Early words) = file words.source most_source_bytes ∷ []
wanted_of (Host words) = file words.program most_host_file_bytes ∷ file words.inputs most_inputs_bytes ∷ file words.deal most_deal_bytes ∷ []
wanted_of (Check words) = file words.program most_host_file_bytes ∷ file words.inputs most_inputs_bytes ∷ file words.deal most_deal_bytes ∷ []
wanted_of (Run words) = file words.source most_source_bytes ∷ []

-- words that have no form want no file
abbrev pub wanted_by : Option Command → List Wanted
wanted_by None = []
wanted_by (Some command) = wanted_of command
