-- That the files which a command line names are read ahead.
use Rattle.std.specs.Prelude.{◌≡◌, ◌⊎◌, ◌<◌, ℕ, List, [], ◌∷◌, codes}
use Rattle.vd_base.specs.Limits.{most_source_bytes, most_inputs_bytes, most_certificate_bytes, most_schedule_bytes, most_deal_bytes}
use Rattle.vd_base.specs.Limits.{most_host_file_bytes}
use Rattle.vd_cmd.specs.declared.command.Command.{Command}
use Rattle.vd_cmd.specs.declared.command.Command.TheVariants.{OnFiles, KeyDeal, Early, Host, Check, Run}
use Rattle.vd_cmd.specs.declared.command.CheckWords.{CheckWords}
use Rattle.vd_cmd.specs.declared.command.ColumnWords.{ColumnWords}
use Rattle.vd_cmd.specs.declared.command.EarlyWords.{EarlyWords}
use Rattle.vd_cmd.specs.declared.command.ExcuseWords.{ExcuseWords}
use Rattle.vd_cmd.specs.declared.command.HostWords.{HostWords}
use Rattle.vd_cmd.specs.declared.command.KeyDealWords.{KeyDealWords}
use Rattle.vd_cmd.specs.declared.command.KeySource.TheVariants.{InFile}
use Rattle.vd_cmd.specs.declared.command.NeedsWords.{NeedsWords}
use Rattle.vd_cmd.specs.declared.command.ReplayWords.{ReplayWords}
use Rattle.vd_cmd.specs.declared.command.ReportWords.{ReportWords}
use Rattle.vd_cmd.specs.declared.command.RevealsWords.{RevealsWords}
use Rattle.vd_cmd.specs.declared.command.RunWords.{RunWords}
use Rattle.vd_cmd.specs.declared.command.FilesCommand.TheVariants.{Clear, Labels, Choose, Draw, Reveals, Certify, Compile, Needs, Replay}
use Rattle.vd_cmd.specs.declared.command.FilesCommand.TheVariants.{Excuse, Depends, Influences, Column, Report}
use Rattle.vd_cmd_plan.specs.Numbered.{file_name}
use Rattle.vd_edge.specs.declared.kept.Wanted.{Wanted}
use Rattle.vd_shell.specs.Ahead.{file, wanted_of}

abbrev pub IsAmong : Wanted → List Wanted → Type 0
IsAmong wanted [] = ⊥
IsAmong wanted (one ∷ others) = (one ≡ wanted) ⊎ IsAmong wanted others

-- a file of this name is read ahead of a command, up to so many bytes
abbrev pub IsAhead : Command → (name : List ℕ) → (most : ℕ) → Type 0
IsAhead command name most = IsAmong (file name most) (wanted_of command)

-- the deals of all hosts that a source may have are read ahead
abbrev pub AreDealsAhead : Command → (prefix : List ℕ) → Type 0
AreDealsAhead command prefix = (number : ℕ) → number < 4 → IsAhead command (file_name prefix number (codes ".deal")) most_deal_bytes

-- Of each command the files are read ahead that its words name and that it reads, and the deals of its hosts.
pub record NamedFilesAreAhead : Type 0 where
  pub clear : (source inputs : List ℕ) → IsAhead (OnFiles (Clear source inputs)) source most_source_bytes
      × IsAhead (OnFiles (Clear source inputs)) inputs most_inputs_bytes
  pub labels : (source : List ℕ) → IsAhead (OnFiles (Labels source)) source most_source_bytes
  pub choose : (source : List ℕ) (budget : ℕ) → IsAhead (OnFiles (Choose source budget)) source most_source_bytes
  pub draw : (source : List ℕ) (budget : ℕ) → IsAhead (OnFiles (Draw source budget)) source most_source_bytes
  pub reveals : (words : RevealsWords) → IsAhead (OnFiles (Reveals words)) words.source most_source_bytes
  pub certify : (source certificate : List ℕ) → IsAhead (OnFiles (Certify source certificate)) source most_source_bytes
      × IsAhead (OnFiles (Certify source certificate)) certificate most_certificate_bytes
  pub compile : (source prefix : List ℕ) (budget : ℕ) → IsAhead (OnFiles (Compile source prefix budget)) source most_source_bytes
  pub early : (words : EarlyWords) → IsAhead (Early words) words.source most_source_bytes
  pub needs : (words : NeedsWords) → IsAhead (OnFiles (Needs words)) words.file most_host_file_bytes
  pub depends : (source : List ℕ) (names : List (List ℕ)) → IsAhead (OnFiles (Depends source names)) source most_source_bytes
  pub influences : (source host : List ℕ) → IsAhead (OnFiles (Influences source host)) source most_source_bytes
  pub column : (words : ColumnWords) → IsAhead (OnFiles (Column words)) words.file most_inputs_bytes
  pub report : (words : ReportWords) → IsAhead (OnFiles (Report words)) words.source most_source_bytes
      × IsAhead (OnFiles (Report words)) words.file most_inputs_bytes
  pub key : (words : KeyDealWords) (name : List ℕ) → words.key ≡ InFile name → IsAhead (KeyDeal words) name 32
  pub replay : (words : ReplayWords) → IsAhead (OnFiles (Replay words)) words.source most_source_bytes
      × IsAhead (OnFiles (Replay words)) words.inputs most_inputs_bytes
      × IsAhead (OnFiles (Replay words)) words.schedule most_schedule_bytes
  pub replayed_deals : (words : ReplayWords) → AreDealsAhead (OnFiles (Replay words)) words.prefix
  pub excuse : (words : ExcuseWords) → IsAhead (OnFiles (Excuse words)) words.source most_source_bytes
      × IsAhead (OnFiles (Excuse words)) words.inputs most_inputs_bytes
      × IsAhead (OnFiles (Excuse words)) words.second most_inputs_bytes
  pub excused_deals : (words : ExcuseWords) → AreDealsAhead (OnFiles (Excuse words)) words.prefix
  pub host : (words : HostWords) → IsAhead (Host words) words.program most_host_file_bytes
      × IsAhead (Host words) words.inputs most_inputs_bytes × IsAhead (Host words) words.deal most_deal_bytes
  pub check : (words : CheckWords) → IsAhead (Check words) words.program most_host_file_bytes
      × IsAhead (Check words) words.inputs most_inputs_bytes × IsAhead (Check words) words.deal most_deal_bytes
  pub run : (words : RunWords) → IsAhead (Run words) words.source most_source_bytes
