-- A source that was compiled for a run: the names of its hosts, and what `compile` comes to.
use Rattle.std.specs.Prelude.{◌≡◌, ℕ, List, Result, Ok, Err}
use Rattle.vd_base.specs.Limits.{most_search_budget}
use Rattle.vd_core.specs.declared.source.Source.{Source}
use Rattle.vd_semantics.specs.SourceMeaning.{host_names}
use Rattle.vd_outside.specs.Files.{Contents, FilesView}
use Rattle.vd_cmd_compile.specs.Compiling.{ExecutesCompile}
use Rattle.vd_cmd_labels.specs.Sources.{HoldsSource}
use Rattle.vd_cmd_plan.specs.declared.answer.Answer.{Answer}
use Rattle.vd_cmd_plan.specs.declared.status.Status.{Status}
use Rattle.vd_cmd_run.specs.declared.compiled.Compiled.{Compiled}

abbrev pub answer_of : Result Compiled Status → Result Answer Status
answer_of (Ok compiled) = Ok compiled.answer
answer_of (Err status) = Err status

-- the hosts with these names are those of the source that the file holds
pub record AreHostsOf (name : List ℕ) (contents : Contents) (names : List (List ℕ)) : Type 0 where
  pub source : Source
  pub held : HoldsSource name contents source
  pub names_are : names ≡ host_names source.hosts

-- a run compiles as `compile` does with the greatest budget
abbrev pub CompilesFor : (source prefix : List ℕ) → FilesView → FilesView → Result Compiled Status → Type 0
CompilesFor source prefix before now result = ExecutesCompile source prefix most_search_budget before now (answer_of result)
