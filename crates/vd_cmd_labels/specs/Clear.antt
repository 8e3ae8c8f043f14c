-- The command `clear`.
use Rattle.std.specs.Prelude.{ℕ, List, []}
use Rattle.vd_outside.specs.Files.{Contents}
use Rattle.vd_core.specs.declared.source.Source.{Source}
use Rattle.vd_report.specs.Lines.{output_lines}
use Rattle.vd_semantics.specs.SourceMeaning.{source_outputs, host_names}
use Rattle.vd_cmd_plan.specs.Plans.{Plan, answer_then, ended}
use Rattle.vd_cmd_labels.specs.Outcomes.{TextOutcomes}
use Rattle.vd_cmd_labels.specs.Sources.{source_then}
use Rattle.vd_cmd_labels.specs.Inputs.{inputs_then}

-- a line for each host, of the words that it is told
abbrev pub clear_text : Source → List (List ℕ) → List ℕ
clear_text source inputs = output_lines (host_names source.hosts) (source_outputs source inputs)

-- what `clear` does with a source that meets every rule
abbrev pub resolved_plan : TextOutcomes → List ℕ → Source → Contents → Plan
resolved_plan texts inputs source = inputs_then texts inputs (host_names source.hosts) (λ words. answer_then (ended [] (clear_text source words)))

abbrev pub clear_plan : TextOutcomes → List ℕ → List ℕ → Contents → Plan
clear_plan texts source inputs = source_then texts source (resolved_plan texts inputs)
