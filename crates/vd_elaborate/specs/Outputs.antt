-- A program that tells each host, for all inputs, what a source tells it.
use Rattle.std.specs.Prelude.{◌≡◌, ℕ, List}
use Rattle.vd_core.specs.declared.normal.NormalForm.{NormalForm}
use Rattle.vd_core.specs.declared.source.Source.{Source}
use Rattle.vd_semantics.specs.SourceMeaning.{source_outputs}
use Rattle.vd_semantics.specs.ProgramMeaning.{program_outputs}

abbrev pub KeepsOutputs : Source → NormalForm → Type 0
KeepsOutputs source program = (inputs : List (List ℕ)) → program_outputs program inputs ≡ source_outputs source inputs
