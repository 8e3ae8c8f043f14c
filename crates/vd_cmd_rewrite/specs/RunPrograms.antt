-- The program that protocols are chosen for and that is run: where no host may read what a branch goes by, it is selections, and
-- divisions that no protocol computes are loops.
use Rattle.std.specs.Prelude.{◌≡◌, ℕ, is_ok, if◌then◌else◌, List, Option, Some, None, Result, Ok, Err}
use Rattle.vd_core.specs.declared.source.Source.{Source}
use Rattle.vd_core.specs.declared.normal.NormalForm.{NormalForm}
use Rattle.vd_semantics.specs.ProgramMeaning.{program_outputs}
use Rattle.vd_semantics.specs.SourceMeaning.{source_outputs}
use Rattle.vd_elaborate.specs.Normal.{normal_form}
use Rattle.vd_constraints.specs.Rules.{system_of}
use Rattle.vd_constraints.specs.Satisfies.{IsLeast, Satisfies}
use Rattle.vd_constraints.specs.declared.labels.Labels.{Labels}
use Rattle.vd_mux.specs.Hidden.{turn_of}
use Rattle.vd_long.specs.Marks.{lengthen_of}
use Rattle.vd_base.specs.Words.{InputsAreWords}
use Rattle.vd_cmd_plan.specs.declared.status.Status.{Status}
use Rattle.vd_cmd_labels.specs.Outcomes.{LabelOutcomes}
use Rattle.vd_cmd_labels.specs.Labelling.{labels_of}

-- a rewriting of a program under labels of its slots
abbrev pub Rewriting : Type 0
Rewriting = NormalForm → Labels → NormalForm

-- the new program where it has labels, and the old one elsewhere
abbrev pub if_labelled : LabelOutcomes → (new old : NormalForm) → NormalForm
if_labelled least new old = if is_ok (labels_of least new) then new else old

-- what a rewriting makes of a program with these least labels; one without labels stays as it is
abbrev pub under : Rewriting → LabelOutcomes → NormalForm → Result Labels Status → NormalForm
under change least program (Ok labels) = if_labelled least (change program labels) program
under change least program (Err status) = program

abbrev pub rewritten_by : Rewriting → LabelOutcomes → NormalForm → NormalForm
rewritten_by change least program = under change least program (labels_of least program)

-- first the branches, then the divisions
abbrev pub run_form : LabelOutcomes → NormalForm → NormalForm
run_form least program = rewritten_by lengthen_of least (rewritten_by turn_of least program)

-- the program that is run of this source, whatever function picks labels
abbrev pub IsRunForm : Source → NormalForm → Type 0
IsRunForm source program = (least : LabelOutcomes) → program ≡ run_form least (normal_form source)

-- ---- the same said without a function that picks labels

-- the program has no labels
abbrev pub HasNoLabels : NormalForm → Type 0
HasNoLabels program = (l : Labels) → Satisfies (system_of program) l → ⊥

-- the least labels of a program, or none where it has no labels
abbrev pub IsFound : NormalForm → Option Labels → Type 0
IsFound program (Some labels) = IsLeast (system_of program) labels
IsFound program None = HasNoLabels program

-- the new program where it has labels, and the old one elsewhere
pub data IsLabelledOr (new old chosen : NormalForm) : Type 0 where
  New : (labels : Labels) → IsLeast (system_of new) labels → chosen ≡ new → IsLabelledOr new old chosen
  Old : HasNoLabels new → chosen ≡ old → IsLabelledOr new old chosen

-- What a rewriting makes of a program: it goes by the least labels, and its result has labels again. A program without labels stays,
-- and so do one whose result would have none, and one in which there is nothing to rewrite under any labels.
pub data Rewrites (change : Rewriting) (old new : NormalForm) : Type 0 where
  Under : (labels : Labels) → IsLeast (system_of old) labels → IsLabelledOr (change old labels) old new → Rewrites change old new
  Without : HasNoLabels old → new ≡ old → Rewrites change old new
  Plain : ((l : Labels) → change old l ≡ old) → new ≡ old → Rewrites change old new

-- the program of a source that is run, whose hosts are those of the source
pub record IsRunProgram (source : Source) (program : NormalForm) : Type 0 where
  pub turned : NormalForm
  pub branches : Rewrites turn_of (normal_form source) turned
  pub divisions : Rewrites lengthen_of turned program
  pub hosts : program.hosts ≡ (normal_form source).hosts

-- it tells each host what the source tells it
abbrev pub TellsAs : Source → NormalForm → Type 0
TellsAs source program = (inputs : List (List ℕ)) → InputsAreWords inputs → program_outputs program inputs ≡ source_outputs source inputs
