-- What is said of a branch that cannot be hidden.
use Rattle.std.specs.Prelude.{◌≡◌, ℕ, List, ◌++◌, Option, codes, option_map}
use Rattle.vd_core.specs.declared.normal.NormalForm.{NormalForm}
use Rattle.vd_constraints.specs.Rules.{system_of}
use Rattle.vd_constraints.specs.Satisfies.{IsLeast}
use Rattle.vd_constraints.specs.declared.labels.Labels.{Labels}
use Rattle.vd_rewrite.specs.Rewriting.{marked}
use Rattle.vd_mux.specs.Hidden.{hidden_marks}
use Rattle.vd_diag.specs.declared.remark.Remark.{Remark}
use Rattle.vd_diag.specs.Remarks.{at}
use Rattle.vd_diag_terminal.specs.declared.diag_branches.barriers.Barrier.{Barrier}
use Rattle.vd_diag_terminal.specs.declared.diag_branches.barriers.Barrier.TheVariants.{Loop, Array, Input, Output, Declassify, Endorse}
use Rattle.vd_diag_terminal.specs.declared.diag_branches.hidden.Branch.{Branch}
use Rattle.vd_diag_terminal.specs.Barriers.{first_branch}

unfoldable pub beginning : List ℕ
beginning = codes "no host may read what this branch goes by, and it cannot be hidden for "

unfoldable pub phrase : Barrier → List ℕ
phrase Loop = codes "a loop in it; write the branch inside the loop"
phrase Array = codes "an array in it; write its element outside, with what `mux` gives"
phrase Input = codes "an input in it; take the input before the branch"
phrase Output = codes "an output in it; store what is told in a variable, and tell that behind the branch"
phrase Declassify = codes "a `declassify` in it; declassify behind the branch"
phrase Endorse = codes "an `endorse` in it; endorse before the branch or behind it"

abbrev pub sentence : Barrier → List ℕ
sentence barrier = beginning ++ phrase barrier

abbrev pub branch_remark : Branch → Remark
branch_remark branch = at branch.offset (sentence branch.barrier)

-- of the first such branch, at its place, if there is one
abbrev pub IsHiddenRemark : NormalForm → Labels → Option Remark → Type 0
IsHiddenRemark p l remark = remark ≡ option_map branch_remark (first_branch (marked (hidden_marks p l)) p.body)

-- under labels that are the least of the program
pub record IsBranchRemark (p : NormalForm) (labels : Labels) (remark : Option Remark) : Type 0 where
  pub least : IsLeast (system_of p) labels
  pub is : IsHiddenRemark p labels remark
