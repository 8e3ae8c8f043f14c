-- The slots that no protocol is for, and the program with loops in the place of their divisions.
use Rattle.std.specs.Prelude.{Bool, not, List, map}
use Rattle.vd_core.specs.declared.normal.NormalForm.{NormalForm}
use Rattle.vd_constraints.specs.declared.labels.Labels.{Labels}
use Rattle.vd_space.specs.declared.problem.Problem.{Problem}
use Rattle.vd_space.specs.Reading.{problem_of}
use Rattle.vd_space.specs.Validity.{has_candidate}
use Rattle.vd_rewrite.specs.Rewriting.{marked}
use Rattle.vd_long.specs.Lengthened.{lengthened}

-- of each slot whether it has no candidate
abbrev pub long_marks : Problem → List Bool
long_marks problem = map (λ making. not (has_candidate problem making)) problem.slots

-- divisions without a protocol as loops, under these labels
abbrev pub lengthen_of : NormalForm → Labels → NormalForm
lengthen_of p l = lengthened (marked (long_marks (problem_of p l))) p
