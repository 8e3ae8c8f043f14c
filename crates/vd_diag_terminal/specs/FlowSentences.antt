-- The sentence of a check that fails, by what asks for it. `own` is the formula that fails to act, the check's constant, and
-- `asked` the one that it would have to act for, that of the check's part.
use Rattle.std.specs.Prelude.{ℕ, List, [], codes}
use Rattle.vd_formula.specs.TruthTable.{TruthTable}
use Rattle.vd_report.specs.ChoiceLines.{host_name}
use Rattle.vd_report.specs.LabelLines.{formula_text}
use Rattle.vd_diag.specs.Parts.{three}
use Rattle.vd_constraints.specs.declared.system.Check.{Check}
use Rattle.vd_constraints.specs.declared.origin.Origin.{Origin}
use Rattle.vd_constraints.specs.declared.origin.Origin.TheVariants as origin
use Rattle.vd_diag_terminal.specs.Phrases.{guarded, vouched}

-- ---- what would mend it

-- a value of lower confidentiality: its rules ask for the integrity of those who could not read it before
abbrev pub lowered : List ℕ → List ℕ
lowered own = three (codes "; `declassify(.., {") own (codes "})` lets it be read, where those who answer for it may decide so")

abbrev pub lowered_guard : List ℕ → List ℕ
lowered_guard own = three (codes "; a guard in `declassify(.., {") own (codes "})` lets it be known, where those who answer for the guard may decide so")

-- or a word that is made whatever the guard is, and told outside of the branch
abbrev pub told_outside : List ℕ → List ℕ
told_outside own = three (lowered_guard own) (codes "; outside of the branch, `mux` gives what can be output") []

-- a value of the integrity that is asked: its rules ask for no more than these or its readers
abbrev pub raised : List ℕ → List ℕ
raised asked = three (codes "; `endorse(.., {") asked (codes "})` accepts a value as it is")

-- ---- the sentences

abbrev pub output_sentence : List ℕ → List ℕ → List ℕ → List ℕ
output_sentence host own asked = three (three (codes "host ") host (codes " may not read ")) (guarded asked) (lowered own)

abbrev pub told_sentence : List ℕ → List ℕ → List ℕ → List ℕ
told_sentence host own asked = three (three (codes "host ") host (codes " may not know that this is reached, which tells ")) (guarded asked) (told_outside own)

abbrev pub asked_sentence : List ℕ → List ℕ → List ℕ → List ℕ
asked_sentence host own asked = three (three (codes "host ") host (codes " may not know that it is asked here, which tells ")) (guarded asked) (lowered_guard own)

abbrev pub input_sentence : List ℕ → List ℕ → List ℕ
input_sentence host asked = three (three (codes "host ") host (codes " does not answer for ")) (vouched asked) (raised asked)

abbrev pub endorse_sentence : List ℕ → List ℕ → List ℕ
endorse_sentence own asked = three (three (codes "`{") own (codes "}` of this `endorse` does not answer for ")) (vouched asked) (three (codes "; `{") asked (codes "}` would"))

abbrev pub readers_sentence : List ℕ → List ℕ → List ℕ
readers_sentence own asked = three (three (codes "the written confidentiality `") own (codes "` may not read ")) (guarded asked) (lowered own)

abbrev pub answerers_sentence : List ℕ → List ℕ → List ℕ
answerers_sentence own asked = three (three (codes "the written integrity `") own (codes "` does not answer for ")) (vouched asked) (raised asked)

abbrev pub sentence_of : List (List ℕ) → Origin → List ℕ → List ℕ → List ℕ
sentence_of hosts (origin.Input h) own asked = input_sentence (host_name hosts h) asked
sentence_of hosts (origin.Asked h) own asked = asked_sentence (host_name hosts h) own asked
sentence_of hosts origin.Endorse own asked = endorse_sentence own asked
sentence_of hosts (origin.Output h) own asked = output_sentence (host_name hosts h) own asked
sentence_of hosts (origin.Told h) own asked = told_sentence (host_name hosts h) own asked
sentence_of hosts origin.Readers own asked = readers_sentence own asked
sentence_of hosts origin.Answerers own asked = answerers_sentence own asked

-- of formulas over these principals
abbrev pub flow_sentence : (principals hosts : List (List ℕ)) → Check → Origin → (asked : TruthTable) → List ℕ
flow_sentence principals hosts check by asked = sentence_of hosts by (formula_text principals check.constant) (formula_text principals asked)
