-- Each operation has as many operands as it takes.
use Rattle.std.proofs.Common.{◌≡◌, true, refl}
use Rattle.vd_core.specs.declared.normal.Right.{Right}
use Rattle.vd_core.specs.declared.normal.Right.TheVariants.{Lit, Turn, Copy, Apply, Input, Declassify, Endorse, Load, Get}
use Rattle.vd_core.specs.declared.source.Source.{Source}
use Rattle.vd_core.specs.Facts.{of_rights, operands_fit, OperandsFit}
use Rattle.vd_elaborate.specs.Normal.{normal_form}
use Rattle.vd_elaborate.proofs.Every.{IsMade, Meeting, all_met}
use Rattle.vd_elaborate.proofs.Plain.{always, source_always}

right_fits : (r : Right) → IsMade always r → operands_fit r ≡ true
right_fits (Lit n) h = refl
right_fits Turn h = refl
right_fits (Copy x) h = refl
right_fits (Apply o xs) h = h.0
right_fits (Input host) h = refl
right_fits (Declassify x to) h = refl
right_fits (Endorse x to) h = refl
right_fits (Load v) h = refl
right_fits (Get v i) h = refl

fitting : Meeting always (of_rights operands_fit)
fitting = record {
  right = λ x r made. right_fits r made;
  turn = λ x. refl;
  variable = λ v x. refl;
  array = λ v n. refl;
  store = λ v x. refl;
  put = λ v i x. refl;
  output = λ x h offset ok. refl;
  branches = λ x a b offset. refl;
  loop = λ n body. refl;
}

pub operands_fit_all : (source : Source) → OperandsFit (normal_form source)
operands_fit_all source = all_met always (of_rights operands_fit) fitting source (source_always source)
