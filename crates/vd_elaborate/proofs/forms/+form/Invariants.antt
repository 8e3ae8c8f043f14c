use Rattle.std.proofs.Common.{◌≡◌, map, take}
use Rattle.vd_elaborate.specs.Normal.{form_of}
use Rattle.vd_elaborate.proofs.forms.+form.Given as goal

abbrev pub invariant-copy_forms-loop-form : goal.invariant-copy_forms-loop-form
invariant-copy_forms-loop-form l = l.copies ≡ map form_of (take l.form-index l.forms)
