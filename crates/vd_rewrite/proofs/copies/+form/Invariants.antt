use Rattle.std.proofs.Common.{◌≡◌, take}
use Rattle.vd_rewrite.proofs.copies.+form.Given as goal

abbrev pub invariant-copy_forms-loop-form : goal.invariant-copy_forms-loop-form
invariant-copy_forms-loop-form l = l.copies ≡ take l.form-index l.forms
