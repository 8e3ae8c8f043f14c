use Rattle.std.proofs.Common.{◌≡◌, drop, map}
use Rattle.vd_lsp_names.specs.Uses.{all_forms, form_naming}
use Rattle.vd_lsp_names.proofs.forms.+form.Given as goal

abbrev pub invariant-loop-part : goal.invariant-loop-part
invariant-loop-part l = all_forms (map form_naming (drop l.part-index l.part-items)) l.principals l.found ≡ all_forms (map form_naming l.part-items) l.principals l.initial.found
