use Rattle.std.proofs.Common.{◌≡◌, ◌+◌, Some, None, drop, sym, ap, ◌∙◌}
use Rattle.std.specs.Option.{option_copied, option_or}
use Rattle.vd_formula.specs.Forms.{first_unknown}
use Rattle.vd_formula.proofs.FormNames.{unknown_of, one_part}
use Rattle.vd_formula.proofs.forms.+first_unknown.Goals as goal

pub returns-in-Some : goal.returns-in-Some
returns-in-Some t c =
    let names = c.args.names.now in
    let parts = c.as_slice-part-items.result.now in
    let i = c.loop-part.part-index in
    let found : first_unknown names c.part-item.result ≡ Some c.in-Some.name.now = sym c.first_unknown.ensures ∙ ap option_copied c.in-Some.is in
    sym (c.loop-part.invariant ∙ one_part names parts i c.part-item.result c.loop-part-test.true c.part-item.is ∙ ap (λ o. option_or o (unknown_of names (drop (i + 1) parts))) found)

pub loop-part-preserved : goal.loop-part-preserved
loop-part-preserved t c =
    let names = c.args.names.now in
    let parts = c.as_slice-part-items.result.now in
    let i = c.loop-part.part-index in
    let none : first_unknown names c.part-item.result ≡ None = sym c.first_unknown.ensures ∙ ap option_copied c.in_default.is in
    c.loop-part.invariant ∙ one_part names parts i c.part-item.result c.loop-part-test.true c.part-item.is ∙ ap (λ o. option_or o (unknown_of names (drop (i + 1) parts))) none
