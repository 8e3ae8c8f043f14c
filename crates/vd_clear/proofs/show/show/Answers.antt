use Rattle.std.proofs.Common.{List, sym, ap, ◌∙◌}
use Rattle.vd_execution.specs.declared.instructions.Reg.{Reg}
use Rattle.vd_duet.specs.Builder.{Builder}
use Rattle.vd_duet.specs.Calls.{in_clear, appended}
use Rattle.vd_clear.specs.Copies.{first_register, compared}
use Rattle.vd_clear.proofs.Shows.{shown_told}
use Rattle.vd_clear.proofs.show.show.Goals as goal

pub returns-clause-exact : goal.returns-clause-exact
returns-clause-exact c =
    ap (λ (r : Reg). let p : Reg × Builder = (r, c.compare.new.to) in p) (c.first_of.ensures ∙ ap first_register c.as_slice-2.ensures)
    ∙ shown_told (in_clear c.args.x.now) c.args.host c.args.to.now c.tell.new.to c.compare.new.to c.in_ok-heard.heard
    (sym c.has_part.ensures ∙ c.if-has_part.false) (c.in_ok-heard.ensures {u = tt}).exact
    (c.in_ok-compare.ensures {u = tt} ∙ ap (λ (rs : List Reg). appended (compared c.args.host rs) c.tell.new.to) c.as_slice.ensures)
