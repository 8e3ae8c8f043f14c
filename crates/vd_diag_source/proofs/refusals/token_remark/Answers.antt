use Rattle.std.proofs.Common.{ℕ, List, sym, ap, subst, arith}
use Rattle.vd_diag.specs.declared.remark.Remark.{Remark}
use Rattle.vd_diag_source.specs.SyntaxRemarks.{TellsNumber}
use Rattle.vd_diag_source.proofs.Found.{found_refused, too_few}
use Rattle.vd_diag_source.proofs.refusals.token_remark.Goals as goal

pub returns-then-number-found : goal.returns-then-number-found
returns-then-number-found c = λ is.
    let few = c.if-number-found.true in too_few c.args.bytes.now c.args.found.now c.args.number c.args.offset c.requires.lexes (omega (arith, few)) is

pub returns : goal.returns
returns c = λ is. record {
  place = ap (λ (r : Remark). r.offset) c.at.ensures;
  tells = subst (λ (r : Remark). TellsNumber c.args.bytes.now c.args.number r.sentence) (sym c.at.ensures)
      (c.in_ok-sentence.ensures c.args.offset (found_refused c.args.bytes.now c.args.found.now c.args.number c.args.offset c.requires.lexes is));
}
