use Rattle.std.proofs.Common.{◌-◌, ◌∙◌, sym, ap, arith}
use Rattle.vd_hostcode.proofs.Outcomes.{first_is_broken, last_is_broken, all_within}
use Rattle.vd_hostcode.proofs.files.check.Goals as goal

pub returns-in-Some : goal.returns-in-Some
returns-in-Some c = (c.in-Some.number, first_is_broken c.args.hosts c.args.me c.args.code.now c.in-Some.number (sym c.in-Some.ensures), c.offset.ensures)

pub returns-then-steps-gt-STEPS : goal.returns-then-steps-gt-STEPS
returns-then-steps-gt-STEPS c = (
  c.saturating_sub.result,
  last_is_broken c.args.hosts c.args.me c.args.code.now c.requires.0 c.saturating_sub.result c.requires.1 (sym c.in_default.ensures)
      (omega (arith, c.if-steps-gt-STEPS.true, c.in_ok-steps.ensures c.requires.0 c.requires.1)) (c.saturating_sub.ensures ∙ ap (λ n. n - 1) c.numbered.ensures),
  c.offset-then-steps-gt-STEPS.ensures,
)

pub returns : goal.returns
returns c =
    all_within c.args.hosts c.args.me c.args.code.now c.requires.0 c.requires.1 (sym c.in_default.ensures) (omega (arith, c.if-steps-gt-STEPS.false, c.in_ok-steps.ensures c.requires.0 c.requires.1))
