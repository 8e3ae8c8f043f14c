use Rattle.std.proofs.Common.{sym, ap, ◌∙◌, refl}
use Rattle.vd_parser.specs.Levels.{prefix_at}
use Rattle.vd_parser.proofs.Steps.{collects_first, start}
use Rattle.vd_parser.proofs.Precedence.{more_prefix, no_prefix}
use Rattle.vd_parser.specs.Levels.{prefix_at}
use Rattle.vd_parser.proofs.parser.Parser.prefixes.Goals as goal

pub prefixes-init : goal.prefixes-init
prefixes-init c =
    rw c.new-prefixes.ensures (collects_first start (λ y. refl))

pub prefixes-preserved : goal.prefixes-preserved
prefixes-preserved c =
    rw c.in_ok-push.ensures.ok (more_prefix c.prefixes.invariant (ap prefix_at (sym c.kind.ensures) ∙ sym c.prefix.ensures ∙ c.in-Some.is) c.advance-token.ensures)

pub returns : goal.returns
returns c =
    no_prefix c.prefixes.invariant (ap prefix_at (sym c.kind.ensures) ∙ sym c.prefix.ensures ∙ c.in_default.is)
