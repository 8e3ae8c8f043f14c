use Rattle.std.proofs.Common.{sym, ap, ◌∙◌}
use Rattle.vd_protocol.specs.Authority.{authority_of}
use Rattle.vd_protocol.proofs.authorities.authority_among.Goals as goal

pub returns-in-Rep : goal.returns-in-Rep
returns-in-Rep c = c.copies.ensures ∙ ap (λ p. authority_of p c.args.hosts.now) (sym c.in-Rep.is)
