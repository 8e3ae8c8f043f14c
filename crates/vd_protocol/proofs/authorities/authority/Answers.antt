use Rattle.std.proofs.Common.{ap, ◌∙◌}
use Rattle.vd_protocol.specs.Authority.{authority_of}
use Rattle.vd_protocol.proofs.Over.{is_over}
use Rattle.vd_protocol.proofs.authorities.authority.Goals as goal

pub returns-clause-authority : goal.returns-clause-authority
returns-clause-authority c = c.authority_among.ensures ∙ ap (authority_of c.args.protocol) c.as_slice.ensures

pub returns-clause-names : goal.returns-clause-names
returns-clause-names c =
    is_over c.args.hosts.now c.requires.names c.args.protocol c.requires.declared c.authority_among.result
    (c.authority_among.ensures ∙ ap (authority_of c.args.protocol) c.as_slice.ensures)
