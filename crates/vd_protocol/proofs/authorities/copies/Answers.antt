use Rattle.std.proofs.Common.{◌≡◌, ℕ, ◌+◌, ◌<◌, refl, sym, ap, ◌∙◌, subst, arith}
use Rattle.std.proofs.lemmas.List.{get_or_read}
use Rattle.vd_base.specs.HostSets.{host, has_host}
use Rattle.vd_formula.specs.declared.label.Label.{Label}
use Rattle.vd_formula.specs.TruthTable.{any_of, never_of, either_of, both_of}
use Rattle.vd_protocol.specs.Authority.{label_of, names_of}
use Rattle.vd_protocol.proofs.Members.{CopiesSoFar, none_yet, one_more, none_more}
use Rattle.vd_protocol.proofs.authorities.copies.Goals as goal
use Rattle.vd_protocol.proofs.authorities.copies.Goals.{then-has, else-has}

pub loop-host-init : goal.loop-host-init
loop-host-init c =
    let first : c.index-hosts-0.result ≡ label_of c.args.hosts.now (host 0) = get_or_read c.args.hosts.now 0 c.index-hosts-0.result c.requires.some c.index-hosts-0.is _ in
    let names : c.names-names.result ≡ names_of c.args.hosts.now = c.names-names.ensures.names ∙ ap (λ (l : Label). l.conf.names) (sym c.index-hosts-0.is ∙ first) in
    subst (λ f. CopiesSoFar c.args.set c.args.hosts.now 0 f c.any-integ.result) (sym c.never-conf.ensures.never)
    (subst (λ f. CopiesSoFar c.args.set c.args.hosts.now 0 (never_of c.names-names.result) f) (sym c.any-integ.ensures.any)
    (none_yet c.args.set c.args.hosts.now c.names-names.result names))

pub loop-host-preserved : goal.loop-host-preserved
loop-host-preserved c =
    let own : c.index-hosts-host.result ≡ label_of c.args.hosts.now (host c.loop-host.host) = get_or_read c.args.hosts.now c.loop-host.host c.index-hosts-host.result c.loop-host-test.true c.index-hosts-host.is _ in
    elim c.if-has.branch [
      | then-has w ↦
          subst (λ f. CopiesSoFar c.args.set c.args.hosts.now (c.loop-host.host + 1) f c.if-has.integ) (sym (w.conf-is ∙ w.either-conf.ensures.either))
          (subst (λ f. CopiesSoFar c.args.set c.args.hosts.now (c.loop-host.host + 1) (either_of c.loop-host.conf c.index-hosts-host.result.conf) f) (sym (w.integ-is ∙ w.both-integ.ensures.both))
          (one_more c.args.set c.args.hosts.now c.loop-host.host c.loop-host.conf c.loop-host.integ c.loop-host.invariant c.index-hosts-host.result own (sym c.has.ensures ∙ w.if-has.true)))
      | else-has w ↦
          subst (λ f. CopiesSoFar c.args.set c.args.hosts.now (c.loop-host.host + 1) f c.if-has.integ) (sym w.conf-is)
          (subst (λ f. CopiesSoFar c.args.set c.args.hosts.now (c.loop-host.host + 1) c.loop-host.conf f) (sym w.integ-is)
          (none_more c.args.set c.args.hosts.now c.loop-host.host c.loop-host.conf c.loop-host.integ c.loop-host.invariant (sym c.has.ensures ∙ w.if-has.false)))
    ]
