use Rattle.std.proofs.Common.{◌≡◌, true, [], sym, ap, subst}
use Rattle.std.proofs.lemmas.Bool.{eqb-true}
use Rattle.std.proofs.lemmas.Result.{IfOk-weaker}
use Rattle.vd_base.specs.declared.ids.HostId.{HostId}
use Rattle.vd_base.specs.declared.protocols.Proto.{Proto}
use Rattle.vd_base.specs.declared.protocols.Proto.TheVariants.{Local, Rep, Commit, Add, Xor}
use Rattle.vd_base.specs.HostSets.{host}
use Rattle.vd_base.specs.Holders.{holders, is_alone, proto_in}
use Rattle.vd_split.proofs.Lists.{and_right}
use Rattle.vd_split.specs.Offer.{Offer}
use Rattle.vd_split.proofs.Turns.{apply_alike}
use Rattle.vd_split.proofs.rights.right_side.Goals as goal

-- parts at a host stand as they do at each protocol that is this host
at_its_host : {P : Type 0} (o : Offer P) (h : HostId) (q : Proto) (x : P) → is_alone h q ≡ true → o.hosts_at (Local h) x ≡ holders (Local h) → o.hosts_at q x ≡ holders q
at_its_host o h (Local k) x e is = subst (λ (j : HostId). o.hosts_at (Local j) x ≡ holders (Local j)) (ap host (sym (eqb-true k.0 h.0 e))) is
at_its_host o h (Rep set) x e is = cc
at_its_host o h (Commit a b) x e is = cc
at_its_host o h (Add a b) x e is = cc
at_its_host o h (Xor a b) x e is = cc

pub returns-in-Apply-clause-exact : goal.returns-in-Apply-clause-exact
returns-in-Apply-clause-exact g c =
    let s = (g.P.Protocols.offer c.args.protocols.now).calls in
    rw c.in-Apply.is
    (IfOk-weaker c.apply.result _ _ (λ x e. apply_alike s (proto_in c.args.protos.now) c.args.at c.in-Apply.op c.in-Apply.slots c.args.held.now [] c.args.turns.now c.args.to.now (x, c.apply.new.to) e) c.apply.ensures.exact)

pub returns-in-Input-clause-placed : goal.returns-in-Input-clause-placed
returns-in-Input-clause-placed g c =
    let o = g.P.Protocols.offer c.args.protocols.now in
    let fits = rw c.in-Input.is at c.requires.fits in
    IfOk-weaker c.input.result _ _ (λ x e. at_its_host o c.in-Input.host c.args.at x (and_right _ _ fits) e) c.input.ensures.placed
