use Rattle.std.proofs.Common.{◌≡◌, refl, subst, arith}
use Rattle.vd_base.specs.declared.ids.HostId.{HostId}
use Rattle.vd_base.specs.declared.protocols.Proto.{Proto}
use Rattle.vd_base.specs.declared.protocols.Proto.TheVariants.{Commit}
use Rattle.vd_base.specs.Holders.{holders}
use Rattle.vd_execution.specs.declared.instructions.Action.TheVariants as action
use Rattle.vd_execution.specs.declared.instructions.Reg.{Reg}
use Rattle.vd_duet.specs.Builder.{next_at}
use Rattle.vd_duet.specs.Calls.{called, hosts_of, in_clear}
use Rattle.vd_duet.specs.Laws.{AreKnown}
use Rattle.vd_clear.specs.Copies.{each_made, written_by}
use Rattle.vd_backends.specs.Formed.{AreFormed}
use Rattle.vd_backends.proofs.Named.{if_both}
use Rattle.vd_backends.proofs.Forms.{each_formed}
use Rattle.vd_backends.proofs.loops.turn.Goals as goal

pub returns-in_ok-hosts-in-Rep-clause-exact : goal.returns-in_ok-hosts-in-Rep-clause-exact
returns-in_ok-hosts-in-Rep-clause-exact c = rw c.in-Rep.is (rw (c.as_slice.ensures, (c.in_ok-hosts-in-Rep.ensures {u = tt}).exact) at c.each_host-in-Rep.ensures.exact)

pub returns-in-Commit-clause-formed : goal.returns-in-Commit-clause-formed
returns-in-Commit-clause-formed c =
    let at : Proto = Commit c.in-Commit.bound c.in-Commit.keeper in
    let known : AreKnown (holders at) c.args.to.now.next = subst (λ (p : Proto). AreKnown (holders p) c.args.to.now.next) c.in-Commit.is c.requires.known in
    let copy = λ (h : HostId). written_by h (λ (r : Reg). action.Copy r (next_at c.args.turns.now h)) in
    rw c.in-Commit.is
    (if_both c.each_host-in-Commit.result (λ y. hosts_of (in_clear y) ≡ holders at)
    (λ y. (in_clear y, c.each_host-in-Commit.new.to) ≡ called (each_made copy (holders at) c.args.to.now.next) c.args.to.now) (λ y. AreFormed at (in_clear y))
    (λ y is e. each_formed 1 copy (λ h n. refl) (λ h n. refl) at 0 c.args.to.now c.each_host-in-Commit.new.to (in_clear y) known c.requires.room (omega arith) is e)
    c.each_host-in-Commit.ensures.hosts c.each_host-in-Commit.ensures.exact)
