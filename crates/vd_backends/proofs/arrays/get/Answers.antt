use Rattle.std.proofs.Common.{◌≡◌, refl, ◌∙◌, arith}
use Rattle.vd_base.specs.declared.ids.HostId.{HostId}
use Rattle.vd_base.specs.Holders.{holders}
use Rattle.vd_execution.specs.declared.instructions.Action.TheVariants as action
use Rattle.vd_execution.specs.declared.instructions.Reg.{Reg}
use Rattle.vd_duet.specs.Calls.{called, hosts_of, in_clear, register_of}
use Rattle.vd_clear.specs.Copies.{each_made, written_by}
use Rattle.vd_backend_laws.specs.Parts.{index_of}
use Rattle.vd_backends.specs.Formed.{AreFormed}
use Rattle.vd_backends.proofs.Named.{if_both}
use Rattle.vd_backends.proofs.Forms.{each_formed}
use Rattle.vd_backends.proofs.arrays.get.Goals as goal

pub returns-clause-formed : goal.returns-clause-formed
returns-clause-formed c =
    let same : c.as_slice.result.now ≡ holders c.args.at = c.as_slice.ensures ∙ (c.in_ok-hosts.ensures {u = tt}).exact in
    let read = λ (h : HostId). written_by h (λ (r : Reg). action.Get r (register_of c.args.x.now.at h.0) c.args.x.now.size (index_of c.args.index.now h.0)) in
    if_both c.each_host.result (λ y. hosts_of (in_clear y) ≡ holders c.args.at)
    (λ y. (in_clear y, c.each_host.new.to) ≡ called (each_made read (holders c.args.at) c.args.to.now.next) c.args.to.now) (λ y. AreFormed c.args.at (in_clear y))
    (λ y at e. each_formed 1 read (λ h n. refl) (λ h n. refl) c.args.at 0 c.args.to.now c.each_host.new.to (in_clear y) c.requires.known c.requires.room (omega arith) at e)
    (rw same at c.each_host.ensures.hosts) (rw same at c.each_host.ensures.exact)
