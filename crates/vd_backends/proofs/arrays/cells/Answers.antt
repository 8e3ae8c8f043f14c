use Rattle.std.proofs.Common.{◌≡◌, refl, ◌∙◌, arith}
use Rattle.vd_duet.specs.Calls.{called, hosts_of, in_clear}
use Rattle.vd_base.specs.Holders.{holders}
use Rattle.vd_clear.specs.Copies.{each_made}
use Rattle.vd_backend_laws.specs.Parts.{zeros_at}
use Rattle.vd_backends.specs.Formed.{AreFormed}
use Rattle.vd_backends.proofs.Named.{if_both}
use Rattle.vd_backends.proofs.Forms.{each_formed}
use Rattle.vd_backends.proofs.arrays.cells.Goals as goal

pub zeros-requires-clause-apart : goal.zeros-requires-clause-apart
zeros-requires-clause-apart c = rw (c.as_slice.ensures, (c.in_ok-hosts.ensures {u = tt}).exact) c.requires.apart

pub returns-clause-formed : goal.returns-clause-formed
returns-clause-formed c =
    let same : c.as_slice.result.now ≡ holders c.args.at = c.as_slice.ensures ∙ (c.in_ok-hosts.ensures {u = tt}).exact in
    if_both c.zeros.result (λ y. hosts_of (in_clear y) ≡ holders c.args.at)
    (λ y. (in_clear y, c.zeros.new.to) ≡ called (each_made (zeros_at c.args.size) (holders c.args.at) c.args.to.now.next) c.args.to.now) (λ y. AreFormed c.args.at (in_clear y))
    (λ y at e.
    each_formed c.args.size (zeros_at c.args.size) (λ h n. refl) (λ h n. refl) c.args.at c.args.size c.args.to.now c.zeros.new.to (in_clear y) c.requires.known c.requires.room
    (omega arith) at e)
    (rw same at c.zeros.ensures.hosts) (rw same at c.zeros.ensures.exact)
