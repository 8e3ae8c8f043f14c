use Rattle.std.proofs.Common.{◌≡◌, false, length, min, max, sym, ◌∙◌}
use Rattle.vd_fakes.specs.Failing.{fails_next}
use Rattle.vd_fakes.proofs.Pieces.{left}
use Rattle.vd_fakes.proofs.mem_link.MemLinkLink.receive.Goals as goal

pub returns-clause-piece : goal.returns-clause-piece
returns-clause-piece c =
    let most_is : c.min-most.result ≡ min (length c.args.into.now) (max c.self.inside.most 1) = rw (c.min-most.ensures, c.max.ensures) in
    let goes : fails_next c.self.inside.failures ≡ false = sym c.next_fails.ensures.listed ∙ c.if-next_fails.false in
    rw (← c.self.view_is)
    (left (record { held = c.self.inside.link; most = c.self.inside.most; failures = c.self.inside.failures }) c.receive.new.into c.args.into.now c.min-most.result goes most_is c.receive.ensures.piece)
