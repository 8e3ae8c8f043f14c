use Rattle.std.proofs.Common.{ℕ, List, subst}
use Rattle.vd_outside.specs.declared.net.NetCall.TheVariants.{Connect}
use Rattle.vd_fakes.specs.MemNet.{GivesNext, MemNetState}
use Rattle.vd_fakes.proofs.Fresh.{connects, counted_gives}
use Rattle.vd_fakes.proofs.mem_net.MemNetNet.connect.Goals as goal

pub returns-clause-connect : goal.returns-clause-connect
returns-clause-connect c =
    let before : MemNetState = record { limit = c.self.inside.limit; listeners = c.self.inside.listeners; waiting = c.self.inside.waiting; links = c.self.inside.links; back = c.self.inside.back.items; asked = c.self.inside.asked; failures = c.self.inside.failures } in
    rw (← c.self.view_is) (connects c.args.address.now _ _ c.give.new.self c.give.result
    (subst (λ (address : List ℕ). GivesNext c.args.address.now (Connect address) before c.give.new.self c.give.result) c.in_ok-copy_of.ensures
    (counted_gives c.args.address.now (Connect c.in_ok-copy_of.field-0) c.next_fails-fails.result _ before c.give.new.self c.give.result c.next_fails-fails.ensures.listed c.next_fails-fails.ensures.counted c.give.ensures)))

pub returns-clause-state : goal.returns-clause-state
returns-clause-state c =
    let before : MemNetState = record { limit = c.self.inside.limit; listeners = c.self.inside.listeners; waiting = c.self.inside.waiting; links = c.self.inside.links; back = c.self.inside.back.items; asked = c.self.inside.asked; failures = c.self.inside.failures } in
    rw (← c.self.view_is)
    (subst (λ (address : List ℕ). GivesNext c.args.address.now (Connect address) before c.give.new.self c.give.result) c.in_ok-copy_of.ensures
    (counted_gives c.args.address.now (Connect c.in_ok-copy_of.field-0) c.next_fails-fails.result _ before c.give.new.self c.give.result c.next_fails-fails.ensures.listed c.next_fails-fails.ensures.counted c.give.ensures))
