use Rattle.std.proofs.Common.{◌≡◌, ℕ, List, Some, slice_get, subst, sym, ◌∙◌, ap}
use Rattle.vd_outside.specs.declared.net.NetCall.TheVariants.{Accept}
use Rattle.vd_fakes.specs.MemNet.{GivesNext, MemNetState}
use Rattle.vd_fakes.proofs.Fresh.{accepts, counted_gives, same_address}
use Rattle.vd_fakes.proofs.mem_net.MemNetNet.accept.Goals as goal

pub returns-clause-accept : goal.returns-clause-accept
returns-clause-accept c =
    let at : slice_get c.self.inside.listeners c.args.listener ≡ Some c.as_str.result.now = c.in_ok-address.ensures ∙ ap Some (sym c.as_str.ensures) in
    rw (← c.self.view_is)
    (accepts c.args.listener c.as_str.result.now _ _ c.give.new.self c.give.result at
    (counted_gives c.as_str.result.now (Accept c.args.listener) c.next_fails-fails.result _ (record { limit = c.self.inside.limit; listeners = c.self.inside.listeners; waiting = c.self.inside.waiting; links = c.self.inside.links; back = c.self.inside.back.items; asked = c.self.inside.asked; failures = c.self.inside.failures }) c.give.new.self c.give.result c.next_fails-fails.ensures.listed c.next_fails-fails.ensures.counted c.give.ensures))

pub returns-clause-state : goal.returns-clause-state
returns-clause-state c =
    let at : slice_get c.self.inside.listeners c.args.listener ≡ Some c.as_str.result.now = c.in_ok-address.ensures ∙ ap Some (sym c.as_str.ensures) in
    let before : MemNetState = record { limit = c.self.inside.limit; listeners = c.self.inside.listeners; waiting = c.self.inside.waiting; links = c.self.inside.links; back = c.self.inside.back.items; asked = c.self.inside.asked; failures = c.self.inside.failures } in
    rw (← c.self.view_is) (λ address is.
    subst (λ (a : List ℕ). GivesNext a (Accept c.args.listener) before c.give.new.self c.give.result) (same_address c.self.inside.listeners c.args.listener c.as_str.result.now address at is)
    (counted_gives c.as_str.result.now (Accept c.args.listener) c.next_fails-fails.result _ before c.give.new.self c.give.result c.next_fails-fails.ensures.listed c.next_fails-fails.ensures.counted c.give.ensures))
