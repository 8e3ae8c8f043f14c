use Rattle.std.proofs.Common.{◌≡◌, ◌<◌, [], length, refl, sym, ap, ◌∙◌, subst, arith}
use Rattle.std.specs.Prelude.{Some}
use Rattle.std.proofs.lemmas.Option.{slice_get_read}
use Rattle.vd_execution.specs.Schedule.{after}
use Rattle.vd_execution.specs.World.{step}
use Rattle.vd_machine.specs.declared.want.Want.TheVariants as want
use Rattle.vd_machine.specs.Wants.{wanted}
use Rattle.vd_world.specs.Hears.{IsTaken}
use Rattle.vd_world.specs.Hosts.{HostKept, world_of, supply_of, is_step, gets, given_words}
use Rattle.vd_world.proofs.Worlds.{stepped_on, supply_stays, is_after, same_host}
use Rattle.vd_world.proofs.world.World.step_at.Goals as goal

pub go-requires : goal.go-requires
go-requires c =
    let v = c.self.inside.hosts in
    let h = c.args.at in
    let less : h < length v.items = omega (arith, c.if-len-at.false, c.len.ensures, v.ok.0) in
    let there0 = slice_get_read v.items (length v.items) h c.index.result.now refl less c.index.ensures in
    let there = slice_get_read v.items (length v.items) h c.index_mut.result.now refl less c.index_mut.ensures.value in
    subst (λ (k : HostKept). want.Nothing ≡ wanted k.machine) (same_host v.items h c.index.result.now c.index_mut.result.now there0 there) c.in-Alone.ensures.hears.0

pub returns-in_ok-go-in-Alone-clause-world : goal.returns-in_ok-go-in-Alone-clause-world
returns-in_ok-go-in-Alone-clause-world c =
    let v = c.self.inside.hosts in
    let h = c.args.at in
    let less : h < length v.items = omega (arith, c.if-len-at.false, c.len.ensures, v.ok.0) in
    let there0 = slice_get_read v.items (length v.items) h c.index.result.now refl less c.index.ensures in
    let there = slice_get_read v.items (length v.items) h c.index_mut.result.now refl less c.index_mut.ensures.value in
    is_after (world_of v.items) _ _ (stepped_on v.items c.deref.result.now h c.index.result.now c.index_mut.result.now c.go.new.self [] c.deref.ensures.value there0 there c.in-Alone.ensures.hears.1 c.in_ok-go-in-Alone.ensures.ok)
    ∙ ap (λ l. after (step (supply_of l) h (world_of l)) (world_of l)) c.self.view_is

pub returns-in_ok-go-in-Alone-clause-moved : goal.returns-in_ok-go-in-Alone-clause-moved
returns-in_ok-go-in-Alone-clause-moved c =
    let v = c.self.inside.hosts in
    let h = c.args.at in
    let less : h < length v.items = omega (arith, c.if-len-at.false, c.len.ensures, v.ok.0) in
    let there0 = slice_get_read v.items (length v.items) h c.index.result.now refl less c.index.ensures in
    let there = slice_get_read v.items (length v.items) h c.index_mut.result.now refl less c.index_mut.ensures.value in
    ap is_step (sym (stepped_on v.items c.deref.result.now h c.index.result.now c.index_mut.result.now c.go.new.self [] c.deref.ensures.value there0 there c.in-Alone.ensures.hears.1 c.in_ok-go-in-Alone.ensures.ok))
    ∙ ap (λ l. is_step (step (supply_of l) h (world_of l))) c.self.view_is

pub returns-in_ok-go-in-Alone-clause-supply : goal.returns-in_ok-go-in-Alone-clause-supply
returns-in_ok-go-in-Alone-clause-supply c =
    let v = c.self.inside.hosts in
    let h = c.args.at in
    let less : h < length v.items = omega (arith, c.if-len-at.false, c.len.ensures, v.ok.0) in
    let there = slice_get_read v.items (length v.items) h c.index_mut.result.now refl less c.index_mut.ensures.value in
    supply_stays v.items h c.index_mut.result.now c.go.new.self there c.go.ensures.lists ∙ ap supply_of c.self.view_is

pub refill-requires : goal.refill-requires
refill-requires c =
    let few = c.in-Take.ensures.takes.few in
    let many = c.self.invariant.1 in
    omega (arith, few, many)

pub take-requires : goal.take-requires
take-requires c =
    let v = c.self.inside.hosts in
    let h = c.args.at in
    let less : h < length v.items = omega (arith, c.if-len-at.false, c.len.ensures, v.ok.0) in
    let there0 = slice_get_read v.items (length v.items) h c.index.result.now refl less c.index.ensures in
    let there = slice_get_read v.items (length v.items) h c.index_mut-in-Take.result.now refl less c.index_mut-in-Take.ensures.value in
    let same = same_host v.items h c.index.result.now c.index_mut-in-Take.result.now there0 there in
    let p = c.in-Take.peer in
    let e = c.deref-in-Take.ensures.value ∙ c.refill.ensures.items in
    record {
      waits = subst (λ (k : HostKept). want.Words p (length c.deref-in-Take.result.now) ≡ wanted k.machine) same
          (subst (λ l. want.Words p (length l) ≡ wanted c.index.result.now.machine) (sym e) c.in-Take.ensures.hears.0);
      taken = subst (λ (k : HostKept). IsTaken k p.0 c.deref-in-Take.result.now) same (subst (λ l. IsTaken c.index.result.now p.0 l) (sym e) c.in-Take.ensures.takes);
    }

pub returns-in-Take-clause-world : goal.returns-in-Take-clause-world
returns-in-Take-clause-world c =
    let v = c.self.inside.hosts in
    let h = c.args.at in
    let less : h < length v.items = omega (arith, c.if-len-at.false, c.len.ensures, v.ok.0) in
    let there0 = slice_get_read v.items (length v.items) h c.index.result.now refl less c.index.ensures in
    let there = slice_get_read v.items (length v.items) h c.index_mut-in-Take.result.now refl less c.index_mut-in-Take.ensures.value in
    let xs = c.deref-in-Take.result.now in
    let e = c.deref-in-Take.ensures.value ∙ c.refill.ensures.items in
    let given = subst (λ l. gets c.deref.result.now h c.index.result.now ≡ Some (given_words c.index.result.now l)) (sym e) c.in-Take.ensures.hears.1 in
    is_after (world_of v.items) _ _ (stepped_on v.items c.deref.result.now h c.index.result.now c.index_mut-in-Take.result.now c.take.new.self xs c.deref.ensures.value there0 there given c.take.ensures.state)
    ∙ ap (λ l. after (step (supply_of l) h (world_of l)) (world_of l)) c.self.view_is

pub returns-in-Take-clause-moved : goal.returns-in-Take-clause-moved
returns-in-Take-clause-moved c =
    let v = c.self.inside.hosts in
    let h = c.args.at in
    let less : h < length v.items = omega (arith, c.if-len-at.false, c.len.ensures, v.ok.0) in
    let there0 = slice_get_read v.items (length v.items) h c.index.result.now refl less c.index.ensures in
    let there = slice_get_read v.items (length v.items) h c.index_mut-in-Take.result.now refl less c.index_mut-in-Take.ensures.value in
    let xs = c.deref-in-Take.result.now in
    let e = c.deref-in-Take.ensures.value ∙ c.refill.ensures.items in
    let given = subst (λ l. gets c.deref.result.now h c.index.result.now ≡ Some (given_words c.index.result.now l)) (sym e) c.in-Take.ensures.hears.1 in
    ap is_step (sym (stepped_on v.items c.deref.result.now h c.index.result.now c.index_mut-in-Take.result.now c.take.new.self xs c.deref.ensures.value there0 there given c.take.ensures.state))
    ∙ ap (λ l. is_step (step (supply_of l) h (world_of l))) c.self.view_is

pub returns-in-Take-clause-supply : goal.returns-in-Take-clause-supply
returns-in-Take-clause-supply c =
    let v = c.self.inside.hosts in
    let h = c.args.at in
    let less : h < length v.items = omega (arith, c.if-len-at.false, c.len.ensures, v.ok.0) in
    let there = slice_get_read v.items (length v.items) h c.index_mut-in-Take.result.now refl less c.index_mut-in-Take.ensures.value in
    supply_stays v.items h c.index_mut-in-Take.result.now c.take.new.self there c.take.ensures.lists ∙ ap supply_of c.self.view_is
