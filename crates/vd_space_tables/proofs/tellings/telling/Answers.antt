use Rattle.std.proofs.Common.{ap, sym, subst, ◌∙◌, ◌++◌, ◌∷◌, [], arith}
use Rattle.vd_base.specs.HostSets.{host}
use Rattle.vd_space_prefix.proofs.Front.{grows}
use Rattle.vd_space_prefix.specs.Transfers.{IsWithin}
use Rattle.vd_space_tables.specs.declared.charges.Charge.{Charge}
use Rattle.vd_space_tables.specs.Charges.{told_charge_of}
use Rattle.vd_space_tables.proofs.Small.{kept, more_within, told_small}
use Rattle.vd_space_tables.proofs.tellings.telling.Goals as goal

pub loop-host-preserved : goal.loop-host-preserved
loop-host-preserved c =
    let problem = c.args.problem.now in
    let guard = c.args.guard.now in
    let h = c.loop-host.host in
    let free_is = ap (λ (charge : Charge). charge.free) c.in_ok-charge.ensures in
    let small = (told_small problem c.requires.list.labelled guard.slot.0 guard.weight (host h) c.requires.weight).free in
    record {
      free = grows (λ k. (told_charge_of problem guard k).free) h c.loop-host.free c.push.new.self c.in_ok-charge.charge.free c.loop-host.invariant.free free_is
          (c.in_ok-push.ensures.ok ∙ ap (λ z. c.loop-host.free ++ z ∷ []) (kept c.in_ok-charge.charge.free (more_within 1073741824 1125899906842624 c.in_ok-charge.charge.free (omega arith) (subst (IsWithin 1073741824) (sym free_is) small))));
      costs = grows (λ k. (told_charge_of problem guard k).costs) h c.loop-host.costs c.push-in-loop-host.new.self c.in_ok-charge.charge.costs c.loop-host.invariant.costs (ap (λ (charge : Charge). charge.costs) c.in_ok-charge.ensures) c.in_ok-push-2.ensures.ok;
    }
