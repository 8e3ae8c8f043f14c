use Rattle.std.proofs.Common.{refl, pos}
use Rattle.vd_space_prefix.specs.declared.transfers.Arc.{Arc}
use Rattle.vd_space_prefix.proofs.Front.{missing}
use Rattle.vd_space_tables.proofs.Small.{zero_within}
use Rattle.vd_space_tables.proofs.Loops.{both_found}
use Rattle.vd_space_tables.proofs.start.both_of.Goals as goal

pub returns-in-Some : goal.returns-in-Some
returns-in-Some c =
    let lookup = c.in-Some.ensures.lookup in
    let both = both_found c.args.arcs.now c.args.number c.in-Some.arc.now c.requires.arcs lookup.0 lookup.1 in
    record { both = both.0; within = both.1 }

pub returns-in-None : goal.returns-in-None
returns-in-None c = record {
  both = missing (λ (arc : Arc). arc.both) c.args.arcs.now c.args.arcs.now refl c.args.number (pos 0) c.in-None.ensures.lookup.3;
  within = zero_within 1125899906842624;
}
