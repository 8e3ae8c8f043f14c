use Rattle.std.proofs.Common.{◌≡◌, OnOk, sym, ap, ◌∙◌, subst}
use Rattle.vd_long.specs.declared.division.Division.{Division}
use Rattle.vd_long.specs.declared.division.Division.TheVariants.{Quotient, Remainder}
use Rattle.vd_rewrite.specs.Rewriting.{Made}
use Rattle.vd_long.specs.Divisions.{long_of}
use Rattle.vd_long.proofs.Placing.{placed_division}
use Rattle.vd_long.proofs.division.add_long.Goals as goal

pub returns-in-Quotient-clause-made : goal.returns-in-Quotient-clause-made
returns-in-Quotient-clause-made c =
    subst (λ (z : Made). OnOk c.quotient.result (c.quotient.new.made ≡ z))
    (placed_division c.args.slots.now c.args.slot (Quotient c.in-Quotient.a c.in-Quotient.b) c.args.block c.args.made.now c.in_ok-entry.entry c.place_of-place.result (c.in_ok-entry.ensures {u = tt}) c.place_of-place.ensures
    ∙ ap (λ (d : Division). long_of c.args.slots.now c.args.slot d c.args.block c.args.made.now) (sym c.in-Quotient.is))
    c.quotient.ensures.made

pub returns-in-Remainder-clause-made : goal.returns-in-Remainder-clause-made
returns-in-Remainder-clause-made c =
    subst (λ (z : Made). OnOk c.remainder.result (c.remainder.new.made ≡ z))
    (placed_division c.args.slots.now c.args.slot (Remainder c.in-Remainder.a c.in-Remainder.b) c.args.block c.args.made.now c.in_ok-entry.entry c.place_of-place-in-Remainder.result (c.in_ok-entry.ensures {u = tt}) c.place_of-place-in-Remainder.ensures
    ∙ ap (λ (d : Division). long_of c.args.slots.now c.args.slot d c.args.block c.args.made.now) (sym c.in-Remainder.is))
    c.remainder.ensures.made
