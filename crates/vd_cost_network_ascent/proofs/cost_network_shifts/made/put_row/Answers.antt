use Rattle.std.proofs.Common.{◌≡◌, ◌∙◌, arith, w64}
use Rattle.std.proofs.lemmas.Int.{to_z-of_z}
use Rattle.vd_cost_network_ascent.proofs.Making.{all_places, next_place, row_next}
use Rattle.vd_cost_network_ascent.proofs.cost_network_shifts.made.put_row.Goals as goal

pub loop-place-preserved : goal.loop-place-preserved
loop-place-preserved c = record {
  puts = next_place _ _ _ _ _ _ (omega arith) c.loop-place.invariant.puts c.in_ok-put_shift.ensures.puts;
  adds = row_next c.args.at c.args.side c.loop-place.place c.args.row.now _ _ _ _ (to_z-of_z w64 c.number_at.result (record { sfits = c.number_at.type_inv }) ∙ c.number_at.ensures) c.loop-place.invariant.adds (c.in_ok-put_shift.ensures.adds c.if-not-branch.false);
}

pub returns-then-not-branch-clause-puts : goal.returns-then-not-branch-clause-puts
returns-then-not-branch-clause-puts c = next_place _ _ _ _ _ _ c.loop-place-test.true c.loop-place.invariant.puts c.in_ok-put_shift.ensures.puts

pub returns-clause-puts : goal.returns-clause-puts
returns-clause-puts c =
    let all : c.loop-place.place ≡ c.args.places = let past = c.loop-place-test.false in let within = c.loop-place.auto.place-end in omega (arith, past, within) in
    all_places _ _ _ _ _ all c.loop-place.invariant.puts
