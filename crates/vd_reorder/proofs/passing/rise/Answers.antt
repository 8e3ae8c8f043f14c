use Rattle.std.proofs.Common.{◌-◌, ◌∙◌, refl, arith}
use Rattle.vd_reorder.proofs.Sinking.{rises_begun, rises}
use Rattle.vd_reorder.proofs.passing.rise.Goals as goal

pub neighbours-init : goal.neighbours-init
neighbours-init c = (omega arith, (omega arith, (refl, rises_begun c.args.last c.args.code.now (omega arith))))

pub neighbours-preserved : goal.neighbours-preserved
neighbours-preserved c =
    let i = c.neighbours.invariant in
    let lt = c.neighbours-test.true in
    let within = i.1.0 in (
      omega (arith, lt),
      (
        omega (arith, within),
        (
          c.swap.ensures.len ∙ i.1.1.0,
          rises c.args.last c.args.code.now c.requires.there c.neighbours.code c.swap.new.self c.neighbours.place (c.neighbours.place - 1) (omega (arith, lt)) within i.1.1.1 c.swap.ensures.after,
        ),
      ),
    )
