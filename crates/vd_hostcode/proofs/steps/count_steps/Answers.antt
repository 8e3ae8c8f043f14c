use Rattle.std.proofs.Common.{◌≡◌, ◌+◌, ◌-◌, ◌<◌, length, refl, arith}
use Rattle.vd_hostcode.proofs.Counting.{begun, one_more}
use Rattle.vd_hostcode.proofs.steps.count_steps.Goals as goal

pub instructions-init : goal.instructions-init
instructions-init c = (omega arith, begun c.args.code.now (length c.args.code.now) 0 c.new-blocks.result (omega arith) refl c.new-blocks.ensures)

pub instructions-preserved : goal.instructions-preserved
instructions-preserved c =
    let at = c.instructions in
    let within : at.left - 1 < length c.args.code.now = omega (arith, at.invariant.0, c.instructions-test.true) in
    let next : at.left - 1 + 1 ≡ at.left = omega (arith, c.instructions-test.true) in (
      omega (arith, within),
      one_more c.args.code.now c.requires.0 c.index-code-left.result at.left (at.left - 1) at.steps c.in_ok-steps.steps at.blocks c.count_before.new.blocks c.requires.1 next within c.index-code-left.is
          (λ r q h w. c.in_ok-steps.ensures r q h w) at.invariant.1,
    )
