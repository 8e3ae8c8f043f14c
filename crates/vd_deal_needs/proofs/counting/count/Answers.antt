use Rattle.std.proofs.Common.{◌≡◌, ◌+◌, ◌-◌, ◌<◌, length, refl, arith}
use Rattle.vd_deal_needs.specs.Lists.{source_in}
use Rattle.vd_deal_needs.proofs.Taken.{begun, few, one_more, told}
use Rattle.vd_deal_needs.proofs.counting.count.Goals as goal

pub instructions-init : goal.instructions-init
instructions-init c = (omega arith, begun (source_in c.args.list) c.args.code.now (length c.args.code.now) 0 c.new-blocks.result (omega arith) refl c.new-blocks.ensures)

pub instructions-preserved : goal.instructions-preserved
instructions-preserved c =
    let at = c.instructions in
    let within : at.left - 1 < length c.args.code.now = omega (arith, at.invariant.0, c.instructions-test.true) in
    let next : at.left - 1 + 1 ≡ at.left = omega (arith, c.instructions-test.true) in (
      omega (arith, within),
      one_more (source_in c.args.list) c.args.code.now c.index-code-left.result at.left (at.left - 1) at.taken c.in_ok-taken.taken at.blocks c.count_before.new.blocks c.requires next within c.index-code-left.is
          (λ r q h w. c.in_ok-taken.ensures r q h w) at.invariant.1,
    )

pub overflow_cast-result : goal.overflow_cast-result
overflow_cast-result c =
    let at = c.instructions in
    let same = told (source_in c.args.list) c.args.code.now at.left at.taken at.blocks c.requires (omega (arith, c.instructions-test.false)) at.invariant.1 in
    let bound = few (source_in c.args.list) c.args.code.now c.requires in
    omega (arith, same, bound)

pub returns : goal.returns
returns c = told (source_in c.args.list) c.args.code.now c.instructions.left c.instructions.taken c.instructions.blocks c.requires (omega (arith, c.instructions-test.false)) c.instructions.invariant.1
