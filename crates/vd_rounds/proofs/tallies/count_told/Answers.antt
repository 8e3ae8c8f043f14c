use Rattle.std.proofs.Common.{◌≡◌, ◌+◌, ◌-◌, ◌<◌, length, refl, arith}
use Rattle.vd_rounds.proofs.TallyText.{all_told, begun, few, one_more}
use Rattle.vd_rounds.proofs.tallies.count_told.Goals as goal

pub instructions-init : goal.instructions-init
instructions-init c = (omega arith, begun c.args.tally c.args.code.now (length c.args.code.now) 0 c.new-blocks.result (omega arith) refl c.new-blocks.ensures)

pub instructions-preserved : goal.instructions-preserved
instructions-preserved c =
    let at = c.instructions in
    let within : at.left - 1 < length c.args.code.now = omega (arith, at.invariant.0, c.instructions-test.true) in
    let next : at.left - 1 + 1 ≡ at.left = omega (arith, c.instructions-test.true) in (
      omega (arith, within),
      one_more c.args.tally c.args.code.now c.index-code-left.result at.left (at.left - 1) at.told c.in_ok-told.told at.blocks c.count_before.new.blocks c.requires next within c.index-code-left.is
          (λ r q h w. c.in_ok-told.ensures r q h w) at.invariant.1,
    )

pub returns-clause-counts : goal.returns-clause-counts
returns-clause-counts c = all_told c.args.tally c.args.code.now c.instructions.left c.instructions.told c.instructions.blocks c.requires (omega (arith, c.instructions-test.false)) c.instructions.invariant.1

pub returns-clause-light : goal.returns-clause-light
returns-clause-light c =
    let is = c.requires in
    let told = all_told c.args.tally c.args.code.now c.instructions.left c.instructions.told c.instructions.blocks is (omega (arith, c.instructions-test.false)) c.instructions.invariant.1 is.nested is.is_code in
    let bound = few c.args.tally c.args.code.now is in
    omega (arith, told, bound)
