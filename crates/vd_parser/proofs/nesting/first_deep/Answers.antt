use Rattle.std.proofs.Common.{sym, ◌∙◌}
use Rattle.vd_parser.proofs.Scan.{deep_turn, deep_found, deep_over, deep_is, none_deep}
use Rattle.vd_parser.proofs.nesting.first_deep.Goals as goal

pub returns-then-is_too_deep : goal.returns-then-is_too_deep
returns-then-is_too_deep c =
    let found = sym c.loop-number.invariant.same ∙ deep_found c.args.tokens.now c.loop-number.number c.loop-number.depth _ c.loop-number-test.true (sym c.is_too_deep.ensures ∙ c.if-is_too_deep.true) in
    deep_is c.args.tokens.now c.loop-number.number found

pub loop-number-preserved : goal.loop-number-preserved
loop-number-preserved c =
    let turn = deep_turn c.args.tokens.now c.loop-number.number c.loop-number.depth c.open_behind-depth.result _ c.loop-number-test.true (sym c.is_too_deep.ensures ∙ c.if-is_too_deep.false) c.loop-number.invariant.few c.open_behind-depth.ensures c.loop-number.invariant.same in
    record { same = turn.0; few = turn.1 }

pub returns : goal.returns
returns c =
    let none = sym c.loop-number.invariant.same ∙ deep_over c.args.tokens.now c.loop-number.number c.loop-number.depth c.loop-number-test.false in
    none_deep c.args.tokens.now none
