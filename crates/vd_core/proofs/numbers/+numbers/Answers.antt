use Rattle.std.proofs.Common.{refl}
use Rattle.vd_core.specs.Numbers.{numbers_fit}
use Rattle.vd_core.proofs.StatementTests.{if_meets, for_meets}
use Rattle.vd_core.proofs.numbers.+numbers.Goals as goal

pub statement_fits-returns-in-If : goal.statement_fits-returns-in-If
statement_fits-returns-in-If t c =
    rw c.in-If.is
    (if_meets numbers_fit c.in-If.field-0 c.in-If.first c.in-If.other c.in-If.field-3 refl (rw c.as_slice.ensures at c.block_fits.ensures) (rw c.as_slice-in-If.ensures at c.block_fits-in-If.ensures))

pub statement_fits-returns-in-For : goal.statement_fits-returns-in-For
statement_fits-returns-in-For t c =
    rw c.in-For.is (for_meets numbers_fit c.in-For.count c.in-For.body c.word_fits.ensures.test (rw c.as_slice-in-For.ensures at c.block_fits-in-For.ensures))
