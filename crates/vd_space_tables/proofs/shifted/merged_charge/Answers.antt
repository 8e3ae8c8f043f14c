use Rattle.std.proofs.Common.{subst, sym, get_or, pos}
use Rattle.vd_space_prefix.specs.Transfers.{IsWithin}
use Rattle.vd_space_tables.proofs.shifted.merged_charge.Goals as goal

pub merged_values-requires-clause-shifted : goal.merged_values-requires-clause-shifted
merged_values-requires-clause-shifted c = λ p. subst (λ row. IsWithin 562949953421312 (get_or row p (pos 0))) (sym c.sums_at.ensures) (c.requires.sums c.args.slot p)
