-- The worked numbers, computed.
use Rattle.std.proofs.Common.{refl}
use Rattle.vd_execution.specs.Registers.{put}
use Rattle.vd_backend_sharing.specs.Gates.{gates_of}
use Rattle.vd_backend_sharing.specs.PairCalls.{product_shares}
use Rattle.vd_bits.specs.Example.{EightIsInBoth}

pub eight_is_in_both : EightIsInBoth
unfolding put product_shares gates_of
eight_is_in_both = record { sent = refl; heard = refl; opened = refl; opened_at_bob = refl; parts = refl }
