-- The worked numbers, computed.
use Rattle.std.proofs.Common.{refl}
use Rattle.vd_execution.specs.Registers.{put}
use Rattle.vd_backend_sharing.specs.Gates.{gates_of}
use Rattle.vd_backend_sharing.specs.PairCalls.{product_shares}
use Rattle.vd_circuit.specs.Example.{TwelveWithTen}

pub twelve_with_ten : TwelveWithTen
unfolding put product_shares gates_of
twelve_with_ten = record { difference = refl; lesser = refl; equal = refl }
