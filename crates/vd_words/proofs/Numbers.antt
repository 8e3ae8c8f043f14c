-- The worked numbers, computed.
use Rattle.std.proofs.Common.{refl}
use Rattle.vd_execution.specs.Registers.{put}
use Rattle.vd_backend_sharing.specs.PairCalls.{product_shares}
use Rattle.vd_words.specs.Example.{FiveIsShared, SevenTimesSix}

pub five_is_shared : FiveIsShared
unfolding put
five_is_shared = record { sent = refl; parts = refl }

pub seven_times_six : SevenTimesSix
unfolding put product_shares
seven_times_six = record { sent = refl; heard = refl; opened = refl; opened_at_bob = refl; parts = refl }
