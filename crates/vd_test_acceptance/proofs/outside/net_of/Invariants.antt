use Rattle.std.proofs.Common.{◌≡◌, []}
use Rattle.vd_test_acceptance.proofs.outside.net_of.Given as goal

abbrev pub invariant-loop-waiting : goal.invariant-loop-waiting
invariant-loop-waiting l = l.net.listeners ≡ []
