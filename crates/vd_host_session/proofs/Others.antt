-- All other hosts are the peers of a host.
use Rattle.std.proofs.Common.{arith, ◌≡◌, ◌≢◌, ◌<◌, ◌≤◌, ◌+◌, ⊎_elim, ℕ, zero, suc, length, sym}
use Rattle.std.proofs.Math.Nat.{eq-or-lt_of_le}
use Rattle.vd_execution.specs.Code.{Code}
use Rattle.vd_engine.specs.Hosts.{PacketsAreWith}
use Rattle.vd_engine.proofs.Front.{also_with}
use Rattle.vd_host_session.specs.Meetings.{IsPeerOf}
use Rattle.vd_host_session.specs.declared.task.Task.{Task}
use Rattle.vd_host_session.proofs.Numbers.{earlier_number, later_number, less_or_least}

later_peer : (task : Task) (number : ℕ) → task.me.0 < number → number < length task.addresses + 1 → IsPeerOf task number
later_peer task zero later few = absurd (omega (arith, later))
later_peer task (suc place) later few = (place, omega (arith, few), sym (later_number task.me.0 place (omega (arith, later))))

other_is_peer : (task : Task) (number : ℕ) → task.me.0 ≤ length task.addresses → number < length task.addresses + 1 → number ≢ task.me.0 → IsPeerOf task number
other_is_peer task number own few apart =
    ⊎_elim (λ (less : number < task.me.0). (number, omega (arith, less, own), sym (earlier_number task.me.0 number less)))
    (λ (least : task.me.0 ≤ number).
    ⊎_elim (λ (e : task.me.0 ≡ number). absurd (apart (sym e))) (λ (later : task.me.0 < number). later_peer task number later few) (eq-or-lt_of_le least))
    (less_or_least number task.me.0)

-- a code whose packets go to the others and come from them names the peers alone
pub others_are_peers : (task : Task) (code : Code) → task.me.0 ≤ length task.addresses → PacketsAreWith (λ peer. (peer < length task.addresses + 1) × (peer ≢ task.me.0)) code → PacketsAreWith (IsPeerOf task) code
others_are_peers task code own packets = also_with (λ peer. (peer < length task.addresses + 1) × (peer ≢ task.me.0)) (IsPeerOf task) code (λ peer other. other_is_peer task peer own other.0 other.1) packets
