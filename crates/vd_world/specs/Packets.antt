-- How many packets hosts have sent. A world keeps all that were sent since its hosts started.
use Rattle.std.specs.Prelude.{◌≡◌, ℕ, ◌+◌, ◌-◌, ◌^◌, ◌<◌, Some, min, length, map, nat_lt, if◌then◌else◌}
use Rattle.std.specs.List.{range_with_len, sum}
use Rattle.vd_execution.specs.Joint.{Joint, started}
use Rattle.vd_execution.specs.Step.{Deed, Said, deed}
use Rattle.vd_execution.specs.World.{World, Supply, step}

-- a host, to the first n hosts
abbrev pub sent_by : World → (n : ℕ) → (host : ℕ) → ℕ
sent_by w n h = sum (map (λ p. length ((w h).sent p)) (range_with_len 0 n))

-- the first n hosts, to one another
abbrev pub packets_of : World → (n : ℕ) → ℕ
packets_of w n = sum (map (sent_by w n) (range_with_len 0 n))

-- a count, as far as 64 bits tell it
abbrev pub counted : ℕ → ℕ
counted n = min n (2 ^ 64 - 1)

-- ---- what is counted

-- how many packets a step sends to one of the first n hosts
abbrev pub said_to : (n : ℕ) → Deed → ℕ
said_to n (Said p words) = if nat_lt p n then 1 else 0
said_to n other = 0

-- Before the first step no packet was sent, and each step of one of the hosts adds those that it sends.
pub record PacketsAreCounted : Type 0 where
  pub none : (n : ℕ) (j : Joint) → packets_of (started j) n ≡ 0
  pub each : (s : Supply) (n h : ℕ) (w v : World) → h < n → step s h w ≡ Some v → packets_of v n ≡ packets_of w n + said_to n (deed (w h).state)
