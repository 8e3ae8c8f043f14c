-- How many outputs there are, at least and at most.
use Rattle.std.specs.Prelude.{ℕ, ◌+◌, ◌-◌, ◌*◌, ◌^◌, min, max, Bool, ◌&&◌, nat_le}
use Rattle.vd_cmd_data.specs.declared.spans.Span.{Span}

abbrev pub capped : ℕ → ℕ
capped n = min n (2 ^ 64 - 1)

abbrev pub exactly : ℕ → Span
exactly n = record { least = n; most = n }

-- some, and then others
abbrev pub plus : Span → Span → Span
plus a b = record { least = capped (a.least + b.least); most = capped (a.most + b.most) }

-- some, or others in their place
abbrev pub either : Span → Span → Span
either a b = record { least = min a.least b.least; most = max a.most b.most }

-- some, so often
abbrev pub times : ℕ → Span → Span
times n a = record { least = capped (n * a.least); most = capped (n * a.most) }

abbrev pub is_within : ℕ → Span → Bool
is_within n a = nat_le a.least n && nat_le n a.most
