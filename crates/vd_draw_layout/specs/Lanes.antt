-- The lanes of a drawing: one for each host, and before the later host of two one for each protocol that they share and that is used.
use Rattle.std.specs.Prelude.{ℕ, zero, suc, max, Bool, false, ◌&&◌, ◌||◌, ◌==◌, if◌then◌else◌, List, [], ◌∷◌, ◌++◌, filter}
use Rattle.std.specs.List.{list_any}
use Rattle.std.specs.Option.{option_map_or}
use Rattle.vd_base.specs.declared.ids.HostId.{HostId}
use Rattle.vd_base.specs.declared.protocols.Proto.{Proto}
use Rattle.vd_base.specs.declared.protocols.Proto.TheVariants.{Local, Rep, Commit, Add, Xor}
use Rattle.vd_base.specs.HostSets.{host, same_host}
use Rattle.vd_base.specs.Holders.{same_protocol}
use Rattle.vd_base.specs.Protocols.{protocols_of}
use Rattle.vd_draw_rows.specs.declared.row.Move.{Move}
use Rattle.vd_draw_rows.specs.declared.row.Row.{Row}
use Rattle.vd_draw_layout.specs.declared.lanes.Lane.{Lane}
use Rattle.vd_draw_layout.specs.Numbers.{plus}

-- ---- which lanes there are

abbrev pub move_uses : Proto → Move → Bool
move_uses p m = same_protocol p m.from || same_protocol p m.to

abbrev pub row_uses : Proto → Row → Bool
row_uses p row = option_map_or (same_protocol p) row.at false || list_any (move_uses p) row.moves

-- two hosts share the protocol, and the later of them is this one
abbrev pub ends_at : HostId → Proto → Bool
ends_at h (Local k) = false
ends_at h (Rep set) = false
ends_at h (Commit p v) = max p.0 v.0 == h.0
ends_at h (Add a b) = same_host b h
ends_at h (Xor a b) = same_host b h

abbrev pub has_lane : List Row → HostId → Proto → Bool
has_lane rows h p = ends_at h p && list_any (row_uses p) rows

-- those before a host, and its own
abbrev pub lanes_to : List Row → List Proto → HostId → List Proto
lanes_to rows all h = filter (has_lane rows h) all ++ Local h ∷ []

-- those of the first n hosts
abbrev pub lanes_below : List Row → List Proto → ℕ → List Proto
lanes_below rows all zero = []
lanes_below rows all (suc n) = lanes_below rows all n ++ lanes_to rows all (host n)

abbrev pub lane_protocols : List Row → ℕ → List Proto
lane_protocols rows hosts = lanes_below rows (protocols_of hosts) hosts

-- ---- where they are

-- one after another, so far apart
abbrev pub lanes_from : ℕ → ℕ → List Proto → List Lane
lanes_from x gap [] = []
lanes_from x gap (p ∷ ps) = record { at = p; x = x } ∷ lanes_from (plus x gap) gap ps

abbrev pub lane_x : List Lane → Proto → ℕ
lane_x [] p = 0
lane_x (lane ∷ lanes) p = if same_protocol lane.at p then lane.x else lane_x lanes p

abbrev pub local : HostId → Proto
local h = Local h

-- those of the first n hosts that pass the test
abbrev pub x_if : Bool → ℕ → List ℕ
x_if test x = if test then x ∷ [] else []

abbrev pub hosts_x : List Lane → (HostId → Bool) → ℕ → List ℕ
hosts_x lanes test zero = []
hosts_x lanes test (suc n) = hosts_x lanes test n ++ x_if (test (host n)) (lane_x lanes (Local (host n)))
