-- How many packets pass in one direction of a link, by its bytes.
use Rattle.std.specs.Prelude.{ℕ, ◌+◌, ◌*◌, ◌-◌, ◌^◌, min, nat_eq, List, [], ◌∷◌, if◌then◌else◌}
use Rattle.vd_edge.specs.declared.meter.Carried.{Carried}
use Rattle.vd_edge.specs.declared.meter.Carried.TheVariants.{Plain, Sealed}
use Rattle.vd_edge.specs.declared.meter.Meter.{Meter}
use Rattle.vd_edge.specs.declared.meter.Part.{Part}
use Rattle.vd_edge.specs.declared.meter.Part.TheVariants as part

-- no byte has passed so far
abbrev pub unused : Meter
unused = record { packets = 0; carried = Plain; part = part.First }

-- A hello has 68 bytes; behind it two records carry no packet, the proof of the key and the greeting. A greeting that is not sealed has 36.
abbrev pub head_of : (version : ℕ) → Carried × ℕ
head_of version = if nat_eq version 2 then (Sealed 2, 66) else (Plain, 34)

-- a packet has four bytes a word; a record has its bytes, and a code of 32
abbrev pub body_of : Carried → (count : ℕ) → ℕ
body_of Plain count = 4 * count
body_of (Sealed left) count = count + 32

-- one packet more, as far as can be counted
abbrev pub counted : (packets : ℕ) → Carried → Meter
counted packets carried = record { packets = min (packets + 1) (2 ^ 64 - 1); carried = carried; part = part.Tag }

-- behind a whole record, which carries a packet where no record is left that carries none
abbrev pub behind_record : (packets : ℕ) → Carried → (left : ℕ) → Meter
behind_record packets carried left =
    if nat_eq left 0 then counted packets carried else record { packets = packets; carried = Sealed (left - 1); part = part.Tag }

-- behind a whole packet or record
abbrev pub whole : (packets : ℕ) → Carried → Meter
whole packets Plain = counted packets Plain
whole packets (Sealed left) = behind_record packets (Sealed left) left

-- so many bytes are still to come
abbrev pub after_body : (packets : ℕ) → Carried → (left : ℕ) → Meter
after_body packets carried left =
    if nat_eq left 0 then whole packets carried else record { packets = packets; carried = carried; part = part.Body left }

abbrev pub after_part : (packets : ℕ) → Carried → Part → (byte : ℕ) → Meter
after_part packets carried part.First byte = record { packets = packets; carried = carried; part = part.Version }
after_part packets carried part.Version byte = record { packets = packets; carried = (head_of byte).0; part = part.Head (head_of byte).1 }
after_part packets carried (part.Head left) byte =
    record { packets = packets; carried = carried; part = if nat_eq (left - 1) 0 then part.Tag else part.Head (left - 1) }
after_part packets carried part.Tag byte = record { packets = packets; carried = carried; part = part.Count }
after_part packets carried part.Count byte = after_body packets carried (body_of carried byte)
after_part packets carried (part.Body left) byte = after_body packets carried (left - 1)

abbrev pub after_bytes : Meter → List ℕ → Meter
after_bytes meter [] = meter
after_bytes meter (byte ∷ bytes) = after_bytes (after_part meter.packets meter.carried meter.part byte) bytes
