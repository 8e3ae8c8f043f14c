-- Packets of words.
use Rattle.std.specs.Prelude.{ℕ, List, take}
use Rattle.vd_base.specs.declared.packet.Packet.{Packet}

-- the words that a packet carries
abbrev pub packet_words : Packet → List ℕ
packet_words packet = take packet.count packet.words
