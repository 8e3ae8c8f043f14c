-- What an editor marks of a fault.
use Rattle.std.specs.Prelude.{ℕ, ◌+◌, ◌==◌, List, [], ◌∷◌, drop, if◌then◌else◌}
use Rattle.std.specs.List.{prefix_len}
use Rattle.vd_base.specs.Lexical.{is_word_byte}
use Rattle.vd_lsp_wire.specs.Places.{goes_on}

abbrev pub character_len : List ℕ → ℕ
character_len [] = 0
character_len (b ∷ bs) = prefix_len goes_on bs + 1

-- the first word, or else the first character
abbrev pub mark_len : List ℕ → ℕ
mark_len bytes = if prefix_len is_word_byte bytes == 0 then character_len bytes else prefix_len is_word_byte bytes

abbrev pub mark_end : List ℕ → ℕ → ℕ
mark_end bytes offset = offset + mark_len (drop offset bytes)
