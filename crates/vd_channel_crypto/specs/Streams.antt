-- The streams of ChaCha20 (RFC 8439), and bytes under them.
use Rattle.std.specs.Prelude.{ℕ, List, length, map, bit_xor, slice_index}
use Rattle.std.specs.List.{range_with_len}
use Rattle.rand_chacha.specs.ChaCha.{key_of, next_word}
use Rattle.rand_core.specs.Steps.{fill_via_u32}

-- the first 128 bytes under this key, from block 0 on; the nonce is four zero bytes and the number, the lowest byte first
abbrev pub key_stream : List ℕ → ℕ → List ℕ
key_stream key number = (fill_via_u32 (next_word 10) 128 (record { key = key_of key; stream = number; word_pos = 0 })).0

-- bytes, each with exclusive or under the byte of the stream at its place
abbrev pub under : (bytes stream : List ℕ) → List ℕ
under bytes stream = map (λ i. bit_xor (slice_index bytes i) (slice_index stream i)) (range_with_len 0 (length bytes))
