-- The bytes of packets.
use Rattle.std.proofs.Common.{◌≡◌, ℕ, ◌+◌, ◌*◌, List, [], ◌∷◌, ◌++◌, length, length-append, flat_map, refl, ap, ◌∙◌, arith}
use Rattle.std.specs.Int.{w32, to_be_bytes}
use Rattle.vd_execution.specs.World.{words_of}
use Rattle.vd_link.specs.Frames.{frame, frames, greeting}
use Rattle.vd_link.proofs.Front.{length_words}
use Rattle.vd_rounds.specs.Loads.{BytesAreCounted}

frame_bytes : (words : List ℕ) → length (frame words) ≡ 2 + 4 * length words
frame_bytes words = let n = length_words words in omega (arith, n)

frames_bytes : (packets : List (List ℕ)) → length (frames packets) ≡ 2 * length packets + 4 * length (words_of packets)
frames_bytes [] = refl
frames_bytes (words ∷ packets) =
    let one = frame_bytes words in
    let more = frames_bytes packets in
    let both = length-append (frame words) (frames packets) in
    let all = length-append words (words_of packets) in
    omega (arith, one, more, both, all)

greeting_bytes : (plan : List ℕ) (from to : ℕ) → length plan ≡ 32 → length (greeting plan from to) ≡ 36
greeting_bytes plan from to long = let both = length-append plan (from ∷ to ∷ []) in omega (arith, long, both)

pub bytes_are_counted : BytesAreCounted
bytes_are_counted plan from to packets long =
    let front = greeting_bytes plan from to long in
    let rest = frames_bytes packets in
    omega (arith, front, rest)
