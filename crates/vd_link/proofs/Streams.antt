-- Two readings of one stream.
use Rattle.std.proofs.Common.{arith, ◌≡◌, ◌<◌, ◌*◌, ◌^◌, ℕ, List, [], ◌∷◌, ◌++◌, length, refl, ap, sym, ◌∙◌, length-append, append_assoc, inl, inr}
use Rattle.std.proofs.lemmas.Nat.{from_be_bytes-to_be_bytes_4}
use Rattle.std.specs.List.{flat_map}
use Rattle.std.specs.Int.{w32, to_be_bytes, from_be_bytes}
use Rattle.vd_link.specs.Frames.{frame, frames}
use Rattle.vd_base.specs.Words.{AreWords}
use Rattle.vd_link.specs.Laws.{StreamsHaveOneReading, FaultsExcludePackets}
use Rattle.vd_link.specs.declared.faults.LinkFault.TheVariants as link_fault

-- prefixes of one length of the same list are the same
pub front_same : (a b x y : List ℕ) → length a ≡ length b → a ++ x ≡ b ++ y → (a ≡ b) × (x ≡ y)
front_same [] [] x y same is = (refl, is)
front_same [] (q ∷ b) x y same is = absurd (omega (arith, same))
front_same (p ∷ a) [] x y same is = absurd (omega (arith, same))
front_same (p ∷ a) (q ∷ b) x y same is =
    let heads : p ≡ q = cc in
    let tails : a ++ x ≡ b ++ y = cc in
    let rest = front_same a b x y (omega (arith, same)) tails in
    let fronts : a ≡ b = rest.0 in
    (cc, rest.1)

-- a word is known from its four bytes
word_same : (word other : ℕ) → word < 2 ^ 32 → other < 2 ^ 32 → to_be_bytes w32 word ≡ to_be_bytes w32 other → word ≡ other
word_same word other fits other_fits is =
    sym (from_be_bytes-to_be_bytes_4 word fits) ∙ ap (from_be_bytes w32) is ∙ from_be_bytes-to_be_bytes_4 other other_fits

words_same : (words others rest behind : List ℕ) → AreWords words → AreWords others → length words ≡ length others
    → flat_map (to_be_bytes w32) words ++ rest ≡ flat_map (to_be_bytes w32) others ++ behind → (words ≡ others) × (rest ≡ behind)
words_same [] [] rest behind fit other_fit same is = (refl, is)
words_same [] (other ∷ others) rest behind fit other_fit same is = absurd (omega (arith, same))
words_same (word ∷ words) [] rest behind fit other_fit same is = absurd (omega (arith, same))
words_same (word ∷ words) (other ∷ others) rest behind fit other_fit same is =
    let split = front_same (to_be_bytes w32 word) (to_be_bytes w32 other) (flat_map (to_be_bytes w32) words ++ rest) (flat_map (to_be_bytes w32) others ++ behind) refl
    (sym (append_assoc (to_be_bytes w32 word) (flat_map (to_be_bytes w32) words) rest) ∙ is ∙ append_assoc (to_be_bytes w32 other) (flat_map (to_be_bytes w32) others) behind) in
    let heads : word ≡ other = word_same word other fit.0 other_fit.0 split.0 in
    let tails = words_same words others rest behind fit.1 other_fit.1 (omega (arith, same)) split.1 in
    let words_are : words ≡ others = tails.0 in
    (cc, tails.1)

-- a packet is known from a stream that begins with it
pub packet_same : (words others rest behind : List ℕ) → AreWords words → AreWords others → frame words ++ rest ≡ frame others ++ behind → (words ≡ others) × (rest ≡ behind)
packet_same words others rest behind fit other_fit is =
    let counts : length words ≡ length others = cc in
    let bytes : flat_map (to_be_bytes w32) words ++ rest ≡ flat_map (to_be_bytes w32) others ++ behind = cc in
    words_same words others rest behind fit other_fit counts bytes

pub one_reading : StreamsHaveOneReading
one_reading [] [] rest behind fit other_fit same is = (refl, is)
one_reading [] (other ∷ others) rest behind fit other_fit same is = absurd (omega (arith, same))
one_reading (packet ∷ packets) [] rest behind fit other_fit same is = absurd (omega (arith, same))
one_reading (packet ∷ packets) (other ∷ others) rest behind fit other_fit same is =
    let first = packet_same packet other (frames packets ++ rest) (frames others ++ behind) fit.0 other_fit.0
    (sym (append_assoc (frame packet) (frames packets) rest) ∙ is ∙ append_assoc (frame other) (frames others) behind) in
    let heads : packet ≡ other = first.0 in
    let tails = one_reading packets others rest behind fit.1 other_fit.1 (omega (arith, same)) first.1 in
    let packets_are : packets ≡ others = tails.0 in
    (cc, tails.1)

pub length_words : (words : List ℕ) → length (flat_map (to_be_bytes w32) words) ≡ 4 * length words
length_words [] = refl
length_words (word ∷ words) = length-append (to_be_bytes w32 word) (flat_map (to_be_bytes w32) words) ∙ (let rest = length_words words in omega (arith, rest))

pub no_fault : FaultsExcludePackets
no_fault words rest offset link_fault.Peer differs is = differs refl
no_fault words rest offset (link_fault.BadFrame place byte) differs (inl at) = at.1.wrong (let begins = at.1.begins in let same : byte ≡ 0x56 = cc in same)
no_fault words rest offset (link_fault.BadFrame place byte) differs (inr at) = at.1.wrong (let begins = at.1.begins in let same : byte ≡ length words = cc in same)
no_fault words rest offset link_fault.End differs is = let short = is.0 in omega (arith, short, length-append (frame words) rest, length_words words)
