-- What is derived from a key is 32 bytes.
use Rattle.std.proofs.Common.{ℕ, zero, suc, ◌%◌, ◌/◌, ◌^◌, ◌<◌, List, [], ◌∷◌, ◌++◌, arith}
use Rattle.std.specs.Prelude.{slice_index}
use Rattle.std.specs.Int.{byte_at, w32, to_be_bytes}
use Rattle.std.specs.List.{AllByRecursion}
use Rattle.sha2.specs.Sha256.{sha256, digest_bytes, final_hash, initial_hash_256}
use Rattle.sha2.proofs.Facts256.{length-sha256}
use Rattle.vd_base_codec.specs.Digits.{IsByte, IsKey}
use Rattle.vd_channel_crypto.specs.Codes.{derived}

both_small : (xs ys : List ℕ) → AllByRecursion IsByte xs → AllByRecursion IsByte ys → AllByRecursion IsByte (xs ++ ys)
both_small [] ys f g = g
both_small (x ∷ xs) ys f g = (f.0, both_small xs ys f.1 g)

byte_small : (k n : ℕ) → byte_at k n < 256
byte_small zero n = omega arith
byte_small (suc k) n = let m : ℕ = n / 256 ^ suc k in let f : m % 256 < 256 = omega arith in f

bytes_small : (h : List ℕ) (n : ℕ) → AllByRecursion IsByte (digest_bytes h n)
unfolding digest_bytes
bytes_small h zero = tt
bytes_small h (suc n) =
    let w : ℕ = slice_index h n in
    both_small (digest_bytes h n) (to_be_bytes w32 w) (bytes_small h n) (byte_small 3 w, (byte_small 2 w, (byte_small 1 w, (byte_small 0 w, tt))))

all_small : (bytes : List ℕ) → AllByRecursion IsByte (sha256 bytes)
unfolding sha256
all_small bytes = bytes_small (final_hash initial_hash_256 bytes) 8

digest_is_key : (bytes : List ℕ) → IsKey (sha256 bytes)
digest_is_key bytes = (length-sha256 bytes, all_small bytes)

pub derived_is_key : (salt input info : List ℕ) → IsKey (derived salt input info)
derived_is_key salt input info = digest_is_key _
