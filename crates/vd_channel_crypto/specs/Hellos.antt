-- What each end of a sealed link says first, and the keys that both make of it.
use Rattle.std.specs.Prelude.{ℕ, List, [], ◌∷◌, ◌++◌, codes, nat_lt, if◌then◌else◌}
use Rattle.std.specs.Int.{w32, to_be_bytes}
use Rattle.sha2.specs.Sha256.{sha256}
use Rattle.vd_channel_crypto.specs.declared.hellos.Hello.{Hello}
use Rattle.vd_channel_crypto.specs.Codes.{hmac, expanded}
use Rattle.vd_channel_crypto.specs.Records.{Direction}

-- the version, the public name of the dealing, who says it and to whom, and bytes that are drawn for this connection alone
abbrev pub hello_bytes : Hello → List ℕ
hello_bytes hello = 0x47 ∷ 2 ∷ [] ++ (hello.id ++ (hello.from.0 ∷ hello.to.0 ∷ [] ++ hello.nonce))

-- the digest of two hellos, and of those of both ends, the lower host's first
abbrev pub both_said : (lower higher : Hello) → List ℕ
both_said lower higher = sha256 (hello_bytes lower ++ hello_bytes higher)

abbrev pub digest_between : (mine theirs : Hello) → List ℕ
digest_between mine theirs = if nat_lt mine.from.0 theirs.from.0 then both_said mine theirs else both_said theirs mine

-- the nonce of a connection to a host, by its number
abbrev pub nonce_of : (seed : List ℕ) → (peer connection : ℕ) → List ℕ
nonce_of seed peer connection = hmac seed (codes "nonce" ++ (peer ∷ to_be_bytes w32 connection))

-- what a key of a link is for: a purpose, a sender, and what both said to one another
abbrev pub key_info : (purpose sender : ℕ) → (digest : List ℕ) → List ℕ
key_info purpose sender digest = codes "viaduct link 2" ++ (purpose ∷ sender ∷ digest)

abbrev pub link_key : (link : List ℕ) → (purpose sender : ℕ) → (digest : List ℕ) → List ℕ
link_key link purpose sender digest = expanded link (key_info purpose sender digest)

-- the keys of the direction in which this host sends: 63 is "c", for what covers, and 6d is "m", for codes
abbrev pub link_direction : (link : List ℕ) → (sender : ℕ) → (digest : List ℕ) → Direction
link_direction link sender digest = record { cipher = link_key link 0x63 sender digest; code = link_key link 0x6d sender digest }
