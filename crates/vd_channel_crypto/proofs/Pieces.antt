-- A message in pieces, a block under a pad, and keys that are made of keys.
use Rattle.std.proofs.Common.{◌≡◌, ◌∙◌, ◌++◌, ◌∷◌, [], ℕ, List, ap, sym, drop, length, map, replicate, bit_xor}
use Rattle.std.specs.Prelude.{codes}
use Rattle.std.proofs.lemmas.List.{append-nil, append_assoc, drop-replicate}
use Rattle.vd_channel_crypto.specs.Codes.{block_of, derived, hmac, padded}
use Rattle.vd_channel_crypto.specs.Hellos.{link_key}

-- a key at the front of a block of zeros
pub filled_as : (key front : List ℕ) → front ≡ key → front ++ drop (length key) (replicate 64 0) ≡ block_of key
filled_as key front is = ap (λ (f : List ℕ). f ++ drop (length key) (replicate 64 0)) is ∙ ap (λ (r : List ℕ). key ++ r) (drop-replicate (length key) 64 0)

-- three pieces, one after the other, behind a block
pub three_behind : (block front first second third : List ℕ) → block ≡ front → ((block ++ first) ++ second) ++ third ≡ front ++ (first ++ (second ++ third))
three_behind block front first second third is =
    ap (λ (m : List ℕ). ((m ++ first) ++ second) ++ third) is
    ∙ append_assoc (front ++ first) second third
    ∙ append_assoc front first (second ++ third)

pub under_pad : (pad : ℕ) (key block bytes : List ℕ) → bytes ≡ map (λ b. bit_xor b pad) block → block ≡ block_of key → bytes ≡ padded pad key
under_pad pad key block bytes is filled = is ∙ ap (λ (b : List ℕ). map (λ x. bit_xor x pad) b) filled

pub both_behind : (a b front back : List ℕ) → a ≡ front → b ≡ back → a ++ b ≡ front ++ back
both_behind a b front back one other = ap (λ (m : List ℕ). m ++ b) one ∙ ap (λ (m : List ℕ). front ++ m) other

-- a key that is made of an extracted one
pub derived_as : (salt input purpose more extracted result : List ℕ) → result ≡ hmac extracted (purpose ++ (more ++ 1 ∷ []))
    → extracted ≡ hmac salt (input ++ ([] ++ [])) → result ≡ derived salt input (purpose ++ more)
derived_as salt input purpose more extracted result is made =
    is
    ∙ ap (hmac extracted) (sym (append_assoc purpose more (1 ∷ [])))
    ∙ ap (λ (k : List ℕ). hmac k ((purpose ++ more) ++ 1 ∷ [])) (made ∙ ap (hmac salt) (append-nil input))

-- a key of a link
pub link_key_as : (link digest front : List ℕ) (purpose sender : ℕ) (result : List ℕ) → front ≡ digest
    → result ≡ hmac link (codes "viaduct link 2" ++ ((purpose ∷ sender ∷ []) ++ (front ++ 1 ∷ []))) → result ≡ link_key link purpose sender digest
link_key_as link digest front purpose sender result same is =
    is
    ∙ ap (λ (d : List ℕ). hmac link (codes "viaduct link 2" ++ ((purpose ∷ sender ∷ []) ++ (d ++ 1 ∷ [])))) same
    ∙ ap (hmac link) (sym (append_assoc (codes "viaduct link 2") (purpose ∷ sender ∷ digest) (1 ∷ [])))
