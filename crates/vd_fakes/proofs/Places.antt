-- The place of the first link that waits at an address.
use Rattle.std.proofs.Common.{◌≡◌, ℕ, zero, suc, ◌<◌, List, [], ◌∷◌, ◌++◌, length, take, drop, remove, get_or, slice_get, true, Some, None, cond, option_map, bytes_eq, sym, ap, ◌∙◌, subst, arith}
use Rattle.vd_outside.specs.Net.{Waiting, link_at, without_link_at}

at_place : {L : Type 0} (address : List ℕ) (waiting : Waiting L) (place : ℕ) (link : List ℕ × L) → place < length waiting → bytes_eq (get_or waiting place link).0 address ≡ true
    → link_at address (drop place waiting) None ≡ option_map (λ each. each.1) (slice_get waiting place)
at_place address [] place link within here = absurd (omega arith)
at_place address (first ∷ links) zero link within here = ap (λ b. cond b (Some first.1) (link_at address links None)) here
at_place address (first ∷ links) (suc place) link within here = at_place address links place link (omega arith) here

-- behind a place at an address the first link is that at the place
pub first_at : {L : Type 0} (address : List ℕ) (waiting : Waiting L) (place : ℕ) (link : List ℕ × L) → place < length waiting → link ≡ get_or waiting place link → bytes_eq link.0 address ≡ true
    → link_at address (drop place waiting) None ≡ option_map (λ each. each.1) (slice_get waiting place)
first_at address waiting place link within is here = at_place address waiting place link within (subst (λ z. bytes_eq z.0 address ≡ true) is here)

rest_behind : {L : Type 0} (address : List ℕ) (waiting : Waiting L) (place : ℕ) (link : List ℕ × L) → place < length waiting → bytes_eq (get_or waiting place link).0 address ≡ true
    → without_link_at address (drop place waiting) ≡ drop (suc place) waiting
rest_behind address [] place link within here = absurd (omega arith)
rest_behind address (first ∷ links) zero link within here = ap (λ b. cond b links (first ∷ without_link_at address links)) here
rest_behind address (first ∷ links) (suc place) link within here = rest_behind address links place link (omega arith) here

-- the others at an address are all but the link at its first place there
pub rest_at : {L : Type 0} (address : List ℕ) (waiting : Waiting L) (place : ℕ) (link : List ℕ × L) → place < length waiting → link ≡ get_or waiting place link → bytes_eq link.0 address ≡ true
    → take place waiting ++ without_link_at address (drop place waiting) ≡ without_link_at address waiting → without_link_at address waiting ≡ remove waiting place
rest_at address waiting place link within is here all =
    sym all ∙ ap (λ (links : List (List ℕ × _)). take place waiting ++ links) (rest_behind address waiting place link within (subst (λ z. bytes_eq z.0 address ≡ true) is here))
