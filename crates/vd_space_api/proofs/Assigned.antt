-- The valid lists of protocols are the valid assignments, and their places are those of the list of all.
use Rattle.std.proofs.Common.{◌≡◌, ℕ, zero, suc, ◌+◌, ◌<◌, ◌≤◌, ◌==◌, Bool, true, List, [], ◌∷◌, length, map, refl, sym, ap, ap₂, subst, ◌∙◌, arith}
use Rattle.std.specs.Prelude.{IsTrue}
use Rattle.std.specs.List.{AllByRecursion, list_all, range_with_len}
use Rattle.std.proofs.lemmas.Bool.{true≢false, and_parts, eqb-true}
use Rattle.std.proofs.lemmas.List.{length-map}
use Rattle.std.proofs.lemmas.List.FromFn.{get_or-range_with_len, length-range_with_len}
use Rattle.std.proofs.lemmas.List.Sums.{AllPass-from_list_all, passes_at_first}
use Rattle.vd_base.specs.declared.protocols.Proto.{Proto}
use Rattle.vd_base.specs.Holders.{proto_in, same_protocol}
use Rattle.vd_base.specs.Protocols.{protocols_of}
use Rattle.vd_base.proofs.Front.{same_is}
use Rattle.vd_space.specs.declared.problem.Problem.{Problem}
use Rattle.vd_space.specs.declared.problem.Making.{Making}
use Rattle.vd_space.specs.Validity.{protocols, protocol, can_stand, stand, is_valid}
use Rattle.vd_space.proofs.Front.{listed_at, parts_of}
use Rattle.vd_space.specs.Cheapest.{IsAssignment}
use Rattle.vd_space_api.specs.Places.{place_of, places_in}
use Rattle.vd_space_api.proofs.Positions.{no_proto}

-- ---- no protocol is listed twice

abbrev is_at_its_place : ℕ → ℕ → Bool
is_at_its_place n p = place_of (protocols_of n) (proto_in (protocols_of n) p) == p

all_at_their_places : (n : ℕ) → n ≤ 4 → list_all (is_at_its_place n) (range_with_len 0 (length (protocols_of n))) ≡ true
unfolding lib.Count.ones
all_at_their_places zero le = refl
all_at_their_places (suc zero) le = refl
all_at_their_places (suc (suc zero)) le = refl
all_at_their_places (suc (suc (suc zero))) le = refl
all_at_their_places (suc (suc (suc (suc zero)))) le = refl
all_at_their_places (suc (suc (suc (suc (suc n))))) le = absurd (omega arith)

-- so the place of the protocol at a place is that place
place_is : (n : ℕ) → n ≤ 4 → (p : ℕ) → p < length (protocols_of n) → place_of (protocols_of n) (proto_in (protocols_of n) p) ≡ p
place_is n few p low =
    let many = length (protocols_of n) in
    let count = length-range_with_len 0 many in
    let same : 0 + p ≡ p = omega arith in
    let each = AllPass-from_list_all (is_at_its_place n) (range_with_len 0 many) (all_at_their_places n few) p 0 (omega (arith, low, count)) in
    eqb-true (place_of (protocols_of n) (proto_in (protocols_of n) p)) p (subst (λ k. IsTrue (is_at_its_place n k)) (get_or-range_with_len 0 many p 0 low ∙ same) each)

-- and the protocol at the place of one that is listed is that protocol
proto_there : (list : List Proto) (p : Proto) → place_of list p < length list → p ≡ proto_in list (place_of list p)
proto_there list p low = same_is p (proto_in list (place_of list p)) (passes_at_first (same_protocol p) list no_proto low)

-- ---- places and protocols of a list

abbrev AreListed : Problem → List ℕ → Type 0
AreListed problem places = AllByRecursion (λ p. p < length (protocols problem)) places

are_listed : (problem : Problem) (makings : List Making) (places : List ℕ) → IsTrue (stand problem makings places) → AreListed problem places
are_listed problem makings [] stands = tt
are_listed problem [] (p ∷ places) stands = absurd (true≢false (sym stands))
are_listed problem (making ∷ makings) (p ∷ places) stands =
    let parts = and_parts (can_stand problem making p) (stand problem makings places) stands in
    (listed_at problem making p parts.0, are_listed problem makings places parts.1)

valid_listed : (problem : Problem) (places : List ℕ) → IsTrue (is_valid problem places) → AreListed problem places
valid_listed problem places valid = are_listed problem problem.slots places (parts_of problem places valid).stands

protos_back : (problem : Problem) (list : List Proto) → AreListed problem (places_in problem list) → list ≡ map (protocol problem) (places_in problem list)
protos_back problem [] listed = refl
protos_back problem (p ∷ list) listed = ap₂ (λ (q : Proto) (qs : List Proto). q ∷ qs) (proto_there (protocols problem) p listed.0) (protos_back problem list listed.1)

places_back : (problem : Problem) → length problem.hosts ≤ 4 → (places : List ℕ) → AreListed problem places → places_in problem (map (protocol problem) places) ≡ places
places_back problem few [] listed = refl
places_back problem few (p ∷ places) listed = ap₂ (λ (q : ℕ) (qs : List ℕ). q ∷ qs) (place_is (length problem.hosts) few p listed.0) (places_back problem few places listed.1)

-- ---- valid lists of protocols

pub is_assignment : (problem : Problem) (list : List Proto) → length list ≡ length problem.slots → IsTrue (is_valid problem (places_in problem list)) → IsAssignment problem list
is_assignment problem list full valid =
    record {
      places = places_in problem list;
      is_valid = record { whole = length-map list (place_of (protocols problem)) ∙ full; valid = valid };
      named = protos_back problem list (valid_listed problem (places_in problem list) valid);
    }

pub has_all : (problem : Problem) (list : List Proto) → IsAssignment problem list → length list ≡ length problem.slots
has_all problem list is = ap (λ (ps : List Proto). length ps) is.named ∙ length-map is.places (protocol problem) ∙ is.is_valid.whole

module _ (problem : Problem) (few : length problem.hosts ≤ 4) (list : List Proto) (is : IsAssignment problem list) where
  -- the places of its protocols are its places
  places_are : places_in problem list ≡ is.places
  places_are = ap (places_in problem) is.named ∙ places_back problem few is.places (valid_listed problem is.places is.is_valid.valid)

  pub valid_places : IsTrue (is_valid problem (places_in problem list))
  valid_places = subst (λ (places : List ℕ). IsTrue (is_valid problem places)) (sym places_are) is.is_valid.valid
