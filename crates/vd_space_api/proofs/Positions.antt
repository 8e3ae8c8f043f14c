-- Where protocols stand in the list of all.
use Rattle.std.proofs.Common.{◌≡◌, ℕ, ◌+◌, ◌<◌, ◌≤◌, true, false, ◌&&◌, List, [], ◌∷◌, ◌++◌, length, get_or, set, take, map, sym, ap, ap₂, ◌∙◌, arith, inl, inr}
use Rattle.std.specs.Prelude.{IsTrue}
use Rattle.std.proofs.lemmas.Bool.{true≢false}
use Rattle.std.specs.List.{list_all}
use Rattle.std.proofs.lemmas.List.{length-map, map-append, take_more, take_more_set}
use Rattle.std.proofs.lemmas.List.Sums.{position_or_len_is}
use Rattle.vd_base.specs.declared.protocols.Proto.{Proto}
use Rattle.vd_base.specs.declared.protocols.Proto.TheVariants.{Local}
use Rattle.vd_base.specs.HostSets.{host}
use Rattle.vd_base.specs.Holders.{same_protocol}
use Rattle.vd_space.specs.declared.problem.Problem.{Problem}
use Rattle.vd_space.specs.Validity.{use_joins, output_joins, guard_told, index_told, is_valid}
use Rattle.vd_space.specs.Sizes.{IsWithinLimits}
use Rattle.vd_space.proofs.Front.{too_many, listed_or_not}
use Rattle.vd_space_api.specs.Places.{place_of, places_of}

abbrev pub no_proto : Proto
no_proto = Local (host 0)

module _ (list : List Proto) (p : Proto) where
  pub found : (i : ℕ) (d : Proto) → i < length list → ((k : ℕ) (e : Proto) → k < i → same_protocol p (get_or list k e) ≡ false) → same_protocol p (get_or list i d) ≡ true → i ≡ place_of list p
  found i d low before here = sym (position_or_len_is (same_protocol p) list i d (omega (arith, low)) (λ k less. before k d less) (λ less. here))

  pub missing : (i : ℕ) → length list ≤ i → i ≤ length list → ((k : ℕ) (e : Proto) → k < i → same_protocol p (get_or list k e) ≡ false) → length list ≡ place_of list p
  missing i past within before = sym (position_or_len_is (same_protocol p) list (length list) no_proto (omega arith) (λ k less. before k no_proto (omega (arith, less, past))) (λ less. absurd (omega (arith, less))))

pub filled : (list prefix : List Proto) (room : List ℕ) (i place : ℕ) (d : Proto) → i < length prefix → length prefix ≤ length room → take i room ≡ places_of list (take i prefix) → place ≡ place_of list (get_or prefix i d) → take (i + 1) (set room i place) ≡ places_of list (take (i + 1) prefix)
filled list prefix room i place d low within so_far is =
    take_more_set room i place (omega (arith, low, within))
    ∙ ap₂ (λ front last. front ++ last ∷ []) so_far is
    ∙ sym (map-append (place_of list) (take i prefix) (get_or prefix i d ∷ []))
    ∙ sym (ap (map (place_of list)) (take_more prefix i d low))

pub too_long : (problem : Problem) (list prefix : List Proto) → IsWithinLimits problem → 2048 < length prefix → false ≡ is_valid problem (places_of list prefix)
too_long problem list prefix limits long =
    let places = places_of list prefix in
    let count = limits.count in
    let size = length-map prefix (place_of list) in
    let less : length problem.slots < length places = omega (arith, count, size, long) in
    sym (ap (λ b. b && list_all (use_joins problem places) problem.uses && list_all (output_joins problem places) problem.outputs && list_all (guard_told problem places) problem.guards && list_all (index_told problem places) problem.indexes)
    (too_many problem problem.slots places less))

pub valid_short : (problem : Problem) (list prefix : List Proto) → IsWithinLimits problem → IsTrue (is_valid problem (places_of list prefix)) → length prefix ≤ 2048
valid_short problem list prefix limits valid = elim (listed_or_not (length prefix) 2048) [
  | inl long ↦ absurd (true≢false (sym valid ∙ sym (too_long problem list prefix limits long)))
  | inr short ↦ short
]
