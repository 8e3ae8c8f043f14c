-- What stands where, by the places of the protocols in the list of all.
use Rattle.std.proofs.Common.{◌≡◌, ℕ, zero, suc, Bool, false, ◌||◌, List, [], ◌∷◌, ◌++◌, map, slice_get, refl, ap, ap₂, ◌∙◌}
use Rattle.std.specs.List.{list_any}
use Rattle.std.specs.Option.{option_map_or}
use Rattle.vd_base.specs.declared.ids.HostId.{HostId}
use Rattle.vd_base.specs.declared.ids.SlotId.{SlotId}
use Rattle.vd_base.specs.declared.protocols.Proto.{Proto}
use Rattle.vd_base.specs.HostSets.{same_host}
use Rattle.vd_base.specs.Holders.{is_holder}
use Rattle.vd_space.specs.declared.problem.Problem.{Problem}
use Rattle.vd_space.specs.declared.problem.Guard.{Guard}
use Rattle.vd_space.specs.Reading.{guard_of}
use Rattle.vd_space.specs.Validity.{protocol, holds_at, takes_part}
use Rattle.vd_noninter_protocols.specs.Hearing.{Heard, read_of, stands, is_part, takes_part as takes_part_at}

mapped : (f : ℕ → Proto) (test : Proto → Bool) (xs : List ℕ) (k : ℕ) → option_map_or test (slice_get (map f xs) k) false ≡ option_map_or (λ q. test (f q)) (slice_get xs k) false
mapped f test [] k = refl
mapped f test (x ∷ xs) zero = refl
mapped f test (x ∷ xs) (suc k) = mapped f test xs k

module _ (problem : Problem) (list : List ℕ) (protocols : List Proto) (placed : protocols ≡ map (protocol problem) list) (h : HostId) where
  pub stands_is : (test : Proto → Bool) (x : SlotId) → stands protocols h test x ≡ option_map_or (λ q. test (protocol problem q)) (slice_get list x.0) false
  stands_is test x = ap (λ (ps : List Proto). option_map_or test (slice_get ps x.0) false) placed ∙ mapped (protocol problem) test list x.0

  any_kept : (xs : List SlotId) → list_any (stands protocols h (λ p. is_holder p h)) xs ≡ list_any (λ slot. option_map_or (holds_at problem h) (slice_get list slot.0) false) xs
  any_kept [] = refl
  any_kept (x ∷ xs) = ap₂ (λ (a b : Bool). a || b) (stands_is (λ p. is_holder p h) x) (any_kept xs)

  pub takes_is : (guard : Guard) → takes_part_at protocols h guard ≡ takes_part problem list guard h
  takes_is guard = ap (λ (z : Bool). list_any (same_host h) guard.hosts || z) (any_kept guard.slots)

  pub part_is : (g : SlotId) (a b : List Heard) (weight : ℕ) → is_part protocols h g a b ≡ takes_part problem list (guard_of g weight (map read_of a ++ map read_of b)) h
  part_is g a b weight = takes_is (guard_of g weight (map read_of a ++ map read_of b))
