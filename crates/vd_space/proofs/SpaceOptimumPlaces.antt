-- The protocols of slots, by their places in the list of all.
use Rattle.std.proofs.Common.{◌≡◌, ℕ, zero, suc, List, [], ◌∷◌, length, map, slice_index, slice_index_or, refl, ap, ◌∙◌}
use mathlib.Core.Path.{fun_ext}
use Rattle.vd_base.specs.declared.protocols.Proto.{Proto}
use Rattle.vd_base.specs.declared.protocols.Proto.TheVariants.{Local}
use Rattle.vd_base.specs.HostSets.{host}
use Rattle.vd_base.specs.Protocols.{protocols_of}
use Rattle.vd_base.specs.Holders.{proto_in}
use Rattle.vd_space.specs.declared.problem.Problem.{Problem}
use Rattle.vd_space.specs.Validity.{protocol}

first_proto : (n : ℕ) → Local (host 0) ≡ slice_index_or (protocols_of n) 0 (Local (host 0))
unfolding lib.Count.ones
first_proto zero = refl
first_proto (suc n) = refl

placed_at : (problem : Problem) (places : List ℕ) (x : ℕ) → proto_in (map (protocol problem) places) x ≡ protocol problem (slice_index places x)
placed_at problem [] x = first_proto (length problem.hosts)
placed_at problem (p ∷ places) zero = refl
placed_at problem (p ∷ places) (suc x) = placed_at problem places x

-- each slot has the protocol at its place
pub proto_is : (problem : Problem) (protocols : List Proto) (places : List ℕ) → protocols ≡ map (protocol problem) places → (x : ℕ) → proto_in protocols x ≡ protocol problem (slice_index places x)
proto_is problem protocols places named x = ap (λ (ps : List Proto). proto_in ps x) named ∙ placed_at problem places x

pub protos_are : (problem : Problem) (protocols : List Proto) (places : List ℕ) → protocols ≡ map (protocol problem) places → proto_in protocols ≡ (λ (x : ℕ). protocol problem (slice_index places x))
protos_are problem protocols places named = fun_ext (λ x. proto_is problem protocols places named x)
