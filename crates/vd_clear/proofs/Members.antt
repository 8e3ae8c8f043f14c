-- Parts at the hosts of a set are few.
use Rattle.std.proofs.Common.{◌≡◌, suc, ◌≤◌, List, [], ◌∷◌, length, refl, sym, ap, subst, ◌∙◌}
use Rattle.vd_base.specs.declared.ids.HostId.{HostId}
use Rattle.vd_base.specs.declared.protocols.HostSet.{HostSet}
use Rattle.vd_base.specs.HostSets.{members}
use Rattle.vd_base.proofs.Front.{few_members}
use Rattle.vd_duet.specs.declared.parts.Part.{Part}
use Rattle.vd_duet.specs.Calls.{Places, in_clear, hosts_of}

pub length_hosts : (x : Places) → length (hosts_of x) ≡ length x
length_hosts [] = refl
length_hosts (q ∷ x) = ap suc (length_hosts x)

pub few_places : (x : Places) (set : HostSet) → hosts_of x ≡ members 8 set → length x ≤ 8
few_places x set e = subst (λ n. n ≤ 8) (sym (ap (λ (l : List HostId). length l) e) ∙ length_hosts x) (few_members set)

length_clear : (xs : List (HostId × Part)) → length (in_clear xs) ≡ length xs
length_clear [] = refl
length_clear (x ∷ xs) = ap suc (length_clear xs)

pub few_parts : (xs : List (HostId × Part)) (set : HostSet) → hosts_of (in_clear xs) ≡ members 8 set → length xs ≤ 8
few_parts xs set e = subst (λ n. n ≤ 8) (length_clear xs) (few_places (in_clear xs) set e)
