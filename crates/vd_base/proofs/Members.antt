-- The hosts of a set, one after another.
use Rattle.std.proofs.Common.{◌≡◌, ℕ, suc, ◌+◌, ◌≤◌, Bool, true, false, cond, List, [], ◌∷◌, ◌++◌, length, sym, ap, subst, ◌∙◌, arith, append-nil}
use Rattle.std.specs.Prelude.{filter}
use Rattle.std.proofs.lemmas.List.FromFn.{filter_of_map_range_with_len_more}
use Rattle.vd_base.specs.declared.ids.HostId.{HostId}
use Rattle.vd_base.specs.declared.protocols.HostSet.{HostSet}
use Rattle.vd_base.specs.HostSets.{host, hosts, has_host, members}

members_more : (p : HostId → Bool) (n : ℕ) → filter p (hosts (n + 1)) ≡ filter p (hosts n) ++ cond (p (host n)) (host n ∷ []) []
members_more p n = filter_of_map_range_with_len_more p host 0 n n (omega arith)

pub member_taken : (p : HostId → Bool) (n : ℕ) (xs : List HostId) → xs ≡ filter p (hosts n) → p (host n) ≡ true → xs ++ host n ∷ [] ≡ filter p (hosts (n + 1))
member_taken p n xs is yes_passes =
    ap (λ (l : List HostId). l ++ host n ∷ []) is ∙ ap (λ (b : Bool). filter p (hosts n) ++ cond b (host n ∷ []) []) (sym yes_passes) ∙ sym (members_more p n)

pub member_left : (p : HostId → Bool) (n : ℕ) (xs : List HostId) → xs ≡ filter p (hosts n) → p (host n) ≡ false → xs ≡ filter p (hosts (n + 1))
member_left p n xs is fails =
    is ∙ sym (append-nil (filter p (hosts n))) ∙ ap (λ (b : Bool). filter p (hosts n) ++ cond b (host n ∷ []) []) (sym fails) ∙ sym (members_more p n)

shorter : (p : HostId → Bool) (xs : List HostId) → length (filter p xs) ≤ length xs
shorter p [] = omega arith
shorter p (x ∷ xs) = at (p x) (shorter p xs)
  where
    at : (b : Bool) → length (filter p xs) ≤ length xs → length (cond b (x ∷ filter p xs) (filter p xs)) ≤ suc (length xs)
    at true e = omega (arith, e)
    at false e = omega (arith, e)

pub few_members : (set : HostSet) → length (members 8 set) ≤ 8
few_members set = shorter (has_host set) (hosts 8)

pub few_hosts : (set : HostSet) (hs : List HostId) → hs ≡ members 8 set → length hs ≤ 8
few_hosts set hs e = subst (λ (l : List HostId). length l ≤ 8) (sym e) (few_members set)
