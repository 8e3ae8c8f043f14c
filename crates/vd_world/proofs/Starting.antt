-- The hosts before their first step.
use Rattle.std.proofs.Common.{◌≡◌, ℕ, zero, suc, ◌<◌, ◌≤◌, List, [], ◌∷◌, length, map, replicate, refl, sym, ap, ◌∙◌, subst, arith, ◌⊎◌, inl, inr, get_or}
use Rattle.std.specs.Prelude.{All, Some, None, Option, slice_get, slice_index, slice_index_or}
use Rattle.std.proofs.lemmas.Option.{slice_get_past}
use mathlib.Core.Path.{fun_ext}
use Rattle.vd_execution.specs.Joint.{Joint, code_of, started}
use Rattle.vd_machine.specs.Kept.{Kept, state_of, at_start}
use Rattle.vd_world.specs.Hosts.{HostKept, host_at_start, hosts_at_start, AreOf, AreMachines, local_of, local_or_nobody, world_of, AreLoaded}

each_of : (n : ℕ) (machines : List Kept) → All (λ m. m.lists.deal.hosts ≡ n) machines → AreOf n (map host_at_start machines)
each_of n [] all = λ k d h. absurd (omega (arith, h))
each_of n (m ∷ machines) all = at (each_of n machines (λ k d h. all (suc k) d (omega (arith, h)))) (all 0 m (omega arith))
  where
    at : AreOf n (map host_at_start machines) → m.lists.deal.hosts ≡ n → (k : ℕ) (d : HostKept) → k < length (map host_at_start (m ∷ machines)) → (get_or (map host_at_start (m ∷ machines)) k d).machine.lists.deal.hosts ≡ n
    at rest one zero d h = one
    at rest one (suc k) d h = rest k d (omega (arith, h))

length_of : (machines : List Kept) → length (map host_at_start machines) ≡ length machines
length_of [] = refl
length_of (m ∷ machines) = ap suc (length_of machines)

pub of_machines : (machines : List Kept) (hosts : List HostKept) → hosts ≡ hosts_at_start machines → AreMachines machines → AreOf (length hosts) hosts
of_machines machines hosts e all =
    let n : length machines ≡ length hosts = sym (ap length e ∙ length_of machines) in
    subst (λ l. AreOf (length hosts) l) (sym e) (subst (λ k. AreOf k (map host_at_start machines)) n (each_of (length machines) machines all))

-- ---- the world before the first step

no_links : (n p : ℕ) → slice_index_or (replicate n (let l : List (List ℕ) = [] in l)) p [] ≡ []
no_links zero p = refl
no_links (suc n) zero = refl
no_links (suc n) (suc p) = no_links n p

none_taken : (n p : ℕ) → slice_index (replicate n 0) p ≡ 0
none_taken zero p = refl
none_taken (suc n) zero = refl
none_taken (suc n) (suc p) = none_taken n p

get_started : (machines : List Kept) (h : ℕ) (m : Kept) → slice_get machines h ≡ Some m → slice_get (map host_at_start machines) h ≡ Some (host_at_start m)
get_started [] h m e = cc
get_started (x ∷ machines) zero m e = ap (λ o. started_of o) e
  where
    started_of : Option Kept → Option HostKept
    started_of None = None
    started_of (Some k) = Some (host_at_start k)
get_started (x ∷ machines) (suc h) m e = get_started machines h m e

get_past : (machines : List Kept) (h : ℕ) → length machines ≤ h → slice_get (map host_at_start machines) h ≡ None
get_past machines h past = let e = length_of machines in slice_get_past (map host_at_start machines) h (omega (arith, past, e))

at_first : (m : Kept) (j : Joint) (h : ℕ) → state_of m ≡ at_start (code_of h j) → local_of (host_at_start m) ≡ started j h
at_first m j h e =
    let f = fun_ext (no_links m.lists.deal.hosts) in
    let g = fun_ext (none_taken m.lists.deal.hosts) in
    λ i. record { state = e i; printed = []; sent = f i; taken = g i }

less_or_not : (m n : ℕ) → (m < n) ⊎ (n ≤ m)
less_or_not m n = grind arith

some_machine : (machines : List Kept) (h : ℕ) → h < length machines → (m : Kept) × (slice_get machines h ≡ Some m)
some_machine [] h less = absurd (omega (arith, less))
some_machine (m ∷ machines) zero less = (m, refl)
some_machine (m ∷ machines) (suc h) less = some_machine machines h (omega (arith, less))

pub starts_as : (machines : List Kept) (j : Joint) → AreLoaded machines j → world_of (hosts_at_start machines) ≡ started j
starts_as machines j loaded = fun_ext at
  where
    at : (h : ℕ) → world_of (hosts_at_start machines) h ≡ started j h
    at h =
        elim (less_or_not h (length machines)) [
          | inl less ↦
              let m = some_machine machines h less in
              ap local_or_nobody (get_started machines h m.0 m.1) ∙ at_first m.0 j h (loaded.codes h m.0 m.1)
          | inr past ↦
              let e = loaded.past h past in
              ap local_or_nobody (get_past machines h past)
              ∙ (λ i. record { state = record { pending = sym e i; registers = λ r. 0; cursors = λ s. 0 }; printed = []; sent = λ p. []; taken = λ p. 0 })
        ]
