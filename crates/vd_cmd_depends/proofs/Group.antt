-- The hosts of several names, and the sets of hosts that are found for them.
use Rattle.std.proofs.Common.{◌≡◌, ℕ, ◌+◌, ◌<◌, ◌≤◌, Bool, ◌||◌, List, [], ◌∷◌, ◌++◌, length, map, drop, get_or, Option, Some, Result, Ok, Err, refl, sym, ap, subst, ◌∙◌, append-nil, append_assoc}
use Rattle.std.proofs.lemmas.List.{drop_all, drop_more}
use Rattle.vd_base.specs.HostSets.{has_host}
use Rattle.vd_base.specs.declared.ids.HostId.{HostId}
use Rattle.vd_base.specs.declared.protocols.HostSet.{HostSet}
use Rattle.vd_noninter.specs.Hosts.{members}
use Rattle.vd_report.specs.Hosts.{host_of}
use Rattle.vd_cmd_plan.specs.Plans.{Checks, IsRefusal}
use Rattle.vd_cmd_plan.specs.declared.status.Status.{Status}
use Rattle.vd_cmd_plan.specs.declared.status.Status.TheVariants.{Ended, Memory, Usage, ReadFault, WriteFault, NoAssignment, Host, ChildFault}
use Rattle.vd_cmd_depends.specs.Depending.{as_host, as_hosts, host_before, in_some}
use Rattle.vd_cmd_depends.specs.Telling.{EachOne}
use Rattle.vd_cmd_depends.proofs.Naming.{named, within}

-- ---- names

abbrev Group : Type 0
Group = Result (List HostId) Status

-- hosts before those of a group
abbrev pub behind : List HostId → Group → Group
behind group (Ok more) = Ok (group ++ more)
behind group (Err status) = Err status

pub none_behind : (group : List HostId) → behind group (Ok []) ≡ Ok group
none_behind group = ap (λ (hs : List HostId). Ok hs) (append-nil group)

one_behind : (group : List HostId) (h : HostId) (rest : Group) → behind group (host_before (Ok h) rest) ≡ behind (group ++ h ∷ []) rest
one_behind group h (Ok more) = ap (λ (hs : List HostId). Ok hs) (sym (append_assoc group (h ∷ []) more))
one_behind group h (Err status) = refl

refused : (f : Result HostId Status → Group) → ((status : Status) → f (Err status) ≡ Err status) → (wanted : Result HostId Status) (status : Status) → IsRefusal wanted status → IsRefusal (f wanted) status
refused f stays wanted Ended is = absurd is
refused f stays wanted (NoAssignment labelled) is = absurd is
refused f stays wanted Memory is = tt
refused f stays wanted Usage is = absurd is
refused f stays wanted (ReadFault name) is = absurd is
refused f stays wanted WriteFault is = absurd is
refused f stays wanted (Host cause) is = (is.0, ap f is.1 ∙ stays (Host cause))
refused f stays wanted (ChildFault hosts fault) is = absurd is
refused f stays wanted status is = ap f is ∙ stays status

module _ (hosts names : List (List ℕ)) where
  -- these are the hosts of the first names
  abbrev pub Begun : ℕ → List HostId → Type 0
  Begun place group = as_hosts hosts names ≡ behind group (as_hosts hosts (drop place names))

  pub begun : Begun 0 []
  begun = at (as_hosts hosts names) ∙ ap (λ (all : List (List ℕ)). behind [] (as_hosts hosts all)) (sym (none_dropped names))
    where
      at : (whole : Group) → whole ≡ behind [] whole
      at (Ok group) = refl
      at (Err status) = refl

      none_dropped : (xs : List (List ℕ)) → drop 0 xs ≡ xs
      none_dropped [] = refl
      none_dropped (x ∷ xs) = refl

  -- the name at a place, whatever stands past the end
  abbrev IsAt : List ℕ → ℕ → List ℕ → Type 0
  IsAt name place past = name ≡ get_or names place past

  next : (place : ℕ) (name past : List ℕ) → IsAt name place past → place < length names
      → as_hosts hosts (drop place names) ≡ host_before (as_host hosts name) (as_hosts hosts (drop (place + 1) names))
  unfolding as_hosts
  next place name past is low =
      ap (as_hosts hosts) (drop_more names place past low) ∙ ap (λ (n : List ℕ). host_before (as_host hosts n) (as_hosts hosts (drop (place + 1) names))) (sym is)

  pub one_more : (place : ℕ) (name past : List ℕ) → IsAt name place past → place < length names → (group : List HostId) (h : HostId) → Begun place group → Checks (as_host hosts name) (Ok h)
      → Begun (place + 1) (group ++ h ∷ [])
  one_more place name past is low group h so_far checks =
      let rest = as_hosts hosts (drop (place + 1) names) in
      so_far ∙ ap (behind group) (next place name past is low ∙ ap (λ (first : Result HostId Status). host_before first rest) checks.ok) ∙ one_behind group h rest

  pub one_refused : (place : ℕ) (name past : List ℕ) → IsAt name place past → place < length names → (group : List HostId) (status : Status) → Begun place group
      → Checks {T = HostId} (as_host hosts name) (Err status) → Checks {T = List HostId} (as_hosts hosts names) (Err status)
  one_refused place name past is low group status so_far checks =
      let rest = as_hosts hosts (drop (place + 1) names) in
      record {
        ok = tt;
        err = subst (λ (whole : Group). IsRefusal whole status) (sym (so_far ∙ ap (behind group) (next place name past is low)))
            (refused (λ first. behind group (host_before first rest)) (λ s. refl) (as_host hosts name) status checks.err);
      }

  ended : (place : ℕ) → length names ≤ place → as_hosts hosts (drop place names) ≡ Ok []
  unfolding as_hosts
  ended place over = ap (as_hosts hosts) (drop_all place names over)

  pub all_named : (place : ℕ) (group : List HostId) → length names ≤ place → Begun place group → Checks (as_hosts hosts names) (Ok group)
  all_named place group over so_far = record { ok = so_far ∙ ap (behind group) (ended place over) ∙ none_behind group; err = tt }

-- each of the hosts has its name
abbrev pub AreNamed : (hosts names : List (List ℕ)) → List HostId → Type 0
AreNamed hosts [] [] = Unit {0}
AreNamed hosts (name ∷ names) (h ∷ group) = (host_of hosts name ≡ Some h.0) × AreNamed hosts names group
AreNamed hosts [] (h ∷ group) = ⊥
AreNamed hosts (name ∷ names) [] = ⊥

are_named : (hosts names : List (List ℕ)) (group : List HostId) → as_hosts hosts names ≡ Ok group → AreNamed hosts names group
unfolding as_hosts
are_named hosts [] [] is = tt
are_named hosts [] (h ∷ group) is = absurd (cc is)
are_named hosts (name ∷ names) group is = at (are_named hosts names) (as_host hosts name) refl (as_hosts hosts names) refl group is
  where
    at : ((some : List HostId) → as_hosts hosts names ≡ Ok some → AreNamed hosts names some) → (first : Result HostId Status) → as_host hosts name ≡ first → (rest : Group) → as_hosts hosts names ≡ rest → (group : List HostId) → host_before first rest ≡ Ok group → AreNamed hosts (name ∷ names) group
    at more (Err status) e rest f group is = absurd (cc is)
    at more (Ok h) e (Err status) f group is = absurd (cc is)
    at more (Ok h) e (Ok others) f [] is = absurd (cc is)
    at more (Ok h) e (Ok others) f (k ∷ group) is =
        let both : h ∷ others ≡ k ∷ group = cc is in
        let first : h ≡ k = cc both in
        let rest : others ≡ group = cc both in
        (named hosts name k (e ∙ ap (λ (x : HostId). Ok x) first), more group (f ∙ ap (λ (hs : List HostId). Ok hs) rest))

pub group_named : (hosts names : List (List ℕ)) (group : List HostId) → AreNamed hosts names group → map (host_of hosts) names ≡ map (λ h. Some h.0) group
group_named hosts [] [] are = refl
group_named hosts (name ∷ names) (h ∷ group) are =
    ap (λ (place : Option ℕ). place ∷ map (host_of hosts) names) are.0 ∙ ap (λ (places : List (Option ℕ)). Some h.0 ∷ places) (group_named hosts names group are.1)
group_named hosts [] (h ∷ group) are = absurd are
group_named hosts (name ∷ names) [] are = absurd are

pub found_named : (hosts names : List (List ℕ)) (group : List HostId) → Checks (as_hosts hosts names) (Ok group) → AreNamed hosts names group
found_named hosts names group checks = are_named hosts names group checks.ok

-- ---- sets

pub each_more : (P : HostId → HostSet → Type 0) (group : List HostId) (sets : List HostSet) (h : HostId) (set : HostSet) → EachOne P group sets → P h set → EachOne P (group ++ h ∷ []) (sets ++ set ∷ [])
each_more P [] [] h set each one = (one, tt)
each_more P (k ∷ group) (other ∷ sets) h set each one = (each.0, each_more P group sets h set each.1 one)
each_more P [] (other ∷ sets) h set each one = absurd each
each_more P (k ∷ group) [] h set each one = absurd each

-- with what is known of each host that has a name
pub each_named : (P Q : HostId → HostSet → Type 0) (hosts names : List (List ℕ)) (group : List HostId) (sets : List HostSet) → AreNamed hosts names group
    → ((h : HostId) (set : HostSet) → h.0 < length hosts → P h set → Q h set) → EachOne P group sets → EachOne Q group sets
each_named P Q hosts [] [] [] are on each = tt
each_named P Q hosts (name ∷ names) (h ∷ group) (set ∷ sets) are on each =
    (on h set (within hosts name h.0 (sym are.0)) each.0, each_named P Q hosts names group sets are.1 on each.1)
each_named P Q hosts [] [] (set ∷ sets) are on each = absurd each
each_named P Q hosts (name ∷ names) (h ∷ group) [] are on each = absurd each
each_named P Q hosts [] (h ∷ group) sets are on each = absurd are
each_named P Q hosts (name ∷ names) [] sets are on each = absurd are

-- sets with the same members are told alike
pub same_some : (f : HostId → HostSet) (P : HostId → HostSet → Type 0) → ((h : HostId) (set : HostSet) → P h set → (k : ℕ) → members set k ≡ members (f h) k)
    → (group : List HostId) (sets : List HostSet) → EachOne P group sets → (k : HostId) → in_some sets k ≡ in_some (map f group) k
same_some f P same [] [] each k = refl
same_some f P same (h ∷ group) (set ∷ sets) each k =
    ap (λ (b : Bool). b || in_some sets k) (same h set each.0 k.0) ∙ ap (λ (b : Bool). has_host (f h) k || b) (same_some f P same group sets each.1 k)
same_some f P same [] (set ∷ sets) each k = absurd each
same_some f P same (h ∷ group) [] each k = absurd each
