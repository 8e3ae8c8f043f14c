-- The lines of `depends` and `influences`, as a person reads them.
use Rattle.std.specs.Prelude.{◌≡◌, ℕ, ◌<◌, ◌^◌, true, ◌&&◌, not, List, [], ◌∷◌, ◌++◌, filter, flat_map, length, map, slice_index_or, decimal}
use Rattle.std.specs.List.{list_all, list_any}
use Rattle.vd_base.specs.HostSets.{hosts}
use Rattle.vd_base.specs.Lexical.{is_name}
use Rattle.vd_base.specs.declared.ids.HostId.{HostId}
use Rattle.vd_base.specs.declared.protocols.HostSet.{HostSet}
use Rattle.vd_noninter.specs.Hosts.{members as is_member}
use Rattle.vd_report.specs.LineWords.{line_words}
use Rattle.vd_cmd_depends.specs.Depending.{hosts_line}
use Rattle.vd_cmd_depends.specs.Influencing.{influence_line}

abbrev pub named : List (List ℕ) → HostId → List ℕ
named names h = slice_index_or names h.0 []

-- how many hosts, and their names
abbrev pub counted : List (List ℕ) → List HostId → List (List ℕ)
counted names list = decimal (length list) ∷ map (named names) list

-- those that some of these sets has
abbrev pub in_any : ℕ → List HostSet → List HostId
in_any n sets = filter (λ h. list_any (λ set. is_member set h.0) sets) (hosts n)

-- those whose inputs bear
abbrev pub bearing : ℕ → HostSet → List HostId
bearing n all = filter (λ h. is_member all h.0) (hosts n)

-- those whose inputs bear through endorsements, and do not without
abbrev pub endorsed_only : ℕ → HostSet → HostSet → List HostId
endorsed_only n all direct = filter (λ h. is_member all h.0 && not (is_member direct h.0)) (hosts n)

-- each host of the program has a name
abbrev pub AreNamed : List (List ℕ) → HostId → Type 0
AreNamed names h = (length names < 2 ^ 32) × ((list_all is_name names ≡ true) × (h.0 < length names))

-- so has each of these
abbrev pub AllAreNamed : List (List ℕ) → List HostId → Type 0
AllAreNamed names [] = Unit {0}
AllAreNamed names (h ∷ group) = AreNamed names h × AllAreNamed names group

-- The words of each line: hosts in one word, those on which some of them depends; or the host, those that bear on what it is told, and
-- those that do so through endorsements alone.
pub record LinesNameHosts (names : List (List ℕ)) (h : HostId) : Type 0 where
  pub depends : (others : List HostId) (sets : List HostSet) → AllAreNamed names others
      → line_words (hosts_line names (h ∷ others) sets) ≡ (named names h ++ flat_map (λ k. 0x2c ∷ named names k) others) ∷ counted names (in_any (length names) sets)
  pub influences : (all direct : HostSet)
      → line_words (influence_line names h all direct)
      ≡ named names h ∷ counted names (bearing (length names) all) ++ counted names (endorsed_only (length names) all direct)

abbrev pub LinesAreRead : Type 0
LinesAreRead = (names : List (List ℕ)) (h : HostId) → AreNamed names h → LinesNameHosts names h
