-- The host of a name.
use Rattle.std.proofs.Common.{◌≡◌, ◌<◌, ℕ, List, [], length, Option, Some, None, Result, Ok, Err, sym, ap, ◌∙◌}
use Rattle.std.specs.Option.{option_map_or}
use Rattle.std.specs.Str.{bytes_eq}
use Rattle.std.proofs.lemmas.List.Quantifiers.{position-Some}
use Rattle.vd_base.specs.HostSets.{host}
use Rattle.vd_base.specs.declared.ids.HostId.{HostId}
use Rattle.vd_report.specs.Hosts.{host_of}
use Rattle.vd_cmd_plan.specs.declared.status.Status.{Status}
use Rattle.vd_cmd_plan.specs.declared.status.Status.TheVariants.{NoHost}
use Rattle.vd_cmd_depends.specs.Depending.{as_host}

abbrev of_place : List ℕ → Option ℕ → Result HostId Status
of_place name found = option_map_or (λ place. Ok (host place)) found (Err (NoHost name))

pub found : (hosts : List (List ℕ)) (name seen : List ℕ) (place : ℕ) → seen ≡ name → Some place ≡ host_of hosts seen → as_host hosts name ≡ Ok (host place)
found hosts name seen place same is = ap (of_place name) (ap (host_of hosts) (sym same) ∙ sym is)

pub within : (hosts : List (List ℕ)) (name : List ℕ) (place : ℕ) → Some place ≡ host_of hosts name → place < length hosts
within hosts name place is = (position-Some (λ h. bytes_eq h name) hosts place [] (sym is)).0

pub missing : (hosts : List (List ℕ)) (name seen copy : List ℕ) → seen ≡ name → copy ≡ name → None ≡ host_of hosts seen → as_host hosts name ≡ Err (NoHost copy)
missing hosts name seen copy same copied is = ap (of_place name) (ap (host_of hosts) (sym same) ∙ sym is) ∙ ap (λ (n : List ℕ). Err (NoHost n)) (sym copied)

named_by : (name : List ℕ) (place : Option ℕ) (h : HostId) → of_place name place ≡ Ok h → place ≡ Some h.0
named_by name (Some place) h is = let e : host place ≡ h = cc is in ap (λ (x : HostId). Some x.0) e
named_by name None h is = absurd (cc is)

pub named : (hosts : List (List ℕ)) (name : List ℕ) (h : HostId) → as_host hosts name ≡ Ok h → host_of hosts name ≡ Some h.0
named hosts name h is = named_by name (host_of hosts name) h is
