-- The bound of a prefix, as a natural number: the least of each term over what its slots may stand at.
use Rattle.std.specs.Prelude.{ℕ, ◌+◌, if◌then◌else◌, Option, unwrap_or, option_and_then, List, length, slice_get}
use Rattle.vd_base.specs.declared.ids.HostId.{HostId}
use Rattle.vd_base.specs.Costs.{cost_at}
use Rattle.vd_base.specs.Moves.{move_at}
use Rattle.vd_base.specs.declared.protocols.Proto.{Proto}
use Rattle.vd_base.specs.declared.protocols.Proto.TheVariants.{Local}
use Rattle.vd_base.specs.Holders.{is_holder, proto_in}
use Rattle.vd_space.specs.declared.problem.Problem.{Problem}
use Rattle.vd_space.specs.declared.problem.Use.{Use}
use Rattle.vd_space.specs.declared.problem.Output.{Output}
use Rattle.vd_space.specs.declared.problem.Guard.{Guard}
use Rattle.vd_space.specs.declared.problem.Index.{Index}
use Rattle.vd_space.specs.Validity.{protocols, protocol, move, move_to_host, all_hosts, takes_part}
use Rattle.vd_space.specs.Costs.{moves_to, hosts_at, plus, slots_of}
use Rattle.vd_space.specs.Bounds.{may_stand}
use Rattle.vd_space.specs.Sizes.{heft}
use Rattle.vd_space_api.specs.Rows.{if_passes, weighed, least_number}

abbrev pub least_place : Problem → List ℕ → ℕ → (ℕ → Option ℕ) → Option ℕ
least_place problem prefix slot value = least_number (length (protocols problem)) (λ p. if_passes (may_stand problem prefix slot p) (value p))

-- a term with nothing left
abbrev pub number_left : Option ℕ → ℕ
number_left least = unwrap_or least 1000000000

-- ---- terms

abbrev pub operation_number : Problem → ℕ → ℕ → Option ℕ
operation_number problem slot p = option_and_then (λ making. weighed making.weight (cost_at making.row (protocol problem p))) (slice_get problem.slots slot)

abbrev pub told_number : Problem → ℕ → HostId → ℕ → Option ℕ
told_number problem weight h p = weighed weight (move_to_host problem h p)

abbrev pub use_number : Problem → Use → ℕ → ℕ → Option ℕ
use_number problem u p q = weighed u.weight (move problem p q)

abbrev pub index_number : Problem → Index → ℕ → ℕ → Option ℕ
index_number problem i p q = weighed i.weight (moves_to problem q (hosts_at problem p))

-- a price, with what it costs to tell a host of an array an index besides
abbrev pub with_price : List Proto → ℕ → ℕ → HostId → Option ℕ → Option ℕ
with_price list array index h sum = if is_holder (proto_in list array) h then plus (move_at (proto_in list index) (Local h)) sum else sum

-- ---- the least of each

abbrev pub least_operation : Problem → List ℕ → ℕ → ℕ
least_operation problem prefix slot = number_left (least_place problem prefix slot (operation_number problem slot))

abbrev pub least_told : Problem → List ℕ → ℕ → ℕ → HostId → ℕ
least_told problem prefix slot weight h = number_left (least_place problem prefix slot (told_number problem weight h))

abbrev pub least_output : Problem → List ℕ → Output → ℕ
least_output problem prefix o = least_told problem prefix o.slot.0 o.weight o.host

abbrev pub least_use : Problem → List ℕ → Use → ℕ
least_use problem prefix u = number_left (least_place problem prefix u.source.0 (λ p. least_place problem prefix u.target.0 (use_number problem u p)))

abbrev pub least_index : Problem → List ℕ → Index → ℕ
least_index problem prefix i = number_left (least_place problem prefix i.array.0 (λ p. least_place problem prefix i.index.0 (index_number problem i p)))

abbrev pub guard_number : Problem → List ℕ → Guard → HostId → ℕ
guard_number problem prefix guard h = if takes_part problem prefix guard h then least_told problem prefix guard.slot.0 guard.weight h else 0

abbrev pub least_guard : Problem → List ℕ → Guard → ℕ
least_guard problem prefix guard = heft (guard_number problem prefix guard) (all_hosts problem)

abbrev pub low_number : Problem → List ℕ → ℕ
low_number problem prefix =
    heft (least_operation problem prefix) (slots_of problem) + heft (least_output problem prefix) problem.outputs
    + heft (least_use problem prefix) problem.uses + heft (least_index problem prefix) problem.indexes + heft (least_guard problem prefix) problem.guards
