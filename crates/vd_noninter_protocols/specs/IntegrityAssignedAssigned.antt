-- Where words stand at a valid assignment of protocols.
use Rattle.std.specs.Prelude.{◌≡◌, ℕ, ◌^◌, ◌<◌, Bool, true, false, is_some, All, List, length}
use Rattle.vd_base.specs.declared.ids.HostId.{HostId}
use Rattle.vd_base.specs.declared.ids.SlotId.{SlotId}
use Rattle.vd_base.specs.declared.protocols.Proto.{Proto}
use Rattle.vd_base.specs.declared.protocols.Proto.TheVariants.{Local}
use Rattle.vd_base.specs.Moves.{move_at}
use Rattle.vd_base.specs.Holders.{proto_in}
use Rattle.vd_core.specs.declared.normal.NormalForm.{NormalForm}
use Rattle.vd_formula.specs.TruthTable.{at}
use Rattle.vd_constraints.specs.declared.labels.Labels.{Labels}
use Rattle.vd_constraints.specs.declared.system.Place.TheVariants.{Slot}
use Rattle.vd_constraints.specs.Rules.{host_label}
use Rattle.vd_constraints.specs.Satisfies.{label_at}
use Rattle.vd_space.specs.declared.problem.Guard.{Guard}
use Rattle.vd_space.specs.Reading.{problem_of}
use Rattle.vd_space.specs.declared.problem.Problem.{Problem}
use Rattle.vd_space.specs.Validity.{may_read}
use Rattle.vd_space.specs.Cheapest.{IsAssignment}
use Rattle.vd_noninter.specs.Trust.{against, trusts_host, trusts_slot}
use Rattle.vd_noninter_protocols.specs.Hearing.{takes_part}
use Rattle.vd_noninter_protocols.specs.Keeping.{is_kept, is_seen}

-- what stands where the slot does is kept by the hosts for which these principals cannot act
abbrev pub is_kept_from : NormalForm → List Proto → ℕ → ℕ → Bool
is_kept_from p protocols set x = is_kept (λ h. trusts_host p (against set) h.0) (length p.hosts) (proto_in protocols x)

-- it is seen by the hosts whose secrets these principals may read
abbrev pub is_seen_by : NormalForm → List Proto → ℕ → ℕ → Bool
is_seen_by p protocols set x = is_seen (λ h. at (host_label p h).conf set) (length p.hosts) (proto_in protocols x)

-- What principals cannot act for is kept from them, and what they may not read is not seen by them.
pub record IsGuarded (p : NormalForm) (l : Labels) (protocols : List Proto) (set x : ℕ) : Type 0 where
  pub kept : trusts_slot l (against set) x ≡ true → is_kept_from p protocols set x ≡ true
  pub unseen : at (label_at l (Slot (record { 0 = x }))).conf set ≡ false → is_seen_by p protocols set x ≡ false

-- at each valid assignment, of each slot, against each set of principals
abbrev pub WordsAreGuarded : NormalForm → Labels → Type 0
WordsAreGuarded p l =
    (protocols : List Proto) → IsAssignment (problem_of p l) protocols → (set : ℕ) → set < 2 ^ length p.principals → (x : SlotId) → x.0 < length p.slots → IsGuarded p l protocols set x.0

-- a host may read a slot, and the word can be moved to it
pub record CanBeTold (problem : Problem) (protocols : List Proto) (h : HostId) (x : SlotId) : Type 0 where
  pub may : may_read problem h x.0 ≡ true
  pub moves : is_some (move_at (proto_in protocols x.0) (Local h)) ≡ true

-- A guard for which principals cannot act is kept from them where it stands, and each host that takes part in the branches can be told it.
pub record IsToldInTrust (p : NormalForm) (l : Labels) (protocols : List Proto) (set : ℕ) (guard : Guard) : Type 0 where
  pub kept : trusts_slot l (against set) guard.slot.0 ≡ true → is_kept_from p protocols set guard.slot.0 ≡ true
  pub told : (h : HostId) → h.0 < length p.hosts → takes_part protocols h guard ≡ true → CanBeTold (problem_of p l) protocols h guard.slot

abbrev pub GuardsAreTold : NormalForm → Labels → Type 0
GuardsAreTold p l =
    (protocols : List Proto) → IsAssignment (problem_of p l) protocols → (set : ℕ) → set < 2 ^ length p.principals → All (IsToldInTrust p l protocols set) (problem_of p l).guards
