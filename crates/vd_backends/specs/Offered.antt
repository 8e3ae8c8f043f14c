-- What all protocols offer to the splitter, and for which programs this suffices.
use Rattle.std.specs.Prelude.{ℕ, nat_lt, Bool, ◌&&◌, IsTrue, List, [], ◌∷◌, length}
use Rattle.std.specs.List.{list_all}
use Rattle.vd_base.specs.declared.ids.HostId.{HostId}
use Rattle.vd_base.specs.declared.protocols.Proto.{Proto}
use Rattle.vd_base.specs.Holders.{holders, proto_in}
use Rattle.vd_core.specs.declared.normal.NormalForm.{NormalForm}
use Rattle.vd_core.specs.Facts.{all_meet, IsWellMade}
use Rattle.vd_execution.specs.World.{Tape}
use Rattle.vd_duet.specs.Laws.{IsHost}
use Rattle.vd_split.specs.Outcome.{ValidAt}
use Rattle.vd_split.specs.Offer.{Offer, AreServed, stmt_stands}
use Rattle.vd_backend_laws.specs.Machine.{machine}
use Rattle.vd_backend_laws.specs.Parts.{Parts, back_end, suite_calls}
use Rattle.vd_backend_laws.specs.Suite.{is_in_order, IsOver, suite}
use Rattle.vd_backends.specs.Formed.{hosts_at}

-- a protocol over the first hosts, in order
abbrev pub is_offered : ℕ → Proto → Bool
is_offered hosts p = is_in_order p && list_all (λ h. nat_lt h.0 hosts) (holders p)

abbrev pub offer_of : ℕ → Offer Parts
offer_of hosts = record {
  calls = suite_calls hosts;
  hosts_at = λ p x. hosts_at p x.at;
  has = is_offered hosts;
  serves = λ op p. (back_end p).serves op;
}

-- no host twice
abbrev pub AreApart : List HostId → Type 0
AreApart [] = Unit {0}
AreApart (h ∷ hs) = (IsHost hs h.0 → ⊥) × AreApart hs

-- a well-made program, and protocols over its hosts at which it is valid
pub record CanBeSplit (program : NormalForm) (protos : List Proto) : Type 0 where
  pub made : IsWellMade program
  pub over : (x : ℕ) → IsOver (length program.hosts) (proto_in protos x)
  pub tape : Tape
  pub inputs : ℕ → List ℕ
  pub valid : ValidAt (machine tape inputs) (suite tape inputs (length program.hosts)) (proto_in protos) program

-- the splitter can be asked for it
pub record IsServed (program : NormalForm) (protos : List Proto) : Type 0 where
  pub slots : AreServed (offer_of (length program.hosts)) protos
  pub stands : IsTrue (all_meet (stmt_stands (offer_of (length program.hosts)) protos) program.body)

abbrev pub ProgramsCanBeSplit : Type 0
ProgramsCanBeSplit = (program : NormalForm) (protos : List Proto) → CanBeSplit program protos → IsServed program protos
