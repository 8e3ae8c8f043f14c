-- Problems whose labels can be compared.
use Rattle.std.specs.Prelude.{◌≡◌, ◌<◌, ◌≤◌, length, All}
use Rattle.std.specs.List.{AllByRecursion}
use Rattle.vd_base.specs.Limits.{most_hosts}
use Rattle.vd_protocol.specs.Authority.{AreOverSameNames, IsOver, names_of}
use Rattle.vd_space.specs.declared.problem.Making.{Making}
use Rattle.vd_core.specs.declared.normal.NormalForm.{NormalForm}
use Rattle.vd_constraints.specs.declared.labels.Labels.{Labels}
use Rattle.vd_constraints.specs.Systems.{IsLabelOver}
use Rattle.vd_space.specs.declared.problem.Output.{Output}
use Rattle.vd_space.specs.declared.problem.Guard.{Guard}
use Rattle.vd_space.specs.declared.problem.Problem.{Problem}
use Rattle.vd_space.specs.Spaces.{IsUse, IsIndex}

-- at least one host and not too many, and all labels over the same names
pub record IsLabelled (problem : Problem) : Type 0 where
  pub some_host : 0 < length problem.hosts
  pub few_hosts : length problem.hosts ≤ most_hosts
  pub hosts : AreOverSameNames problem.hosts
  pub slots : All (λ (making : Making). IsOver (names_of problem.hosts) making.label) problem.slots

-- the labelling has a label over the principals for each slot of the program
pub record HasLabels (p : NormalForm) (l : Labels) : Type 0 where
  pub slots : length l.slots ≡ length p.slots
  pub over : All (IsLabelOver (length p.principals)) l.slots

-- the slots that are named exist
pub record NamesOwnSlots (problem : Problem) : Type 0 where
  pub uses : AllByRecursion (IsUse (length problem.slots)) problem.uses
  pub outputs : AllByRecursion (λ (o : Output). o.slot.0 < length problem.slots) problem.outputs
  pub guards : AllByRecursion (λ (guard : Guard). guard.slot.0 < length problem.slots) problem.guards
  pub indexes : AllByRecursion (IsIndex (length problem.slots)) problem.indexes
