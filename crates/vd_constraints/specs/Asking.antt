-- What an origin asks for.
use Rattle.std.specs.Prelude.{◌≡◌, ℕ, ⊤, Some, List, [], ◌∷◌}
use Rattle.vd_base.specs.declared.ids.SlotId.{SlotId}
use Rattle.vd_core.specs.declared.normal.NormalForm.{NormalForm}
use Rattle.vd_formula.specs.TruthTable.{TruthTable}
use Rattle.vd_formula.specs.declared.label.Label.{Label}
use Rattle.vd_constraints.specs.declared.origin.Origin.{Origin}
use Rattle.vd_constraints.specs.declared.origin.Origin.TheVariants as origin
use Rattle.vd_constraints.specs.declared.system.Place.{Place}
use Rattle.vd_constraints.specs.declared.system.Place.TheVariants.{Slot, Block}
use Rattle.vd_constraints.specs.declared.system.Part.{Part}
use Rattle.vd_constraints.specs.declared.system.Check.{Check}
use Rattle.vd_constraints.specs.Rules.{conf, integ, host_label, written_at, system_of}
use Rattle.vd_constraints.specs.Origins.{origins_of}

-- the check is of this part of what stands at a slot
pub record IsOfSlot (part : Place → Part) (c : Check) : Type 0 where
  pub slot : SlotId
  pub part_is : c.part ≡ part (Slot slot)

-- and its constant is this one
pub record IsForSlot (part : Place → Part) (constant : TruthTable) (c : Check) : Type 0 where
  pub of_slot : IsOfSlot part c
  pub constant_is : c.constant ≡ constant

-- the check is of who may read that a block is entered, and its constant is this one
pub record IsForBlock (constant : TruthTable) (c : Check) : Type 0 where
  pub block : ℕ
  pub part_is : c.part ≡ conf (Block block)
  pub constant_is : c.constant ≡ constant

-- the check is of a slot at which the source writes a label, and its constant is a part of that
pub record IsForLabel (p : NormalForm) (part : Place → Part) (constant : Label → TruthTable) (c : Check) : Type 0 where
  pub of_slot : IsOfSlot part c
  pub written : Label
  pub written_is : written_at p of_slot.slot ≡ Some written
  pub constant_is : c.constant ≡ constant written

abbrev pub conf_of : Label → TruthTable
conf_of l = l.conf

abbrev pub integ_of : Label → TruthTable
integ_of l = l.integ

-- the origin asks for the check: a host that hands in has to answer for it, and one that is told has to be allowed to read; both learn
-- that the block is entered; an endorsed value is answered for; and a written label holds of what stands there
abbrev pub AsksFor : NormalForm → Origin → Check → Type 0
AsksFor p (origin.Input h) c = IsForSlot integ (host_label p h).integ c
AsksFor p (origin.Asked h) c = IsForBlock (host_label p h).conf c
AsksFor p origin.Endorse c = IsOfSlot integ c
AsksFor p (origin.Output h) c = IsForSlot conf (host_label p h).conf c
AsksFor p (origin.Told h) c = IsForBlock (host_label p h).conf c
AsksFor p origin.Readers c = IsForLabel p conf conf_of c
AsksFor p origin.Answerers c = IsForLabel p integ integ_of c

-- one for one
abbrev pub AskFor : NormalForm → List Origin → List Check → Type 0
AskFor p [] [] = ⊤
AskFor p (o ∷ os) (c ∷ cs) = AsksFor p o c × AskFor p os cs
AskFor p os cs = ⊥

abbrev pub ChecksAreAskedFor : Type 0
ChecksAreAskedFor = (p : NormalForm) → AskFor p (origins_of p) (system_of p).checks
