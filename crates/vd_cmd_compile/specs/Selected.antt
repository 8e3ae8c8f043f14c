-- Programs at their chosen protocols.
use Rattle.std.specs.Prelude.{◌<◌, List, length, map}
use Rattle.vd_base.specs.declared.ids.SlotId.{SlotId}
use Rattle.vd_base.specs.declared.protocols.Proto.{Proto}
use Rattle.vd_base.specs.Holders.{proto_in}
use Rattle.vd_core.specs.declared.normal.NormalForm.{NormalForm}
use Rattle.vd_formula.specs.TruthTable.{ActsFor}
use Rattle.vd_formula.specs.declared.label.Label.{Label}
use Rattle.vd_protocol.specs.Authority.{authority_of}
use Rattle.vd_constraints.specs.Rules.{label}
use Rattle.vd_constraints.specs.Satisfies.{label_at}
use Rattle.vd_constraints.specs.declared.labels.Labels.{Labels}
use Rattle.vd_constraints.specs.declared.system.Place.TheVariants.{Slot}

-- both parts of an authority act for the same part of a label
pub record Covers (authority covered : Label) : Type 0 where
  pub conf : ActsFor authority.conf covered.conf
  pub integ : ActsFor authority.integ covered.integ

-- the hosts of each slot's protocol have together the authority that the label of the slot asks for
abbrev pub AreCovered : NormalForm → Labels → List Proto → Type 0
AreCovered program labels protocols = (x : SlotId) → x.0 < length program.slots
    → Covers (authority_of (proto_in protocols x.0) (map (label program) program.labels)) (label_at labels (Slot x))
