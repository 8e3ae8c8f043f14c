-- Reasons are told to whom asked for them.
use Rattle.std.proofs.Common.{◌≡◌, ◌≢◌, Bool, true, refl, ap, ◌∙◌}
use Rattle.vd_cmd_plan.specs.declared.status.Status.{Status}
use Rattle.vd_cmd_plan.specs.declared.status.Status.TheVariants.{Ended, Memory, Usage, ReadFault, WriteFault, TooLong, Syntax, Names, Flow, NoAssignment, Spent, InputText, DealText, ScheduleText, CertificateText, BadDeal, CertificateRefused, Host, ChildFault, NoHost, NotTwo, HasCommit, DealShort, ViewDiffers, DealUsed, ShortKey, Table, Report}
use Rattle.viaduct.specs.declared.caller.Caller.{Caller}
use Rattle.viaduct.specs.Telling.{ReasonsAreAsked, fault_telling, success_telling, telling_of}

fault_told : (caller : Caller) (status : Status) → status ≢ Ended → telling_of caller status ≡ fault_telling caller.told caller.readable
fault_told caller Ended is = absurd (is refl)
fault_told caller Memory is = refl
fault_told caller Usage is = refl
fault_told caller (ReadFault name) is = refl
fault_told caller WriteFault is = refl
fault_told caller (TooLong name limit) is = refl
fault_told caller (Syntax fault) is = refl
fault_told caller (Names fault) is = refl
fault_told caller (Flow fault) is = refl
fault_told caller (NoAssignment labelled) is = refl
fault_told caller (Spent budget labelled) is = refl
fault_told caller (InputText fault) is = refl
fault_told caller (DealText name number offset) is = refl
fault_told caller (ScheduleText fault) is = refl
fault_told caller (CertificateText offset) is = refl
fault_told caller (BadDeal bad) is = refl
fault_told caller (CertificateRefused fault) is = refl
fault_told caller (Host status) is = refl
fault_told caller (ChildFault hosts fault) is = refl
fault_told caller (NoHost name) is = refl
fault_told caller (NotTwo count) is = refl
fault_told caller (HasCommit slot) is = refl
fault_told caller (DealShort kind) is = refl
fault_told caller (ViewDiffers place) is = refl
fault_told caller (DealUsed name) is = refl
fault_told caller (ShortKey name length) is = refl
fault_told caller (Table name row column fault) is = refl
fault_told caller (Report name fault) is = refl

pub reasons_asked : ReasonsAreAsked
reasons_asked = record {
  unasked = λ caller status told is. fault_told caller status is ∙ ap (λ (t : Bool). fault_telling t caller.readable) told;
  asked = λ caller status told readable is.
      fault_told caller status is ∙ ap (λ (t : Bool). fault_telling t caller.readable) told ∙ ap (λ (t : Bool). fault_telling true t) readable;
  no_text = λ caller status told readable is.
      fault_told caller status is ∙ ap (λ (t : Bool). fault_telling t caller.readable) told ∙ ap (λ (t : Bool). fault_telling true t) readable;
  file = λ caller file. ap success_telling file;
  elsewhere = λ caller asked. ap success_telling asked;
}
