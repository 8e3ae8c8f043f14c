-- The lines of a program's joint code, and that they can be read as steps.
use Rattle.std.proofs.Common.{◌≡◌, List, [], Result, Ok, Err, IfOk}
use Rattle.vd_base.specs.declared.protocols.Proto.{Proto}
use Rattle.vd_base.specs.Holders.{proto_in}
use Rattle.vd_core.specs.declared.normal.NormalForm.{NormalForm}
use Rattle.vd_constraints.specs.declared.labels.Labels.{Labels}
use Rattle.vd_execution.specs.declared.instructions.Line.{Line}
use Rattle.vd_execution.specs.Gadgets.{Gadget}
use Rattle.vd_execution.specs.Plans.{Plan, joint_of as code}
use Rattle.vd_execution.specs.Text.{flat}
use Rattle.vd_projection.specs.Programs.{joint_of}
use Rattle.vd_views.specs.ReadOff.{PairsAreReadOff}
use Rattle.vd_views.specs.Explained.{IsOfTwo, plan_of}
use Rattle.vd_views.proofs.Front.{plan_is_tidy}
use Rattle.vd_excuse.specs.Claims.{CanBeStepped}

can_be_stepped : PairsAreReadOff → (program : NormalForm) (l : Labels) (protocols : List Proto) → IsOfTwo program l protocols → CanBeStepped (plan_of program protocols)
can_be_stepped read_off program l protocols of_two = record { tidy = plan_is_tidy program l protocols of_two.free.chosen; read_off = read_off program (proto_in protocols) }

pub lead : PairsAreReadOff → (program : NormalForm) (protocols : List Proto) (lines : List Line) → lines ≡ flat (joint_of program protocols) [] → (P : Plan Gadget → Type 0)
    → ((plan : Plan Gadget) → lines ≡ flat (code plan) [] → CanBeStepped plan → P plan) → (l : Labels) → IsOfTwo program l protocols → P (plan_of program protocols)
lead read_off program protocols lines is P all l of_two = all (plan_of program protocols) is (can_be_stepped read_off program l protocols of_two)

-- what follows of each answer
pub each_ok : {T E : Type 0} {P Q : T → Type 0} (r : Result T E) → ((x : T) → P x → Q x) → IfOk r P → IfOk r Q
each_ok (Ok x) f p = f x p
each_ok (Err e) f p = tt

-- what an answer has for each value
pub for_all : {T E V : Type 0} (r : Result T E) (P : V → Type 0) (Q : T → Type 0) → ((v : V) → P v → IfOk r Q) → IfOk r (λ x. (v : V) → P v → Q x)
for_all (Ok x) P Q f = λ v p. f v p
for_all (Err e) P Q f = tt
