-- Plans of which one ends well where another does, unless memory is out.
use Rattle.std.proofs.Common.{◌≡◌, ◌⊎◌, inl, inr, ⊎_elim, ℕ, Bool, List, Result, Ok, Err, refl, ◌∙◌}
use Rattle.vd_outside.specs.Files.{FilesView, Contents, fetched}
use Rattle.vd_outside.specs.Sink.{SinkView}
use Rattle.vd_outside.specs.declared.faults.FetchFault.{FetchFault}
use Rattle.vd_outside.specs.declared.faults.FetchFault.TheVariants as fetch_fault
use Rattle.vd_cmd_plan.specs.declared.status.Status.{Status}
use Rattle.vd_cmd_plan.specs.declared.status.Status.TheVariants.{Ended, Memory, ReadFault, WriteFault}
use Rattle.vd_cmd_plan.specs.Plans.{Plan, with_file, file_then, check_then}
use Rattle.vd_cmd_plan.specs.Runs.{Runs, IsAnswered, IsComplete}

-- where the one ends well, the other does too, or is out of memory
abbrev pub Follows : Plan → Plan → Type 0
Follows sure plan = sure.answer.status ≡ Ended → (plan.answer.status ≡ Ended) ⊎ (plan.answer.status ≡ Memory)

with_file_follows : (name : List ℕ) (limit : ℕ) (f : Result (List ℕ) FetchFault) (sure plan : List ℕ → Plan) → ((bytes : List ℕ) → Follows (sure bytes) (plan bytes)) → Follows (with_file name limit f sure) (with_file name limit f plan)
with_file_follows name limit (Ok bytes) sure plan each e = each bytes e
with_file_follows name limit (Err fetch_fault.TooLong) sure plan each e = inl e
with_file_follows name limit (Err fetch_fault.Failed) sure plan each e = inl e
with_file_follows name limit (Err fetch_fault.Memory) sure plan each e = inl e

pub file_follows : (name : List ℕ) (limit : ℕ) (sure plan : List ℕ → Contents → Plan) (files : Contents) → ((bytes : List ℕ) → Follows (sure bytes files) (plan bytes files)) → Follows (file_then name limit sure files) (file_then name limit plan files)
unfolding file_then
file_follows name limit sure plan files each = with_file_follows name limit (fetched (files name) limit) (λ bytes. sure bytes files) (λ bytes. plan bytes files) each

pub check_follows : {T : Type 0} (wanted : Result T Status) (sure plan : T → Contents → Plan) (files : Contents) → ((value : T) → Follows (sure value files) (plan value files)) → Follows (check_then wanted sure files) (check_then wanted plan files)
unfolding check_then
check_follows (Ok value) sure plan files each e = each value e
check_follows (Err status) sure plan files each e = inl e

-- what a run answers where its plan ends well or is out of memory, and no fault came
answered_well : (wanted status : Status) → IsAnswered wanted status → ((name : List ℕ) → status ≡ ReadFault name → ⊥) → (status ≡ WriteFault → ⊥) → (wanted ≡ Ended) ⊎ (wanted ≡ Memory) → (status ≡ Ended) ⊎ (status ≡ Memory)
answered_well wanted Memory is no_read no_write good = inr refl
answered_well wanted (ReadFault name) is no_read no_write good = absurd (no_read name refl)
answered_well wanted WriteFault is no_read no_write good = absurd (no_write refl)
answered_well wanted status is no_read no_write (inl e) = inl (is ∙ e)
answered_well wanted status is no_read no_write (inr e) = inr (is ∙ e)

pub completes : (fits : Bool) (plan sure : Contents → Plan) (before now : FilesView) (out_before out_now : SinkView) (status : Status) → Runs fits plan before now out_before out_now status → Follows (sure before.contents) (plan before.contents)
    → IsComplete sure before now out_before out_now status
completes fits plan sure before now out_before out_now status runs follows told no_rise no_out_rise ended =
    answered_well (plan before.contents).answer.status status (runs.answered told) (λ name e. no_rise (runs.read_fault name e)) (λ e. ⊎_elim no_rise no_out_rise (runs.write_fault e)) (follows ended)
