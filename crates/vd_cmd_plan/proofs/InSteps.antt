-- The steps of a command, one before another.
use Rattle.std.proofs.Common.{◌≡◌, ℕ, true, List, Result, Ok, Err, refl, sym, subst, arith}
use Rattle.vd_outside.specs.Files.{FilesView, Contents}
use Rattle.vd_cmd_plan.specs.declared.status.Status.{Status}
use Rattle.vd_cmd_plan.specs.declared.status.Status.TheVariants.{Ended, Memory, Usage, ReadFault, WriteFault, NoAssignment, Host, ChildFault}
use Rattle.vd_cmd_plan.specs.declared.answer.Answer.{Answer}
use Rattle.vd_cmd_plan.specs.Loads.{Loads}
use Rattle.vd_cmd_plan.specs.Plans.{Plan, Executes, Computes, Checks, ExecutesStep, file_then, check_then, answer_then, only, refused}
use Rattle.vd_cmd_plan.proofs.Fronts.{same_within}
use Rattle.vd_cmd_plan.proofs.Steps.{load_ok, load_err, computes}

pub load_step : (name : List ℕ) (limit : ℕ) (before now : FilesView) (result : Result (List ℕ) Status) → Loads name limit before now result → ExecutesStep (file_then name limit) before now result
unfolding file_then
load_step name limit before now (Ok bytes) g = λ rest last result w. load_ok name limit rest before now last bytes result g w
load_step name limit before now (Err status) g = λ rest. load_err name limit rest before now status g

check_ok : {T : Type 0} (wanted : Result T Status) (value : T) → wanted ≡ Ok value → (rest : T → Contents → Plan) → check_then wanted rest ≡ rest value
unfolding check_then
check_ok wanted value is rest = rw is

check_refuses : {T : Type 0} (wanted : Result T Status) (status : Status) → wanted ≡ Err status → (rest : T → Contents → Plan) → check_then wanted rest ≡ (λ files. only (refused status))
unfolding check_then
check_refuses wanted status is rest = rw is

pub any_memory : (plan : Contents → Plan) (now : FilesView) → Executes true plan now now (Err Memory)
any_memory plan now = record {
  later = omega arith;
  proper = refl;
  fault = λ file e. absurd (cc e);
  last = λ t file e. absurd (cc e);
  still_told = λ t. t;
  contents = λ t. refl;
  front = λ t. same_within now.asked now.asked _ refl;
  whole = λ t. tt;
  settled = λ t. tt;
}

pub check_step : {T : Type 0} (wanted : Result T Status) (now : FilesView) (result : Result T Status) → Checks wanted result → ExecutesStep (check_then wanted) now now result
check_step wanted now (Ok value) c = λ rest last result w. subst (λ (t : Contents → Plan). Executes true t now last result) (sym (check_ok wanted value c.ok rest)) w
check_step wanted now (Err Memory) c = λ rest. any_memory (check_then wanted rest) now
check_step wanted now (Err Ended) c = absurd c.err
check_step wanted now (Err (NoAssignment labelled)) c = absurd c.err
check_step wanted now (Err Usage) c = absurd c.err
check_step wanted now (Err (ReadFault name)) c = absurd c.err
check_step wanted now (Err WriteFault) c = absurd c.err
check_step wanted now (Err (Host cause)) c = λ rest. subst (λ (t : Contents → Plan). Executes true t now now (Err (Host cause))) (sym (check_refuses wanted (Host cause) c.err.1 rest)) (computes (refused (Host cause)) now (Err (Host cause)) (record { proper = (c.err.0, refl); no_fault = λ file e. cc e; settled = refl }))
check_step wanted now (Err (ChildFault hosts fault)) c = absurd c.err
check_step wanted now (Err status) c = λ rest. subst (λ (t : Contents → Plan). Executes true t now now (Err status)) (sym (check_refuses wanted status c.err rest)) (computes (refused status) now (Err status) (record { proper = refl; no_fault = λ file e. cc e; settled = refl }))

-- two steps in a row
pub both_steps : {S T : Type 0} (first : (S → Contents → Plan) → Contents → Plan) (second : S → (T → Contents → Plan) → Contents → Plan) (before mid now : FilesView) (value : S) (result : Result T Status) → ExecutesStep first before mid (Ok value) → ExecutesStep (second value) mid now result → ExecutesStep (λ rest. first (λ x. second x rest)) before now result
both_steps first second before mid now value (Ok y) a b = λ rest last result w. a (λ x. second x rest) last result (b rest last result w)
both_steps first second before mid now value (Err status) a b = λ rest. a (λ x. second x rest) now (Err status) (b rest)

pub first_step : {S T : Type 0} (first : (S → Contents → Plan) → Contents → Plan) (second : S → (T → Contents → Plan) → Contents → Plan) (before now : FilesView) (status : Status) → ExecutesStep {T = S} first before now (Err status) → ExecutesStep {T = T} (λ rest. first (λ x. second x rest)) before now (Err status)
first_step first second before now status a = λ rest. a (λ x. second x rest)

pub answers : (answer : Answer) (now : FilesView) (result : Result Answer Status) → Computes answer result → Executes true (answer_then answer) now now result
unfolding answer_then
answers answer now result c = computes answer now result c
