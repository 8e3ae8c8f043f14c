-- A program can be split at its choice of protocols.
use Rattle.std.proofs.Common.{◌≡◌, ◌≤◌, List, [], length, ap, ◌∙◌, arith}
use Rattle.std.proofs.lemmas.List.FromFn.{length-map-range_with_len}
use Rattle.vd_base.specs.declared.protocols.Proto.{Proto}
use Rattle.vd_base.specs.Limits.{most_hosts}
use Rattle.vd_core.specs.declared.normal.NormalForm.{NormalForm}
use Rattle.vd_core.specs.Facts.{IsWellMade}
use Rattle.vd_core.specs.Numbers.{NumbersFit}
use Rattle.vd_execution.specs.declared.instructions.Instr.{Instr}
use Rattle.vd_execution.specs.Joint.{code_of}
use Rattle.vd_execution.specs.Text.{text}
use Rattle.vd_projection.specs.Programs.{CanRunAt, IsRunnable, host_codes, joint_of}
use Rattle.vd_search_stages.specs.declared.optimum.Assignment.{Assignment}
use Rattle.vd_cmd_choice.specs.Choice.{IsSelected}
use Rattle.vd_space.specs.Reading.{problem_of}
use Rattle.vd_space.specs.Cheapest.{IsAssignment}

-- the choice is valid under the labels that it is chosen under
pub assignment_of : (program : NormalForm) (a : Assignment) → (is : IsSelected program a) → IsAssignment (problem_of program is.labels) a.protocols
assignment_of program a is = is.optimal.cheapest.valid

pub runnable_of : (program : NormalForm) (a : Assignment) → IsSelected program a → (protocols : List Proto) → protocols ≡ a.protocols → IsRunnable program protocols
runnable_of program a is protocols same =
    let valid = is.optimal.cheapest.valid in
    record { labels = is.labels; assignment = record { places = valid.places; is_valid = valid.is_valid; named = same ∙ valid.named } }

pub can_run : (program : NormalForm) (a : Assignment) → IsWellMade program → NumbersFit program → IsSelected program a → (protocols : List Proto) → protocols ≡ a.protocols
    → CanRunAt program protocols
can_run program a made numbers is protocols same = record { made = made; numbers = numbers; runnable = runnable_of program a is protocols same }

-- there is a code for each host
pub code_count : (program : NormalForm) (protocols : List Proto) → length (host_codes program protocols) ≡ length program.hosts
code_count program protocols = length-map-range_with_len (λ h. text (code_of h (joint_of program protocols)) []) 0 (length program.hosts)

pub few_codes : (program : NormalForm) (protocols : List Proto) (codes : List (List Instr)) → IsWellMade program → codes ≡ host_codes program protocols → length codes ≤ most_hosts
few_codes program protocols codes made are =
    let count : length codes ≡ length program.hosts = ap (λ (cs : List (List Instr)). length cs) are ∙ code_count program protocols in
    let limit = made.limits.hosts in
    omega (arith, count, limit)
