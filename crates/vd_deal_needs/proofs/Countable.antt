-- The codes of a program's hosts can be counted.
use Rattle.std.proofs.Common.{Result, Ok, Err, ◌∙◌, ◌≤◌, ◌≡◌, ℕ, ◌<◌, List, [], length, get_or, sym, ap, subst, arith}
use Rattle.std.specs.Prelude.{All, IfOk}
use Rattle.std.proofs.lemmas.List.{length-map}
use Rattle.std.proofs.lemmas.List.FromFn.{get_or-map-range_with_len, length-map-range_with_len}
use Rattle.sha2.specs.Sha256.{sha256}
use Rattle.vd_base.specs.declared.protocols.Proto.{Proto}
use Rattle.vd_base.specs.Limits.{most_hosts}
use Rattle.vd_core.specs.declared.normal.NormalForm.{NormalForm}
use Rattle.vd_core.specs.Facts.{IsWellMade}
use Rattle.vd_execution.specs.declared.instructions.Instr.{Instr}
use Rattle.vd_execution.specs.Code.{Code, weight}
use Rattle.vd_execution.specs.Joint.{code_of}
use Rattle.vd_execution.specs.Text.{IsCodeOf, text}
use Rattle.vd_hostcode.specs.declared.host_text.program.Digest.{Digest}
use Rattle.vd_hostcode.specs.declared.host_text.program.HostProgram.{HostProgram}
use Rattle.vd_hostcode.specs.HostTextOutcome.{digest}
use Rattle.vd_hostcode.specs.Outcome.{CanRun, IsWithin}
use Rattle.vd_hostcode.proofs.Front.{can_run}
use Rattle.vd_projection.specs.Programs.{CanRunAt, host_codes, joint_of}
use Rattle.vd_projection.proofs.Front.{runnable_over, codes_can_be_loaded}
use Rattle.vd_projection.specs.Stored.{CanBeStored, stored_program}
use Rattle.vd_projection.proofs.Front.{is_digest, stored_programs_are_read_back}
use Rattle.vd_deal_needs.specs.DealNeedsLawsNeeds.{counts}
use Rattle.vd_deal_needs.specs.declared.taking.HostNeeds.{HostNeeds}
use Rattle.vd_deal_needs.specs.Needs.{needs_by, needs_of}
use Rattle.vd_deal_needs.specs.Counted.{IsCountable, code_in, code_read}

-- the code of a list that is one
pub code_is : (code : List Instr) (c : Code) → IsCodeOf code c → code_in code ≡ c
code_is code c is = ap code_read is

-- a program that can run can be counted
pub of_can_run : (p : HostProgram) → CanRun p → IsCountable p.code
of_can_run p runs =
    let same = code_is p.code runs.nested runs.is_code in
    let steps = ap weight same in
    let few = runs.steps in
    record { nested = subst (IsCodeOf p.code) (sym same) runs.is_code; few = omega (arith, steps, few) }

module _ (program : NormalForm) (list : List Proto) (can : CanRunAt program list) where
  abbrev pub hosts : ℕ
  hosts = length program.hosts

  abbrev pub code : ℕ → List Instr
  code h = text (code_of h (joint_of program list)) []

  pub count_codes : length (host_codes program list) ≡ hosts
  count_codes = length-map-range_with_len code 0 hosts

  pub code_at : (h : ℕ) (d : List Instr) → h < hosts → get_or (host_codes program list) h d ≡ code h
  code_at h d lt = get_or-map-range_with_len code 0 hosts h h d lt (omega arith)

  abbrev plan : Digest
  plan = digest (sha256 [])

  stored : (h : ℕ) → h < hosts → CanBeStored program list plan h
  stored h lt = record { runs = can; digest = is_digest []; declared = lt }

  -- no instruction of a host's code breaks a range
  pub within : (h : ℕ) → h < hosts → IsWithin (stored_program program list plan h)
  within h lt = (stored_programs_are_read_back program list plan h (stored h lt)).1

  countable : (h : ℕ) → h < hosts → IsCountable (code h)
  countable h lt =
      let o = stored_programs_are_read_back program list plan h (stored h lt) in
      subst IsCountable (code_at h [] lt) (of_can_run (stored_program program list plan h) (can_run _ (stored_program program list plan h) o.0 o.1))

  all_countable : All IsCountable (host_codes program list)
  all_countable k d lt =
      let n = count_codes in
      let declared : k < hosts = omega (arith, lt, n) in
      subst IsCountable (sym (code_at k d declared)) (countable k declared)

  -- the code of a host, as it is counted
  pub counted_code : (h : ℕ) → code_in (code h) ≡ code_of h (joint_of program list)
  counted_code h = code_is (code h) (code_of h (joint_of program list)) (codes_can_be_loaded program list can.made (runnable_over program list can.made can.runnable) h).nested

-- ---- the codes that were split off

pub split_codes : (program : NormalForm) (list : List Proto) → CanRunAt program list → (codes : List (List Instr)) → codes ≡ host_codes program list → All IsCountable codes
split_codes program list can codes same = subst (λ (cs : List (List Instr)). All IsCountable cs) (sym same) (all_countable program list can)

pub few_codes : (program : NormalForm) (list : List Proto) → IsWellMade program → (codes : List (List Instr)) → codes ≡ host_codes program list → length codes ≤ most_hosts
few_codes program list made codes same =
    let n : length codes ≡ length program.hosts = ap (λ (cs : List (List Instr)). length cs) same ∙ length-map-range_with_len (λ h. text (code_of h (joint_of program list)) []) 0 (length program.hosts) in
    let limit = made.limits.hosts in
    omega (arith, n, limit)

pub few_needs : {E : Type 0} (result : Result (List HostNeeds) E) (codes : List (List Instr)) → length codes ≤ most_hosts → IfOk result (λ needs. needs ≡ needs_of codes) → IfOk result (λ needs. length needs ≤ most_hosts)
few_needs (Ok needs) codes few same =
    let n : length needs ≡ length codes = ap (λ (l : List HostNeeds). length l) same ∙ length-map codes (λ code. needs_by (length codes) (counts (code_in code))) in
    omega (arith, n, few)
few_needs (Err e) codes few same = tt
