-- The codes of which it is printed what they tell.
use Rattle.std.proofs.Common.{◌≡◌, ◌<◌, ◌≤◌, ℕ, suc, List, [], ◌++◌, get_or, length, sym, ap, ◌∙◌, subst, arith}
use Rattle.std.specs.Prelude.{All}
use Rattle.std.proofs.lemmas.List.{get_or_default}
use Rattle.std.proofs.lemmas.List.FromFn.{get_or-map-range_with_len, length-map-range_with_len}
use Rattle.sha2.specs.Sha256.{sha256}
use Rattle.vd_base.specs.declared.protocols.Proto.{Proto}
use Rattle.vd_core.specs.declared.normal.NormalForm.{NormalForm}
use Rattle.vd_execution.specs.declared.instructions.Instr.{Instr}
use Rattle.vd_execution.specs.Code.{Code, Finished, Then, Send, Recv, Choose, Repeat}
use Rattle.vd_execution.specs.Joint.{code_of}
use Rattle.vd_execution.specs.Ranges.{PacketsFit}
use Rattle.vd_execution.specs.Text.{IsCodeOf, text}
use Rattle.vd_hostcode.specs.declared.host_text.program.Digest.{Digest}
use Rattle.vd_hostcode.specs.declared.host_text.program.HostProgram.{HostProgram}
use Rattle.vd_hostcode.specs.HostTextOutcome.{digest}
use Rattle.vd_hostcode.specs.Outcome.{CanRun}
use Rattle.vd_hostcode.proofs.Front.{can_run}
use Rattle.vd_deal_needs.specs.Counted.{code_in}
use Rattle.vd_deal_needs.proofs.Front.{code_is}
use Rattle.vd_projection.specs.Programs.{CanRunAt, host_codes, joint_of}
use Rattle.vd_projection.specs.Stored.{CanBeStored, stored_program}
use Rattle.vd_projection.proofs.Front.{codes_can_be_loaded, is_digest, runnable_over, stored_programs_are_read_back}
use Rattle.vd_rounds.specs.Loads.{traffic_of}
use Rattle.vd_rounds.specs.Tallies.{IsTold, PacketsAreShort}
use Rattle.vd_cmd_needs.specs.RoundsLines.{rounds_below, told_lines}

short : (hosts : ℕ) (c : Code) → PacketsFit hosts c → PacketsAreShort c
short hosts Finished fit = tt
short hosts (Then a c) fit = short hosts c fit
short hosts (Send p rs c) fit = (fit.0.1, short hosts c fit.1)
short hosts (Recv p rs c) fit = short hosts c fit.1
short hosts (Choose g first other c) fit = (short hosts first fit.0, (short hosts other fit.1.0, short hosts c fit.1.1))
short hosts (Repeat q turn n body c) fit = (short hosts body fit.0, short hosts c fit.1)

-- of a program that can run it can be counted what it tells
pub told_of_can_run : (p : HostProgram) → CanRun p → IsTold p.code
told_of_can_run p runs =
    let few = runs.steps in
    record { nested = runs.nested; is_code = runs.is_code; few = omega (arith, few); short = short (length p.hosts) runs.nested runs.ranges.packets }

-- the code of a list is the one that it is counted for
pub counted_for : {X : Type 0} (code : List Instr) (is : IsTold code) (f : Code → X) (x : X) → ((c : Code) → IsCodeOf code c → x ≡ f c) → x ≡ f (code_in code)
counted_for code is f x counts = counts is.nested is.is_code ∙ ap f (sym (code_is code is.nested is.is_code))

module _ (program : NormalForm) (list : List Proto) (can : CanRunAt program list) where
  abbrev code : ℕ → List Instr
  code h = text (code_of h (joint_of program list)) []

  abbrev plan : Digest
  plan = digest (sha256 [])

  stored : (h : ℕ) → h < length program.hosts → CanBeStored program list plan h
  stored h lt = record { runs = can; digest = is_digest []; declared = lt }

  is_told : (h : ℕ) → h < length program.hosts → IsTold (code h)
  is_told h lt =
      let o = stored_programs_are_read_back program list plan h (stored h lt) in
      let told = told_of_can_run (stored_program program list plan h) (can_run _ (stored_program program list plan h) o.0 o.1) in
      subst IsTold (get_or-map-range_with_len code 0 (length program.hosts) h h [] lt (omega arith)) told

  all_told : All IsTold (host_codes program list)
  all_told k d lt =
      let n = length-map-range_with_len code 0 (length program.hosts) in
      let declared : k < length program.hosts = omega (arith, lt, n) in
      subst IsTold (sym (get_or-map-range_with_len code 0 (length program.hosts) k k d declared (omega arith))) (is_told k declared)

  pub split_told : (codes : List (List Instr)) → codes ≡ host_codes program list → All IsTold codes
  split_told codes same = subst (λ (cs : List (List Instr)). All IsTold cs) (sym same) all_told

  -- the code of a host, as it is counted
  pub code_of_host : (h : ℕ) → h < length program.hosts → code_in (get_or (host_codes program list) h []) ≡ code_of h (joint_of program list)
  code_of_host h lt =
      ap code_in (get_or-map-range_with_len code 0 (length program.hosts) h h [] lt (omega arith))
      ∙ code_is (code h) (code_of h (joint_of program list)) (codes_can_be_loaded program list can.made (runnable_over program list can.made can.runnable) h).nested

-- one host more
pub one_host_more : (names : List (List ℕ)) (list : List (List Instr)) (from : ℕ) (code seen : List Instr) (before now : List ℕ) → from < length list → code ≡ get_or list from code → seen ≡ code
    → before ≡ rounds_below names list from → now ≡ before ++ told_lines names from (code_in seen) → now ≡ rounds_below names list (suc from)
one_host_more names list from code seen before now lt is same so_far more =
    let there : seen ≡ get_or list from [] = same ∙ is ∙ get_or_default list from code [] lt in
    more ∙ (λ i. so_far i ++ told_lines names from (code_in (there i)))
