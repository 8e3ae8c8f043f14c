-- The files of all hosts, one after the other.
use Rattle.std.proofs.Common.{◌≡◌, ℕ, zero, suc, ◌+◌, ◌<◌, ◌≤◌, List, [], ◌++◌, length, map, slice_index_or, refl, sym, ap, subst, ◌∙◌, arith}
use Rattle.std.specs.Prelude.{codes, flat_map}
use Rattle.std.specs.List.{AllByRecursion, range_with_len}
use Rattle.vd_base.specs.declared.protocols.Proto.{Proto}
use Rattle.vd_base.specs.HostSets.{host}
use Rattle.vd_outside.specs.declared.stored.Stored.{Stored}
use Rattle.vd_core.specs.declared.normal.NormalForm.{NormalForm}
use Rattle.vd_execution.specs.declared.instructions.Instr.{Instr}
use Rattle.vd_execution.specs.Joint.{code_of}
use Rattle.vd_execution.specs.Text.{IsCodeOf, text}
use Rattle.vd_hostcode.specs.declared.host_text.program.Digest.{Digest}
use Rattle.vd_hostcode.specs.declared.host_text.program.HostProgram.{HostProgram}
use Rattle.vd_hostcode.specs.Text.{name_field, program_text}
use Rattle.vd_projection.specs.Programs.{CanRunAt, joint_of, host_codes}
use Rattle.vd_projection.proofs.Front.{codes_can_be_loaded, runnable_over}
use Rattle.vd_search_stages.specs.declared.optimum.Assignment.{Assignment}
use Rattle.vd_cmd_plan.specs.Numbered.{file_name}
use Rattle.vd_projection.specs.Stored.{IsDigest, CanBeStored, stored_program}
use Rattle.vd_projection.proofs.Front.{is_digest, stored_programs_are_read_back, stored_texts_are_short}
use Rattle.vd_cmd_choice.specs.Choice.{printed_at}
use Rattle.vd_cmd_compile.specs.Compiling.{host_files, plan_for, compiled_at}
use Rattle.vd_cmd_laws.specs.Compiled.{EachFrom, IsReadBack, IsShort, CompiledFilesAreReadBack}

code_at : (f : ℕ → List Instr) (k n h : ℕ) → h < n → slice_index_or (map f (range_with_len k n)) h [] ≡ f (k + h)
code_at f k zero h lt = absurd (omega (arith, lt))
code_at f k (suc n) zero lt = ap f (same k)
  where
    same : (k : ℕ) → k ≡ k + 0
    same k = omega arith
code_at f k (suc n) (suc h) lt = code_at f (k + 1) n h (omega (arith, lt)) ∙ ap f (same k h)
  where
    same : (k h : ℕ) → k + 1 + h ≡ k + suc h
    same k h = omega arith

module _ (program : NormalForm) (list : List Proto) (plan : Digest) (digest : IsDigest plan) (can : CanRunAt program list) (prefix : List ℕ) where
  abbrev hosts : ℕ
  hosts = length program.hosts

  abbrev code : ℕ → List Instr
  code h = text (code_of h (joint_of program list)) []

  abbrev program_at : ℕ → List Instr → HostProgram
  program_at h is = record { hosts = program.hosts; me = host h; plan = plan; code = is }

  -- the part of the host with this number
  part : (h : ℕ) → h < hosts → slice_index_or (host_codes program list) h [] ≡ code h
  part h lt = code_at code 0 hosts h lt ∙ ap code (none h)
    where
      none : (h : ℕ) → 0 + h ≡ h
      none h = omega arith

  stored : (h : ℕ) → h < hosts → CanBeStored program list plan h
  stored h lt = record { runs = can; digest = digest; declared = lt }

  -- the text that is stored is that of the host's program
  text_is : (h : ℕ) → h < hosts → program_text (stored_program program list plan h) ≡ program_text (program_at h (code h))
  text_is h lt = ap (λ (is : List Instr). program_text (program_at h is)) (part h lt)

  pub is_read : (h : ℕ) → h < hosts → IsReadBack program list plan h (program_text (stored_program program list plan h))
  is_read h lt = record {
    read = stored_programs_are_read_back program list plan h (stored h lt);
    part = subst (λ (is : List Instr). IsCodeOf is (code_of h (joint_of program list))) (sym (part h lt)) (codes_can_be_loaded program list can.made (runnable_over program list can.made can.runnable) h).nested;
  }

  files_read : (n k : ℕ) → k + n ≤ hosts → EachFrom (λ h file. IsReadBack program list plan h file.content) k (host_files prefix program.hosts plan k (map code (range_with_len k n)))
  files_read zero k le = tt
  files_read (suc n) k le =
      let lt : k < hosts = omega (arith, le) in
      (subst (IsReadBack program list plan k) (text_is k lt) (is_read k lt), files_read n (k + 1) (omega (arith, le)))

  abbrev IsNamed : ℕ → Stored → Type 0
  IsNamed h file = file.name ≡ file_name prefix h (codes ".host")

  files_named : (n k : ℕ) → EachFrom IsNamed k (host_files prefix program.hosts plan k (map code (range_with_len k n)))
  files_named zero k = tt
  files_named (suc n) k = (refl, files_named n (k + 1))

  files_counted : (n k : ℕ) → length (host_files prefix program.hosts plan k (map code (range_with_len k n))) ≡ n
  files_counted zero k = refl
  files_counted (suc n) k = let i = files_counted n (k + 1) in omega (arith, i)

  short : length (flat_map name_field program.hosts) ≤ 65536 → (h : ℕ) → h < hosts → length (program_text (program_at h (code h))) ≤ 67108864
  short names h lt =
      subst (λ (is : List Instr). length (program_text (program_at h is)) ≤ 67108864) (part h lt) (stored_texts_are_short program list plan h (stored h lt) names)

  files_short : length (flat_map name_field program.hosts) ≤ 65536 → (n k : ℕ) → k + n ≤ hosts
      → AllByRecursion IsShort (host_files prefix program.hosts plan k (map code (range_with_len k n)))
  files_short names zero k le = tt
  files_short names (suc n) k le = (short names k (omega (arith, le)), files_short names n (k + 1) (omega (arith, le)))

all_of_them : (n : ℕ) → 0 + n ≤ n
all_of_them n = omega arith

pub compiled_files_are_read_back : CompiledFilesAreReadBack
compiled_files_are_read_back program a text prefix can =
    let printed = printed_at program a in
    files_read program a.protocols (plan_for text printed) (is_digest (text ++ printed)) can prefix (length program.hosts) 0 (all_of_them (length program.hosts))

pub short_files : (program : NormalForm) (a : Assignment) (text prefix : List ℕ) → CanRunAt program a.protocols
    → length (flat_map name_field program.hosts) ≤ 65536 → AllByRecursion IsShort (compiled_at program a text prefix).stores
short_files program a text prefix can names =
    let printed = printed_at program a in
    files_short program a.protocols (plan_for text printed) (is_digest (text ++ printed)) can prefix names (length program.hosts) 0 (all_of_them (length program.hosts))

pub named_files : (program : NormalForm) (a : Assignment) (text prefix : List ℕ) → CanRunAt program a.protocols
    → EachFrom (λ h file. file.name ≡ file_name prefix h (codes ".host")) 0 (compiled_at program a text prefix).stores
named_files program a text prefix can =
    let printed = printed_at program a in
    files_named program a.protocols (plan_for text printed) (is_digest (text ++ printed)) can prefix (length program.hosts) 0

pub counted_files : (program : NormalForm) (a : Assignment) (text prefix : List ℕ) → CanRunAt program a.protocols
    → length (compiled_at program a text prefix).stores ≡ length program.hosts
counted_files program a text prefix can =
    let printed = printed_at program a in
    files_counted program a.protocols (plan_for text printed) (is_digest (text ++ printed)) can prefix (length program.hosts) 0
