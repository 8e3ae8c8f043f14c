-- The file of a host's program in an order that waits less is one that the grammar has, and its program is within the ranges.
use Rattle.std.proofs.Common.{◌≡◌, ℕ, ◌+◌, ◌*◌, ◌<◌, ◌≤◌, List, [], length, sym, subst, arith}
use Rattle.std.specs.Prelude.{flat_map}
use Rattle.vd_base.specs.Words.{IsWord}
use Rattle.vd_base.specs.declared.protocols.Proto.{Proto}
use Rattle.vd_base.specs.HostSets.{host}
use Rattle.vd_core.specs.declared.normal.NormalForm.{NormalForm}
use Rattle.vd_execution.specs.declared.instructions.Instr.{Instr}
use Rattle.vd_execution.specs.Code.{Code, weight}
use Rattle.vd_execution.specs.Joint.{Joint, code_of}
use Rattle.vd_execution.specs.Ranges.{depth}
use Rattle.vd_execution.specs.Text.{IsCodeOf, text}
use Rattle.vd_execution.proofs.Front.{written_back}
use Rattle.vd_choreography_reorder.specs.Testing.{Opened}
use Rattle.vd_hostcode.specs.declared.host_text.program.Digest.{Digest}
use Rattle.vd_hostcode.specs.declared.host_text.program.HostProgram.{HostProgram}
use Rattle.vd_hostcode.specs.Text.{name_field, program_text}
use Rattle.vd_hostcode.proofs.Front.{all_within, written_is_read}
use Rattle.vd_projection.specs.Programs.{joint_of}
use Rattle.vd_projection.proofs.HostCodes.{runnable_over, codes_can_be_loaded, joint_is_tidy}
use Rattle.vd_projection.specs.Stored.{CanBeStored, StandsInAFile}
use Rattle.vd_projection.proofs.Files.{code_stands, few_lines, few_steps, stands_in_a_file}
use Rattle.vd_projection.proofs.Bytes.{code_short, file_short}
use Rattle.vd_projection.proofs.Instrs.{AllCanStand}
use Rattle.vd_projection.proofs.Texts.{none_broken, text_leads}
use Rattle.vd_projection.specs.Early.{IsEarly, opened_in_order, early_code, early_text}
use Rattle.vd_projection.specs.ProjectionReorderedFilesStored.{program_at, EarlyProgramsStandInFiles, EarlyProgramsAreReadBack, EarlyTextsAreShort}
use Rattle.vd_projection.proofs.ProjectionReorderedFilesCodes.{IsNoMore, hastened_is_no_more, onwards}
use Rattle.vd_projection.proofs.Early.{careful_texts}
use Rattle.vd_projection.proofs.Shorter.{early_is_no_more}

-- ---- the code of a host in program order

module _ (program : NormalForm) (protocols : List Proto) (plan : Digest) (h : ℕ) (can : CanBeStored program protocols plan h) where
  abbrev hosts : ℕ
  hosts = length program.hosts

  abbrev old : Code
  old = code_of h (joint_of program protocols)

  -- ---- in an order that waits less

  module _ (joint : Joint) (early : IsEarly (joint_of program protocols) joint) where
    abbrev opened : Opened
    opened = opened_in_order program protocols

    abbrev code : Code
    code = early_code opened h joint

    no_more : IsNoMore hosts h old code
    no_more =
        onwards hosts h old (code_of h joint) code (early_is_no_more hosts h (joint_of program protocols) joint (joint_is_tidy program protocols can.runs) early)
        (hastened_is_no_more hosts h (code_of h joint) code (careful_texts opened joint h).careful.hastened)

    early_stands : AllCanStand hosts h code
    early_stands = no_more.stands (code_stands program protocols plan h can)

    is_part : IsCodeOf (early_text opened joint h) code
    is_part = (careful_texts opened joint h).nested

    text_is : text code [] ≡ early_text opened joint h
    text_is = written_back (early_text opened joint h) code is_part

    few_blocks : depth code ≤ 512
    few_blocks = let le = no_more.blocks in let few = (codes_can_be_loaded program protocols can.runs.made (runnable_over program protocols can.runs.made can.runs.runnable) h).in_range.blocks in bounded _ _ le few
      where
        bounded : (n m : ℕ) → n ≤ m → m ≤ 512 → n ≤ 512
        bounded n m le few = omega (arith, le, few)

    no_more_steps : weight code ≤ 4294967295
    no_more_steps = bounded _ _ no_more.steps (few_steps program protocols plan h can)
      where
        bounded : (n m : ℕ) → n ≤ m → m ≤ 4294967295 → n ≤ 4294967295
        bounded n m le few = omega (arith, le, few)

    abbrev with_code : List Instr → HostProgram
    with_code list = record { hosts = program.hosts; me = host h; plan = plan; code = list }

    stands_with : StandsInAFile (with_code (text code []))
    stands_with =
        let before = stands_in_a_file program protocols plan h can in
        record {
          file = record {
            names = before.file.names;
            some = can.runs.made.limits.some_host;
            few = can.runs.made.limits.hosts;
            me = can.declared;
            plan = can.digest;
            lines = text_leads hosts h code early_stands;
          };
          within = all_within hosts (host h) (text code []) code (subst (λ (list : List Instr). IsCodeOf list code) (sym text_is) is_part) (none_broken hosts h code early_stands few_blocks) no_more_steps;
        }

    program_stands : StandsInAFile (program_at program protocols joint plan h)
    program_stands = subst (λ (list : List Instr). StandsInAFile (with_code list)) text_is stands_with

    short_with : length (flat_map name_field program.hosts) ≤ 65536 → length (program_text (with_code (text code []))) ≤ 67108864
    short_with names =
        let lines = code_short hosts h code early_stands in
        let le = file_short (with_code (text code [])) (51 * (2043 * 512)) can.digest.0 (own_word h hosts can.declared can.runs.made.limits.hosts) names
        (bounded _ _ _ lines no_more.bulk (few_lines program protocols plan h can)) in
        within_file _ le
      where
        own_word : (h n : ℕ) → h < n → n ≤ 4 → IsWord h
        own_word h n lt le = omega (arith, lt, le)

        bounded : (b k m : ℕ) → b ≤ 51 * k → k ≤ m → m ≤ 2043 * 512 → b ≤ 51 * (2043 * 512)
        bounded b k m p q r = omega (arith, p, q, r)

        within_file : (n : ℕ) → n ≤ 65645 + 51 * (2043 * 512) → n ≤ 67108864
        within_file n le = omega (arith, le)

    text_is_short : length (flat_map name_field program.hosts) ≤ 65536 → length (program_text (program_at program protocols joint plan h)) ≤ 67108864
    text_is_short names = subst (λ (list : List Instr). length (program_text (with_code list)) ≤ 67108864) text_is (short_with names)

pub programs_stand : EarlyProgramsStandInFiles
programs_stand program protocols plan h joint can early = program_stands program protocols plan h can joint early

pub programs_are_read : EarlyProgramsAreReadBack
programs_are_read program protocols plan h joint can early =
    let stands = program_stands program protocols plan h can joint early in
    record { read = written_is_read (program_at program protocols joint plan h) stands.file stands.within; part = is_part program protocols plan h can joint early }

pub texts_are_short : EarlyTextsAreShort
texts_are_short program protocols plan h joint can early names = text_is_short program protocols plan h can joint early names
