-- The code of hosts in an order that waits less.
use Rattle.std.proofs.Common.{◌≡◌, ℕ, ◌≤◌, List, [], ◌∷◌, length, map, Result, Ok, Err, refl, sym, ap, ap₂, ◌∙◌, subst}
use Rattle.std.specs.Prelude.{IfOk}
use Rattle.std.specs.List.{range_with_len}
use Rattle.vd_base.specs.declared.protocols.Proto.{Proto}
use Rattle.vd_base.specs.Limits.{most_packet_words}
use Rattle.vd_core.specs.declared.normal.NormalForm.{NormalForm}
use Rattle.vd_execution.specs.declared.instructions.Instr.{Instr}
use Rattle.vd_execution.specs.declared.instructions.Line.{Line}
use Rattle.vd_execution.specs.declared.instructions.Reg.{Reg}
use Rattle.vd_execution.specs.Joint.{Joint, Hosts, IsTidy, code_of}
use Rattle.vd_execution.specs.Text.{flat, pick, text}
use Rattle.vd_execution.specs.World.{Tape}
use Rattle.vd_execution.proofs.Front.{picks, read_back, unbegun}
use Rattle.vd_projection.specs.Programs.{CanRunAt, joint_of}
use Rattle.vd_projection.proofs.HostCodes.{ended_past, joint_is_tidy}
use Rattle.vd_reorder.specs.Packets.{opened_in}
use Rattle.vd_reorder.specs.Turning.{TellsTheSame}
use Rattle.vd_choreography_reorder.specs.Testing.{Opened, opened_at}
use Rattle.vd_choreography_reorder.specs.Order.{IsBroughtForward, without_empty}
use Rattle.vd_choreography_reorder.specs.Sorting.{early_order}
use Rattle.vd_choreography_reorder.proofs.Front.{forward_by, runs_alike as alike_runs}
use Rattle.vd_choreography_reorder.specs.Joining.{joined, joined_lines}
use Rattle.vd_choreography_reorder.specs.Telling.{IsJoined}
use Rattle.vd_choreography_reorder.proofs.Front.{joined_tells}
use Rattle.vd_reorder.specs.Passing.{hastened_by}
use Rattle.vd_reorder.proofs.Front.{hastened_is}
use Rattle.vd_projection.specs.Early.{opened_of, early_text, each_code, RunsAlike, EarlyCodeRunsAlike, EarlyTextsAreCareful, AreEarly, AreEarlyCodes, ComeEarly, IsOfHosts}
use Rattle.vd_projection.proofs.Opened.{opened_there}

-- ---- code that comes early

both_tell : (t : Tape) (w : Hosts) (j i k : Joint) → TellsTheSame t w j i → TellsTheSame t w i k → TellsTheSame t w j k
both_tell t w j i k x y = record { smooth = y.smooth; alike = λ h. x.alike h ∙ y.alike h }

shared : (i : Joint) → IsTidy i → IsJoined most_packet_words i (joined_lines most_packet_words (flat i []))
shared i tidy = joined_tells most_packet_words i tidy

pub runs_alike : EarlyCodeRunsAlike
runs_alike j k tidy x =
    let f = forward_by (opened_of j) j x.between tidy x.exchanged in
    let g = shared x.between f.tidy in
    subst (RunsAlike j) (sym x.shared) (record {
      tidy = g.tidy;
      runs = alike_runs j (joined most_packet_words (without_empty x.between)) g.tidy
          (λ t w s. let one = f.same t w s in both_tell t w j x.between (joined most_packet_words (without_empty x.between)) one (g.same t w one.smooth));
    })

pub careful_texts : EarlyTextsAreCareful
careful_texts opened j h =
    let x = hastened_is (opened h) (text (code_of h j) []) (code_of h j) (read_back (code_of h j) (unbegun h j)) in
    record { nested = x.nested; careful = x.careful }

-- ---- the code of each host

abbrev hastened_from : Opened → List Line → ℕ → List Instr
hastened_from opened lines h = hastened_by (opened h) (pick h lines)

each_hastened : (opened : Opened) (j : Joint) → IsTidy j → (hs : List ℕ) → map (hastened_from opened (flat j [])) hs ≡ map (early_text opened j) hs
each_hastened opened j tidy [] = refl
each_hastened opened j tidy (h ∷ hs) = ap₂ (λ (c : List Instr) (cs : List (List Instr)). hastened_by (opened h) c ∷ cs) (picks h j tidy []) (each_hastened opened j tidy hs)

come_early : (hosts : ℕ) (lines forward joined seen : List Line) (opened : List (List Reg)) (codes : List (List Instr))
    → opened ≡ map (λ h. opened_in [] (pick h lines)) (range_with_len 0 hosts) → forward ≡ early_order (opened_at opened) lines
    → ((j : Joint) → IsTidy j → lines ≡ flat j [] → IsBroughtForward (opened_at opened) j forward) → joined ≡ joined_lines most_packet_words forward → seen ≡ joined
    → codes ≡ map (hastened_from (opened_at opened) seen) (range_with_len 0 hosts) → ComeEarly hosts lines codes
come_early hosts lines forward shared_lines seen opened codes opened_is order brought shared_is same codes_are j tidy of lines_is =
    let there : opened_at opened ≡ opened_of j =
    opened_there hosts j tidy of opened (opened_is ∙ ap (λ (l : List Line). map (λ h. opened_in [] (pick h l)) (range_with_len 0 hosts)) lines_is) in
    let x = subst (λ (o : Opened). IsBroughtForward o j forward) there (brought j tidy lines_is) in
    let y = shared x.code x.tidy in
    let k : Joint = joined most_packet_words (without_empty x.code) in
    let lines_are : seen ≡ flat k [] = same ∙ shared_is ∙ ap (joined_lines most_packet_words) x.text ∙ y.text in
    record {
      joint = k;
      early = record {
        between = x.code;
        ordered = sym x.text ∙ order ∙ ap (λ (o : Opened). early_order o lines) there ∙ ap (early_order (opened_of j)) lines_is;
        exchanged = x.exchanged;
        shared = refl;
      };
      codes_are =
          codes_are
          ∙ ap₂ (λ (o : Opened) (l : List Line). map (hastened_from o l) (range_with_len 0 hosts)) there lines_are
          ∙ each_hastened (opened_of j) k y.tidy (range_with_len 0 hosts);
    }

pub each_comes_early : {E : Type 0} (hosts : ℕ) (lines forward joined seen : List Line) (opened known : List (List Reg))
    → opened ≡ map (λ h. opened_in [] (pick h lines)) (range_with_len 0 hosts) → known ≡ opened → forward ≡ early_order (opened_at known) lines
    → ((j : Joint) → IsTidy j → lines ≡ flat j [] → IsBroughtForward (opened_at known) j forward) → joined ≡ joined_lines most_packet_words forward → seen ≡ joined
    → (r : Result (List (List Instr)) E) → IfOk r (λ codes. codes ≡ map (hastened_from (opened_at known) seen) (range_with_len 0 hosts)) → IfOk r (ComeEarly hosts lines)
each_comes_early hosts lines forward joined seen opened known opened_is known_is order brought shared_is same (Ok codes) codes_are =
    come_early hosts lines forward joined seen known codes (known_is ∙ opened_is) order brought shared_is same codes_are
each_comes_early hosts lines forward joined seen opened known opened_is known_is order brought shared_is same (Err fault) codes_are = tt

-- a host that is not declared has no code
joint_of_hosts : (program : NormalForm) (protocols : List Proto) → CanRunAt program protocols → (n : ℕ) → n ≡ length program.hosts → IsOfHosts n (joint_of program protocols)
joint_of_hosts program protocols can n e h le = ended_past program protocols can h (subst (λ (m : ℕ). m ≤ h) e le)

pub codes_come_early : {E : Type 0} (program : NormalForm) (protocols : List Proto) → CanRunAt program protocols → (n : ℕ) → n ≡ length program.hosts
    → (lines : List Line) → lines ≡ flat (joint_of program protocols) [] → (r : Result (List (List Instr)) E) → IfOk r (ComeEarly n lines) → IfOk r (AreEarlyCodes program protocols)
codes_come_early program protocols can n e lines lines_are (Ok codes) come =
    subst (λ (m : ℕ). AreEarly m (joint_of program protocols) codes) e
    (come (joint_of program protocols) (joint_is_tidy program protocols can) (joint_of_hosts program protocols can n e) lines_are)
codes_come_early program protocols can n e lines lines_are (Err fault) come = tt
