-- What a choice of protocols comes to in an order that waits less, whatever functions pick the outcomes.
use Rattle.std.proofs.Common.{◌≡◌, ℕ, ◌≤◌, List, [], ◌++◌, length, codes, Ok, refl, ap, ◌∙◌, arith}
use Rattle.sha2.specs.Sha256.{sha256}
use Rattle.vd_base.specs.declared.protocols.Proto.{Proto}
use Rattle.vd_base.specs.Limits.{most_hosts}
use Rattle.vd_outside.specs.declared.stored.Stored.{Stored}
use Rattle.vd_core.specs.declared.normal.NormalForm.{NormalForm}
use Rattle.vd_execution.specs.declared.instructions.Instr.{Instr}
use Rattle.vd_hostcode.specs.declared.host_text.program.Digest.{Digest}
use Rattle.vd_execution.specs.Joint.{Joint}
use Rattle.vd_core.specs.Facts.{IsWellMade}
use Rattle.std.proofs.lemmas.List.FromFn.{length-map-range_with_len}
use Rattle.vd_search_stages.specs.declared.optimum.Assignment.{Assignment}
use Rattle.vd_cmd_plan.specs.Plans.{Computes}
use Rattle.vd_cmd_plan.specs.declared.answer.Answer.{Answer}
use Rattle.vd_cmd_plan.specs.declared.status.Status.TheVariants.{Ended}
use Rattle.vd_cmd_choice.specs.Choice.{printed_at}
use Rattle.vd_cmd_compile.specs.Compiling.{host_files}
use Rattle.vd_projection.specs.Early.{AreEarlyCodes, each_code, early_text, opened_in_order}
use Rattle.vd_cmd_compile_early.specs.Compiling.{early_at, early_plan_for}

abbrev made : List Stored → List ℕ → Answer
made stores printed = record { status = Ended; stores = stores; printed = printed }

-- what is stored and printed is what is wanted
pub answered : (program : NormalForm) (joint : Joint) (a : Assignment) (text prefix printed seen marked shown : List ℕ) (all : List (List Instr)) (plan : Digest) (form : NormalForm) (stores : List Stored)
    → printed ≡ printed_at program a → seen ≡ printed → marked ≡ seen ++ codes "early by round\n" → shown ≡ marked → plan.bytes ≡ sha256 (text ++ shown) → form ≡ program
    → all ≡ each_code (opened_in_order program a.protocols) (length program.hosts) joint → stores ≡ host_files prefix form.hosts plan 0 all → Computes (early_at program joint a text prefix) (Ok (made stores printed))
answered program joint a text prefix printed seen marked shown all plan form stores p q m s b f codes_are is =
    let behind : shown ≡ printed_at program a ++ codes "early by round\n" = s ∙ m ∙ ap (λ (t : List ℕ). t ++ codes "early by round\n") (q ∙ p) in
    let digest : plan ≡ early_plan_for text (printed_at program a) = λ i. record { bytes = (b ∙ ap (λ (t : List ℕ). sha256 (text ++ t)) behind) i } in
    let files : stores ≡ host_files prefix program.hosts (early_plan_for text (printed_at program a)) 0 (each_code (opened_in_order program a.protocols) (length program.hosts) joint) =
    is ∙ (λ i. host_files prefix (f i).hosts (digest i) 0 (codes_are i)) in
    record { proper = (tt, refl); no_fault = λ file x. cc x; settled = λ i. made (files i) (p i) }

-- there is a code for each host
pub few_codes : (program : NormalForm) (list : List Proto) (codes : List (List Instr)) → IsWellMade program → AreEarlyCodes program list codes → length codes ≤ most_hosts
few_codes program list codes made are =
    let count : length codes ≡ length program.hosts =
    ap (λ (cs : List (List Instr)). length cs) are.codes_are ∙ length-map-range_with_len (early_text (opened_in_order program list) are.joint) 0 (length program.hosts) in
    let limit = made.limits.hosts in
    omega (arith, count, limit)
