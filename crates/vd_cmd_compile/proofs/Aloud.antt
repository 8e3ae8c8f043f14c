-- What a selected list of protocols says of each slot, and what is stored of each host.
use Rattle.std.proofs.Common.{◌≡◌, ℕ, zero, suc, ◌+◌, ◌<◌, true, ◌&&◌, Some, List, [], ◌∷◌, length, refl, sym, ap, ◌∙◌, subst, arith, slice_get}
use Rattle.std.specs.Prelude.{is_some, nat_lt, slice_index}
use Rattle.std.specs.Option.{option_map}
use Rattle.std.proofs.lemmas.Bool.{and_parts}
use Rattle.std.proofs.lemmas.List.FromFn.{get_or-map-range_with_len}
use Rattle.std.proofs.lemmas.Option.{slice_get-get_or}
use Rattle.vd_base.specs.declared.protocols.Proto.{Proto}
use Rattle.vd_base.specs.Costs.{cost_at}
use Rattle.vd_base.specs.Holders.{proto_in}
use Rattle.vd_core.specs.declared.normal.NormalForm.{NormalForm}
use Rattle.vd_core.specs.Facts.{IsWellMade}
use Rattle.vd_formula.specs.declared.label.Label.{Label}
use Rattle.vd_protocol.specs.Authority.{authority_of}
use Rattle.vd_noninter.proofs.Front.{acts_for}
use Rattle.vd_space.specs.declared.problem.Problem.{Problem}
use Rattle.vd_space.specs.Reading.{problem_of}
use Rattle.vd_formula.specs.TruthTable.{acts}
use Rattle.vd_space.specs.Validity.{covers, protocol, protocols}
use Rattle.vd_space.proofs.Front.{as_many, parts_of}
use Rattle.vd_space.proofs.Front.{proto_is}
use Rattle.vd_noninter_protocols.proofs.Front.{label_of_slot, stand_at}
use Rattle.vd_execution.specs.declared.instructions.Instr.{Instr}
use Rattle.vd_execution.specs.Joint.{code_of}
use Rattle.vd_execution.specs.Text.{text}
use Rattle.vd_hostcode.specs.declared.host_text.program.Digest.{Digest}
use Rattle.vd_projection.specs.Programs.{host_codes, joint_of}
use Rattle.vd_search_stages.specs.declared.optimum.Assignment.{Assignment}
use Rattle.vd_cmd_compile.specs.Compiling.{IsStoredFor, host_file, host_files, plan_for}
use Rattle.vd_cmd_choice.specs.Choice.{IsSelected, printed_at}
use Rattle.vd_cmd_compile.specs.Selected.{AreCovered, Covers}
use Rattle.vd_cmd_compile.proofs.Runnable.{code_count}

-- ---- authority

covers_both : (authority asked : Label) → covers authority asked ≡ true → Covers authority asked
covers_both authority asked is =
    let parts = and_parts (acts authority.conf asked.conf) (acts authority.integ asked.integ) is in
    record { conf = acts_for authority.conf asked.conf parts.0; integ = acts_for authority.integ asked.integ parts.1 }

module _ (program : NormalForm) (a : Assignment) (made : IsWellMade program) (selected : IsSelected program a) where
  abbrev problem : Problem
  problem = problem_of program selected.labels

  abbrev places : List ℕ
  places = selected.optimal.cheapest.valid.places

  -- the protocol of a slot is that at its place
  same_protocol : (x : ℕ) → protocol problem (slice_index places x) ≡ proto_in a.protocols x
  same_protocol x = sym (proto_is problem a.protocols places selected.optimal.cheapest.valid.named x)

  pub covered : AreCovered program selected.labels a.protocols
  covered x low =
      let valid = parts_of problem places selected.optimal.cheapest.valid.is_valid.valid in
      let whole : length places ≡ length program.slots = selected.optimal.cheapest.valid.is_valid.whole ∙ as_many program selected.labels made in
      let q = slice_index places x.0 in
      let there : slice_get places x.0 ≡ Some q = slice_get-get_or places x.0 0 (omega (arith, whole, low)) in
      let found = stand_at problem problem.slots places x.0 q valid.stands there in
      let making = found.0 in
      let authority = authority_of (protocol problem q) problem.hosts in
      let both = (and_parts (nat_lt q (length (protocols problem)) && is_some (cost_at making.row (protocol problem q))) (covers authority making.label) found.1.1).1 in
      subst (λ (l : Label). Covers (authority_of (proto_in a.protocols x.0) problem.hosts) l) (label_of_slot selected.labels program made x.0 making found.1.0)
      (subst (λ (p : Proto). Covers (authority_of p problem.hosts) making.label) (same_protocol x.0) (covers_both authority making.label both))

-- ---- files

-- the file of the host that stands at this place
file_at : (prefix : List ℕ) (hosts : List (List ℕ)) (plan : Digest) (number h : ℕ) (codes : List (List Instr))
    → slice_get (host_files prefix hosts plan number codes) h ≡ option_map (host_file prefix hosts plan (number + h)) (slice_get codes h)
file_at prefix hosts plan number h [] = refl
file_at prefix hosts plan number zero (code ∷ codes) =
    let here : number ≡ number + 0 = omega arith in
    ap (λ (n : ℕ). Some (host_file prefix hosts plan n code)) here
file_at prefix hosts plan number (suc h) (code ∷ codes) =
    let there : (number + 1) + h ≡ number + suc h = omega arith in
    file_at prefix hosts plan (number + 1) h codes ∙ ap (λ (n : ℕ). option_map (host_file prefix hosts plan n) (slice_get codes h)) there

pub stored_for : (program : NormalForm) (a : Assignment) (h : ℕ) → h < length program.hosts → IsStoredFor program a h (text (code_of h (joint_of program a.protocols)) [])
stored_for program a h low source prefix =
    let plan = plan_for source (printed_at program a) in
    let code : ℕ → List Instr = λ k. text (code_of k (joint_of program a.protocols)) [] in
    let count = code_count program a.protocols in
    let there : slice_get (host_codes program a.protocols) h ≡ Some (code h) =
    slice_get-get_or (host_codes program a.protocols) h [] (omega (arith, count, low)) ∙ ap Some (get_or-map-range_with_len code 0 (length program.hosts) h h [] low (omega arith)) in
    let same : 0 + h ≡ h = omega arith in
    file_at prefix program.hosts plan 0 h (host_codes program a.protocols) ∙ ap (option_map (host_file prefix program.hosts plan (0 + h))) there
    ∙ ap (λ (n : ℕ). Some (host_file prefix program.hosts plan n (code h))) same
