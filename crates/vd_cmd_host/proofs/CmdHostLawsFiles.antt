-- Files hold one host, and where they hold one they are not refused.
use Rattle.std.proofs.Common.{◌≡◌, ◌<◌, ◌≤◌, ◌+◌, ℕ, List, length, Some, Result, Ok, Err, refl, sym, subst}
use Rattle.std.specs.Prelude.{slice_get}
use Rattle.vd_base.specs.Limits.{most_deal_bytes, most_host_file_bytes, most_hosts, most_inputs_bytes}
use Rattle.vd_outside.specs.Files.{Contents}
use Rattle.vd_cmd.specs.declared.command.HostWords.{HostWords}
use Rattle.vd_deal_versions.specs.declared.dealt.Dealt.{Dealt}
use Rattle.vd_hostcode.specs.Outcome.{IsOutcome}
use Rattle.vd_hostcode.specs.declared.fault.CodeFault.{CodeFault}
use Rattle.vd_hostcode.specs.declared.fault.CodeFault.TheVariants as code_fault
use Rattle.vd_hostcode.proofs.Front.{answers_of, headed}
use Rattle.vd_hostcode.specs.declared.host_text.program.HostProgram.{HostProgram}
use Rattle.vd_cmd_plan.specs.Held.{IsHeld}
use Rattle.vd_cmd_plan.specs.declared.status.HostStatus.TheVariants as host_status
use Rattle.vd_cmd_plan.specs.declared.status.Status.{Status}
use Rattle.vd_cmd_plan.specs.declared.status.Status.TheVariants.{DealText, Host, InputText, Memory, ReadFault, TooLong}
use Rattle.vd_report.specs.Inputs.{inputs_read}
use Rattle.vd_report.specs.InputsText.{GivesInputs, IsInputsText}
use Rattle.vd_report.specs.Outcome.{FirstWrong}
use Rattle.vd_report.specs.declared.fault.ReadFault.{ReadFault as InputsFault}
use Rattle.vd_report.proofs.Front.{follows_grammar}
use Rattle.vd_deal_versions.specs.Reading.{dealt_read}
use Rattle.vd_deal_versions.specs.Text.{IsDealtFile}
use Rattle.vd_deal_versions.proofs.Front.{follow_grammar}
use Rattle.vd_cmd_plan.specs.Programs.{IsProgramEnd}
use Rattle.vd_cmd_host.specs.Loading.{AreInputsOf, HoldsHost, HoldsInputs, HoldsProgram, IsCause, IsDealEnd, IsFileCause, IsInputsEnd, IsProgramOf, OfAddresses, OfDeal, OfInputs, OfProgram}
use Rattle.vd_cmd_host.specs.declared.loading.Loaded.{Loaded}

-- ---- a program

one_program : (bytes : List ℕ) (p q : HostProgram) → IsOutcome bytes (Ok p) → IsOutcome bytes (Ok q) → p ≡ q
one_program bytes p q h k =
    let same : ◌≡◌ {A = Result HostProgram CodeFault} (Ok p) (Ok q) = (answers_of bytes (Ok p) (λ some. h) (λ e. cc) (Ok q)).1 k in
    cc

no_program_fault : (bytes : List ℕ) (p : HostProgram) (fault : CodeFault) → IsOutcome bytes (Ok p) → IsOutcome bytes (Err fault) → ⊥
no_program_fault bytes p fault h k =
    let same : ◌≡◌ {A = Result HostProgram CodeFault} (Ok p) (Err fault) = (answers_of bytes (Ok p) (λ some. h) (λ e. cc) (Err fault)).1 k in
    cc

pub plan_length : (bytes : List ℕ) (p : HostProgram) → IsOutcome bytes (Ok p) → length p.plan.bytes ≡ 32
plan_length bytes p h = subst (λ (q : HostProgram). length q.plan.bytes ≡ 32) (sym h.0.3) h.0.1.plan.0

-- ---- inputs

one_inputs : (hosts : List (List ℕ)) (bytes : List ℕ) (a b : List (List ℕ)) → GivesInputs hosts bytes a → GivesInputs hosts bytes b → a ≡ b
one_inputs hosts bytes a b h k =
    let first : inputs_read hosts bytes ≡ Ok a = ((follows_grammar hosts bytes).given a).1 h in
    let second : inputs_read hosts bytes ≡ Ok b = ((follows_grammar hosts bytes).given b).1 k in
    cc

one_own : (hosts : List (List ℕ)) (me : ℕ) (bytes own other : List ℕ) → AreInputsOf hosts me bytes own → AreInputsOf hosts me bytes other → own ≡ other
one_own hosts me bytes own other h k =
    let same : h.0 ≡ k.0 = one_inputs hosts bytes h.0 k.0 h.1 k.1 in
    let first : slice_get h.0 me ≡ Some own = h.2 in
    let second : slice_get k.0 me ≡ Some other = k.2 in
    cc

no_inputs_fault : (hosts : List (List ℕ)) (bytes : List ℕ) (a : List (List ℕ)) (fault : InputsFault) → GivesInputs hosts bytes a → FirstWrong IsInputsText hosts bytes fault → ⊥
no_inputs_fault hosts bytes a fault h k =
    let first : inputs_read hosts bytes ≡ Ok a = ((follows_grammar hosts bytes).given a).1 h in
    let second : inputs_read hosts bytes ≡ Err fault = ((follows_grammar hosts bytes).refused fault).1 k in
    cc

-- ---- a deal

one_deal : (hosts me : ℕ) (bytes : List ℕ) (a b : Dealt) → hosts ≤ most_hosts → me < hosts → IsDealtFile hosts me bytes a → IsDealtFile hosts me bytes b → a ≡ b
one_deal hosts me bytes a b few declared h k =
    let first : dealt_read hosts me bytes ≡ Ok a = ((follow_grammar hosts me bytes few declared).given a).1 h in
    let second : dealt_read hosts me bytes ≡ Ok b = ((follow_grammar hosts me bytes few declared).given b).1 k in
    cc

-- ---- what is held at a name

same_bytes : (name : List ℕ) (limit : ℕ) (contents : Contents) (Is IsOther : List ℕ → Type 0) (a : IsHeld name limit contents Is) (b : IsHeld name limit contents IsOther) → a.bytes ≡ b.bytes
same_bytes name limit contents Is IsOther a b = let first = a.is_fetched in let second = b.is_fetched in cc

-- two things that one file holds are one, where its bytes say one alone
same_held : {T : Type 0} (name : List ℕ) (limit : ℕ) (contents : Contents) (Gives : List ℕ → T → Type 0) (x y : T) → ((bytes : List ℕ) → Gives bytes x → Gives bytes y → x ≡ y)
    → IsHeld name limit contents (λ bytes. Gives bytes x) → IsHeld name limit contents (λ bytes. Gives bytes y) → x ≡ y
same_held name limit contents Gives x y one a b =
    one a.bytes a.holds (subst (λ (l : List ℕ). Gives l y) (sym (same_bytes name limit contents (λ bytes. Gives bytes x) (λ bytes. Gives bytes y) a b)) b.holds)

-- a file that holds what it should is not refused
file_cause : (name : List ℕ) (limit : ℕ) (IsEnd : List ℕ → Status → Type 0) (Is : List ℕ → Type 0) (contents : Contents) (end : Status) → IsHeld name limit contents Is
    → ((bytes : List ℕ) → Is bytes → IsEnd bytes end → end ≡ Memory) → ((file : List ℕ) → end ≡ ReadFault file → ⊥) → IsFileCause name limit IsEnd contents end → end ≡ Memory
file_cause name limit IsEnd Is contents Memory held wrong read cause = refl
file_cause name limit IsEnd Is contents (ReadFault file) held wrong read cause = absurd (read file refl)
file_cause name limit IsEnd Is contents (TooLong file most) held wrong read cause = absurd (let first = held.is_fetched in let second = cause.2 in cc)
file_cause name limit IsEnd Is contents other held wrong read cause =
    wrong cause.bytes (subst Is (same_bytes name limit contents Is (λ bytes. IsEnd bytes other) held cause) held.holds) cause.holds

program_wrong : (program : HostProgram) (bytes : List ℕ) (end : Status) → IsProgramOf bytes program → IsProgramEnd bytes end → end ≡ Memory
program_wrong program bytes Memory is wrong = refl
program_wrong program bytes (Host (host_status.ProgramText offset)) is wrong = absurd (no_program_fault bytes program (code_fault.Text offset) is wrong)
program_wrong program bytes (Host (host_status.ProgramRange number)) is wrong = absurd (no_program_fault bytes program (code_fault.Range number) is wrong)
program_wrong program bytes other is wrong = absurd wrong

inputs_wrong : (hosts : List (List ℕ)) (me : ℕ) (own bytes : List ℕ) (end : Status) → AreInputsOf hosts me bytes own → IsInputsEnd hosts bytes end → end ≡ Memory
inputs_wrong hosts me own bytes Memory is wrong = refl
inputs_wrong hosts me own bytes (InputText fault) is wrong = absurd (no_inputs_fault hosts bytes is.0 fault is.1 wrong)
inputs_wrong hosts me own bytes other is wrong = absurd wrong

deal_wrong : (hosts : List (List ℕ)) (me : ℕ) (deal : Dealt) (bytes : List ℕ) (end : Status) → IsDealtFile (length hosts) me bytes deal → IsDealEnd hosts me bytes end → end ≡ Memory
deal_wrong hosts me deal bytes Memory is wrong = refl
deal_wrong hosts me deal bytes (DealText name number offset) is wrong = absurd (wrong.2.1.no_text (deal, is))
deal_wrong hosts me deal bytes other is wrong = absurd wrong

-- ---- a host

module _ (words : HostWords) (contents : Contents) where
  same_program : (p q : HostProgram) → HoldsProgram words contents p → HoldsProgram words contents q → p ≡ q
  same_program p q a b = same_held {T = HostProgram} words.program most_host_file_bytes contents IsProgramOf p q (λ bytes h k. one_program bytes p q h k) a b

  same_own : (program : HostProgram) (own other : List ℕ) → HoldsInputs words contents program own → HoldsInputs words contents program other → own ≡ other
  same_own program own other a b =
      same_held {T = List ℕ} words.inputs most_inputs_bytes contents (AreInputsOf program.hosts program.me.0) own other (λ bytes h k. one_own program.hosts program.me.0 bytes own other h k) a b

  abbrev HoldsDeal : HostProgram → Dealt → Type 0
  HoldsDeal program deal = IsHeld words.deal most_deal_bytes contents (λ bytes. IsDealtFile (length program.hosts) program.me.0 bytes deal)

  same_deal : (program : HostProgram) (deal other : Dealt) → length program.hosts ≤ most_hosts → program.me.0 < length program.hosts → HoldsDeal program deal → HoldsDeal program other → deal ≡ other
  same_deal program deal other few declared a b =
      same_held {T = Dealt} words.deal most_deal_bytes contents (IsDealtFile (length program.hosts) program.me.0) deal other
      (λ bytes h k. one_deal (length program.hosts) program.me.0 bytes deal other few declared h k) a b

  pub same_loaded : (a b : Loaded) → HoldsHost words contents a → HoldsHost words contents b → a ≡ b
  same_loaded a b h k =
      let programs = same_program a.program b.program h.program k.program in
      let heading = headed h.program.bytes a.program h.program.holds.0 in
      let own = same_own a.program a.inputs b.inputs h.inputs (subst (λ (p : HostProgram). HoldsInputs words contents p b.inputs) (sym programs) k.inputs) in
      let deals = same_deal a.program a.dealt b.dealt heading.few heading.me h.deal (subst (λ (p : HostProgram). HoldsDeal p b.dealt) (sym programs) k.deal) in
      λ j. record { program = programs j; inputs = own j; dealt = deals j }

  pub not_refused : (loaded : Loaded) (end : Status) → HoldsHost words contents loaded → ((file : List ℕ) → end ≡ ReadFault file → ⊥) → IsCause words contents end → end ≡ Memory
  not_refused loaded end held read (OfProgram cause) =
      file_cause words.program most_host_file_bytes IsProgramEnd (λ bytes. IsProgramOf bytes loaded.program) contents end held.program (λ bytes is wrong. program_wrong loaded.program bytes end is wrong) read cause
  not_refused loaded end held read (OfAddresses program is wrong usage) =
      absurd (wrong (subst (λ (p : HostProgram). length words.addresses + 1 ≡ length p.hosts) (same_program loaded.program program held.program is) held.addresses))
  not_refused loaded end held read (OfInputs program is addresses cause) =
      let same = same_program loaded.program program held.program is in
      file_cause words.inputs most_inputs_bytes (IsInputsEnd program.hosts) (λ bytes. AreInputsOf program.hosts program.me.0 bytes loaded.inputs) contents end
      (subst (λ (p : HostProgram). HoldsInputs words contents p loaded.inputs) same held.inputs) (λ bytes is wrong. inputs_wrong program.hosts program.me.0 loaded.inputs bytes end is wrong) read cause
  not_refused loaded end held read (OfDeal program own is addresses owned cause) =
      let same = same_program loaded.program program held.program is in
      file_cause words.deal most_deal_bytes (IsDealEnd program.hosts program.me.0) (λ bytes. IsDealtFile (length program.hosts) program.me.0 bytes loaded.dealt) contents end
      (subst (λ (p : HostProgram). HoldsDeal p loaded.dealt) same held.deal) (λ bytes is wrong. deal_wrong program.hosts program.me.0 loaded.dealt bytes end is wrong) read cause
