-- The files of a host, one behind the other.
use Rattle.std.proofs.Common.{arith, ◌≡◌, ◌≢◌, ◌≤◌, ◌+◌, ℕ, IsTrue, List, [], ◌∷◌, ◌++◌, length, Option, Some, None, Result, Ok, Err, IfOk, IfErr, refl, sym, ap, subst, ◌∙◌, append_assoc}
use Rattle.std.specs.Prelude.{slice_get}
use Rattle.std.proofs.lemmas.List.{append-nil}
use Rattle.vd_outside.specs.Files.{Contents, FilesView}
use Rattle.vd_outside.specs.declared.files.FilesCall.{FilesCall}
use Rattle.vd_outside.specs.declared.files.FilesCall.TheVariants.{Fetch}
use Rattle.vd_base.specs.Limits.{most_deal_bytes, most_host_file_bytes, most_inputs_bytes}
use Rattle.vd_cmd.specs.declared.command.HostWords.{HostWords}
use Rattle.vd_deal_versions.specs.declared.dealt.Dealt.{Dealt}
use Rattle.vd_deal_versions.specs.Text.{Fit_by, IsDealtFile, IsDealtOf}
use Rattle.vd_hostcode.specs.declared.host_text.program.HostProgram.{HostProgram}
use Rattle.vd_hostcode.specs.Outcome.{CanRun, IsHeaded}
use Rattle.vd_host_session.specs.Starts.{IsProgramRead}
use Rattle.vd_cmd_plan.specs.Held.{IsHeld}
use Rattle.vd_cmd_plan.specs.Loads.{Loads}
use Rattle.vd_cmd_plan.specs.Plans.{GrowsWithin, fetch_calls}
use Rattle.vd_cmd_plan.specs.declared.status.Status.{Status}
use Rattle.vd_cmd_plan.specs.declared.status.Status.TheVariants.{ReadFault, Usage}
use Rattle.vd_cmd_plan.proofs.Front.{front_within, later_within, more_within}
use Rattle.vd_report.specs.InputsText.{GivesInputs}
use Rattle.vd_channel_crypto.specs.declared.deal_keys.secrets.Secrets.{Secrets}
use Rattle.vd_tape.specs.Text.{IsDealOf}
use Rattle.vd_cmd_plan.specs.Programs.{IsProgramEnd}
use Rattle.vd_cmd_host.specs.Loading.{AreInputsOf, HasAddresses, HoldsProgram, HoldsInputs, IsCause, IsDealEnd, IsFileCause, IsInputsEnd, IsProgramOf, LoadsDeal, LoadsFile, LoadsHost, LoadsInputs, LoadsProgram, OfAddresses, OfDeal, OfInputs, OfProgram, files_of}
use Rattle.vd_cmd_host.proofs.Files.{IsRead, deal_read, gives, inputs_read, program_read, refused}

-- a file that was fetched and read to its end
read_file : {T : Type 0} (name : List ℕ) (limit : ℕ) (Gives : List ℕ → T → Type 0) (IsEnd : List ℕ → Status → Type 0) (before now : FilesView) (bytes seen : List ℕ) (result : Result T Status)
    → Loads name limit before now (Ok bytes) → seen ≡ bytes → IfOk result (λ value. Gives seen value) → IfErr result (λ status. IsEnd seen status × IsRead status) → LoadsFile {T = T} name limit Gives IsEnd before now result
read_file {T = T} name limit Gives IsEnd before now bytes seen (Ok value) loads same ok err = gives {T = T} name limit Gives IsEnd before now bytes loads value (subst (λ (l : List ℕ). Gives l value) same ok)
read_file {T = T} name limit Gives IsEnd before now bytes seen (Err status) loads same ok err =
    refused {T = T} name limit Gives IsEnd before now bytes loads status err.1 (subst (λ (l : List ℕ). IsEnd l status) same err.0)

abbrev IsRefused : (List ℕ → Status → Type 0) → List ℕ → Status → Type 0
IsRefused IsEnd bytes status = IsEnd bytes status × IsRead status

both : {T : Type 0} (IsEnd : List ℕ → Status → Type 0) (bytes : List ℕ) (result : Result T Status) → ((status : Status) → IsEnd bytes status → IsRead status) → IfErr result (IsEnd bytes) → IfErr result (IsRefused IsEnd bytes)
both IsEnd bytes (Ok value) reads err = tt
both IsEnd bytes (Err status) reads err = (err, reads status err)

-- what was read is a program as its reader gives it
pub program_is_read : (bytes : List ℕ) (result : Result HostProgram Status) → IfOk result (λ program. IsProgramOf bytes program) → IfOk result IsHeaded → IfOk result CanRun → IfOk result IsProgramRead
program_is_read bytes (Ok program) given heading code = record { read = (bytes, given); heading = heading; code = code }
program_is_read bytes (Err status) given heading code = tt

pub program_file : (name : List ℕ) (before now : FilesView) (bytes seen : List ℕ) (result : Result HostProgram Status) → Loads name most_host_file_bytes before now (Ok bytes) → seen ≡ bytes
    → IfOk result (λ program. IsProgramOf seen program) → IfErr result (IsProgramEnd seen) → LoadsProgram name before now result
program_file name before now bytes seen result loads same ok err =
    read_file {T = HostProgram} name most_host_file_bytes IsProgramOf IsProgramEnd before now bytes seen result loads same ok (both {T = HostProgram} IsProgramEnd seen result (program_read seen) err)

pub no_inputs_file : (name : List ℕ) (program : HostProgram) (before now : FilesView) (bytes seen : List ℕ) (status : Status) → Loads name most_inputs_bytes before now (Ok bytes) → seen ≡ bytes
    → IsInputsEnd program.hosts seen status → LoadsInputs name program before now (Err status)
no_inputs_file name program before now bytes seen status loads same err =
    read_file {T = List ℕ} name most_inputs_bytes (AreInputsOf program.hosts program.me.0) (IsInputsEnd program.hosts) before now bytes seen (Err status) loads same tt (err, inputs_read program.hosts seen status err)

pub inputs_file : (name : List ℕ) (program : HostProgram) (before now : FilesView) (bytes seen : List ℕ) (inputs : List (List ℕ)) (own : List ℕ) → Loads name most_inputs_bytes before now (Ok bytes) → seen ≡ bytes
    → GivesInputs program.hosts seen inputs → slice_get inputs program.me.0 ≡ Some own → LoadsInputs name program before now (Ok own)
inputs_file name program before now bytes seen inputs own loads same are here =
    read_file {T = List ℕ} name most_inputs_bytes (AreInputsOf program.hosts program.me.0) (IsInputsEnd program.hosts) before now bytes seen (Ok own) loads same (inputs, are, here) tt

pub deal_file : (name : List ℕ) (program : HostProgram) (before now : FilesView) (bytes seen : List ℕ) (result : Result Dealt Status) → Loads name most_deal_bytes before now (Ok bytes) → seen ≡ bytes
    → IfOk result (λ dealt. IsDealtFile (length program.hosts) program.me.0 seen dealt) → IfErr result (IsDealEnd program.hosts program.me.0 seen) → LoadsDeal name program before now result
deal_file name program before now bytes seen result loads same ok err =
    read_file {T = Dealt} name most_deal_bytes (IsDealtFile (length program.hosts) program.me.0) (IsDealEnd program.hosts program.me.0) before now bytes seen result loads same ok
    (both {T = Dealt} (IsDealEnd program.hosts program.me.0) seen result (deal_read program.hosts program.me.0 seen) err)

-- these files were fetched and read so far
pub record SoFar (before mid : FilesView) (calls : List FilesCall) : Type 0 where
  pub later : before.faults ≤ mid.faults
  pub still_told : IsTrue before.told → IsTrue mid.told
  pub contents : IsTrue before.told → mid.contents ≡ before.contents
  pub asked : IsTrue before.told → mid.asked ≡ before.asked ++ calls

none_yet : (before : FilesView) → SoFar before before []
none_yet before = record { later = omega arith; still_told = λ t. t; contents = λ t. refl; asked = λ t. sym (append-nil before.asked) }

module _ {T : Type 0} (name : List ℕ) (limit : ℕ) (Gives : List ℕ → T → Type 0) (IsEnd : List ℕ → Status → Type 0) (before mid now : FilesView) (calls : List FilesCall) (so : SoFar before mid calls) where
  one_more : (value : T) → LoadsFile {T = T} name limit Gives IsEnd mid now (Ok value) → SoFar before now (calls ++ Fetch name ∷ [])
  one_more value loads = record {
    later = let first = so.later in let second = loads.later in omega (arith, first, second);
    still_told = λ t. loads.still_told (so.still_told t);
    contents = λ t. loads.contents (so.still_told t) ∙ so.contents t;
    asked = λ t. loads.whole (so.still_told t) ∙ ap (λ (l : List FilesCall). l ++ Fetch name ∷ []) (so.asked t) ∙ append_assoc before.asked calls (Fetch name ∷ []);
  }

  held : (value : T) → LoadsFile {T = T} name limit Gives IsEnd mid now (Ok value) → IsTrue before.told → IsHeld name limit before.contents (λ bytes. Gives bytes value)
  held value loads t = subst (λ (files : Contents). IsHeld name limit files (λ bytes. Gives bytes value)) (so.contents t) (loads.given (so.still_told t))

  stops : (words : HostWords) (rest : List FilesCall) (status : Status) → fetch_calls (files_of words) ≡ calls ++ (Fetch name ∷ [] ++ rest) → LoadsFile {T = T} name limit Gives IsEnd mid now (Err status)
      → (IsTrue before.told → IsFileCause name limit IsEnd before.contents status → IsCause words before.contents status) → LoadsHost words before now (Err status)
  stops words rest status all loads cause = record {
    later = let first = so.later in let second = loads.later in omega (arith, first, second);
    ends = loads.ends;
    fault = λ file e. let s : status ≡ ReadFault file = cc e in let first = so.later in let rose = loads.fault file (ap (λ (x : Status). Err x) s) in omega (arith, first, rose);
    last = λ t file e.
        let s : status ≡ ReadFault file = cc e in
        let p = loads.last (so.still_told t) file (ap (λ (x : Status). Err x) s) in (
          calls ++ p.0,
          p.1 ∙ ap (λ (l : List FilesCall). l ++ (p.0 ++ Fetch file ∷ [])) (so.asked t) ∙ append_assoc before.asked calls (p.0 ++ Fetch file ∷ [])
              ∙ ap (λ (l : List FilesCall). before.asked ++ l) (sym (append_assoc calls p.0 (Fetch file ∷ []))),
        );
    still_told = λ t. loads.still_told (so.still_told t);
    contents = λ t. loads.contents (so.still_told t) ∙ so.contents t;
    front = λ t. subst (GrowsWithin before.asked now.asked) (sym all)
        (later_within before.asked mid.asked now.asked calls (Fetch name ∷ [] ++ rest) (so.asked t) (more_within mid.asked now.asked (Fetch name ∷ []) rest (loads.front (so.still_told t))));
    whole = λ t. tt;
    given = λ t. tt;
    cause = λ t. cause t (subst (λ (files : Contents). IsFileCause name limit IsEnd files status) (so.contents t) (loads.cause (so.still_told t)));
  }

-- the files of a host
module _ (words : HostWords) (before : FilesView) where
  -- the program is not loaded
  pub no_program : (now : FilesView) (status : Status) → LoadsProgram words.program before now (Err status) → LoadsHost words before now (Err status)
  no_program now status loads =
      stops {T = HostProgram} words.program most_host_file_bytes IsProgramOf IsProgramEnd before before now [] (none_yet before) words (Fetch words.inputs ∷ Fetch words.deal ∷ []) status refl loads (λ t cause. OfProgram cause)

  module _ (mid : FilesView) (program : HostProgram) (first : LoadsProgram words.program before mid (Ok program)) where
    behind_program : SoFar before mid (Fetch words.program ∷ [])
    behind_program = one_more {T = HostProgram} words.program most_host_file_bytes IsProgramOf IsProgramEnd before before mid [] (none_yet before) program first

    program_held : IsTrue before.told → HoldsProgram words before.contents program
    program_held = held {T = HostProgram} words.program most_host_file_bytes IsProgramOf IsProgramEnd before before mid [] (none_yet before) program first

    -- the addresses are not as many as the peers
    no_addresses : length words.addresses + 1 ≢ length program.hosts → LoadsHost words before mid (Err Usage)
    no_addresses wrong = record {
      later = behind_program.later;
      ends = tt;
      fault = λ file e. absurd (cc e);
      last = λ t file e. absurd (cc e);
      still_told = behind_program.still_told;
      contents = behind_program.contents;
      front = λ t. front_within before.asked mid.asked (Fetch words.program ∷ []) (Fetch words.inputs ∷ Fetch words.deal ∷ []) (behind_program.asked t);
      whole = λ t. tt;
      given = λ t. tt;
      cause = λ t. OfAddresses program (program_held t) wrong refl;
    }

    pub no_addresses_are : (status : Status) → (status ≡ Usage) × (length words.addresses + 1 ≢ length program.hosts) → LoadsHost words before mid (Err status)
    no_addresses_are status is = subst (λ (s : Status). LoadsHost words before mid (Err s)) (sym is.0) (no_addresses is.1)

    module _ (addresses : HasAddresses words program) where
      -- the inputs are not loaded
      pub no_inputs : (now : FilesView) (status : Status) → LoadsInputs words.inputs program mid now (Err status) → LoadsHost words before now (Err status)
      no_inputs now status loads =
          stops {T = List ℕ} words.inputs most_inputs_bytes (AreInputsOf program.hosts program.me.0) (IsInputsEnd program.hosts) before mid now (Fetch words.program ∷ []) behind_program words (Fetch words.deal ∷ []) status refl loads
          (λ t cause. OfInputs program (program_held t) addresses cause)

      module _ (late : FilesView) (own : List ℕ) (second : LoadsInputs words.inputs program mid late (Ok own)) where
        behind_inputs : SoFar before late (Fetch words.program ∷ Fetch words.inputs ∷ [])
        behind_inputs = one_more {T = List ℕ} words.inputs most_inputs_bytes (AreInputsOf program.hosts program.me.0) (IsInputsEnd program.hosts) before mid late (Fetch words.program ∷ []) behind_program own second

        inputs_held : IsTrue before.told → HoldsInputs words before.contents program own
        inputs_held = held {T = List ℕ} words.inputs most_inputs_bytes (AreInputsOf program.hosts program.me.0) (IsInputsEnd program.hosts) before mid late (Fetch words.program ∷ []) behind_program own second

        -- the deal is not loaded
        pub no_deal : (now : FilesView) (status : Status) → LoadsDeal words.deal program late now (Err status) → LoadsHost words before now (Err status)
        no_deal now status loads =
            stops {T = Dealt} words.deal most_deal_bytes (IsDealtFile (length program.hosts) program.me.0) (IsDealEnd program.hosts program.me.0) before late now (Fetch words.program ∷ Fetch words.inputs ∷ []) behind_inputs words [] status refl loads
            (λ t cause. OfDeal program own (program_held t) addresses (inputs_held t) cause)

        -- all is loaded
        pub all_loaded : (now : FilesView) (dealt : Dealt) → LoadsDeal words.deal program late now (Ok dealt) → LoadsHost words before now (Ok (record { program = program; inputs = own; dealt = dealt }))
        all_loaded now dealt loads =
            let so = one_more {T = Dealt} words.deal most_deal_bytes (IsDealtFile (length program.hosts) program.me.0) (IsDealEnd program.hosts program.me.0) before late now (Fetch words.program ∷ Fetch words.inputs ∷ []) behind_inputs dealt loads in
            record {
              later = so.later;
              ends = tt;
              fault = λ file e. absurd (cc e);
              last = λ t file e. absurd (cc e);
              still_told = so.still_told;
              contents = so.contents;
              front = λ t. front_within before.asked now.asked (Fetch words.program ∷ Fetch words.inputs ∷ Fetch words.deal ∷ []) [] (so.asked t);
              whole = λ t. so.asked t;
              given = λ t. record {
                program = program_held t;
                addresses = addresses;
                inputs = inputs_held t;
                deal = held {T = Dealt} words.deal most_deal_bytes (IsDealtFile (length program.hosts) program.me.0) (IsDealEnd program.hosts program.me.0) before late now (Fetch words.program ∷ Fetch words.inputs ∷ []) behind_inputs dealt loads t;
              };
              cause = λ t. tt;
            }

-- a deal of either version is a deal
pub plain_deal : (hosts me : ℕ) (dealt : Dealt) → IsDealtOf hosts me dealt → IsDealOf hosts me dealt.deal
plain_deal hosts me dealt is = by dealt.secrets is
  where
    by : (secrets : Option Secrets) → Fit_by hosts me dealt.deal secrets → IsDealOf hosts me dealt.deal
    by None fits = fits
    by (Some secrets) fits = fits.0
