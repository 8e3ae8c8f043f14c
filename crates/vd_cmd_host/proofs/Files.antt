-- A file that is fetched and then read.
use Rattle.std.proofs.Common.{◌≡◌, ℕ, IsTrue, List, [], ◌∷◌, ◌++◌, Ok, Err, refl, sym, ap, ◌∙◌}
use Rattle.vd_outside.specs.Files.{FilesView}
use Rattle.vd_outside.specs.declared.files.FilesCall.TheVariants.{Fetch}
use Rattle.vd_cmd_plan.specs.Loads.{Loads}
use Rattle.vd_cmd_plan.specs.declared.status.HostStatus.TheVariants as host_status
use Rattle.vd_cmd_plan.specs.declared.status.Status.{Status}
use Rattle.vd_cmd_plan.specs.declared.status.Status.TheVariants.{DealText, Host, InputText, Memory, ReadFault, TooLong}
use Rattle.vd_cmd_plan.proofs.Front.{all_within, same_within}
use Rattle.vd_cmd_plan.specs.Programs.{IsProgramEnd}
use Rattle.vd_cmd_host.specs.Loading.{EndsLoading, IsDealEnd, IsFileCause, IsInputsEnd, LoadsFile}

-- a reader ends with these alone
abbrev pub IsRead : Status → Type 0
IsRead Memory = Unit {0}
IsRead (InputText cause) = Unit {0}
IsRead (DealText name number offset) = Unit {0}
IsRead (Host (host_status.ProgramText offset)) = Unit {0}
IsRead (Host (host_status.ProgramRange number)) = Unit {0}
IsRead other = ⊥

pub program_read : (bytes : List ℕ) (status : Status) → IsProgramEnd bytes status → IsRead status
program_read bytes Memory is = tt
program_read bytes (Host (host_status.ProgramText offset)) is = tt
program_read bytes (Host (host_status.ProgramRange number)) is = tt
program_read bytes other is = absurd is

pub inputs_read : (hosts : List (List ℕ)) (bytes : List ℕ) (status : Status) → IsInputsEnd hosts bytes status → IsRead status
inputs_read hosts bytes Memory is = tt
inputs_read hosts bytes (InputText cause) is = tt
inputs_read hosts bytes other is = absurd is

pub deal_read : (hosts : List (List ℕ)) (me : ℕ) (bytes : List ℕ) (status : Status) → IsDealEnd hosts me bytes status → IsRead status
deal_read hosts me bytes Memory is = tt
deal_read hosts me bytes (DealText name number offset) is = tt
deal_read hosts me bytes other is = absurd is

module _ {T : Type 0} (name : List ℕ) (limit : ℕ) (Gives : List ℕ → T → Type 0) (IsEnd : List ℕ → Status → Type 0) (before now : FilesView) where
  -- it was not fetched
  pub not_fetched : (status : Status) → Loads name limit before now (Err status) → LoadsFile {T = T} name limit Gives IsEnd before now (Err status)
  not_fetched Memory g = record {
    later = g.later;
    ends = tt;
    fault = λ file e. absurd (cc e);
    last = λ t file e. absurd (cc e);
    still_told = g.still_told;
    contents = g.contents;
    front = λ t. same_within before.asked now.asked _ (g.asked t);
    whole = λ t. tt;
    given = λ t. tt;
    cause = λ t. tt;
  }
  not_fetched (ReadFault file) g = record {
    later = g.later;
    ends = tt;
    fault = λ other e. let s : ReadFault file ≡ ReadFault other = cc e in g.fault other (ap (λ (x : Status). Err x) s);
    last = λ t other e. let s : other ≡ name = cc (e, g.ends) in ([], g.asked t ∙ ap (λ (x : List ℕ). before.asked ++ Fetch x ∷ []) (sym s));
    still_told = g.still_told;
    contents = g.contents;
    front = λ t. all_within before.asked now.asked _ (g.asked t);
    whole = λ t. tt;
    given = λ t. tt;
    cause = λ t. g.ends;
  }
  not_fetched (TooLong file most) g = record {
    later = g.later;
    ends = tt;
    fault = λ other e. absurd (cc e);
    last = λ t other e. absurd (cc e);
    still_told = g.still_told;
    contents = g.contents;
    front = λ t. all_within before.asked now.asked _ (g.asked t);
    whole = λ t. tt;
    given = λ t. tt;
    cause = λ t. (g.ends.0, g.ends.1, g.too_long t file most refl);
  }
  not_fetched other g = absurd g.ends

  module _ (bytes : List ℕ) (loads : Loads name limit before now (Ok bytes)) where
    -- it gives this
    pub gives : (value : T) → Gives bytes value → LoadsFile {T = T} name limit Gives IsEnd before now (Ok value)
    gives value is = record {
      later = loads.later;
      ends = tt;
      fault = λ file e. absurd (cc e);
      last = λ t file e. absurd (cc e);
      still_told = loads.still_told;
      contents = loads.contents;
      front = λ t. all_within before.asked now.asked _ (loads.asked t);
      whole = λ t. loads.asked t;
      given = λ t. record { bytes = bytes; is_fetched = loads.given t; holds = is };
      cause = λ t. tt;
    }

    refused_with : (status : Status) → EndsLoading status → ((file : List ℕ) → status ≡ ReadFault file → ⊥) → (IsTrue before.told → IsFileCause name limit IsEnd before.contents status)
        → LoadsFile {T = T} name limit Gives IsEnd before now (Err status)
    refused_with status ends no_fault cause = record {
      later = loads.later;
      ends = ends;
      fault = λ file e. absurd (no_fault file (cc e));
      last = λ t file e. absurd (no_fault file (cc e));
      still_told = loads.still_told;
      contents = loads.contents;
      front = λ t. all_within before.asked now.asked _ (loads.asked t);
      whole = λ t. tt;
      given = λ t. tt;
      cause = cause;
    }

    -- it gives nothing
    pub refused : (status : Status) → IsRead status → IsEnd bytes status → LoadsFile {T = T} name limit Gives IsEnd before now (Err status)
    refused Memory read is = refused_with Memory tt (λ file e. cc e) (λ t. tt)
    refused (InputText cause) read is = refused_with (InputText cause) tt (λ file e. cc e) (λ t. record { bytes = bytes; is_fetched = loads.given t; holds = is })
    refused (DealText host number offset) read is = refused_with (DealText host number offset) tt (λ file e. cc e) (λ t. record { bytes = bytes; is_fetched = loads.given t; holds = is })
    refused (Host (host_status.ProgramText offset)) read is =
        refused_with (Host (host_status.ProgramText offset)) tt (λ file e. cc e) (λ t. record { bytes = bytes; is_fetched = loads.given t; holds = is })
    refused (Host (host_status.ProgramRange number)) read is =
        refused_with (Host (host_status.ProgramRange number)) tt (λ file e. cc e) (λ t. record { bytes = bytes; is_fetched = loads.given t; holds = is })
    refused other read is = absurd read
