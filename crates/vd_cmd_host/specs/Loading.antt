-- What a host's files hold, and why they do not.
use Rattle.std.specs.Prelude.{◌≡◌, ◌≢◌, ◌≤◌, ◌+◌, ℕ, IsTrue, List, [], ◌∷◌, ◌++◌, length, slice_get, Some, Result, Ok, Err, IfOk, IfErr}
use Rattle.vd_base.specs.Limits.{most_deal_bytes, most_host_file_bytes, most_inputs_bytes}
use Rattle.vd_outside.specs.Causes.{Rose}
use Rattle.vd_outside.specs.Files.{Contents, FilesView, fetched}
use Rattle.vd_outside.specs.declared.faults.FetchFault.TheVariants as fetch_fault
use Rattle.vd_outside.specs.declared.files.FilesCall.TheVariants.{Fetch}
use Rattle.vd_cmd.specs.declared.command.CheckWords.{CheckWords}
use Rattle.vd_cmd.specs.declared.command.HostWords.{HostWords}
use Rattle.vd_deal_versions.specs.declared.dealt.Dealt.{Dealt}
use Rattle.vd_host_session.specs.Starts.{IsProgramRead}
use Rattle.vd_hostcode.specs.Outcome.{IsOutcome}
use Rattle.vd_hostcode.specs.declared.host_text.program.HostProgram.{HostProgram}
use Rattle.vd_cmd_plan.specs.Held.{IsHeld}
use Rattle.vd_cmd_plan.specs.Plans.{GrowsWithin, IsLast, fetch_calls}
use Rattle.vd_cmd_plan.specs.declared.status.HostStatus.TheVariants as host_status
use Rattle.vd_cmd_plan.specs.declared.status.Status.{Status}
use Rattle.vd_cmd_plan.specs.declared.status.Status.TheVariants as status
use Rattle.vd_cmd_plan.specs.Programs.{IsProgramEnd}
use Rattle.vd_report.specs.InputsText.{GivesInputs, IsInputsText}
use Rattle.vd_report.specs.Outcome.{FirstWrong}
use Rattle.vd_deal_versions.specs.Outcome.{IsFirstWrong}
use Rattle.vd_deal_versions.specs.Text.{IsDealtFile, IsDealtOf}
use Rattle.vd_tape.specs.Text.{IsDealOf}
use Rattle.vd_base.specs.declared.faults.FileFault.TheVariants as file_fault
use Rattle.vd_cmd_host.specs.declared.loading.Loaded.{Loaded}

-- ---- what bytes hold, and why they do not

abbrev pub IsProgramOf : List ℕ → HostProgram → Type 0
IsProgramOf bytes program = IsOutcome bytes (Ok program)

-- these are the inputs of the host with this number, among those of all hosts
abbrev pub AreInputsOf : (hosts : List (List ℕ)) → (me : ℕ) → List ℕ → List ℕ → Type 0
AreInputsOf hosts me bytes own = (inputs : List (List ℕ)) × GivesInputs hosts bytes inputs × (slice_get inputs me ≡ Some own)

abbrev pub IsInputsEnd : (hosts : List (List ℕ)) → List ℕ → Status → Type 0
IsInputsEnd hosts bytes status.Memory = Unit {0}
IsInputsEnd hosts bytes (status.InputText fault) = FirstWrong IsInputsText hosts bytes fault
IsInputsEnd hosts bytes other = ⊥

abbrev pub IsDealEnd : (hosts : List (List ℕ)) → (me : ℕ) → List ℕ → Status → Type 0
IsDealEnd hosts me bytes status.Memory = Unit {0}
IsDealEnd hosts me bytes (status.DealText name number offset) = (slice_get hosts me ≡ Some name) × (number ≡ me) × IsFirstWrong (length hosts) me bytes (file_fault.Text offset)
IsDealEnd hosts me bytes other = ⊥

-- ---- one file

-- Why a file gives nothing: it is longer than its limit, or its bytes are refused. Running out of memory and faults of the outside
-- stand apart.
abbrev pub IsFileCause : (name : List ℕ) → (limit : ℕ) → (List ℕ → Status → Type 0) → Contents → Status → Type 0
IsFileCause name limit IsEnd contents status.Memory = Unit {0}
IsFileCause name limit IsEnd contents (status.ReadFault file) = file ≡ name
IsFileCause name limit IsEnd contents (status.TooLong file most) = (file ≡ name) × (most ≡ limit) × (fetched (contents name) limit ≡ Err fetch_fault.TooLong)
IsFileCause name limit IsEnd contents other = IsHeld name limit contents (λ bytes. IsEnd bytes other)

-- Whatever is told, loading ends with these alone.
abbrev pub EndsLoading : Status → Type 0
EndsLoading status.Memory = Unit {0}
EndsLoading status.Usage = Unit {0}
EndsLoading (status.ReadFault name) = Unit {0}
EndsLoading (status.TooLong name limit) = Unit {0}
EndsLoading (status.InputText cause) = Unit {0}
EndsLoading (status.DealText name number offset) = Unit {0}
EndsLoading (status.Host (host_status.ProgramText offset)) = Unit {0}
EndsLoading (status.Host (host_status.ProgramRange number)) = Unit {0}
EndsLoading other = ⊥

-- A file is fetched and read: what it gives, and why it gives nothing.
pub record LoadsFile {T : Type 0} (name : List ℕ) (limit : ℕ) (Gives : List ℕ → T → Type 0) (IsEnd : List ℕ → Status → Type 0) (before now : FilesView) (result : Result T Status) : Type 0 where
  pub later : before.faults ≤ now.faults
  pub ends : IfErr result EndsLoading
  pub fault : (file : List ℕ) → result ≡ Err (status.ReadFault file) → Rose before.faults now.faults
  pub last : IsTrue before.told → (file : List ℕ) → result ≡ Err (status.ReadFault file) → IsLast (Fetch file) before.asked now.asked
  pub still_told : IsTrue before.told → IsTrue now.told
  pub contents : IsTrue before.told → now.contents ≡ before.contents
  pub front : IsTrue before.told → GrowsWithin before.asked now.asked (Fetch name ∷ [])
  pub whole : IsTrue before.told → IfOk result (λ value. now.asked ≡ before.asked ++ Fetch name ∷ [])
  pub given : IsTrue before.told → IfOk result (λ value. IsHeld name limit before.contents (λ bytes. Gives bytes value))
  pub cause : IsTrue before.told → IfErr result (IsFileCause name limit IsEnd before.contents)

abbrev pub LoadsProgram : (name : List ℕ) → FilesView → FilesView → Result HostProgram Status → Type 0
LoadsProgram name before now result = LoadsFile name most_host_file_bytes IsProgramOf IsProgramEnd before now result

abbrev pub LoadsInputs : (name : List ℕ) → HostProgram → FilesView → FilesView → Result (List ℕ) Status → Type 0
LoadsInputs name program before now result = LoadsFile name most_inputs_bytes (AreInputsOf program.hosts program.me.0) (IsInputsEnd program.hosts) before now result

abbrev pub LoadsDeal : (name : List ℕ) → HostProgram → FilesView → FilesView → Result Dealt Status → Type 0
LoadsDeal name program before now result =
    LoadsFile name most_deal_bytes (IsDealtFile (length program.hosts) program.me.0) (IsDealEnd program.hosts program.me.0) before now result

-- ---- all files

abbrev pub HoldsProgram : HostWords → Contents → HostProgram → Type 0
HoldsProgram words contents program = IsHeld words.program most_host_file_bytes contents (λ bytes. IsProgramOf bytes program)

abbrev pub HoldsInputs : HostWords → Contents → HostProgram → List ℕ → Type 0
HoldsInputs words contents program own = IsHeld words.inputs most_inputs_bytes contents (λ bytes. AreInputsOf program.hosts program.me.0 bytes own)

abbrev pub HasAddresses : HostWords → HostProgram → Type 0
HasAddresses words program = length words.addresses + 1 ≡ length program.hosts

-- What was loaded is what the files hold, and there is an address for each peer.
pub record HoldsHost (words : HostWords) (contents : Contents) (loaded : Loaded) : Type 0 where
  pub program : HoldsProgram words contents loaded.program
  pub addresses : HasAddresses words loaded.program
  pub inputs : HoldsInputs words contents loaded.program loaded.inputs
  pub deal : IsHeld words.deal most_deal_bytes contents (λ bytes. IsDealtFile (length loaded.program.hosts) loaded.program.me.0 bytes loaded.dealt)

-- such a program, as many addresses as it has peers, and a deal of its host, of either version
pub record IsLoaded (words : HostWords) (loaded : Loaded) : Type 0 where
  pub program : IsProgramRead loaded.program
  pub addresses : HasAddresses words loaded.program
  pub deal : IsDealOf (length loaded.program.hosts) loaded.program.me.0 loaded.dealt.deal
  pub dealt : IsDealtOf (length loaded.program.hosts) loaded.program.me.0 loaded.dealt

-- Why the files were not loaded, in the order in which that is looked at: the program, the number of addresses, the inputs,
-- the deal.
pub data IsCause (words : HostWords) (contents : Contents) (refusal : Status) : Type 0 where
  OfProgram : IsFileCause words.program most_host_file_bytes IsProgramEnd contents refusal → IsCause words contents refusal
  OfAddresses : (program : HostProgram) → HoldsProgram words contents program → length words.addresses + 1 ≢ length program.hosts → refusal ≡ status.Usage → IsCause words contents refusal
  OfInputs : (program : HostProgram) → HoldsProgram words contents program → HasAddresses words program
      → IsFileCause words.inputs most_inputs_bytes (IsInputsEnd program.hosts) contents refusal → IsCause words contents refusal
  OfDeal : (program : HostProgram) (own : List ℕ) → HoldsProgram words contents program → HasAddresses words program → HoldsInputs words contents program own
      → IsFileCause words.deal most_deal_bytes (IsDealEnd program.hosts program.me.0) contents refusal → IsCause words contents refusal

-- the files that are fetched, in their order
abbrev pub files_of : HostWords → List (List ℕ)
files_of words = words.program ∷ words.inputs ∷ words.deal ∷ []

-- The files of a host are fetched in their order and read, until one is refused.
pub record LoadsHost (words : HostWords) (before now : FilesView) (result : Result Loaded Status) : Type 0 where
  pub later : before.faults ≤ now.faults
  pub ends : IfErr result EndsLoading
  pub fault : (name : List ℕ) → result ≡ Err (status.ReadFault name) → Rose before.faults now.faults
  pub last : IsTrue before.told → (name : List ℕ) → result ≡ Err (status.ReadFault name) → IsLast (Fetch name) before.asked now.asked
  pub still_told : IsTrue before.told → IsTrue now.told
  pub contents : IsTrue before.told → now.contents ≡ before.contents
  pub front : IsTrue before.told → GrowsWithin before.asked now.asked (fetch_calls (files_of words))
  pub whole : IsTrue before.told → IfOk result (λ loaded. now.asked ≡ before.asked ++ fetch_calls (files_of words))
  pub given : IsTrue before.told → IfOk result (HoldsHost words before.contents)
  pub cause : IsTrue before.told → IfErr result (IsCause words before.contents)

-- The three files are fetched and read in the same order, with no address to look at, until one is refused.
pub data LoadsFiles (words : CheckWords) (before now : FilesView) : Result Loaded Status → Type 0 where
  NoProgram : (refusal : Status) → LoadsProgram words.program before now (Err refusal) → LoadsFiles words before now (Err refusal)
  NoInputs : (between : FilesView) (program : HostProgram) (refusal : Status) → LoadsProgram words.program before between (Ok program)
      → LoadsInputs words.inputs program between now (Err refusal) → LoadsFiles words before now (Err refusal)
  NoDeal : (between later : FilesView) (program : HostProgram) (inputs : List ℕ) (refusal : Status)
      → LoadsProgram words.program before between (Ok program) → LoadsInputs words.inputs program between later (Ok inputs)
      → LoadsDeal words.deal program later now (Err refusal) → LoadsFiles words before now (Err refusal)
  AllRead : (between later : FilesView) (program : HostProgram) (inputs : List ℕ) (dealt : Dealt)
      → LoadsProgram words.program before between (Ok program) → LoadsInputs words.inputs program between later (Ok inputs)
      → LoadsDeal words.deal program later now (Ok dealt)
      → LoadsFiles words before now (Ok (record { program = program; inputs = inputs; dealt = dealt }))
