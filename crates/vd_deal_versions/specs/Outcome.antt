-- What the bytes of a deal file come to: its deal of either version, or the first offset at which they go on as no deal file does.
use Rattle.std.specs.Prelude.{◌≡◌, ℕ, List, ◌++◌, length, Some, Result}
use Rattle.sha2.specs.Sha256.{sha256}
use Rattle.vd_base.specs.declared.faults.FileFault.{FileFault}
use Rattle.vd_base_codec.specs.Exact.{StopsAt}
use Rattle.vd_base_codec.specs.Outcome.{FollowsGrammar}
use Rattle.vd_base_codec.specs.Outcome as file
use Rattle.vd_deal_versions.specs.declared.dealt.Dealt.{Dealt}
use Rattle.vd_channel_crypto.specs.declared.deal_keys.secrets.Secrets.{Secrets}
use Rattle.vd_deal_versions.specs.Text.{IsDealtFile, IsDealtText, sum_line}
use Rattle.vd_deal_versions.specs.Reading.{dealt_read}

-- The bytes have one outcome, and it is what is read of them.
abbrev pub DealtFilesFollowGrammar : (hosts me : ℕ) → List ℕ → Type 0
DealtFilesFollowGrammar hosts me bytes = FollowsGrammar (dealt_read hosts me bytes) (IsDealtFile hosts me bytes) (StopsAt (IsDealtText hosts me) bytes)

-- The fault tells the first offset at which the bytes go on as no deal file does.
abbrev pub IsFirstWrong : (hosts me : ℕ) → List ℕ → FileFault → Type 0
IsFirstWrong hosts me bytes fault = file.IsFirstWrong (StopsAt (IsDealtText hosts me) bytes) fault

-- Unless memory runs out, a deal is answered exactly where the bytes are its text.
abbrev pub Accepts : (hosts me : ℕ) → List ℕ → Result Dealt FileFault → Type 0
Accepts hosts me bytes result = file.Accepts (IsDealtFile hosts me bytes) result

-- Unless memory runs out, a fault is answered exactly where the bytes have it.
abbrev pub Refuses : (hosts me : ℕ) → List ℕ → Result Dealt FileFault → Type 0
Refuses hosts me bytes result = file.Refuses (StopsAt (IsDealtText hosts me) bytes) result

-- Where bytes before the last line of a file of version 2 were changed, and the line was not, the file is one only if both hash alike.
abbrev pub ChangedDealsAreRefused : Type 0
ChangedDealsAreRefused = (hosts me : ℕ) (body changed : List ℕ) (dealt : Dealt) (secrets : Secrets) → length changed ≡ length body
    → IsDealtFile hosts me (changed ++ sum_line body) dealt → dealt.secrets ≡ Some secrets → sha256 changed ≡ sha256 body
