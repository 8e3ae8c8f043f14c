-- Lines of statuses with two numbers, as a person reads them.
use Rattle.std.specs.Prelude.{◌≡◌, ℕ, ◌<◌, ◌^◌, List, [], ◌∷◌, codes}
use Rattle.std.specs.Fmt.{decimal}
use Rattle.vd_base.specs.Words.{IsWord}
use Rattle.vd_report.specs.LineWords.{line_words}
use Rattle.vd_cmd_plan.specs.Lines.{status_line}
use Rattle.vd_cmd_plan.specs.declared.status.FlowFault.{FlowFault}
use Rattle.vd_cmd_plan.specs.declared.status.HostStatus.TheVariants.{BadFrame, ShortInput, Unequal, WrongHost}
use Rattle.vd_cmd_plan.specs.declared.status.Status.{Status}
use Rattle.vd_cmd_plan.specs.declared.status.Status.TheVariants.{Flow, Host}

abbrev pub told_words : Status → List (List ℕ)
told_words status = line_words (status_line status)

-- The number of a check stands before its offset in the source, and the word that came first before the second. What was wanted
-- stands before what came, and what was taken before what there is.
pub record NumbersInOrder : Type 0 where
  pub flow : (fault : FlowFault) → IsWord fault.number → IsWord fault.check.offset
      → told_words (Flow fault)
      ≡ codes "viaduct:" ∷ codes "flow" ∷ codes "check" ∷ decimal fault.number ∷ codes "at" ∷ decimal fault.check.offset ∷ []
  pub unequal : (left right : ℕ) → IsWord left → IsWord right
      → told_words (Host (Unequal left right)) ≡ codes "viaduct:" ∷ codes "unequal" ∷ decimal left ∷ decimal right ∷ []
  pub wrong_host : (wanted named : ℕ) → IsWord wanted → IsWord named
      → told_words (Host (WrongHost wanted named)) ≡ codes "viaduct:" ∷ codes "wrong" ∷ codes "host" ∷ decimal wanted ∷ decimal named ∷ []
  pub short_input : (cursor count : ℕ) → cursor < 2 ^ 64 → count < 2 ^ 64
      → told_words (Host (ShortInput cursor count)) ≡ codes "viaduct:" ∷ codes "short" ∷ codes "input" ∷ decimal cursor ∷ decimal count ∷ []
  pub frame : (offset byte : ℕ) → offset < 2 ^ 64 → IsWord byte
      → told_words (Host (BadFrame offset byte))
      ≡ codes "viaduct:" ∷ codes "bad" ∷ codes "frame" ∷ codes "at" ∷ decimal offset ∷ codes "byte" ∷ decimal byte ∷ []
