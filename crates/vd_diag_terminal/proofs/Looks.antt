-- Words and files that are looked at, and what the stream gains then.
use Rattle.std.proofs.Common.{◌≡◌, ℕ, Bool, List, [], Some, None, Result, Ok, Err, refl, subst}
use Rattle.std.specs.Prelude.{IfOk}
use Rattle.std.specs.Option.{option_map_or}
use Rattle.vd_outside.specs.Files.{FilesView, Fetches}
use Rattle.vd_outside.specs.Sink.{SinkView, WritesAll}
use Rattle.vd_outside.specs.declared.faults.FetchFault.{FetchFault}
use Rattle.vd_cmd_plan.specs.declared.status.Status.{Status}
use Rattle.vd_cmd_plan.proofs.Front.{says}
use Rattle.vd_diag.specs.declared.fault.TellFault.{TellFault}
use Rattle.vd_diag_terminal.specs.Alone.{alone, of_numbered, of_whole, of_word}
use Rattle.vd_diag_terminal.specs.Files.{reading_of, word_at}
use Rattle.vd_diag_terminal.specs.Said.{IsToldOf, IsSaidOfFile, IsSaidOfNamed, IsSaidBy, IsSaid}
use Rattle.vd_diag_terminal.specs.Saying.{SaysMore}
use Rattle.vd_diag_terminal.specs.declared.files.Reading.{Reading}

-- ---- the word at a place

module _ {E : Type 0} (words : List (List ℕ)) (place : ℕ) (result : Result (List ℕ) E) where
  pub of_named : (name sentence : List ℕ) → Some name ≡ word_at words place → IfOk result (λ text. text ≡ of_whole name sentence) → IfOk result (λ text. text ≡ of_word words place sentence)
  of_named name sentence is said = subst (λ word. IfOk result (λ text. text ≡ option_map_or (λ n. of_whole n sentence) word [])) is said

  pub of_prefixed : (name : List ℕ) (number offset : ℕ) → Some name ≡ word_at words place → IfOk result (λ text. text ≡ of_numbered (Some name) number offset)
      → IfOk result (λ text. text ≡ of_numbered (word_at words place) number offset)
  of_prefixed name number offset is said = subst (λ word. IfOk result (λ text. text ≡ of_numbered word number offset)) is said

-- ---- a file

module _ (coloured : Bool) (s : Status) (before now : FilesView) (result : Result (List ℕ) TellFault) where
  pub of_file : (name : List ℕ) (limit : ℕ) (came : Result (List ℕ) FetchFault) → Fetches name limit before now came → IfOk result (IsToldOf coloured s name came) → IsSaidOfFile coloured s name limit before now result
  of_file name limit came fetches said = record { came = came; fetches = fetches; says = said }

module _ (coloured : Bool) (words : List (List ℕ)) (s : Status) (before now : FilesView) (result : Result (List ℕ) TellFault) where
  pub by_name : (reading : Reading) (name : List ℕ) → Some name ≡ word_at words reading.word → IsSaidOfFile coloured s name reading.limit before now result
      → IsSaidBy coloured words s (Some reading) before now result
  by_name reading name is said = subst (λ word. IsSaidOfNamed coloured s word reading.limit before now result) is said

  pub by_reading : (reading : Reading) → Some reading ≡ reading_of words s → IsSaidBy coloured words s (Some reading) before now result → IsSaid coloured words s before now result
  by_reading reading is said = subst (λ read. IsSaidBy coloured words s read before now result) is said

module _ (coloured : Bool) (words : List (List ℕ)) (s : Status) (files : FilesView) where
  pub by_no_name : (reading : Reading) (text : List ℕ) → None ≡ word_at words reading.word → text ≡ [] → IsSaidBy coloured words s (Some reading) files files (Ok text)
  by_no_name reading text is empty = subst (λ word. IsSaidOfNamed coloured s word reading.limit files files (Ok text)) is (record { still = refl; says = empty })

  pub by_itself : (result : Result (List ℕ) TellFault) → None ≡ reading_of words s → IfOk result (λ text. text ≡ alone words s) → IsSaid coloured words s files files result
  by_itself result is said = subst (λ read. IsSaidBy coloured words s read files files result) is (record { still = refl; says = said })

-- ---- the stream

module _ (coloured : Bool) (words : List (List ℕ)) (s : Status) (before now : FilesView) where
  pub says_more : {E : Type 0} (err_before err_now : SinkView) (text : List ℕ) (result : Result (Unit {0}) E) → IsSaid coloured words s before now (Ok text) → WritesAll {E = E} text err_before err_now result
      → SaysMore coloured words s before now err_before err_now (Ok tt)
  says_more err_before err_now text result is writes = record { said = Ok text; is = is; written = (refl, says text err_before err_now result writes) }

  pub says_nothing : (err : SinkView) (fault : TellFault) → IsSaid coloured words s before now (Err fault) → SaysMore coloured words s before now err err (Err fault)
  says_nothing err fault is = record { said = Err fault; is = is; written = (refl, refl) }
