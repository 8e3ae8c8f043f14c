-- What is said of a run of `clear`, put together from its parts.
use Rattle.std.proofs.Common.{◌≡◌, ◌≢◌, ℕ, Bool, true, false, List, [], Option, Some, None, Result, Ok, Err, refl, sym, ◌∙◌, subst}
use Rattle.std.specs.Prelude.{IfOk}
use Rattle.vd_base.specs.Limits.{most_source_bytes, most_inputs_bytes}
use Rattle.vd_semantics.specs.declared.wraps.Wrap.{Wrap}
use Rattle.vd_outside.specs.Files.{FilesView, Fetches}
use Rattle.vd_outside.specs.Sink.{SinkView, WritesAll}
use Rattle.vd_outside.specs.declared.faults.FetchFault.{FetchFault}
use Rattle.vd_cmd_plan.specs.declared.status.Status.{Status}
use Rattle.vd_cmd_plan.specs.declared.status.Status.TheVariants as status
use Rattle.vd_cmd_plan.proofs.Front.{says}
use Rattle.vd_cmd_labels.specs.WhatWraps.{IsWhatWraps}
use Rattle.vd_diag.specs.declared.fault.TellFault.{TellFault}
use Rattle.vd_diag_terminal.specs.Files.{word_at}
use Rattle.vd_diag_terminal.specs.Wraps.{wrap_lines, IsWrapsText, IsToldOfRun, IsSaidOfRun, IsSaidOfNamed, IsSaidOfNames, SaysOfRun, SaysWhere, SaysWraps, is_clear_run}
use Rattle.vd_diag_terminal.specs.declared.telling.Destination.{Destination}

pub of_wraps : {E : Type 0} (coloured : Bool) (name bytes words : List ℕ) (wraps : List Wrap) (result : Result (List ℕ) E) → IsWhatWraps bytes words wraps
    → IfOk result (λ text. text ≡ wrap_lines coloured name bytes wraps) → IfOk result (IsWrapsText coloured name bytes words)
of_wraps coloured name bytes words wraps (Ok text) are is = (wraps, are, is)
of_wraps coloured name bytes words wraps (Err e) are is = tt

module _ (coloured : Bool) (before now : FilesView) (result : Result (List ℕ) TellFault) where
  pub of_two : (source inputs : List ℕ) (between : FilesView) (came given : Result (List ℕ) FetchFault) → Fetches source most_source_bytes before between came → Fetches inputs most_inputs_bytes between now given
      → IfOk result (IsToldOfRun coloured source came given) → IsSaidOfRun coloured source inputs before now result
  of_two source inputs between came given first second said = record { between = between; came = came; given = given; first = first; second = second; says = said }

  pub of_inputs : (words : List (List ℕ)) (source inputs : List ℕ) → Some inputs ≡ word_at words 2 → IsSaidOfRun coloured source inputs before now result → IsSaidOfNamed coloured source (word_at words 2) before now result
  of_inputs words source inputs is said = subst (λ word. IsSaidOfNamed coloured source word before now result) is said

  pub of_source : (words : List (List ℕ)) (source : List ℕ) → Some source ≡ word_at words 1 → IsSaidOfNamed coloured source (word_at words 2) before now result
      → IsSaidOfNames coloured (word_at words 1) (word_at words 2) before now result
  of_source words source is said = subst (λ word. IsSaidOfNames coloured word (word_at words 2) before now result) is said

module _ (coloured : Bool) (words : List (List ℕ)) (files : FilesView) (text : List ℕ) (empty : text ≡ []) where
  pub of_no_inputs : (source : List ℕ) → None ≡ word_at words 2 → IsSaidOfNamed coloured source (word_at words 2) files files (Ok text)
  of_no_inputs source is = subst (λ word. IsSaidOfNamed coloured source word files files (Ok text)) is (record { still = refl; says = empty })

  pub of_no_source : None ≡ word_at words 1 → IsSaidOfNames coloured (word_at words 1) (word_at words 2) files files (Ok text)
  of_no_source is = subst (λ word. IsSaidOfNames coloured word (word_at words 2) files files (Ok text)) is (record { still = refl; says = empty })

-- ---- the stream

module _ (coloured : Bool) (words : List (List ℕ)) (before now : FilesView) where
  pub says_run : {E : Type 0} (err_before err_now : SinkView) (text : List ℕ) (result : Result (Unit {0}) E) → IsSaidOfNames coloured (word_at words 1) (word_at words 2) before now (Ok text)
      → WritesAll {E = E} text err_before err_now result → SaysOfRun coloured words before now err_before err_now (Ok tt)
  says_run err_before err_now text result is writes = record { said = Ok text; is = is; written = (refl, says text err_before err_now result writes) }

  pub says_no_run : (err : SinkView) (fault : TellFault) → IsSaidOfNames coloured (word_at words 1) (word_at words 2) before now (Err fault) → SaysOfRun coloured words before now err err (Err fault)
  says_no_run err fault is = record { said = Err fault; is = is; written = (refl, refl) }

-- ---- whose run it is

pub no_clear_run : (words : List (List ℕ)) (s : Status) → s ≢ status.Ended → false ≡ is_clear_run words s
no_clear_run words status.Ended other = absurd (other refl)
no_clear_run words s other = refl

module _ (destination : Destination) (words : List (List ℕ)) (s : Status) (is : Bool) (tells : is ≡ is_clear_run words s) where
  pub where_clear : (before now : FilesView) (err_before err_now : SinkView) (result : Result (Unit {0}) TellFault) → is ≡ true → SaysWhere true destination words before now err_before err_now result
      → SaysWraps destination words s before now err_before err_now result
  where_clear before now err_before err_now result yes' said = subst (λ (b : Bool). SaysWhere b destination words before now err_before err_now result) (sym yes' ∙ tells) said

  pub where_other : (files : FilesView) (err : SinkView) → is ≡ false → SaysWraps destination words s files files err err (Ok tt)
  where_other files err no' = subst (λ (b : Bool). SaysWhere b destination words files files err err (Ok tt)) (sym no' ∙ tells) (refl, refl, refl)
