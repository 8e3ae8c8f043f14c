-- What wraps, by what its texts are.
use Rattle.std.proofs.Common.{◌⊎◌, inl, inr, ◌≡◌, ◌≢◌, ℕ, List, Result, Ok, Err, refl, sym, ap, ◌∙◌, subst}
use Rattle.std.specs.Prelude.{IfOk}
use Rattle.vd_core.specs.declared.source.Source.{Source}
use Rattle.vd_parser.specs.Outcomes.{IsParse}
use Rattle.vd_parser.specs.declared.fault.ParseFault.{ParseFault}
use Rattle.vd_parser.specs.declared.fault.ParseFault.TheVariants as parse_fault
use Rattle.vd_report.specs.InputsText.{GivesInputs}
use Rattle.vd_report.specs.Outcome.{Accepts}
use Rattle.vd_report.specs.declared.fault.ReadFault.{ReadFault}
use Rattle.vd_report.specs.declared.fault.ReadFault.TheVariants as read_fault
use Rattle.vd_semantics.specs.SourceMeaning.{host_names}
use Rattle.vd_semantics.specs.Wraps.{source_wraps}
use Rattle.vd_semantics.specs.declared.wraps.Wrap.{Wrap}
use Rattle.vd_cmd_labels.specs.WhatWraps.{IsWhatWraps, IsWhatWrapsIn}

-- ---- the words that a text hands in are those that were read

there : (source : Source) (names : List (List ℕ)) (words : List ℕ) → names ≡ host_names source.hosts → (inputs : List (List ℕ))
    → GivesInputs (host_names source.hosts) words inputs → GivesInputs names words inputs
there source names words same inputs gives = subst (λ (hosts : List (List ℕ)). GivesInputs hosts words inputs) (sym same) gives

module _ {E : Type 0} (source : Source) (names : List (List ℕ)) (words : List ℕ) (same : names ≡ host_names source.hosts) where
  pub by_words : (given : List (List ℕ)) (result : Result (List Wrap) E) → Accepts (Ok given) (GivesInputs names words)
      → IfOk result (λ wraps. wraps ≡ source_wraps source given) → IfOk result (IsWhatWrapsIn source words)
  by_words given (Ok wraps) accepts is = λ inputs gives.
      let read : ◌≡◌ {A = Result (List (List ℕ)) ReadFault} (Ok given) (Ok inputs) = (accepts (λ e. cc e) inputs).1 (there source names words same inputs gives) in
      let found : given ≡ inputs = cc read in
      is ∙ ap (λ (i : List (List ℕ)). source_wraps source i) found
  by_words given (Err e) accepts is = tt

  pub by_no_words : (fault : ReadFault) (result : Result (List Wrap) E) → Accepts (Err fault) (GivesInputs names words)
      → IfOk result (λ wraps. fault ≢ read_fault.Memory) → IfOk result (IsWhatWrapsIn source words)
  by_no_words fault (Ok wraps) accepts other = λ inputs gives.
      let read : ◌≡◌ {A = Result (List (List ℕ)) ReadFault} (Err fault) (Ok inputs) = (accepts (λ e. other (cc e)) inputs).1 (there source names words same inputs gives) in
      absurd (cc read)
  by_no_words fault (Err e) accepts other = tt

-- ---- the source that a text is is the one that was parsed

module _ {E : Type 0} (bytes words : List ℕ) where
  pub by_tree : (tree : Source) (result : Result (List Wrap) E)
      → ((answer : Result Source ParseFault) → IsParse bytes answer → (◌≡◌ {A = Result Source ParseFault} (Ok tree) (Err parse_fault.Memory)) ⊎ (Ok tree ≡ answer))
      → IfOk result (IsWhatWrapsIn tree words) → IfOk result (IsWhatWraps bytes words)
  by_tree tree (Ok wraps) exact is = λ source parses. at source (exact (Ok source) parses) where
    at : (source : Source) → (◌≡◌ {A = Result Source ParseFault} (Ok tree) (Err parse_fault.Memory)) ⊎ (◌≡◌ {A = Result Source ParseFault} (Ok tree) (Ok source)) → IsWhatWrapsIn source words wraps
    at source (inl e) = absurd (cc e)
    at source (inr e) = let found : tree ≡ source = cc e in subst (λ (s : Source). IsWhatWrapsIn s words wraps) found is
  by_tree tree (Err e) exact is = tt

  pub by_no_tree : (fault : ParseFault) (result : Result (List Wrap) E)
      → ((answer : Result Source ParseFault) → IsParse bytes answer → (◌≡◌ {A = Result Source ParseFault} (Err fault) (Err parse_fault.Memory)) ⊎ (Err fault ≡ answer))
      → IfOk result (λ wraps. fault ≢ parse_fault.Memory) → IfOk result (IsWhatWraps bytes words)
  by_no_tree fault (Ok wraps) exact other = λ source parses. at source (exact (Ok source) parses) where
    at : (source : Source) → (◌≡◌ {A = Result Source ParseFault} (Err fault) (Err parse_fault.Memory)) ⊎ (◌≡◌ {A = Result Source ParseFault} (Err fault) (Ok source)) → IsWhatWrapsIn source words wraps
    at source (inl e) = absurd (other (cc e))
    at source (inr e) = absurd (cc e)
  by_no_tree fault (Err e) exact other = tt
