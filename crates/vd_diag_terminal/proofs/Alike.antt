-- What is told of two inputs files that have the same token at the same place.
use Rattle.std.proofs.Common.{◌≡◌, ℕ, Bool, List, [], ◌++◌, Option, Some, None, refl, sym, ap, ◌∙◌}
use Rattle.std.specs.Option.{option_map_or}
use Rattle.vd_report.specs.declared.fault.ReadFault.{ReadFault}
use Rattle.vd_report.specs.declared.fault.ReadFault.TheVariants.{Text, UnknownHost, Memory}
use Rattle.vd_cmd_plan.specs.declared.status.Status.TheVariants.{InputText}
use Rattle.vd_diag.specs.Excerpts.{column, head, place}
use Rattle.vd_diag.specs.Files.{host_sentence}
use Rattle.vd_diag.specs.Inputs.{inputs_sentence, token_at}
use Rattle.vd_diag.specs.Lines.{line_number}
use Rattle.vd_diag.specs.Remarks.{at, told_place}
use Rattle.vd_diag.specs.declared.remark.Remark.{Remark}
use Rattle.vd_diag_terminal.specs.Programs.{SaysOne}
use Rattle.vd_diag_terminal.specs.Remarks.{IsInputsRemark}
use Rattle.vd_diag_terminal.specs.Said.{IsAllTold, IsRemarkTold, steps_told, told_of}
use Rattle.vd_diag_terminal.specs.Secret.{AreAlike, AreAlikeAt, NoSecretIsTold}

module _ (coloured : Bool) (name bytes other text : List ℕ) where
  -- a sentence that is made of the token
  head_alike : (offset : ℕ) (sentence : List ℕ → List ℕ) (remark : Remark) → AreAlikeAt bytes other offset → remark ≡ at offset (sentence (token_at bytes offset))
      → told_place coloured name bytes remark ≡ told_place coloured name other (at offset (sentence (token_at other offset)))
  head_alike offset sentence remark alike is =
      ap (told_place coloured name bytes) is
      ∙ ap (λ (n : ℕ). head coloured (place name n (column bytes offset)) (sentence (token_at bytes offset))) alike.same_line
      ∙ ap (λ (n : ℕ). head coloured (place name (line_number other offset) n) (sentence (token_at bytes offset))) alike.same_column
      ∙ ap (λ (token : List ℕ). head coloured (place name (line_number other offset) (column other offset)) (sentence token)) alike.same_token

  of_text : (offset : ℕ) (remark : Option Remark) → AreAlikeAt bytes other offset → SaysOne (IsInputsRemark bytes) (Text offset) remark
      → text ≡ option_map_or (told_of (InputText (Text offset)) coloured name bytes) remark [] → IsRemarkTold coloured (InputText (Text offset)) name other text
  of_text offset None alike says printed = absurd says
  of_text offset (Some remark) alike says printed = record {
    remark = Some (at offset (inputs_sentence (token_at other offset)));
    is = refl;
    printed = printed ∙ head_alike offset inputs_sentence remark alike says;
  }

  of_name : (offset : ℕ) (remark : Option Remark) → AreAlikeAt bytes other offset → SaysOne (IsInputsRemark bytes) (UnknownHost offset) remark
      → text ≡ option_map_or (told_of (InputText (UnknownHost offset)) coloured name bytes) remark [] → IsRemarkTold coloured (InputText (UnknownHost offset)) name other text
  of_name offset None alike says printed = absurd says
  of_name offset (Some remark) alike says printed = record {
    remark = Some (at offset (host_sentence (token_at other offset)));
    is = refl;
    printed = printed ∙ head_alike offset host_sentence remark alike says;
  }

  of_memory : (remark : Option Remark) → SaysOne (IsInputsRemark bytes) Memory remark → IsRemarkTold coloured (InputText Memory) name other text
  of_memory None says = absurd says
  of_memory (Some remark) says = absurd says

  of_fault : (fault : ReadFault) → AreAlike bytes other fault → IsRemarkTold coloured (InputText fault) name bytes text → IsRemarkTold coloured (InputText fault) name other text
  of_fault (Text offset) alike told = of_text offset told.remark alike told.is told.printed
  of_fault (UnknownHost offset) alike told = of_name offset told.remark alike told.is told.printed
  of_fault Memory alike told = of_memory told.remark told.is

-- behind a remark on inputs there are no steps
module _ (coloured : Bool) (name bytes other text : List ℕ) (fault : ReadFault) where
  no_steps : (steps : List Remark) → steps ≡ [] → steps_told coloured name bytes steps ≡ steps_told coloured name other steps
  no_steps steps none = ap (steps_told coloured name bytes) none ∙ sym (ap (steps_told coloured name other) none)

  all_alike : AreAlike bytes other fault → IsAllTold coloured (InputText fault) name bytes text → IsAllTold coloured (InputText fault) name other text
  all_alike alike told = record {
    first = told.first;
    remark = of_fault coloured name bytes other told.first fault alike told.remark;
    steps = told.steps;
    are = told.are;
    printed = told.printed ∙ ap (λ (more : List ℕ). told.first ++ more) (no_steps told.steps told.are);
  }

pub stay_secret : NoSecretIsTold
stay_secret = record {
  inputs = all_alike;
  deals = λ words host number offset. refl;
}
