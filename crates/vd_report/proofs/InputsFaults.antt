-- A refusal of an inputs file is at the first token that cannot stand there.
use Rattle.std.proofs.Common.{◌≡◌, ℕ, Bool, true, false, inl, inr, List, [], ◌∷◌, ◌++◌, length, refl, ap, sym, ◌∙◌, subst, Option, Some, None, is_some, Ok, Err, replicate, slice_set, slice_index_or, nat_lt, if◌then◌else◌}
use Rattle.vd_report.specs.declared.fault.ReadFault.{ReadFault}
use Rattle.vd_report.specs.declared.fault.ReadFault.TheVariants.{Text, UnknownHost}
use Rattle.vd_report.specs.declared.token.TokenKind.{TokenKind}
use Rattle.vd_report.specs.declared.token.TokenKind.TheVariants as kind
use Rattle.vd_report.specs.declared.token.Token.{Token}
use Rattle.vd_report.specs.Hosts.{host_of}
use Rattle.vd_report.specs.Tokens.{tokens_at, text_of, capped}
use Rattle.vd_report.specs.Inputs.{Sections, Place, between, named, listing, Step, go, stop, at_name, at_section, at_colon, at_word, step, reads, inputs_read}
use Rattle.vd_report.specs.Outcome.{BeginsWith, FirstWrong}
use Rattle.vd_report.specs.InputsText.{AreSections, IsInputsText, InputsFollowGrammar}
use Rattle.vd_report.proofs.TokenSteps.{HasEnd, has_end}
use Rattle.vd_report.proofs.InputsSteps.{next, unfold_step, reads_go, reads_stop}
use Rattle.vd_report.proofs.InputsLaw.{Fits, fits_start, accept, between_known, given_inputs, accepted_inputs}
use Rattle.vd_report.proofs.InputsFurther.{GoesOn, goes_on, name_could_stand, text_could_not}
use Rattle.vd_report.proofs.Outcomes.{IsToldAt, fault_is_at, fault_said}

module _ (hosts : List (List ℕ)) (bytes : List ℕ) where
  text_at : (t : Token) (fault : ReadFault) → Step.stop (Err (Text (capped t.start))) ≡ stop (Err fault) → IsToldAt hosts bytes t fault
  text_at t fault h = let e : Text (capped t.start) ≡ fault = cc in subst (IsToldAt hosts bytes t) e refl

  -- which fault a token has that is refused
  module _ (t : Token) (fault : ReadFault) where
    at_old : (s : Sections) (host : ℕ) (old : Bool) → (if old then stop (Err (Text (capped t.start))) else go (named host) s) ≡ stop (Err fault) → IsToldAt hosts bytes t fault
    at_old s host true h = text_at t fault h
    at_old s host false h = absurd cc

    at_found : (s : Sections) → t.kind ≡ kind.Name → (o : Option ℕ) → host_of hosts (text_of bytes t) ≡ o → at_name s (capped t.start) o ≡ stop (Err fault) → IsToldAt hosts bytes t fault
    at_found s e None found h = let is : UnknownHost (capped t.start) ≡ fault = cc in subst (IsToldAt hosts bytes t) is (refl, e, found)
    at_found s e (Some host) found h = at_old s host (is_some (slice_index_or s host None)) h

    at_start : (s : Sections) (k : TokenKind) → t.kind ≡ k → at_section hosts s (capped t.start) (text_of bytes t) k ≡ stop (Err fault) → IsToldAt hosts bytes t fault
    at_start s kind.End e h = absurd cc
    at_start s kind.Name e h = at_found s e (host_of hosts (text_of bytes t)) refl h
    at_start s kind.All e h = text_at t fault h
    at_start s kind.Colon e h = text_at t fault h
    at_start s (kind.Number v) e h = text_at t fault h
    at_start s kind.Other e h = text_at t fault h

    behind_name : (s : Sections) (host : ℕ) (k : TokenKind) → at_colon host s (capped t.start) k ≡ stop (Err fault) → IsToldAt hosts bytes t fault
    behind_name s host kind.Colon h = absurd cc
    behind_name s host kind.End h = text_at t fault h
    behind_name s host kind.Name h = text_at t fault h
    behind_name s host kind.All h = text_at t fault h
    behind_name s host (kind.Number v) h = text_at t fault h
    behind_name s host kind.Other h = text_at t fault h

    at_limit : (s : Sections) (host : ℕ) (words : List ℕ) (v : ℕ) (b : Bool) → (if b then go (listing host (words ++ v ∷ [])) s else stop (Err (Text (capped t.start)))) ≡ stop (Err fault) → IsToldAt hosts bytes t fault
    at_limit s host words v true h = absurd cc
    at_limit s host words v false h = text_at t fault h

    in_section : (s : Sections) (host : ℕ) (words : List ℕ) (k : TokenKind) → t.kind ≡ k → at_word hosts host words s (capped t.start) (text_of bytes t) k ≡ stop (Err fault) → IsToldAt hosts bytes t fault
    in_section s host words (kind.Number v) e h = at_limit s host words v (nat_lt (length words) 65536) h
    in_section s host words kind.End e h = at_start (slice_set s host (Some words)) kind.End e h
    in_section s host words kind.Name e h = at_start (slice_set s host (Some words)) kind.Name e h
    in_section s host words kind.All e h = at_start (slice_set s host (Some words)) kind.All e h
    in_section s host words kind.Colon e h = at_start (slice_set s host (Some words)) kind.Colon e h
    in_section s host words kind.Other e h = at_start (slice_set s host (Some words)) kind.Other e h

    fault_at : (place : Place) (s : Sections) → step hosts bytes place s t ≡ stop (Err fault) → IsToldAt hosts bytes t fault
    fault_at between s h = at_start s t.kind refl h
    fault_at (named host) s h = behind_name s host t.kind h
    fault_at (listing host words) s h = in_section s host words t.kind refl h

  -- the end is never gone past
  past_end : (place : Place) (s : Sections) (t : Token) → t.kind ≡ kind.End → (place' : Place) (s' : Sections) → step hosts bytes place s t ≡ go place' s' → ⊥
  past_end between s t e place' s' h = let stopped = ap (at_section hosts s (capped t.start) (text_of bytes t)) e in absurd cc
  past_end (named host) s t e place' s' h = let stopped = ap (at_colon host s (capped t.start)) e in absurd cc
  past_end (listing host words) s t e place' s' h = let stopped = ap (at_word hosts host words s (capped t.start) (text_of bytes t)) e in absurd cc

  record Stops (place : Place) (s : Sections) (ts : List Token) (fault : ReadFault) : Type 0 where
    front : List Token
    wrong : Token
    behind : List Token
    are : front ++ wrong ∷ behind ≡ ts
    at_wrong : IsToldAt hosts bytes wrong fault
    goes : GoesOn hosts bytes place s front
    always : (more : List Token) → reads hosts bytes place s (front ++ wrong ∷ more) ≡ Err fault

  module _ (fault : ReadFault) where
    stops_by : (place : Place) (s : Sections) (t : Token) (ts : List Token) → HasEnd (t ∷ ts) → ((place' : Place) (s' : Sections) → HasEnd ts → reads hosts bytes place' s' ts ≡ Err fault → Stops place' s' ts fault) → (st : Step) → step hosts bytes place s t ≡ st → next hosts bytes ts st ≡ Err fault → Stops place s (t ∷ ts) fault
    stops_by place s t ts ended rest (stop r) e h = record {
      front = [];
      wrong = t;
      behind = ts;
      are = refl;
      at_wrong = fault_at t fault place s (e ∙ ap stop h);
      goes = goes_on hosts bytes place s;
      always = λ more. reads_stop hosts bytes more place s t r e ∙ h;
    }
    stops_by place s t ts (inl is_end) rest (go place' s') e h = absurd (past_end place s t is_end place' s' e)
    stops_by place s t ts (inr ended) rest (go place' s') e h =
        let r = rest place' s' ended h in
        record {
          front = t ∷ r.front;
          wrong = r.wrong;
          behind = r.behind;
          are = ap (λ us. t ∷ us) r.are;
          at_wrong = r.at_wrong;
          goes = record { more = r.goes.more; inputs = r.goes.inputs; read = reads_go hosts bytes (r.front ++ r.goes.more) place s t place' s' e ∙ r.goes.read };
          always = λ more. reads_go hosts bytes (r.front ++ r.wrong ∷ more) place s t place' s' e ∙ r.always more;
        }

    stops : (ts : List Token) (place : Place) (s : Sections) → HasEnd ts → reads hosts bytes place s ts ≡ Err fault → Stops place s ts fault
    stops [] place s ended h = absurd ended
    stops (t ∷ ts) place s ended h = stops_by place s t ts ended (λ p q i r. stops ts p q i r) (step hosts bytes place s t) refl (sym (unfold_step hosts bytes ts place s t) ∙ h)

    none_accepted : (ts : List Token) (s : Sections) → Fits hosts [] s → reads hosts bytes between s ts ≡ Err fault → (sections : List (ℕ × List ℕ)) → AreSections hosts bytes [] ts sections → ⊥
    none_accepted ts s fits h sections are = let read = accept hosts bytes are s fits in absurd cc

    refused : inputs_read hosts bytes ≡ Err fault → FirstWrong IsInputsText hosts bytes fault
    refused h =
        let s : Sections = replicate (length hosts) None in
        let r = stops (tokens_at bytes 0) between s (has_end bytes 0 0) h in
        let g = between_known hosts bytes r.goes.inputs (r.front ++ r.goes.more) s (fits_start hosts) r.goes.read in
        record {
          front = r.front;
          wrong = r.wrong;
          behind = r.behind;
          are = r.are;
          begins = (r.goes.more, (g.sections, g.are));
          none_begins = λ b. none_accepted (r.front ++ r.wrong ∷ b.0) s (fits_start hosts) (r.always b.0) b.1.0 b.1.1;
          at_wrong = fault_is_at hosts bytes r.wrong (BeginsWith (IsInputsText (hosts ++ text_of bytes r.wrong ∷ []) bytes) r.front r.wrong) fault r.at_wrong
              (λ at e. name_could_stand hosts bytes r.wrong at r.front r.goes (r.always [] ∙ ap Err e))
              (λ at e b. text_could_not hosts bytes r.wrong at (r.front ++ r.wrong ∷ b.0) (r.always b.0 ∙ ap Err e) b.1);
        }

  has_sections : (inputs : List (List ℕ)) → inputs_read hosts bytes ≡ Ok inputs → IsInputsText hosts bytes (tokens_at bytes 0)
  has_sections inputs h = let g = given_inputs hosts bytes inputs h in (g.sections, g.are)

pub follows_grammar : (hosts : List (List ℕ)) (bytes : List ℕ) → InputsFollowGrammar hosts bytes
follows_grammar hosts bytes = record {
  given = λ inputs. (λ h. given_inputs hosts bytes inputs h, λ g. accepted_inputs hosts bytes inputs g);
  refused = λ fault. (
    λ h. refused hosts bytes fault h,
    λ f. fault_said IsInputsText hosts bytes (inputs_read hosts bytes) (has_sections hosts bytes) (refused hosts bytes) (inputs_read hosts bytes) refl fault f,
  );
}
