-- A refusal of a schedule is at the first token that cannot stand there.
use Rattle.std.proofs.Common.{◌≡◌, inl, inr, ℕ, Bool, true, false, List, [], ◌∷◌, ◌++◌, length, refl, ap, sym, ◌∙◌, subst, Option, Some, None, Result, Ok, Err, nat_lt, if◌then◌else◌}
use Rattle.vd_base.specs.declared.ids.HostId.{HostId}
use Rattle.vd_report.specs.declared.fault.ReadFault.{ReadFault}
use Rattle.vd_report.specs.declared.fault.ReadFault.TheVariants.{Text, UnknownHost}
use Rattle.vd_report.specs.declared.token.TokenKind.{TokenKind}
use Rattle.vd_report.specs.declared.token.TokenKind.TheVariants as kind
use Rattle.vd_report.specs.declared.token.Token.{Token}
use Rattle.vd_report.specs.declared.schedule.Schedule.{Schedule}
use Rattle.vd_report.specs.Hosts.{host_of}
use Rattle.vd_report.specs.Tokens.{end_of, tokens_at, text_of, capped}
use Rattle.vd_report.specs.Schedule.{Step, go, all, stop, at_host, at_entry, entry_step, behind_all, reads_last, reads_entries, schedule_read}
use Rattle.vd_report.specs.ScheduleText.{AreSchedule, IsScheduleText, SchedulesFollowGrammar}
use Rattle.vd_report.specs.Outcome.{BeginsWith, FirstWrong}
use Rattle.vd_report.proofs.TokenSteps.{HasEnd, has_end}
use Rattle.vd_report.proofs.ScheduleLaw.{next, by_step, given_text, accepted_text}
use Rattle.vd_report.proofs.ScheduleFurther.{GoesOn, goes_on, name_could_stand, text_could_not}
use Rattle.vd_report.proofs.Outcomes.{IsToldAt, fault_is_at, fault_said}

module _ (hosts : List (List ℕ)) (bytes : List ℕ) where
  module _ (t : Token) (fault : ReadFault) where
    text_at : stop (Err (Text (capped t.start))) ≡ stop (Err fault) → IsToldAt hosts bytes t fault
    text_at h = let e : Text (capped t.start) ≡ fault = cc in subst (IsToldAt hosts bytes t) e refl

    host_fault : (before : List HostId) → t.kind ≡ kind.Name → (o : Option ℕ) → host_of hosts (text_of bytes t) ≡ o → at_host before (capped t.start) o ≡ stop (Err fault) → IsToldAt hosts bytes t fault
    host_fault before e None found h = let is : UnknownHost (capped t.start) ≡ fault = cc in subst (IsToldAt hosts bytes t) is (refl, e, found)
    host_fault before e (Some host) found h = absurd cc

    name_fault : (before : List HostId) → t.kind ≡ kind.Name → (b : Bool) → (if b then at_host before (capped t.start) (host_of hosts (text_of bytes t)) else stop (Err (Text (capped t.start)))) ≡ stop (Err fault) → IsToldAt hosts bytes t fault
    name_fault before e true h = host_fault before e (host_of hosts (text_of bytes t)) refl h
    name_fault before e false h = text_at h

    entry_fault : (before : List HostId) (k : TokenKind) → t.kind ≡ k → at_entry hosts before (capped t.start) (text_of bytes t) k ≡ stop (Err fault) → IsToldAt hosts bytes t fault
    entry_fault before kind.End e h = absurd cc
    entry_fault before kind.All e h = absurd cc
    entry_fault before kind.Name e h = name_fault before e (nat_lt (length before) 1048576) h
    entry_fault before kind.Colon e h = text_at h
    entry_fault before (kind.Number v) e h = text_at h
    entry_fault before kind.Other e h = text_at h

    last_fault : (before : List HostId) (k : TokenKind) → behind_all before (capped t.start) k ≡ Err fault → IsToldAt hosts bytes t fault
    last_fault before kind.End h = absurd cc
    last_fault before kind.Name h = text_at (ap stop h)
    last_fault before kind.All h = text_at (ap stop h)
    last_fault before kind.Colon h = text_at (ap stop h)
    last_fault before (kind.Number v) h = text_at (ap stop h)
    last_fault before kind.Other h = text_at (ap stop h)

  record Stops (before : List HostId) (ts : List Token) (fault : ReadFault) : Type 0 where
    front : List Token
    wrong : Token
    behind : List Token
    are : front ++ wrong ∷ behind ≡ ts
    at_wrong : IsToldAt hosts bytes wrong fault
    goes : GoesOn hosts bytes before front
    always : (more : List Token) → reads_entries hosts bytes before (front ++ wrong ∷ more) ≡ Err fault

  module _ (fault : ReadFault) where
    entry_gone : (before : List HostId) (t : Token) (ts : List Token) (st : Step) → entry_step hosts bytes before t ≡ st → reads_entries hosts bytes before (t ∷ ts) ≡ next hosts bytes before ts st
    entry_gone before t ts st e = by_step hosts bytes before t ts ∙ ap (next hosts bytes before ts) e

    not_the_end : (before : List HostId) (t : Token) (ts : List Token) (st : Step) → entry_step hosts bytes before t ≡ st → ((r : Result Schedule ReadFault) → st ≡ stop r → ⊥) → HasEnd (t ∷ ts) → HasEnd ts
    not_the_end before t ts st e more (inl is_end) = absurd (more _ (sym e ∙ ap (at_entry hosts before (capped t.start) (text_of bytes t)) is_end))
    not_the_end before t ts st e more (inr ended) = ended

    stops_last : (before : List HostId) (t : Token) (ts : List Token) → entry_step hosts bytes before t ≡ all → HasEnd ts → reads_last bytes before ts ≡ Err fault → Stops before (t ∷ ts) fault
    stops_last before t [] e ended h = absurd ended
    stops_last before t (l ∷ ts) e ended h = record {
      front = t ∷ [];
      wrong = l;
      behind = ts;
      are = refl;
      at_wrong = last_fault l fault before l.kind h;
      goes = record { more = end_of 0 ∷ []; schedule = record { entries = before; all = true }; read = entry_gone before t (end_of 0 ∷ []) all e };
      always = λ more. entry_gone before t (l ∷ more) all e ∙ h;
    }

    stops_by : (before : List HostId) (t : Token) (ts : List Token) → HasEnd (t ∷ ts) → ((longer : List HostId) → HasEnd ts → reads_entries hosts bytes longer ts ≡ Err fault → Stops longer ts fault) → (st : Step) → entry_step hosts bytes before t ≡ st → next hosts bytes before ts st ≡ Err fault → Stops before (t ∷ ts) fault
    stops_by before t ts ended rest (stop r) e h = record {
      front = [];
      wrong = t;
      behind = ts;
      are = refl;
      at_wrong = entry_fault t fault before t.kind refl (e ∙ ap stop h);
      goes = goes_on hosts bytes before;
      always = λ more. entry_gone before t more (stop r) e ∙ h;
    }
    stops_by before t ts ended rest all e h = stops_last before t ts e (not_the_end before t ts all e (λ r f. absurd cc) ended) h
    stops_by before t ts ended rest (go longer) e h =
        let r = rest longer (not_the_end before t ts (go longer) e (λ r f. absurd cc) ended) h in
        record {
          front = t ∷ r.front;
          wrong = r.wrong;
          behind = r.behind;
          are = ap (λ us. t ∷ us) r.are;
          at_wrong = r.at_wrong;
          goes = record { more = r.goes.more; schedule = r.goes.schedule; read = entry_gone before t (r.front ++ r.goes.more) (go longer) e ∙ r.goes.read };
          always = λ more. entry_gone before t (r.front ++ r.wrong ∷ more) (go longer) e ∙ r.always more;
        }

    stops : (ts : List Token) (before : List HostId) → HasEnd ts → reads_entries hosts bytes before ts ≡ Err fault → Stops before ts fault
    stops [] before ended h = absurd ended
    stops (t ∷ ts) before ended h = stops_by before t ts ended (λ b i r. stops ts b i r) (entry_step hosts bytes before t) refl (sym (by_step hosts bytes before t ts) ∙ h)

    none_accepted : (ts : List Token) → reads_entries hosts bytes [] ts ≡ Err fault → (schedule : Schedule) → AreSchedule hosts bytes ts schedule → ⊥
    none_accepted ts h schedule a = let read = accepted_text hosts bytes schedule ts a in absurd cc

    refused : schedule_read hosts bytes ≡ Err fault → FirstWrong IsScheduleText hosts bytes fault
    refused h =
        let r = stops (tokens_at bytes 0) [] (has_end bytes 0 0) h in
        record {
          front = r.front;
          wrong = r.wrong;
          behind = r.behind;
          are = r.are;
          begins = (r.goes.more, (r.goes.schedule, given_text hosts bytes r.goes.schedule (r.front ++ r.goes.more) r.goes.read));
          none_begins = λ b. none_accepted (r.front ++ r.wrong ∷ b.0) (r.always b.0) b.1.0 b.1.1;
          at_wrong = fault_is_at hosts bytes r.wrong (BeginsWith (IsScheduleText (hosts ++ text_of bytes r.wrong ∷ []) bytes) r.front r.wrong) fault r.at_wrong
              (λ at e. name_could_stand hosts bytes r.wrong at r.front r.goes (r.always [] ∙ ap Err e))
              (λ at e b. text_could_not hosts bytes r.wrong at (r.front ++ r.wrong ∷ b.0) (r.always b.0 ∙ ap Err e) b.1);
        }

  is_text : (schedule : Schedule) → schedule_read hosts bytes ≡ Ok schedule → IsScheduleText hosts bytes (tokens_at bytes 0)
  is_text schedule h = (schedule, given_text hosts bytes schedule (tokens_at bytes 0) h)

pub schedules_follow : (hosts : List (List ℕ)) (bytes : List ℕ) → SchedulesFollowGrammar hosts bytes
schedules_follow hosts bytes = record {
  given = λ schedule. (λ h. given_text hosts bytes schedule (tokens_at bytes 0) h, λ g. accepted_text hosts bytes schedule (tokens_at bytes 0) g);
  refused = λ fault. (
    λ h. refused hosts bytes fault h,
    λ f. fault_said IsScheduleText hosts bytes (schedule_read hosts bytes) (is_text hosts bytes) (refused hosts bytes) (schedule_read hosts bytes) refl fault f,
  );
}
