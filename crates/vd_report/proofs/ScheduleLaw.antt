-- What a schedule file says is what its grammar gives.
use Rattle.std.proofs.Common.{◌≡◌, ℕ, ◌+◌, ◌<◌, ◌≤◌, Bool, true, false, List, [], ◌∷◌, ◌++◌, length, refl, ap, sym, ◌∙◌, subst, arith, Option, Some, None, Result, Ok, Err, nat_lt, append_assoc, append-nil, length-append, if◌then◌else◌}
use Rattle.std.proofs.lemmas.Bool.{ltb-true}
use Rattle.vd_base.specs.declared.ids.HostId.{HostId}
use Rattle.vd_report.specs.declared.fault.ReadFault.{ReadFault}
use Rattle.vd_report.specs.declared.fault.ReadFault.TheVariants.{Text}
use Rattle.vd_report.specs.declared.token.TokenKind.{TokenKind}
use Rattle.vd_report.specs.declared.token.TokenKind.TheVariants as kind
use Rattle.vd_report.specs.declared.token.Token.{Token}
use Rattle.vd_report.specs.declared.schedule.Schedule.{Schedule}
use Rattle.vd_report.specs.Hosts.{host_of}
use Rattle.vd_report.specs.Tokens.{text_of, capped}
use Rattle.vd_report.specs.Schedule.{Step, go, all, stop, at_host, at_entry, entry_step, behind_all, reads_last, reads_entries}
use Rattle.vd_report.specs.ScheduleText.{AreEntries, no_entry, only_all, one_entry, AreSchedule}
use Rattle.vd_report.proofs.InputsSteps.{below_limit}

module _ (hosts : List (List ℕ)) (bytes : List ℕ) where
  abbrev pub next : List HostId → List Token → Step → Result Schedule ReadFault
  next before ts st = elim st [
    | go entries ↦ reads_entries hosts bytes entries ts
    | all ↦ reads_last bytes before ts
    | stop result ↦ result
  ]

  pub by_step : (before : List HostId) (t : Token) (ts : List Token) → reads_entries hosts bytes before (t ∷ ts) ≡ next before ts (entry_step hosts bytes before t)
  unfolding reads_entries
  by_step before t ts = refl

  by_kind : (before : List HostId) (t : Token) (ts : List Token) (k : TokenKind) → t.kind ≡ k → reads_entries hosts bytes before (t ∷ ts) ≡ next before ts (at_entry hosts before (capped t.start) (text_of bytes t) k)
  by_kind before t ts k e = by_step before t ts ∙ ap (λ j. next before ts (at_entry hosts before (capped t.start) (text_of bytes t) j)) e

  -- each text of the grammar is read
  host_taken : (before : List HostId) (t : Token) (ts : List Token) (host : ℕ) → t.kind ≡ kind.Name → host_of hosts (text_of bytes t) ≡ Some host → length before < 1048576 → reads_entries hosts bytes before (t ∷ ts) ≡ reads_entries hosts bytes (before ++ record { 0 = host } ∷ []) ts
  host_taken before t ts host e found few =
      by_kind before t ts kind.Name e
      ∙ ap (λ b. next before ts (if b then at_host before (capped t.start) (host_of hosts (text_of bytes t)) else stop (Err (Text (capped t.start))))) (below_limit few)
      ∙ ap (λ o. next before ts (at_host before (capped t.start) o)) found

  accept : {ts : List Token} {entries : List HostId} {all : Bool} → AreEntries hosts bytes ts entries all → (before : List HostId) → length before + length entries ≤ 1048576 → reads_entries hosts bytes before ts ≡ Ok (record { entries = before ++ entries; all = all })
  accept (no_entry {end = t} {ts = ts} e) before few = by_kind before t ts kind.End e ∙ ap (λ es. Ok (record { entries = es; all = false })) (sym (append-nil before))
  accept (only_all {all = t} {end = l} {ts = ts} e f) before few =
      by_kind before t (l ∷ ts) kind.All e
      ∙ ap (behind_all before (capped l.start)) f
      ∙ ap (λ es. Ok (record { entries = es; all = true })) (sym (append-nil before))
  accept (one_entry {name = t} {ts = ts} {host = host} {entries = entries} {all = a} e found more) before few =
      let this : HostId = record { 0 = host } in
      host_taken before t ts host e found (omega arith)
      ∙ accept more (before ++ this ∷ []) (omega (arith, length-append before (this ∷ [])))
      ∙ ap (λ es. Ok (record { entries = es; all = a })) (append_assoc before (this ∷ []) entries)

  -- what is read is given by the grammar
  module _ (schedule : Schedule) where
    record Rest (before : List HostId) (ts : List Token) : Type 0 where
      entries : List HostId
      are : AreEntries hosts bytes ts entries schedule.all
      is : before ++ entries ≡ schedule.entries
      few : length schedule.entries ≤ 1048576

    same_entries : (es : List HostId) (a : Bool) → ◌≡◌ {A = Result Schedule ReadFault} (Ok (record { entries = es; all = a })) (Ok schedule) → (es ≡ schedule.entries) × (a ≡ schedule.all)
    same_entries es a h = let this : Schedule = record { entries = es; all = a } in let e : this ≡ schedule = cc in (ap (λ s. s.entries) e, ap (λ s. s.all) e)

    ended : (before : List HostId) (t : Token) (ts : List Token) → t.kind ≡ kind.End → length before ≤ 1048576 → ◌≡◌ {A = Result Schedule ReadFault} (Ok (record { entries = before; all = false })) (Ok schedule) → Rest before (t ∷ ts)
    ended before t ts e few h =
        let same = same_entries before false h in
        record {
          entries = [];
          are = subst (λ a. AreEntries hosts bytes (t ∷ ts) [] a) same.1 (no_entry e);
          is = append-nil before ∙ same.0;
          few = subst (λ es. length es ≤ 1048576) same.0 few;
        }

    last_kind : (before : List HostId) (t l : Token) (ts : List Token) → t.kind ≡ kind.All → length before ≤ 1048576 → (k : TokenKind) → l.kind ≡ k → behind_all before (capped l.start) k ≡ Ok schedule → Rest before (t ∷ l ∷ ts)
    last_kind before t l ts e few kind.End f h =
        let same = same_entries before true h in
        record {
          entries = [];
          are = subst (λ a. AreEntries hosts bytes (t ∷ l ∷ ts) [] a) same.1 (only_all e f);
          is = append-nil before ∙ same.0;
          few = subst (λ es. length es ≤ 1048576) same.0 few;
        }
    last_kind before t l ts e few kind.Name f h = absurd cc
    last_kind before t l ts e few kind.All f h = absurd cc
    last_kind before t l ts e few kind.Colon f h = absurd cc
    last_kind before t l ts e few (kind.Number v) f h = absurd cc
    last_kind before t l ts e few kind.Other f h = absurd cc

    last : (before : List HostId) (t : Token) (ts : List Token) → t.kind ≡ kind.All → length before ≤ 1048576 → reads_last bytes before ts ≡ Ok schedule → Rest before (t ∷ ts)
    last before t [] e few h = absurd cc
    last before t (l ∷ ts) e few h = last_kind before t l ts e few l.kind refl h

    one_more : (before : List HostId) (t : Token) (ts : List Token) (host : ℕ) → t.kind ≡ kind.Name → host_of hosts (text_of bytes t) ≡ Some host → Rest (before ++ record { 0 = host } ∷ []) ts → Rest before (t ∷ ts)
    one_more before t ts host e found r =
        let this : HostId = record { 0 = host } in
        record { entries = this ∷ r.entries; are = one_entry e found r.are; is = sym (append_assoc before (this ∷ []) r.entries) ∙ r.is; few = r.few }

    module _ (t : Token) (ts : List Token) (known : (before : List HostId) → length before ≤ 1048576 → reads_entries hosts bytes before ts ≡ Ok schedule → Rest before ts) where
      at_found : (before : List HostId) → t.kind ≡ kind.Name → length before < 1048576 → (o : Option ℕ) → host_of hosts (text_of bytes t) ≡ o → next before ts (at_host before (capped t.start) o) ≡ Ok schedule → Rest before (t ∷ ts)
      at_found before e few None found h = absurd cc
      at_found before e few (Some host) found h =
          let this : HostId = record { 0 = host } in
          one_more before t ts host e found (known (before ++ this ∷ []) (omega (arith, length-append before (this ∷ []))) h)

      at_name : (before : List HostId) → t.kind ≡ kind.Name → (b : Bool) → nat_lt (length before) 1048576 ≡ b → next before ts (if b then at_host before (capped t.start) (host_of hosts (text_of bytes t)) else stop (Err (Text (capped t.start)))) ≡ Ok schedule → Rest before (t ∷ ts)
      at_name before e true few h = at_found before e (ltb-true (length before) 1048576 few) (host_of hosts (text_of bytes t)) refl h
      at_name before e false few h = absurd cc

      at_kind : (before : List HostId) → length before ≤ 1048576 → (k : TokenKind) → t.kind ≡ k → next before ts (at_entry hosts before (capped t.start) (text_of bytes t) k) ≡ Ok schedule → Rest before (t ∷ ts)
      at_kind before few kind.End e h = ended before t ts e few h
      at_kind before few kind.All e h = last before t ts e few h
      at_kind before few kind.Name e h = at_name before e (nat_lt (length before) 1048576) refl h
      at_kind before few kind.Colon e h = absurd cc
      at_kind before few (kind.Number v) e h = absurd cc
      at_kind before few kind.Other e h = absurd cc

    no_token : (before : List HostId) → reads_entries hosts bytes before [] ≡ Ok schedule → ⊥
    unfolding reads_entries
    no_token before h = cc

    known_of : (ts : List Token) (before : List HostId) → length before ≤ 1048576 → reads_entries hosts bytes before ts ≡ Ok schedule → Rest before ts
    known_of [] before few h = absurd (no_token before h)
    known_of (t ∷ ts) before few h = at_kind t ts (λ b f r. known_of ts b f r) before few t.kind refl (sym (by_step before t ts) ∙ h)

    pub given_text : (ts : List Token) → reads_entries hosts bytes [] ts ≡ Ok schedule → AreSchedule hosts bytes ts schedule
    given_text ts h =
        let r = known_of ts [] (omega arith) h in
        record { are = subst (λ es. AreEntries hosts bytes ts es schedule.all) r.is r.are; few = r.few }

    pub accepted_text : (ts : List Token) → AreSchedule hosts bytes ts schedule → reads_entries hosts bytes [] ts ≡ Ok schedule
    accepted_text ts g = accept g.are [] (omega (arith, g.few))
