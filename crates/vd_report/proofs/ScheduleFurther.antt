-- What a schedule says where one host more is declared, which has the text of a token as its name.
use Rattle.std.proofs.Common.{◌≡◌, ℕ, Bool, true, false, List, [], ◌∷◌, ◌++◌, length, refl, ap, sym, ◌∙◌, subst, Option, Some, None, Ok, Err, nat_lt, if◌then◌else◌}
use Rattle.vd_base.specs.declared.ids.HostId.{HostId}
use Rattle.vd_report.specs.declared.fault.ReadFault.TheVariants.{Text, UnknownHost, Memory}
use Rattle.vd_report.specs.declared.token.TokenKind.{TokenKind}
use Rattle.vd_report.specs.declared.token.TokenKind.TheVariants as kind
use Rattle.vd_report.specs.declared.token.Token.{Token}
use Rattle.vd_report.specs.declared.schedule.Schedule.{Schedule}
use Rattle.vd_report.specs.Hosts.{host_of}
use Rattle.vd_report.specs.Tokens.{end_of, text_of, capped}
use Rattle.vd_report.specs.Schedule.{Step, go, all, stop, at_host, at_entry, entry_step, behind_all, reads_last, reads_entries}
use Rattle.vd_report.specs.Outcome.{BeginsWith}
use Rattle.vd_report.specs.ScheduleText.{IsScheduleText}
use Rattle.vd_report.proofs.FurtherHost.{found_too, found_new}
use Rattle.vd_report.proofs.ScheduleLaw.{next, by_step, given_text, accepted_text}

module _ (hosts : List (List ℕ)) (bytes : List ℕ) where
  -- behind any entries some text goes on
  pub record GoesOn (before : List HostId) (front : List Token) : Type 0 where
    pub more : List Token
    pub schedule : Schedule
    pub read : reads_entries hosts bytes before (front ++ more) ≡ Ok schedule

  pub goes_on : (before : List HostId) → GoesOn before []
  goes_on before = record { more = end_of 0 ∷ []; schedule = record { entries = before; all = false }; read = by_step hosts bytes before (end_of 0) [] }

module _ (hosts : List (List ℕ)) (bytes : List ℕ) (wrong : Token) where
  abbrev hosts' : List (List ℕ)
  hosts' = hosts ++ text_of bytes wrong ∷ []

  -- a step with the further host does what the step without it does, unless that finds no host
  abbrev Follows : Step → Step → Type 0
  Follows (go entries) st = st ≡ go entries
  Follows all st = st ≡ all
  Follows (stop (Ok schedule)) st = st ≡ stop (Ok schedule)
  Follows (stop (Err (Text at))) st = st ≡ stop (Err (Text at))
  Follows (stop (Err (UnknownHost at))) st = Unit {0}
  Follows (stop (Err Memory)) st = Unit {0}

  module _ (before : List HostId) (at : ℕ) (text : List ℕ) where
    host_follows : (o : Option ℕ) → host_of hosts text ≡ o → Follows (at_host before at o) (at_host before at (host_of hosts' text))
    host_follows None e = tt
    host_follows (Some host) e = ap (at_host before at) (found_too hosts (text_of bytes wrong) text host e)

    name_follows : (few : Bool) → Follows (if few then at_host before at (host_of hosts text) else stop (Err (Text at))) (if few then at_host before at (host_of hosts' text) else stop (Err (Text at)))
    name_follows true = host_follows (host_of hosts text) refl
    name_follows false = refl

    entry_follows : (k : TokenKind) → Follows (at_entry hosts before at text k) (at_entry hosts' before at text k)
    entry_follows kind.End = refl
    entry_follows kind.All = refl
    entry_follows kind.Name = name_follows (nat_lt (length before) 1048576)
    entry_follows kind.Colon = refl
    entry_follows (kind.Number v) = refl
    entry_follows kind.Other = refl

  follows_as : (before : List HostId) (t : Token) (st : Step) → entry_step hosts bytes before t ≡ st → Follows st (entry_step hosts' bytes before t)
  follows_as before t st e = subst (λ st. Follows st (entry_step hosts' bytes before t)) e (entry_follows before (capped t.start) (text_of bytes t) t.kind)

  gone : (before : List HostId) (t : Token) (ts : List Token) (st : Step) → entry_step hosts' bytes before t ≡ st → reads_entries hosts' bytes before (t ∷ ts) ≡ next hosts' bytes before ts st
  gone before t ts st e = by_step hosts' bytes before t ts ∙ ap (next hosts' bytes before ts) e

  module _ (at : ℕ) where
    -- a text that is refused as a text is refused so with the further host
    text_by : (before : List HostId) (t : Token) (ts : List Token) → ((longer : List HostId) → reads_entries hosts bytes longer ts ≡ Err (Text at) → reads_entries hosts' bytes longer ts ≡ Err (Text at))
        → (st : Step) → entry_step hosts bytes before t ≡ st → next hosts bytes before ts st ≡ Err (Text at) → reads_entries hosts' bytes before (t ∷ ts) ≡ Err (Text at)
    text_by before t ts rest (go longer) e h = gone before t ts (go longer) (follows_as before t (go longer) e) ∙ rest longer h
    text_by before t ts rest all e h = gone before t ts all (follows_as before t all e) ∙ h
    text_by before t ts rest (stop (Ok schedule)) e h = absurd cc
    text_by before t ts rest (stop (Err (Text o))) e h = gone before t ts (stop (Err (Text o))) (follows_as before t (stop (Err (Text o))) e) ∙ h
    text_by before t ts rest (stop (Err (UnknownHost o))) e h = absurd cc
    text_by before t ts rest (stop (Err Memory)) e h = absurd cc

    ends_too : (before : List HostId) → reads_entries hosts bytes before [] ≡ Err (Text at) → reads_entries hosts' bytes before [] ≡ Err (Text at)
    unfolding reads_entries
    ends_too before h = h

    refused_too : (ts : List Token) (before : List HostId) → reads_entries hosts bytes before ts ≡ Err (Text at) → reads_entries hosts' bytes before ts ≡ Err (Text at)
    refused_too [] before h = ends_too before h
    refused_too (t ∷ ts) before h = text_by before t ts (λ longer e. refused_too ts longer e) (entry_step hosts bytes before t) refl (sym (by_step hosts bytes before t ts) ∙ h)

    pub text_could_not : (ts : List Token) → reads_entries hosts bytes [] ts ≡ Err (Text at) → IsScheduleText hosts' bytes ts → ⊥
    text_could_not ts h text =
        let read = accepted_text hosts' bytes text.0 ts text.1 in
        let not_read = refused_too ts [] h in
        absurd cc

    -- with the further host the name is an entry
    module _ (before : List HostId) where
      abbrev taken : Step
      taken = go (before ++ record { 0 = length hosts } ∷ [])

      host_taken : (o : Option ℕ) → host_of hosts (text_of bytes wrong) ≡ o → at_host before (capped wrong.start) o ≡ stop (Err (UnknownHost at)) → at_host before (capped wrong.start) (host_of hosts' (text_of bytes wrong)) ≡ taken
      host_taken None e h = ap (at_host before (capped wrong.start)) (found_new hosts (text_of bytes wrong) e)
      host_taken (Some host) e h = absurd cc

      name_taken : (few : Bool) → (if few then at_host before (capped wrong.start) (host_of hosts (text_of bytes wrong)) else stop (Err (Text (capped wrong.start)))) ≡ stop (Err (UnknownHost at))
          → (if few then at_host before (capped wrong.start) (host_of hosts' (text_of bytes wrong)) else stop (Err (Text (capped wrong.start)))) ≡ taken
      name_taken true h = host_taken (host_of hosts (text_of bytes wrong)) refl h
      name_taken false h = absurd cc

      entry_taken : (k : TokenKind) → at_entry hosts before (capped wrong.start) (text_of bytes wrong) k ≡ stop (Err (UnknownHost at)) → at_entry hosts' before (capped wrong.start) (text_of bytes wrong) k ≡ taken
      entry_taken kind.Name h = name_taken (nat_lt (length before) 1048576) h
      entry_taken kind.End h = absurd cc
      entry_taken kind.All h = absurd cc
      entry_taken kind.Colon h = absurd cc
      entry_taken (kind.Number v) h = absurd cc
      entry_taken kind.Other h = absurd cc

    record Stands (before : List HostId) (front : List Token) : Type 0 where
      more : List Token
      schedule : Schedule
      read : reads_entries hosts' bytes before (front ++ wrong ∷ more) ≡ Ok schedule

    stands_here : (before : List HostId) → entry_step hosts bytes before wrong ≡ stop (Err (UnknownHost at)) → Stands before []
    stands_here before h =
        let g = goes_on hosts' bytes (before ++ record { 0 = length hosts } ∷ []) in
        record { more = g.more; schedule = g.schedule; read = gone before wrong g.more (taken before) (entry_taken before wrong.kind h) ∙ g.read }

    nothing_left : (before : List HostId) → reads_entries hosts bytes before [] ≡ Err (UnknownHost at) → ⊥
    unfolding reads_entries
    nothing_left before h = absurd cc

    kind_behind : (before : List HostId) (o : ℕ) (k : TokenKind) → behind_all before o k ≡ Err (UnknownHost at) → ⊥
    kind_behind before o kind.End h = absurd cc
    kind_behind before o kind.Name h = absurd cc
    kind_behind before o kind.All h = absurd cc
    kind_behind before o kind.Colon h = absurd cc
    kind_behind before o (kind.Number v) h = absurd cc
    kind_behind before o kind.Other h = absurd cc

    -- behind `all` no name is looked up
    none_behind : (before : List HostId) (ts : List Token) → reads_last bytes before ts ≡ Err (UnknownHost at) → ⊥
    none_behind before [] h = absurd cc
    none_behind before (l ∷ ts) h = kind_behind before (capped l.start) l.kind h

    last_stands : (before : List HostId) (st : Step) → entry_step hosts bytes before wrong ≡ st → next hosts bytes before [] st ≡ Err (UnknownHost at) → Stands before []
    last_stands before (go longer) e h = absurd (nothing_left longer h)
    last_stands before all e h = absurd (none_behind before [] h)
    last_stands before (stop r) e h = stands_here before (e ∙ ap stop h)

    step_stands : (before : List HostId) (t : Token) (front more : List Token) (schedule : Schedule)
        → ((longer : List HostId) → reads_entries hosts bytes longer (front ++ more) ≡ Ok schedule → reads_entries hosts bytes longer (front ++ wrong ∷ []) ≡ Err (UnknownHost at) → Stands longer front)
        → (st : Step) → entry_step hosts bytes before t ≡ st → next hosts bytes before (front ++ more) st ≡ Ok schedule → next hosts bytes before (front ++ wrong ∷ []) st ≡ Err (UnknownHost at) → Stands before (t ∷ front)
    step_stands before t front more schedule rest (go longer) e h k =
        let r = rest longer h k in
        record { more = r.more; schedule = r.schedule; read = gone before t (front ++ wrong ∷ r.more) (go longer) (follows_as before t (go longer) e) ∙ r.read }
    step_stands before t front more schedule rest all e h k = absurd (none_behind before (front ++ wrong ∷ []) k)
    step_stands before t front more schedule rest (stop r) e h k = absurd cc

    name_stands : (front more : List Token) (schedule : Schedule) (before : List HostId) → reads_entries hosts bytes before (front ++ more) ≡ Ok schedule → reads_entries hosts bytes before (front ++ wrong ∷ []) ≡ Err (UnknownHost at) → Stands before front
    name_stands [] more schedule before h k = last_stands before (entry_step hosts bytes before wrong) refl (sym (by_step hosts bytes before wrong []) ∙ k)
    name_stands (t ∷ front) more schedule before h k =
        step_stands before t front more schedule (λ longer x y. name_stands front more schedule longer x y)
        (entry_step hosts bytes before t) refl
        (sym (by_step hosts bytes before t (front ++ more)) ∙ h)
        (sym (by_step hosts bytes before t (front ++ wrong ∷ [])) ∙ k)

    pub name_could_stand : (front : List Token) → GoesOn hosts bytes [] front → reads_entries hosts bytes [] (front ++ wrong ∷ []) ≡ Err (UnknownHost at) → BeginsWith (IsScheduleText hosts' bytes) front wrong
    name_could_stand front g h =
        let r = name_stands front g.more g.schedule [] g.read h in
        (r.more, (r.schedule, given_text hosts' bytes r.schedule (front ++ wrong ∷ r.more) r.read))
