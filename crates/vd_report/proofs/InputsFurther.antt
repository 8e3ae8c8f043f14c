-- What an inputs file says where one host more is declared, which has the text of a token as its name.
use Rattle.std.proofs.Common.{◌≡◌, ◌≢◌, ℕ, ◌+◌, ◌<◌, Bool, true, false, List, [], ◌∷◌, ◌++◌, length, map, refl, ap, sym, ◌∙◌, subst, arith, Option, Some, None, is_some, Ok, Err, replicate, slice_set, slice_index_or, nat_eq, nat_lt, length-append, if◌then◌else◌}
use Rattle.std.proofs.Common.{eq-eqb}
use Rattle.std.proofs.lemmas.Bool.{eqb-true, false≢true}
use Rattle.std.proofs.lemmas.List.{length-set, get_or-set_same, get_or-set_other}
use Rattle.vd_report.specs.declared.fault.ReadFault.TheVariants.{Text, UnknownHost, Memory}
use Rattle.vd_report.specs.declared.token.TokenKind.{TokenKind}
use Rattle.vd_report.specs.declared.token.TokenKind.TheVariants as kind
use Rattle.vd_report.specs.declared.token.Token.{Token}
use Rattle.vd_report.specs.Hosts.{host_of}
use Rattle.vd_report.specs.Tokens.{end_of, text_of, capped}
use Rattle.vd_report.specs.Inputs.{Sections, words_of, Place, between, named, listing, Step, go, stop, at_name, at_section, at_colon, at_word, step, reads}
use Rattle.vd_report.specs.Outcome.{BeginsWith}
use Rattle.vd_report.specs.InputsText.{IsInputsText}
use Rattle.vd_report.proofs.FurtherHost.{found_too, found_new}
use Rattle.vd_report.proofs.InputsSteps.{next, unfold_step, reads_go, reads_stop}
use Rattle.vd_report.proofs.InputsLaw.{none_at, all_none, fits_start, declared_host, accept, between_known}

module _ (hosts : List (List ℕ)) (bytes : List ℕ) where
  -- from each place some text goes on
  pub record GoesOn (place : Place) (s : Sections) (front : List Token) : Type 0 where
    pub more : List Token
    pub inputs : List (List ℕ)
    pub read : reads hosts bytes place s (front ++ more) ≡ Ok inputs

  pub goes_on : (place : Place) (s : Sections) → GoesOn place s []
  goes_on between s = record { more = end_of 0 ∷ []; inputs = map words_of s; read = reads_stop hosts bytes [] between s (end_of 0) _ refl }
  goes_on (listing host words) s = record { more = end_of 0 ∷ []; inputs = map words_of (slice_set s host (Some words)); read = reads_stop hosts bytes [] (listing host words) s (end_of 0) _ refl }
  goes_on (named host) s =
      let colon : Token = record { kind = kind.Colon; start = 0; end = 0 } in
      record {
        more = colon ∷ end_of 0 ∷ [];
        inputs = map words_of (slice_set s host (Some []));
        read = reads_go hosts bytes (end_of 0 ∷ []) (named host) s colon (listing host []) s refl ∙ reads_stop hosts bytes [] (listing host []) s (end_of 0) _ refl;
      }

module _ (hosts : List (List ℕ)) (bytes : List ℕ) (wrong : Token) where
  abbrev hosts' : List (List ℕ)
  hosts' = hosts ++ text_of bytes wrong ∷ []

  -- the sections of the declared hosts, and those with the further host, which has none yet
  record Widens (s s' : Sections) : Type 0 where
    len : length s ≡ length hosts
    len' : length s' ≡ length hosts + 1
    same : (i : ℕ) → i < length hosts → slice_index_or s i None ≡ slice_index_or s' i None
    free : slice_index_or s' (length hosts) None ≡ None

  starts_wide : Widens (replicate (length hosts) None) (replicate (length hosts') None)
  starts_wide = record {
    len = all_none (length hosts);
    len' = all_none (length hosts') ∙ length-append hosts (text_of bytes wrong ∷ []);
    same = λ i h. none_at (length hosts) i ∙ sym (none_at (length hosts') i);
    free = none_at (length hosts') (length hosts);
  }

  module _ (s s' : Sections) (wide : Widens s s') (host : ℕ) (declared : host < length hosts) (words : List ℕ) where
    same_set : (i : ℕ) → i < length hosts → (t : Bool) → nat_eq i host ≡ t → slice_index_or (slice_set s host (Some words)) i None ≡ slice_index_or (slice_set s' host (Some words)) i None
    same_set i h true e =
        let is : i ≡ host = eqb-true i host e in
        let inside : host < length s = omega (arith, wide.len) in
        let inside' : host < length s' = omega (arith, wide.len') in
        ap (λ j. slice_index_or (slice_set s host (Some words)) j None) is
        ∙ get_or-set_same s host (Some words) None inside
        ∙ sym (get_or-set_same s' host (Some words) None inside')
        ∙ sym (ap (λ j. slice_index_or (slice_set s' host (Some words)) j None) is)
    same_set i h false e =
        let other : i ≢ host = λ is. false≢true (sym e ∙ eq-eqb i host is) in
        get_or-set_other s host i (Some words) None other ∙ wide.same i h ∙ sym (get_or-set_other s' host i (Some words) None other)

    stays_wide : Widens (slice_set s host (Some words)) (slice_set s' host (Some words))
    stays_wide =
        let other : length hosts ≢ host = λ is. omega arith in
        record {
          len = length-set s host (Some words) ∙ wide.len;
          len' = length-set s' host (Some words) ∙ wide.len';
          same = λ i h. same_set i h (nat_eq i host) refl;
          free = get_or-set_other s' host (length hosts) (Some words) None other ∙ wide.free;
        }

  abbrev Inside : Place → Type 0
  Inside between = Unit {0}
  Inside (named host) = host < length hosts
  Inside (listing host words) = host < length hosts

  -- a step with the further host does what the step without it does, unless that finds no host
  abbrev Follows : Step → Step → Type 0
  Follows (go place s) st = (s' : Sections) × (st ≡ go place s') × Widens s s' × Inside place
  Follows (stop (Ok inputs)) st = Unit {0}
  Follows (stop (Err (Text at))) st = st ≡ stop (Err (Text at))
  Follows (stop (Err (UnknownHost at))) st = Unit {0}
  Follows (stop (Err Memory)) st = Unit {0}

  module _ (s s' : Sections) (wide : Widens s s') where
    old_follows : (at host : ℕ) → host < length hosts → (old : Bool) → Follows (if old then stop (Err (Text at)) else go (named host) s) (if old then stop (Err (Text at)) else go (named host) s')
    old_follows at host declared true = refl
    old_follows at host declared false = (s', refl, wide, declared)

    host_follows : (at host : ℕ) → host < length hosts → Follows (at_name s at (Some host)) (at_name s' at (Some host))
    host_follows at host declared =
        subst (λ old. Follows (at_name s at (Some host)) (if is_some old then stop (Err (Text at)) else go (named host) s'))
        (wide.same host declared)
        (old_follows at host declared (is_some (slice_index_or s host None)))

    name_follows : (at : ℕ) (text : List ℕ) (o : Option ℕ) → host_of hosts text ≡ o → Follows (at_name s at o) (at_name s' at (host_of hosts' text))
    name_follows at text None e = tt
    name_follows at text (Some host) e =
        subst (λ o. Follows (at_name s at (Some host)) (at_name s' at o)) (sym (found_too hosts (text_of bytes wrong) text host e))
        (host_follows at host (declared_host hosts text host e))

    section_follows : (at : ℕ) (text : List ℕ) (k : TokenKind) → Follows (at_section hosts s at text k) (at_section hosts' s' at text k)
    section_follows at text kind.End = tt
    section_follows at text kind.Name = name_follows at text (host_of hosts text) refl
    section_follows at text kind.All = refl
    section_follows at text kind.Colon = refl
    section_follows at text (kind.Number v) = refl
    section_follows at text kind.Other = refl

    colon_follows : (at host : ℕ) → host < length hosts → (k : TokenKind) → Follows (at_colon host s at k) (at_colon host s' at k)
    colon_follows at host declared kind.Colon = (s', refl, wide, declared)
    colon_follows at host declared kind.End = refl
    colon_follows at host declared kind.Name = refl
    colon_follows at host declared kind.All = refl
    colon_follows at host declared (kind.Number v) = refl
    colon_follows at host declared kind.Other = refl

    number_follows : (at host : ℕ) (words : List ℕ) → host < length hosts → (few : Bool) → Follows (if few then go (listing host words) s else stop (Err (Text at))) (if few then go (listing host words) s' else stop (Err (Text at)))
    number_follows at host words declared true = (s', refl, wide, declared)
    number_follows at host words declared false = refl

  word_follows : (s s' : Sections) → Widens s s' → (at host : ℕ) (words text : List ℕ) → host < length hosts → (k : TokenKind) → Follows (at_word hosts host words s at text k) (at_word hosts' host words s' at text k)
  word_follows s s' wide at host words text declared (kind.Number v) = number_follows s s' wide at host (words ++ v ∷ []) declared (nat_lt (length words) 65536)
  word_follows s s' wide at host words text declared kind.End = section_follows (slice_set s host (Some words)) (slice_set s' host (Some words)) (stays_wide s s' wide host declared words) at text kind.End
  word_follows s s' wide at host words text declared kind.Name = section_follows (slice_set s host (Some words)) (slice_set s' host (Some words)) (stays_wide s s' wide host declared words) at text kind.Name
  word_follows s s' wide at host words text declared kind.All = refl
  word_follows s s' wide at host words text declared kind.Colon = refl
  word_follows s s' wide at host words text declared kind.Other = refl

  follows : (place : Place) (s s' : Sections) → Widens s s' → Inside place → (t : Token) → Follows (step hosts bytes place s t) (step hosts' bytes place s' t)
  follows between s s' wide inside t = section_follows s s' wide (capped t.start) (text_of bytes t) t.kind
  follows (named host) s s' wide inside t = colon_follows s s' wide (capped t.start) host inside t.kind
  follows (listing host words) s s' wide inside t = word_follows s s' wide (capped t.start) host words (text_of bytes t) inside t.kind

  follows_as : (place : Place) (s s' : Sections) → Widens s s' → Inside place → (t : Token) (st : Step) → step hosts bytes place s t ≡ st → Follows st (step hosts' bytes place s' t)
  follows_as place s s' wide inside t st e = subst (λ st. Follows st (step hosts' bytes place s' t)) e (follows place s s' wide inside t)

  -- a text that is refused as a text is refused so with the further host
  module _ (at : ℕ) where
    text_by : (place : Place) (s s' : Sections) → Widens s s' → Inside place → (t : Token) (ts : List Token)
        → ((place : Place) (s s' : Sections) → Widens s s' → Inside place → reads hosts bytes place s ts ≡ Err (Text at) → reads hosts' bytes place s' ts ≡ Err (Text at))
        → (st : Step) → step hosts bytes place s t ≡ st → next hosts bytes ts st ≡ Err (Text at) → reads hosts' bytes place s' (t ∷ ts) ≡ Err (Text at)
    text_by place s s' wide inside t ts rest (go place' s1) e h =
        let f = follows_as place s s' wide inside t (go place' s1) e in
        reads_go hosts' bytes ts place s' t place' f.0 f.1 ∙ rest place' s1 f.0 f.2 f.3 h
    text_by place s s' wide inside t ts rest (stop (Ok inputs)) e h = absurd cc
    text_by place s s' wide inside t ts rest (stop (Err (Text o))) e h = reads_stop hosts' bytes ts place s' t (Err (Text o)) (follows_as place s s' wide inside t (stop (Err (Text o))) e) ∙ h
    text_by place s s' wide inside t ts rest (stop (Err (UnknownHost o))) e h = absurd cc
    text_by place s s' wide inside t ts rest (stop (Err Memory)) e h = absurd cc

    ends_too : (place : Place) (s s' : Sections) → reads hosts bytes place s [] ≡ Err (Text at) → reads hosts' bytes place s' [] ≡ Err (Text at)
    unfolding reads
    ends_too place s s' h = h

    refused_too : (ts : List Token) (place : Place) (s s' : Sections) → Widens s s' → Inside place → reads hosts bytes place s ts ≡ Err (Text at) → reads hosts' bytes place s' ts ≡ Err (Text at)
    refused_too [] place s s' wide inside h = ends_too place s s' h
    refused_too (t ∷ ts) place s s' wide inside h = text_by place s s' wide inside t ts (λ p q r w i e. refused_too ts p q r w i e) (step hosts bytes place s t) refl (sym (unfold_step hosts bytes ts place s t) ∙ h)

    pub text_could_not : (ts : List Token) → reads hosts bytes between (replicate (length hosts) None) ts ≡ Err (Text at) → IsInputsText hosts' bytes ts → ⊥
    text_could_not ts h text =
        let read = accept hosts' bytes text.1 (replicate (length hosts') None) (fits_start hosts') in
        let not_read = refused_too ts between (replicate (length hosts) None) (replicate (length hosts') None) starts_wide tt h in
        absurd cc

    -- with the further host the name begins its section
    module _ (s s' : Sections) (wide : Widens s s') where
      new_named : at_name s' (capped wrong.start) (Some (length hosts)) ≡ go (named (length hosts)) s'
      new_named = ap (λ old. if is_some old then stop (Err (Text (capped wrong.start))) else go (named (length hosts)) s') wide.free

      old_known : (host : ℕ) (old : Bool) → (if old then stop (Err (Text (capped wrong.start))) else go (named host) s) ≡ stop (Err (UnknownHost at)) → ⊥
      old_known host true h = absurd cc
      old_known host false h = absurd cc

      name_begins : (o : Option ℕ) → host_of hosts (text_of bytes wrong) ≡ o → at_name s (capped wrong.start) o ≡ stop (Err (UnknownHost at)) → at_name s' (capped wrong.start) (host_of hosts' (text_of bytes wrong)) ≡ go (named (length hosts)) s'
      name_begins None e h = ap (at_name s' (capped wrong.start)) (found_new hosts (text_of bytes wrong) e) ∙ new_named
      name_begins (Some host) e h = absurd (old_known host (is_some (slice_index_or s host None)) h)

      section_begins : (k : TokenKind) → at_section hosts s (capped wrong.start) (text_of bytes wrong) k ≡ stop (Err (UnknownHost at)) → at_section hosts' s' (capped wrong.start) (text_of bytes wrong) k ≡ go (named (length hosts)) s'
      section_begins kind.Name h = name_begins (host_of hosts (text_of bytes wrong)) refl h
      section_begins kind.End h = absurd cc
      section_begins kind.All h = absurd cc
      section_begins kind.Colon h = absurd cc
      section_begins (kind.Number v) h = absurd cc
      section_begins kind.Other h = absurd cc

    colon_known : (s : Sections) (host : ℕ) (k : TokenKind) → at_colon host s (capped wrong.start) k ≡ stop (Err (UnknownHost at)) → ⊥
    colon_known s host kind.Colon h = absurd cc
    colon_known s host kind.End h = absurd cc
    colon_known s host kind.Name h = absurd cc
    colon_known s host kind.All h = absurd cc
    colon_known s host (kind.Number v) h = absurd cc
    colon_known s host kind.Other h = absurd cc

    number_known : (s : Sections) (host : ℕ) (words : List ℕ) (few : Bool) → (if few then go (listing host words) s else stop (Err (Text (capped wrong.start)))) ≡ stop (Err (UnknownHost at)) → ⊥
    number_known s host words true h = absurd cc
    number_known s host words false h = absurd cc

    word_begins : (s s' : Sections) → Widens s s' → (host : ℕ) (words : List ℕ) → host < length hosts → (k : TokenKind) → at_word hosts host words s (capped wrong.start) (text_of bytes wrong) k ≡ stop (Err (UnknownHost at))
        → at_word hosts' host words s' (capped wrong.start) (text_of bytes wrong) k ≡ go (named (length hosts)) (slice_set s' host (Some words))
    word_begins s s' wide host words declared (kind.Number v) h = absurd (number_known s host (words ++ v ∷ []) (nat_lt (length words) 65536) h)
    word_begins s s' wide host words declared kind.Name h = section_begins (slice_set s host (Some words)) (slice_set s' host (Some words)) (stays_wide s s' wide host declared words) kind.Name h
    word_begins s s' wide host words declared kind.End h = absurd cc
    word_begins s s' wide host words declared kind.All h = absurd cc
    word_begins s s' wide host words declared kind.Colon h = absurd cc
    word_begins s s' wide host words declared kind.Other h = absurd cc

    record Stands (place : Place) (s' : Sections) (front : List Token) : Type 0 where
      more : List Token
      inputs : List (List ℕ)
      read : reads hosts' bytes place s' (front ++ wrong ∷ more) ≡ Ok inputs

    stands_by : (place : Place) (s' s1 : Sections) → step hosts' bytes place s' wrong ≡ go (named (length hosts)) s1 → Stands place s' []
    stands_by place s' s1 e =
        let g = goes_on hosts' bytes (named (length hosts)) s1 in
        record { more = g.more; inputs = g.inputs; read = reads_go hosts' bytes g.more place s' wrong (named (length hosts)) s1 e ∙ g.read }

    stands_here : (place : Place) (s s' : Sections) → Widens s s' → Inside place → step hosts bytes place s wrong ≡ stop (Err (UnknownHost at)) → Stands place s' []
    stands_here between s s' wide inside h = stands_by between s' s' (section_begins s s' wide wrong.kind h)
    stands_here (named host) s s' wide inside h = absurd (colon_known s host wrong.kind h)
    stands_here (listing host words) s s' wide inside h = stands_by (listing host words) s' (slice_set s' host (Some words)) (word_begins s s' wide host words inside wrong.kind h)

    nothing_left : (place : Place) (s : Sections) → reads hosts bytes place s [] ≡ Err (UnknownHost at) → ⊥
    unfolding reads
    nothing_left place s h = absurd cc

    last_stands : (place : Place) (s s' : Sections) → Widens s s' → Inside place → (st : Step) → step hosts bytes place s wrong ≡ st → next hosts bytes [] st ≡ Err (UnknownHost at) → Stands place s' []
    last_stands place s s' wide inside (go place' s1) e h = absurd (nothing_left place' s1 h)
    last_stands place s s' wide inside (stop r) e h = stands_here place s s' wide inside (e ∙ ap stop h)

    step_stands : (place : Place) (s s' : Sections) → Widens s s' → Inside place → (t : Token) (front more : List Token) (inputs : List (List ℕ))
        → ((place : Place) (s s' : Sections) → Widens s s' → Inside place → reads hosts bytes place s (front ++ more) ≡ Ok inputs → reads hosts bytes place s (front ++ wrong ∷ []) ≡ Err (UnknownHost at) → Stands place s' front)
        → (st : Step) → step hosts bytes place s t ≡ st → next hosts bytes (front ++ more) st ≡ Ok inputs → next hosts bytes (front ++ wrong ∷ []) st ≡ Err (UnknownHost at) → Stands place s' (t ∷ front)
    step_stands place s s' wide inside t front more inputs rest (go place' s1) e h k =
        let f = follows_as place s s' wide inside t (go place' s1) e in
        let r = rest place' s1 f.0 f.2 f.3 h k in
        record { more = r.more; inputs = r.inputs; read = reads_go hosts' bytes (front ++ wrong ∷ r.more) place s' t place' f.0 f.1 ∙ r.read }
    step_stands place s s' wide inside t front more inputs rest (stop r) e h k = absurd cc

    name_stands : (front more : List Token) (inputs : List (List ℕ)) (place : Place) (s s' : Sections) → Widens s s' → Inside place → reads hosts bytes place s (front ++ more) ≡ Ok inputs → reads hosts bytes place s (front ++ wrong ∷ []) ≡ Err (UnknownHost at) → Stands place s' front
    name_stands [] more inputs place s s' wide inside h k = last_stands place s s' wide inside (step hosts bytes place s wrong) refl (sym (unfold_step hosts bytes [] place s wrong) ∙ k)
    name_stands (t ∷ front) more inputs place s s' wide inside h k =
        step_stands place s s' wide inside t front more inputs (λ p q r w i x y. name_stands front more inputs p q r w i x y)
        (step hosts bytes place s t) refl
        (sym (unfold_step hosts bytes (front ++ more) place s t) ∙ h)
        (sym (unfold_step hosts bytes (front ++ wrong ∷ []) place s t) ∙ k)

    pub name_could_stand : (front : List Token) → GoesOn hosts bytes between (replicate (length hosts) None) front → reads hosts bytes between (replicate (length hosts) None) (front ++ wrong ∷ []) ≡ Err (UnknownHost at) → BeginsWith (IsInputsText hosts' bytes) front wrong
    name_could_stand front g h =
        let r = name_stands front g.more g.inputs between (replicate (length hosts) None) (replicate (length hosts') None) starts_wide tt g.read h in
        let known = between_known hosts' bytes r.inputs (front ++ wrong ∷ r.more) (replicate (length hosts') None) (fits_start hosts') r.read in
        (r.more, (known.sections, known.are))
