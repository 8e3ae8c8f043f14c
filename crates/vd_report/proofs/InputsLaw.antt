-- What an inputs file says is what its grammar gives.
use Rattle.std.proofs.Common.{◌≡◌, ◌≢◌, ℕ, zero, suc, ◌+◌, ◌<◌, ◌≤◌, Bool, true, false, ◌||◌, List, [], ◌∷◌, ◌++◌, length, map, refl, ap, sym, ◌∙◌, subst, arith, Option, Some, None, is_some, Ok, Err, replicate, slice_set, slice_index_or, nat_eq, nat_lt, append_assoc, append-nil, length-append, if◌then◌else◌}
use Rattle.std.specs.List.{list_any}
use Rattle.std.proofs.lemmas.Bool.{eqb-true, ltb-true, false≢true}
use Rattle.std.proofs.Common.{eq-eqb}
use Rattle.std.proofs.lemmas.List.{length-set, map-set, get_or-set_same, get_or-set_other}
use Rattle.std.proofs.lemmas.List.Quantifiers.{position-Some}
use Rattle.std.specs.Str.{bytes_eq}
use Rattle.vd_report.specs.declared.fault.ReadFault.TheVariants.{Text}
use Rattle.vd_report.specs.declared.token.TokenKind.{TokenKind}
use Rattle.vd_report.specs.declared.token.TokenKind.TheVariants as kind
use Rattle.vd_report.specs.declared.token.Token.{Token}
use Rattle.vd_report.specs.Hosts.{host_of}
use Rattle.vd_report.specs.Tokens.{tokens_at, text_of, capped}
use Rattle.vd_report.specs.Inputs.{Sections, words_of, Place, between, named, listing, go, stop, at_name, at_section, at_colon, at_word, step, reads, inputs_read}
use Rattle.vd_report.specs.InputsText.{Numbers, no_number, one_number, AreSections, no_section, one_section, filled, GivesInputs}
use Rattle.vd_report.proofs.InputsSteps.{next, unfold_step, reads_go, reads_stop, word_taken, section_closed}

-- the sections so far are those of these hosts
pub record Fits (hosts : List (List ℕ)) (earlier : List ℕ) (s : Sections) : Type 0 where
  pub len : length s ≡ length hosts
  pub same : (i : ℕ) → is_some (slice_index_or s i None) ≡ list_any (nat_eq i) earlier

pub none_at : (n i : ℕ) → slice_index_or {A = Option (List ℕ)} (replicate n None) i None ≡ None
none_at zero i = refl
none_at (suc n) zero = refl
none_at (suc n) (suc i) = none_at n i

pub all_none : (n : ℕ) → length {A = Option (List ℕ)} (replicate n None) ≡ n
all_none zero = refl
all_none (suc n) = let rest = all_none n in omega arith

pub fits_start : (hosts : List (List ℕ)) → Fits hosts [] (replicate (length hosts) None)
fits_start hosts = record { len = all_none (length hosts); same = λ i. ap is_some (none_at (length hosts) i) }

module _ (hosts : List (List ℕ)) (earlier : List ℕ) (s : Sections) (fits : Fits hosts earlier s) (host : ℕ) (declared : host < length hosts) (words : List ℕ) where
  same_host : (i : ℕ) (t : Bool) → nat_eq i host ≡ t → is_some (slice_index_or (slice_set s host (Some words)) i None) ≡ (t || list_any (nat_eq i) earlier)
  same_host i true e =
      let is : i ≡ host = eqb-true i host e in
      let inside : host < length s = omega (arith, fits.len) in
      ap (λ j. is_some (slice_index_or (slice_set s host (Some words)) j None)) is ∙ ap is_some (get_or-set_same s host (Some words) None inside)
  same_host i false e =
      let other : i ≢ host = λ is. false≢true (sym e ∙ eq-eqb i host is) in
      ap is_some (get_or-set_other s host i (Some words) None other) ∙ fits.same i

  fits_more : Fits hosts (host ∷ earlier) (slice_set s host (Some words))
  fits_more = record {
    len = length-set s host (Some words) ∙ fits.len;
    same = λ i. same_host i (nat_eq i host) refl;
  }

pub declared_host : (hosts : List (List ℕ)) (name : List ℕ) (host : ℕ) → host_of hosts name ≡ Some host → host < length hosts
declared_host hosts name host e = (position-Some (λ h. bytes_eq h name) hosts host [] e).0

-- each text of the grammar is read
module _ (hosts : List (List ℕ)) (bytes : List ℕ) where
  numbers_read : {ts rest : List Token} {words : List ℕ} → Numbers ts words rest → (s : Sections) (host : ℕ) (before : List ℕ) → length before + length words ≤ 65536 → reads hosts bytes (listing host before) s ts ≡ reads hosts bytes (listing host (before ++ words)) s rest
  numbers_read (no_number {ts = ts}) s host before few = ap (λ words. reads hosts bytes (listing host words) s ts) (sym (append-nil before))
  numbers_read (one_number {t = t} {v = v} {ts = ts} {rest = rest} {words = words} e numbers) s host before few =
      let longer : length (before ++ v ∷ []) + length words ≤ 65536 = omega (arith, length-append before (v ∷ [])) in
      reads_go hosts bytes ts (listing host before) s t _ _ (word_taken hosts bytes host before s t v e (omega arith))
      ∙ numbers_read numbers s host (before ++ v ∷ []) longer
      ∙ ap (λ ws. reads hosts bytes (listing host ws) s rest) (append_assoc before (v ∷ []) words)

  closed : {earlier : List ℕ} {ts : List Token} {sections : List (ℕ × List ℕ)} → AreSections hosts bytes earlier ts sections → (s : Sections) (host : ℕ) (words : List ℕ) → reads hosts bytes (listing host words) s ts ≡ reads hosts bytes between (slice_set s host (Some words)) ts
  closed (no_section {t = t} {ts = ts} e) s host words = section_closed hosts bytes host words s t ts (λ v f. absurd cc)
  closed (one_section {name = name} {colon = colon} {ts = ts} e _ _ _ _ _ _) s host words = section_closed hosts bytes host words s name (colon ∷ ts) (λ v f. absurd cc)

  name_step : (s : Sections) (name : Token) (host : ℕ) → name.kind ≡ kind.Name → host_of hosts (text_of bytes name) ≡ Some host → is_some (slice_index_or s host None) ≡ false → step hosts bytes between s name ≡ go (named host) s
  name_step s name host e found new =
      ap (at_section hosts s (capped name.start) (text_of bytes name)) e
      ∙ ap (at_name s (capped name.start)) found
      ∙ ap (λ t. if t then stop (Err (Text (capped name.start))) else go (named host) s) new

  section_read : (s : Sections) (name colon : Token) (ts rest : List Token) (host : ℕ) (words : List ℕ) → step hosts bytes between s name ≡ go (named host) s → colon.kind ≡ kind.Colon → Numbers ts words rest → length words ≤ 65536 → reads hosts bytes between s (name ∷ colon ∷ ts) ≡ reads hosts bytes (listing host words) s rest
  section_read s name colon ts rest host words named_host is_colon numbers few =
      reads_go hosts bytes (colon ∷ ts) between s name _ _ named_host
      ∙ reads_go hosts bytes ts (named host) s colon _ _ (ap (at_colon host s (capped colon.start)) is_colon)
      ∙ numbers_read numbers s host [] (omega arith)

  pub accept : {earlier : List ℕ} {ts : List Token} {sections : List (ℕ × List ℕ)} → AreSections hosts bytes earlier ts sections → (s : Sections) → Fits hosts earlier s → reads hosts bytes between s ts ≡ Ok (filled (map words_of s) sections)
  accept (no_section {t = t} {ts = ts} e) s fits = reads_stop hosts bytes ts between s t _ (ap (at_section hosts s (capped t.start) (text_of bytes t)) e)
  accept (one_section {earlier = earlier} {words = words} {name = name} {colon = colon} {ts = ts} {rest = rest} {host = host} {sections = sections} is_name found new is_colon numbers few more) s fits =
      let declared = declared_host hosts (text_of bytes name) host found in
      section_read s name colon ts rest host words (name_step s name host is_name found (fits.same host ∙ new)) is_colon numbers few
      ∙ closed more s host words
      ∙ accept more (slice_set s host (Some words)) (fits_more hosts earlier s fits host declared words)
      ∙ ap (λ inputs. Ok (filled inputs sections)) (map-set words_of s host (Some words))

-- what is read is given by the grammar
module _ (hosts : List (List ℕ)) (bytes : List ℕ) (inputs : List (List ℕ)) where
  pub record Rest (earlier : List ℕ) (s : Sections) (ts : List Token) : Type 0 where
    pub sections : List (ℕ × List ℕ)
    pub are : AreSections hosts bytes earlier ts sections
    pub is : filled (map words_of s) sections ≡ inputs

  record InSection (earlier : List ℕ) (s : Sections) (host : ℕ) (before : List ℕ) (ts : List Token) : Type 0 where
    words : List ℕ
    rest : List Token
    numbers : Numbers ts words rest
    few : length before + length words ≤ 65536
    more : Rest (host ∷ earlier) (slice_set s host (Some (before ++ words))) rest

  record AfterName (earlier : List ℕ) (s : Sections) (host : ℕ) (ts : List Token) : Type 0 where
    colon : Token
    later : List Token
    is : colon ∷ later ≡ ts
    is_colon : colon.kind ≡ kind.Colon
    section : InSection earlier s host [] later

  -- what is known of the tokens behind one
  record Known (ts : List Token) : Type 0 where
    named_known : (earlier : List ℕ) (s : Sections) (host : ℕ) → Fits hosts earlier s → host < length hosts → reads hosts bytes (named host) s ts ≡ Ok inputs → AfterName earlier s host ts
    listing_known : (earlier : List ℕ) (s : Sections) (host : ℕ) (before : List ℕ) → Fits hosts earlier s → host < length hosts → length before ≤ 65536 → reads hosts bytes (listing host before) s ts ≡ Ok inputs → InSection earlier s host before ts

  module _ (t : Token) (ts : List Token) (known : Known ts) where
    section_from : (earlier : List ℕ) (s : Sections) (host : ℕ) → t.kind ≡ kind.Name → host_of hosts (text_of bytes t) ≡ Some host → list_any (nat_eq host) earlier ≡ false → AfterName earlier s host ts → Rest earlier s (t ∷ ts)
    section_from earlier s host e found new a =
        let more = a.section.more in
        record {
          sections = (host, a.section.words) ∷ more.sections;
          are = subst (λ us. AreSections hosts bytes earlier (t ∷ us) ((host, a.section.words) ∷ more.sections)) a.is
              (one_section e found new a.is_colon a.section.numbers (omega (arith, a.section.few)) more.are);
          is = ap (λ xs. filled xs more.sections) (sym (map-set words_of s host (Some a.section.words))) ∙ more.is;
        }

    at_new : (earlier : List ℕ) (s : Sections) → Fits hosts earlier s → (host : ℕ) → t.kind ≡ kind.Name → host_of hosts (text_of bytes t) ≡ Some host → (old : Bool) → is_some (slice_index_or s host None) ≡ old → next hosts bytes ts (if old then stop (Err (Text (capped t.start))) else go (named host) s) ≡ Ok inputs → Rest earlier s (t ∷ ts)
    at_new earlier s fits host e found true old h = absurd cc
    at_new earlier s fits host e found false old h =
        section_from earlier s host e found (sym (fits.same host) ∙ old)
        (known.named_known earlier s host fits (declared_host hosts (text_of bytes t) host found) h)

    at_found : (earlier : List ℕ) (s : Sections) → Fits hosts earlier s → t.kind ≡ kind.Name → (o : Option ℕ) → host_of hosts (text_of bytes t) ≡ o → next hosts bytes ts (at_name s (capped t.start) o) ≡ Ok inputs → Rest earlier s (t ∷ ts)
    at_found earlier s fits e None found h = absurd cc
    at_found earlier s fits e (Some host) found h = at_new earlier s fits host e found (is_some (slice_index_or s host None)) refl h

    by_kind : (earlier : List ℕ) (s : Sections) → Fits hosts earlier s → (k : TokenKind) → t.kind ≡ k → next hosts bytes ts (at_section hosts s (capped t.start) (text_of bytes t) k) ≡ Ok inputs → Rest earlier s (t ∷ ts)
    by_kind earlier s fits kind.End e h = record { sections = []; are = no_section e; is = cc }
    by_kind earlier s fits kind.Name e h = at_found earlier s fits e (host_of hosts (text_of bytes t)) refl h
    by_kind earlier s fits kind.All e h = absurd cc
    by_kind earlier s fits kind.Colon e h = absurd cc
    by_kind earlier s fits (kind.Number v) e h = absurd cc
    by_kind earlier s fits kind.Other e h = absurd cc

    at_between : (earlier : List ℕ) (s : Sections) → Fits hosts earlier s → reads hosts bytes between s (t ∷ ts) ≡ Ok inputs → Rest earlier s (t ∷ ts)
    at_between earlier s fits h = by_kind earlier s fits t.kind refl (sym (unfold_step hosts bytes ts between s t) ∙ h)

    colon_kind : (earlier : List ℕ) (s : Sections) (host : ℕ) → Fits hosts earlier s → host < length hosts → (k : TokenKind) → t.kind ≡ k → next hosts bytes ts (at_colon host s (capped t.start) k) ≡ Ok inputs → AfterName earlier s host (t ∷ ts)
    colon_kind earlier s host fits declared kind.Colon e h = record { colon = t; later = ts; is = refl; is_colon = e; section = known.listing_known earlier s host [] fits declared (omega arith) h }
    colon_kind earlier s host fits declared kind.End e h = absurd cc
    colon_kind earlier s host fits declared kind.Name e h = absurd cc
    colon_kind earlier s host fits declared kind.All e h = absurd cc
    colon_kind earlier s host fits declared (kind.Number v) e h = absurd cc
    colon_kind earlier s host fits declared kind.Other e h = absurd cc

    at_named : (earlier : List ℕ) (s : Sections) (host : ℕ) → Fits hosts earlier s → host < length hosts → reads hosts bytes (named host) s (t ∷ ts) ≡ Ok inputs → AfterName earlier s host (t ∷ ts)
    at_named earlier s host fits declared h = colon_kind earlier s host fits declared t.kind refl (sym (unfold_step hosts bytes ts (named host) s t) ∙ h)

    one_more : (earlier : List ℕ) (s : Sections) (host : ℕ) (before : List ℕ) (v : ℕ) → t.kind ≡ kind.Number v → InSection earlier s host (before ++ v ∷ []) ts → InSection earlier s host before (t ∷ ts)
    one_more earlier s host before v e i = record {
      words = v ∷ i.words;
      rest = i.rest;
      numbers = one_number e i.numbers;
      few = omega (arith, i.few, length-append before (v ∷ []));
      more = subst (λ words. Rest (host ∷ earlier) (slice_set s host (Some words)) i.rest) (append_assoc before (v ∷ []) i.words) i.more;
    }

    number_at : (earlier : List ℕ) (s : Sections) (host : ℕ) (before : List ℕ) → Fits hosts earlier s → host < length hosts → (v : ℕ) → t.kind ≡ kind.Number v → (b : Bool) → nat_lt (length before) 65536 ≡ b → next hosts bytes ts (if b then go (listing host (before ++ v ∷ [])) s else stop (Err (Text (capped t.start)))) ≡ Ok inputs → InSection earlier s host before (t ∷ ts)
    number_at earlier s host before fits declared v e true few h =
        let fewer : length before < 65536 = ltb-true (length before) 65536 few in
        one_more earlier s host before v e (known.listing_known earlier s host (before ++ v ∷ []) fits declared (omega (arith, length-append before (v ∷ []))) h)
    number_at earlier s host before fits declared v e false few h = absurd cc

    closing : (earlier : List ℕ) (s : Sections) (host : ℕ) (before : List ℕ) → Fits hosts earlier s → host < length hosts → length before ≤ 65536 → ((v : ℕ) → t.kind ≡ kind.Number v → ⊥) → reads hosts bytes (listing host before) s (t ∷ ts) ≡ Ok inputs → InSection earlier s host before (t ∷ ts)
    closing earlier s host before fits declared few other h = record {
      words = [];
      rest = t ∷ ts;
      numbers = no_number;
      few = omega arith;
      more = subst (λ words. Rest (host ∷ earlier) (slice_set s host (Some words)) (t ∷ ts)) (sym (append-nil before))
          (at_between (host ∷ earlier) (slice_set s host (Some before)) (fits_more hosts earlier s fits host declared before) (sym (section_closed hosts bytes host before s t ts other) ∙ h));
    }

    listing_kind : (earlier : List ℕ) (s : Sections) (host : ℕ) (before : List ℕ) → Fits hosts earlier s → host < length hosts → length before ≤ 65536 → reads hosts bytes (listing host before) s (t ∷ ts) ≡ Ok inputs → (k : TokenKind) → t.kind ≡ k → next hosts bytes ts (at_word hosts host before s (capped t.start) (text_of bytes t) k) ≡ Ok inputs → InSection earlier s host before (t ∷ ts)
    listing_kind earlier s host before fits declared few r (kind.Number v) e h = number_at earlier s host before fits declared v e (nat_lt (length before) 65536) refl h
    listing_kind earlier s host before fits declared few r kind.End e h = closing earlier s host before fits declared few (λ v f. absurd cc) r
    listing_kind earlier s host before fits declared few r kind.Name e h = closing earlier s host before fits declared few (λ v f. absurd cc) r
    listing_kind earlier s host before fits declared few r kind.All e h = closing earlier s host before fits declared few (λ v f. absurd cc) r
    listing_kind earlier s host before fits declared few r kind.Colon e h = closing earlier s host before fits declared few (λ v f. absurd cc) r
    listing_kind earlier s host before fits declared few r kind.Other e h = closing earlier s host before fits declared few (λ v f. absurd cc) r

    at_listing : (earlier : List ℕ) (s : Sections) (host : ℕ) (before : List ℕ) → Fits hosts earlier s → host < length hosts → length before ≤ 65536 → reads hosts bytes (listing host before) s (t ∷ ts) ≡ Ok inputs → InSection earlier s host before (t ∷ ts)
    at_listing earlier s host before fits declared few r = listing_kind earlier s host before fits declared few r t.kind refl (sym (unfold_step hosts bytes ts (listing host before) s t) ∙ r)

  no_token : (place : Place) (s : Sections) → reads hosts bytes place s [] ≡ Ok inputs → ⊥
  unfolding reads
  no_token place s h = cc

  known_of : (ts : List Token) → Known ts
  known_of [] = record {
    named_known = λ earlier s host fits declared h. absurd (no_token (named host) s h);
    listing_known = λ earlier s host before fits declared few h. absurd (no_token (listing host before) s h);
  }
  known_of (t ∷ ts) = let known = known_of ts in record {
    named_known = λ earlier s host fits declared h. at_named t ts known earlier s host fits declared h;
    listing_known = λ earlier s host before fits declared few h. at_listing t ts known earlier s host before fits declared few h;
  }

  pub between_known : (ts : List Token) (s : Sections) → Fits hosts [] s → reads hosts bytes between s ts ≡ Ok inputs → Rest [] s ts
  between_known [] s fits h = absurd (no_token between s h)
  between_known (t ∷ ts) s fits h = at_between t ts (known_of ts) [] s fits h

  no_words : (n : ℕ) → map words_of (replicate n None) ≡ replicate n []
  no_words zero = refl
  no_words (suc n) = ap (λ xs. [] ∷ xs) (no_words n)

  pub given_inputs : inputs_read hosts bytes ≡ Ok inputs → GivesInputs hosts bytes inputs
  given_inputs h =
      let r = between_known (tokens_at bytes 0) (replicate (length hosts) None) (fits_start hosts) h in
      record { sections = r.sections; are = r.are; inputs_are = ap (λ xs. filled xs r.sections) (sym (no_words (length hosts))) ∙ r.is }

  pub accepted_inputs : GivesInputs hosts bytes inputs → inputs_read hosts bytes ≡ Ok inputs
  accepted_inputs g =
      accept hosts bytes g.are (replicate (length hosts) None) (fits_start hosts)
      ∙ ap (λ xs. Ok (filled xs g.sections)) (no_words (length hosts))
      ∙ ap Ok g.inputs_are
