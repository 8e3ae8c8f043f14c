-- One token of an inputs file after another.
use Rattle.std.proofs.Common.{◌≡◌, ◌≢◌, ℕ, ◌<◌, ◌≤◌, Bool, true, false, List, [], ◌∷◌, ◌++◌, length, refl, ap, sym, ◌∙◌, arith, Some, Result, Err, slice_set, nat_lt, if◌then◌else◌}
use Rattle.std.proofs.lemmas.Bool.Decides.{nat_tests}
use Rattle.vd_report.specs.declared.fault.ReadFault.{ReadFault}
use Rattle.vd_report.specs.declared.fault.ReadFault.TheVariants.{Text, UnknownHost, Memory}
use Rattle.vd_report.specs.declared.token.TokenKind.{TokenKind}
use Rattle.vd_report.specs.declared.token.TokenKind.TheVariants as kind
use Rattle.vd_report.specs.declared.token.Token.{Token}
use Rattle.vd_report.specs.Tokens.{tokens_at, behind_kind, behind, text_of, capped}
use Rattle.vd_report.specs.Inputs.{Sections, Place, between, named, listing, Step, go, stop, at_section, at_colon, at_word, step, reads, Fails}
use Rattle.vd_report.specs.Outcome.{IsFaultOf}

module _ (hosts : List (List ℕ)) (bytes : List ℕ) (ts : List Token) where
  abbrev pub next : Step → Result (List (List ℕ)) ReadFault
  next s = elim s [ go place sections ↦ reads hosts bytes place sections ts | stop result ↦ result ]

  pub unfold_step : (place : Place) (sections : Sections) (t : Token) → reads hosts bytes place sections (t ∷ ts) ≡ next (step hosts bytes place sections t)
  unfolding reads
  unfold_step place sections t = refl

  pub reads_go : (place : Place) (sections : Sections) (t : Token) (place' : Place) (sections' : Sections) → step hosts bytes place sections t ≡ go place' sections' → reads hosts bytes place sections (t ∷ ts) ≡ reads hosts bytes place' sections' ts
  reads_go place sections t place' sections' e = unfold_step place sections t ∙ ap next e

  pub reads_stop : (place : Place) (sections : Sections) (t : Token) (r : Result (List (List ℕ)) ReadFault) → step hosts bytes place sections t ≡ stop r → reads hosts bytes place sections (t ∷ ts) ≡ r
  reads_stop place sections t r e = unfold_step place sections t ∙ ap next e

pub below_limit : {m n : ℕ} → m < n → nat_lt m n ≡ true
below_limit h = grind (arith, nat_tests)

not_below : {m n : ℕ} → n ≤ m → nat_lt m n ≡ false
not_below h = grind (arith, nat_tests)

-- a token of a section
module _ (hosts : List (List ℕ)) (bytes : List ℕ) (host : ℕ) (words : List ℕ) (sections : Sections) (t : Token) where
  chosen : (b : Bool) → nat_lt (length words) 65536 ≡ b → (v : ℕ) → t.kind ≡ kind.Number v → step hosts bytes (listing host words) sections t ≡ (if b then go (listing host (words ++ v ∷ [])) sections else stop (Err (Text (capped t.start))))
  chosen b few v e =
      ap (at_word hosts host words sections (capped t.start) (text_of bytes t)) e
      ∙ ap (λ c. if c then go (listing host (words ++ v ∷ [])) sections else stop (Err (Text (capped t.start)))) few

  pub word_taken : (v : ℕ) → t.kind ≡ kind.Number v → length words < 65536 → step hosts bytes (listing host words) sections t ≡ go (listing host (words ++ v ∷ [])) sections
  word_taken v e few = chosen true (below_limit few) v e

  pub word_refused : (v : ℕ) → t.kind ≡ kind.Number v → 65536 ≤ length words → step hosts bytes (listing host words) sections t ≡ stop (Err (Text (capped t.start)))
  word_refused v e many = chosen false (not_below many) v e

  other_kind : (k : TokenKind) → ((v : ℕ) → k ≡ kind.Number v → ⊥) → at_word hosts host words sections (capped t.start) (text_of bytes t) k ≡ at_section hosts (slice_set sections host (Some words)) (capped t.start) (text_of bytes t) k
  other_kind (kind.Number v) h = absurd (h v refl)
  other_kind _ h = refl

  pub section_closed : (ts : List Token) → ((v : ℕ) → t.kind ≡ kind.Number v → ⊥) → reads hosts bytes (listing host words) sections (t ∷ ts) ≡ reads hosts bytes between (slice_set sections host (Some words)) (t ∷ ts)
  section_closed ts h =
      unfold_step hosts bytes ts (listing host words) sections t
      ∙ ap (next hosts bytes ts) (other_kind t.kind h)
      ∙ sym (unfold_step hosts bytes ts between (slice_set sections host (Some words)) t)

pub behind_more : (bytes : List ℕ) (end : ℕ) (k : TokenKind) → k ≢ kind.End → behind_kind bytes end k ≡ tokens_at bytes end
behind_more bytes end kind.End h = absurd (h refl)
behind_more bytes end _ h = refl

-- a section's name and its colon
module _ (hosts : List (List ℕ)) (bytes : List ℕ) (sections : Sections) (at host : ℕ) (t : Token) (first : tokens_at bytes at ≡ t ∷ behind bytes t) where
  pub name_read : t.kind ≢ kind.End → step hosts bytes between sections t ≡ go (named host) sections → reads hosts bytes between sections (tokens_at bytes at) ≡ reads hosts bytes (named host) sections (tokens_at bytes t.end)
  name_read more e =
      ap (reads hosts bytes between sections) first
      ∙ reads_go hosts bytes (behind bytes t) between sections t (named host) sections e
      ∙ ap (reads hosts bytes (named host) sections) (behind_more bytes t.end t.kind more)

  pub colon_read : t.kind ≡ kind.Colon → reads hosts bytes (named host) sections (tokens_at bytes at) ≡ reads hosts bytes (listing host []) sections (tokens_at bytes t.end)
  colon_read e =
      ap (reads hosts bytes (named host) sections) first
      ∙ reads_go hosts bytes (behind bytes t) (named host) sections t (listing host []) sections (ap (at_colon host sections (capped t.start)) e)
      ∙ ap (λ k. reads hosts bytes (listing host []) sections (behind_kind bytes t.end k)) e

  pub stopped : (place : Place) (r : Result (List (List ℕ)) ReadFault) → step hosts bytes place sections t ≡ stop r → reads hosts bytes place sections (tokens_at bytes at) ≡ r
  stopped place r e = ap (reads hosts bytes place sections) first ∙ reads_stop hosts bytes (behind bytes t) place sections t r e

pub fault_is : {X : Type 0} (said : Result X ReadFault) (fault : ReadFault) → said ≡ Err fault → IsFaultOf said fault
fault_is said (Text at) e = e
fault_is said (UnknownHost at) e = e
fault_is said Memory e = tt

pub fails_is : (hosts : List (List ℕ)) (bytes : List ℕ) (start host : ℕ) (sections : Sections) (said : Result (List (List ℕ)) ReadFault) (fault : ReadFault) → said ≡ reads hosts bytes (listing host []) sections (tokens_at bytes start) → Fails bytes start fault → IsFaultOf said fault
fails_is hosts bytes start host sections said (Text at) e h = e ∙ h hosts host sections
fails_is hosts bytes start host sections said (UnknownHost at) e h = absurd h
fails_is hosts bytes start host sections said Memory e h = tt
