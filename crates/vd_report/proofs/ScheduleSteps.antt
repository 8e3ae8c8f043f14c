-- One token of a schedule after another.
use Rattle.std.proofs.Common.{◌≡◌, ◌≢◌, ℕ, false, List, ◌∷◌, ap, ◌∙◌, Result, Ok}
use Rattle.vd_base.specs.declared.ids.HostId.{HostId}
use Rattle.vd_report.specs.declared.fault.ReadFault.{ReadFault}
use Rattle.vd_report.specs.declared.token.TokenKind.TheVariants as kind
use Rattle.vd_report.specs.declared.token.Token.{Token}
use Rattle.vd_report.specs.declared.schedule.Schedule.{Schedule}
use Rattle.vd_report.specs.Tokens.{tokens_at, behind_kind, behind, text_of, capped}
use Rattle.vd_report.specs.Schedule.{Step, go, all, stop, at_entry, entry_step, last_step, reads_last, reads_entries}
use Rattle.vd_report.proofs.InputsSteps.{behind_more}

module _ (hosts : List (List ℕ)) (bytes : List ℕ) (entries : List HostId) (at : ℕ) (t : Token) (first : tokens_at bytes at ≡ t ∷ behind bytes t) where
  abbrev next : Step → Result Schedule ReadFault
  next st = elim st [
    | go entries' ↦ reads_entries hosts bytes entries' (behind bytes t)
    | all ↦ reads_last bytes entries (behind bytes t)
    | stop result ↦ result
  ]

  by_step : reads_entries hosts bytes entries (tokens_at bytes at) ≡ next (entry_step hosts bytes entries t)
  unfolding reads_entries
  by_step = ap (reads_entries hosts bytes entries) first

  pub entry_read : t.kind ≢ kind.End → (entries' : List HostId) → entry_step hosts bytes entries t ≡ go entries' → reads_entries hosts bytes entries (tokens_at bytes at) ≡ reads_entries hosts bytes entries' (tokens_at bytes t.end)
  entry_read more entries' e = by_step ∙ ap next e ∙ ap (reads_entries hosts bytes entries') (behind_more bytes t.end t.kind more)

  pub entries_stop : (r : Result Schedule ReadFault) → entry_step hosts bytes entries t ≡ stop r → reads_entries hosts bytes entries (tokens_at bytes at) ≡ r
  entries_stop r e = by_step ∙ ap next e

  pub entries_end : t.kind ≡ kind.End → reads_entries hosts bytes entries (tokens_at bytes at) ≡ Ok (record { entries = entries; all = false })
  entries_end e = entries_stop _ (ap (at_entry hosts entries (capped t.start) (text_of bytes t)) e)

  pub last_read : (l : Token) → tokens_at bytes t.end ≡ l ∷ behind bytes l → t.kind ≡ kind.All → reads_entries hosts bytes entries (tokens_at bytes at) ≡ last_step entries l
  last_read l last e =
      by_step
      ∙ ap next (ap (at_entry hosts entries (capped t.start) (text_of bytes t)) e)
      ∙ ap (λ k. reads_last bytes entries (behind_kind bytes t.end k)) e
      ∙ ap (reads_last bytes entries) last
