-- A deal alone is read as what its file holds.
use Rattle.std.proofs.Common.{◌≡◌, ◌≢◌, ◌∙◌, ◌≤◌, ◌<◌, ℕ, List, Option, Some, None, Result, Ok, Err, refl, sym, ap, subst}
use Rattle.vd_base.specs.Limits.{most_hosts}
use Rattle.vd_tape.specs.declared.deal_items.deal.Deal.{Deal}
use Rattle.vd_channel_crypto.specs.declared.deal_keys.secrets.Secrets.{Secrets}
use Rattle.vd_tape.specs.Text.{IsDealOf}
use Rattle.vd_base.specs.declared.faults.FileFault.{FileFault}
use Rattle.vd_base.specs.declared.faults.FileFault.TheVariants.{Memory}
use Rattle.vd_deal_versions.specs.declared.dealt.Dealt.{Dealt}
use Rattle.vd_deal_versions.specs.Outcome.{DealtFilesFollowGrammar}
use Rattle.vd_deal_versions.specs.Outcome as dealt
use Rattle.vd_deal_versions.specs.Plain.{Accepts, DealsFollowGrammar, IsDealIn, Refuses, deal_only, dealt_with, plain_read}
use Rattle.vd_deal_versions.specs.Reading.{dealt_read}
use Rattle.vd_deal_versions.specs.Text.{Fit_by, IsDealtFile, IsDealtOf}

module _ (hosts me : ℕ) (bytes : List ℕ) where
  -- what the whole reading says of the deal
  only_given : (law : DealtFilesFollowGrammar hosts me bytes) (said : Result Dealt ℕ) → dealt_read hosts me bytes ≡ said → (deal : Deal) → deal_only said ≡ Ok deal → IsDealIn hosts me bytes deal
  only_given law (Ok read) is deal e =
      let same : read.deal ≡ deal = cc e in
      (read.secrets, subst (λ (d : Deal). IsDealtFile hosts me bytes (dealt_with d read.secrets)) same ((law.given read).0 is))
  only_given law (Err offset) is deal e = absurd (cc e)

  only_refused : (law : DealtFilesFollowGrammar hosts me bytes) (said : Result Dealt ℕ) → dealt_read hosts me bytes ≡ said → (at : ℕ) → deal_only said ≡ Err at → dealt_read hosts me bytes ≡ Err at
  only_refused law (Ok read) is at e = absurd (cc e)
  only_refused law (Err offset) is at e = let same : offset ≡ at = cc e in is ∙ ap (λ (n : ℕ). Err n) same

  pub plain_follow : DealtFilesFollowGrammar hosts me bytes → DealsFollowGrammar hosts me bytes
  plain_follow law = record {
    given = λ deal. (
      only_given law (dealt_read hosts me bytes) refl deal,
      λ is. ap deal_only ((law.given (dealt_with deal is.0)).1 is.1),
    );
    refused = λ at. (
      λ e. (law.refused at).0 (only_refused law (dealt_read hosts me bytes) refl at e),
      λ stops. ap deal_only ((law.refused at).1 stops),
    );
  }

  -- ---- what a reader of both answers, and what is answered of the deal alone

  no_memory : (fault : FileFault) → (◌≡◌ {A = Result Deal FileFault} (Err fault) (Err Memory) → ⊥)
      → ◌≡◌ {A = Result Dealt FileFault} (Err fault) (Err Memory) → ⊥
  no_memory fault other e = let same : fault ≡ Memory = cc e in other (ap (λ (f : FileFault). Err f) same)

  pub accepts_deal : (read : Dealt) → dealt.Accepts hosts me bytes (Ok read) → Accepts hosts me bytes (Ok read.deal)
  accepts_deal read accepts other deal = (
    λ e. let same : read.deal ≡ deal = cc e in
        (read.secrets, subst (λ (d : Deal). IsDealtFile hosts me bytes (dealt_with d read.secrets)) same ((accepts (λ e. cc e) read).0 refl)),
    λ is. let whole = (accepts (λ e. cc e) (dealt_with deal is.0)).1 is.1 in
        let same : read ≡ dealt_with deal is.0 = cc whole in ap (λ (d : Dealt). Ok d.deal) same,
  )

  pub accepts_fault : (fault : FileFault) → dealt.Accepts hosts me bytes (Err fault) → Accepts hosts me bytes (Err fault)
  accepts_fault fault accepts other deal = (
    λ e. absurd (cc e),
    λ is. let whole = (accepts (no_memory fault other) (dealt_with deal is.0)).1 is.1 in absurd (cc whole),
  )

  pub refuses_deal : (read : Dealt) → dealt.Refuses hosts me bytes (Ok read) → Refuses hosts me bytes (Ok read.deal)
  refuses_deal read refuses other fault = (
    λ e. absurd (cc e),
    λ wrong. let whole = (refuses (λ e. cc e) fault).1 wrong in absurd (cc whole),
  )

  pub refuses_fault : (fault : FileFault) → dealt.Refuses hosts me bytes (Err fault) → Refuses hosts me bytes (Err fault)
  refuses_fault fault refuses other said = (
    λ e. let same : fault ≡ said = cc e in (refuses (no_memory fault other) said).0 (ap (λ (f : FileFault). Err f) same),
    λ wrong. let whole = (refuses (no_memory fault other) said).1 wrong in let same : fault ≡ said = cc whole in ap (λ (f : FileFault). Err f) same,
  )

-- a deal of either version is a deal
pub deal_fits : (hosts me : ℕ) (read : Dealt) → IsDealtOf hosts me read → IsDealOf hosts me read.deal
deal_fits hosts me read is = by read.secrets is
  where
    by : (secrets : Option Secrets) → Fit_by hosts me read.deal secrets → IsDealOf hosts me read.deal
    by None fits = fits
    by (Some secrets) fits = fits.0
