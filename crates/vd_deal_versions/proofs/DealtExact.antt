-- A file of either version is read exactly.
use Rattle.std.proofs.Common.{◌≡◌, ℕ, zero, suc, ◌<◌, ◌≤◌, Bool, true, false, cond, eqb, List, [], ◌∷◌, ◌++◌, drop, Option, Some, None, Ok, refl, sym, ◌∙◌, arith}
use Rattle.std.specs.Prelude.{codes, slice_index}
use Rattle.std.proofs.lemmas.Bool.{eqb-true, eqb-false}
use Rattle.vd_base.specs.Limits.{most_hosts}
use Rattle.vd_base_codec.specs.Reading.{first, ◌>>=◌, field}
use Rattle.vd_base_codec.specs.Exact.{IsAnything, IsExact}
use Rattle.vd_base_codec.proofs.Front.{exact_for, whole_exact, exact_follows}
use Rattle.vd_tape.specs.declared.deal_items.deal.Deal.{Deal}
use Rattle.vd_channel_crypto.specs.declared.deal_keys.secrets.Secrets.{Secrets}
use Rattle.vd_tape.specs.Text.{deal_text, list_text, shares_text, IsDealOf}
use Rattle.vd_tape.specs.Reading.{deal_at}
use Rattle.vd_tape.proofs.Front.{Fit, fit, is_deal_of, deal_exact}
use Rattle.vd_deal_versions.specs.declared.dealt.SecretDeal.{SecretDeal}
use Rattle.vd_deal_versions.specs.declared.dealt.Dealt.{Dealt}
use Rattle.vd_deal_versions.specs.Text.{body_text, front_text, linked_text, secret_text, sum_line, secret_of, text_by, dealt_text, Fit_by, IsSecretDealOf, IsDealtOf}
use Rattle.vd_deal_versions.specs.Reading.{is_second, secret_at, with_secrets, dealt_at, dealt_read}
use Rattle.vd_deal_versions.specs.Outcome.{DealtFilesFollowGrammar}
use Rattle.vd_deal_versions.proofs.SecretExact.{secret_exact}
use Rattle.vd_deal_versions.proofs.Versions.{StandsFor, exact_through, HasVersion, version_exact}

-- ---- the byte of the version

abbrev front : List ℕ
front = codes "viaduct-deal "

abbrev version_by : Option Secrets → ℕ
version_by None = 49
version_by (Some secrets) = 50

abbrev version : Dealt → ℕ
version dealt = version_by dealt.secrets

abbrev rest_by : Deal → Option Secrets → List ℕ
rest_by deal None = field deal.hosts ++ (field deal.me.0 ++ (10 ∷ (codes "own" ++ (list_text field deal.own ++ shares_text deal.me.0 0 deal.triples deal.bits deal.pairs))))
rest_by deal (Some secrets) = (front_text deal secrets ++ linked_text deal.me.0 0 secrets.links deal.triples deal.bits deal.pairs) ++ sum_line (body_text (secret_of deal secrets))

rest_is : (deal : Deal) (secrets : Option Secrets) → text_by deal secrets ≡ front ++ version_by secrets ∷ rest_by deal secrets
rest_is deal None = refl
rest_is deal (Some secrets) = refl

has_version : (hosts me : ℕ) → HasVersion (IsDealtOf hosts me) dealt_text front version (λ x. rest_by x.deal x.secrets)
has_version hosts me = record { is = λ x h. rest_is x.deal x.secrets }

-- ---- each version stands for its part of all files

abbrev plain : Deal → Dealt
plain deal = record { deal = deal; secrets = None }

abbrev Plain : (hosts me : ℕ) → Dealt → Type 0
Plain hosts me x = IsDealtOf hosts me x × (version x ≡ 49)

abbrev Secret : (hosts me : ℕ) → Dealt → Type 0
Secret hosts me x = IsDealtOf hosts me x × (version x ≡ 50)

plain_by : (hosts me : ℕ) (deal : Deal) (secrets : Option Secrets) → Fit_by hosts me deal secrets → version_by secrets ≡ 49
    → let x : Dealt = record { deal = deal; secrets = secrets } in (a : Deal) × (IsDealOf hosts me a × (plain a ≡ x))
plain_by hosts me deal None h e = (deal, (h, refl))
plain_by hosts me deal (Some secrets) h e = absurd (omega (arith, e))

secret_by : (hosts me : ℕ) (deal : Deal) (secrets : Option Secrets) → Fit_by hosts me deal secrets → version_by secrets ≡ 50
    → let x : Dealt = record { deal = deal; secrets = secrets } in (a : SecretDeal) × (IsSecretDealOf hosts me a × (with_secrets a ≡ x))
secret_by hosts me deal None h e = absurd (omega (arith, e))
secret_by hosts me deal (Some secrets) h e = (secret_of deal secrets, (h, refl))

plain_stands : (hosts me : ℕ) → StandsFor (IsDealOf hosts me) deal_text (Plain hosts me) dealt_text plain
plain_stands hosts me = record {
  there = λ deal h. (h, refl);
  back = λ x h. plain_by hosts me x.deal x.secrets h.0 h.1;
  same = λ deal. refl;
}

secret_stands : (hosts me : ℕ) → StandsFor (IsSecretDealOf hosts me) secret_text (Secret hosts me) dealt_text with_secrets
secret_stands hosts me = record {
  there = λ x h. (h, refl);
  back = λ x h. secret_by hosts me x.deal x.secrets h.0 h.1;
  same = λ x. refl;
}

-- ---- the choice

-- the byte that is looked at, where there is one
looked_at : (n : ℕ) (bytes : List ℕ) (b : ℕ) → first (drop n bytes) ≡ Some b → slice_index bytes n ≡ b
looked_at zero [] b e = absurd cc
looked_at zero (c ∷ bytes) b e = cc
looked_at (suc n) [] b e = absurd cc
looked_at (suc n) (c ∷ bytes) b e = looked_at n bytes b e

other_than_first : (secrets : Option Secrets) → (version_by secrets ≡ 49 → ⊥) → version_by secrets ≡ 50
other_than_first None other = absurd (other refl)
other_than_first (Some secrets) other = refl

second_exact : (hosts me : ℕ) (bytes : List ℕ) → hosts ≤ most_hosts → me < hosts → is_second bytes ≡ true
    → IsExact IsAnything (IsDealtOf hosts me) dealt_text bytes (secret_at hosts me bytes >>= λ x. Ok (with_secrets x.0, x.1))
second_exact hosts me bytes few below test =
    version_exact IsAnything (IsDealtOf hosts me) dealt_text front version (λ x. rest_by x.deal x.secrets) 50 (has_version hosts me) tt bytes
    (λ x h other e.
    let stands : slice_index bytes 13 ≡ 50 = eqb-true (slice_index bytes 13) 50 test in
    let shown : slice_index bytes 13 ≡ version x = looked_at 13 bytes (version x) e in
    other (sym shown ∙ stands))
    (secret_at hosts me bytes >>= λ x. Ok (with_secrets x.0, x.1))
    (exact_through IsAnything (IsSecretDealOf hosts me) secret_text (Secret hosts me) dealt_text with_secrets (secret_stands hosts me) bytes (secret_at hosts me bytes) (secret_exact hosts me bytes few below))

first_exact : (hosts me : ℕ) (bytes : List ℕ) → hosts ≤ most_hosts → me < hosts → is_second bytes ≡ false
    → IsExact IsAnything (IsDealtOf hosts me) dealt_text bytes (deal_at hosts me bytes >>= λ x. Ok (plain x.0, x.1))
first_exact hosts me bytes few below test =
    version_exact IsAnything (IsDealtOf hosts me) dealt_text front version (λ x. rest_by x.deal x.secrets) 49 (has_version hosts me) tt bytes
    (λ x h other e.
    let shown : slice_index bytes 13 ≡ version x = looked_at 13 bytes (version x) e in
    eqb-false (slice_index bytes 13) 50 test (shown ∙ other_than_first x.secrets other))
    (deal_at hosts me bytes >>= λ x. Ok (plain x.0, x.1))
    (exact_through IsAnything (IsDealOf hosts me) deal_text (Plain hosts me) dealt_text plain (plain_stands hosts me) bytes (deal_at hosts me bytes)
    (exact_for IsAnything (Fit hosts me) (IsDealOf hosts me) deal_text bytes (deal_at hosts me bytes) (λ d. is_deal_of hosts me d few below) (fit hosts me) (deal_exact hosts me bytes)))

either : (hosts me : ℕ) (bytes : List ℕ) → hosts ≤ most_hosts → me < hosts → (t : Bool) → is_second bytes ≡ t
    → IsExact IsAnything (IsDealtOf hosts me) dealt_text bytes (cond t (secret_at hosts me bytes >>= λ x. Ok (with_secrets x.0, x.1)) (deal_at hosts me bytes >>= λ x. Ok (plain x.0, x.1)))
either hosts me bytes few below true test = second_exact hosts me bytes few below test
either hosts me bytes few below false test = first_exact hosts me bytes few below test

pub dealt_exact : (hosts me : ℕ) (bytes : List ℕ) → hosts ≤ most_hosts → me < hosts → IsExact IsAnything (IsDealtOf hosts me) dealt_text bytes (dealt_at hosts me bytes)
dealt_exact hosts me bytes few below = either hosts me bytes few below (is_second bytes) refl

-- ---- the law

pub follow_grammar : (hosts me : ℕ) (bytes : List ℕ) → hosts ≤ most_hosts → me < hosts → DealtFilesFollowGrammar hosts me bytes
follow_grammar hosts me bytes few below =
    exact_follows (IsDealtOf hosts me) dealt_text bytes (dealt_read hosts me bytes) (whole_exact IsAnything (IsDealtOf hosts me) dealt_text bytes (dealt_at hosts me bytes) tt (dealt_exact hosts me bytes few below))

pub written_is_read : (hosts me : ℕ) (dealt : Dealt) → hosts ≤ most_hosts → me < hosts → IsDealtOf hosts me dealt → dealt_read hosts me (dealt_text dealt) ≡ Ok dealt
written_is_read hosts me dealt few below h = ((follow_grammar hosts me (dealt_text dealt) few below).given dealt).1 (h, refl)
