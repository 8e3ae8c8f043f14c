-- What is read of a deal file of either version, from left to right.
use Rattle.std.specs.Prelude.{ℕ, zero, suc, ◌+◌, ◌-◌, ◌==◌, Bool, List, [], ◌∷◌, Result, Ok, Some, None, codes, length, slice_index, take, if◌then◌else◌}
use Rattle.vd_base_codec.specs.Reading.{Reading, ◌>>=◌, byte_at, literal_at, field}
use Rattle.vd_base_codec.specs.Exact.{whole}
use Rattle.vd_tape.specs.Validity.{peer_at}
use Rattle.vd_base_codec.specs.Digits.{key_at}
use Rattle.vd_channel_crypto.specs.declared.deal_keys.secrets.LinkKey.{LinkKey}
use Rattle.vd_tape.specs.Reading.{word_at, list_at, heading_at, share_at, deal_at}
use Rattle.vd_deal_versions.specs.Text.{sum_line}
use Rattle.vd_deal_versions.specs.declared.dealt.SecretDeal.{SecretDeal}
use Rattle.vd_deal_versions.specs.declared.dealt.Dealt.{Dealt}
use Rattle.vd_deal_versions.specs.declared.reading.Linked.{Linked}
use Rattle.vd_deal_versions.specs.declared.reading.LinkedShare.{LinkedShare}

-- the line of the key of the link to a peer
unfoldable pub link_at : ℕ → List ℕ → Reading LinkKey
link_at peer bs = do
  heading ← heading_at (codes "link") peer bs
  space ← byte_at 32 heading.1
  key ← key_at space.1
  end ← byte_at 10 key.1
  Ok (record { 0 = key.0 }, end.1)

-- the line of the key of the link to a peer, and the three lines of its items
unfoldable pub one_at : ℕ → List ℕ → Reading LinkedShare
one_at peer bs = do
  link ← link_at peer bs
  share ← share_at peer link.1
  Ok (record { link = link.0; share = share.0 }, share.1)

abbrev pub no_links : Linked
no_links = record { links = []; triples = []; bits = []; pairs = [] }

abbrev pub with_linked : LinkedShare → Linked → Linked
with_linked x ls = record {
  links = x.link ∷ ls.links;
  triples = x.share.triples ∷ ls.triples;
  bits = x.share.bits ∷ ls.bits;
  pairs = x.share.pairs ∷ ls.pairs;
}

-- the lines of so many peers, from a place on
unfoldable pub linked_at : ℕ → ℕ → ℕ → List ℕ → Reading Linked
linked_at me place zero bs = Ok (no_links, bs)
linked_at me place (suc n) bs = one_at (peer_at me place) bs >>= λ x. (linked_at me (place + 1) n x.1 >>= λ ls. Ok (with_linked x.0 ls.0, ls.1))

-- the version, the numbers and the name of the dealing, up to the own words
unfoldable pub front_at : ℕ → ℕ → List ℕ → Reading (List ℕ)
front_at hosts me bs = do
  version ← literal_at (codes "viaduct-deal 2") bs
  first ← literal_at (field hosts) version.1
  second ← literal_at (field me) first.1
  word ← literal_at (codes "\nid ") second.1
  id ← key_at word.1
  line ← literal_at (codes "\nown") id.1
  Ok (id.0, line.1)

abbrev pub secret_with : (hosts me : ℕ) → (id own : List ℕ) → Linked → SecretDeal
secret_with hosts me id own ls = record {
  deal = record { hosts = hosts; me = record { 0 = me }; own = own; triples = ls.triples; bits = ls.bits; pairs = ls.pairs };
  secrets = record { id = id; links = ls.links };
}

-- a file of version 2 up to its last line
unfoldable pub body_at : ℕ → ℕ → List ℕ → Reading SecretDeal
body_at hosts me bs = do
  id ← front_at hosts me bs
  own ← list_at word_at id.1
  ls ← linked_at me 0 (hosts - 1) own.1
  Ok (secret_with hosts me id.0 own.0 ls.0, ls.1)

-- what stands before the bytes that are left
abbrev pub before : (all left : List ℕ) → List ℕ
before all left = take (length all - length left) all

-- a file of version 2: behind all else stands the line of its digest
unfoldable pub secret_at : ℕ → ℕ → List ℕ → Reading SecretDeal
secret_at hosts me bs = do
  dealt ← body_at hosts me bs
  line ← literal_at (sum_line (before bs dealt.1)) dealt.1
  Ok (dealt.0, line.1)

-- the byte of the version is a 2
abbrev pub is_second : List ℕ → Bool
is_second bs = slice_index bs 13 == 50

abbrev pub with_secrets : SecretDeal → Dealt
with_secrets x = record { deal = x.deal; secrets = Some x.secrets }

-- a file of either version
abbrev pub dealt_at : ℕ → ℕ → List ℕ → Reading Dealt
dealt_at hosts me bs =
    if is_second bs then (secret_at hosts me bs >>= λ x. Ok (with_secrets x.0, x.1))
    else (deal_at hosts me bs >>= λ x. Ok (record { deal = x.0; secrets = None }, x.1))

-- what the bytes say: a deal, or the offset of the first byte that cannot stand
abbrev pub dealt_read : ℕ → ℕ → List ℕ → Result Dealt ℕ
dealt_read hosts me bytes = whole bytes (dealt_at hosts me bytes)
