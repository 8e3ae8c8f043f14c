-- What a host knows of its dealing besides its items.
use Rattle.std.specs.Prelude.{ℕ, ◌-◌, List, map}
use Rattle.std.specs.List.{range_with_len}
use Rattle.vd_tape.specs.declared.deal_items.deal.Counts.{Counts}
use Rattle.vd_tape.specs.Validity.{peer_at}
use Rattle.vd_channel_crypto.specs.DealKeysKeys.{dealing_id, link_between}
use Rattle.vd_channel_crypto.specs.declared.deal_keys.secrets.LinkKey.{LinkKey}
use Rattle.vd_channel_crypto.specs.declared.deal_keys.secrets.Secrets.{Secrets}

-- the keys of the links to the first peers
abbrev pub link_keys : Counts → List ℕ → (me count : ℕ) → List LinkKey
link_keys counts key me count = map (λ place. link_between counts key me (peer_at me place)) (range_with_len 0 count)

abbrev pub secrets_of : Counts → List ℕ → (me : ℕ) → Secrets
secrets_of counts key me = record {
  id = dealing_id counts key;
  links = link_keys counts key me (counts.hosts - 1);
}
