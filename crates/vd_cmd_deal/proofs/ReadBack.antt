-- The file that a key makes for a host is read back.
use Rattle.std.proofs.Common.{◌≡◌, ◌-◌, ◌+◌, ◌<◌, ℕ, zero, suc, min, max, List, Some, Ok, length, map, refl, arith}
use Rattle.std.specs.Prelude.{slice_get}
use Rattle.std.specs.List.{AllByRecursion, range_with_len}
use Rattle.std.proofs.lemmas.List.FromFn.{length-map-range_with_len}
use Rattle.std.proofs.lemmas.Option.{slice_get_within}
use Rattle.vd_tape.specs.declared.deal_items.deal.Counts.{Counts}
use Rattle.vd_tape.specs.declared.deal_items.deal.Deal.{Deal}
use Rattle.vd_tape.specs.Validity.{AreDeals, peer_at}
use Rattle.vd_base_codec.specs.Digits.{IsKey}
use Rattle.vd_channel_crypto.specs.declared.deal_keys.secrets.LinkKey.{LinkKey}
use Rattle.vd_channel_crypto.specs.DealKeysKeys.{id_info, items_key, link_between, link_info, salt}
use Rattle.vd_channel_crypto.specs.Secrets.{secrets_of}
use Rattle.vd_tape.specs.Made.{keyed_deals}
use Rattle.vd_tape.specs.Text.{IsDealOf}
use Rattle.vd_tape.proofs.Front.{valid_if_keyed, count_of_keyed, keyed_of}
use Rattle.vd_deal_versions.specs.Plain.{dealt_with}
use Rattle.vd_deal_versions.specs.Text.{AreSecretsOf}
use Rattle.vd_deal_versions.proofs.Front.{written_is_read}
use Rattle.vd_cmd_deal.specs.Laws.{KeyDealsAreRead}
use Rattle.vd_cmd_deal.proofs.Digests.{derived_is_key}

each_is : {X : Type 0} (P : X → Type 0) (f : ℕ → X) → ((k : ℕ) → P (f k)) → (a n : ℕ) → AllByRecursion P (map f (range_with_len a n))
each_is P f each a zero = tt
each_is P f each a (suc n) = (each a, each_is P f each (a + 1) n)

module _ (counts : Counts) (key : List ℕ) (me : ℕ) where
  link_is_key : (place : ℕ) → IsKey (link_between counts key me (peer_at me place)).0
  link_is_key place = derived_is_key salt key (link_info counts (min me (peer_at me place)) (max me (peer_at me place)))

  pub are_secrets : AreSecretsOf counts.hosts (secrets_of counts key me)
  are_secrets = record {
    id = derived_is_key salt key (id_info counts);
    each_peer = length-map-range_with_len (λ place. link_between counts key me (peer_at me place)) 0 (counts.hosts - 1);
    keys = each_is (λ (link : LinkKey). IsKey link.0) (λ place. link_between counts key me (peer_at me place)) link_is_key 0 (counts.hosts - 1);
  }

pub read_back : KeyDealsAreRead
read_back counts key me deal are e =
    let items : List ℕ = items_key counts key in
    let valid : AreDeals (keyed_deals counts items) = valid_if_keyed counts items (Ok (keyed_deals counts items)) are refl in
    let of : IsDealOf counts.hosts me deal = keyed_of counts items valid me deal e in
    let within : me < length (keyed_deals counts items) = slice_get_within (keyed_deals counts items) me deal e in
    let count : length (keyed_deals counts items) ≡ counts.hosts = count_of_keyed counts items in
    written_is_read counts.hosts me (dealt_with deal (Some (secrets_of counts key deal.me.0))) are.hosts (omega (arith, within, count)) (of, are_secrets counts key deal.me.0)
