-- The files that `deal` stores for a key of 32 bytes are read as the deals that were made, and `replay` goes on with them.
use Rattle.std.proofs.Common.{◌≡◌, ℕ, ◌+◌, ◌<◌, ◌≤◌, Option, Some, None, List, [], map, length, Ok, refl, sym, ap, ◌∙◌, subst, arith, slice_get, slice_index}
use Rattle.std.specs.Prelude.{codes, nat_lt}
use Rattle.std.specs.Option.{option_map}
use Rattle.std.proofs.lemmas.Bool.{cond-false}
use Rattle.std.proofs.lemmas.List.{length-map}
use Rattle.std.proofs.lemmas.List.FromFn.{get_or-map-range_with_len}
use Rattle.std.proofs.lemmas.Option.{slice_get-get_or, slice_get-map}
use Rattle.vd_base.specs.Limits.{most_deal_bytes, most_hosts}
use Rattle.vd_outside.specs.Files.{Contents, fetched}
use Rattle.vd_outside.specs.declared.stored.Stored.{Stored}
use Rattle.vd_tape.specs.declared.deal_items.deal.Counts.{Counts}
use Rattle.vd_tape.specs.declared.deal_items.deal.Deal.{Deal}
use Rattle.vd_tape.specs.Validity.{AreDeals, IsConsistent}
use Rattle.vd_channel_crypto.specs.DealKeysKeys.{id_info, items_info, items_key, link_info}
use Rattle.vd_channel_crypto.specs.Secrets.{secrets_of}
use Rattle.vd_tape.specs.Made.{AreCounts, keyed_deal, keyed_deals}
use Rattle.vd_tape.proofs.Front.{consistent_if_keyed, valid_if_keyed, count_of_keyed, keyed_of}
use Rattle.vd_deal_versions.specs.Text.{IsSecretDealOf, secret_of}
use Rattle.vd_cmd_plan.specs.Deliver.{stored}
use Rattle.vd_cmd_plan.specs.Numbered.{file_name}
use Rattle.vd_cmd_deal.specs.KeyDealing.{key_answer, keyed_deal_text}
use Rattle.vd_cmd_deal.proofs.Front.{are_secrets}
use Rattle.vd_cmd_files.specs.Outcomes.{ReplayOutcomes}
use Rattle.vd_cmd_files.proofs.Front.{judged_once}
use Rattle.vd_cmd_files.specs.Deals.{HoldDeals, HoldsDeal, as_consistent}
use Rattle.vd_cmd_laws.proofs.Standing.{standing}
use Rattle.vd_cmd_laws.specs.Dealt.{AreTaken}
use Rattle.vd_cmd_laws.specs.KeyedDealt.{HoldsKeyed, IsForNoOther, KeyedDealsTell}
use Rattle.vd_cmd_laws.proofs.SecretShort.{secret_texts_are_short}
use Rattle.vd_cmd_laws.proofs.Taken.{HoldLeft, are_numbered, deals_lead, enough}

module _ (counts : Counts) (key prefix : List ℕ) (before : Contents) (are : AreCounts counts) where
  abbrev deals : List Deal
  deals = keyed_deals counts (items_key counts key)

  abbrev now : Contents
  now = stored (key_answer counts key prefix).stores before

  all : length deals ≡ counts.hosts
  all = count_of_keyed counts (items_key counts key)

  are_deals : AreDeals deals
  are_deals = valid_if_keyed counts (items_key counts key) (Ok deals) are refl

  consistent : IsConsistent deals
  consistent = consistent_if_keyed counts (items_key counts key) (Ok deals) refl

  fits : (number : ℕ) (deal : Deal) → slice_get deals number ≡ Some deal → IsSecretDealOf counts.hosts number (secret_of deal (secrets_of counts key deal.me.0))
  fits number deal e = (keyed_of counts (items_key counts key) are_deals number deal e, are_secrets counts key deal.me.0)

  -- the file of a deal stands, whole
  stands : (number : ℕ) (deal : Deal) → slice_get deals number ≡ Some deal → fetched (now (file_name prefix number (codes ".deal"))) most_deal_bytes ≡ Ok (keyed_deal_text counts key deal)
  stands number deal e =
      let text = keyed_deal_text counts key deal in
      let hosts = are.hosts in
      let size = length-map deals (keyed_deal_text counts key) in
      let count = all in
      let there : slice_get (map (keyed_deal_text counts key) deals) number ≡ Some text = slice_get-map (keyed_deal_text counts key) deals number ∙ ap (option_map (keyed_deal_text counts key)) e in
      let is : now (file_name prefix number (codes ".deal")) ≡ Some text =
      subst (λ (files : List Stored). stored files before (file_name prefix number (codes ".deal")) ≡ Some text) (sym (are_numbered prefix (codes ".deal") 0 (map (keyed_deal_text counts key) deals)))
      (standing prefix (codes ".deal") (λ n content. content) (map (keyed_deal_text counts key) deals) before number text there (omega (arith, hosts, size, count))) in
      subst (λ (o : Option (List ℕ)). fetched o most_deal_bytes ≡ Ok text) (sym is)
      (cond-false (nat_lt most_deal_bytes (length text)) _ (Ok text) (enough most_deal_bytes (length text) (secret_texts_are_short counts.hosts number (secret_of deal (secrets_of counts key deal.me.0)) (fits number deal e))))

  held : HoldDeals prefix counts.hosts now deals
  held number deal e = record {
    bytes = keyed_deal_text counts key deal;
    is_fetched = stands number deal e;
    holds = (Some (secrets_of counts key deal.me.0), (fits number deal e, refl));
  }

  taken : (names : List (List ℕ)) → length names ≡ counts.hosts → AreTaken prefix names now deals
  taken names same = λ outcomes rest.
      let few : length names ≤ most_hosts = let hosts = are.hosts in omega (arith, hosts, same) in
      let count = all in
      let from_start : HoldLeft outcomes now prefix (length names) few 0 deals =
      λ i deal e. let there : i ≡ 0 + i = omega arith in
      subst (λ (n : ℕ). HoldsDeal prefix n (0 + i) now deal) (sym same) (subst (λ (n : ℕ). HoldsDeal prefix counts.hosts n now deal) there (held i deal e)) in
      deals_lead outcomes now prefix (length names) few names 0 [] deals rest (omega (arith, count, same)) (omega arith) from_start

  judged : (outcomes : ReplayOutcomes) → as_consistent (outcomes.judge deals) ≡ Ok tt
  judged outcomes = ap as_consistent (judged_once deals (outcomes.judge deals) None (outcomes.judge_is deals are_deals) consistent)

  there : (number : ℕ) → number < counts.hosts → slice_get deals number ≡ Some (keyed_deal counts (items_key counts key) number)
  there number below =
      let count = all in
      slice_get-get_or deals number (keyed_deal counts (items_key counts key) number) (omega (arith, count, below))
      ∙ ap (λ (d : Deal). Some d) (get_or-map-range_with_len (keyed_deal counts (items_key counts key)) 0 counts.hosts number number (keyed_deal counts (items_key counts key) number) below (omega arith))

  secret : (number : ℕ) → number < counts.hosts → HoldsKeyed counts key (items_key counts key) prefix now number
  secret number below = record {
    bytes = keyed_deal_text counts key (keyed_deal counts (items_key counts key) number);
    is_fetched = stands number (keyed_deal counts (items_key counts key) number) (there number below);
    holds = (fits number (keyed_deal counts (items_key counts key) number) (there number below), refl);
  }

no_name : (c d : Counts) → items_info c ≡ id_info d → ⊥
no_name c d e = let second : 116 ≡ 100 = ap (λ (xs : List ℕ). slice_index xs 1) e in omega (arith, second)

no_link : (c d : Counts) (a b : ℕ) → items_info c ≡ link_info d a b → ⊥
no_link c d a b e = let first : 105 ≡ 108 = ap (λ (xs : List ℕ). slice_index xs 0) e in omega (arith, first)

-- the key of the items
for_items : (counts : Counts) (key : List ℕ) → IsForNoOther (items_key counts key) key
for_items counts key = record { purpose = items_info counts; is = refl; no_name = no_name counts; no_link = no_link counts }

pub keyed_deals_tell : KeyedDealsTell
keyed_deals_tell counts key prefix before are = record {
  deal = record {
    deals = keyed_deals counts (items_key counts key);
    all = all counts key prefix before are;
    held = held counts key prefix before are;
    consistent = consistent counts key prefix before are;
    taken = taken counts key prefix before are;
    judged = judged counts key prefix before are;
  };
  items = items_key counts key;
  apart = for_items counts key;
  secrets = secret counts key prefix before are;
}
