-- The files that `deal` stores are read as the deals that were made, and `replay` goes on with them.
use Rattle.std.proofs.Common.{◌≡◌, ℕ, zero, suc, ◌+◌, ◌<◌, ◌≤◌, false, Option, Some, None, List, [], ◌∷◌, ◌++◌, map, length, Result, Ok, Err, refl, sym, ap, ◌∙◌, subst, arith, slice_get, append-nil, append_assoc}
use Rattle.std.specs.Prelude.{codes, nat_lt}
use Rattle.std.specs.Option.{option_map}
use Rattle.std.proofs.lemmas.Bool.{cond-false}
use Rattle.std.proofs.lemmas.Bool.Decides.{nat_tests}
use Rattle.std.proofs.lemmas.List.{length-map}
use Rattle.std.proofs.lemmas.Option.{slice_get-map, slice_get_within}
use Rattle.vd_base.specs.Limits.{most_deal_bytes, most_hosts}
use Rattle.vd_outside.specs.Files.{Contents, fetched}
use Rattle.vd_outside.specs.declared.stored.Stored.{Stored}
use Rattle.vd_tape.specs.declared.deal_items.deal.Counts.{Counts}
use Rattle.vd_tape.specs.declared.deal_items.deal.Deal.{Deal}
use Rattle.vd_tape.specs.Validity.{AreDeals, IsConsistent}
use Rattle.vd_tape.specs.Made.{AreCounts, made_deals}
use Rattle.vd_tape.specs.Text.{AreDealsOf, deal_text}
use Rattle.vd_deal_versions.specs.Plain.{IsDealIn}
use Rattle.vd_tape.proofs.Front.{consistent_if_made, valid_if_made, count_of_deals, deals_of}
use Rattle.vd_cmd_plan.specs.Deliver.{stored}
use Rattle.vd_cmd_plan.specs.Numbered.{file_name, numbered}
use Rattle.vd_cmd_plan.specs.Plans.{Plan}
use Rattle.vd_cmd_deal.specs.Dealing.{deal_answer}
use Rattle.vd_cmd_files.specs.Outcomes.{ReplayOutcomes}
use Rattle.vd_cmd_files.proofs.Front.{judged_once, outcomes_are_single}
use Rattle.vd_cmd_files.specs.Deals.{HoldDeals, HoldsDeal, as_deal, deal_of, deal_then, deals_from, as_consistent}
use Rattle.vd_cmd_laws.proofs.Plans.{Leads, held_leads}
use Rattle.vd_cmd_laws.proofs.Standing.{files_from, standing}
use Rattle.vd_cmd_laws.specs.Dealt.{AreTaken, DealsTell}
use Rattle.vd_cmd_laws.proofs.CmdDealLawsShort.{texts_are_short}

-- ---- reading

module _ (outcomes : ReplayOutcomes) (contents : Contents) (prefix : List ℕ) (hosts : ℕ) (few : hosts ≤ most_hosts) where
  deal_leads : (number : ℕ) (name : List ℕ) (deal : Deal) (rest : Deal → Contents → Plan) → number < hosts → HoldsDeal prefix hosts number contents deal
      → Leads contents (deal_then outcomes prefix hosts number name rest) (rest deal contents).answer
  unfolding deal_then
  deal_leads number name deal rest declared held =
      held_leads contents (file_name prefix number (codes ".deal")) most_deal_bytes (deal_of outcomes hosts number name) deal rest (rest deal contents).answer (λ bytes. IsDealIn hosts number bytes deal) held
      (λ bytes is. ap (as_deal name number) (outcomes_are_single.deals hosts number bytes few declared (outcomes.deal hosts number bytes) (Ok deal) (outcomes.deal_is hosts number bytes few declared) is)) refl

  -- the deals that are left, which are numbered from here on
  abbrev pub HoldLeft : ℕ → List Deal → Type 0
  HoldLeft number deals = (i : ℕ) (deal : Deal) → slice_get deals i ≡ Some deal → HoldsDeal prefix hosts (number + i) contents deal

  held_next : (number : ℕ) (deal : Deal) (deals : List Deal) → HoldLeft number (deal ∷ deals) → HoldLeft (number + 1) deals
  held_next number deal deals held i other e =
      let same : number + suc i ≡ (number + 1) + i = omega arith in
      subst (λ (n : ℕ). HoldsDeal prefix hosts n contents other) same (held (suc i) other e)

  pub deals_lead : (names : List (List ℕ)) (number : ℕ) (before deals : List Deal) (rest : List Deal → Contents → Plan) → length deals ≡ length names → number + length names ≤ hosts → HoldLeft number deals
      → Leads contents (deals_from outcomes prefix hosts number names before rest) (rest (before ++ deals) contents).answer
  unfolding deals_from
  deals_lead [] number before [] rest all most held = ap (λ (ds : List Deal). (rest ds contents).answer) (sym (append-nil before))
  deals_lead [] number before (deal ∷ deals) rest all most held = absurd (omega arith)
  deals_lead (name ∷ names) number before [] rest all most held = absurd (omega arith)
  deals_lead (name ∷ names) number before (deal ∷ deals) rest all most held =
      let here : number + 0 ≡ number = omega arith in
      let first = deal_leads number name deal (λ d. deals_from outcomes prefix hosts (number + 1) names (before ++ d ∷ []) rest) (omega (arith, most)) (subst (λ (n : ℕ). HoldsDeal prefix hosts n contents deal) here (held 0 deal refl)) in
      first
      ∙ deals_lead names (number + 1) (before ++ deal ∷ []) deals rest (omega (arith, all)) (omega (arith, most)) (held_next number deal deals held)
      ∙ ap (λ (ds : List Deal). (rest ds contents).answer) (append_assoc before (deal ∷ []) deals)

-- ---- what was made

pub are_numbered : (prefix ending : List ℕ) (number : ℕ) (contents : List (List ℕ)) → numbered prefix ending number contents ≡ files_from prefix ending (λ n content. content) number contents
are_numbered prefix ending number [] = refl
are_numbered prefix ending number (content ∷ contents) =
    ap (λ (files : List Stored). record { name = file_name prefix number ending; content = content } ∷ files) (are_numbered prefix ending (number + 1) contents)

pub enough : (limit size : ℕ) → size ≤ limit → nat_lt limit size ≡ false
enough limit size le = grind (arith, nat_tests)

module _ (counts : Counts) (key : ℕ) (prefix : List ℕ) (before : Contents) (are : AreCounts counts) where
  abbrev deals : List Deal
  deals = made_deals counts key

  abbrev now : Contents
  now = stored (deal_answer counts key prefix).stores before

  all : length deals ≡ counts.hosts
  all = count_of_deals counts key

  are_deals : AreDeals deals
  are_deals = valid_if_made counts key (Ok deals) are refl

  of_hosts : AreDealsOf counts.hosts deals
  of_hosts = deals_of counts key are_deals

  consistent : IsConsistent deals
  consistent = consistent_if_made counts key (Ok deals) refl

  held : HoldDeals prefix counts.hosts now deals
  held number deal e =
      let text = deal_text deal in
      let hosts = are.hosts in
      let size = length-map deals deal_text in
      let count = all in
      let there : slice_get (map deal_text deals) number ≡ Some text = slice_get-map deal_text deals number ∙ ap (option_map deal_text) e in
      let stands : now (file_name prefix number (codes ".deal")) ≡ Some text =
      subst (λ (files : List Stored). stored files before (file_name prefix number (codes ".deal")) ≡ Some text) (sym (are_numbered prefix (codes ".deal") 0 (map deal_text deals)))
      (standing prefix (codes ".deal") (λ n content. content) (map deal_text deals) before number text there (omega (arith, hosts, size, count))) in
      let of = of_hosts number deal e in
      record {
        bytes = text;
        is_fetched = subst (λ (o : Option (List ℕ)). fetched o most_deal_bytes ≡ Ok text) (sym stands)
            (cond-false (nat_lt most_deal_bytes (length text)) _ (Ok text) (enough most_deal_bytes (length text) (texts_are_short counts.hosts number deal of)));
        holds = (None, (of, refl));
      }

  taken : (names : List (List ℕ)) → length names ≡ counts.hosts → AreTaken prefix names now deals
  taken names same = λ outcomes rest.
      let few : length names ≤ most_hosts = let hosts = are.hosts in omega (arith, hosts, same) in
      let count = all in
      let from_start : HoldLeft outcomes now prefix (length names) few 0 deals =
      λ i deal e. let there : i ≡ 0 + i = omega arith in
      subst (λ (n : ℕ). HoldsDeal prefix n (0 + i) now deal) (sym same) (subst (λ (n : ℕ). HoldsDeal prefix counts.hosts n now deal) there (held i deal e)) in
      deals_lead outcomes now prefix (length names) few names 0 [] deals rest (omega (arith, count, same)) (omega arith) from_start

  judged : (outcomes : ReplayOutcomes) → as_consistent (outcomes.judge deals) ≡ Ok tt
  judged outcomes = ap as_consistent (judged_once deals (outcomes.judge deals) None (outcomes.judge_is deals are_deals) consistent)

pub deals_tell : DealsTell
deals_tell counts key prefix before are = record {
  deals = made_deals counts key;
  all = all counts key prefix before are;
  held = held counts key prefix before are;
  consistent = consistent counts key prefix before are;
  taken = taken counts key prefix before are;
  judged = judged counts key prefix before are;
}
