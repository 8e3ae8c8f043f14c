-- The printed lines are read back.
use Rattle.std.proofs.Common.{◌≡◌, ℕ, ◌<◌, ◌≤◌, ◌-◌, ◌^◌, Bool, true, false, ◌&&◌, nat_le, if◌then◌else◌, List, [], ◌∷◌, ◌++◌, Option, Some, None, codes, refl, sym, ap, ◌∙◌, subst, append_assoc, arith, lit<}
use Rattle.std.specs.Fmt.{decimal}
use Rattle.std.proofs.lemmas.Bool.{le-leb}
use Rattle.vd_base.specs.Lexical.{decimal_value, is_name, is_numeral}
use Rattle.vd_base.specs.Limits.{most_deal_items, most_hosts}
use Rattle.vd_tape.specs.declared.deal_items.deal.Counts.{Counts}
use Rattle.vd_deal_needs.specs.declared.taking.HostNeeds.{HostNeeds}
use Rattle.vd_deal_needs.specs.declared.taking.Shared.{Shared}
use Rattle.vd_report.specs.LineWords.{line_words}
use Rattle.vd_report.specs.Lines.{number_field}
use Rattle.vd_report.proofs.Front.{AreRead, IsText, both_read, name_text, number_numeral, number_text, number_value, one_read, word_read}
use Rattle.vd_cmd.specs.Commands.{AreWithin, counts_in, counts_of, deal_by, deal_of, form_of, key_source, number_of_items}
use Rattle.vd_cmd.specs.Numbers.{number_within}
use Rattle.vd_cmd.specs.declared.command.Command.{Command}
use Rattle.vd_cmd.specs.declared.command.KeySource.{KeySource}
use Rattle.vd_cmd_needs.specs.Lines.{host_line, pair_line, shared_fields, sizes_line}
use Rattle.vd_cmd_needs.specs.ReadBack.{HostFits, IsDealt, KindsAreTold, PairFits, SizesAreDealt, TellsHost, TellsPair, deal_words}

-- ---- numbers

abbrev if_within : (least most : ℕ) → List ℕ → (numeral low high : Bool) → Option ℕ
if_within least most text numeral low high = if numeral && low && high then Some (decimal_value text) else None

-- a number within limits is read as itself
number_read : (least most n : ℕ) → least ≤ n → n ≤ most → n < 2 ^ 64 → number_within least most (decimal n) ≡ Some n
number_read least most n low high small =
    let value = number_value n small in
    (λ i. if_within least most (decimal n) (number_numeral n small i) (nat_le least (value i)) (nat_le (value i) most))
    ∙ (λ i. if_within least most (decimal n) true (le-leb least n low i) (le-leb n most high i))
    ∙ ap Some value

item_read : (n : ℕ) → n ≤ most_deal_items → number_of_items (decimal n) ≡ Some n
item_read n few = number_read 0 most_deal_items n (omega arith) few (omega (arith, few))

item_text : (n : ℕ) → n ≤ most_deal_items → IsText (decimal n)
item_text n few = number_text n (omega (arith, few))

-- ---- the line of sizes

abbrev sizes_words : Counts → List (List ℕ)
sizes_words sizes = decimal sizes.hosts ∷ decimal sizes.own ∷ decimal sizes.muls ∷ decimal sizes.ands ∷ decimal sizes.pairs ∷ []

module _ (sizes : Counts) (within : AreWithin sizes) where
  host_few : sizes.hosts < 2 ^ 64
  host_few = let few = within.hosts in omega (arith, few)

  sizes_read : AreRead (decimal sizes.hosts ++ number_field sizes.own ++ number_field sizes.muls ++ number_field sizes.ands ++ number_field sizes.pairs) (sizes_words sizes)
  sizes_read =
      word_read (decimal sizes.hosts ++ number_field sizes.own ++ number_field sizes.muls ++ number_field sizes.ands) (decimal sizes.pairs)
      (decimal sizes.hosts ∷ decimal sizes.own ∷ decimal sizes.muls ∷ decimal sizes.ands ∷ [])
      (word_read (decimal sizes.hosts ++ number_field sizes.own ++ number_field sizes.muls) (decimal sizes.ands)
      (decimal sizes.hosts ∷ decimal sizes.own ∷ decimal sizes.muls ∷ [])
      (word_read (decimal sizes.hosts ++ number_field sizes.own) (decimal sizes.muls) (decimal sizes.hosts ∷ decimal sizes.own ∷ [])
      (word_read (decimal sizes.hosts) (decimal sizes.own) (decimal sizes.hosts ∷ [])
      (one_read (decimal sizes.hosts) (number_text sizes.hosts host_few))
      (item_text sizes.own within.own)) (item_text sizes.muls within.muls)) (item_text sizes.ands within.ands)) (item_text sizes.pairs within.pairs)

  line_is : line_words (sizes_line sizes) ≡ sizes_words sizes
  line_is = sizes_read.end

  counts_are : counts_in (decimal sizes.hosts) (decimal sizes.own) (decimal sizes.muls) (decimal sizes.ands) (decimal sizes.pairs) ≡ Some sizes
  counts_are =
      λ i. counts_of (number_read 1 most_hosts sizes.hosts within.some_host within.hosts host_few i) (item_read sizes.own within.own i)
      (item_read sizes.muls within.muls i) (item_read sizes.ands within.ands i) (item_read sizes.pairs within.pairs i)

  -- whatever the key is
  read_as : (key prefix : List ℕ) → form_of (deal_words sizes key prefix) ≡ deal_by (key_source key) (Some sizes) key prefix
  read_as key prefix =
      ap (λ (ws : List (List ℕ)). form_of (codes "deal" ∷ ws ++ key ∷ prefix ∷ [])) line_is
      ∙ ap (λ (counts : Option Counts). deal_by (key_source key) counts key prefix) counts_are

  dealt : (prefix : List ℕ) → IsDealt sizes prefix
  dealt prefix = record {
    by_key = λ word key is. read_as word prefix ∙ ap (λ (source : Option KeySource). deal_by source (Some sizes) word prefix) is;
    by_number = λ word number no_key is. read_as word prefix ∙ ap (λ (source : Option KeySource). deal_by source (Some sizes) word prefix) no_key
        ∙ ap (λ (n : Option ℕ). deal_of (Some sizes) n prefix) is;
  }

pub sizes_are_dealt : SizesAreDealt
sizes_are_dealt sizes prefix within = dealt sizes within prefix

-- ---- the lines of hosts and of two hosts

word_small : (n : ℕ) → n < 2 ^ 32 → IsText (decimal n)
word_small n small = number_text n (omega (arith, small))

-- a kind and its number behind words
kind_read : (text kind : List ℕ) (n : ℕ) (words : List (List ℕ)) → AreRead text words → IsText kind → n < 2 ^ 32
    → AreRead (text ++ 32 ∷ kind ++ number_field n) (words ++ kind ∷ [] ++ decimal n ∷ [])
kind_read text kind n words first is small = word_read (text ++ 32 ∷ kind) (decimal n) (words ++ kind ∷ []) (word_read text kind words first is) (word_small n small)

inputs_text : IsText (codes "inputs")
inputs_text = (refl, lit< tt)

own_text : IsText (codes "own")
own_text = (refl, lit< tt)

mul_text : IsText (codes "mul")
mul_text = (refl, lit< tt)

and_text : IsText (codes "and")
and_text = (refl, lit< tt)

pair_text : IsText (codes "pair")
pair_text = (refl, lit< tt)

host_told : (name : List ℕ) (needs : HostNeeds) → is_name name ≡ true → HostFits needs → TellsHost (host_line name needs) name needs
host_told name needs named fits = record {
  kinds = codes "inputs" ∷ decimal needs.inputs ∷ codes "own" ∷ decimal needs.own ∷ [];
  read = (kind_read (name ++ codes " inputs" ++ number_field needs.inputs) (codes "own") needs.own (name ∷ codes "inputs" ∷ decimal needs.inputs ∷ [])
      (kind_read name (codes "inputs") needs.inputs (name ∷ []) (one_read name (name_text name named)) inputs_text fits.0) own_text fits.1).end;
  inputs = refl;
  own = refl;
}

module _ (first second : List ℕ) (shared : Shared) (fits : PairFits shared) where
  abbrev mul_field : List ℕ
  mul_field = codes "mul" ++ number_field shared.muls

  abbrev mul_words : List (List ℕ)
  mul_words = codes "mul" ∷ decimal shared.muls ∷ []

  abbrev and_words : List (List ℕ)
  and_words = codes "mul" ∷ decimal shared.muls ∷ codes "and" ∷ decimal shared.ands ∷ []

  abbrev pair_words : List (List ℕ)
  pair_words = codes "mul" ∷ decimal shared.muls ∷ codes "and" ∷ decimal shared.ands ∷ codes "pair" ∷ decimal shared.pairs ∷ []

  muls_read : AreRead mul_field mul_words
  muls_read = word_read (codes "mul") (decimal shared.muls) (codes "mul" ∷ []) (one_read (codes "mul") mul_text) (word_small shared.muls fits.0)

  kinds_read : AreRead (mul_field ++ codes " and" ++ number_field shared.ands ++ codes " pair" ++ number_field shared.pairs) pair_words
  kinds_read =
      kind_read (mul_field ++ codes " and" ++ number_field shared.ands) (codes "pair") shared.pairs and_words
      (kind_read mul_field (codes "and") shared.ands mul_words muls_read and_text fits.1.0) pair_text fits.1.1

  pair_told : is_name first ≡ true → is_name second ≡ true → TellsPair (pair_line first second shared) first second shared
  pair_told one other = record {
    kinds = pair_words;
    read =
        ap (λ (names : List ℕ). line_words (names ++ shared_fields shared ++ 10 ∷ [])) (append_assoc first (32 ∷ []) second)
        ∙ (both_read (first ++ 32 ∷ second) (mul_field ++ codes " and" ++ number_field shared.ands ++ codes " pair" ++ number_field shared.pairs)
        (first ∷ second ∷ []) pair_words (word_read first second (first ∷ []) (one_read first (name_text first one)) (name_text second other)) kinds_read).end;
    muls = refl;
    ands = refl;
    pairs = refl;
  }

pub kinds_are_told : KindsAreTold
kinds_are_told = record {
  hosts = host_told;
  pairs = λ first second shared one other fits. pair_told first second shared fits one other;
}
