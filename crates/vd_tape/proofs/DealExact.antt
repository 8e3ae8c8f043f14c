-- The whole file is read exactly.
use Rattle.std.proofs.Common.{◌≡◌, ℕ, ◌-◌, ◌<◌, ◌≤◌, List, [], ◌∷◌, ◌++◌, length, Ok, All, refl, sym, ap, ◌∙◌, arith}
use Rattle.std.specs.Prelude.{codes}
use Rattle.std.specs.List.{AllByRecursion}
use Rattle.std.proofs.lemmas.List.{append-nil}
use Rattle.std.proofs.lemmas.List.Elements.{All-from_recursion, recursion_from_All}
use Rattle.vd_base.specs.Limits.{most_hosts, most_deal_items}
use Rattle.vd_base_codec.specs.Reading.{◌>>=◌, literal_at, field}
use Rattle.vd_base_codec.specs.Exact.{IsAnything, IsExact, IsExactWhole}
use Rattle.vd_base_codec.proofs.Front.{done_exact, literal_exact, Picks, then_exact, AreEach, exact_as, exact_for, whole_exact, exact_follows}
use Rattle.vd_tape.specs.declared.deal_items.deal.Deal.{Deal}
use Rattle.vd_base.specs.Words.{IsWord}
use Rattle.vd_tape.specs.Validity.{AreTripleWords, ArePairWords, AreWithin}
use Rattle.vd_tape.specs.declared.reading.Shares.{Shares}
use Rattle.vd_tape.specs.Text.{list_text, shares_text, deal_text, IsDealOf}
use Rattle.vd_tape.specs.Outcome.{DealsFollowGrammar}
use Rattle.vd_tape.specs.Reading.{word_at, list_at, shares_at, deal_at, deal_read}
use Rattle.vd_tape.proofs.ItemsExact.{FitsList}
use Rattle.vd_tape.proofs.SharesExact.{own_exact, FitsShares, texts_of, empty_shares, shares_exact}
use Rattle.vd_tape.proofs.ShareLoop.{shares_of}

-- ---- what fits, list by list

abbrev shares_in : Deal → Shares
shares_in d = shares_of d.triples d.bits d.pairs

pub record Fit (hosts me : ℕ) (d : Deal) : Type 0 where
  pub hosts_are : d.hosts ≡ hosts
  pub me_is : d.me.0 ≡ me
  pub own : FitsList IsWord d.own
  pub shares : FitsShares (hosts - 1) (shares_in d)

within_and : {X : Type 0} (Fits : X → Type 0) (xss : List (List X)) → AllByRecursion (λ xs. length xs ≤ most_deal_items) xss → AllByRecursion (All Fits) xss → AllByRecursion (FitsList Fits) xss
within_and Fits [] w f = tt
within_and Fits (xs ∷ xss) w f = ((w.0, recursion_from_All Fits xs f.0), within_and Fits xss w.1 f.1)

lists_fit : {X : Type 0} (Fits : X → Type 0) (n : ℕ) (xss : List (List X)) → length xss ≡ n → AreWithin xss → All (All Fits) xss → AreEach (FitsList Fits) n xss
lists_fit Fits n xss h w f = (h, within_and Fits xss (recursion_from_All (λ xs. length xs ≤ most_deal_items) xss w) (recursion_from_All (All Fits) xss f))

within_of : {X : Type 0} (Fits : X → Type 0) (xss : List (List X)) → AllByRecursion (FitsList Fits) xss → AllByRecursion (λ xs. length xs ≤ most_deal_items) xss
within_of Fits [] h = tt
within_of Fits (xs ∷ xss) h = (h.0.0, within_of Fits xss h.1)

all_of : {X : Type 0} (Fits : X → Type 0) (xss : List (List X)) → AllByRecursion (FitsList Fits) xss → AllByRecursion (All Fits) xss
all_of Fits [] h = tt
all_of Fits (xs ∷ xss) h = (All-from_recursion Fits xs h.0.1, all_of Fits xss h.1)

are_within : {X : Type 0} (Fits : X → Type 0) (xss : List (List X)) → AllByRecursion (FitsList Fits) xss → AreWithin xss
are_within Fits xss h = All-from_recursion (λ xs. length xs ≤ most_deal_items) xss (within_of Fits xss h)

are_words : {X : Type 0} (Fits : X → Type 0) (xss : List (List X)) → AllByRecursion (FitsList Fits) xss → All (All Fits) xss
are_words Fits xss h = All-from_recursion (All Fits) xss (all_of Fits xss h)

pub fit : (hosts me : ℕ) (d : Deal) → IsDealOf hosts me d → Fit hosts me d
fit hosts me d h = record {
  hosts_are = h.hosts_are;
  me_is = h.me_is;
  own = (h.is.own, recursion_from_All IsWord d.own h.words.own);
  shares = (
    lists_fit AreTripleWords (hosts - 1) d.triples (omega (arith, h.is.triples, h.hosts_are)) h.is.triples_within h.words.triples,
    lists_fit AreTripleWords (hosts - 1) d.bits (omega (arith, h.is.bits, h.hosts_are)) h.is.bits_within h.words.bits,
    lists_fit ArePairWords (hosts - 1) d.pairs (omega (arith, h.is.pairs, h.hosts_are)) h.is.pairs_within h.words.pairs,
  );
}

pub is_deal_of : (hosts me : ℕ) (d : Deal) → hosts ≤ most_hosts → me < hosts → Fit hosts me d → IsDealOf hosts me d
is_deal_of hosts me d few below h = record {
  is = record {
    few = omega (arith, h.hosts_are);
    own_number = omega (arith, h.hosts_are, h.me_is);
    own = h.own.0;
    triples = omega (arith, h.hosts_are, h.shares.0.0);
    bits = omega (arith, h.hosts_are, h.shares.1.0);
    pairs = omega (arith, h.hosts_are, h.shares.2.0);
    triples_within = are_within AreTripleWords d.triples h.shares.0.1;
    bits_within = are_within AreTripleWords d.bits h.shares.1.1;
    pairs_within = are_within ArePairWords d.pairs h.shares.2.1;
  };
  words = record {
    own = All-from_recursion IsWord d.own h.own.1;
    triples = are_words AreTripleWords d.triples h.shares.0.1;
    bits = are_words AreTripleWords d.bits h.shares.1.1;
    pairs = are_words ArePairWords d.pairs h.shares.2.1;
  };
  hosts_are = h.hosts_are;
  me_is = h.me_is;
}

-- ---- part by part

abbrev made_of : ℕ → ℕ → List ℕ → Shares → Deal
made_of hosts me own ss = record { hosts = hosts; me = record { 0 = me }; own = own; triples = ss.triples; bits = ss.bits; pairs = ss.pairs }

same_deal : (d : Deal) (hosts me : ℕ) (own : List ℕ) (ss : Shares) → d.hosts ≡ hosts → d.me.0 ≡ me → d.own ≡ own → shares_in d ≡ ss → d ≡ made_of hosts me own ss
same_deal d hosts me own ss h m o s =
    ap (λ x. made_of x d.me.0 d.own (shares_in d)) h ∙ ap (λ x. made_of hosts x d.own (shares_in d)) m
    ∙ ap (λ x. made_of hosts me x (shares_in d)) o ∙ ap (made_of hosts me own) s

pub fit_made : (hosts me : ℕ) (own : List ℕ) (ss : Shares) → FitsList IsWord own → FitsShares (hosts - 1) ss → Fit hosts me (made_of hosts me own ss)
fit_made hosts me own ss fits_own fits_ss = record { hosts_are = refl; me_is = refl; own = fits_own; shares = fits_ss }

abbrev shares_text_of : ℕ → Deal → List ℕ
shares_text_of me d = texts_of me 0 (shares_in d)

-- the text with the numbers that are wanted
abbrev text_with : ℕ → ℕ → Deal → List ℕ
text_with hosts me d = codes "viaduct-deal 1" ++ (field hosts ++ (field me ++ (codes "\nown" ++ (list_text field d.own ++ shares_text_of me d))))

same_text : (hosts me : ℕ) (d : Deal) → Fit hosts me d → deal_text d ≡ text_with hosts me d
same_text hosts me d h =
    ap (λ n. codes "viaduct-deal 1" ++ (field n ++ (field d.me.0 ++ (10 ∷ (codes "own" ++ (list_text field d.own ++ shares_text d.me.0 0 d.triples d.bits d.pairs)))))) h.hosts_are
    ∙ ap (λ m. codes "viaduct-deal 1" ++ (field hosts ++ (field m ++ (10 ∷ (codes "own" ++ (list_text field d.own ++ shares_text m 0 d.triples d.bits d.pairs)))))) h.me_is

picks_own : (hosts me : ℕ) → Picks IsAnything (FitsList IsWord) (list_text field) IsAnything (Fit hosts me) (λ d. list_text field d.own ++ shares_text_of me d) (shares_text_of me) (λ d. d.own)
picks_own hosts me = record {
  part_fits = λ d h. h.own;
  split = λ d h. refl;
  some = λ own h. let ss = empty_shares (hosts - 1) in (made_of hosts me own ss.0, (fit_made hosts me own ss.0 h ss.1, refl));
  break = λ d behind h k. tt;
}

picks_shares : (hosts me : ℕ) (own : List ℕ) → FitsList IsWord own
    → Picks IsAnything (FitsShares (hosts - 1)) (texts_of me 0) IsAnything (λ (d : Deal). Fit hosts me d × (d.own ≡ own)) (shares_text_of me) (λ _. []) shares_in
picks_shares hosts me own fits = record {
  part_fits = λ d h. h.0.shares;
  split = λ d h. sym (append-nil (shares_text_of me d));
  some = λ ss h. (made_of hosts me own ss, ((fit_made hosts me own ss fits h, refl), refl));
  break = λ d behind h k. tt;
}

some_deal : (hosts me : ℕ) → (d : Deal) × Fit hosts me d
some_deal hosts me = let ss = empty_shares (hosts - 1) in (made_of hosts me [] ss.0, fit_made hosts me [] ss.0 (omega arith, tt) ss.1)

lists_exact : (hosts me : ℕ) (bytes : List ℕ)
    → IsExact IsAnything (Fit hosts me) (λ d. list_text field d.own ++ shares_text_of me d) bytes (list_at word_at bytes >>= λ own. shares_at me 0 (hosts - 1) own.1 >>= λ ss. Ok (made_of hosts me own.0 ss.0, ss.1))
lists_exact hosts me bytes =
    then_exact IsAnything (FitsList IsWord) (list_text field) IsAnything (Fit hosts me) (λ d. list_text field d.own ++ shares_text_of me d) (shares_text_of me) (λ d. d.own) (picks_own hosts me) bytes (list_at word_at bytes)
    (λ own. shares_at me 0 (hosts - 1) own.1 >>= λ ss. Ok (made_of hosts me own.0 ss.0, ss.1)) (own_exact bytes)
    (λ own mid fits.
    then_exact IsAnything (FitsShares (hosts - 1)) (texts_of me 0) IsAnything (λ d. Fit hosts me d × (d.own ≡ own)) (shares_text_of me) (λ _. []) shares_in (picks_shares hosts me own fits) mid (shares_at me 0 (hosts - 1) mid)
    (λ ss. Ok (made_of hosts me own ss.0, ss.1)) (shares_exact me 0 (hosts - 1) mid)
    (λ ss last h.
    done_exact IsAnything (λ d. (Fit hosts me d × (d.own ≡ own)) × (shares_in d ≡ ss)) (made_of hosts me own ss) last
    ((fit_made hosts me own ss fits h, refl), refl) (λ d g. same_deal d hosts me own ss g.0.0.hosts_are g.0.0.me_is g.0.1 g.1)))

pub deal_exact : (hosts me : ℕ) (bytes : List ℕ) → IsExact IsAnything (Fit hosts me) deal_text bytes (deal_at hosts me bytes)
unfolding deal_at
deal_exact hosts me bytes =
    let some = some_deal hosts me in
    exact_as IsAnything (Fit hosts me) (text_with hosts me) deal_text bytes (deal_at hosts me bytes) (same_text hosts me)
    (literal_exact IsAnything (Fit hosts me) (λ d. field hosts ++ (field me ++ (codes "\nown" ++ (list_text field d.own ++ shares_text_of me d)))) (codes "viaduct-deal 1") bytes some.0
    (λ a. literal_at (field hosts) a >>= λ b. literal_at (field me) b.1 >>= λ c. literal_at (codes "\nown") c.1 >>= λ o. list_at word_at o.1 >>= λ own. shares_at me 0 (hosts - 1) own.1 >>= λ ss. Ok (made_of hosts me own.0 ss.0, ss.1))
    some.1
    (λ a. literal_exact IsAnything (Fit hosts me) (λ d. field me ++ (codes "\nown" ++ (list_text field d.own ++ shares_text_of me d))) (field hosts) a some.0
    (λ b. literal_at (field me) b >>= λ c. literal_at (codes "\nown") c.1 >>= λ o. list_at word_at o.1 >>= λ own. shares_at me 0 (hosts - 1) own.1 >>= λ ss. Ok (made_of hosts me own.0 ss.0, ss.1))
    some.1
    (λ b. literal_exact IsAnything (Fit hosts me) (λ d. codes "\nown" ++ (list_text field d.own ++ shares_text_of me d)) (field me) b some.0
    (λ c. literal_at (codes "\nown") c >>= λ o. list_at word_at o.1 >>= λ own. shares_at me 0 (hosts - 1) own.1 >>= λ ss. Ok (made_of hosts me own.0 ss.0, ss.1))
    some.1
    (λ c. literal_exact IsAnything (Fit hosts me) (λ d. list_text field d.own ++ shares_text_of me d) (codes "\nown") c some.0
    (λ o. list_at word_at o >>= λ own. shares_at me 0 (hosts - 1) own.1 >>= λ ss. Ok (made_of hosts me own.0 ss.0, ss.1))
    some.1 (λ o. lists_exact hosts me o)))))

-- ---- the law

read_exact : (hosts me : ℕ) (bytes : List ℕ) → hosts ≤ most_hosts → me < hosts → IsExactWhole (IsDealOf hosts me) deal_text bytes (deal_read hosts me bytes)
read_exact hosts me bytes few below =
    whole_exact IsAnything (IsDealOf hosts me) deal_text bytes (deal_at hosts me bytes) tt
    (exact_for IsAnything (Fit hosts me) (IsDealOf hosts me) deal_text bytes (deal_at hosts me bytes) (λ d. is_deal_of hosts me d few below) (fit hosts me) (deal_exact hosts me bytes))

pub follow_grammar : (hosts me : ℕ) (bytes : List ℕ) → hosts ≤ most_hosts → me < hosts → DealsFollowGrammar hosts me bytes
follow_grammar hosts me bytes few below = exact_follows (IsDealOf hosts me) deal_text bytes (deal_read hosts me bytes) (read_exact hosts me bytes few below)
