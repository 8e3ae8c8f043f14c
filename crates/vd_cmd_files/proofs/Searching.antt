-- A function that finds the first item of the deals of all hosts that breaks its identity.
use Rattle.std.proofs.Common.{◌≡◌, ℕ, zero, suc, ◌<◌, ◌≤◌, nat_eq, nat_lt, Bool, true, false, List, [], ◌∷◌, ◌⊎◌, inl, inr, Option, Some, None, length, refl, sym, ap, ◌∙◌, subst, arith}
use Rattle.std.specs.Prelude.{◌≢◌, All, if◌then◌else◌, slice_get, unwrap_or}
use Rattle.std.proofs.lemmas.Bool.{cases_lt, eqb-true, eq-eqb}
use Rattle.std.proofs.lemmas.Bool.Decides.{nat_tests}
use Rattle.std.proofs.lemmas.Option.{same_Some, slice_get_within, slice_get_past}
use Rattle.vd_base.specs.Limits.{most_deal_items}
use Rattle.vd_base.specs.HostSets.{host}
use Rattle.vd_tape.specs.declared.deal_items.items.Triple.{Triple}
use Rattle.vd_tape.specs.declared.deal_items.items.PairItem.{PairItem}
use Rattle.vd_tape.specs.Identities.{MeetsMul, MeetsAnd, MeetsPair, pair_at, triple_at, zero_pair, zero_triple}
use Rattle.vd_tape.specs.declared.deal_items.deal.Deal.{Deal}
use Rattle.vd_tape.specs.declared.deal_items.deal.DealKind.{DealKind}
use Rattle.vd_tape.specs.declared.deal_items.deal.DealKind.TheVariants.{Own, Mul, And, Pair}
use Rattle.vd_tape.specs.declared.deal_items.deal.BadItem.{BadItem}
use Rattle.vd_tape.specs.Validity.{AreDeals, IsConsistent, IsFirstBad, Meets, peer_place, rank, shared_with, sides}
use Rattle.vd_cmd_files.specs.Outcomes.{IsJudged}

-- what was looked for holds, or what was found is wrong
abbrev Judges : {X : Type 0} → Type 0 → (X → Type 0) → Option X → Type 0
Judges Good Bad None = Good
Judges Good Bad (Some x) = Bad x

judges_so : {X : Type 0} {Good Better : Type 0} {Bad Worse : X → Type 0} → (Good → Better) → ((x : X) → Bad x → Worse x) → (o : Option X) → Judges Good Bad o → Judges Better Worse o
judges_so good bad None is = good is
judges_so good bad (Some x) is = bad x is

-- ---- the first place at which something is found

abbrev or_else : {X : Type 0} → Option X → Option X → Option X
or_else (Some x) other = Some x
or_else None other = other

-- of the first n places
abbrev first_some : {X : Type 0} → ℕ → (ℕ → Option X) → Option X
first_some zero f = None
first_some (suc n) f = or_else (first_some n f) (f n)

module _ {X : Type 0} (Good : ℕ → Type 0) (Bad : ℕ → X → Type 0) (f : ℕ → Option X) (each : (i : ℕ) → Judges (Good i) (Bad i) (f i)) where
  abbrev AllGood : ℕ → Type 0
  AllGood n = (i : ℕ) → i < n → Good i

  abbrev FirstBad : ℕ → X → Type 0
  FirstBad n x = (i : ℕ) × (i < n) × Bad i x × ((k : ℕ) → k < i → Good k)

  one_more : (n : ℕ) (o p : Option X) → Judges (AllGood n) (FirstBad n) o → Judges (Good n) (Bad n) p → Judges (AllGood (suc n)) (FirstBad (suc n)) (or_else o p)
  one_more n (Some x) p found next = let at = found.0 in let lt : at < n = found.1 in (at, omega (arith, lt), found.2, found.3)
  one_more n None (Some x) all next = (n, omega arith, next, all)
  one_more n None None all next = λ i lt. elim (cases_lt i n) [ inl low ↦ all i low | inr le ↦ subst Good (last i lt le) next ]
    where
      last : (i : ℕ) → i < suc n → n ≤ i → n ≡ i
      last i lt le = omega (arith, lt, le)

  finds : (n : ℕ) → Judges (AllGood n) (FirstBad n) (first_some n f)
  finds zero = λ i lt. absurd (omega (arith, lt))
  finds (suc n) = one_more n (first_some n f) (f n) (finds n) (each n)

-- ---- an item

-- the item of a kind at a place, with the sides of its identity
abbrev item_of : (first second : ℕ) → DealKind → ℕ → ℕ × ℕ → BadItem
item_of first second kind i both = record { kind = kind; first = host first; second = host second; index = i; left = both.0; right = both.1 }

-- where these differ
abbrev item_at : (first second : ℕ) → DealKind → ℕ → ℕ × ℕ → Option BadItem
item_at first second kind i both = if nat_eq both.0 both.1 then None else Some (item_of first second kind i both)

record Breaks (first second : ℕ) (kind : DealKind) (i : ℕ) (both : ℕ × ℕ) (bad : BadItem) : Type 0 where
  is : bad ≡ item_of first second kind i both
  differ : both.0 ≢ both.1

item_judged : (first second : ℕ) (kind : DealKind) (i : ℕ) (both : ℕ × ℕ) → Judges (both.0 ≡ both.1) (Breaks first second kind i both) (item_at first second kind i both)
item_judged first second kind i both = at (nat_eq both.0 both.1) refl
  where
    at : (b : Bool) → nat_eq both.0 both.1 ≡ b → Judges (both.0 ≡ both.1) (Breaks first second kind i both) (if b then None else Some (item_of first second kind i both))
    at true e = eqb-true both.0 both.1 e
    at false e = record { is = refl; differ = λ same. cc (e, eq-eqb both.0 both.1 same) }

-- ---- the items of a kind of two hosts

past_zero : {X : Type 0} (xs : List X) (zero_item : X) (i : ℕ) → length xs ≤ i → unwrap_or (slice_get xs i) zero_item ≡ zero_item
past_zero xs zero_item i le = ap (λ o. unwrap_or o zero_item) (slice_get_past xs i le)

short_lists : {X : Type 0} (lists : List (List X)) (most place : ℕ) → All (λ items. length items ≤ most) lists → length (unwrap_or (slice_get lists place) []) ≤ most
short_lists [] most place all = omega arith
short_lists (xs ∷ lists) most zero all = all 0 xs (omega arith)
short_lists (xs ∷ lists) most (suc place) all = short_lists lists most place (λ k d lt. all (suc k) d (omega (arith, lt)))

-- no list of a deal is longer than that
record IsShort (most : ℕ) (d : Deal) : Type 0 where
  triples : All (λ items. length items ≤ most) d.triples
  bits : All (λ items. length items ≤ most) d.bits
  pairs : All (λ items. length items ≤ most) d.pairs

triples_past : (most : ℕ) (p q : List (List Triple)) → All (λ items. length items ≤ most) p → All (λ items. length items ≤ most) q → (a b i : ℕ) → most ≤ i
    → (R : Triple → Triple → Type 0) → R zero_triple zero_triple → R (triple_at (shared_with p a b) i) (triple_at (shared_with q b a) i)
triples_past most p q low high a b i le R zeros =
    let first = short_lists p most (peer_place a b) low in
    let second = short_lists q most (peer_place b a) high in
    let e = past_zero (shared_with p a b) zero_triple i (omega (arith, first, le)) in
    let f = past_zero (shared_with q b a) zero_triple i (omega (arith, second, le)) in
    subst (λ (x : Triple). R x (triple_at (shared_with q b a) i)) (sym e) (subst (λ (y : Triple). R zero_triple y) (sym f) zeros)

pairs_past : (most : ℕ) (p q : List (List PairItem)) → All (λ items. length items ≤ most) p → All (λ items. length items ≤ most) q → (a b i : ℕ) → most ≤ i
    → MeetsPair (pair_at (shared_with p a b) i) (pair_at (shared_with q b a) i)
pairs_past most p q low high a b i le =
    let first = short_lists p most (peer_place a b) low in
    let second = short_lists q most (peer_place b a) high in
    let e = past_zero (shared_with p a b) zero_pair i (omega (arith, first, le)) in
    let f = past_zero (shared_with q b a) zero_pair i (omega (arith, second, le)) in
    subst (λ (x : PairItem). MeetsPair x (pair_at (shared_with q b a) i)) (sym e) (subst (λ (y : PairItem). MeetsPair zero_pair y) (sym f) refl)

meets_past : (most : ℕ) (p q : Deal) → IsShort most p → IsShort most q → (kind : DealKind) (i : ℕ) → most ≤ i → Meets p q kind i
meets_past most p q low high Own i le = refl
meets_past most p q low high Mul i le = triples_past most p.triples q.triples low.triples high.triples p.me.0 q.me.0 i le MeetsMul refl
meets_past most p q low high And i le = triples_past most p.bits q.bits low.bits high.bits p.me.0 q.me.0 i le MeetsAnd refl
meets_past most p q low high Pair i le = pairs_past most p.pairs q.pairs low.pairs high.pairs p.me.0 q.me.0 i le

-- the kinds by their rank
abbrev kind_at : ℕ → DealKind
kind_at zero = Own
kind_at (suc zero) = Mul
kind_at (suc (suc zero)) = And
kind_at (suc (suc (suc r))) = Pair

of_rank : (kind : DealKind) → kind_at (rank kind) ≡ kind
of_rank Own = refl
of_rank Mul = refl
of_rank And = refl
of_rank Pair = refl

low_rank : (kind : DealKind) → rank kind < 4
low_rank Own = omega arith
low_rank Mul = omega arith
low_rank And = omega arith
low_rank Pair = omega arith

rank_of : (r : ℕ) → r < 4 → rank (kind_at r) ≡ r
rank_of zero lt = refl
rank_of (suc zero) lt = refl
rank_of (suc (suc zero)) lt = refl
rank_of (suc (suc (suc zero))) lt = refl
rank_of (suc (suc (suc (suc r)))) lt = absurd (omega (arith, lt))

module _ (most : ℕ) (p q : Deal) (first second : ℕ) where
  abbrev kind_bad : DealKind → Option BadItem
  kind_bad kind = first_some most (λ i. item_at first second kind i (sides p q kind i))

  abbrev KindBad : DealKind → BadItem → Type 0
  KindBad kind bad = (i : ℕ) × Breaks first second kind i (sides p q kind i) bad × ((k : ℕ) → k < i → Meets p q kind k)

  kind_judged : IsShort most p → IsShort most q → (kind : DealKind) → Judges ((i : ℕ) → Meets p q kind i) (KindBad kind) (kind_bad kind)
  kind_judged low high kind =
      judges_so
      (λ all i. elim (cases_lt i most) [ inl lt ↦ all i lt | inr le ↦ meets_past most p q low high kind i le ])
      (λ bad found. (found.0, found.2, found.3))
      (kind_bad kind)
      (finds (λ i. Meets p q kind i) (λ i. Breaks first second kind i (sides p q kind i)) (λ i. item_at first second kind i (sides p q kind i)) (λ i. item_judged first second kind i (sides p q kind i)) most)

  -- ---- the items of two hosts

  abbrev pair_bad : Option BadItem
  pair_bad = first_some 4 (λ r. kind_bad (kind_at r))

  record PairBad (bad : BadItem) : Type 0 where
    kind : DealKind
    index : ℕ
    breaks : Breaks first second kind index (sides p q kind index) bad
    earlier : (k : DealKind) (i : ℕ) → (rank k < rank kind) ⊎ ((rank k ≡ rank kind) × (i < index)) → Meets p q k i

  abbrev AllMeet : Type 0
  AllMeet = (kind : DealKind) (i : ℕ) → Meets p q kind i

  pair_found : (bad : BadItem) → (r : ℕ) × (r < 4) × KindBad (kind_at r) bad × ((k : ℕ) → k < r → (i : ℕ) → Meets p q (kind_at k) i) → PairBad bad
  pair_found bad found =
      let r = found.0 in
      let at = found.2 in
      let same : rank (kind_at r) ≡ r = rank_of r found.1 in
      record {
        kind = kind_at r;
        index = at.0;
        breaks = at.1;
        earlier = λ k i before. elim before [
          | inl lt ↦ subst (λ (x : DealKind). Meets p q x i) (of_rank k) (found.3 (rank k) (subst (λ (n : ℕ). rank k < n) same lt) i)
          | inr both ↦ subst (λ (x : DealKind). Meets p q x i) (ap kind_at (sym same ∙ sym both.0) ∙ of_rank k) (at.2 i both.1)
        ];
      }

  pair_judged : IsShort most p → IsShort most q → Judges AllMeet PairBad pair_bad
  pair_judged low high =
      judges_so
      (λ all kind i. subst (λ (x : DealKind). Meets p q x i) (of_rank kind) (all (rank kind) (low_rank kind) i))
      pair_found
      pair_bad
      (finds (λ r. (i : ℕ) → Meets p q (kind_at r) i) (λ r. KindBad (kind_at r)) (λ r. kind_bad (kind_at r)) (λ r. kind_judged low high (kind_at r)) 4)

-- ---- the items of all hosts

module _ (most : ℕ) (deals : List Deal) where
  abbrev with_second : Deal → ℕ → ℕ → Option Deal → Option BadItem
  with_second p first second None = None
  with_second p first second (Some q) = if nat_lt first second then pair_bad most p q first second else None

  abbrev second_bad : Deal → ℕ → ℕ → Option BadItem
  second_bad p first second = with_second p first second (slice_get deals second)

  abbrev with_first : ℕ → Option Deal → Option BadItem
  with_first first None = None
  with_first first (Some p) = first_some (length deals) (second_bad p first)

  abbrev judge_within : Option BadItem
  judge_within = first_some (length deals) (λ first. with_first first (slice_get deals first))

  abbrev SecondGood : Deal → ℕ → ℕ → Type 0
  SecondGood p first second = (q : Deal) → first < second → slice_get deals second ≡ Some q → AllMeet most p q first second

  record SecondBad (p : Deal) (first second : ℕ) (bad : BadItem) : Type 0 where
    deal : Deal
    order : first < second
    is : slice_get deals second ≡ Some deal
    pair : PairBad most p deal first second bad

  module _ (short : (h : ℕ) (d : Deal) → slice_get deals h ≡ Some d → IsShort most d) where
    second_judged : (p : Deal) (first : ℕ) → IsShort most p → (second : ℕ) → Judges (SecondGood p first second) (SecondBad p first second) (second_bad p first second)
    second_judged p first low second = at (slice_get deals second) refl
      where
        within : (q : Deal) → slice_get deals second ≡ Some q → (b : Bool) → nat_lt first second ≡ b
            → Judges (SecondGood p first second) (SecondBad p first second) (if b then pair_bad most p q first second else None)
        within q e true lt =
            judges_so
            (λ all other order is. subst (λ (d : Deal). AllMeet most p d first second) (same_Some q other (sym e ∙ is)) all)
            (λ bad pair. record { deal = q; order = grind (arith, nat_tests, lt); is = e; pair = pair })
            (pair_bad most p q first second) (pair_judged most p q first second low (short second q e))
        within q e false ge = λ other order is. absurd (grind (arith, nat_tests, ge, order))

        at : (o : Option Deal) → slice_get deals second ≡ o → Judges (SecondGood p first second) (SecondBad p first second) (with_second p first second o)
        at None e = λ q order is. absurd (cc (e, is))
        at (Some q) e = within q e (nat_lt first second) refl

    abbrev FirstGood : ℕ → Type 0
    FirstGood first = (p : Deal) (second : ℕ) → slice_get deals first ≡ Some p → SecondGood p first second

    record FirstBadAt (first : ℕ) (bad : BadItem) : Type 0 where
      deal : Deal
      is : slice_get deals first ≡ Some deal
      second : ℕ
      bad_second : SecondBad deal first second bad
      earlier : (k : ℕ) → k < second → SecondGood deal first k

    first_judged : (first : ℕ) → Judges (FirstGood first) (FirstBadAt first) (with_first first (slice_get deals first))
    first_judged first = at (slice_get deals first) refl
      where
        at : (o : Option Deal) → slice_get deals first ≡ o → Judges (FirstGood first) (FirstBadAt first) (with_first first o)
        at None e = λ p second is. absurd (cc (e, is))
        at (Some p) e =
            judges_so
            (λ all other second is q order there. subst (λ (d : Deal). AllMeet most d q first second) (same_Some p other (sym e ∙ is)) (all second (slice_get_within deals second q there) q order there))
            (λ bad found. record { deal = p; is = e; second = found.0; bad_second = found.2; earlier = found.3 })
            (with_first first (Some p)) (finds (SecondGood p first) (SecondBad p first) (second_bad p first) (second_judged p first (short first p e)) (length deals))

    judged_within : Judges (IsConsistent deals) (IsFirstBad deals) judge_within
    judged_within =
        judges_so
        (λ all first second p q order e f. all first (slice_get_within deals first p e) p second e q order f)
        (λ bad found. at bad found.0 found.2 found.3)
        judge_within (finds FirstGood FirstBadAt (λ first. with_first first (slice_get deals first)) first_judged (length deals))
      where
        at : (bad : BadItem) (first : ℕ) → FirstBadAt first bad → ((k : ℕ) → k < first → FirstGood k) → IsFirstBad deals bad
        at bad first found before =
            let s = found.bad_second in
            let pair = s.pair in
            subst (IsFirstBad deals) (sym pair.breaks.is) (record {
              first = found.deal;
              second = s.deal;
              order = s.order;
              first_is = found.is;
              second_is = s.is;
              sides_are = refl;
              differ = pair.breaks.differ;
              earlier = λ f g p q order e there kind i behind. elim behind [
                | inl lt ↦ before f lt p g e q order there kind i
                | inr rest ↦
                    let p_is : found.deal ≡ p = same_Some found.deal p (sym found.is ∙ ap (slice_get deals) (sym rest.0) ∙ e) in
                    elim rest.1 [
                      | inl lt ↦ subst (λ (d : Deal). Meets d q kind i) p_is (found.earlier g lt q (subst (λ (n : ℕ). n < g) rest.0 order) there kind i)
                      | inr more ↦
                          let q_is : s.deal ≡ q = same_Some s.deal q (sym s.is ∙ ap (slice_get deals) (sym more.0) ∙ there) in
                          subst (λ (d : Deal). Meets d q kind i) p_is (subst (λ (d : Deal). Meets found.deal d kind i) q_is (pair.earlier kind i more.1))
                    ]
              ];
            })

-- no list is longer than the limit
pub judge : List Deal → Option BadItem
judge deals = judge_within most_deal_items deals

pub judged : (deals : List Deal) → AreDeals deals → IsJudged deals (judge deals)
unfolding judge
judged deals are = turned (judge_within most_deal_items deals) (judged_within most_deal_items deals (λ h d e. let is = (are.each h d e).0 in record { triples = is.triples_within; bits = is.bits_within; pairs = is.pairs_within }))
  where
    turned : (o : Option BadItem) → Judges (IsConsistent deals) (IsFirstBad deals) o → IsJudged deals o
    turned None is = is
    turned (Some bad) is = is
