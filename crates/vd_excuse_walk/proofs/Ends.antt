-- Both runs from their start to their end, and the deals that are then stored.
use Rattle.std.proofs.Common.{◌≡◌, ◌≢◌, ℕ, zero, suc, ◌≤◌, ◌<◌, Bool, true, false, if◌then◌else◌, nat_eq, List, [], ◌∷◌, length, map, Option, Some, refl, sym, ap, ap₂, subst, ◌∙◌, inl, inr, arith}
use Rattle.std.specs.Prelude.{nat_lt, ◌||◌, Result, IfOk, Ok, Err, slice_get, slice_index, slice_index_or, unwrap_or}
use Rattle.std.proofs.lemmas.Option.{slice_get_past}
use Rattle.std.proofs.lemmas.Bool.{eq-eqb}
use Rattle.std.proofs.lemmas.Bool.Decides.{leb_tells, nat_tests}
use mathlib.Core.Path.{fun_ext}
use Rattle.vd_base.specs.declared.ids.HostId.{HostId}
use Rattle.vd_tape.specs.declared.deal_items.deal.Deal.{Deal}
use Rattle.vd_tape.specs.declared.deal_items.items.Triple.{Triple}
use Rattle.vd_tape.specs.declared.deal_items.items.PairItem.{PairItem}
use Rattle.vd_tape.specs.Identities.{zero_triple, zero_pair}
use Rattle.vd_execution.specs.Step.{Source, Inputs, OwnWords, Triples, BitTriples, Pairs}
use Rattle.vd_execution.specs.World.{zeros_of}
use Rattle.vd_execution.specs.Joint.{fresh}
use Rattle.vd_excuse_walk.specs.declared.equivocation_laws.step.Step.{Step}
use Rattle.vd_excuse_walk.specs.Walks.{Both}
use Rattle.vd_excuse_runs.specs.Sides.{dealt_side, empty_side, triple_words, pair_words}
use Rattle.vd_excuse_runs.specs.Runs.{side_at}
use Rattle.vd_excuse_walk.specs.declared.walker.Walker.{Walker}
use Rattle.vd_excuse_walk.specs.Data.{all_both, data_walks}
use Rattle.vd_excuse_walk.specs.Supplies.{Lists, lists_of, supplies, dealt}
use Rattle.vd_excuse_walk.specs.Following.{placed, IsIn, Stands, Known, Follows, WalksAreFollowed}
use Rattle.vd_machine.specs.Dealt.{counts_of}
use Rattle.vd_excuse_walk.specs.Files.{AreOfTwo, file_tape, dealt_sides, takes_more, is_short, first_of, first_short}
use Rattle.vd_tape.specs.declared.deal_items.deal.DealKind.{DealKind}
use Rattle.vd_tape.specs.declared.deal_items.deal.DealKind.TheVariants.{Own, Mul, And, Pair}
use Rattle.vd_excuse_walk.proofs.Along.{first_lists}
use Rattle.vd_excuse_walk.specs.Claims.{side_takes_more, either_takes_more, first_taken, at_start, end_of, EndsWithin, HasSameShape, HaveSameShape, stored_deal, stored_deals, walker_of}
use Rattle.vd_excuse_walk.proofs.Stands.{word_or_zero}
use Rattle.vd_excuse_walk.proofs.Hosts.{Part, file, are_files, file_holds, file_count}

no_word : (j : ℕ) → slice_index [] j ≡ 0
no_word j = word_or_zero [] j

none_placed : (n : ℕ) → 0 ≡ placed 0 n
none_placed n = omega arith

dealt_stands : (inputs : List ℕ) (d : Deal) (g : ℕ) → Stands (dealt_side inputs d) (fresh g)
dealt_stands inputs d g = record {
  registers = fun_ext no_word;
  taken = record { inputs = none_placed _; own = none_placed _; triples = none_placed _; bits = none_placed _; pairs = none_placed _ };
}

empty_stands : (g : ℕ) → Stands empty_side (fresh g)
empty_stands g = record {
  registers = fun_ext no_word;
  taken = record { inputs = none_placed 0; own = none_placed 0; triples = none_placed 0; bits = none_placed 0; pairs = none_placed 0 };
}

list_past : (xs : List (List ℕ)) (k : ℕ) → length xs ≤ k → slice_index_or xs k [] ≡ []
list_past [] zero le = refl
list_past [] (suc k) le = refl
list_past (x ∷ xs) zero le = absurd (omega (arith, le))
list_past (x ∷ xs) (suc k) le = list_past xs k (omega (arith, le))

-- past the end of its lists a host has zeros
words_past : (xs : List ℕ) (i : ℕ) → length xs ≤ i → slice_index xs i ∷ [] ≡ 0 ∷ []
words_past xs i le = ap (λ (w : ℕ). w ∷ []) (word_or_zero xs i ∙ ap (λ (o : Option ℕ). unwrap_or o 0) (slice_get_past xs i le))

item_past : {X : Type 0} (words : X → List ℕ) (none : X) (b : Bool) (xs : List X) (i : ℕ) → (if b then length xs else 0) ≤ i → words (if b then unwrap_or (slice_get xs i) none else none) ≡ words none
item_past words none true xs i le = ap (λ o. words (unwrap_or o none)) (slice_get_past xs i le)
item_past words none false xs i le = refl

supplies_past : (l : Lists) (s : Source) (i : ℕ) → s ≢ Inputs → dealt l s ≤ i → supplies l s i ≡ zeros_of s
supplies_past l Inputs i ne le = absurd (ne refl)
supplies_past l OwnWords i ne le = words_past l.own i le
supplies_past l (Triples p) i ne le = item_past triple_words zero_triple (nat_eq p l.peer.0) l.triples i le
supplies_past l (BitTriples p) i ne le = item_past triple_words zero_triple (nat_eq p l.peer.0) l.bits i le
supplies_past l (Pairs p) i ne le = item_past pair_words zero_pair (nat_eq p l.peer.0) l.pairs i le

nothing_of : {X : Type 0} (xs : List X) → length xs ≡ 0 → xs ≡ []
nothing_of [] e = refl
nothing_of (x ∷ xs) e = absurd (omega (arith, e))

abbrev with_peer : HostId → List ℕ → Lists → Lists
with_peer p i l = record { peer = p; inputs = i; own = l.own; triples = l.triples; bits = l.bits; pairs = l.pairs }

lists_made : (l : Lists) (p : HostId) (i o : List ℕ) (ts bs : List Triple) (ps : List PairItem) → l.peer ≡ p → l.inputs ≡ i → l.own ≡ o → l.triples ≡ ts → l.bits ≡ bs → l.pairs ≡ ps
    → ◌≡◌ {A = Lists} (record { peer = p; inputs = i; own = o; triples = ts; bits = bs; pairs = ps }) l
lists_made l p i o ts bs ps a b c d e f =
    let build : HostId → List ℕ → List ℕ → List Triple → List Triple → List PairItem → Lists = λ p i o ts bs ps. record { peer = p; inputs = i; own = o; triples = ts; bits = bs; pairs = ps } in
    sym (ap (λ z. build z l.inputs l.own l.triples l.bits l.pairs) a ∙ ap (λ z. build p z l.own l.triples l.bits l.pairs) b ∙ ap (λ z. build p i z l.triples l.bits l.pairs) c
    ∙ ap (λ z. build p i o z l.bits l.pairs) d ∙ ap (λ z. build p i o ts z l.pairs) e ∙ ap (λ z. build p i o ts bs z) f)

module _ (first second : List (List ℕ)) (x y : Part) (few : length second ≤ 2) where
  begun_stands : (inputs : List (List ℕ)) (g : ℕ) → Stands (side_at (dealt_sides 0 inputs (file 0 x ∷ file 1 y ∷ [])) g) (fresh g)
  begun_stands inputs zero = dealt_stands (slice_index_or inputs 0 []) (file 0 x) 0
  begun_stands inputs (suc zero) = dealt_stands (slice_index_or inputs 1 []) (file 1 y) 1
  begun_stands inputs (suc (suc g)) = empty_stands (suc (suc g))

  given_words : (g i : ℕ) → slice_index (slice_index_or second g []) i ∷ [] ≡ slice_index (side_at (dealt_sides 0 second (file 0 x ∷ file 1 y ∷ [])) g).inputs i ∷ []
  given_words zero i = refl
  given_words (suc zero) i = refl
  given_words (suc (suc g)) i = ap (λ (l : List ℕ). slice_index l i ∷ []) (list_past second (suc (suc g)) (omega (arith, few)))

  other_own : (g i : ℕ) → supplies (lists_of (side_at (dealt_sides 0 first (file 0 x ∷ file 1 y ∷ [])) g)) OwnWords i ≡ supplies (lists_of (side_at (dealt_sides 0 second (file 0 x ∷ file 1 y ∷ [])) g)) OwnWords i
  other_own zero i = refl
  other_own (suc zero) i = refl
  other_own (suc (suc g)) i = refl

  other_triples : (g p i : ℕ) → supplies (lists_of (side_at (dealt_sides 0 first (file 0 x ∷ file 1 y ∷ [])) g)) (Triples p) i ≡ supplies (lists_of (side_at (dealt_sides 0 second (file 0 x ∷ file 1 y ∷ [])) g)) (Triples p) i
  other_triples zero p i = refl
  other_triples (suc zero) p i = refl
  other_triples (suc (suc g)) p i = refl

  other_bits : (g p i : ℕ) → supplies (lists_of (side_at (dealt_sides 0 first (file 0 x ∷ file 1 y ∷ [])) g)) (BitTriples p) i ≡ supplies (lists_of (side_at (dealt_sides 0 second (file 0 x ∷ file 1 y ∷ [])) g)) (BitTriples p) i
  other_bits zero p i = refl
  other_bits (suc zero) p i = refl
  other_bits (suc (suc g)) p i = refl

  other_pairs : (g p i : ℕ) → supplies (lists_of (side_at (dealt_sides 0 first (file 0 x ∷ file 1 y ∷ [])) g)) (Pairs p) i ≡ supplies (lists_of (side_at (dealt_sides 0 second (file 0 x ∷ file 1 y ∷ [])) g)) (Pairs p) i
  other_pairs zero p i = refl
  other_pairs (suc zero) p i = refl
  other_pairs (suc (suc g)) p i = refl

  -- the deal of the second run at the start
  second_holds : (g : ℕ) (s : Source) (i : ℕ) → (at_start first second (file 0 x ∷ file 1 y ∷ [])).deal g s i ≡ supplies (lists_of (side_at (dealt_sides 0 second (file 0 x ∷ file 1 y ∷ [])) g)) s i
  second_holds g Inputs i = given_words g i
  second_holds g OwnWords i = file_holds first x y g OwnWords i ∙ other_own g i
  second_holds g (Triples p) i = file_holds first x y g (Triples p) i ∙ other_triples g p i
  second_holds g (BitTriples p) i = file_holds first x y g (BitTriples p) i ∙ other_bits g p i
  second_holds g (Pairs p) i = file_holds first x y g (Pairs p) i ∙ other_pairs g p i

  peer_apart : (k : ℕ) → k < 2 → (side_at (dealt_sides 0 second (file 0 x ∷ file 1 y ∷ [])) k).peer.0 ≢ k
  peer_apart zero low = λ e. omega (arith, e)
  peer_apart (suc zero) low = λ e. omega (arith, e)
  peer_apart (suc (suc k)) low = absurd (omega (arith, low))

  starts_follow : (h : HostId) → Follows h (file_tape first (file 0 x ∷ file 1 y ∷ [])) (λ g s. dealt (lists_of (side_at (dealt_sides 0 second (file 0 x ∷ file 1 y ∷ [])) g)) s) (dealt_sides 0 second (file 0 x ∷ file 1 y ∷ []))
      (walker_of h first second (file 0 x ∷ file 1 y ∷ [])) (at_start first second (file 0 x ∷ file 1 y ∷ []))
  starts_follow h = record {
    host = refl;
    first = record {
      counts = λ g s. sym (file_count first x y g s) ∙ file_count second x y g s;
      known = λ e. record { holds = λ g s i there. file_holds first x y g s i; stands = λ g. begun_stands first g };
    };
    second = record {
      counts = λ g s. refl;
      known = λ e. record { holds = λ g s i there. second_holds g s i; stands = λ g. begun_stands second g };
    };
    looker = λ s i ne. second_holds h.0 s i;
    keeps = λ g. record { peer = refl; inputs = refl; own = refl };
    mine = refl;
  }

  module _ (law : WalksAreFollowed) (h : HostId) (low : h.0 < 2) (steps : List Step) where
    abbrev ended : Walker
    ended = all_both (data_walks steps) (walker_of h first second (file 0 x ∷ file 1 y ∷ []))

    abbrev end : Both
    end = end_of h steps first second (file 0 x ∷ file 1 y ∷ [])

    follows_at_end : Follows h (file_tape first (file 0 x ∷ file 1 y ∷ [])) (λ g s. dealt (lists_of (side_at (dealt_sides 0 second (file 0 x ∷ file 1 y ∷ [])) g)) s) (dealt_sides 0 second (file 0 x ∷ file 1 y ∷ [])) ended end
    follows_at_end = law h _ _ _ (peer_apart h.0 low) steps _ _ (starts_follow h)

    abbrev last : ℕ → Lists
    last g = lists_of (side_at ended.second g)

    abbrev part_of : Lists → Part
    part_of l = record { own = l.own; triples = l.triples; bits = l.bits; pairs = l.pairs }

    -- how many items a host has at the end
    counted : (g : ℕ) (s : Source) → dealt (last g) s ≡ dealt (lists_of (side_at (dealt_sides 0 second (file 0 x ∷ file 1 y ∷ [])) g)) s
    counted g s = follows_at_end.second.counts g s

    peer_is : (g : ℕ) → (last g).peer ≡ (side_at (dealt_sides 0 second (file 0 x ∷ file 1 y ∷ [])) g).peer
    peer_is g = (follows_at_end.keeps g).peer

    long : (g peer k m : ℕ) → (last g).peer.0 ≡ peer → (if nat_eq peer (last g).peer.0 then k else 0) ≡ (if nat_eq peer peer then m else 0) → k ≡ m
    long g peer k m same e =
        let one : nat_eq peer peer ≡ true = eq-eqb peer peer refl in
        sym (ap (λ q. if nat_eq peer q then k else 0) same ∙ ap (λ (b : Bool). if b then k else 0) one) ∙ e ∙ ap (λ (b : Bool). if b then m else 0) one

    -- the stored deals are files again, of which the hosts have the lists
    stored_lists : (g : ℕ) → lists_of (side_at (dealt_sides 0 second (stored_deals 0 ended.second (file 0 x ∷ file 1 y ∷ []))) g) ≡ last g
    stored_lists zero = ap₂ (λ (p : HostId) (l : List ℕ). with_peer p l (last 0)) (sym (peer_is 0)) (sym (follows_at_end.keeps 0).inputs)
    stored_lists (suc zero) = ap₂ (λ (p : HostId) (l : List ℕ). with_peer p l (last 1)) (sym (peer_is 1)) (sym (follows_at_end.keeps 1).inputs)
    stored_lists (suc (suc g)) =
        let k : ℕ = suc (suc g) in
        let peer : (last k).peer.0 ≡ 0 = ap (λ (p : HostId). p.0) (peer_is k) in
        lists_made (last k) (record { 0 = 0 }) [] [] [] [] [] (peer_is k) (follows_at_end.keeps k).inputs (follows_at_end.keeps k).own
        (nothing_of (last k).triples (long k 0 (length (last k).triples) 0 peer (counted k (Triples 0))))
        (nothing_of (last k).bits (long k 0 (length (last k).bits) 0 peer (counted k (BitTriples 0))))
        (nothing_of (last k).pairs (long k 0 (length (last k).pairs) 0 peer (counted k (Pairs 0))))

    tape_holds : (g : ℕ) (s : Source) (i : ℕ) → file_tape second (stored_deals 0 ended.second (file 0 x ∷ file 1 y ∷ [])) g s i ≡ supplies (last g) s i
    tape_holds g s i = file_holds second (part_of (last 0)) (part_of (last 1)) g s i ∙ ap (λ (l : Lists). supplies l s i) (stored_lists g)

    how_many : (g : ℕ) (s : Source) → counts_of (file 0 x ∷ file 1 y ∷ []) g s ≡ dealt (last g) s
    how_many g s = file_count second x y g s ∙ sym (counted g s)

    module _ (ends : EndsWithin (file 0 x ∷ file 1 y ∷ []) end) where
      at_end : Known true end.deal ended.second end.second
      at_end = follows_at_end.second.known (λ e g s ne. let P : ℕ → Type 0 = λ m. (end.second g).cursors s ≤ m in subst P (file_count second x y g s) (ends.takes g s ne))

      by_place : (g : ℕ) (s : Source) (i : ℕ) → s ≢ Inputs → (i < dealt (last g) s → IsIn (last g) s i) → end.deal g s i ≡ supplies (last g) s i
      by_place g s i ne there =
          elim (leb_tells (dealt (last g) s) i) [
            | inl p ↦ (let P : ℕ → Type 0 = λ m. m ≤ i in ends.ends g s i ne (subst P (sym (how_many g s)) p.1) ∙ sym (supplies_past (last g) s i ne p.1))
            | inr p ↦ at_end.holds g s i (λ e. there p.1)
          ]

      end_words : (g : ℕ) (s : Source) (i : ℕ) → end.deal g s i ≡ supplies (last g) s i
      end_words g Inputs i = at_end.holds g Inputs i (λ e. tt)
      end_words g OwnWords i = by_place g OwnWords i (λ e. cc) (λ low. low)
      end_words g (Triples p) i = by_place g (Triples p) i (λ e. cc) (λ low. low)
      end_words g (BitTriples p) i = by_place g (BitTriples p) i (λ e. cc) (λ low. low)
      end_words g (Pairs p) i = by_place g (Pairs p) i (λ e. cc) (λ low. low)

      deal_is : file_tape second (stored_deals 0 ended.second (file 0 x ∷ file 1 y ∷ [])) ≡ end.deal
      deal_is = fun_ext (λ g. fun_ext (λ s. fun_ext (λ i. tape_holds g s i ∙ sym (end_words g s i))))

    kept_at : (k : ℕ) → k < 2 → last k ≡ lists_of (side_at (dealt_sides 0 second (file 0 x ∷ file 1 y ∷ [])) k)
        → slice_get (stored_deals 0 ended.second (file 0 x ∷ file 1 y ∷ [])) k ≡ slice_get (file 0 x ∷ file 1 y ∷ []) k
    kept_at zero lt e = ap (λ (l : Lists). Some (file 0 (part_of l))) e
    kept_at (suc zero) lt e = ap (λ (l : Lists). Some (file 1 (part_of l))) e
    kept_at (suc (suc k)) lt e = refl

    kept_is : slice_get (stored_deals 0 ended.second (file 0 x ∷ file 1 y ∷ [])) h.0 ≡ slice_get (file 0 x ∷ file 1 y ∷ []) h.0
    kept_is = kept_at h.0 low follows_at_end.mine

    one_long : {X : Type 0} (xs ys : List X) → length xs ≡ length ys → map length (xs ∷ []) ≡ map length (ys ∷ [])
    one_long xs ys e = ap (λ (m : ℕ). m ∷ []) e

    shape_zero : HasSameShape (file 0 x) (stored_deal (file 0 x) (side_at ended.second 0))
    shape_zero = record {
      hosts = refl;
      me = refl;
      own = (follows_at_end.keeps 0).own;
      triples = one_long (last 0).triples x.triples (long 0 1 (length (last 0).triples) (length x.triples) (ap (λ (p : HostId). p.0) (peer_is 0)) (counted 0 (Triples 1)));
      bits = one_long (last 0).bits x.bits (long 0 1 (length (last 0).bits) (length x.bits) (ap (λ (p : HostId). p.0) (peer_is 0)) (counted 0 (BitTriples 1)));
      pairs = one_long (last 0).pairs x.pairs (long 0 1 (length (last 0).pairs) (length x.pairs) (ap (λ (p : HostId). p.0) (peer_is 0)) (counted 0 (Pairs 1)));
    }

    shape_one : HasSameShape (file 1 y) (stored_deal (file 1 y) (side_at ended.second 1))
    shape_one = record {
      hosts = refl;
      me = refl;
      own = (follows_at_end.keeps 1).own;
      triples = one_long (last 1).triples y.triples (long 1 0 (length (last 1).triples) (length y.triples) (ap (λ (p : HostId). p.0) (peer_is 1)) (counted 1 (Triples 0)));
      bits = one_long (last 1).bits y.bits (long 1 0 (length (last 1).bits) (length y.bits) (ap (λ (p : HostId). p.0) (peer_is 1)) (counted 1 (BitTriples 0)));
      pairs = one_long (last 1).pairs y.pairs (long 1 0 (length (last 1).pairs) (length y.pairs) (ap (λ (p : HostId). p.0) (peer_is 1)) (counted 1 (Pairs 0)));
    }

    shape_of : (a b d e : Deal) → HasSameShape a b → Some a ≡ Some d → Some b ≡ Some e → HasSameShape d e
    shape_of a b d e is p q =
        let one : a ≡ d = cc in
        let two : b ≡ e = cc in
        let P : Deal → Type 0 = λ z. HasSameShape z b in
        let Q : Deal → Type 0 = λ z. HasSameShape d z in
        subst Q two (subst P one is)

    each_shape : (g : ℕ) (d e : Deal) → slice_get (file 0 x ∷ file 1 y ∷ []) g ≡ Some d → slice_get (stored_deals 0 ended.second (file 0 x ∷ file 1 y ∷ [])) g ≡ Some e → HasSameShape d e
    each_shape zero d e p q = shape_of (file 0 x) (stored_deal (file 0 x) (side_at ended.second 0)) d e shape_zero p q
    each_shape (suc zero) d e p q = shape_of (file 1 y) (stored_deal (file 1 y) (side_at ended.second 1)) d e shape_one p q
    each_shape (suc (suc g)) d e p q = absurd cc

    shapes_are : HaveSameShape (file 0 x ∷ file 1 y ∷ []) (stored_deals 0 ended.second (file 0 x ∷ file 1 y ∷ []))
    shapes_are = record { two = refl; each = each_shape }

-- ---- which lists are too short

more_placed : (n c i m : ℕ) → i ≡ placed c n → n ≡ m → nat_lt n i ≡ nat_lt m c
more_placed n c i m e f = at_placed n c i e ∙ ap (λ k. nat_lt k c) f
  where
    at_placed : (n c i : ℕ) → i ≡ placed c n → nat_lt n i ≡ nat_lt n c
    at_placed n c i e = grind (arith, nat_tests)

module _ (first second : List (List ℕ)) (x y : Part) (few : length second ≤ 2) (law : WalksAreFollowed) (h : HostId) (low : h.0 < 2) (steps : List Step) where
  abbrev at_end_too : Walker
  at_end_too = all_both (data_walks steps) (walker_of h first second (file 0 x ∷ file 1 y ∷ []))

  abbrev end_too : Both
  end_too = end_of h steps first second (file 0 x ∷ file 1 y ∷ [])

  stands_too : (g : ℕ) → Stands (side_at at_end_too.first g) (end_too.first g)
  stands_too = ((follows_at_end first second x y few law h low steps).first.known (λ e. absurd cc)).stands

  lists_too : (g : ℕ) → lists_of (side_at at_end_too.first g) ≡ lists_of (side_at (dealt_sides 0 first (file 0 x ∷ file 1 y ∷ [])) g)
  lists_too g = first_lists h (file_tape first (file 0 x ∷ file 1 y ∷ [])) (λ g s. dealt (lists_of (side_at (dealt_sides 0 second (file 0 x ∷ file 1 y ∷ [])) g)) s) (dealt_sides 0 second (file 0 x ∷ file 1 y ∷ []))
      (peer_apart first second x y few h.0 low) steps (walker_of h first second (file 0 x ∷ file 1 y ∷ [])) g

  more_zero : (kind : DealKind) → side_takes_more kind (side_at at_end_too.first 0) ≡ takes_more (file 0 x ∷ file 1 y ∷ []) end_too.first kind 0
  more_zero Own = more_placed _ _ _ _ (stands_too 0).taken.own (ap (λ (l : Lists). length l.own) (lists_too 0))
  more_zero Mul = more_placed _ _ _ _ ((stands_too 0).taken.triples ∙ ap (λ (l : Lists). placed ((end_too.first 0).cursors (Triples l.peer.0)) (length (side_at at_end_too.first 0).triples)) (lists_too 0)) (ap (λ (l : Lists). length l.triples) (lists_too 0))
  more_zero And = more_placed _ _ _ _ ((stands_too 0).taken.bits ∙ ap (λ (l : Lists). placed ((end_too.first 0).cursors (BitTriples l.peer.0)) (length (side_at at_end_too.first 0).bits)) (lists_too 0)) (ap (λ (l : Lists). length l.bits) (lists_too 0))
  more_zero Pair = more_placed _ _ _ _ ((stands_too 0).taken.pairs ∙ ap (λ (l : Lists). placed ((end_too.first 0).cursors (Pairs l.peer.0)) (length (side_at at_end_too.first 0).pairs)) (lists_too 0)) (ap (λ (l : Lists). length l.pairs) (lists_too 0))

  more_one : (kind : DealKind) → side_takes_more kind (side_at at_end_too.first 1) ≡ takes_more (file 0 x ∷ file 1 y ∷ []) end_too.first kind 1
  more_one Own = more_placed _ _ _ _ (stands_too 1).taken.own (ap (λ (l : Lists). length l.own) (lists_too 1))
  more_one Mul = more_placed _ _ _ _ ((stands_too 1).taken.triples ∙ ap (λ (l : Lists). placed ((end_too.first 1).cursors (Triples l.peer.0)) (length (side_at at_end_too.first 1).triples)) (lists_too 1)) (ap (λ (l : Lists). length l.triples) (lists_too 1))
  more_one And = more_placed _ _ _ _ ((stands_too 1).taken.bits ∙ ap (λ (l : Lists). placed ((end_too.first 1).cursors (BitTriples l.peer.0)) (length (side_at at_end_too.first 1).bits)) (lists_too 1)) (ap (λ (l : Lists). length l.bits) (lists_too 1))
  more_one Pair = more_placed _ _ _ _ ((stands_too 1).taken.pairs ∙ ap (λ (l : Lists). placed ((end_too.first 1).cursors (Pairs l.peer.0)) (length (side_at at_end_too.first 1).pairs)) (lists_too 1)) (ap (λ (l : Lists). length l.pairs) (lists_too 1))

  first_same : (p q : DealKind → Bool) (kinds : List DealKind) → ((kind : DealKind) → p kind ≡ q kind) → first_of p kinds ≡ first_of q kinds
  first_same p q [] same = refl
  first_same p q (kind ∷ kinds) same = ap (λ (b : Bool). if b then Some kind else first_of p kinds) (same kind) ∙ ap (λ (o : Option DealKind). if q kind then Some kind else o) (first_same p q kinds same)

  short_is : first_taken at_end_too.first ≡ first_short (file 0 x ∷ file 1 y ∷ []) end_too.first
  short_is = first_same (either_takes_more at_end_too.first) (is_short (file 0 x ∷ file 1 y ∷ []) end_too.first) (Own ∷ Mul ∷ And ∷ Pair ∷ []) (λ kind. ap₂ (λ (a b : Bool). a || b) (more_zero kind) (more_one kind))

-- ---- of any two deals

pub record Ended (h : HostId) (steps : List Step) (first second : List (List ℕ)) (deals stored : List Deal) : Type 0 where
  pub same : HaveSameShape deals stored
  pub kept : slice_get stored h.0 ≡ slice_get deals h.0
  pub deal : EndsWithin deals (end_of h steps first second deals) → file_tape second stored ≡ (end_of h steps first second deals).deal

pub short_so : WalksAreFollowed → (h : HostId) → h.0 < 2 → (steps : List Step) (first second : List (List ℕ)) → length second ≤ 2 → (deals : List Deal) → AreOfTwo deals
    → (l : List Step) → l ≡ steps → (run : Walker) → run ≡ all_both (data_walks l) (walker_of h first second deals) → first_taken run.first ≡ first_short deals (end_of h steps first second deals).first
short_so law h low steps first second few deals two l same run is =
    let f = are_files deals two in
    let P : List Deal → Type 0 = λ ds. first_taken (all_both (data_walks steps) (walker_of h first second ds)).first ≡ first_short ds (end_of h steps first second ds).first in
    ap (λ (w : Walker). first_taken w.first) (is ∙ ap (λ (q : List Step). all_both (data_walks q) (walker_of h first second deals)) same)
    ∙ subst P (sym f.2) (short_is first second f.0 f.1 few law h low steps)

ended_so : WalksAreFollowed → (h : HostId) → h.0 < 2 → (steps : List Step) (first second : List (List ℕ)) → length second ≤ 2 → (deals : List Deal) → AreOfTwo deals
    → Ended h steps first second deals (stored_deals 0 (all_both (data_walks steps) (walker_of h first second deals)).second deals)
ended_so law h low steps first second few deals two =
    let f = are_files deals two in
    let P : List Deal → Type 0 = λ ds. Ended h steps first second ds (stored_deals 0 (all_both (data_walks steps) (walker_of h first second ds)).second ds) in
    subst P (sym f.2) (record {
      same = shapes_are first second f.0 f.1 few law h low steps;
      kept = kept_is first second f.0 f.1 few law h low steps;
      deal = λ ends. deal_is first second f.0 f.1 few law h low steps ends;
    })

pub ended_as : WalksAreFollowed → (h : HostId) → h.0 < 2 → (steps : List Step) (first second : List (List ℕ)) → length second ≤ 2 → (deals : List Deal) → AreOfTwo deals
    → (l : List Step) → l ≡ steps → (stored : List Deal) → stored ≡ stored_deals 0 (all_both (data_walks l) (walker_of h first second deals)).second deals → Ended h steps first second deals stored
ended_as law h low steps first second few deals two l same stored is =
    let P : List Deal → Type 0 = λ z. Ended h steps first second deals z in
    subst P (sym (is ∙ ap (λ (q : List Step). stored_deals 0 (all_both (data_walks q) (walker_of h first second deals)).second deals) same))
    (ended_so law h low steps first second few deals two)

pub if_ok : {A E : Type 0} {P Q : A → Type 0} (r : Result A E) → ((a : A) → P a → Q a) → IfOk r P → IfOk r Q
if_ok (Ok a) leads holds = leads a holds
if_ok (Err e) leads holds = tt
