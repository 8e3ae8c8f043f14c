-- What keys are for.
use Rattle.std.proofs.Common.{◌≡◌, ◌<◌, ◌≤◌, ◌-◌, ◌^◌, ◌∙◌, inl, inr, ℕ, nat_lt, Bool, true, false, List, [], ◌∷◌, ◌++◌, Some, codes, length, length-append, refl, ap, ap₂, sym, min, max, arith, slice_index}
use Rattle.std.specs.Prelude.{slice_get}
use Rattle.std.proofs.lemmas.List.{append_cancel_left}
use Rattle.std.proofs.lemmas.List.FromFn.{get_or-map-range_with_len, length-map-range_with_len}
use Rattle.std.proofs.lemmas.Bool.Decides.{nat_tests}
use Rattle.std.proofs.lemmas.Option.{slice_get-get_or}
use Rattle.std.proofs.lemmas.Nat.{from_be_bytes-to_be_bytes_4}
use Rattle.std.specs.Int.{w32, to_be_bytes, from_be_bytes}
use Rattle.vd_tape.specs.declared.deal_items.deal.Counts.{Counts}
use Rattle.vd_channel_crypto.proofs.Distinct.{append_bytes, behind_two, front_same, word_bytes_small}
use Rattle.vd_channel_crypto.specs.Laws.{AreBytes}
use Rattle.vd_channel_crypto.specs.declared.deal_keys.secrets.LinkKey.{LinkKey}
use Rattle.vd_tape.specs.Validity.{peer_at}
use Rattle.vd_channel_crypto.specs.DealKeysKeys.{counts_bytes, id_info, items_info, link_info, link_key, link_between}
use Rattle.vd_channel_crypto.specs.Secrets.{secrets_of}
use Rattle.vd_channel_crypto.specs.DealKeysLaws.{AreWords, SameCounts, SameEnds, PurposesAreApart, LinksHaveOneKey}

number_same : (m n : ℕ) → m < 2 ^ 32 → n < 2 ^ 32 → to_be_bytes w32 m ≡ to_be_bytes w32 n → m ≡ n
number_same m n fits other_fits is =
    sym (from_be_bytes-to_be_bytes_4 m fits) ∙ ap (from_be_bytes w32) is ∙ from_be_bytes-to_be_bytes_4 n other_fits

head_tail : (a b : ℕ) (xs ys : List ℕ) → a ∷ xs ≡ b ∷ ys → (a ≡ b) × (xs ≡ ys)
head_tail a b xs ys e = (cc, cc)

-- the four counts of words behind the number of hosts
abbrev words_of : Counts → List ℕ
words_of counts = to_be_bytes w32 counts.own ++ (to_be_bytes w32 counts.muls ++ (to_be_bytes w32 counts.ands ++ to_be_bytes w32 counts.pairs))

counts_same : (c d : Counts) → AreWords c → AreWords d → counts_bytes c ≡ counts_bytes d → SameCounts c d
counts_same c d at bt e =
    let h = head_tail c.hosts d.hosts (words_of c) (words_of d) e in
    let o = front_same (to_be_bytes w32 c.own) (to_be_bytes w32 d.own) _ _ refl h.1 in
    let m = front_same (to_be_bytes w32 c.muls) (to_be_bytes w32 d.muls) _ _ refl o.1 in
    let a = front_same (to_be_bytes w32 c.ands) (to_be_bytes w32 d.ands) (to_be_bytes w32 c.pairs) (to_be_bytes w32 d.pairs) refl m.1 in
    record {
      hosts = h.0;
      own = number_same c.own d.own at.own bt.own o.0;
      muls = number_same c.muls d.muls at.muls bt.muls m.0;
      ands = number_same c.ands d.ands at.ands bt.ands a.0;
      pairs = number_same c.pairs d.pairs at.pairs bt.pairs a.1;
    }

-- ---- what is hashed

-- behind what a key is for stands the number of the block that is made
abbrev asked : List ℕ → List ℕ
asked info = info ++ 1 ∷ []

without_last : (xs ys : List ℕ) → asked xs ≡ asked ys → xs ≡ ys
without_last xs ys e =
    let long = ap length e in
    (front_same xs ys (1 ∷ []) (1 ∷ []) (omega (arith, length-append xs (1 ∷ []), length-append ys (1 ∷ []), long)) e).0

abbrev asked_link : Counts → (me peer : ℕ) → List ℕ
asked_link counts me peer = asked (link_info counts (min me peer) (max me peer))

id_or_items : (c d : Counts) → asked (id_info c) ≡ asked (items_info d) → ⊥
id_or_items c d e = let second : 100 ≡ 116 = ap (λ (xs : List ℕ). slice_index xs 1) e in omega (arith, second)

id_or_link : (c d : Counts) (a b : ℕ) → asked (id_info c) ≡ asked_link d a b → ⊥
id_or_link c d a b e = let first : 105 ≡ 108 = ap (λ (xs : List ℕ). slice_index xs 0) e in omega (arith, first)

items_or_link : (c d : Counts) (a b : ℕ) → asked (items_info c) ≡ asked_link d a b → ⊥
items_or_link c d a b e = let first : 105 ≡ 108 = ap (λ (xs : List ℕ). slice_index xs 0) e in omega (arith, first)

-- ---- the two hosts of a link

lower : (a b : ℕ) → nat_lt a b ≡ true → a < b
lower a b h = grind (arith, nat_tests)

not_lower : (a b : ℕ) → nat_lt a b ≡ false → b ≤ a
not_lower a b h = grind (arith, nat_tests)

same_ends : (a b x y : ℕ) → min a b ≡ min x y → max a b ≡ max x y → SameEnds a b x y
same_ends a b x y low high = at (nat_lt a b) (nat_lt x y) refl refl
  where
    at : (p q : Bool) → nat_lt a b ≡ p → nat_lt x y ≡ q → SameEnds a b x y
    at true true e f = let l = lower a b e in let m = lower x y f in inl (omega (arith, l, m, low, high), omega (arith, l, m, low, high))
    at true false e f = let l = lower a b e in let m = not_lower x y f in inr (omega (arith, l, m, low, high), omega (arith, l, m, low, high))
    at false true e f = let l = not_lower a b e in let m = lower x y f in inr (omega (arith, l, m, low, high), omega (arith, l, m, low, high))
    at false false e f = let l = not_lower a b e in let m = not_lower x y f in inl (omega (arith, l, m, low, high), omega (arith, l, m, low, high))

links_same : (c d : Counts) (a b x y : ℕ) → AreWords c → AreWords d → asked_link c a b ≡ asked_link d x y → SameCounts c d × SameEnds a b x y
links_same c d a b x y at bt e =
    let info = without_last (link_info c (min a b) (max a b)) (link_info d (min x y) (max x y)) e in
    let parts = front_same (counts_bytes c) (counts_bytes d) (min a b ∷ max a b ∷ []) (min x y ∷ max x y ∷ []) refl
    (append_cancel_left (codes "link") (counts_bytes c ++ min a b ∷ max a b ∷ []) (counts_bytes d ++ min x y ∷ max x y ∷ []) info) in
    let ends = behind_two (min a b) (max a b) (min x y) (max x y) [] [] parts.1 in
    (counts_same c d at bt parts.0, same_ends a b x y ends.0 ends.1)

-- ---- what a host is given

link_at : (counts : Counts) (key : List ℕ) (me place : ℕ) → place < counts.hosts - 1
    → slice_get (secrets_of counts key me).links place ≡ Some (link_between counts key me (peer_at me place))
link_at counts key me place low =
    let f : ℕ → LinkKey = λ k. link_between counts key me (peer_at me k) in
    let long : length (secrets_of counts key me).links ≡ counts.hosts - 1 = length-map-range_with_len f 0 (counts.hosts - 1) in
    slice_get-get_or (secrets_of counts key me).links place (f place) (omega (arith, long, low))
    ∙ ap (λ (l : LinkKey). Some l) (get_or-map-range_with_len f 0 (counts.hosts - 1) place place (f place) low (omega arith))

counts_small : (c : Counts) → c.hosts < 2 ^ 8 → AreBytes (counts_bytes c)
counts_small c h = (
  h,
  append_bytes (to_be_bytes w32 c.own) (to_be_bytes w32 c.muls ++ (to_be_bytes w32 c.ands ++ to_be_bytes w32 c.pairs)) (word_bytes_small c.own)
      (append_bytes (to_be_bytes w32 c.muls) (to_be_bytes w32 c.ands ++ to_be_bytes w32 c.pairs) (word_bytes_small c.muls)
      (append_bytes (to_be_bytes w32 c.ands) (to_be_bytes w32 c.pairs) (word_bytes_small c.ands) (word_bytes_small c.pairs))),
)

asked_small : (label info : List ℕ) → AreBytes label → AreBytes info → AreBytes (asked (label ++ info))
asked_small label info l i = append_bytes (label ++ info) (1 ∷ []) (append_bytes label info l i) (omega arith, tt)

small : (c : Counts) (a b : ℕ) → c.hosts < 2 ^ 8 → a < 2 ^ 8 → b < 2 ^ 8
    → AreBytes (asked (id_info c)) × AreBytes (asked (items_info c)) × AreBytes (asked_link c a b)
small c a b h at bt =
    let of_id : AreBytes (codes "id") = (omega arith, (omega arith, tt)) in
    let of_items : AreBytes (codes "items") = (omega arith, (omega arith, (omega arith, (omega arith, (omega arith, tt))))) in
    let of_link : AreBytes (codes "link") = (omega arith, (omega arith, (omega arith, (omega arith, tt)))) in
    let ends : AreBytes (min a b ∷ max a b ∷ []) = (omega (arith, at, bt), (omega (arith, at, bt), tt)) in (
      asked_small (codes "id") (counts_bytes c) of_id (counts_small c h),
      asked_small (codes "items") (counts_bytes c) of_items (counts_small c h),
      asked_small (codes "link") (counts_bytes c ++ min a b ∷ max a b ∷ []) of_link
          (append_bytes (counts_bytes c) (min a b ∷ max a b ∷ []) (counts_small c h) ends),
    )

pub apart : PurposesAreApart
apart = record {
  id = λ c. asked (id_info c);
  items = λ c. asked (items_info c);
  link = asked_link;
  id_is = λ c key me. refl;
  items_are = λ c key. refl;
  link_is = link_at;
  id_is_no_items = id_or_items;
  id_is_no_link = id_or_link;
  items_are_no_link = items_or_link;
  ids = λ c d at bt e. counts_same c d at bt (append_cancel_left (codes "id") (counts_bytes c) (counts_bytes d) (without_last (id_info c) (id_info d) e));
  each_items = λ c d at bt e.
      counts_same c d at bt (append_cancel_left (codes "items") (counts_bytes c) (counts_bytes d) (without_last (items_info c) (items_info d) e));
  links = links_same;
  bytes = small;
}

one_link : (counts : Counts) (key : List ℕ) (one other : ℕ) → link_between counts key one other ≡ link_between counts key other one
one_link counts key one other =
    ap₂ (λ (low high : ℕ). let link : LinkKey = record { 0 = link_key counts key low high } in link) (omega arith) (omega arith)

pub one_key : LinksHaveOneKey
one_key counts key one other place back low less there here =
    link_at counts key one place low
    ∙ ap (λ (peer : ℕ). Some (link_between counts key one peer)) there
    ∙ ap (λ (l : LinkKey). Some l) (one_link counts key one other)
    ∙ sym (ap (λ (peer : ℕ). Some (link_between counts key other peer)) here)
    ∙ sym (link_at counts key other back less)
