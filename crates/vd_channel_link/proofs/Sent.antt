-- Records one behind the other.
use Rattle.std.proofs.Common.{◌≡◌, ◌≤◌, ◌∙◌, ◌+◌, ℕ, zero, suc, true, false, IsTrue, List, [], ◌∷◌, ◌++◌, length, take, nat_lt, ap, ap₂, subst, refl, sym, arith, append_assoc, add-zero, length-append}
use Rattle.std.proofs.Math.Seq.{take-append-add, take-length}
use Rattle.std.proofs.lemmas.List.{append-nil, length-take, take-append-le}
use Rattle.std.proofs.lemmas.Bool.{ltb-false}
use Rattle.std.proofs.lemmas.Grind.{flat_map-append}
use Rattle.vd_channel_crypto.specs.Keys.{direction}
use Rattle.vd_channel_crypto.specs.Records.{Direction, sealed}
use Rattle.vd_channel_crypto.specs.declared.records.Keys.{Keys}
use Rattle.vd_channel_link.specs.Opened.{flat, records}
use Rattle.vd_outside.specs.Link.{LinkView}
use Rattle.vd_channel_link.specs.Session.{BeginsNone, CutsRecord, FailsToSend, IsCarried, IsFirstAlone, IsFresh, NoneBegun, OneCut, SendsRecord, SentIsCarried, out_of}
use Rattle.vd_channel_link.specs.declared.session.Session.{Session}

-- one record more
behind_records : (keys : Direction) (number : ℕ) (pieces : List (List ℕ)) (piece : List ℕ)
    → records keys number (pieces ++ piece ∷ []) ≡ records keys number pieces ++ sealed keys (number + length pieces) piece
behind_records keys number [] piece = append-nil (sealed keys number piece) ∙ ap (λ (n : ℕ). sealed keys n piece) (sym (add-zero number))
behind_records keys number (p ∷ pieces) piece =
    let count : (number + 1) + length pieces ≡ number + suc (length pieces) = omega arith in
    ap (λ (l : List ℕ). sealed keys number p ++ l) (behind_records keys (number + 1) pieces piece)
    ∙ sym (append_assoc (sealed keys number p) (records keys (number + 1) pieces) (sealed keys ((number + 1) + length pieces) piece))
    ∙ ap (λ (n : ℕ). (sealed keys number p ++ records keys (number + 1) pieces) ++ sealed keys n piece) count

flat_more : (pieces : List (List ℕ)) (piece : List ℕ) → flat (pieces ++ piece ∷ []) ≡ flat pieces ++ piece
flat_more pieces piece = flat_map-append (λ (p : List ℕ). p) pieces (piece ∷ []) ∙ ap (λ (l : List ℕ). flat pieces ++ l) (append-nil piece)

-- ---- fronts

front_again : (count : ℕ) (xs : List ℕ) → take (length (take count xs)) xs ≡ take count xs
front_again zero xs = refl
front_again (suc count) [] = refl
front_again (suc count) (x ∷ xs) = ap (λ (l : List ℕ). x ∷ l) (front_again count xs)

front_behind : (count : ℕ) (xs ys : List ℕ) → take (length (xs ++ take count ys)) (xs ++ ys) ≡ xs ++ take count ys
front_behind count xs ys =
    ap (λ (n : ℕ). take n (xs ++ ys)) (length-append xs (take count ys))
    ∙ take-append-add xs ys (length (take count ys))
    ∙ ap (λ (l : List ℕ). xs ++ l) (front_again count ys)

whole_front : (sent all : List ℕ) → sent ≡ all → take (length sent) all ≡ sent
whole_front sent all is = ap (take (length sent)) (sym is) ∙ take-length sent

-- a prefix of some bytes is one of these with others behind them
front_of_more : (sent all more : List ℕ) → take (length sent) all ≡ sent → take (length sent) (all ++ more) ≡ sent
front_of_more sent all more is =
    let short : length sent ≤ length all = omega (arith, length-take (length sent) all, ap length is) in
    take-append-le (length sent) all more short ∙ is

-- ---- how a session goes on

at_first : (session : Session) (below : LinkView) → IsFresh session → IsCarried below.sent session below
at_first session below fresh = record {
  pieces = [];
  number = fresh.next_out;
  front = λ told. whole_front below.sent (below.sent ++ []) (sym (append-nil below.sent));
  whole = λ sends told. sym (append-nil below.sent);
  told = λ sends. fresh.sent;
}

-- one record more was begun
module _ (start : List ℕ) (session later : Session) (before now : LinkView) (piece : List ℕ) (so : IsCarried start session before)
    (number : later.next_out ≡ session.next_out + 1) (keys : later.ours ≡ session.ours) where
  counted : later.next_out ≡ 1 + length (so.pieces ++ piece ∷ [])
  counted = let count = so.number in omega (arith, number, count, length-append so.pieces (piece ∷ []))

  one_more : out_of start later (so.pieces ++ piece ∷ []) ≡ out_of start session so.pieces ++ sealed (direction session.ours) session.next_out piece
  one_more =
      ap (λ (k : Keys). start ++ records (direction k) 1 (so.pieces ++ piece ∷ [])) keys
      ∙ ap (λ (l : List ℕ). start ++ l) (behind_records (direction session.ours) 1 so.pieces piece)
      ∙ sym (append_assoc start (records (direction session.ours) 1 so.pieces) (sealed (direction session.ours) (1 + length so.pieces) piece))
      ∙ ap (λ (n : ℕ). out_of start session so.pieces ++ sealed (direction session.ours) n piece) (sym so.number)

sends : (start bytes : List ℕ) (session later : Session) (before now : LinkView) (count : ℕ) → IsCarried start session before
    → SendsRecord bytes session later before now count → IsCarried start later now
sends start bytes session later before now count so more =
    let piece = take count bytes in
    let all : IsTrue now.told → now.sent ≡ out_of start later (so.pieces ++ piece ∷ []) =
    λ told. more.out told
    ∙ ap (λ (l : List ℕ). l ++ sealed (direction session.ours) session.next_out piece) (so.whole more.sends (more.was_told told))
    ∙ sym (one_more start session later before now piece so more.number more.keys) in
    record {
      pieces = so.pieces ++ piece ∷ [];
      number = counted start session later before now piece so more.number more.keys;
      front = λ told. whole_front now.sent (out_of start later (so.pieces ++ piece ∷ [])) (all told);
      whole = λ still told. all told;
      told = λ still. more.told ∙ ap (λ (l : List ℕ). l ++ piece) (so.told more.sends) ∙ sym (flat_more so.pieces piece);
    }

stays : (start : List ℕ) (session later : Session) (before now : LinkView) → IsCarried start session before → BeginsNone session later before now → IsCarried start later now
stays start session later before now so none =
    let same : out_of start later so.pieces ≡ out_of start session so.pieces = ap (λ (k : Keys). start ++ records (direction k) 1 so.pieces) none.keys in
    let was_told : IsTrue now.told → IsTrue before.told = λ told. subst IsTrue none.still_told told in
    record {
      pieces = so.pieces;
      number = none.number ∙ so.number;
      front = λ told. ap₂ (λ (l ls : List ℕ). take (length l) ls) (none.out told) same ∙ so.front (was_told told) ∙ sym (none.out told);
      whole = λ sends told. none.out told ∙ so.whole (sym none.silent ∙ sends) (was_told told) ∙ sym same;
      told = λ sends. none.told ∙ so.told (sym none.silent ∙ sends);
    }

cut : (start bytes : List ℕ) (session later : Session) (before now : LinkView) → IsCarried start session before → CutsRecord bytes session later before now → IsCarried start later now
cut start bytes session later before now so more =
    let piece = take more.most bytes in
    let last = sealed (direction session.ours) session.next_out piece in
    record {
      pieces = so.pieces ++ piece ∷ [];
      number = counted start session later before now piece so more.number more.keys;
      front = λ told.
          let part = more.out told in
          let is : now.sent ≡ out_of start session so.pieces ++ take part.0 last =
          part.1 ∙ ap (λ (l : List ℕ). l ++ take part.0 last) (so.whole more.sends (more.was_told told)) in
          ap₂ (λ (l ls : List ℕ). take (length l) ls) is (one_more start session later before now piece so more.number more.keys)
          ∙ front_behind part.0 (out_of start session so.pieces) last ∙ sym is;
      whole = λ sends told. let both : true ≡ false = sym more.silent ∙ sends in absurd cc;
      told = λ sends. let both : true ≡ false = sym more.silent ∙ sends in absurd cc;
    }

fails : (start bytes : List ℕ) (session later : Session) (before now : LinkView) → IsCarried start session before → FailsToSend bytes session later before now → IsCarried start later now
fails start bytes session later before now so (NoneBegun none) = stays start session later before now so none
fails start bytes session later before now so (OneCut more) = cut start bytes session later before now so more

-- at most one record was begun: of none the front is that of any
first_of : (start : List ℕ) (session : Session) (below : LinkView) (pieces : List (List ℕ)) → session.next_out ≡ 1 + length pieces → nat_lt 2 session.next_out ≡ false
    → take (length below.sent) (out_of start session pieces) ≡ below.sent → IsFirstAlone start session below
first_of start session below [] number few front = record {
  piece = [];
  front = front_of_more below.sent start (sealed (direction session.ours) 1 []) (ap (take (length below.sent)) (sym (append-nil start)) ∙ front);
}
first_of start session below (piece ∷ []) number few front = record {
  piece = piece;
  front = ap (λ (l : List ℕ). take (length below.sent) (start ++ l)) (sym (append-nil (sealed (direction session.ours) 1 piece))) ∙ front;
}
first_of start session below (piece ∷ more ∷ pieces) number few front =
    let at_most : session.next_out ≤ 2 = ltb-false 2 session.next_out few in
    absurd (let P : Type 0 = ⊥ in omega (arith, number, at_most))

pub carried_on : SentIsCarried
carried_on = record {
  at_first = at_first;
  sent = sends;
  failed = fails;
  received = stays;
  first_alone = λ start session below so few told. first_of start session below so.pieces so.number few (so.front told);
}
