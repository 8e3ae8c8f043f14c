-- What is read of a deal file, from left to right.
use Rattle.std.specs.Prelude.{ℕ, zero, suc, ◌+◌, ◌-◌, List, [], ◌∷◌, Result, Ok, codes}
use Rattle.vd_base.specs.Limits.{most_deal_items}
use Rattle.vd_base_codec.specs.Reading.{Reading, ◌>>=◌, byte_at, literal_at, field_at, each_at, field}
use Rattle.vd_tape.specs.declared.deal_items.items.Triple.{Triple}
use Rattle.vd_tape.specs.declared.deal_items.items.PairItem.{PairItem}
use Rattle.vd_tape.specs.declared.deal_items.deal.Deal.{Deal}
use Rattle.vd_tape.specs.Validity.{peer_at}
use Rattle.vd_base_codec.specs.Exact.{whole}
use Rattle.vd_tape.specs.declared.reading.Share.{Share}
use Rattle.vd_tape.specs.declared.reading.Shares.{Shares}

abbrev pub word_at : List ℕ → Reading ℕ
word_at bs = field_at 4294967295 bs

unfoldable pub triple_at : List ℕ → Reading Triple
triple_at bs = do
  a ← word_at bs
  b ← word_at a.1
  c ← word_at b.1
  Ok (record { a = a.0; b = b.0; c = c.0 }, c.1)

unfoldable pub pair_at : List ℕ → Reading PairItem
pair_at bs = do
  s ← word_at bs
  x ← word_at s.1
  Ok (record { s = s.0; x = x.0 }, x.1)

unfoldable pub list_at : {X : Type 0} → (List ℕ → Reading X) → List ℕ → Reading (List X)
list_at one bs = do
  n ← field_at most_deal_items bs
  xs ← each_at one n.0 n.1
  end ← byte_at 10 xs.1
  Ok (xs.0, end.1)

-- the head of a line of a peer
unfoldable pub heading_at : List ℕ → ℕ → List ℕ → Reading (Unit {0})
heading_at kind peer bs = literal_at kind bs >>= λ x. literal_at (field peer) x.1

-- the three lines of a peer
unfoldable pub share_at : ℕ → List ℕ → Reading Share
share_at peer bs = do
  mul ← heading_at (codes "mul") peer bs
  triples ← list_at triple_at mul.1
  bitwise ← heading_at (codes "and") peer triples.1
  bits ← list_at triple_at bitwise.1
  pair ← heading_at (codes "pair") peer bits.1
  pairs ← list_at pair_at pair.1
  Ok (record { triples = triples.0; bits = bits.0; pairs = pairs.0 }, pairs.1)

abbrev pub no_shares : Shares
no_shares = record { triples = []; bits = []; pairs = [] }

abbrev pub with_share : Share → Shares → Shares
with_share s ss = record { triples = s.triples ∷ ss.triples; bits = s.bits ∷ ss.bits; pairs = s.pairs ∷ ss.pairs }

-- the lines of so many peers, from a place on
unfoldable pub shares_at : ℕ → ℕ → ℕ → List ℕ → Reading Shares
shares_at me place zero bs = Ok (no_shares, bs)
shares_at me place (suc n) bs = share_at (peer_at me place) bs >>= λ s. (shares_at me (place + 1) n s.1 >>= λ ss. Ok (with_share s.0 ss.0, ss.1))

-- the whole file
unfoldable pub deal_at : ℕ → ℕ → List ℕ → Reading Deal
deal_at hosts me bs = do
  version ← literal_at (codes "viaduct-deal 1") bs
  first ← literal_at (field hosts) version.1
  second ← literal_at (field me) first.1
  line ← literal_at (codes "\nown") second.1
  own ← list_at word_at line.1
  shares ← shares_at me 0 (hosts - 1) own.1
  Ok (
    record {
      hosts = hosts;
      me = record { 0 = me };
      own = own.0;
      triples = shares.0.triples;
      bits = shares.0.bits;
      pairs = shares.0.pairs;
    },
    shares.1,
  )

-- what the bytes say: a deal, or the offset of the first byte that cannot stand
abbrev pub deal_read : ℕ → ℕ → List ℕ → Result Deal ℕ
deal_read hosts me bytes = whole bytes (deal_at hosts me bytes)
