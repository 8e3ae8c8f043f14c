-- The file of a deal.
use Rattle.std.specs.Prelude.{◌≡◌, ℕ, ◌+◌, List, [], ◌∷◌, ◌++◌, Some, codes, length, slice_get, flat_map}
use Rattle.vd_base_codec.specs.Reading.{field}
use Rattle.vd_tape.specs.declared.deal_items.items.Triple.{Triple}
use Rattle.vd_tape.specs.declared.deal_items.items.PairItem.{PairItem}
use Rattle.vd_tape.specs.declared.deal_items.deal.Deal.{Deal}
use Rattle.vd_tape.specs.Validity.{peer_at, IsDeal, HasWords}

-- the words of an item
abbrev pub triple_text : Triple → List ℕ
triple_text t = field t.a ++ (field t.b ++ field t.c)

abbrev pub pair_text : PairItem → List ℕ
pair_text p = field p.s ++ field p.x

-- how many items there are, the items, and the end of the line
abbrev pub list_text : {X : Type 0} → (X → List ℕ) → List X → List ℕ
list_text text items = field (length items) ++ (flat_map text items ++ 10 ∷ [])

-- the three lines of a peer
abbrev pub share_text : ℕ → List Triple → List Triple → List PairItem → List ℕ
share_text peer triples bits pairs =
    codes "mul" ++ (field peer ++ (list_text triple_text triples
    ++ (codes "and" ++ (field peer ++ (list_text triple_text bits
    ++ (codes "pair" ++ (field peer ++ list_text pair_text pairs)))))))

-- the lines of the peers from a place on
unfoldable pub shares_text : ℕ → ℕ → List (List Triple) → List (List Triple) → List (List PairItem) → List ℕ
shares_text me place (ts ∷ triples) (bs ∷ bits) (ps ∷ pairs) = share_text (peer_at me place) ts bs ps ++ shares_text me (place + 1) triples bits pairs
shares_text me place [] bits pairs = []
shares_text me place (ts ∷ triples) [] pairs = []
shares_text me place (ts ∷ triples) (bs ∷ bits) [] = []

-- the whole file
abbrev pub deal_text : Deal → List ℕ
deal_text deal =
    codes "viaduct-deal 1" ++ (field deal.hosts ++ (field deal.me.0 ++ (10 ∷ (codes "own" ++ (list_text field deal.own
    ++ shares_text deal.me.0 0 deal.triples deal.bits deal.pairs)))))

-- the deals of one host among so many
pub record IsDealOf (hosts me : ℕ) (deal : Deal) : Type 0 where
  pub is : IsDeal deal
  pub words : HasWords deal
  pub hosts_are : deal.hosts ≡ hosts
  pub me_is : deal.me.0 ≡ me

-- The bytes are the text of this deal.
abbrev pub IsFileOf : (hosts me : ℕ) → List ℕ → Deal → Type 0
IsFileOf hosts me bytes deal = IsDealOf hosts me deal × (deal_text deal ≡ bytes)

-- The bytes are the text of a deal.
abbrev pub IsDealText : (hosts me : ℕ) → List ℕ → Type 0
IsDealText hosts me bytes = (deal : Deal) × IsFileOf hosts me bytes deal

-- The deals of the first hosts among so many, in order.
abbrev pub AreDealsOf : (hosts : ℕ) → List Deal → Type 0
AreDealsOf hosts deals = (host : ℕ) (deal : Deal) → slice_get deals host ≡ Some deal → IsDealOf hosts host deal
