-- The registers of a host and its lists, as a machine keeps them.
use Rattle.std.specs.Prelude.{◌≡◌, ℕ, ◌+◌, ◌<◌, List, [], ◌∷◌, Option, Some, None, length, slice_get, slice_index, nat_eq, if◌then◌else◌}
use Rattle.vd_tape.specs.Validity.{shared_with}
use Rattle.vd_execution.specs.Step.{Source, Inputs, OwnWords, Triples, BitTriples, Pairs, Cursors, Need, Nothing, Item, Packet, Unequal, Ended}
use Rattle.vd_tape.specs.declared.deal_items.items.Triple.{Triple}
use Rattle.vd_tape.specs.declared.deal_items.items.PairItem.{PairItem}
use Rattle.vd_machine.specs.declared.lists.Lists.{Lists}
use Rattle.vd_machine.specs.declared.lists.Taken.{Taken}

-- the list that a host shares with a peer; it shares none with itself
abbrev pub list_of : {X : Type 0} → List (List X) → ℕ → ℕ → List X
list_of lists me peer = if nat_eq peer me then [] else shared_with lists me peer

-- a register past the end of the list holds 0
abbrev pub held : List ℕ → ℕ → ℕ
held xs = λ j. slice_index xs j

-- the words of an item's part
abbrev pub word_item : ℕ → List ℕ
word_item x = x ∷ []

abbrev pub triple_item : Triple → List ℕ
triple_item t = t.a ∷ t.b ∷ t.c ∷ []

abbrev pub pair_item : PairItem → List ℕ
pair_item p = p.s ∷ p.x ∷ []

abbrev pub item_or_none : {X : Type 0} → (X → List ℕ) → Option X → Option (List ℕ)
item_or_none f None = None
item_or_none f (Some x) = Some (f x)

-- the item at a place of each list
abbrev pub items_of : Lists → Source → ℕ → Option (List ℕ)
items_of l Inputs i = item_or_none word_item (slice_get l.inputs i)
items_of l OwnWords i = item_or_none word_item (slice_get l.deal.own i)
items_of l (Triples p) i = item_or_none triple_item (slice_get (list_of l.deal.triples l.deal.me.0 p) i)
items_of l (BitTriples p) i = item_or_none triple_item (slice_get (list_of l.deal.bits l.deal.me.0 p) i)
items_of l (Pairs p) i = item_or_none pair_item (slice_get (list_of l.deal.pairs l.deal.me.0 p) i)

abbrev pub cursors_of : Taken → Cursors
cursors_of t Inputs = t.inputs
cursors_of t OwnWords = t.own
cursors_of t (Triples p) = slice_index t.triples p
cursors_of t (BitTriples p) = slice_index t.bits p
cursors_of t (Pairs p) = slice_index t.pairs p

-- the items that are left
abbrev pub IsLeft : Lists → Source → ℕ → Type 0
IsLeft l Inputs i = i < length l.inputs
IsLeft l OwnWords i = i < length l.deal.own
IsLeft l (Triples p) i = i < length (list_of l.deal.triples l.deal.me.0 p)
IsLeft l (BitTriples p) i = i < length (list_of l.deal.bits l.deal.me.0 p)
IsLeft l (Pairs p) i = i < length (list_of l.deal.pairs l.deal.me.0 p)

-- the need of an instruction is met, where these words were heard
abbrev pub IsMet : Lists → Cursors → List ℕ → Need → Type 0
IsMet l c heard Nothing = heard ≡ []
IsMet l c heard (Item s) = IsLeft l s (c s) × (heard ≡ [])
IsMet l c heard (Packet p n) = length heard ≡ n
IsMet l c heard (Unequal x y) = ⊥
IsMet l c heard Ended = ⊥

abbrev pub or_empty : Option (List ℕ) → List ℕ
or_empty None = []
or_empty (Some xs) = xs

-- the words that the instruction gets
abbrev pub words_for : Lists → Cursors → List ℕ → Need → List ℕ
words_for l c heard Nothing = []
words_for l c heard (Item s) = or_empty (items_of l s (c s))
words_for l c heard (Packet p n) = heard
words_for l c heard (Unequal x y) = []
words_for l c heard Ended = []

-- each list of a peer has its cursor, at the number of the peer
pub record SamePeers (l : Lists) (t : Taken) : Type 0 where
  pub triples : length t.triples ≡ length l.deal.triples + 1
  pub bits : length t.bits ≡ length l.deal.bits + 1
  pub pairs : length t.pairs ≡ length l.deal.pairs + 1
