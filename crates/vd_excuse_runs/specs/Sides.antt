-- A host in one run: what it takes items from, how many it took, and what an action makes of it.
use Rattle.std.specs.Prelude.{ℕ, ◌+◌, nat_eq, nat_le, if◌then◌else◌, List, [], ◌∷◌, map, length, slice_index, slice_index_or, slice_set}
use Rattle.vd_base.specs.declared.ids.HostId.{HostId}
use Rattle.vd_tape.specs.declared.deal_items.deal.Deal.{Deal}
use Rattle.vd_tape.specs.declared.deal_items.items.Triple.{Triple}
use Rattle.vd_tape.specs.declared.deal_items.items.PairItem.{PairItem}
use Rattle.vd_tape.specs.Identities.{triple_at, pair_at, zero_triple, zero_pair}
use Rattle.vd_execution.specs.declared.instructions.Reg.{Reg}
use Rattle.vd_execution.specs.declared.instructions.Action.{Action}
use Rattle.vd_execution.specs.declared.instructions.Action.TheVariants as action
use Rattle.vd_semantics.specs.Stores.{put}
use Rattle.vd_excuse_runs.specs.declared.side.Change.{Change}
use Rattle.vd_excuse_runs.specs.declared.side.Change.TheVariants as change
use Rattle.vd_excuse_runs.specs.declared.side.Side.{Side}
use Rattle.vd_excuse_runs.specs.declared.side.Taken.{Taken}
use Rattle.vd_excuse_runs.specs.Registers.{put_each, stored}

abbrev pub nothing_taken : Taken
nothing_taken = record { inputs = 0; own = 0; triples = 0; bits = 0; pairs = 0 }

abbrev pub empty_side : Side
empty_side = record { peer = record { 0 = 0 }; registers = []; inputs = []; own = []; triples = []; bits = []; pairs = []; taken = nothing_taken }

-- the other one of two hosts
abbrev pub peer_of : HostId → HostId
peer_of h = if nat_eq h.0 0 then record { 0 = 1 } else record { 0 = 0 }

-- one of two hosts at the start
abbrev pub dealt_side : List ℕ → Deal → Side
dealt_side inputs d = record {
  peer = peer_of d.me;
  registers = [];
  inputs = inputs;
  own = d.own;
  triples = slice_index_or d.triples 0 [];
  bits = slice_index_or d.bits 0 [];
  pairs = slice_index_or d.pairs 0 [];
  taken = nothing_taken;
}

-- one item further, up to one past the end
abbrev pub further : ℕ → ℕ → ℕ
further len at = if nat_le at len then at + 1 else at

-- the item at a place of those that are shared with a peer; zeros past the end, and with a host that shares none
abbrev pub shared_triple : Side → HostId → ℕ → Triple
shared_triple s p at = if nat_eq p.0 s.peer.0 then triple_at s.triples at else zero_triple

abbrev pub shared_bits : Side → HostId → ℕ → Triple
shared_bits s p at = if nat_eq p.0 s.peer.0 then triple_at s.bits at else zero_triple

abbrev pub shared_pair : Side → HostId → ℕ → PairItem
shared_pair s p at = if nat_eq p.0 s.peer.0 then pair_at s.pairs at else zero_pair

-- the next one
abbrev pub next_triple : Side → HostId → Triple
next_triple s p = shared_triple s p s.taken.triples

abbrev pub next_bits : Side → HostId → Triple
next_bits s p = shared_bits s p s.taken.bits

abbrev pub next_pair : Side → HostId → PairItem
next_pair s p = shared_pair s p s.taken.pairs

-- the next one becomes another; past the end nothing changes
abbrev pub with_triple : HostId → Triple → Side → Side
with_triple p item s = record s { triples = if nat_eq p.0 s.peer.0 then slice_set s.triples s.taken.triples item else s.triples }

abbrev pub with_bits : HostId → Triple → Side → Side
with_bits p item s = record s { bits = if nat_eq p.0 s.peer.0 then slice_set s.bits s.taken.bits item else s.bits }

abbrev pub with_pair : HostId → PairItem → Side → Side
with_pair p item s = record s { pairs = if nat_eq p.0 s.peer.0 then slice_set s.pairs s.taken.pairs item else s.pairs }

abbrev pub changed : HostId → Change → Side → Side
changed p (change.Triple item) s = with_triple p item s
changed p (change.Bits item) s = with_bits p item s
changed p (change.Pair item) s = with_pair p item s

-- what was taken once it is
abbrev pub triples_taken : Side → HostId → Taken
triples_taken s p = if nat_eq p.0 s.peer.0 then record s.taken { triples = further (length s.triples) s.taken.triples } else s.taken

abbrev pub bits_taken : Side → HostId → Taken
bits_taken s p = if nat_eq p.0 s.peer.0 then record s.taken { bits = further (length s.bits) s.taken.bits } else s.taken

abbrev pub pairs_taken : Side → HostId → Taken
pairs_taken s p = if nat_eq p.0 s.peer.0 then record s.taken { pairs = further (length s.pairs) s.taken.pairs } else s.taken

abbrev pub triple_words : Triple → List ℕ
triple_words t = t.a ∷ t.b ∷ t.c ∷ []

abbrev pub pair_words : PairItem → List ℕ
pair_words p = p.s ∷ p.x ∷ []

-- the words of the item that an action takes
abbrev pub words_taken : Side → Action → List ℕ
words_taken s (action.Const r k) = []
words_taken s (action.Copy r x) = []
words_taken s (action.Apply o r x y) = []
words_taken s (action.Shl r x k) = []
words_taken s (action.Shr r x k) = []
words_taken s (action.Mux r c x y) = []
words_taken s (action.Own r) = slice_index s.own s.taken.own ∷ []
words_taken s (action.Triple p a b c) = triple_words (next_triple s p)
words_taken s (action.Bits p a b c) = triple_words (next_bits s p)
words_taken s (action.Pair p q x) = pair_words (next_pair s p)
words_taken s (action.Input r) = slice_index s.inputs s.taken.inputs ∷ []
words_taken s (action.Print r) = []
words_taken s (action.Hash d n v) = []
words_taken s (action.Same x y) = []
words_taken s (action.Zero r count) = []
words_taken s (action.Get r x count i) = []
words_taken s (action.Put x count i v) = []

abbrev pub taken_after : Side → Action → Taken
taken_after s (action.Const r k) = s.taken
taken_after s (action.Copy r x) = s.taken
taken_after s (action.Apply o r x y) = s.taken
taken_after s (action.Shl r x k) = s.taken
taken_after s (action.Shr r x k) = s.taken
taken_after s (action.Mux r c x y) = s.taken
taken_after s (action.Own r) = record s.taken { own = further (length s.own) s.taken.own }
taken_after s (action.Triple p a b c) = triples_taken s p
taken_after s (action.Bits p a b c) = bits_taken s p
taken_after s (action.Pair p q x) = pairs_taken s p
taken_after s (action.Input r) = record s.taken { inputs = further (length s.inputs) s.taken.inputs }
taken_after s (action.Print r) = s.taken
taken_after s (action.Hash d n v) = s.taken
taken_after s (action.Same x y) = s.taken
taken_after s (action.Zero r count) = s.taken
taken_after s (action.Get r x count i) = s.taken
taken_after s (action.Put x count i v) = s.taken

-- a host acts by itself
abbrev pub performed : Action → Side → Side
performed a s = record s { registers = stored s.registers a (words_taken s a); taken = taken_after s a }

abbrev pub said_words : List ℕ → List Reg → List ℕ
said_words registers rs = map (λ r. slice_index registers r.0) rs

abbrev pub has_heard : List Reg → List ℕ → Side → Side
has_heard into words s = record s { registers = put_each s.registers into words }

-- a counter gets the number of the turn
abbrev pub counted : ℕ → ℕ → Side → Side
counted counter turn side = record side { registers = put 0 side.registers counter turn }
