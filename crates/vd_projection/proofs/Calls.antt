-- The calls of all protocols take few registers.
use Rattle.std.proofs.Common.{◌≡◌, ℕ, suc, ◌+◌, ◌*◌, ◌<◌, ◌≤◌, nat_eq, Bool, true, false, if◌then◌else◌, List, [], ◌∷◌, length, map, refl, ap, arith}
use Rattle.std.proofs.Math.Nat.{mul-le-mul_left}
use Rattle.vd_base.specs.declared.ids.HostId.{HostId}
use Rattle.vd_base.specs.declared.operations.Op.{Op}
use Rattle.vd_base.specs.declared.protocols.Proto.{Proto}
use Rattle.vd_base.specs.declared.protocols.Proto.TheVariants.{Local, Rep, Commit, Add, Xor}
use Rattle.vd_base.specs.Holders.{HasHosts, holders}
use Rattle.vd_base.proofs.Front.{few_holders}
use Rattle.vd_execution.specs.declared.instructions.Reg.{Reg}
use Rattle.vd_execution.specs.declared.instructions.Action.TheVariants as action
use Rattle.vd_execution.specs.Joint.{Part}
use Rattle.vd_execution.specs.Gadgets.{Gadget, Alone}
use Rattle.vd_execution.specs.Text.{register}
use Rattle.vd_duet.specs.Builder.{next_at, taken}
use Rattle.vd_duet.specs.Calls.{Places, Made, Calls, register_of}
use Rattle.vd_duet.specs.Laws.{Each}
use Rattle.vd_clear.specs.Copies.{written_by}
use Rattle.vd_backend_sharing.specs.declared.shares.PartRegisters.{PartRegisters}
use Rattle.vd_backend_sharing.specs.PairCalls.{shares_of, at_hosts}
use Rattle.vd_split.specs.Suite.{Made as AnyMade}
use Rattle.vd_backend_laws.specs.Moves.{only, Route, Share, Adopt, Show, ShowAll, Spread, Same, SameBound, ToXor, ToAdd, copies_at, moved}
use Rattle.vd_backend_laws.specs.Parts.{Parts, made_of, back_end, route, turn_part, turned, put_in, printed, zeros_at, new_cells, index_of, cell_read, cell_written}
use Rattle.vd_projection.specs.Fits.{IsLow, GadgetFits, PlacesFit, PartsFit, WordMade, Room, CallsFit}
use Rattle.vd_projection.proofs.Bounds.{low_more, taken_low, places_more, RegFits, host_word}
use Rattle.vd_projection.proofs.Clear.{register_fits, written_fits, each_fits}
use Rattle.vd_projection.proofs.ClearCalls.{few_parts, each_length, word_fits, clear_fits, spread_fits}
use Rattle.vd_projection.proofs.Pairs.{shares_fit, SharesMade, shared_word}
use Rattle.vd_projection.proofs.PairsOfCalls.{sums_fit, circuits_fit}
use Rattle.vd_projection.proofs.Conversions.{to_bits_fit, to_sums_fit}
use Rattle.vd_projection.proofs.Commitments.{same_bound_fits, commit_fits}

module _ (hosts N : ℕ) where
  -- what a slot has is below so many registers
  pub record SlotFits (n : ℕ) (x : Parts) : Type 0 where
    pub size : x.size ≤ n
    pub parts : PartsFit hosts x.size n x.at

  pub record CallFits (n : ℕ) (made : AnyMade Gadget Parts) : Type 0 where
    pub low : IsLow n made.next
    pub given : SlotFits n made.given
    pub acts : Each (GadgetFits hosts N) made.acts

  pub slot_more : (m n : ℕ) (x : Parts) → m ≤ n → SlotFits m x → SlotFits n x
  slot_more m n x le f = let s = f.size in record { size = omega (arith, s, le); parts = record { few = f.parts.few; at = places_more hosts x.size m n x.at le f.parts.at } }

  sized : (size m : ℕ) (x : Places) → PlacesFit hosts size m x → PlacesFit hosts 0 m x
  sized size m [] f = tt
  sized size m (q ∷ x) f = ((f.0.0, let p = f.0.1 in omega (arith, p)), sized size m x f.1)

  pub places_of : (m : ℕ) (x : Parts) → SlotFits m x → PlacesFit hosts 0 m x.at
  places_of m x f = sized x.size m x.at f.parts.at

  parts_of : (m : ℕ) (x : Parts) → SlotFits m x → PartsFit hosts 0 m x.at
  parts_of m x f = record { few = f.parts.few; at = places_of m x f }

  all_parts : (m : ℕ) (xs : List Parts) → Each (SlotFits m) xs → Each (PartsFit hosts 0 m) (map (λ (x : Parts). x.at) xs)
  all_parts m [] f = tt
  all_parts m (x ∷ xs) f = (parts_of m x f.0, all_parts m xs f.1)

  -- protocols are over the hosts that are there
  abbrev pub IsKnown : Proto → Type 0
  IsKnown p = HasHosts hosts p

  -- ---- a call that makes a word

  abbrev pub Fits : (List ℕ → AnyMade Gadget Parts) → Type 0
  Fits call = (m n : ℕ) (next : List ℕ) → m + 384 ≤ n → n ≤ N → IsLow m next → CallFits n (call next)

  room_of : (m n : ℕ) (next : List ℕ) → m + 384 ≤ n → n ≤ N → IsLow m next → Room N m n next
  room_of m n next more most low = record { low = low; more = more; within = most }

  word_made : (m n : ℕ) (made : Made Places) → m + 384 ≤ n → WordMade hosts N n made → CallFits n (made_of made)
  word_made m n made more f = record { low = f.low; given = record { size = omega (arith, more); parts = f.given }; acts = f.gadgets }

  back_end_fits : (p : Proto) → IsKnown p → CallsFit hosts N (back_end p)
  back_end_fits (Local h) known = clear_fits hosts N (Local h) known
  back_end_fits (Rep set) known = clear_fits hosts N (Rep set) known
  back_end_fits (Commit a b) known = commit_fits hosts N a b known.0 known.1.0
  back_end_fits (Add a b) known = sums_fit hosts N a b known.0 known.1.0
  back_end_fits (Xor a b) known = circuits_fit hosts N a b known.0 known.1.0

  pub literal_fits : (p : Proto) → IsKnown p → (v : ℕ) → Fits (λ next. made_of ((back_end p).literal v next))
  literal_fits p known v m n next more most low = word_made m n ((back_end p).literal v next) more ((back_end_fits p known).literal v m n next (room_of m n next more most low))

  -- ---- moves

  -- the hosts that a route names, and those that it leads to
  abbrev RouteIsHere : Route → Calls → Type 0
  RouteIsHere (Share h) q = h.0 < hosts
  RouteIsHere Adopt q = Unit {0}
  RouteIsHere (Show k) q = k.0 < hosts
  RouteIsHere ShowAll q = (length (holders q.proto) ≤ 8) × HasHosts hosts q.proto
  RouteIsHere (Spread set) q = HasHosts hosts (Rep set)
  RouteIsHere (Same a b) q = (a.0 < hosts) × (b.0 < hosts)
  RouteIsHere (SameBound a b) q = (a.0 < hosts) × (b.0 < hosts)
  RouteIsHere (ToXor a b) q = (a.0 < hosts) × (b.0 < hosts)
  RouteIsHere (ToAdd a b) q = (a.0 < hosts) × (b.0 < hosts)

  route_is_here : (p q : Proto) → IsKnown p → IsKnown q → RouteIsHere (route p q) (back_end q)
  route_is_here (Local h) q known onto = known.0
  route_is_here (Rep set) (Local k) known onto = onto.0
  route_is_here (Rep set) (Rep other) known onto = onto
  route_is_here (Rep set) (Commit c d) known onto = tt
  route_is_here (Rep set) (Add c d) known onto = tt
  route_is_here (Rep set) (Xor c d) known onto = tt
  route_is_here (Commit a b) (Local k) known onto = onto.0
  route_is_here (Commit a b) (Rep other) known onto = (few_holders (Rep other), onto)
  route_is_here (Commit a b) (Commit c d) known onto = (onto.0, onto.1.0)
  route_is_here (Commit a b) (Add c d) known onto = tt
  route_is_here (Commit a b) (Xor c d) known onto = tt
  route_is_here (Add a b) (Local k) known onto = onto.0
  route_is_here (Add a b) (Rep set) known onto = (few_holders (Rep set), onto)
  route_is_here (Add a b) (Commit c d) known onto = tt
  route_is_here (Add a b) (Add c d) known onto = (onto.0, onto.1.0)
  route_is_here (Add a b) (Xor c d) known onto = (onto.0, onto.1.0)
  route_is_here (Xor a b) (Local k) known onto = onto.0
  route_is_here (Xor a b) (Rep set) known onto = (few_holders (Rep set), onto)
  route_is_here (Xor a b) (Commit c d) known onto = tt
  route_is_here (Xor a b) (Add c d) known onto = (onto.0, onto.1.0)
  route_is_here (Xor a b) (Xor c d) known onto = (onto.0, onto.1.0)

  copies_length : (hs : List HostId) (x : Places) → length (copies_at hs x) ≡ length hs
  copies_length [] x = refl
  copies_length (h ∷ hs) x = ap suc (copies_length hs x)

  copies_fit : (hs : List HostId) → Each (λ (h : HostId). h.0 < hosts) hs → (x : Places) (n : ℕ) → 1 ≤ n → PlacesFit hosts 1 n x → PlacesFit hosts 1 n (copies_at hs x)
  copies_fit [] here x n le f = tt
  copies_fit (h ∷ hs) here x n le f = ((here.0, register_fits hosts N 1 n x h.0 le f), copies_fit hs here.1 x n le f)

  first_fits : (m : ℕ) (x : Places) → PlacesFit hosts 0 m x → (only x).0 ≤ m
  first_fits m [] f = omega arith
  first_fits m (q ∷ x) f = let p = f.0.1 in omega (arith, p)

  same_fits : (a b : HostId) → a.0 < hosts → b.0 < hosts → (x : Places) (m n : ℕ) (next : List ℕ) → PartsFit hosts 0 m x → Room N m n next
      → WordMade hosts N n (at_hosts a b (record { given = shares_of x; gadgets = []; next = next }))
  same_fits a b here there x m n next f room =
      let more : m + 384 ≤ n = room.more in
      let made : Made PartRegisters = record { given = shares_of x; gadgets = []; next = next } in
      let fits : SharesMade hosts N m made = record { low = room.low; given = shares_fit hosts m x f.at; gadgets = tt } in
      shared_word hosts N a b here there m n made (omega (arith, more)) fits

  moved_fits : (r : Route) (p q : Calls) → CallsFit hosts N p → CallsFit hosts N q → RouteIsHere r q → (x : Places) (m n : ℕ) (next : List ℕ) → PartsFit hosts 0 m x → Room N m n next
      → WordMade hosts N n (moved r p q x next)
  moved_fits (Share h) p q from onto here x m n next f room = onto.share h here (only x) m n next (first_fits m x f.at) room
  moved_fits Adopt p q from onto here x m n next f room = onto.adopt x m n next f room
  moved_fits (Show k) p q from onto here x m n next f room = from.show k here x m n next f room
  moved_fits ShowAll p q from onto here x m n next f room =
      let more : m + 384 ≤ n = room.more in
      let made = p.show_all x next in
      let shown = from.show_all x m n next f room in
      record {
        low = shown.low;
        given = record {
          few = few_parts (holders q.proto) (copies_at (holders q.proto) made.given) (copies_length (holders q.proto) made.given) here.0;
          at = copies_fit (holders q.proto) here.1 made.given n (omega (arith, more)) shown.given.at;
        };
        gadgets = shown.gadgets;
      }
  moved_fits (Spread set) p q from onto here x m n next f room = spread_fits hosts N set here x m n next f room
  moved_fits (Same a b) p q from onto here x m n next f room = same_fits a b here.0 here.1 x m n next f room
  moved_fits (SameBound a b) p q from onto here x m n next f room = same_bound_fits hosts N a b here.0 here.1 x m n next f.at room
  moved_fits (ToXor a b) p q from onto here x m n next f room = to_bits_fit hosts N a b here.0 here.1 x m n next f room
  moved_fits (ToAdd a b) p q from onto here x m n next f room = to_sums_fit hosts N a b here.0 here.1 x m n next f room

  pub move_fits : (p q : Proto) → IsKnown p → IsKnown q → (x : Parts) (m n : ℕ) (next : List ℕ) → SlotFits m x → m + 384 ≤ n → n ≤ N → IsLow m next
      → CallFits n (made_of (moved (route p q) (back_end p) (back_end q) x.at next))
  move_fits p q known onto x m n next f more most low =
      word_made m n (moved (route p q) (back_end p) (back_end q) x.at next) more
      (moved_fits (route p q) (back_end p) (back_end q) (back_end_fits p known) (back_end_fits q onto) (route_is_here p q known onto) x.at m n next (parts_of m x f) (room_of m n next more most low))

  -- ---- operations and variables

  pub apply_fits : (o : Op) (p : Proto) → IsKnown p → (xs : List Parts) (m n : ℕ) (next : List ℕ) → Each (SlotFits m) xs → m + 384 ≤ n → n ≤ N → IsLow m next
      → CallFits n (made_of ((back_end p).apply o (map (λ (x : Parts). x.at) xs) next))
  apply_fits o p known xs m n next f more most low =
      word_made m n ((back_end p).apply o (map (λ (x : Parts). x.at) xs) next) more
      ((back_end_fits p known).apply o (map (λ (x : Parts). x.at) xs) m n next (all_parts m xs f) (room_of m n next more most low))

  pub keep_fits : (p : Proto) → IsKnown p → (x : Parts) (m n : ℕ) (next : List ℕ) → SlotFits m x → m + 384 ≤ n → n ≤ N → IsLow m next
      → CallFits n (made_of ((back_end p).keep x.at next))
  keep_fits p known x m n next f more most low = word_made m n ((back_end p).keep x.at next) more ((back_end_fits p known).keep x.at m n next (parts_of m x f) (room_of m n next more most low))

  pub renew_fits : (p : Proto) → IsKnown p → (kept x : Parts) (n : ℕ) → SlotFits n kept → SlotFits n x → n < N → Each (GadgetFits hosts N) ((back_end p).renew kept.at x.at)
  renew_fits p known kept x n f g lt = (back_end_fits p known).renew kept.at x.at n (parts_of n kept f) (parts_of n x g) lt

  -- ---- the calls that no back end has

  pub turn_fits : (p : Proto) → IsKnown p → (loop : List ℕ) (m n : ℕ) (next : List ℕ) → IsLow m loop → m + 384 ≤ n → n ≤ N → IsLow m next → CallFits n (made_of (turned p loop next))
  turn_fits p known loop m n next turns more most low = word_made m n (turned p loop next) more (word_fits hosts N p known (turn_part p loop) m n next (room_of m n next more most low) (at p))
    where
      copies : (h : HostId) (a b : ℕ) (l : List ℕ) → m ≤ a → a + 17 ≤ b → b ≤ N → IsLow a l → RegFits hosts N 1 b (written_by h (λ r. action.Copy r (next_at loop h)) l)
      copies h a b l le e most' low' =
          let t = turns h.0 in written_fits hosts N h (λ r. action.Copy r (next_at loop h)) a b l (omega (arith, e)) low' (λ r i. (omega (arith, i, e, most'), omega (arith, t, le, e, most')))

      zeros : (h : HostId) (a b : ℕ) (l : List ℕ) → a + 17 ≤ b → b ≤ N → IsLow a l → RegFits hosts N 1 b (written_by h (λ r. action.Const r 0) l)
      zeros h a b l e most' low' = written_fits hosts N h (λ r. action.Const r 0) a b l (omega (arith, e)) low' (λ r i. omega (arith, i, e, most'))

      either : (z : Bool) (h : HostId) (a b : ℕ) (l : List ℕ) → m ≤ a → a + 17 ≤ b → b ≤ N → IsLow a l
          → RegFits hosts N 1 b (if z then written_by h (λ r. action.Copy r (next_at loop h)) l else written_by h (λ r. action.Const r 0) l)
      either true h a b l le e most' low' = copies h a b l le e most' low'
      either false h a b l le e most' low' = zeros h a b l e most' low'

      at : (p : Proto) (h : HostId) → h.0 < hosts → (a b : ℕ) (l : List ℕ) → m ≤ a → a + 17 ≤ b → b ≤ N → IsLow a l → RegFits hosts N 1 b (turn_part p loop h l)
      at (Local k) h here a b l le e most' low' = copies h a b l le e most' low'
      at (Rep set) h here a b l le e most' low' = copies h a b l le e most' low'
      at (Commit k j) h here a b l le e most' low' = copies h a b l le e most' low'
      at (Add k j) h here a b l le e most' low' = either (nat_eq h.0 k.0) h a b l le e most' low'
      at (Xor k j) h here a b l le e most' low' = either (nat_eq h.0 k.0) h a b l le e most' low'

  pub input_fits : (h : HostId) → h.0 < hosts → Fits (λ next. made_of (put_in h next))
  input_fits h here m n next more most low =
      word_made m n (put_in h next) more
      (host_word hosts N h (written_by h (λ r. action.Input r) next) n here (written_fits hosts N h (λ r. action.Input r) m n next (omega (arith, more)) low (λ r i. omega (arith, i, more, most))))

  pub output_fits : (h : HostId) (x : Parts) (n : ℕ) → SlotFits n x → n < N → Each (GadgetFits hosts N) (printed h x.at)
  output_fits h x n f lt = let r = register_fits hosts N 0 n x.at h.0 (omega arith) (places_of n x f) in ((omega (arith, r, lt), tt), tt)

  pub cells_fit : (p : Proto) → IsKnown p → (size m n : ℕ) (next : List ℕ) → m + 8 * size ≤ n → n < N → IsLow m next
      → let made = new_cells p size next in CallFits n (record { given = record { at = made.given; size = size }; acts = made.gadgets; next = made.next })
  cells_fit p known size m n next more most low =
      let made = each_fits hosts N (zeros_at size) size size m law (holders p) known m n next (omega arith) (many (length (holders p)) (few_holders p)) (omega (arith, most)) low in
      record {
        low = made.low;
        given = record {
          size = omega (arith, more);
          parts = record { few = few_parts (holders p) (new_cells p size next).given (each_length (zeros_at size) (holders p) next) (few_holders p); at = made.given };
        };
        acts = made.gadgets;
      }
    where
      many : (k : ℕ) → k ≤ 8 → m + size * k ≤ n
      many k few = let p = mul-le-mul_left size few in omega (arith, p, more)

      law : (h : HostId) → h.0 < hosts → (a b : ℕ) (l : List ℕ) → m ≤ a → a + size ≤ b → b ≤ N → IsLow a l → RegFits hosts N size b (zeros_at size h l)
      law h here a b l le e most' low' =
          let q = low' h.0 in
          record { low = low_more (a + size) b (taken h size l) e (taken_low h size a l low'); given = omega (arith, q, e); gadgets = ((omega (arith, q, e, most'), tt), tt) }

  -- the registers of an index
  abbrev pub IndexFits : ℕ → List Part → Type 0
  IndexFits n at = Each (λ (q : Part). q.1 ≤ n) at

  index_fits : (n : ℕ) (at : List Part) (h : ℕ) → IndexFits n at → (index_of at h).0 ≤ n
  index_fits n [] h f = omega arith
  index_fits n (q ∷ at) h f = here (nat_eq h q.0) (index_fits n at h f.1)
    where
      here : (b : Bool) → (index_of at h).0 ≤ n → (let r : Reg = if b then register q.1 else index_of at h in r.0 ≤ n)
      here true e = f.0
      here false e = e

  pub get_fits : (p : Proto) → IsKnown p → (x : Parts) (at : List Part) (m n : ℕ) (next : List ℕ) → SlotFits m x → IndexFits m at → m + 384 ≤ n → n ≤ N → IsLow m next
      → CallFits n (made_of (cell_read p x at next))
  get_fits p known x at m n next f i more most low =
      word_made m n (cell_read p x at next) more
      (word_fits hosts N p known (λ h. written_by h (λ r. action.Get r (register_of x.at h.0) x.size (index_of at h.0))) m n next (room_of m n next more most low) law)
    where
      law : (h : HostId) → h.0 < hosts → (a b : ℕ) (l : List ℕ) → m ≤ a → a + 17 ≤ b → b ≤ N → IsLow a l
          → RegFits hosts N 1 b (written_by h (λ r. action.Get r (register_of x.at h.0) x.size (index_of at h.0)) l)
      law h here a b l le e most' low' =
          let r = register_fits hosts N x.size m x.at h.0 f.size f.parts.at in
          let j = index_fits m at h.0 i in
          written_fits hosts N h (λ q. action.Get q (register_of x.at h.0) x.size (index_of at h.0)) a b l (omega (arith, e)) low'
          (λ q k. (omega (arith, k, e, most'), omega (arith, r, le, e, most'), omega (arith, j, le, e, most')))

  pub put_fits : (p : Proto) (kept : Parts) (at : List Part) (x : Parts) (n : ℕ) → SlotFits n kept → IndexFits n at → SlotFits n x → n < N → Each (GadgetFits hosts N) (cell_written p kept at x.at)
  put_fits p kept at x n f i g lt = each (holders p)
    where
      each : (hs : List HostId) → Each (GadgetFits hosts N) (map (λ h. Alone h (action.Put (register_of kept.at h.0) kept.size (index_of at h.0) (register_of x.at h.0))) hs)
      each [] = tt
      each (h ∷ hs) =
          let r = register_fits hosts N kept.size n kept.at h.0 f.size f.parts.at in
          let j = index_fits n at h.0 i in
          let s = register_fits hosts N 0 n x.at h.0 (omega arith) (places_of n x g) in
          (((omega (arith, r, lt), omega (arith, j, lt), omega (arith, s, lt)), tt), each hs)
