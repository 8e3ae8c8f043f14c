-- A code of which no instruction breaks a range can be loaded.
use Rattle.std.proofs.Common.{◌≡◌, ℕ, suc, ◌+◌, ◌-◌, ◌<◌, ◌≤◌, Bool, true, false, not, cond, ◌&&◌, List, [], ◌∷◌, length, Option, Some, None, refl, sym, ap, subst, ◌∙◌, arith}
use Rattle.std.specs.Prelude.{◌==◌, All, nat_lt, nat_le}
use Rattle.std.specs.List.{list_all, AllByRecursion}
use Rattle.std.proofs.lemmas.Bool.{and_parts, or_parts, not-false, ltb-true, leb-true, leb-false}
use Rattle.std.proofs.lemmas.List.Elements.{All-nil, All-cons}
use Rattle.vd_base.specs.Limits.{most_registers, most_packet_words, most_open_blocks, most_cells}
use Rattle.vd_base.specs.declared.ids.HostId.{HostId}
use Rattle.vd_execution.specs.declared.instructions.Reg.{Reg}
use Rattle.vd_execution.specs.declared.instructions.Action.{Action}
use Rattle.vd_execution.specs.declared.instructions.Action.TheVariants as action
use Rattle.vd_execution.specs.declared.instructions.Instr.{Instr}
use Rattle.vd_execution.specs.declared.instructions.Instr.TheVariants as instr
use Rattle.vd_execution.specs.Code.{Code, Finished}
use Rattle.vd_execution.specs.Text.{Open, AfterEnd, AfterElse, Reading, with_instr, read_before, read, IsCodeOf}
use Rattle.vd_execution.specs.Ranges.{ActionFits, CodeFits, IsPacketRange, PacketsFit, depth, IsInRange}
use Rattle.vd_hostcode.specs.HostTextOutcome.{HasPeer}
use Rattle.vd_hostcode.specs.Ranges.{is_register, are_registers, is_array, is_peer, is_share, action_is_within, packet_is_within, is_within, opens, open_behind, numbers, breaks, first_broken}

-- ---- one instruction

below : (r : Reg) → is_register r ≡ true → r.0 < most_registers
below r h = ltb-true r.0 most_registers h

within : (r : Reg) (count : ℕ) → are_registers r count ≡ true → r.0 + count ≤ most_registers
within r count h = leb-true (r.0 + count) most_registers (and_parts (is_register r) (nat_le (r.0 + count) most_registers) h).1

cells_within : (r : Reg) (count : ℕ) → is_array r count ≡ true → r.0 + count ≤ most_registers
cells_within r count h = within r count (and_parts (nat_le count most_cells) (are_registers r count) h).1

two : (r x : Reg) → (is_register r && is_register x) ≡ true → (r.0 < most_registers) × (x.0 < most_registers)
two r x h = let p = and_parts (is_register r) (is_register x) h in (below r p.0, below x p.1)

three : (r x y : Reg) → (is_register r && (is_register x && is_register y)) ≡ true → (r.0 < most_registers) × (x.0 < most_registers) × (y.0 < most_registers)
three r x y h = let p = and_parts (is_register r) (is_register x && is_register y) h in let q = two x y p.1 in (below r p.0, q.0, q.1)

shares_fit : (hosts : ℕ) (me p : HostId) (a b c : Reg) → is_share hosts me p a b c ≡ true → (a.0 < most_registers) × (b.0 < most_registers) × (c.0 < most_registers)
shares_fit hosts me p a b c h = three a b c (and_parts (is_peer hosts me p) (is_register a && (is_register b && is_register c)) h).1

action_fits : (hosts : ℕ) (me : HostId) (a : Action) → action_is_within hosts me a ≡ true → ActionFits most_registers a
action_fits hosts me (action.Const r k) h = below r h
action_fits hosts me (action.Copy r x) h = two r x h
action_fits hosts me (action.Apply o r x y) h = three r x y h
action_fits hosts me (action.Shl r x k) h = two r x (and_parts (nat_lt k 32) (is_register r && is_register x) h).1
action_fits hosts me (action.Shr r x k) h = two r x (and_parts (nat_lt k 32) (is_register r && is_register x) h).1
action_fits hosts me (action.Mux r c x y) h =
    let p = and_parts (is_register r) (is_register c && (is_register x && is_register y)) h in
    let q = three c x y p.1 in
    (below r p.0, q.0, q.1, q.2)
action_fits hosts me (action.Own r) h = below r h
action_fits hosts me (action.Triple p a b c) h = shares_fit hosts me p a b c h
action_fits hosts me (action.Bits p a b c) h = shares_fit hosts me p a b c h
action_fits hosts me (action.Pair p s x) h = two s x (and_parts (is_peer hosts me p) (is_register s && is_register x) h).1
action_fits hosts me (action.Input r) h = below r h
action_fits hosts me (action.Print r) h = below r h
action_fits hosts me (action.Hash d n v) h =
    let p = and_parts (are_registers d 8) (are_registers n 8 && is_register v) h in
    let q = and_parts (are_registers n 8) (is_register v) p.1 in
    (within d 8 p.0, within n 8 q.0, below v q.1)
action_fits hosts me (action.Same x y) h = two x y h
action_fits hosts me (action.Zero r count) h = cells_within r count h
action_fits hosts me (action.Get r x count i) h =
    let p = and_parts (is_register r) (is_array x count && is_register i) h in
    let q = and_parts (is_array x count) (is_register i) p.1 in
    (below r p.0, cells_within x count q.0, below i q.1)
action_fits hosts me (action.Put x count i s) h =
    let p = and_parts (is_array x count) (is_register i && is_register s) h in
    let q = two i s p.1 in
    (cells_within x count p.0, q.0, q.1)

all_below : (rs : List Reg) → list_all is_register rs ≡ true → All (λ r. r.0 < most_registers) rs
all_below [] h = All-nil (λ r. r.0 < most_registers)
all_below (r ∷ rs) h =
    let p = and_parts (is_register r) (list_all is_register rs) h in
    All-cons (λ r. r.0 < most_registers) r rs (below r p.0) (all_below rs p.1)

peer_below : (hosts : ℕ) (me p : HostId) → is_peer hosts me p ≡ true → p.0 < hosts
peer_below hosts me p h = ltb-true p.0 hosts (and_parts (nat_lt p.0 hosts) (not (p.0 == me.0)) h).0

packet_fits : (hosts : ℕ) (me p : HostId) (rs : List Reg) → packet_is_within hosts me p rs ≡ true → IsPacketRange hosts p.0 rs × All (λ r. r.0 < most_registers) rs
packet_fits hosts me p rs h =
    let q = and_parts (is_peer hosts me p) (nat_le (length rs) most_packet_words && list_all is_register rs) h in
    let r = and_parts (nat_le (length rs) most_packet_words) (list_all is_register rs) q.1 in
    ((peer_below hosts me p q.0, leb-true (length rs) most_packet_words r.0), all_below rs r.1)

-- ---- what is known of an instruction that breaks no range

kept_within : (hosts : ℕ) (me : HostId) (before : ℕ) (i : Instr) → breaks hosts me before i ≡ false → is_within hosts me i ≡ true
kept_within hosts me before i e = not-false (is_within hosts me i) (or_parts (not (is_within hosts me i)) (opens i && nat_le most_open_blocks before) e).0

kept_open : (hosts : ℕ) (me : HostId) (before : ℕ) (i : Instr) → breaks hosts me before i ≡ false → opens i ≡ true → before < most_open_blocks
kept_open hosts me before i e o =
    let p = or_parts (not (is_within hosts me i)) (opens i && nat_le most_open_blocks before) e in
    leb-false most_open_blocks before (sym (ap (λ b. b && nat_le most_open_blocks before) o) ∙ p.1)

-- ---- from the end of the text to its front

abbrev reading : Code → List Open → Reading
reading c os = record { code = c; blocks = os }

-- a part of a code, with so many blocks around it
record PartFits (hosts around : ℕ) (c : Code) : Type 0 where
  registers : CodeFits most_registers c
  packets : PacketsFit hosts c
  blocks : around + depth c ≤ most_open_blocks

abbrev OpensFit : ℕ → List Open → Type 0
OpensFit hosts [] = Unit {0}
OpensFit hosts (AfterEnd rest ∷ os) = PartFits hosts (length os) rest × OpensFit hosts os
OpensFit hosts (AfterElse other rest ∷ os) = PartFits hosts (suc (length os)) other × (PartFits hosts (length os) rest × OpensFit hosts os)

-- what is read with one instruction more is within the ranges, where what was read without it is
abbrev Keeps : ℕ → ℕ → ℕ → Code → List Open → Option Reading → Type 0
Keeps hosts before behind c os None = Unit {0}
Keeps hosts before behind c os (Some r) =
    before ≡ length r.blocks → (behind ≡ length os) × (behind ≤ most_open_blocks) × (PartFits hosts behind c → OpensFit hosts os → PartFits hosts before r.code × OpensFit hosts r.blocks)

nothing : (hosts around : ℕ) → around ≤ most_open_blocks → PartFits hosts around Finished
nothing hosts around le = record { registers = tt; packets = tt; blocks = omega (arith, le) }

keeps : (hosts : ℕ) (me : HostId) (before : ℕ) (i : Instr) (c : Code) (os : List Open) → before ≤ most_open_blocks → breaks hosts me before i ≡ false → Keeps hosts before (open_behind before i) c os (with_instr i c os)
keeps hosts me before (instr.Do a) c os le b = λ e. (
  e,
  le,
  λ part opens_fit. (record { registers = (action_fits hosts me a (kept_within hosts me before (instr.Do a) b), part.registers); packets = part.packets; blocks = part.blocks }, opens_fit),
)
keeps hosts me before (instr.Send p rs) c os le b = λ e. (
  e,
  le,
  λ part opens_fit.
      let q = packet_fits hosts me p rs (kept_within hosts me before (instr.Send p rs) b) in
      (record { registers = (q.1, part.registers); packets = (q.0, part.packets); blocks = part.blocks }, opens_fit),
)
keeps hosts me before (instr.Recv p rs) c os le b = λ e. (
  e,
  le,
  λ part opens_fit.
      let q = packet_fits hosts me p rs (kept_within hosts me before (instr.Recv p rs) b) in
      (record { registers = (q.1, part.registers); packets = (q.0, part.packets); blocks = part.blocks }, opens_fit),
)
keeps hosts me before (instr.If g) c [] le b = tt
keeps hosts me before (instr.If g) c (AfterEnd rest ∷ os) le b = tt
keeps hosts me before (instr.If g) c (AfterElse other rest ∷ os) le b = λ e.
    let few = kept_open hosts me before (instr.If g) b refl in (
      omega (arith, e),
      omega (arith, few),
      λ part opens_fit. (
        record {
          registers = (below g (kept_within hosts me before (instr.If g) b), (part.registers, (opens_fit.0.registers, opens_fit.1.0.registers)));
          packets = (part.packets, (opens_fit.0.packets, opens_fit.1.0.packets));
          blocks = omega (arith, e, part.blocks, opens_fit.0.blocks, opens_fit.1.0.blocks);
        },
        opens_fit.1.1,
      ),
    )
keeps hosts me before instr.Else c [] le b = tt
keeps hosts me before instr.Else c (AfterElse other rest ∷ os) le b = tt
keeps hosts me before instr.Else c (AfterEnd rest ∷ os) le b = λ e. (
  e,
  le,
  λ part opens_fit. (nothing hosts before le, (subst (λ n. PartFits hosts n c) e part, opens_fit)),
)
keeps hosts me before (instr.For r count) c [] le b = tt
keeps hosts me before (instr.For r count) c (AfterElse other rest ∷ os) le b = tt
keeps hosts me before (instr.For r count) c (AfterEnd rest ∷ os) le b = λ e.
    let few = kept_open hosts me before (instr.For r count) b refl in (
      omega (arith, e),
      omega (arith, few),
      λ part opens_fit. (
        record {
          registers = (below r (kept_within hosts me before (instr.For r count) b), (part.registers, opens_fit.0.registers));
          packets = (part.packets, opens_fit.0.packets);
          blocks = omega (arith, e, part.blocks, opens_fit.0.blocks);
        },
        opens_fit.1,
      ),
    )
keeps hosts me before instr.End c os le b = λ e.
    let same : before - 1 ≡ length os = omega (arith, e) in (
      same,
      omega (arith, le),
      λ part opens_fit. (nothing hosts before le, (subst (λ n. PartFits hosts n c) same part, opens_fit)),
    )

-- no instruction breaks a range from here on
abbrev AllKept : ℕ → HostId → ℕ → List Instr → Type 0
AllKept hosts me before [] = Unit {0}
AllKept hosts me before (i ∷ is) = (breaks hosts me before i ≡ false) × AllKept hosts me (open_behind before i) is

kept_by : (hosts : ℕ) (me : HostId) (numbered before : ℕ) (i : Instr) (is : List Instr) (t : Bool) → breaks hosts me before i ≡ t → cond t (Some numbered) (first_broken hosts me (numbered + numbers i) (open_behind before i) is) ≡ None
    → (breaks hosts me before i ≡ false) × (first_broken hosts me (numbered + numbers i) (open_behind before i) is ≡ None)
kept_by hosts me numbered before i is true e h = absurd cc
kept_by hosts me numbered before i is false e h = (e, h)

all_kept : (hosts : ℕ) (me : HostId) (numbered before : ℕ) (is : List Instr) → first_broken hosts me numbered before is ≡ None → AllKept hosts me before is
all_kept hosts me numbered before [] h = tt
all_kept hosts me numbered before (i ∷ is) h =
    let k = kept_by hosts me numbered before i is (breaks hosts me before i) refl h in
    (k.0, all_kept hosts me (numbered + numbers i) (open_behind before i) is k.1)

fit_by : (hosts : ℕ) (me : HostId) (before : ℕ) (i : Instr) (o : Option Reading) (r : Reading) → read_before i o ≡ Some r → before ≡ length r.blocks → before ≤ most_open_blocks → breaks hosts me before i ≡ false
    → ((q : Reading) → o ≡ Some q → open_behind before i ≡ length q.blocks → open_behind before i ≤ most_open_blocks → PartFits hosts (open_behind before i) q.code × OpensFit hosts q.blocks)
    → PartFits hosts before r.code × OpensFit hosts r.blocks
fit_by hosts me before i None r e n le b rest = absurd cc
fit_by hosts me before i (Some q) r e n le b rest =
    let k = subst (Keeps hosts before (open_behind before i) q.code q.blocks) e (keeps hosts me before i q.code q.blocks le b) n in
    let h = rest q refl k.0 k.1 in
    k.2 h.0 h.1

fit : (hosts : ℕ) (me : HostId) (before : ℕ) (is : List Instr) (r : Reading) → read is ≡ Some r → before ≡ length r.blocks → before ≤ most_open_blocks → AllKept hosts me before is
    → PartFits hosts before r.code × OpensFit hosts r.blocks
fit hosts me before [] r e n le k =
    let h : PartFits hosts before Finished × OpensFit hosts [] = (nothing hosts before le, tt) in
    let same : reading Finished [] ≡ r = cc in
    subst (λ q. PartFits hosts before q.code × OpensFit hosts q.blocks) same h
fit hosts me before (i ∷ is) r e n le k =
    fit_by hosts me before i (read is) r e n le k.0 (λ q f m l. fit hosts me (open_behind before i) is q f m l k.1)

pub in_range : (hosts : ℕ) (me : HostId) (code : List Instr) (c : Code) → IsCodeOf code c → first_broken hosts me 0 0 code ≡ None → IsInRange hosts c
in_range hosts me code c is h =
    let part = (fit hosts me 0 code (reading c []) is refl (omega arith) (all_kept hosts me 0 0 code h)).0 in
    record { registers = part.registers; packets = part.packets; blocks = omega (arith, part.blocks) }

-- ---- peers are hosts

peer_is_byte : (hosts : ℕ) (me p : HostId) (b : Bool) → hosts ≤ 4 → (is_peer hosts me p && b) ≡ true → p.0 < 256
peer_is_byte hosts me p b few h = omega (arith, few, peer_below hosts me p (and_parts (is_peer hosts me p) b h).0)

action_peer : (hosts : ℕ) (me : HostId) (a : Action) → hosts ≤ 4 → action_is_within hosts me a ≡ true → HasPeer (instr.Do a)
action_peer hosts me (action.Const r k) few h = tt
action_peer hosts me (action.Copy r x) few h = tt
action_peer hosts me (action.Apply o r x y) few h = tt
action_peer hosts me (action.Shl r x k) few h = tt
action_peer hosts me (action.Shr r x k) few h = tt
action_peer hosts me (action.Mux r c x y) few h = tt
action_peer hosts me (action.Own r) few h = tt
action_peer hosts me (action.Triple p a b c) few h = peer_is_byte hosts me p (is_register a && (is_register b && is_register c)) few h
action_peer hosts me (action.Bits p a b c) few h = peer_is_byte hosts me p (is_register a && (is_register b && is_register c)) few h
action_peer hosts me (action.Pair p s x) few h = peer_is_byte hosts me p (is_register s && is_register x) few h
action_peer hosts me (action.Input r) few h = tt
action_peer hosts me (action.Print r) few h = tt
action_peer hosts me (action.Hash d n v) few h = tt
action_peer hosts me (action.Same x y) few h = tt
action_peer hosts me (action.Zero r count) few h = tt
action_peer hosts me (action.Get r x count i) few h = tt
action_peer hosts me (action.Put x count i s) few h = tt

has_peer : (hosts : ℕ) (me : HostId) (i : Instr) → hosts ≤ 4 → is_within hosts me i ≡ true → HasPeer i
has_peer hosts me (instr.Do a) few h = action_peer hosts me a few h
has_peer hosts me (instr.Send p rs) few h = peer_is_byte hosts me p (nat_le (length rs) most_packet_words && list_all is_register rs) few h
has_peer hosts me (instr.Recv p rs) few h = peer_is_byte hosts me p (nat_le (length rs) most_packet_words && list_all is_register rs) few h
has_peer hosts me (instr.If g) few h = tt
has_peer hosts me instr.Else few h = tt
has_peer hosts me (instr.For r count) few h = tt
has_peer hosts me instr.End few h = tt

peers_by : (hosts : ℕ) (me : HostId) (before : ℕ) (is : List Instr) → hosts ≤ 4 → AllKept hosts me before is → AllByRecursion HasPeer is
peers_by hosts me before [] few k = tt
peers_by hosts me before (i ∷ is) few k = (has_peer hosts me i few (kept_within hosts me before i k.0), peers_by hosts me (open_behind before i) is few k.1)

pub have_peers : (hosts : ℕ) (me : HostId) (code : List Instr) → hosts ≤ 4 → first_broken hosts me 0 0 code ≡ None → AllByRecursion HasPeer code
have_peers hosts me code few h = peers_by hosts me 0 code few (all_kept hosts me 0 0 code h)
