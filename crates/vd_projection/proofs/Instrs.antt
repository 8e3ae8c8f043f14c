-- Instructions that are within the ranges, and whose numbers can be written.
use Rattle.std.proofs.Common.{◌≡◌, ◌≢◌, ℕ, suc, ◌+◌, ◌<◌, ◌≤◌, ◌^◌, ◌==◌, nat_lt, nat_le, true, ◌&&◌, not, List, [], ◌∷◌, length, map, refl, ap, lit≤, arith}
use Rattle.std.specs.Prelude.{All}
use Rattle.std.specs.List.{list_all, AllByRecursion}
use Rattle.std.proofs.lemmas.Bool.{ne_eqb}
use Rattle.vd_base.specs.HostSets.{host}
use Rattle.vd_base.specs.Limits.{most_registers, most_cells}
use Rattle.vd_base.specs.Words.{IsWord}
use Rattle.vd_base.specs.declared.ids.HostId.{HostId}
use Rattle.vd_execution.specs.declared.instructions.Reg.{Reg}
use Rattle.vd_execution.specs.declared.instructions.Action.{Action}
use Rattle.vd_execution.specs.declared.instructions.Action.TheVariants as action
use Rattle.vd_execution.specs.declared.instructions.Instr.{Instr}
use Rattle.vd_execution.specs.declared.instructions.Instr.TheVariants as instr
use Rattle.vd_execution.specs.Code.{Code, Finished, Then, Send, Recv, Choose, Repeat}
use Rattle.vd_execution.specs.Ranges.{ActionFits}
use Rattle.vd_execution.specs.Text.{register}
use Rattle.vd_projection.specs.Fits.{PacketFits}
use Rattle.vd_hostcode.specs.Words.{word_of, action_word, operands, action_operands}
use Rattle.vd_hostcode.specs.Lines.{arity, HasNumbers}
use Rattle.vd_hostcode.specs.Ranges.{is_register, are_registers, is_array, is_peer, is_within, action_is_within, packet_is_within}
use Rattle.vd_projection.proofs.Numbers.{is_below, is_at_most, both}
use Rattle.vd_projection.proofs.Few.{ActionIsSmall}
use Rattle.vd_projection.proofs.Registers.{bound}

-- an instruction of one of so many hosts can stand in its file
pub record CanStand (hosts h : ℕ) (i : Instr) : Type 0 where
  pub within : is_within hosts (host h) i ≡ true
  pub numbers : HasNumbers (word_of i) (operands i)

-- and so can each of a code
abbrev pub AllCanStand : ℕ → ℕ → Code → Type 0
AllCanStand hosts h Finished = Unit {0}
AllCanStand hosts h (Then a c) = CanStand hosts h (instr.Do a) × AllCanStand hosts h c
AllCanStand hosts h (Send p rs c) = CanStand hosts h (instr.Send (host p) rs) × AllCanStand hosts h c
AllCanStand hosts h (Recv p rs c) = CanStand hosts h (instr.Recv (host p) rs) × AllCanStand hosts h c
AllCanStand hosts h (Choose g first other c) =
    CanStand hosts h (instr.If (register g)) × (AllCanStand hosts h first × (AllCanStand hosts h other × AllCanStand hosts h c))
AllCanStand hosts h (Repeat r turn count body c) = CanStand hosts h (instr.For (register r) count) × (AllCanStand hosts h body × AllCanStand hosts h c)

-- ---- registers

in_register : (r : Reg) → r.0 < bound → is_register r ≡ true
in_register r lt = is_below r.0 most_registers (omega (arith, lt))

in_registers : (r : Reg) (count : ℕ) → r.0 + count ≤ bound → are_registers r count ≡ true
in_registers r count le =
    both (is_register r) (nat_le (r.0 + count) most_registers) (is_below r.0 most_registers (omega (arith, le))) (is_at_most (r.0 + count) most_registers (omega (arith, le)))

in_array : (r : Reg) (count : ℕ) → count ≤ most_cells → r.0 + count ≤ bound → is_array r count ≡ true
in_array r count few le = both (nat_le count most_cells) (are_registers r count) (is_at_most count most_cells few) (in_registers r count le)

two : (r x : Reg) → r.0 < bound → x.0 < bound → (is_register r && is_register x) ≡ true
two r x p q = both (is_register r) (is_register x) (in_register r p) (in_register x q)

three : (r x y : Reg) → r.0 < bound → x.0 < bound → y.0 < bound → (is_register r && (is_register x && is_register y)) ≡ true
three r x y p q o = both (is_register r) (is_register x && is_register y) (in_register r p) (two x y q o)

word : (r : Reg) → r.0 < bound → IsWord r.0
word r lt = omega (arith, lt)

first_word : (r : Reg) (count : ℕ) → r.0 + count ≤ bound → IsWord r.0
first_word r count le = omega (arith, le)

-- ---- peers

-- another of so many hosts
pub record IsPeer (hosts h : ℕ) (p : HostId) : Type 0 where
  pub declared : p.0 < hosts
  pub other : p.0 ≢ h

is_peer_of : (hosts h : ℕ) (p : HostId) → IsPeer hosts h p → is_peer hosts (host h) p ≡ true
is_peer_of hosts h p i = both (nat_lt p.0 hosts) (not (p.0 == h)) (is_below p.0 hosts i.declared) (ap not (ne_eqb p.0 h i.other))

peer_word : (hosts h : ℕ) (p : HostId) → hosts ≤ 4 → IsPeer hosts h p → IsWord p.0
peer_word hosts h p few i = let lt = i.declared in omega (arith, lt, few)

-- a host that an action names is a peer
abbrev pub PeerIsOther : ℕ → ℕ → Action → Type 0
PeerIsOther hosts h (action.Triple p a b c) = IsPeer hosts h p
PeerIsOther hosts h (action.Bits p a b c) = IsPeer hosts h p
PeerIsOther hosts h (action.Pair p s x) = IsPeer hosts h p
PeerIsOther hosts h a = Unit {0}

-- a constant is a word
abbrev pub ConstantIsWord : Action → Type 0
ConstantIsWord (action.Const r k) = k < 2 ^ 32
ConstantIsWord a = Unit {0}

-- what an action of a host of the plan is like
pub record ActionStands (hosts h : ℕ) (a : Action) : Type 0 where
  pub fits : ActionFits bound a
  pub small : ActionIsSmall a
  pub peer : PeerIsOther hosts h a
  pub constant : ConstantIsWord a

action_within : (hosts h : ℕ) (a : Action) → ActionStands hosts h a → action_is_within hosts (host h) a ≡ true
action_within hosts h (action.Const r k) s = in_register r s.fits
action_within hosts h (action.Copy r x) s = two r x s.fits.0 s.fits.1
action_within hosts h (action.Apply o r x y) s = three r x y s.fits.0 s.fits.1 s.fits.2
action_within hosts h (action.Shl r x k) s = both (nat_lt k 32) (is_register r && is_register x) (is_below k 32 s.small) (two r x s.fits.0 s.fits.1)
action_within hosts h (action.Shr r x k) s = both (nat_lt k 32) (is_register r && is_register x) (is_below k 32 s.small) (two r x s.fits.0 s.fits.1)
action_within hosts h (action.Mux r c x y) s =
    both (is_register r) (is_register c && (is_register x && is_register y)) (in_register r s.fits.0) (three c x y s.fits.1 s.fits.2 s.fits.3)
action_within hosts h (action.Own r) s = in_register r s.fits
action_within hosts h (action.Triple p a b c) s =
    both (is_peer hosts (host h) p) (is_register a && (is_register b && is_register c)) (is_peer_of hosts h p s.peer) (three a b c s.fits.0 s.fits.1 s.fits.2)
action_within hosts h (action.Bits p a b c) s =
    both (is_peer hosts (host h) p) (is_register a && (is_register b && is_register c)) (is_peer_of hosts h p s.peer) (three a b c s.fits.0 s.fits.1 s.fits.2)
action_within hosts h (action.Pair p r x) s = both (is_peer hosts (host h) p) (is_register r && is_register x) (is_peer_of hosts h p s.peer) (two r x s.fits.0 s.fits.1)
action_within hosts h (action.Input r) s = in_register r s.fits
action_within hosts h (action.Print r) s = in_register r s.fits
action_within hosts h (action.Hash d n v) s =
    both (are_registers d 8) (are_registers n 8 && is_register v) (in_registers d 8 s.fits.0)
    (both (are_registers n 8) (is_register v) (in_registers n 8 s.fits.1) (in_register v s.fits.2))
action_within hosts h (action.Same x y) s = two x y s.fits.0 s.fits.1
action_within hosts h (action.Zero r count) s = in_array r count s.small s.fits
action_within hosts h (action.Get r x count i) s =
    both (is_register r) (is_array x count && is_register i) (in_register r s.fits.0)
    (both (is_array x count) (is_register i) (in_array x count s.small s.fits.1) (in_register i s.fits.2))
action_within hosts h (action.Put x count i r) s =
    both (is_array x count) (is_register i && is_register r) (in_array x count s.small s.fits.0) (two i r s.fits.1 s.fits.2)

cells_word : (count : ℕ) → count ≤ most_cells → IsWord count
cells_word count few = omega (arith, few)

shift_word : (k : ℕ) → k < 32 → IsWord k
shift_word k lt = omega (arith, lt)

constant_word : (k : ℕ) → k < 2 ^ 32 → IsWord k
constant_word k lt = omega (arith, lt)

action_words : (hosts h : ℕ) (a : Action) → hosts ≤ 4 → ActionStands hosts h a → AllByRecursion IsWord (action_operands a)
action_words hosts h (action.Const r k) few s = (word r s.fits, (constant_word k s.constant, tt))
action_words hosts h (action.Copy r x) few s = (word r s.fits.0, (word x s.fits.1, tt))
action_words hosts h (action.Apply o r x y) few s = (word r s.fits.0, (word x s.fits.1, (word y s.fits.2, tt)))
action_words hosts h (action.Shl r x k) few s = (word r s.fits.0, (word x s.fits.1, (shift_word k s.small, tt)))
action_words hosts h (action.Shr r x k) few s = (word r s.fits.0, (word x s.fits.1, (shift_word k s.small, tt)))
action_words hosts h (action.Mux r c x y) few s = (word r s.fits.0, (word c s.fits.1, (word x s.fits.2, (word y s.fits.3, tt))))
action_words hosts h (action.Own r) few s = (word r s.fits, tt)
action_words hosts h (action.Triple p a b c) few s = (peer_word hosts h p few s.peer, (word a s.fits.0, (word b s.fits.1, (word c s.fits.2, tt))))
action_words hosts h (action.Bits p a b c) few s = (peer_word hosts h p few s.peer, (word a s.fits.0, (word b s.fits.1, (word c s.fits.2, tt))))
action_words hosts h (action.Pair p r x) few s = (peer_word hosts h p few s.peer, (word r s.fits.0, (word x s.fits.1, tt)))
action_words hosts h (action.Input r) few s = (word r s.fits, tt)
action_words hosts h (action.Print r) few s = (word r s.fits, tt)
action_words hosts h (action.Hash d n v) few s = (first_word d 8 s.fits.0, (first_word n 8 s.fits.1, (word v s.fits.2, tt)))
action_words hosts h (action.Same x y) few s = (word x s.fits.0, (word y s.fits.1, tt))
action_words hosts h (action.Zero r count) few s = (first_word r count s.fits, (cells_word count s.small, tt))
action_words hosts h (action.Get r x count i) few s = (word r s.fits.0, (first_word x count s.fits.1, (cells_word count s.small, (word i s.fits.2, tt))))
action_words hosts h (action.Put x count i r) few s = (first_word x count s.fits.0, (cells_word count s.small, (word i s.fits.1, (word r s.fits.2, tt))))

-- an action has as many numbers as its word asks
counted : (a : Action) → length (action_operands a) ≡ arity (action_word a)
counted (action.Const r k) = refl
counted (action.Copy r x) = refl
counted (action.Apply o r x y) = refl
counted (action.Shl r x k) = refl
counted (action.Shr r x k) = refl
counted (action.Mux r c x y) = refl
counted (action.Own r) = refl
counted (action.Triple p a b c) = refl
counted (action.Bits p a b c) = refl
counted (action.Pair p s x) = refl
counted (action.Input r) = refl
counted (action.Print r) = refl
counted (action.Hash d n v) = refl
counted (action.Same x y) = refl
counted (action.Zero r count) = refl
counted (action.Get r x count i) = refl
counted (action.Put x count i s) = refl

pub action_stands : (hosts h : ℕ) (a : Action) → hosts ≤ 4 → ActionStands hosts h a → CanStand hosts h (instr.Do a)
action_stands hosts h a few s =
    let many = counted a in
    record {
      within = action_within hosts h a s;
      numbers = record { words = action_words hosts h a few s; enough = omega (arith, many); exactly = λ e. many };
    }

-- ---- packets

all_registers : (rs : List Reg) → All (λ (r : Reg). r.0 < bound) rs → list_all is_register rs ≡ true
all_registers [] f = refl
all_registers (r ∷ rs) f = both (is_register r) (list_all is_register rs) (in_register r (f 0 r (omega arith))) (all_registers rs (λ k d lt. f (suc k) d (omega (arith, lt))))

all_words : (rs : List Reg) → All (λ (r : Reg). r.0 < bound) rs → AllByRecursion IsWord (map (λ r. r.0) rs)
all_words [] f = tt
all_words (r ∷ rs) f = (word r (f 0 r (omega arith)), all_words rs (λ k d lt. f (suc k) d (omega (arith, lt))))

map_length : (rs : List Reg) → length (map (λ r. r.0) rs) ≡ length rs
map_length [] = refl
map_length (r ∷ rs) = ap suc (map_length rs)

packet_within : (hosts h : ℕ) (p : HostId) (rs : List Reg) → IsPeer hosts h p → PacketFits bound rs → packet_is_within hosts (host h) p rs ≡ true
packet_within hosts h p rs i f =
    let few = f.2 in
    both (is_peer hosts (host h) p) (nat_le (length rs) 16 && list_all is_register rs) (is_peer_of hosts h p i)
    (both (nat_le (length rs) 16) (list_all is_register rs) (is_at_most (length rs) 16 (omega (arith, few))) (all_registers rs f.0))

packet_numbers : (hosts h : ℕ) (p : HostId) (rs : List Reg) → hosts ≤ 4 → IsPeer hosts h p → PacketFits bound rs
    → AllByRecursion IsWord (p.0 ∷ map (λ r. r.0) rs) × (2 ≤ suc (length (map (λ r. r.0) rs)))
packet_numbers hosts h p rs few i f =
    let same = map_length rs in
    let some = f.1 in
    ((peer_word hosts h p few i, all_words rs f.0), omega (arith, same, some))

pub send_stands : (hosts h : ℕ) (p : HostId) (rs : List Reg) → hosts ≤ 4 → IsPeer hosts h p → PacketFits bound rs → CanStand hosts h (instr.Send p rs)
send_stands hosts h p rs few i f =
    let n = packet_numbers hosts h p rs few i f in
    record { within = packet_within hosts h p rs i f; numbers = record { words = n.0; enough = n.1; exactly = λ e. cc } }

pub recv_stands : (hosts h : ℕ) (p : HostId) (rs : List Reg) → hosts ≤ 4 → IsPeer hosts h p → PacketFits bound rs → CanStand hosts h (instr.Recv p rs)
recv_stands hosts h p rs few i f =
    let n = packet_numbers hosts h p rs few i f in
    record { within = packet_within hosts h p rs i f; numbers = record { words = n.0; enough = n.1; exactly = λ e. cc } }

-- ---- blocks

pub if_stands : (hosts h g : ℕ) → g < bound → CanStand hosts h (instr.If (register g))
if_stands hosts h g lt = record {
  within = in_register (register g) lt;
  numbers = record { words = (word (register g) lt, tt); enough = lit≤ tt; exactly = λ e. refl };
}

pub for_stands : (hosts h r count : ℕ) → r < bound → count < 2 ^ 32 → CanStand hosts h (instr.For (register r) count)
for_stands hosts h r count lt few = record {
  within = in_register (register r) lt;
  numbers = record { words = (word (register r) lt, (constant_word count few, tt)); enough = lit≤ tt; exactly = λ e. refl };
}
