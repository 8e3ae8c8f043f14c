-- The parts of the words at places.
use Rattle.std.proofs.Common.{◌≡◌, ◌≢◌, ℕ, zero, suc, ◌+◌, ◌<◌, ◌≤◌, List, [], ◌∷◌, ◌++◌, get_or, length, refl, sym, ap, ◌∙◌, arith}
use Rattle.std.specs.Prelude.{slice_index}
use Rattle.std.proofs.lemmas.List.{get_or_read, get_or_past}
use Rattle.vd_base.specs.declared.ids.HostId.{HostId}
use Rattle.vd_execution.specs.Joint.{Hosts}
use Rattle.vd_execution.specs.Gadgets.{ByXors}
use Rattle.vd_duet.proofs.Front.{Since}
use Rattle.vd_backend_sharing.specs.declared.shares.PartRegisters.{PartRegisters}
use Rattle.vd_backend_sharing.specs.PairCalls.{two}
use Rattle.vd_backend_sharing.proofs.Front.{Parts, parts_later}
use Rattle.vd_bits.specs.BitCalls.{parts_at}

pub part_there : (words : List PartRegisters) (place : ℕ) (x : PartRegisters) → place < length words → x ≡ get_or words place x → x ≡ parts_at words place
part_there words place x low read = get_or_read words place x low read (two 0 0)

pub part_past : (words : List PartRegisters) (place : ℕ) → length words ≤ place → two 0 0 ≡ parts_at words place
part_past words place past = sym (get_or_past words place (two 0 0) past)

-- each of some parts stands for the word at its place
abbrev pub AreParts : HostId → HostId → List ℕ → Hosts → List PartRegisters → List ℕ → Type 0
AreParts a b next w [] [] = Unit {0}
AreParts a b next w (x ∷ xs) (v ∷ vs) = Parts ByXors a b next w x v × AreParts a b next w xs vs
AreParts a b next w [] (v ∷ vs) = ⊥
AreParts a b next w (x ∷ xs) [] = ⊥

-- the registers of some parts are from here
abbrev pub AreFrom : (ℕ → ℕ → Type 0) → HostId → HostId → List PartRegisters → Type 0
AreFrom source a b [] = Unit {0}
AreFrom source a b (x ∷ xs) = (source a.0 x.first.0 × source b.0 x.second.0) × AreFrom source a b xs

none_below : {X : Type 0} (i : ℕ) → i < 0 → X
none_below i low = absurd (omega (arith, low))

pub parts_there : (a b : HostId) (next : List ℕ) (w : Hosts) (xs : List PartRegisters) (vs : List ℕ) → AreParts a b next w xs vs → (i : ℕ) → i < length xs
    → Parts ByXors a b next w (parts_at xs i) (slice_index vs i)
parts_there a b next w [] vs p i low = none_below i low
parts_there a b next w (x ∷ xs) [] p i low = absurd p
parts_there a b next w (x ∷ xs) (v ∷ vs) p zero low = p.0
parts_there a b next w (x ∷ xs) (v ∷ vs) p (suc i) low = parts_there a b next w xs vs p.1 i (omega (arith, low))

pub from_there : (source : ℕ → ℕ → Type 0) (a b : HostId) (xs : List PartRegisters) → AreFrom source a b xs → (i : ℕ) → i < length xs
    → source a.0 (parts_at xs i).first.0 × source b.0 (parts_at xs i).second.0
from_there source a b [] p i low = none_below i low
from_there source a b (x ∷ xs) p zero low = p.0
from_there source a b (x ∷ xs) p (suc i) low = from_there source a b xs p.1 i (omega (arith, low))

pub same_count : (a b : HostId) (next : List ℕ) (w : Hosts) (xs : List PartRegisters) (vs : List ℕ) → AreParts a b next w xs vs → length xs ≡ length vs
same_count a b next w [] [] p = refl
same_count a b next w (x ∷ xs) (v ∷ vs) p = (let e = same_count a b next w xs vs p.1 in omega (arith, e))
same_count a b next w [] (v ∷ vs) p = absurd p
same_count a b next w (x ∷ xs) [] p = absurd p

-- one more, in a later state
pub parts_more : (a b : HostId) (next next' : List ℕ) (w u : Hosts) (xs : List PartRegisters) (vs : List ℕ) (y : PartRegisters) (v : ℕ) → Since next w next' u
    → AreParts a b next w xs vs → Parts ByXors a b next' u y v → AreParts a b next' u (xs ++ y ∷ []) (vs ++ v ∷ [])
parts_more a b next next' w u [] [] y v since p q = (q, tt)
parts_more a b next next' w u (x ∷ xs) (z ∷ vs) y v since p q =
    (parts_later ByXors a b next next' w u x z since p.0, parts_more a b next next' w u xs vs y v since p.1 q)
parts_more a b next next' w u [] (z ∷ vs) y v since p q = absurd p
parts_more a b next next' w u (x ∷ xs) [] y v since p q = absurd p

pub from_more : (source source' : ℕ → ℕ → Type 0) (a b : HostId) (xs : List PartRegisters) (y : PartRegisters) → ((h r : ℕ) → source h r → source' h r)
    → AreFrom source a b xs → source' a.0 y.first.0 × source' b.0 y.second.0 → AreFrom source' a b (xs ++ y ∷ [])
from_more source source' a b [] y wider p q = (q, tt)
from_more source source' a b (x ∷ xs) y wider p q =
    ((wider a.0 x.first.0 p.0.0, wider b.0 x.second.0 p.0.1), from_more source source' a b xs y wider p.1 q)

pub from_wider : (source source' : ℕ → ℕ → Type 0) (a b : HostId) (xs : List PartRegisters) → ((h r : ℕ) → source h r → source' h r)
    → AreFrom source a b xs → AreFrom source' a b xs
from_wider source source' a b [] wider p = tt
from_wider source source' a b (x ∷ xs) wider p = ((wider a.0 x.first.0 p.0.0, wider b.0 x.second.0 p.0.1), from_wider source source' a b xs wider p.1)
