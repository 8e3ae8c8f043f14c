-- What is told, counted from the end of a text to its front.
use Rattle.std.proofs.Common.{◌≡◌, ℕ, zero, suc, ◌+◌, ◌-◌, ◌*◌, ◌^◌, ◌<◌, ◌≤◌, Bool, true, false, nat_eq, if◌then◌else◌, List, [], ◌∷◌, ◌++◌, length, take, drop, get_or, min, max, Option, Some, None, refl, sym, ap, ap₂, ◌∙◌, arith}
use Rattle.std.proofs.lemmas.List.{drop_more, drop_all, take-append-drop}
use Rattle.vd_execution.specs.declared.instructions.Instr.{Instr}
use Rattle.vd_execution.specs.declared.instructions.Reg.{Reg}
use Rattle.vd_execution.specs.Code.{Code, Finished, Then, Send, Recv, Choose, Repeat, weight}
use Rattle.vd_execution.specs.Text.{Open, Reading, IsCodeOf, with_instr, read_before, read}
use Rattle.vd_rounds.specs.declared.tallies.Bound.{Bound}
use Rattle.vd_rounds.specs.declared.tallies.Bound.TheVariants.{Least, Most}
use Rattle.vd_rounds.specs.declared.tallies.Measure.{Measure}
use Rattle.vd_rounds.specs.declared.tallies.Measure.TheVariants.{Packets, Words}
use Rattle.vd_rounds.specs.declared.tallies.Tally.{Tally}
use Rattle.vd_rounds.specs.declared.tallies.ToldBehind.{ToldBehind}
use Rattle.vd_rounds.specs.Tallies.{Counts, IsTold, PacketsAreShort, capped, chosen, size_by, told}

abbrev reading : Code → List Open → Reading
reading c os = record { code = c; blocks = os }

-- what was counted is told by what was read from here on
pub record SoFar (t : Tally) (code : List Instr) (left count : ℕ) (blocks : List ToldBehind) : Type 0 where
  pub so_far : Reading
  pub reads : read (drop left code) ≡ Some so_far
  pub counted : Counts t count blocks so_far

pub begun : (t : Tally) (code : List Instr) (left count : ℕ) (blocks : List ToldBehind) → length code ≤ left → count ≡ 0 → blocks ≡ [] → SoFar t code left count blocks
begun t code left count blocks le e f = record {
  so_far = reading Finished [];
  reads = ap read (drop_all left code le);
  counted = record { told_is = e; blocks_are = f };
}

with_none : (i : Instr) (o : Option Reading) (q : Reading) → read_before i o ≡ Some q → (x : Reading) × (o ≡ Some x)
with_none i None q e = absurd cc
with_none i (Some x) q e = (x, refl)

-- what stands behind in a text that is read can be read
behind_reads : (front is : List Instr) (q : Reading) → read (front ++ is) ≡ Some q → (x : Reading) × (read is ≡ Some x)
behind_reads [] is q e = (q, e)
behind_reads (i ∷ front) is q e = let x = with_none i (read (front ++ is)) q e in behind_reads front is x.0 x.1

pub one_more : (t : Tally) (code : List Instr) (i : Instr) (left next count now : ℕ) (blocks new : List ToldBehind) → IsTold code → next + 1 ≡ left → next < length code → i ≡ get_or code next i
    → ((x y : Reading) → Counts t count blocks x → with_instr i x.code x.blocks ≡ Some y → Counts t now new y) → SoFar t code left count blocks → SoFar t code next now new
one_more t code i left next count now blocks new is n lt there goes s =
    let whole : read (take next code ++ drop next code) ≡ Some (reading is.nested []) = ap read (take-append-drop next code) ∙ is.is_code in
    let q = behind_reads (take next code) (drop next code) (reading is.nested []) whole in
    let front : drop next code ≡ i ∷ drop left code = drop_more code next i lt ∙ ap₂ (λ (j : Instr) (k : ℕ). j ∷ drop k code) (sym there) n in
    let with : with_instr i s.so_far.code s.so_far.blocks ≡ Some q.0 = ap (read_before i) (sym s.reads) ∙ ap read (sym front) ∙ q.1 in
    record { so_far = q.0; reads = q.1; counted = goes s.so_far q.0 s.counted with }

-- ---- a code tells at most sixteen words a step

size_within : (m : Measure) (rs : List Reg) → length rs ≤ 16 → size_by m rs ≤ 16
size_within Packets rs le = omega arith
size_within Words rs le = le

one_within : (b : Bool) (n : ℕ) → n ≤ 16 → (if b then n else 0) ≤ 16
one_within true n le = le
one_within false n le = omega arith

chosen_within : (b : Bound) (x y m : ℕ) → x ≤ m → y ≤ m → chosen b x y ≤ m
chosen_within Least x y m p q = omega (arith, p, q)
chosen_within Most x y m p q = omega (arith, p, q)

turns_within : (n x w : ℕ) → x ≤ 16 * w → n * x ≤ 16 * (n * suc w)
turns_within zero x w le = omega arith
turns_within (suc n) x w le = let i = turns_within n x w le in omega (arith, i, le)

told_within : (t : Tally) (c : Code) → PacketsAreShort c → told t c ≤ 16 * weight c
told_within t Finished s = omega arith
told_within t (Then a c) s = let i = told_within t c s in omega (arith, i)
told_within t (Send p rs c) s =
    let one = one_within (nat_eq t.peer.0 p) (size_by t.measure rs) (size_within t.measure rs s.0) in
    let i = told_within t c s.1 in
    omega (arith, i, one)
told_within t (Recv p rs c) s = let i = told_within t c s in omega (arith, i)
told_within t (Choose g first other c) s =
    let i = told_within t first s.0 in
    let j = told_within t other s.1.0 in
    let both = chosen_within t.bound (told t first) (told t other) (16 * (weight first + weight other)) (omega (arith, i)) (omega (arith, j)) in
    let k = told_within t c s.1.1 in
    omega (arith, both, k)
told_within t (Repeat q turn n body c) s =
    let i = turns_within (n - turn) (told t body) (weight body) (told_within t body s.0) in
    let k = told_within t c s.1 in
    omega (arith, i, k)

-- ---- at the front of the text

pub few : (t : Tally) (code : List Instr) (is : IsTold code) → told t is.nested < 1099511627776
few t code is = let w = told_within t is.nested is.short in let s = is.few in omega (arith, w, s)

uncapped : (n m : ℕ) → n ≡ capped m → m < 1099511627776 → n ≡ m
uncapped n m e lt = omega (arith, e, lt)

same_reading : (x y : Reading) → Some x ≡ Some y → x.code ≡ y.code
same_reading x y e = let same : x ≡ y = cc in ap (λ z. z.code) same

pub all_told : (t : Tally) (code : List Instr) (left count : ℕ) (blocks : List ToldBehind) → IsTold code → left ≡ 0 → SoFar t code left count blocks
    → (c : Code) → IsCodeOf code c → count ≡ told t c
all_told t code left count blocks is none s c there =
    let all : read code ≡ Some s.so_far = ap (λ k. read (drop k code)) (sym none) ∙ s.reads in
    let same : s.so_far.code ≡ is.nested = same_reading s.so_far (reading is.nested []) (sym all ∙ is.is_code) in
    let this : is.nested ≡ c = same_reading (reading is.nested []) (reading c []) (sym is.is_code ∙ there) in
    uncapped count (told t is.nested) (s.counted.told_is ∙ ap (λ d. capped (told t d)) same) (few t code is) ∙ ap (told t) this
