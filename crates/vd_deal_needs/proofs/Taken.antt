-- Items taken from a list, counted from the end of a text to its front.
use Rattle.std.proofs.Common.{◌≡◌, ℕ, zero, suc, ◌+◌, ◌-◌, ◌*◌, ◌^◌, ◌<◌, ◌≤◌, Bool, true, false, if◌then◌else◌, List, [], ◌∷◌, ◌++◌, length, take, drop, get_or, Option, Some, None, refl, sym, ap, ap₂, ◌∙◌, arith}
use Rattle.std.proofs.lemmas.List.{drop_more, drop_all, take-append-drop}
use Rattle.vd_execution.specs.declared.instructions.Instr.{Instr}
use Rattle.vd_execution.specs.Code.{Code, Finished, Then, Send, Recv, Choose, Repeat, weight}
use Rattle.vd_execution.specs.Step.{Source, same_source}
use Rattle.vd_execution.specs.Text.{Open, Reading, with_instr, read_before, read}
use Rattle.vd_deal_needs.specs.DealNeedsLawsNeeds.{counts, one_of, source_of}
use Rattle.vd_deal_needs.specs.declared.blocks.TakenBehind.{TakenBehind}
use Rattle.vd_deal_needs.specs.Counted.{Counts, IsCountable, capped, code_in}

abbrev reading : Code → List Open → Reading
reading c os = record { code = c; blocks = os }

-- what was counted is taken by what was read from here on
pub record SoFar (r : Source) (code : List Instr) (left taken : ℕ) (blocks : List TakenBehind) : Type 0 where
  pub so_far : Reading
  pub reads : read (drop left code) ≡ Some so_far
  pub counted : Counts r taken blocks so_far

pub begun : (r : Source) (code : List Instr) (left taken : ℕ) (blocks : List TakenBehind) → length code ≤ left → taken ≡ 0 → blocks ≡ [] → SoFar r code left taken blocks
begun r code left taken blocks le e f = record {
  so_far = reading Finished [];
  reads = ap read (drop_all left code le);
  counted = record { taken_is = e; blocks_are = f };
}

with_none : (i : Instr) (o : Option Reading) (q : Reading) → read_before i o ≡ Some q → (x : Reading) × (o ≡ Some x)
with_none i None q e = absurd cc
with_none i (Some x) q e = (x, refl)

-- what stands behind in a text that is read can be read
behind_reads : (front is : List Instr) (q : Reading) → read (front ++ is) ≡ Some q → (x : Reading) × (read is ≡ Some x)
behind_reads [] is q e = (q, e)
behind_reads (i ∷ front) is q e = let x = with_none i (read (front ++ is)) q e in behind_reads front is x.0 x.1

pub one_more : (r : Source) (code : List Instr) (i : Instr) (left next taken count : ℕ) (blocks new : List TakenBehind) → IsCountable code → next + 1 ≡ left → next < length code → i ≡ get_or code next i
    → ((x y : Reading) → Counts r taken blocks x → with_instr i x.code x.blocks ≡ Some y → Counts r count new y) → SoFar r code left taken blocks → SoFar r code next count new
one_more r code i left next taken count blocks new is n lt there goes s =
    let whole : read (take next code ++ drop next code) ≡ Some (reading (code_in code) []) = ap read (take-append-drop next code) ∙ is.nested in
    let q = behind_reads (take next code) (drop next code) (reading (code_in code) []) whole in
    let front : drop next code ≡ i ∷ drop left code = drop_more code next i lt ∙ ap₂ (λ (j : Instr) (k : ℕ). j ∷ drop k code) (sym there) n in
    let with : with_instr i s.so_far.code s.so_far.blocks ≡ Some q.0 = ap (read_before i) (sym s.reads) ∙ ap read (sym front) ∙ q.1 in
    record { so_far = q.0; reads = q.1; counted = goes s.so_far q.0 s.counted with }

-- ---- a code takes at most one item a step

one_at_most : (b : Bool) → (if b then 1 else 0) ≤ 1
one_at_most true = omega arith
one_at_most false = omega arith

takes_one : (o : Option Source) (r : Source) → one_of o r ≤ 1
takes_one None r = omega arith
takes_one (Some s) r = one_at_most (same_source r s)

turns_within : (n x w : ℕ) → x ≤ w → n * x ≤ n * suc w
turns_within zero x w le = omega arith
turns_within (suc n) x w le = let i = turns_within n x w le in omega (arith, i, le)

counts_within : (c : Code) (r : Source) → counts c r ≤ weight c
counts_within Finished r = omega arith
counts_within (Then a c) r = let i = counts_within c r in let one = takes_one (source_of a) r in omega (arith, i, one)
counts_within (Send p rs c) r = let i = counts_within c r in omega (arith, i)
counts_within (Recv p rs c) r = let i = counts_within c r in omega (arith, i)
counts_within (Choose g first other c) r =
    let i = counts_within first r in
    let j = counts_within other r in
    let k = counts_within c r in
    omega (arith, i, j, k)
counts_within (Repeat q t n body c) r =
    let i = turns_within (n - t) (counts body r) (weight body) (counts_within body r) in
    let k = counts_within c r in
    omega (arith, i, k)

-- ---- at the front of the text

pub few : (r : Source) (code : List Instr) → IsCountable code → counts (code_in code) r < 2 ^ 32
few r code is = let w = counts_within (code_in code) r in let s = is.few in omega (arith, w, s)

uncapped : (n m : ℕ) → n ≡ capped m → m < 2 ^ 32 → n ≡ m
uncapped n m e lt = omega (arith, e, lt)

same_reading : (x y : Reading) → Some x ≡ Some y → x.code ≡ y.code
same_reading x y e = let same : x ≡ y = cc in ap (λ z. z.code) same

pub told : (r : Source) (code : List Instr) (left taken : ℕ) (blocks : List TakenBehind) → IsCountable code → left ≡ 0 → SoFar r code left taken blocks → taken ≡ counts (code_in code) r
told r code left taken blocks is none s =
    let all : read code ≡ Some s.so_far = ap (λ k. read (drop k code)) (sym none) ∙ s.reads in
    let same : s.so_far.code ≡ code_in code = same_reading s.so_far (reading (code_in code) []) (sym all ∙ is.nested) in
    uncapped taken (counts (code_in code) r) (s.counted.taken_is ∙ ap (λ c. capped (counts c r)) same) (few r code is)
