-- The order of what stays.
use Rattle.std.proofs.Common.{◌≡◌, ℕ, zero, suc, List, Bool, true, false, ◌&&◌, if◌then◌else◌, refl, sym, ap, ap₂, ◌∙◌}
use Rattle.vd_execution.specs.declared.instructions.Action.TheVariants as action
use Rattle.vd_execution.specs.Code.{Code, Finished, Then, Send, Recv, Choose, Repeat}
use Rattle.vd_execution.specs.Text.{register}
use Rattle.vd_execution.specs.World.{Supply, run, IsStuck}
use Rattle.vd_execution.specs.Joint.{Joint, code_of, at_end}
use Rattle.vd_execution.specs.Claims.{RunsWell, RunsToItsEnd, IsOnTheWay, IsOf, last_of}
use Rattle.vd_reorder.specs.Hastening.{Piece, Acts, Sends, Awaits, before, MayPass, Stretch, One, Branch, Loop, stretch_before, AreHastened}
use Rattle.vd_reorder.proofs.Hosts.{hastened_on_the_way, hastened_end}
use Rattle.vd_reorder.specs.ReorderLawsPassing.{passes_turns, passes_all, passes_stretch, sunk, hastened}
use Rattle.vd_reorder.specs.ReorderLawsTesting.{may}
use Rattle.vd_reorder.specs.Careful.{careful, branch_of, loop_of, spine, IsCarefullyHastened, hastened_start}
use Rattle.vd_reorder.proofs.ReorderLawsPassing.{pass_exchanges}
use Rattle.vd_reorder.proofs.ReorderLawsTesting.{sound}

abbrev with : Bool → Piece → Code → Code
with b x c = if b then before x c else c

spine_before : (stays : Piece → Bool) (x : Piece) (c : Code) → spine stays (before x c) ≡ with (stays x) x (spine stays c)
spine_before stays (Acts a) c = refl
spine_before stays (Sends p rs) c = refl
spine_before stays (Awaits p rs) c = refl

careful_may : (a b c : Bool) → (if a then (if b then (if c then false else true) else true) else false) ≡ true → a ≡ true
careful_may true b c e = refl
careful_may false b c e = absurd cc

careful_sound : (stays : Piece → Bool) (x y : Piece) → careful stays x y ≡ true → MayPass x y
careful_sound stays x y e = sound x y (careful_may (may x y) (stays x) (stays y) e)

-- one of two that are exchanged does not stay
either_order : (a b c : Bool) (x y : Piece) (k : Code) → (if a then (if b then (if c then false else true) else true) else false) ≡ true → with c y (with b x k) ≡ with b x (with c y k)
either_order false b c x y k e = absurd cc
either_order true true true x y k e = absurd cc
either_order true true false x y k e = refl
either_order true false c x y k e = refl

-- a stretch before what is left of a code
abbrev spine_of : (Piece → Bool) → Stretch → Code → Code
spine_of stays (One x) k = with (stays x) x k
spine_of stays (Branch g first other) k = branch_of g (spine stays first) (spine stays other) k
spine_of stays (Loop r t n body) k = loop_of r t n (spine stays body) k

spine_stretch : (stays : Piece → Bool) (x : Stretch) (c : Code) → spine stays (stretch_before x c) ≡ spine_of stays x (spine stays c)
spine_stretch stays (One x) c = spine_before stays x c
spine_stretch stays (Branch g first other) c = refl
spine_stretch stays (Loop r t n body) c = refl

both : (a b : Bool) → (a && b) ≡ true → (a ≡ true) × (b ≡ true)
both true b e = (refl, e)
both false b e = absurd cc

-- what is passed by a piece that stays does not stay
not_both : (a b c : Bool) → c ≡ true → (if a then (if b then (if c then false else true) else true) else false) ≡ true → b ≡ false
not_both a false c s e = refl
not_both false true c s e = absurd cc
not_both true true true s e = absurd cc
not_both true true false s e = absurd cc

none_stays : (stays : Piece → Bool) (y : Piece) (c : Code) → stays y ≡ true → passes_all (careful stays) y c ≡ true → spine stays c ≡ Finished
none_stays stays y Finished s e = refl
none_stays stays y (Then a c) s e =
    let b = both (careful stays (Acts a) y) (passes_all (careful stays) y c) e in
    ap (λ z. if z then Then a (spine stays c) else spine stays c) (not_both (may (Acts a) y) (stays (Acts a)) (stays y) s b.0) ∙ none_stays stays y c s b.1
none_stays stays y (Send p rs c) s e = absurd cc
none_stays stays y (Recv p rs c) s e = absurd cc
none_stays stays y (Choose g first other c) s e =
    let test = careful stays in
    let p : Bool = test (Acts (action.Print (register g))) y in
    let a = both (p && (passes_all test y first && passes_all test y other)) (passes_all test y c) e in
    let b = both p (passes_all test y first && passes_all test y other) a.0 in
    let w = both (passes_all test y first) (passes_all test y other) b.1 in
    ap₂ (λ (f o : Code). branch_of g f o (spine stays c)) (none_stays stays y first s w.0) (none_stays stays y other s w.1) ∙ none_stays stays y c s a.1
none_stays stays y (Repeat r t n body c) s e =
    let test = careful stays in
    let a = both (passes_turns test y r n && passes_all test y body) (passes_all test y c) e in
    let b = both (passes_turns test y r n) (passes_all test y body) a.0 in
    ap (λ (k : Code). loop_of r t n k (spine stays c)) (none_stays stays y body s b.1) ∙ none_stays stays y c s a.1

-- of a piece and a stretch that are exchanged one has nothing that stays
stretch_order : (stays : Piece → Bool) (x : Stretch) (y : Piece) (k : Code) → passes_stretch (careful stays) x y ≡ true → (c : Bool) → stays y ≡ c
    → with c y (spine_of stays x k) ≡ spine_of stays x (with c y k)
stretch_order stays x y k e false s = refl
stretch_order stays (One x) y k e true s =
    ap (λ c. with c y (with (stays x) x k)) (sym s) ∙ either_order (may x y) (stays x) (stays y) x y k e ∙ ap (λ c. with (stays x) x (with c y k)) s
stretch_order stays (Branch g first other) y k e true s =
    let test = careful stays in
    let b = both (test (Acts (action.Print (register g))) y) (passes_all test y first && passes_all test y other) e in
    let w = both (passes_all test y first) (passes_all test y other) b.1 in
    let f = none_stays stays y first s w.0 in
    let o = none_stays stays y other s w.1 in
    ap₂ (λ (p q : Code). before y (branch_of g p q k)) f o ∙ sym (ap₂ (λ (p q : Code). branch_of g p q (before y k)) f o)
stretch_order stays (Loop r t n body) y k e true s =
    let test = careful stays in
    let b = both (passes_turns test y r n) (passes_all test y body) e in
    let f = none_stays stays y body s b.1 in
    ap (λ (p : Code). before y (loop_of r t n p k)) f ∙ sym (ap (λ (p : Code). loop_of r t n p (before y k)) f)

step_order : (stays : Piece → Bool) (x : Stretch) (y : Piece) (c d : Code) (b : Bool) → passes_stretch (careful stays) x y ≡ b → spine stays d ≡ spine_of stays x (spine stays c)
    → spine stays (if b then before y d else stretch_before x (before y c)) ≡ spine_of stays x (with (stays y) y (spine stays c))
step_order stays x y c d true e ih =
    spine_before stays y d ∙ ap (with (stays y) y) ih ∙ stretch_order stays x y (spine stays c) e (stays y) refl
step_order stays x y c d false e ih = spine_stretch stays x (before y c) ∙ ap (spine_of stays x) (spine_before stays y c)

sunk_order : (stays : Piece → Bool) (n : ℕ) (x : Stretch) (c : Code) → spine stays (sunk (careful stays) n x c) ≡ spine_of stays x (spine stays c)
sunk_order stays n x Finished = spine_stretch stays x Finished
sunk_order stays n x (Then a c) = step_order stays x (Acts a) c (sunk (careful stays) n x c) (passes_stretch (careful stays) x (Acts a)) refl (sunk_order stays n x c)
sunk_order stays zero x (Send p rs c) = spine_stretch stays x (Send p rs c)
sunk_order stays (suc n) x (Send p rs c) = step_order stays x (Sends p rs) c (sunk (careful stays) n x c) (passes_stretch (careful stays) x (Sends p rs)) refl (sunk_order stays n x c)
sunk_order stays n x (Recv p rs c) = spine_stretch stays x (Recv p rs c)
sunk_order stays n x (Choose g first other c) = spine_stretch stays x (Choose g first other c)
sunk_order stays n x (Repeat r t m body c) = spine_stretch stays x (Repeat r t m body c)

same_order : (stays : Piece → Bool) (n : ℕ) (c : Code) → spine stays (hastened (careful stays) n c) ≡ spine stays c
same_order stays n Finished = refl
same_order stays n (Then a c) = sunk_order stays n (One (Acts a)) (hastened (careful stays) n c) ∙ ap (with (stays (Acts a)) (Acts a)) (same_order stays n c)
same_order stays n (Send p rs c) = ap (with (stays (Sends p rs)) (Sends p rs)) (same_order stays n c)
same_order stays n (Recv p rs c) = sunk_order stays n (One (Awaits p rs)) (hastened (careful stays) n c) ∙ ap (with (stays (Awaits p rs)) (Awaits p rs)) (same_order stays n c)
same_order stays n (Choose g first other c) =
    let f : Code = hastened (careful stays) n first in
    let o : Code = hastened (careful stays) n other in
    let d : Code = hastened (careful stays) n c in
    sunk_order stays n (Branch g f o) d
    ∙ ap (λ k. branch_of g k (spine stays o) (spine stays d)) (same_order stays n first)
    ∙ ap₂ (λ (x y : Code). branch_of g (spine stays first) x y) (same_order stays n other) (same_order stays n c)
same_order stays n (Repeat r t m body c) =
    sunk_order stays n (Loop r t m (hastened (careful stays) n body)) (hastened (careful stays) n c)
    ∙ ap₂ (λ (x y : Code). loop_of r t m x y) (same_order stays n body) (same_order stays n c)

pub careful_passes : (stays : Piece → Bool) (n : ℕ) (c : Code) → IsCarefullyHastened stays c (hastened (careful stays) n c)
careful_passes stays n c = record { hastened = pass_exchanges (careful stays) n c (careful_sound stays); order = same_order stays n c }

-- all hosts
all_hastened : (j : Joint) (n : ℕ) (stays : ℕ → Piece → Bool) (window : ℕ → ℕ) → IsOf n j → AreHastened n j (λ h. hastened (careful (stays h)) (window h) (code_of h j))
all_hastened j n stays window over = record {
  each = λ h. (careful_passes (stays h) (window h) (code_of h j)).hastened;
  others = λ h le. over h le ∙ sym (ap (hastened (careful (stays h)) (window h)) (over h le));
}

pub start_on_the_way : (s : Supply) (j : Joint) (n : ℕ) (stays : ℕ → Piece → Bool) (window : ℕ → ℕ) (b : List ℕ) → RunsWell s j → IsOf n j
    → IsOnTheWay s (run s b (hastened_start j stays window)) (last_of s j)
start_on_the_way s j n stays window b well over = hastened_on_the_way s j n (λ h. hastened (careful (stays h)) (window h) (code_of h j)) b well (all_hastened j n stays window over)

pub start_ends : (s : Supply) (j : Joint) (n : ℕ) (stays : ℕ → Piece → Bool) (window : ℕ → ℕ) (b : List ℕ) → RunsToItsEnd s j → IsOf n j
    → IsStuck s (run s b (hastened_start j stays window)) → run s b (hastened_start j stays window) ≡ at_end (last_of s j)
start_ends s j n stays window b runs over stuck = hastened_end s j n (λ h. hastened (careful (stays h)) (window h) (code_of h j)) b runs (all_hastened j n stays window over) stuck
