-- Words that nothing else uses.
use Rattle.std.proofs.Common.{◌≡◌, ℕ, zero, suc, ◌+◌, ◌-◌, ◌<◌, nat_eq, Bool, true, false, ◌&&◌, List, [], ◌∷◌, ◌++◌, reverse, length, refl, sym, ap, ◌∙◌, arith}
use Rattle.std.proofs.lemmas.Bool.{eq-eqb, ne_eqb, eqb-true, eqb-false}
use Rattle.std.proofs.lemmas.List.{length-append, length-reverse}
use Rattle.vd_execution.specs.declared.instructions.Reg.{Reg}
use Rattle.vd_execution.specs.declared.instructions.Instr.{Instr}
use Rattle.vd_execution.specs.Text.{register}
use Rattle.vd_reorder.specs.Packets.{since, is_latest, is_secret, are_secret}

-- ---- the latest that touches a register

length_at_end : (rest earlier : List Instr) (last : Instr) → rest ≡ earlier ++ last ∷ [] → length rest ≡ suc (length earlier)
length_at_end rest earlier last is = let l = length-append earlier (last ∷ []) in ap length is ∙ omega (arith, l)

shifted : (a b : ℕ) → nat_eq (suc a) (suc b) ≡ nat_eq a b
shifted a b = by (nat_eq a b) refl
  where
    by : (c : Bool) → nat_eq a b ≡ c → nat_eq (suc a) (suc b) ≡ c
    by true e = let same = eqb-true a b e in eq-eqb (suc a) (suc b) (omega (arith, same))
    by false e = ne_eqb (suc a) (suc b) (λ f. eqb-false a b e (omega (arith, f)))

pub same_place : (all before rest earlier : List Instr) (last : Instr) (r : Reg) → reverse rest ≡ since r (reverse all) → rest ≡ earlier ++ last ∷ []
    → is_latest (reverse all) r (reverse before) ≡ nat_eq (length earlier) (length before)
same_place all before rest earlier last r there is =
    ap (λ l. nat_eq (length l) (suc (length (reverse before)))) (sym there)
    ∙ ap (λ n. nat_eq n (suc (length (reverse before)))) (length-reverse rest ∙ length_at_end rest earlier last is)
    ∙ shifted (length earlier) (length (reverse before))
    ∙ ap (nat_eq (length earlier)) (length-reverse before)

pub no_place : (all before rest : List Instr) (r : Reg) → reverse rest ≡ since r (reverse all) → rest ≡ [] → is_latest (reverse all) r (reverse before) ≡ false
no_place all before rest r there is =
    ap (λ l. nat_eq (length l) (suc (length (reverse before)))) (sym there ∙ ap reverse is)
    ∙ ne_eqb 0 (suc (length (reverse before))) (λ f. omega (arith, f))

-- ---- so many registers in a row

pub no_secret : (all before : List Instr) (r left : ℕ) → 0 < left → is_secret all before (register r) ≡ false → are_secret all before r left ≡ false
no_secret all before r zero some e = absurd (omega (arith, some))
no_secret all before r (suc left) some e = ap (λ b. b && are_secret all before (r + 1) left) e

pub next_secret : (all before : List Instr) (r left : ℕ) → 0 < left → is_secret all before (register r) ≡ true
    → are_secret all before r left ≡ are_secret all before (r + 1) (left - 1)
next_secret all before r zero some e = absurd (omega (arith, some))
next_secret all before r (suc left) some e =
    let one_less : left ≡ suc left - 1 = omega arith in
    ap (λ b. b && are_secret all before (r + 1) left) e ∙ ap (are_secret all before (r + 1)) one_less

pub none_left : (all before : List Instr) (r left : ℕ) → left ≡ 0 → are_secret all before r left ≡ true
none_left all before r left e = ap (are_secret all before r) e
