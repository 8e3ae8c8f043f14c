-- What was done before an instruction, the latest first.
use Rattle.std.proofs.Common.{◌≡◌, ℕ, ◌+◌, ◌<◌, Bool, true, false, if◌then◌else◌, List, [], ◌∷◌, ◌++◌, reverse, length, take, get_or, sym, ap, ◌∙◌, arith}
use Rattle.std.specs.List.{filter}
use Rattle.std.proofs.lemmas.List.{reverse-append, append_assoc, take_all}
use Rattle.std.proofs.lemmas.List.Elements.{filter_more}
use Rattle.vd_execution.specs.declared.instructions.Reg.{Reg}
use Rattle.vd_execution.specs.declared.instructions.Instr.{Instr}
use Rattle.vd_execution.specs.declared.instructions.Instr.TheVariants as instr
use Rattle.vd_reorder.specs.Packets.{touches, since, latest}

last_first : (rest earlier : List Instr) (last : Instr) → rest ≡ earlier ++ last ∷ [] → reverse rest ≡ last ∷ reverse earlier
last_first rest earlier last is = ap reverse is ∙ reverse-append earlier (last ∷ [])

since_by : (r : Reg) (i : Instr) (before : List Instr) (b : Bool) → touches r i ≡ b → since r (i ∷ before) ≡ (if b then i ∷ before else since r before)
since_by r i before b e = ap (λ t. if t then i ∷ before else since r before) e

-- the latest touches the register
pub stops : (r : Reg) (rest earlier : List Instr) (last : Instr) → rest ≡ earlier ++ last ∷ [] → touches r last ≡ true → since r (reverse rest) ≡ reverse rest
stops r rest earlier last is touched = ap (since r) (last_first rest earlier last is) ∙ since_by r last (reverse earlier) true touched ∙ sym (last_first rest earlier last is)

-- or it does not
pub goes_back : (r : Reg) (rest earlier : List Instr) (last : Instr) → rest ≡ earlier ++ last ∷ [] → touches r last ≡ false → since r (reverse rest) ≡ since r (reverse earlier)
goes_back r rest earlier last is left = ap (since r) (last_first rest earlier last is) ∙ since_by r last (reverse earlier) false left

-- ---- the registers that packets open

pub register_opened : (test : Reg → Bool) (sent : List Reg) (place : ℕ) (r : Reg) (old known new : List Reg) → place < length sent → r ≡ get_or sent place r
    → known ≡ old ++ filter test (take place sent) → new ≡ known ++ (if test r then r ∷ [] else []) → new ≡ old ++ filter test (take (place + 1) sent)
register_opened test sent place r old known new lt there known_is new_is =
    let added : List Reg = if test r then r ∷ [] else [] in
    new_is
    ∙ ap (λ l. l ++ added) known_is
    ∙ append_assoc old (filter test (take place sent)) added
    ∙ ap (λ q. old ++ (filter test (take place sent) ++ (if test q then q ∷ [] else []))) there
    ∙ ap (λ l. old ++ l) (sym (filter_more test sent place r lt))

pub registers_opened : (test : Reg → Bool) (sent : List Reg) (place : ℕ) (old known : List Reg) → length sent ≡ place → known ≡ old ++ filter test (take place sent) → known ≡ old ++ filter test sent
registers_opened test sent place old known end known_is = known_is ∙ ap (λ l. old ++ filter test l) (take_all place sent (omega (arith, end)))

-- the latest of what was done
pub latest_is : (test : Instr → List Instr → Bool) (before : List Instr) (rest earlier : List Instr) (last : Instr) → reverse rest ≡ before → rest ≡ earlier ++ last ∷ []
    → latest test before ≡ test last (reverse earlier)
latest_is test before rest earlier last there is = ap (latest test) (sym there) ∙ ap (latest test) (last_first rest earlier last is)

pub latest_none : (test : Instr → List Instr → Bool) (before : List Instr) (rest : List Instr) → reverse rest ≡ before → rest ≡ [] → latest test before ≡ false
latest_none test before rest there is = ap (latest test) (sym there) ∙ ap (λ l. latest test (reverse l)) is
