-- The code of a host, line by line.
use Rattle.std.proofs.Common.{◌≡◌, ℕ, ◌+◌, ◌<◌, nat_eq, Bool, true, false, if◌then◌else◌, List, [], ◌∷◌, ◌++◌, length, drop, slice_index_or, refl, sym, ap, ◌∙◌, append_assoc}
use Rattle.vd_execution.specs.declared.instructions.Act.{Act}
use Rattle.vd_execution.specs.declared.instructions.Act.TheVariants as act
use Rattle.vd_execution.specs.declared.instructions.Instr.{Instr}
use Rattle.vd_execution.specs.declared.instructions.Instr.TheVariants as instr
use Rattle.vd_execution.specs.declared.instructions.Line.{Line}
use Rattle.vd_execution.specs.declared.instructions.Line.TheVariants as line
use Rattle.vd_execution.specs.Text.{pick, pick_act}
use Rattle.vd_split.proofs.Drops.{drop_next}

one_first : (b : Bool) (i : Instr) (rest : List Instr) → (if b then i ∷ rest else rest) ≡ (if b then i ∷ [] else []) ++ rest
one_first true i rest = refl
one_first false i rest = refl

two_first : (a b : Bool) (i j : Instr) (rest : List Instr) → (if a then i ∷ rest else (if b then j ∷ rest else rest)) ≡ (if a then i ∷ [] else (if b then j ∷ [] else [])) ++ rest
two_first true b i j rest = refl
two_first false true i j rest = refl
two_first false false i j rest = refl

act_first : (h : ℕ) (x : Act) (rest : List Instr) → pick_act h x rest ≡ pick_act h x [] ++ rest
act_first h (act.Do a x) rest = one_first (nat_eq h a.0) (instr.Do x) rest
act_first h (act.Msg a said b heard) rest = two_first (nat_eq h a.0) (nat_eq h b.0) (instr.Send b said) (instr.Recv a heard) rest

line_first : (h : ℕ) (l : Line) (ls : List Line) → pick h (l ∷ ls) ≡ pick h (l ∷ []) ++ pick h ls
line_first h (line.Act x) ls = act_first h x (pick h ls)
line_first h (line.If a g) ls = one_first (nat_eq h a.0) (instr.If g) (pick h ls)
line_first h (line.Else a) ls = one_first (nat_eq h a.0) instr.Else (pick h ls)
line_first h (line.For a r count) ls = one_first (nat_eq h a.0) (instr.For r count) (pick h ls)
line_first h (line.End a) ls = one_first (nat_eq h a.0) instr.End (pick h ls)

pub pick_turn : (h : ℕ) (lines : List Line) (i : ℕ) (l : Line) (code code' goal : List Instr) → i < length lines → l ≡ slice_index_or lines i l → code' ≡ code ++ pick h (l ∷ [])
    → code ++ pick h (drop i lines) ≡ goal → code' ++ pick h (drop (i + 1) lines) ≡ goal
pick_turn h lines i l code code' goal lt is more e =
    let rest = drop (i + 1) lines in
    ap (λ (c : List Instr). c ++ pick h rest) more ∙ append_assoc code (pick h (l ∷ [])) (pick h rest)
    ∙ ap (λ (c : List Instr). code ++ c) (sym (line_first h l rest))
    ∙ ap (λ (ls : List Line). code ++ pick h ls) (ap (λ (x : Line). x ∷ rest) is ∙ sym (drop_next lines i l lt)) ∙ e
