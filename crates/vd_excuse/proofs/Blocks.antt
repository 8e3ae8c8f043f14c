-- Lines that open a block, turn to its other part and end it.
use Rattle.std.proofs.Common.{◌≡◌, ℕ, suc, ◌+◌, ◌-◌, nat_eq, nat_le, Bool, true, false, not, ◌&&◌, if◌then◌else◌, List, [], ◌∷◌, ◌++◌, append_assoc, append-nil, length, Option, Some, None, refl, sym, ap, subst, ◌∙◌, inl, inr, arith}
use Rattle.std.specs.Prelude.{◌||◌}
use Rattle.std.proofs.lemmas.List.Folds.{list_any-append}
use Rattle.std.proofs.lemmas.Bool.Decides.{eqb_tells, nat_tests}
use Rattle.vd_base.specs.HostSets.{host}
use Rattle.vd_execution.specs.declared.instructions.Line.{Line}
use Rattle.vd_execution.specs.declared.instructions.Line.TheVariants as line
use Rattle.vd_execution.specs.Joint.{Part, TakesPart, Apart}
use Rattle.vd_execution.specs.Text.{register, each_then}
use Rattle.vd_excuse_walk.specs.declared.equivocation_laws.step.Step.{Step}
use Rattle.vd_excuse.specs.declared.equivocation_steps.block.Kind.{Kind}
use Rattle.vd_excuse.specs.declared.equivocation_steps.block.Kind.TheVariants as kind
use Rattle.vd_excuse.specs.declared.equivocation_steps.block.Block.{Block}
use Rattle.vd_excuse.specs.Reading.{Reading, same_kind, takes_part, joins, closed, begun, opened, with_line, read}

abbrev pub reading : List Step → List Block → Reading
reading steps blocks = record { steps = steps; blocks = blocks }

-- a block of which so many ends were read
abbrev pub block : List Step → List Part → Kind → Option (List Step) → ℕ → Block
block before parts k first ended = record { before = before; parts = parts; kind = k; first = first; ended = ended }

-- the line by which a host opens a block
abbrev pub mark : Kind → Part → Line
mark kind.Branch p = line.If (host p.0) (register p.1)
mark (kind.Loop n) p = line.For (host p.0) (register p.1) n

abbrev pub else_mark : Part → Line
else_mark p = line.Else (host p.0)

abbrev pub end_mark : Part → Line
end_mark p = line.End (host p.0)

-- ---- a host takes part

takes_none : (b : Bool) (c : Bool) → b ≡ false → c ≡ false → (b || (c || false)) ≡ false
takes_none true c e f = absurd cc
takes_none false true e f = absurd cc
takes_none false false e f = refl

another : (p : Part) (ps : List Part) (h : ℕ) → (TakesPart ps p.0 → ⊥) → TakesPart ps h → nat_eq p.0 h ≡ false
another p ps h apart part =
    elim (eqb_tells p.0 h) [
      | inl e ↦ absurd (apart (let P : ℕ → Type 0 = λ x. TakesPart ps x in subst P (sym e.1) part))
      | inr e ↦ e.0
    ]

-- who takes part later is not among those that stood before, nor the next one
abbrev AreLater : List Part → List Part → Type 0
AreLater done ps = (h : ℕ) → TakesPart ps h → takes_part h done ≡ false

one_later : (done : List Part) (p : Part) (ps : List Part) → AreLater done (p ∷ ps) → (TakesPart ps p.0 → ⊥) → AreLater (done ++ p ∷ []) ps
one_later done p ps later apart h part =
    list_any-append (λ (q : Part). nat_eq q.0 h) done (p ∷ [])
    ∙ takes_none (takes_part h done) (nat_eq p.0 h) (later h (inr part)) (another p ps h apart part)

-- ---- a block opens

opened_mark : (k : Kind) (p : Part) (behind : List Line) (r : Reading) → with_line (mark k p) behind r ≡ opened k p r
opened_mark kind.Branch p behind r = refl
opened_mark (kind.Loop n) p behind r = refl

same_kinds : (k : Kind) → same_kind k k ≡ true
same_kinds kind.Branch = refl
same_kinds (kind.Loop n) = refl

joins_later : (k : Kind) (before : List Step) (done : List Part) (h : ℕ) → takes_part h done ≡ false → joins k [] h (block before done k None 0) ≡ true
joins_later k before done h e = ap (λ (b : Bool). b && not (takes_part h done)) (same_kinds k) ∙ ap not e

if_true : {X : Type 0} (b : Bool) (x y : X) → b ≡ true → (if b then x else y) ≡ x
if_true true x y e = refl
if_true false x y e = absurd cc

if_false : {X : Type 0} (b : Bool) (x y : X) → b ≡ false → (if b then x else y) ≡ y
if_false true x y e = absurd cc
if_false false x y e = refl

-- the other hosts that take part
opens_rest : (k : Kind) (before : List Step) (done ps : List Part) (bs : List Block) (behind : List Line) → AreLater done ps → Apart ps
    → read (each_then ps (mark k) behind) (reading [] (block before done k None 0 ∷ bs)) ≡ read behind (reading [] (block before (done ++ ps) k None 0 ∷ bs))
opens_rest k before done [] bs behind later apart = ap (λ (l : List Part). read behind (reading [] (block before l k None 0 ∷ bs))) (sym (append-nil done))
opens_rest k before done (p ∷ ps) bs behind later apart =
    ap (read (each_then ps (mark k) behind)) (opened_mark k p (each_then ps (mark k) behind) (reading [] (block before done k None 0 ∷ bs)))
    ∙ ap (read (each_then ps (mark k) behind))
    (if_true (joins k [] p.0 (block before done k None 0)) _ _ (joins_later k before done p.0 (later p.0 (inl refl))))
    ∙ opens_rest k before (done ++ p ∷ []) ps bs behind (one_later done p ps later apart.0) apart.1
    ∙ ap (λ (l : List Part). read behind (reading [] (block before l k None 0 ∷ bs))) (append_assoc done (p ∷ []) ps)

-- whether a host that opens a block is taken for one of the block that has just been opened
abbrev pub joins_in : Kind → ℕ → List Step → List Block → Bool
joins_in k h steps [] = false
joins_in k h steps (b ∷ bs) = joins k steps h b

opens_first : (k : Kind) (p : Part) (steps : List Step) (bs : List Block) → joins_in k p.0 steps bs ≡ false → opened k p (reading steps bs) ≡ begun k p (reading steps bs)
opens_first k p steps [] e = refl
opens_first k p steps (b ∷ bs) e = if_false (joins k steps p.0 b) _ _ e

later_than_one : (p : Part) (ps : List Part) → (TakesPart ps p.0 → ⊥) → AreLater (p ∷ []) ps
later_than_one p ps apart h part = takes_none false (nat_eq p.0 h) refl (another p ps h apart part)

pub opens : (k : Kind) (p : Part) (ps : List Part) (steps : List Step) (bs : List Block) (behind : List Line) → Apart (p ∷ ps) → joins_in k p.0 steps bs ≡ false
    → read (each_then (p ∷ ps) (mark k) behind) (reading steps bs) ≡ read behind (reading [] (block steps (p ∷ ps) k None 0 ∷ bs))
opens k p ps steps bs behind apart shut =
    ap (read (each_then ps (mark k) behind)) (opened_mark k p (each_then ps (mark k) behind) (reading steps bs) ∙ opens_first k p steps bs shut)
    ∙ opens_rest k steps (p ∷ []) ps bs behind (later_than_one p ps apart.0) apart.1

-- ---- its other part begins

else_rest : (ps qs : List Part) (before first steps : List Step) (bs : List Block) (behind : List Line)
    → read (each_then ps else_mark behind) (reading steps (block before qs kind.Branch (Some first) 0 ∷ bs)) ≡ read behind (reading steps (block before qs kind.Branch (Some first) 0 ∷ bs))
else_rest [] qs before first steps bs behind = refl
else_rest (p ∷ ps) qs before first steps bs behind = else_rest ps qs before first steps bs behind

pub turns_over : (p : Part) (ps qs : List Part) (before steps : List Step) (bs : List Block) (behind : List Line)
    → read (each_then (p ∷ ps) else_mark behind) (reading steps (block before qs kind.Branch None 0 ∷ bs)) ≡ read behind (reading [] (block before qs kind.Branch (Some steps) 0 ∷ bs))
turns_over p ps qs before steps bs behind = else_rest ps qs before steps [] bs behind

-- ---- it ends

last_end : (m n : ℕ) → m ≡ n + 1 → nat_le (m - n) 1 ≡ true
last_end m n e = grind (arith, nat_tests)

not_last : (m n k : ℕ) → m ≡ n + suc (suc k) → nat_le (m - n) 1 ≡ false
not_last m n k e = grind (arith, nat_tests)

pub ends_at : (p : Part) (ps qs : List Part) (k : Kind) (n : ℕ) (before steps : List Step) (first : Option (List Step)) (bs : List Block) (behind : List Line) → length qs ≡ n + suc (length ps)
    → read (each_then (p ∷ ps) end_mark behind) (reading steps (block before qs k first n ∷ bs)) ≡ read behind (reading (closed steps (block before qs k first 0)) bs)
ends_at p [] qs k n before steps first bs behind e =
    ap (read behind) (if_true (nat_le (length qs - n) 1) _ _ (last_end (length qs) n (omega (arith, e))))
ends_at p (q ∷ ps) qs k n before steps first bs behind e =
    ap (read (each_then (q ∷ ps) end_mark behind)) (if_false (nat_le (length qs - n) 1) _ _ (not_last (length qs) n (length ps) e))
    ∙ ends_at q ps qs k (n + 1) before steps first bs behind (omega (arith, e))
