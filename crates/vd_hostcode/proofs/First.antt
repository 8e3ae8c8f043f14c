-- The first instruction that breaks a range of its own or of blocks.
use Rattle.std.proofs.Common.{◌≡◌, ℕ, ◌+◌, ◌<◌, Bool, true, false, cond, List, [], ◌∷◌, ◌++◌, Option, Some, None, refl, sym, ap, ◌∙◌, arith, true≢false}
use Rattle.vd_base.specs.declared.ids.HostId.{HostId}
use Rattle.vd_execution.specs.declared.instructions.Instr.{Instr}
use Rattle.vd_hostcode.specs.Ranges.{breaks, numbers, open_behind, open_in, count_in, BreaksFrom, first_broken}

-- what the walk over the instructions tells
abbrev pub Tells : ℕ → HostId → ℕ → ℕ → List Instr → Option ℕ → Type 0
Tells hosts me numbered before code None = (n : ℕ) → BreaksFrom hosts me numbered before code n → ⊥
Tells hosts me numbered before code (Some n) = BreaksFrom hosts me numbered before code n × ((m : ℕ) → m < n → BreaksFrom hosts me numbered before code m → ⊥)

none_in_none : (hosts : ℕ) (me : HostId) (numbered before n : ℕ) (front : List Instr) (i : Instr) (rest : List Instr) → [] ≡ front ++ i ∷ rest → ⊥
none_in_none hosts me numbered before n [] i rest e = cc
none_in_none hosts me numbered before n (j ∷ front) i rest e = cc

-- an instruction that breaks a range is the first one here, or one of those behind it
behind_by : (hosts : ℕ) (me : HostId) (numbered before : ℕ) (i : Instr) (is : List Instr) (n : ℕ) (front : List Instr) (j : Instr) (rest : List Instr) → i ∷ is ≡ front ++ j ∷ rest → n ≡ numbered + count_in front
    → breaks hosts me (open_in before front) j ≡ true → breaks hosts me before i ≡ false → BreaksFrom hosts me (numbered + numbers i) (open_behind before i) is n
behind_by hosts me numbered before i is n [] j rest e k b kept =
    let same : i ≡ j = cc in
    absurd (true≢false (sym b ∙ ap (breaks hosts me before) (sym same) ∙ kept))
behind_by hosts me numbered before i is n (f ∷ front) j rest e k b kept =
    let same : i ≡ f = cc in
    let others : is ≡ front ++ j ∷ rest = cc in
    let one : numbers i ≡ numbers f = ap numbers same in
    let open_there : open_behind before i ≡ open_behind before f = ap (open_behind before) same in
    record {
      front = front;
      instruction = j;
      rest = rest;
      split = others;
      number_is = omega (arith, k, one);
      breaks_there = ap (λ o. breaks hosts me (open_in o front) j) open_there ∙ b;
    }

behind : (hosts : ℕ) (me : HostId) (numbered before : ℕ) (i : Instr) (is : List Instr) (n : ℕ) → breaks hosts me before i ≡ false → BreaksFrom hosts me numbered before (i ∷ is) n
    → BreaksFrom hosts me (numbered + numbers i) (open_behind before i) is n
behind hosts me numbered before i is n kept b = behind_by hosts me numbered before i is n b.front b.instruction b.rest b.split b.number_is b.breaks_there kept

there : (hosts : ℕ) (me : HostId) (numbered before : ℕ) (i : Instr) (is : List Instr) (n : ℕ) → BreaksFrom hosts me (numbered + numbers i) (open_behind before i) is n → BreaksFrom hosts me numbered before (i ∷ is) n
there hosts me numbered before i is n b = record {
  front = i ∷ b.front;
  instruction = b.instruction;
  rest = b.rest;
  split = ap (λ js. i ∷ js) b.split;
  number_is = omega (arith, b.number_is);
  breaks_there = b.breaks_there;
}

here : (hosts : ℕ) (me : HostId) (numbered before : ℕ) (i : Instr) (is : List Instr) → breaks hosts me before i ≡ true → BreaksFrom hosts me numbered before (i ∷ is) numbered
here hosts me numbered before i is e = record { front = []; instruction = i; rest = is; split = refl; number_is = omega arith; breaks_there = e }

carried : (hosts : ℕ) (me : HostId) (numbered before : ℕ) (i : Instr) (is : List Instr) (o : Option ℕ) → breaks hosts me before i ≡ false → Tells hosts me (numbered + numbers i) (open_behind before i) is o
    → Tells hosts me numbered before (i ∷ is) o
carried hosts me numbered before i is None kept h = λ n b. h n (behind hosts me numbered before i is n kept b)
carried hosts me numbered before i is (Some n) kept h = (there hosts me numbered before i is n h.0, λ m lt b. h.1 m lt (behind hosts me numbered before i is m kept b))

told_by : (hosts : ℕ) (me : HostId) (numbered before : ℕ) (i : Instr) (is : List Instr) (t : Bool) (o : Option ℕ) → breaks hosts me before i ≡ t → Tells hosts me (numbered + numbers i) (open_behind before i) is o
    → Tells hosts me numbered before (i ∷ is) (cond t (Some numbered) o)
told_by hosts me numbered before i is true o e h = (here hosts me numbered before i is e, λ m lt b. absurd (omega (arith, lt, b.number_is)))
told_by hosts me numbered before i is false o e h = carried hosts me numbered before i is o e h

pub told : (hosts : ℕ) (me : HostId) (numbered before : ℕ) (code : List Instr) → Tells hosts me numbered before code (first_broken hosts me numbered before code)
told hosts me numbered before [] = λ n b. none_in_none hosts me numbered before n b.front b.instruction b.rest b.split
told hosts me numbered before (i ∷ is) =
    told_by hosts me numbered before i is (breaks hosts me before i) (first_broken hosts me (numbered + numbers i) (open_behind before i) is) refl (told hosts me (numbered + numbers i) (open_behind before i) is)
