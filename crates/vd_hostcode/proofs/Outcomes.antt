-- What a reader answers, ranges included.
use Rattle.std.proofs.Common.{◌≡◌, ◌≢◌, ℕ, ◌+◌, ◌-◌, ◌<◌, ◌≤◌, true, List, [], ◌∷◌, ◌++◌, length, Option, Some, None, Result, Ok, Err, inl, inr, refl, sym, ap, subst, ◌∙◌, arith, true≢false}
use Rattle.std.specs.Prelude.{IfOk}
use Rattle.std.proofs.lemmas.Bool.{cases_lt, cases_order}
use Rattle.vd_base.specs.declared.ids.HostId.{HostId}
use Rattle.vd_base_codec.specs.Reading.{capped}
use Rattle.vd_base_codec.specs.Exact.{StopsAt}
use Rattle.vd_base_codec.proofs.Front.{stops_single}
use Rattle.vd_execution.specs.declared.instructions.Instr.{Instr}
use Rattle.vd_execution.specs.declared.instructions.Instr.TheVariants as instr
use Rattle.vd_execution.specs.Code.{Code, Finished}
use Rattle.vd_execution.specs.Text.{Open, AfterEnd, AfterElse, Reading, at_else, read_before, read, IsCodeOf}
use Rattle.vd_hostcode.specs.declared.host_text.program.HostProgram.{HostProgram}
use Rattle.vd_hostcode.specs.Text.{program_text}
use Rattle.vd_hostcode.specs.File.{has_arrays, from_version, IsFile}
use Rattle.vd_hostcode.specs.Heading.{file_read}
use Rattle.vd_hostcode.specs.HostTextOutcome.{file_of, program_of, IsHostFile, IsFileOf}
use Rattle.vd_hostcode.proofs.Programs.{follow_grammar, text_is_file}
use Rattle.vd_hostcode.specs.declared.fault.CodeFault.{CodeFault}
use Rattle.vd_hostcode.specs.declared.fault.CodeFault.TheVariants.{Text, Range, Memory}
use Rattle.vd_hostcode.specs.Ranges.{numbers, breaks, open_in, count_in, BreaksFrom, static_steps, most_steps, Breaks, IsFirstBroken, IsWithinRanges, first_broken}
use Rattle.vd_hostcode.specs.Outcome.{IsWithin, IsOutcome, Answers, IsHeaded, CanRun}
use Rattle.vd_hostcode.proofs.Nested.{nested}
use Rattle.vd_hostcode.proofs.First.{Tells, told}
use Rattle.vd_hostcode.proofs.Fits.{in_range, have_peers}

-- ---- the file of a program

abbrev HasCode : HostProgram → Type 0
HasCode p = (c : Code) × IsCodeOf p.code c

pub has_code : (bytes : List ℕ) (p : HostProgram) → IsFileOf bytes p → HasCode p
has_code bytes p h = subst HasCode (sym h.3) (nested (from_version (has_arrays h.0.lines)) h.0.lines h.1.lines)

pub headed : (bytes : List ℕ) (p : HostProgram) → IsFileOf bytes p → IsHeaded p
headed bytes p h = subst IsHeaded (sym h.3) (record { some = h.1.some; few = h.1.few; me = h.1.me })

one_program : (bytes : List ℕ) (p q : HostProgram) → IsFileOf bytes p → IsFileOf bytes q → p ≡ q
one_program bytes p q h k =
    let first : file_read bytes ≡ Ok h.0 = ((follow_grammar bytes).given h.0).1 (h.1, h.2) in
    let second : file_read bytes ≡ Ok k.0 = ((follow_grammar bytes).given k.0).1 (k.1, k.2) in
    let same : h.0 ≡ k.0 = cc in
    h.3 ∙ ap program_of same ∙ sym k.3

not_both : (bytes : List ℕ) (p : HostProgram) (at : ℕ) → IsFileOf bytes p → StopsAt IsHostFile bytes at → ⊥
not_both bytes p at h s = s.no_text (h.0, (h.1, h.2))

-- ---- the last instruction

abbrev reading : Code → List Open → Reading
reading c os = record { code = c; blocks = os }

still_open : (c d : Code) (o : Open) (os : List Open) → Some (reading c (o ∷ os)) ≡ Some (reading d []) → ⊥
still_open c d o os e =
    let same : reading c (o ∷ os) ≡ reading d [] = cc in
    let blocks : o ∷ os ≡ [] = ap (λ r. r.blocks) same in
    cc

no_else : (c d : Code) (os : List Open) → at_else c os ≡ Some (reading d []) → ⊥
no_else c d [] e = cc
no_else c d (AfterElse other rest ∷ os) e = cc
no_else c d (AfterEnd rest ∷ os) e = still_open Finished d (AfterElse c rest) os e

-- the first instruction of a code has a number
first_counts : (i : Instr) (o : Option Reading) (c : Code) → read_before i o ≡ Some (reading c []) → numbers i ≡ 1
first_counts i None c e = absurd cc
first_counts (instr.Do a) (Some q) c e = refl
first_counts (instr.Send p rs) (Some q) c e = refl
first_counts (instr.Recv p rs) (Some q) c e = refl
first_counts (instr.If g) (Some q) c e = refl
first_counts instr.Else (Some q) c e = absurd (no_else q.code c q.blocks e)
first_counts (instr.For r count) (Some q) c e = refl
first_counts instr.End (Some q) c e = absurd (still_open Finished c (AfterEnd q.code) q.blocks e)

some_counted : (code : List Instr) (c : Code) → IsCodeOf code c → 0 < static_steps c → 1 ≤ count_in code
some_counted [] c is some =
    let same : reading Finished [] ≡ reading c [] = cc in
    absurd (omega (arith, some, ap (λ r. static_steps r.code) same))
some_counted (i ∷ code) c is some = omega (arith, first_counts i (read code) c is)

breaking_counts : (hosts : ℕ) (me : HostId) (before : ℕ) (i : Instr) → breaks hosts me before i ≡ true → numbers i ≡ 1
breaking_counts hosts me before (instr.Do a) e = refl
breaking_counts hosts me before (instr.Send p rs) e = refl
breaking_counts hosts me before (instr.Recv p rs) e = refl
breaking_counts hosts me before (instr.If g) e = refl
breaking_counts hosts me before instr.Else e = absurd (true≢false (sym e))
breaking_counts hosts me before (instr.For r count) e = refl
breaking_counts hosts me before instr.End e = absurd (true≢false (sym e))

counted : (front : List Instr) (i : Instr) (rest : List Instr) → count_in (front ++ i ∷ rest) ≡ count_in front + (numbers i + count_in rest)
counted [] i rest = omega arith
counted (j ∷ front) i rest = omega (arith, counted front i rest)

before_end : (hosts : ℕ) (me : HostId) (code : List Instr) (n : ℕ) → BreaksFrom hosts me 0 0 code n → n < count_in code
before_end hosts me code n b =
    omega (arith, b.number_is, ap count_in b.split, counted b.front b.instruction b.rest, breaking_counts hosts me (open_in 0 b.front) b.instruction b.breaks_there)

-- ---- the check of ranges

told_none : (hosts : ℕ) (me : HostId) (code : List Instr) → first_broken hosts me 0 0 code ≡ None → (n : ℕ) → BreaksFrom hosts me 0 0 code n → ⊥
told_none hosts me code e = subst (Tells hosts me 0 0 code) e (told hosts me 0 0 code)

told_some : (hosts : ℕ) (me : HostId) (code : List Instr) (n : ℕ) → first_broken hosts me 0 0 code ≡ Some n → BreaksFrom hosts me 0 0 code n × ((m : ℕ) → m < n → BreaksFrom hosts me 0 0 code m → ⊥)
told_some hosts me code n e = subst (Tells hosts me 0 0 code) e (told hosts me 0 0 code)

earlier_by : (hosts : ℕ) (me : HostId) (code : List Instr) (n m : ℕ) → BreaksFrom hosts me 0 0 code n → ((k : ℕ) → k < n → BreaksFrom hosts me 0 0 code k → ⊥) → m < n → Breaks hosts me code m → ⊥
earlier_by hosts me code n m b none lt (inl h) = none m lt h
earlier_by hosts me code n m b none lt (inr h) = omega (arith, before_end hosts me code n b, lt, h.last)

pub first_is_broken : (hosts : ℕ) (me : HostId) (code : List Instr) (n : ℕ) → first_broken hosts me 0 0 code ≡ Some n → IsFirstBroken hosts me code n
first_is_broken hosts me code n e =
    let t = told_some hosts me code n e in
    record { broken = inl t.0; none_before = λ m lt b. earlier_by hosts me code n m t.0 t.1 lt b }

only_last : (hosts : ℕ) (me : HostId) (code : List Instr) (n m : ℕ) → first_broken hosts me 0 0 code ≡ None → n + 1 ≡ count_in code → m < n → Breaks hosts me code m → ⊥
only_last hosts me code n m e k lt (inl h) = told_none hosts me code e m h
only_last hosts me code n m e k lt (inr h) = omega (arith, k, lt, h.last)

pub last_is_broken : (hosts : ℕ) (me : HostId) (code : List Instr) (c : Code) (n : ℕ) → IsCodeOf code c → first_broken hosts me 0 0 code ≡ None → most_steps < static_steps c → n ≡ count_in code - 1 → IsFirstBroken hosts me code n
last_is_broken hosts me code c n is e many k =
    let last : n + 1 ≡ count_in code = omega (arith, k, some_counted code c is (omega (arith, many))) in
    record {
      broken = inr (record { nested = c; is_code = is; many = many; last = last });
      none_before = λ m lt b. only_last hosts me code n m e last lt b;
    }

none_broken : (hosts : ℕ) (me : HostId) (code : List Instr) (c : Code) (m : ℕ) → IsCodeOf code c → first_broken hosts me 0 0 code ≡ None → static_steps c ≤ most_steps → Breaks hosts me code m → ⊥
none_broken hosts me code c m is e few (inl h) = told_none hosts me code e m h
none_broken hosts me code c m is e few (inr h) =
    let both : Some (reading h.nested []) ≡ Some (reading c []) = sym h.is_code ∙ is in
    let same : reading h.nested [] ≡ reading c [] = cc in
    omega (arith, h.many, few, ap (λ r. static_steps r.code) same)

pub all_within : (hosts : ℕ) (me : HostId) (code : List Instr) (c : Code) → IsCodeOf code c → first_broken hosts me 0 0 code ≡ None → static_steps c ≤ most_steps → IsWithinRanges hosts me code
all_within hosts me code c is e few = λ m b. none_broken hosts me code c m is e few b

-- ---- a program within the ranges

none_by : (hosts : ℕ) (me : HostId) (code : List Instr) (o : Option ℕ) → first_broken hosts me 0 0 code ≡ o → IsWithinRanges hosts me code → first_broken hosts me 0 0 code ≡ None
none_by hosts me code None e w = e
none_by hosts me code (Some n) e w = absurd (w n (inl (told_some hosts me code n e).0))

none_first : (hosts : ℕ) (me : HostId) (code : List Instr) → IsWithinRanges hosts me code → first_broken hosts me 0 0 code ≡ None
none_first hosts me code w = none_by hosts me code (first_broken hosts me 0 0 code) refl w

few_steps : (hosts : ℕ) (me : HostId) (code : List Instr) (c : Code) → IsCodeOf code c → IsWithinRanges hosts me code → static_steps c ≤ most_steps
few_steps hosts me code c is w = elim (cases_lt most_steps (static_steps c)) [
  | inl many ↦ absurd (w (count_in code - 1) (inr (record { nested = c; is_code = is; many = many; last = omega (arith, some_counted code c is (omega (arith, many))) })))
  | inr few ↦ few
]

pub can_run : (bytes : List ℕ) (p : HostProgram) → IsFileOf bytes p → IsWithin p → CanRun p
can_run bytes p h w =
    let n = has_code bytes p h in
    record {
      nested = n.0;
      is_code = n.1;
      ranges = in_range (length p.hosts) p.me p.code n.0 n.1 (none_first (length p.hosts) p.me p.code w);
      steps = few_steps (length p.hosts) p.me p.code n.0 n.1 w;
    }

-- ---- one outcome

first_single : (hosts : ℕ) (me : HostId) (code : List Instr) (n m : ℕ) → IsFirstBroken hosts me code n → IsFirstBroken hosts me code m → n ≡ m
first_single hosts me code n m a b = elim (cases_order n m) [
  | inl e ↦ e
  | inr (inl lt) ↦ absurd (b.none_before n lt a.broken)
  | inr (inr lt) ↦ absurd (a.none_before m lt b.broken)
]

abbrev IsBroken : HostProgram → ℕ → Type 0
IsBroken p n = IsFirstBroken (length p.hosts) p.me p.code n

single : (bytes : List ℕ) (x y : Result HostProgram CodeFault) → IsOutcome bytes x → IsOutcome bytes y → x ≡ y
single bytes (Err Memory) y h k = absurd h
single bytes (Ok p) (Err Memory) h k = absurd k
single bytes (Err (Text a)) (Err Memory) h k = absurd k
single bytes (Err (Range a)) (Err Memory) h k = absurd k
single bytes (Ok p) (Ok q) h k = ap (λ r. Ok r) (one_program bytes p q h.0 k.0)
single bytes (Ok p) (Err (Text b)) h k = absurd (not_both bytes p k.0 h.0 k.1)
single bytes (Ok p) (Err (Range b)) h k = absurd (h.1 k.1 (subst (λ r. IsBroken r k.1) (one_program bytes k.0 p k.2 h.0) k.3).broken)
single bytes (Err (Text a)) (Ok q) h k = absurd (not_both bytes q h.0 k.0 h.1)
single bytes (Err (Text a)) (Err (Text b)) h k = ap (λ n. Err (Text n)) (h.2 ∙ ap capped (stops_single IsHostFile bytes h.0 k.0 h.1 k.1) ∙ sym k.2)
single bytes (Err (Text a)) (Err (Range b)) h k = absurd (not_both bytes k.0 h.0 k.2 h.1)
single bytes (Err (Range a)) (Ok q) h k = absurd (k.1 h.1 (subst (λ r. IsBroken r h.1) (one_program bytes h.0 q h.2 k.0) h.3).broken)
single bytes (Err (Range a)) (Err (Text b)) h k = absurd (not_both bytes h.0 k.0 h.2 k.1)
single bytes (Err (Range a)) (Err (Range b)) h k =
    let same = one_program bytes h.0 k.0 h.2 k.2 in
    let broken : IsBroken k.0 h.1 = subst (λ r. IsBroken r h.1) same h.3 in
    let one : h.1 ≡ k.1 = first_single (length k.0.hosts) k.0.me k.0.code h.1 k.1 broken k.3 in
    ap (λ n. Err (Range n)) (h.4 ∙ ap capped one ∙ sym k.4)

pub answers_of : (bytes : List ℕ) (r : Result HostProgram CodeFault) → (r ≢ Err Memory → IsOutcome bytes r) → Answers bytes r
answers_of bytes r h = λ some o. (λ e. subst (IsOutcome bytes) e (h some), λ k. single bytes r o (h some) k)

pub headed_of : (bytes : List ℕ) (r : Result HostProgram CodeFault) → (r ≢ Err Memory → IsOutcome bytes r) → IfOk r (λ p. IsHeaded p)
headed_of bytes (Ok p) h = headed bytes p (h (λ e. cc)).0
headed_of bytes (Err fault) h = tt

pub runs_of : (bytes : List ℕ) (r : Result HostProgram CodeFault) → (r ≢ Err Memory → IsOutcome bytes r) → IfOk r (λ p. CanRun p)
runs_of bytes (Ok p) h = let o = h (λ e. cc) in can_run bytes p o.0 o.1
runs_of bytes (Err fault) h = tt

-- ---- what is written is read

pub written_is_read : (p : HostProgram) → IsFile (file_of p) → IsWithin p → IsOutcome (program_text p) (Ok p)
written_is_read p f w = (text_is_file p (f, have_peers (length p.hosts) p.me p.code f.few (none_first (length p.hosts) p.me p.code w)), w)
