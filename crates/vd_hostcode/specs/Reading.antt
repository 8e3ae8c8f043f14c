-- What is read of the lines of a host's program, from left to right.
use Rattle.std.specs.Prelude.{◌==◌, ℕ, zero, suc, Bool, false, List, [], ◌∷◌, ◌++◌, Ok, Err, length, drop, map, max, min, get_or, if◌then◌else◌}
use Rattle.vd_base.specs.HostSets.{host}
use Rattle.vd_base.specs.declared.ids.HostId.{HostId}
use Rattle.vd_base_codec.specs.Reading.{Reading, ◌>>=◌, byte_at, field_at, each_at}
use Rattle.vd_execution.specs.declared.instructions.Reg.{Reg}
use Rattle.vd_execution.specs.declared.instructions.Binary.TheVariants as binary
use Rattle.vd_execution.specs.declared.instructions.Action.TheVariants as action
use Rattle.vd_execution.specs.declared.instructions.Instr.{Instr}
use Rattle.vd_execution.specs.declared.instructions.Instr.TheVariants as instr
use Rattle.vd_execution.specs.Text.{register}
use Rattle.vd_hostcode.specs.declared.host_text.words.Word.{Word}
use Rattle.vd_hostcode.specs.declared.host_text.words.Word.TheVariants as word
use Rattle.vd_hostcode.specs.Words.{spelling}
use Rattle.vd_hostcode.specs.Lines.{Line, State, arity, is_packet, allows, after, is_last}

-- ---- words

-- all words
unfoldable pub all_words : List Word
all_words =
    word.Const ∷ word.Copy ∷ word.Apply binary.Add ∷ word.Apply binary.Sub ∷ word.Apply binary.Mul ∷ word.Apply binary.Div
    ∷ word.Apply binary.Rem ∷ word.Apply binary.And ∷ word.Apply binary.Or ∷ word.Apply binary.Xor ∷ word.Apply binary.Eq
    ∷ word.Apply binary.Ne ∷ word.Apply binary.Lt ∷ word.Apply binary.Le ∷ word.Apply binary.Min ∷ word.Apply binary.Max
    ∷ word.Shl ∷ word.Shr ∷ word.Mux ∷ word.Own ∷ word.Triple ∷ word.Bits ∷ word.Pair ∷ word.Input ∷ word.Print ∷ word.Hash
    ∷ word.Same ∷ word.Zero ∷ word.Get ∷ word.Put ∷ word.Send ∷ word.Recv ∷ word.If ∷ word.Else ∷ word.For ∷ word.End ∷ []

-- how many bytes two texts begin with alike
unfoldable pub alike : List ℕ → List ℕ → ℕ
alike [] bs = 0
alike (w ∷ ws) [] = 0
alike (w ∷ ws) (b ∷ bs) = if w == b then suc (alike ws bs) else 0

-- the first of the words that the bytes begin with; or the bytes behind as many as one of the words, or `far`, has in common with them
unfoldable pub among : (Word → Bool) → List Word → ℕ → List ℕ → Reading Word
among may [] far bs = Err (drop far bs)
among may (w ∷ ws) far bs =
    if may w
    then (if alike (spelling w) bs == length (spelling w) then Ok (w, drop (alike (spelling w) bs) bs) else among may ws (max far (alike (spelling w) bs)) bs)
    else among may ws far bs

abbrev pub word_at : State → List ℕ → Reading Word
word_at s bs = among (allows s) all_words 0 bs

-- ---- numbers

abbrev pub number_at : List ℕ → Reading ℕ
number_at bs = field_at 4294967295 bs

abbrev pub starts_with : ℕ → List ℕ → Bool
starts_with b [] = false
starts_with b (c ∷ bs) = c == b

-- at most so many numbers, as far as they go
unfoldable pub many_at : ℕ → List ℕ → Reading (List ℕ)
many_at zero bs = Ok ([], bs)
many_at (suc n) bs = if starts_with 32 bs then (number_at bs >>= λ x. (many_at n x.1 >>= λ xs. Ok (x.0 ∷ xs.0, xs.1))) else Ok ([], bs)

-- the numbers behind a word
unfoldable pub numbers_at : Word → List ℕ → Reading (List ℕ)
numbers_at w bs = each_at number_at (arity w) bs >>= λ ns. (if is_packet w then (many_at (length ns.1) ns.1 >>= λ more. Ok (ns.0 ++ more.0, more.1)) else Ok ns)

-- ---- lines

-- the rest of a line, behind its word
unfoldable pub rest_at : Word → List ℕ → Reading Line
rest_at w bs = do
  ns ← numbers_at w bs
  end ← byte_at 10 ns.1
  Ok (record { word = w; numbers = ns.0 }, end.1)

abbrev pub line_at : State → List ℕ → Reading Line
line_at s bs = word_at s bs >>= λ w. rest_at w.0 w.1

-- the lines of a program from a state on; n is more than there are
unfoldable pub lines_at : ℕ → State → List ℕ → Reading (List Line)
lines_at zero s bs = Err bs
lines_at (suc n) s bs = line_at s bs >>= λ l. (if is_last s l.0.word then Ok ([], l.1) else (lines_at n (after s l.0.word) l.1 >>= λ ls. Ok (l.0 ∷ ls.0, ls.1)))

-- ---- instructions

abbrev pub at : List ℕ → ℕ → ℕ
at ns i = get_or ns i 0

abbrev pub register_in : List ℕ → ℕ → Reg
register_in ns i = register (at ns i)

-- the host of a number; no host has the number 255 or more
abbrev pub peer : ℕ → HostId
peer n = host (min n 255)

-- the instruction of a line
unfoldable pub instr_of : Word → List ℕ → Instr
instr_of word.Const ns = instr.Do (action.Const (register_in ns 0) (at ns 1))
instr_of word.Copy ns = instr.Do (action.Copy (register_in ns 0) (register_in ns 1))
instr_of (word.Apply o) ns = instr.Do (action.Apply o (register_in ns 0) (register_in ns 1) (register_in ns 2))
instr_of word.Shl ns = instr.Do (action.Shl (register_in ns 0) (register_in ns 1) (at ns 2))
instr_of word.Shr ns = instr.Do (action.Shr (register_in ns 0) (register_in ns 1) (at ns 2))
instr_of word.Mux ns = instr.Do (action.Mux (register_in ns 0) (register_in ns 1) (register_in ns 2) (register_in ns 3))
instr_of word.Own ns = instr.Do (action.Own (register_in ns 0))
instr_of word.Triple ns = instr.Do (action.Triple (peer (at ns 0)) (register_in ns 1) (register_in ns 2) (register_in ns 3))
instr_of word.Bits ns = instr.Do (action.Bits (peer (at ns 0)) (register_in ns 1) (register_in ns 2) (register_in ns 3))
instr_of word.Pair ns = instr.Do (action.Pair (peer (at ns 0)) (register_in ns 1) (register_in ns 2))
instr_of word.Input ns = instr.Do (action.Input (register_in ns 0))
instr_of word.Print ns = instr.Do (action.Print (register_in ns 0))
instr_of word.Hash ns = instr.Do (action.Hash (register_in ns 0) (register_in ns 1) (register_in ns 2))
instr_of word.Same ns = instr.Do (action.Same (register_in ns 0) (register_in ns 1))
instr_of word.Zero ns = instr.Do (action.Zero (register_in ns 0) (at ns 1))
instr_of word.Get ns = instr.Do (action.Get (register_in ns 0) (register_in ns 1) (at ns 2) (register_in ns 3))
instr_of word.Put ns = instr.Do (action.Put (register_in ns 0) (at ns 1) (register_in ns 2) (register_in ns 3))
instr_of word.Send ns = instr.Send (peer (at ns 0)) (map register (drop 1 ns))
instr_of word.Recv ns = instr.Recv (peer (at ns 0)) (map register (drop 1 ns))
instr_of word.If ns = instr.If (register_in ns 0)
instr_of word.Else ns = instr.Else
instr_of word.For ns = instr.For (register_in ns 0) (at ns 1)
instr_of word.End ns = instr.End

abbrev pub instr_in : Line → Instr
instr_in l = instr_of l.word l.numbers

-- the rest of a line, as an instruction
unfoldable pub instr_at : Word → List ℕ → Reading Instr
instr_at w bs = do
  ns ← numbers_at w bs
  end ← byte_at 10 ns.1
  Ok (instr_of w ns.0, end.1)

-- a line as an instruction, with its word
abbrev pub next_at : State → List ℕ → Reading (Word × Instr)
next_at s bs = word_at s bs >>= λ w. (instr_at w.0 w.1 >>= λ i. Ok ((w.0, i.0), i.1))

-- the instructions of lines
abbrev pub code_of : List Line → List Instr
code_of ls = map instr_in ls

abbrev pub code_at : State → List ℕ → Reading (List Instr)
code_at s bs = lines_at (length bs) s bs >>= λ ls. Ok (code_of ls.0, ls.1)
