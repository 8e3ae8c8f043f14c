-- The lines of a host's program, each a word and numbers, and in which order they stand.
use Rattle.std.specs.Prelude.{◌≡◌, ℕ, ◌≤◌, Bool, true, false, List, [], ◌∷◌, ◌++◌, Option, Some, None, length, flat_map, codes}
use Rattle.std.specs.List.{AllByRecursion}
use Rattle.vd_base.specs.Words.{IsWord}
use Rattle.vd_base_codec.specs.Reading.{field}
use Rattle.vd_execution.specs.declared.instructions.Instr.{Instr}
use Rattle.vd_hostcode.specs.declared.host_text.words.Word.{Word}
use Rattle.vd_hostcode.specs.declared.host_text.words.Word.TheVariants as word
use Rattle.vd_hostcode.specs.declared.host_text.blocks.Block.{Block}
use Rattle.vd_hostcode.specs.declared.host_text.blocks.Block.TheVariants as block
use Rattle.vd_hostcode.specs.declared.host_text.blocks.Arrays.{Arrays}
use Rattle.vd_hostcode.specs.declared.host_text.blocks.Arrays.TheVariants as arrays
use Rattle.vd_hostcode.specs.Words.{spelling, word_of, operands}

pub record Line : Type 0 where
  pub word : Word
  pub numbers : List ℕ

abbrev pub line_text : Line → List ℕ
line_text l = spelling l.word ++ (flat_map field l.numbers ++ 10 ∷ [])

-- the lines of code, and the last one
abbrev pub lines_text : List Line → List ℕ
lines_text ls = flat_map line_text ls ++ codes "end\n"

abbrev pub line_of : Instr → Line
line_of i = record { word = word_of i; numbers = operands i }

-- how many numbers stand behind a word: in a packet's line a peer and at least one register, else always as many
abbrev pub arity : Word → ℕ
arity word.Const = 2
arity word.Copy = 2
arity (word.Apply o) = 3
arity word.Shl = 3
arity word.Shr = 3
arity word.Mux = 4
arity word.Own = 1
arity word.Triple = 4
arity word.Bits = 4
arity word.Pair = 3
arity word.Input = 1
arity word.Print = 1
arity word.Hash = 3
arity word.Same = 2
arity word.Zero = 2
arity word.Get = 4
arity word.Put = 4
arity word.Send = 2
arity word.Recv = 2
arity word.If = 1
arity word.Else = 0
arity word.For = 2
arity word.End = 0

abbrev pub is_packet : Word → Bool
is_packet word.Send = true
is_packet word.Recv = true
is_packet w = false

pub record HasNumbers (w : Word) (ns : List ℕ) : Type 0 where
  pub words : AllByRecursion IsWord ns
  pub enough : arity w ≤ length ns
  pub exactly : is_packet w ≡ false → length ns ≡ arity w

-- ---- the order of lines

-- what is open, the innermost first, and whether instructions on arrays may come, or one must still come
pub record State : Type 0 where
  pub arrays : Arrays
  pub blocks : List Block

abbrev pub start : Arrays → State
start a = record { arrays = a; blocks = [] }

abbrev pub may_array : Arrays → Bool
may_array arrays.Never = false
may_array arrays.Owed = true
may_array arrays.Free = true

abbrev pub may_stop : Arrays → Bool
may_stop arrays.Never = true
may_stop arrays.Owed = false
may_stop arrays.Free = true

-- `else` closes the first part of a branch
abbrev pub may_else : List Block → Bool
may_else [] = false
may_else (block.First ∷ bs) = true
may_else (block.Last ∷ bs) = false

-- `end` closes the other part of a branch, a loop, or the program
abbrev pub may_end : Arrays → List Block → Bool
may_end a [] = may_stop a
may_end a (block.First ∷ bs) = false
may_end a (block.Last ∷ bs) = true

-- the word of the next line
abbrev pub allows : State → Word → Bool
allows s word.Else = may_else s.blocks
allows s word.End = may_end s.arrays s.blocks
allows s word.Zero = may_array s.arrays
allows s word.Get = may_array s.arrays
allows s word.Put = may_array s.arrays
allows s w = true

abbrev pub innermost : List Block → Option Block
innermost [] = None
innermost (b ∷ bs) = Some b

abbrev pub outer : List Block → List Block
outer [] = []
outer (b ∷ bs) = bs

abbrev pub within : Block → State → State
within b s = record s { blocks = b ∷ s.blocks }

abbrev pub outside : State → State
outside s = record s { blocks = outer s.blocks }

-- what is open behind a line
abbrev pub after : State → Word → State
after s word.If = within block.First s
after s word.For = within block.Last s
after s word.Else = within block.Last (outside s)
after s word.End = outside s
after s word.Zero = record s { arrays = arrays.Free }
after s word.Get = record s { arrays = arrays.Free }
after s word.Put = record s { arrays = arrays.Free }
after s w = s

abbrev pub none_open : List Block → Bool
none_open [] = true
none_open (b ∷ bs) = false

-- an `end` where no block is open ends the program
abbrev pub is_last : State → Word → Bool
is_last s word.End = none_open s.blocks
is_last s w = false

-- lines that lead from a state to the end of the program, without its last line
abbrev pub Leads : State → List Line → Type 0
Leads s [] = (allows s word.End ≡ true) × (is_last s word.End ≡ true)
Leads s (l ∷ ls) = (allows s l.word ≡ true) × (HasNumbers l.word l.numbers × ((is_last s l.word ≡ false) × Leads (after s l.word) ls))
