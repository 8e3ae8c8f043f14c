-- An instruction as a word and numbers.
use Rattle.std.specs.Prelude.{ℕ, Bool, true, false, List, [], ◌∷◌, map, codes}
use Rattle.vd_execution.specs.declared.instructions.Binary.{Binary}
use Rattle.vd_execution.specs.declared.instructions.Binary.TheVariants as binary
use Rattle.vd_execution.specs.declared.instructions.Action.{Action}
use Rattle.vd_execution.specs.declared.instructions.Action.TheVariants as action
use Rattle.vd_execution.specs.declared.instructions.Instr.{Instr}
use Rattle.vd_execution.specs.declared.instructions.Instr.TheVariants as instr
use Rattle.vd_hostcode.specs.declared.host_text.words.Word.{Word}
use Rattle.vd_hostcode.specs.declared.host_text.words.Word.TheVariants as word

-- how each word is written
abbrev pub binary_spelling : Binary → List ℕ
binary_spelling binary.Add = codes "add"
binary_spelling binary.Sub = codes "sub"
binary_spelling binary.Mul = codes "mul"
binary_spelling binary.Div = codes "div"
binary_spelling binary.Rem = codes "rem"
binary_spelling binary.And = codes "and"
binary_spelling binary.Or = codes "or"
binary_spelling binary.Xor = codes "xor"
binary_spelling binary.Eq = codes "eq"
binary_spelling binary.Ne = codes "ne"
binary_spelling binary.Lt = codes "lt"
binary_spelling binary.Le = codes "le"
binary_spelling binary.Min = codes "min"
binary_spelling binary.Max = codes "max"

abbrev pub spelling : Word → List ℕ
spelling word.Const = codes "const"
spelling word.Copy = codes "copy"
spelling (word.Apply o) = binary_spelling o
spelling word.Shl = codes "shl"
spelling word.Shr = codes "shr"
spelling word.Mux = codes "mux"
spelling word.Own = codes "own"
spelling word.Triple = codes "triple"
spelling word.Bits = codes "bits"
spelling word.Pair = codes "pair"
spelling word.Input = codes "input"
spelling word.Print = codes "print"
spelling word.Hash = codes "hash"
spelling word.Same = codes "same"
spelling word.Zero = codes "zero"
spelling word.Get = codes "get"
spelling word.Put = codes "put"
spelling word.Send = codes "send"
spelling word.Recv = codes "recv"
spelling word.If = codes "if"
spelling word.Else = codes "else"
spelling word.For = codes "for"
spelling word.End = codes "end"

-- the word with which an instruction begins
abbrev pub action_word : Action → Word
action_word (action.Const r k) = word.Const
action_word (action.Copy r x) = word.Copy
action_word (action.Apply o r x y) = word.Apply o
action_word (action.Shl r x k) = word.Shl
action_word (action.Shr r x k) = word.Shr
action_word (action.Mux r c x y) = word.Mux
action_word (action.Own r) = word.Own
action_word (action.Triple p a b c) = word.Triple
action_word (action.Bits p a b c) = word.Bits
action_word (action.Pair p s x) = word.Pair
action_word (action.Input r) = word.Input
action_word (action.Print r) = word.Print
action_word (action.Hash d n v) = word.Hash
action_word (action.Same x y) = word.Same
action_word (action.Zero r count) = word.Zero
action_word (action.Get r x count i) = word.Get
action_word (action.Put x count i s) = word.Put

abbrev pub word_of : Instr → Word
word_of (instr.Do a) = action_word a
word_of (instr.Send p rs) = word.Send
word_of (instr.Recv p rs) = word.Recv
word_of (instr.If g) = word.If
word_of instr.Else = word.Else
word_of (instr.For r count) = word.For
word_of instr.End = word.End

-- the numbers behind it
abbrev pub action_operands : Action → List ℕ
action_operands (action.Const r k) = r.0 ∷ k ∷ []
action_operands (action.Copy r x) = r.0 ∷ x.0 ∷ []
action_operands (action.Apply o r x y) = r.0 ∷ x.0 ∷ y.0 ∷ []
action_operands (action.Shl r x k) = r.0 ∷ x.0 ∷ k ∷ []
action_operands (action.Shr r x k) = r.0 ∷ x.0 ∷ k ∷ []
action_operands (action.Mux r c x y) = r.0 ∷ c.0 ∷ x.0 ∷ y.0 ∷ []
action_operands (action.Own r) = r.0 ∷ []
action_operands (action.Triple p a b c) = p.0 ∷ a.0 ∷ b.0 ∷ c.0 ∷ []
action_operands (action.Bits p a b c) = p.0 ∷ a.0 ∷ b.0 ∷ c.0 ∷ []
action_operands (action.Pair p s x) = p.0 ∷ s.0 ∷ x.0 ∷ []
action_operands (action.Input r) = r.0 ∷ []
action_operands (action.Print r) = r.0 ∷ []
action_operands (action.Hash d n v) = d.0 ∷ n.0 ∷ v.0 ∷ []
action_operands (action.Same x y) = x.0 ∷ y.0 ∷ []
action_operands (action.Zero r count) = r.0 ∷ count ∷ []
action_operands (action.Get r x count i) = r.0 ∷ x.0 ∷ count ∷ i.0 ∷ []
action_operands (action.Put x count i s) = x.0 ∷ count ∷ i.0 ∷ s.0 ∷ []

abbrev pub operands : Instr → List ℕ
operands (instr.Do a) = action_operands a
operands (instr.Send p rs) = p.0 ∷ map (λ r. r.0) rs
operands (instr.Recv p rs) = p.0 ∷ map (λ r. r.0) rs
operands (instr.If g) = g.0 ∷ []
operands instr.Else = []
operands (instr.For r count) = r.0 ∷ count ∷ []
operands instr.End = []

-- one of the three instructions on arrays
abbrev pub is_array_word : Word → Bool
is_array_word word.Zero = true
is_array_word word.Get = true
is_array_word word.Put = true
is_array_word w = false

abbrev pub is_array : Instr → Bool
is_array i = is_array_word (word_of i)
