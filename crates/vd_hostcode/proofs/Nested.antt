-- The lines of a file are the text of a code.
use Rattle.std.proofs.Common.{◌≡◌, ℕ, true, false, List, [], ◌∷◌, map, drop, Some, refl, sym, ap, ◌∙◌, true≢false}
use Rattle.vd_execution.specs.declared.instructions.Reg.{Reg}
use Rattle.vd_execution.specs.declared.instructions.Action.{Action}
use Rattle.vd_execution.specs.declared.instructions.Instr.{Instr}
use Rattle.vd_execution.specs.declared.instructions.Instr.TheVariants as instr
use Rattle.vd_execution.specs.Code.{Code, Finished, Then, Send, Recv, Choose, Repeat}
use Rattle.vd_execution.specs.Text.{register, Open, AfterEnd, AfterElse, Reading, read_before, read, IsCodeOf}
use Rattle.vd_hostcode.specs.declared.host_text.words.Word.{Word}
use Rattle.vd_hostcode.specs.declared.host_text.words.Word.TheVariants as word
use Rattle.vd_hostcode.specs.declared.host_text.blocks.Block.{Block}
use Rattle.vd_hostcode.specs.declared.host_text.blocks.Block.TheVariants as block
use Rattle.vd_hostcode.specs.declared.host_text.blocks.Arrays.{Arrays}
use Rattle.vd_hostcode.specs.Lines.{Line, State, start, allows, after, is_last, may_else, may_end, none_open, outer, Leads}
use Rattle.vd_hostcode.specs.Reading.{at, peer, instr_of, code_of}

-- the blocks that are open here, and those whose end was read behind
abbrev IsBlock : Block → Open → Type 0
IsBlock block.First (AfterElse other rest) = Unit {0}
IsBlock block.First (AfterEnd rest) = ⊥
IsBlock block.Last (AfterElse other rest) = ⊥
IsBlock block.Last (AfterEnd rest) = Unit {0}

abbrev Matches : List Block → List Open → Type 0
Matches [] [] = Unit {0}
Matches [] (o ∷ os) = ⊥
Matches (b ∷ bs) [] = ⊥
Matches (b ∷ bs) (o ∷ os) = IsBlock b o × Matches bs os

abbrev reading : Code → List Open → Reading
reading c os = record { code = c; blocks = os }

-- instructions that close the blocks that are open before them, and no other
record Nests (bs : List Block) (is : List Instr) : Type 0 where
  before : Reading
  reads : read is ≡ Some before
  matches : Matches bs before.blocks

does : (bs : List Block) (is : List Instr) (a : Action) → Nests bs is → Nests bs (instr.Do a ∷ is)
does bs is a h = record { before = reading (Then a h.before.code) h.before.blocks; reads = ap (read_before (instr.Do a)) h.reads; matches = h.matches }

sends : (bs : List Block) (is : List Instr) (i : Instr) (f : Code → Code) → ((r : Reading) → read_before i (Some r) ≡ Some (reading (f r.code) r.blocks)) → Nests bs is → Nests bs (i ∷ is)
sends bs is i f e h = record { before = reading (f h.before.code) h.before.blocks; reads = ap (read_before i) h.reads ∙ e h.before; matches = h.matches }

if_by : (bs : List Block) (is : List Instr) (g : Reg) (c : Code) (os : List Open) → read is ≡ Some (reading c os) → Matches (block.First ∷ bs) os → Nests bs (instr.If g ∷ is)
if_by bs is g c [] e m = absurd m
if_by bs is g c (AfterEnd rest ∷ os) e m = absurd m.0
if_by bs is g c (AfterElse other rest ∷ os) e m = record { before = reading (Choose g.0 c other rest) os; reads = ap (read_before (instr.If g)) e; matches = m.1 }

for_by : (bs : List Block) (is : List Instr) (r : Reg) (count : ℕ) (c : Code) (os : List Open) → read is ≡ Some (reading c os) → Matches (block.Last ∷ bs) os → Nests bs (instr.For r count ∷ is)
for_by bs is r count c [] e m = absurd m
for_by bs is r count c (AfterElse other rest ∷ os) e m = absurd m.0
for_by bs is r count c (AfterEnd rest ∷ os) e m = record { before = reading (Repeat r.0 0 count c rest) os; reads = ap (read_before (instr.For r count)) e; matches = m.1 }

else_by : (bs : List Block) (is : List Instr) (c : Code) (os : List Open) → may_else bs ≡ true → read is ≡ Some (reading c os) → Matches (block.Last ∷ outer bs) os → Nests bs (instr.Else ∷ is)
else_by [] is c os a e m = absurd (true≢false (sym a))
else_by (block.Last ∷ bs) is c os a e m = absurd (true≢false (sym a))
else_by (block.First ∷ bs) is c [] a e m = absurd m
else_by (block.First ∷ bs) is c (AfterElse other rest ∷ os) a e m = absurd m.0
else_by (block.First ∷ bs) is c (AfterEnd rest ∷ os) a e m = record { before = reading Finished (AfterElse c rest ∷ os); reads = ap (read_before instr.Else) e; matches = (tt, m.1) }

end_by : (a : Arrays) (bs : List Block) (is : List Instr) → may_end a bs ≡ true → none_open bs ≡ false → Nests (outer bs) is → Nests bs (instr.End ∷ is)
end_by a [] is m l h = absurd (true≢false l)
end_by a (block.First ∷ bs) is m l h = absurd (true≢false (sym m))
end_by a (block.Last ∷ bs) is m l h = record { before = reading Finished (AfterEnd h.before.code ∷ h.before.blocks); reads = ap (read_before instr.End) h.reads; matches = (tt, h.matches) }

nest_word : (s : State) (w : Word) (ns : List ℕ) (is : List Instr) → allows s w ≡ true → is_last s w ≡ false → Nests (after s w).blocks is → Nests s.blocks (instr_of w ns ∷ is)
unfolding instr_of
nest_word s word.Const ns is a l h = does s.blocks is _ h
nest_word s word.Copy ns is a l h = does s.blocks is _ h
nest_word s (word.Apply o) ns is a l h = does s.blocks is _ h
nest_word s word.Shl ns is a l h = does s.blocks is _ h
nest_word s word.Shr ns is a l h = does s.blocks is _ h
nest_word s word.Mux ns is a l h = does s.blocks is _ h
nest_word s word.Own ns is a l h = does s.blocks is _ h
nest_word s word.Triple ns is a l h = does s.blocks is _ h
nest_word s word.Bits ns is a l h = does s.blocks is _ h
nest_word s word.Pair ns is a l h = does s.blocks is _ h
nest_word s word.Input ns is a l h = does s.blocks is _ h
nest_word s word.Print ns is a l h = does s.blocks is _ h
nest_word s word.Hash ns is a l h = does s.blocks is _ h
nest_word s word.Same ns is a l h = does s.blocks is _ h
nest_word s word.Zero ns is a l h = does s.blocks is _ h
nest_word s word.Get ns is a l h = does s.blocks is _ h
nest_word s word.Put ns is a l h = does s.blocks is _ h
nest_word s word.Send ns is a l h = sends s.blocks is (instr_of word.Send ns) (λ d. Send (peer (at ns 0)).0 (map register (drop 1 ns)) d) (λ r. refl) h
nest_word s word.Recv ns is a l h = sends s.blocks is (instr_of word.Recv ns) (λ d. Recv (peer (at ns 0)).0 (map register (drop 1 ns)) d) (λ r. refl) h
nest_word s word.If ns is a l h = if_by s.blocks is _ h.before.code h.before.blocks h.reads h.matches
nest_word s word.Else ns is a l h = else_by s.blocks is h.before.code h.before.blocks a h.reads h.matches
nest_word s word.For ns is a l h = for_by s.blocks is _ _ h.before.code h.before.blocks h.reads h.matches
nest_word s word.End ns is a l h = end_by s.arrays s.blocks is a l h

none_by : (bs : List Block) → none_open bs ≡ true → Nests bs []
none_by [] e = record { before = reading Finished []; reads = refl; matches = tt }
none_by (b ∷ bs) e = absurd (true≢false (sym e))

nested_from : (s : State) (ls : List Line) → Leads s ls → Nests s.blocks (code_of ls)
nested_from s [] h = none_by s.blocks h.1
nested_from s (l ∷ ls) h = nest_word s l.word l.numbers (code_of ls) h.0 h.1.1.0 (nested_from (after s l.word) ls h.1.1.1)

whole_by : (is : List Instr) (c : Code) (os : List Open) → read is ≡ Some (reading c os) → Matches [] os → (d : Code) × IsCodeOf is d
whole_by is c [] e m = (c, e)
whole_by is c (o ∷ os) e m = absurd m

pub nested : (a : Arrays) (ls : List Line) → Leads (start a) ls → (c : Code) × IsCodeOf (code_of ls) c
nested a ls h = let n = nested_from (start a) ls h in whole_by (code_of ls) n.before.code n.before.blocks n.reads n.matches
