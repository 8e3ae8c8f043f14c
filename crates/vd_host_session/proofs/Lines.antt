-- The packets of a program that was read go to the other hosts and come from them, and have 1 to 16 words.
use Rattle.std.proofs.Common.{arith, ◌≡◌, ◌≤◌, inl, ℕ, Bool, true, false, not, ◌&&◌, List, [], ◌∷◌, ◌++◌, length, map, drop, refl, sym, ◌∙◌, append_assoc}
use Rattle.std.specs.Prelude.{◌==◌, nat_lt, nat_le}
use Rattle.std.specs.List.{list_all}
use Rattle.std.proofs.lemmas.Bool.{and_parts, or_parts, not-false, not-true, ltb-true, leb-true, eqb-false}
use Rattle.std.proofs.lemmas.List.{length-map, length-drop}
use Rattle.vd_base.specs.Limits.{most_packet_words, most_open_blocks}
use Rattle.vd_base.specs.declared.ids.HostId.{HostId}
use Rattle.vd_execution.specs.declared.instructions.Instr.{Instr}
use Rattle.vd_execution.specs.declared.instructions.Reg.{Reg}
use Rattle.vd_execution.specs.Text.{register}
use Rattle.vd_engine.specs.Hosts.{IsPacketWith}
use Rattle.vd_hostcode.specs.declared.host_text.words.Word.{Word}
use Rattle.vd_hostcode.specs.declared.host_text.words.Word.TheVariants as word
use Rattle.vd_hostcode.specs.Lines.{HasNumbers, Leads, Line, State, after}
use Rattle.vd_hostcode.specs.Reading.{code_of, instr_in, instr_of}
use Rattle.vd_hostcode.specs.Ranges.{IsWithinRanges, breaks, count_in, is_peer, is_register, is_within, open_in, opens, packet_is_within}
use Rattle.vd_host_session.specs.Packets.{AllSpeakWith, IsOther, SpeaksWith}

packet_speaks : (hosts : ℕ) (me p : HostId) (rs : List Reg) → packet_is_within hosts me p rs ≡ true → 1 ≤ length rs → IsPacketWith (IsOther me.0 hosts) p.0 rs
packet_speaks hosts me p rs within some =
    let q = and_parts (is_peer hosts me p) (nat_le (length rs) most_packet_words && list_all is_register rs) within in
    let r = and_parts (nat_le (length rs) most_packet_words) (list_all is_register rs) q.1 in
    let o = and_parts (nat_lt p.0 hosts) (not (p.0 == me.0)) q.0 in
    ((ltb-true p.0 hosts o.0, eqb-false p.0 me.0 (not-true (p.0 == me.0) o.1)), some, leb-true (length rs) most_packet_words r.0)

some_registers : (numbers : List ℕ) → 2 ≤ length numbers → 1 ≤ length (map register (drop 1 numbers))
some_registers numbers enough = let long = length-map (drop 1 numbers) register in let less = length-drop 1 numbers in omega (arith, long, less, enough)

instruction_speaks : (hosts : ℕ) (me : HostId) (w : Word) (numbers : List ℕ) → is_within hosts me (instr_of w numbers) ≡ true → HasNumbers w numbers → SpeaksWith (IsOther me.0 hosts) (instr_of w numbers)
unfolding instr_of
instruction_speaks hosts me word.Send numbers within has = packet_speaks hosts me _ (map register (drop 1 numbers)) within (some_registers numbers has.enough)
instruction_speaks hosts me word.Recv numbers within has = packet_speaks hosts me _ (map register (drop 1 numbers)) within (some_registers numbers has.enough)
instruction_speaks hosts me word.Const numbers within has = tt
instruction_speaks hosts me word.Copy numbers within has = tt
instruction_speaks hosts me (word.Apply operation) numbers within has = tt
instruction_speaks hosts me word.Shl numbers within has = tt
instruction_speaks hosts me word.Shr numbers within has = tt
instruction_speaks hosts me word.Mux numbers within has = tt
instruction_speaks hosts me word.Own numbers within has = tt
instruction_speaks hosts me word.Triple numbers within has = tt
instruction_speaks hosts me word.Bits numbers within has = tt
instruction_speaks hosts me word.Pair numbers within has = tt
instruction_speaks hosts me word.Input numbers within has = tt
instruction_speaks hosts me word.Print numbers within has = tt
instruction_speaks hosts me word.Hash numbers within has = tt
instruction_speaks hosts me word.Same numbers within has = tt
instruction_speaks hosts me word.Zero numbers within has = tt
instruction_speaks hosts me word.Get numbers within has = tt
instruction_speaks hosts me word.Put numbers within has = tt
instruction_speaks hosts me word.If numbers within has = tt
instruction_speaks hosts me word.Else numbers within has = tt
instruction_speaks hosts me word.For numbers within has = tt
instruction_speaks hosts me word.End numbers within has = tt

-- an instruction of a code that breaks no range
stands_within : (hosts : ℕ) (me : HostId) (code front rest : List Instr) (i : Instr) → IsWithinRanges hosts me code → code ≡ front ++ i ∷ rest → is_within hosts me i ≡ true
stands_within hosts me code front rest i within split = by (breaks hosts me (open_in 0 front) i) refl
  where
    by : (b : Bool) → breaks hosts me (open_in 0 front) i ≡ b → is_within hosts me i ≡ true
    by true is = absurd (within (count_in front) (inl (record { front = front; instruction = i; rest = rest; split = split; number_is = omega arith; breaks_there = is })))
    by false is = not-false (is_within hosts me i) (or_parts (not (is_within hosts me i)) (opens i && nat_le most_open_blocks (open_in 0 front)) is).0

pub lines_speak : (hosts : ℕ) (me : HostId) (code front : List Instr) (state : State) (lines : List Line) → IsWithinRanges hosts me code → code ≡ front ++ code_of lines → Leads state lines
    → AllSpeakWith (IsOther me.0 hosts) (code_of lines)
lines_speak hosts me code front state [] within split leads = tt
lines_speak hosts me code front state (line ∷ lines) within split leads = (
  instruction_speaks hosts me line.word line.numbers (stands_within hosts me code front (code_of lines) (instr_in line) within split) leads.1.0,
  lines_speak hosts me code (front ++ instr_in line ∷ []) (after state line.word) lines within (split ∙ sym (append_assoc front (instr_in line ∷ []) (code_of lines))) leads.1.1.1,
)
