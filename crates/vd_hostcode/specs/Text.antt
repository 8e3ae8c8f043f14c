-- The text of a host's program.
use Rattle.std.specs.Prelude.{ℕ, List, [], ◌∷◌, ◌++◌, Bool, if◌then◌else◌, codes, flat_map}
use Rattle.std.specs.List.{list_any}
use Rattle.vd_execution.specs.declared.instructions.Instr.{Instr}
use Rattle.vd_base_codec.specs.Digits.{key_text}
use Rattle.vd_base_codec.specs.Reading.{field}
use Rattle.vd_hostcode.specs.declared.host_text.program.HostProgram.{HostProgram}
use Rattle.vd_hostcode.specs.Words.{spelling, word_of, operands, is_array}

-- a line: the word of the instruction, its numbers, and the end of the line
unfoldable pub line : Instr → List ℕ
line i = spelling (word_of i) ++ (flat_map field (operands i) ++ 10 ∷ [])

-- a name behind a space
unfoldable pub name_field : List ℕ → List ℕ
name_field name = 32 ∷ name

-- the format of the file: 2 exactly where an instruction on arrays is there
unfoldable pub version : Bool → List ℕ
version arrays = if arrays then codes "2" else codes "1"

abbrev pub version_line : List Instr → List ℕ
version_line code = codes "viaduct-host " ++ version (list_any is_array code)

abbrev pub names_line : List (List ℕ) → List ℕ
names_line names = codes "\nhosts" ++ flat_map name_field names

abbrev pub number_line : ℕ → List ℕ
number_line me = codes "\nme" ++ field me

abbrev pub plan_line : List ℕ → List ℕ
plan_line bytes = codes "\nplan " ++ (key_text bytes ++ 10 ∷ [])

-- the four lines before the code
unfoldable pub head : HostProgram → List ℕ
head p = version_line p.code ++ (names_line p.hosts ++ (number_line p.me.0 ++ plan_line p.plan.bytes))

-- the whole file
abbrev pub program_text : HostProgram → List ℕ
program_text p = head p ++ (flat_map line p.code ++ codes "end\n")
