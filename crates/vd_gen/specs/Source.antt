-- The text of the source that tells whether two hosts' points are nearer to each other than a limit: as large as is wanted.
use Rattle.std.specs.Prelude.{ℕ, zero, suc, ◌+◌, ◌-◌, ◌==◌, if◌then◌else◌, List, [], ◌∷◌, ◌++◌, codes, decimal, flat_map}
use Rattle.std.specs.List.{range_with_len}

-- a name: its letter and its number
abbrev pub named : List ℕ → ℕ → List ℕ
named letter k = letter ++ decimal k

-- `  let NAME = EXPRESSION;`
abbrev pub binding : List ℕ → List ℕ → List ℕ
binding name expression = codes "  let " ++ name ++ codes " = " ++ expression ++ codes ";\n"

-- the sum of the first squares, up to that of number k; that of number 0 is the square itself
abbrev pub sum_name : ℕ → List ℕ
sum_name zero = named (codes "q") 0
sum_name (suc k) = named (codes "s") (suc k)

abbrev pub sum_line : ℕ → List ℕ
sum_line zero = []
sum_line (suc k) = binding (sum_name (suc k)) (sum_name k ++ codes " + " ++ named (codes "q") (suc k))

-- a coordinate of each point, their difference, its square, and the sum so far
abbrev pub coordinate : ℕ → List ℕ
coordinate k =
    binding (named (codes "a") k) (codes "input(alice)")
    ++ binding (named (codes "b") k) (codes "input(bob)")
    ++ binding (named (codes "d") k) (named (codes "a") k ++ codes " - " ++ named (codes "b") k)
    ++ binding (named (codes "q") k) (named (codes "d") k ++ codes " * " ++ named (codes "d") k)
    ++ sum_line k

abbrev pub head : List ℕ
head = codes "principals A, B;\nhost alice {A ; A & B};\nhost bob {B ; A & B};\nmain {\n"

abbrev pub answer : ℕ → List ℕ
answer last = binding (codes "r") (codes "declassify(" ++ sum_name last ++ codes " < 1000, {A | B})")

abbrev pub tail : List ℕ
tail = codes "  output r to alice;\n  output r to bob;\n}\n"

-- for points with so many coordinates, of which there is at least one
abbrev pub generated : ℕ → List ℕ
generated n = head ++ flat_map coordinate (range_with_len 0 n) ++ answer (n - 1) ++ tail
