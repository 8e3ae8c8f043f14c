-- Sentences on kinds that do not fit, by what met there. `word` is what stands at the fault.
use Rattle.std.specs.Prelude.{ℕ, List, [], ◌∷◌, codes, decimal}
use Rattle.vd_base.specs.declared.operations.Kind.{Kind}
use Rattle.vd_base.specs.declared.operations.Kind.TheVariants.{Word, Bool as Truth}
use Rattle.vd_diag.specs.Parts.{three, in_table}
use Rattle.vd_resolve.specs.declared.met.Met.{Met}
use Rattle.vd_resolve.specs.declared.met.Met.TheVariants as met

abbrev pub kind_phrase : Kind → List ℕ
kind_phrase Word = codes "a word"
kind_phrase Truth = codes "a bool"

-- what is no value of this kind
abbrev pub other_phrase : Kind → List ℕ
other_phrase Word = codes "a bool"
other_phrase Truth = codes "a word"

-- ---- at an operator, `min`, `max` or `mux`: what it takes, and what it is given

unfoldable pub operand_table : List (List ℕ × List ℕ)
operand_table =
    (codes "mux", codes "`mux` takes a bool and two values of one kind")
    ∷ (codes "min", codes "`min` takes two words")
    ∷ (codes "max", codes "`max` takes two words")
    ∷ (codes "!", codes "`!` takes a bool")
    ∷ (codes "~", codes "`~` takes a word")
    ∷ (codes "+", codes "`+` takes two words")
    ∷ (codes "-", codes "`-` takes two words")
    ∷ (codes "*", codes "`*` takes two words")
    ∷ (codes "/", codes "`/` takes two words")
    ∷ (codes "%", codes "`%` takes two words")
    ∷ (codes "<<", codes "`<<` shifts a word by at most 31 bits")
    ∷ (codes ">>", codes "`>>` shifts a word by at most 31 bits")
    ∷ (codes "<", codes "`<` compares two words")
    ∷ (codes "<=", codes "`<=` compares two words")
    ∷ (codes ">", codes "`>` compares two words")
    ∷ (codes ">=", codes "`>=` compares two words")
    ∷ (codes "==", codes "`==` compares two words")
    ∷ (codes "!=", codes "`!=` compares two words")
    ∷ (codes "&", codes "`&` takes two words or two bools")
    ∷ (codes "|", codes "`|` takes two words or two bools")
    ∷ (codes "^", codes "`^` takes two words or two bools")
    ∷ []

unfoldable pub other_operand : List ℕ
other_operand = codes "this takes values of other kinds"

unfoldable pub operand_sentence : List ℕ → List ℕ
operand_sentence word = in_table operand_table word other_operand

abbrev pub behind_sentence : List ℕ → Kind → List ℕ
behind_sentence word kind = three (operand_sentence word) (codes "; behind it stands ") (kind_phrase kind)

abbrev pub sides_sentence : List ℕ → Kind → Kind → List ℕ
sides_sentence word left right = three (operand_sentence word) (codes "; on its left stands ") (three (kind_phrase left) (codes ", and on its right ") (kind_phrase right))

abbrev pub shifted_sentence : List ℕ → Kind → ℕ → List ℕ
shifted_sentence word kind bits = three (operand_sentence word) (codes "; here ") (three (kind_phrase kind) (codes " is shifted by ") (decimal bits))

abbrev pub given_sentence : List ℕ → Kind → Kind → List ℕ
given_sentence word left right = three (operand_sentence word) (codes "; it is given ") (three (kind_phrase left) (codes " and ") (kind_phrase right))

abbrev pub chosen_sentence : List ℕ → Kind → Kind → Kind → List ℕ
chosen_sentence word test left right =
    three (operand_sentence word) (codes "; it is given ") (three (kind_phrase test) (codes ", ") (three (kind_phrase left) (codes " and ") (kind_phrase right)))

-- ---- at a name

abbrev pub whole_array_sentence : List ℕ → List ℕ
whole_array_sentence word = three (codes "`") word (codes "` is an array; an element of it, with an index in `[` and `]`, can stand here")

abbrev pub no_array_sentence : List ℕ → List ℕ
no_array_sentence word = three (codes "`") word (codes "` is no array, and only an array has an index")

abbrev pub bool_index_sentence : List ℕ → List ℕ
bool_index_sentence word = three (codes "the index of `") word (codes "` is a bool, and an index is a word")

abbrev pub argument_sentence : List ℕ → ℕ → Kind → List ℕ
argument_sentence word number kind =
    three (three (codes "argument ") (decimal number) (codes " of `")) word (three (three (codes "` is ") (kind_phrase kind) (codes ", and the function takes ")) (other_phrase kind) (codes " there"))

abbrev pub no_variable_sentence : List ℕ → List ℕ
no_variable_sentence word = three (codes "`") word (codes "` is no `var`, and only a `var` is given another value")

abbrev pub value_sentence : List ℕ → Kind → List ℕ
value_sentence word kind = three (three (codes "`") word (codes "` takes ")) (other_phrase kind) (three (codes ", and is given ") (kind_phrase kind) (codes " here"))

-- ---- at a keyword

abbrev pub guard_sentence : Kind → List ℕ
guard_sentence kind = three (codes "the guard of an `if` is a bool, and ") (kind_phrase kind) (codes " stands here")

abbrev pub returned_sentence : Kind → List ℕ
returned_sentence kind = three (three (codes "the function gives ") (other_phrase kind) (codes ", and ")) (kind_phrase kind) (codes " is returned")

abbrev pub kind_sentence : List ℕ → Met → List ℕ
kind_sentence word met.WholeArray = whole_array_sentence word
kind_sentence word met.NoArray = no_array_sentence word
kind_sentence word met.BoolIndex = bool_index_sentence word
kind_sentence word (met.Argument number kind) = argument_sentence word number kind
kind_sentence word (met.Behind kind) = behind_sentence word kind
kind_sentence word (met.Sides left right) = sides_sentence word left right
kind_sentence word (met.Shifted kind bits) = shifted_sentence word kind bits
kind_sentence word (met.Given left right) = given_sentence word left right
kind_sentence word (met.Chosen test left right) = chosen_sentence word test left right
kind_sentence word met.NoVariable = no_variable_sentence word
kind_sentence word (met.Value kind) = value_sentence word kind
kind_sentence word (met.Guard kind) = guard_sentence kind
kind_sentence word (met.Returned kind) = returned_sentence kind
