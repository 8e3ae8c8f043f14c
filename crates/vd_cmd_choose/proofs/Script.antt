-- The parts of a generated source: they are its text, they are lexable, and no bracket is too deep.
use Rattle.std.proofs.Common.{◌≡◌, ℕ, zero, suc, ◌+◌, ◌-◌, ◌<◌, ◌≤◌, true, List, [], ◌∷◌, ◌++◌, codes, refl, sym, ap, ◌∙◌, arith, append_assoc}
use Rattle.std.specs.Prelude.{flat_map}
use Rattle.std.specs.Fmt.{decimal}
use Rattle.std.specs.List.{range_with_len}
use Rattle.vd_source_lexer.specs.Tables.{keyword_kinds, symbol_kinds}
use Rattle.vd_source_lexer.specs.Tokens.{first_piece}
use Rattle.vd_source_lexer.specs.declared.token.TokenKind.{TokenKind}
use Rattle.vd_source_lexer.specs.declared.token.TokenKind.TheVariants as kind
use Rattle.vd_gen.specs.Source.{generated, head, coordinate, answer, tail, binding, sum_name, sum_line}
use Rattle.vd_cmd_choose.proofs.Words.{Part, Gap, Word, word, text_of, Lexable, shallow}
use Rattle.vd_cmd_choose.proofs.Names.{IsPlain, name_piece, plain_a, plain_b, plain_d, plain_q, plain_s}

-- ---- the parts of each line, with further parts behind them

abbrev pub let_parts : ℕ → List ℕ → List Part → List Part
let_parts b bs more =
    Gap (codes "  ") ∷ word kind.Let (codes "let") ∷ Gap (codes " ") ∷ Word kind.Name b bs 0 ∷ Gap (codes " ") ∷ word kind.Equal (codes "=") ∷ Gap (codes " ") ∷ more

abbrev pub end_parts : List Part → List Part
end_parts rest = word kind.Semicolon (codes ";") ∷ Gap (codes "\n") ∷ rest

abbrev pub input_parts : ℕ → List ℕ → ℕ → List ℕ → List Part → List Part
input_parts b bs h hs rest =
    let_parts b bs (word kind.Input (codes "input") ∷ word kind.OpenParen (codes "(") ∷ Word kind.Name h hs 0 ∷ word kind.CloseParen (codes ")") ∷ end_parts rest)

-- two names with an operator between them
abbrev pub two_parts : ℕ → List ℕ → TokenKind → ℕ → ℕ → List ℕ → ℕ → List ℕ → List Part → List Part
two_parts b bs k op x xs y ys rest =
    let_parts b bs (Word kind.Name x xs 0 ∷ Gap (codes " ") ∷ Word k op [] 0 ∷ Gap (codes " ") ∷ Word kind.Name y ys 0 ∷ end_parts rest)

abbrev pub answer_parts : ℕ → List ℕ → List Part → List Part
answer_parts x xs rest =
    let_parts 114 [] (word kind.Declassify (codes "declassify") ∷ word kind.OpenParen (codes "(") ∷ Word kind.Name x xs 0 ∷ Gap (codes " ") ∷ word kind.Less (codes "<") ∷ Gap (codes " ")
    ∷ Word kind.Number 49 (codes "000") 1000 ∷ word kind.Comma (codes ",") ∷ Gap (codes " ") ∷ word kind.OpenBrace (codes "{") ∷ word kind.Name (codes "A") ∷ Gap (codes " ")
    ∷ word kind.Pipe (codes "|") ∷ Gap (codes " ") ∷ word kind.Name (codes "B") ∷ word kind.CloseBrace (codes "}") ∷ word kind.CloseParen (codes ")") ∷ end_parts rest)

abbrev pub output_parts : ℕ → List ℕ → List Part → List Part
output_parts h hs rest =
    Gap (codes "  ") ∷ word kind.Output (codes "output") ∷ Gap (codes " ") ∷ word kind.Name (codes "r") ∷ Gap (codes " ") ∷ word kind.To (codes "to") ∷ Gap (codes " ")
    ∷ Word kind.Name h hs 0 ∷ end_parts rest

abbrev pub host_parts : ℕ → List ℕ → ℕ → List Part → List Part
host_parts h hs p rest =
    word kind.Host (codes "host") ∷ Gap (codes " ") ∷ Word kind.Name h hs 0 ∷ Gap (codes " ") ∷ word kind.OpenBrace (codes "{") ∷ Word kind.Name p [] 0 ∷ Gap (codes " ")
    ∷ word kind.Semicolon (codes ";") ∷ Gap (codes " ") ∷ word kind.Name (codes "A") ∷ Gap (codes " ") ∷ word kind.Ampersand (codes "&") ∷ Gap (codes " ") ∷ word kind.Name (codes "B")
    ∷ word kind.CloseBrace (codes "}") ∷ word kind.Semicolon (codes ";") ∷ Gap (codes "\n") ∷ rest

abbrev pub head_parts : List Part → List Part
head_parts rest =
    word kind.Principals (codes "principals") ∷ Gap (codes " ") ∷ word kind.Name (codes "A") ∷ word kind.Comma (codes ",") ∷ Gap (codes " ") ∷ word kind.Name (codes "B")
    ∷ word kind.Semicolon (codes ";") ∷ Gap (codes "\n")
    ∷ host_parts 97 (codes "lice") 65 (host_parts 98 (codes "ob") 66 (word kind.Main (codes "main") ∷ Gap (codes " ") ∷ word kind.OpenBrace (codes "{") ∷ Gap (codes "\n") ∷ rest))

abbrev pub tail_parts : List Part
tail_parts = output_parts 97 (codes "lice") (output_parts 98 (codes "ob") (word kind.CloseBrace (codes "}") ∷ Gap (codes "\n") ∷ []))

-- the letter of a sum's name
abbrev pub sum_letter : ℕ → ℕ
sum_letter zero = 113
sum_letter (suc k) = 115

abbrev pub sum_parts : ℕ → List Part → List Part
sum_parts zero rest = rest
sum_parts (suc k) rest = two_parts 115 (decimal (suc k)) kind.Plus 43 (sum_letter k) (decimal k) 113 (decimal (suc k)) rest

abbrev pub coordinate_parts : ℕ → List Part → List Part
coordinate_parts k rest =
    input_parts 97 (decimal k) 97 (codes "lice") (input_parts 98 (decimal k) 98 (codes "ob") (two_parts 100 (decimal k) kind.Minus 45 97 (decimal k) 98 (decimal k)
    (two_parts 113 (decimal k) kind.Star 42 100 (decimal k) 100 (decimal k) (sum_parts k rest))))

abbrev pub coordinates_parts : ℕ → ℕ → List Part → List Part
coordinates_parts a zero rest = rest
coordinates_parts a (suc n) rest = coordinate_parts a (coordinates_parts (suc a) n rest)

abbrev pub last_parts : ℕ → List Part
last_parts last = answer_parts (sum_letter last) (decimal last) tail_parts

-- so many coordinates, of which the last has this number
abbrev pub script : (n last : ℕ) → List Part
script n last = head_parts (coordinates_parts 0 n (last_parts last))

-- ---- their text

three : (a b c d : List ℕ) → a ++ b ++ c ++ d ≡ a ++ (b ++ (c ++ d))
three a b c d = append_assoc (a ++ b) c d ∙ append_assoc a b (c ++ d)

four : (a b c d e : List ℕ) → a ++ b ++ c ++ d ++ e ≡ a ++ (b ++ (c ++ (d ++ e)))
four a b c d e = append_assoc (a ++ b ++ c) d e ∙ three a b c (d ++ e)

line_text : (b : ℕ) (bs e rest : List ℕ) (more : List Part) → text_of more ≡ e ++ (codes ";\n" ++ rest) → text_of (let_parts b bs more) ≡ binding (b ∷ bs) e ++ rest
line_text b bs e rest more h =
    ap (λ t. codes "  let " ++ (b ∷ t)) (ap (λ t. bs ++ (codes " = " ++ t)) h ∙ sym (four bs (codes " = ") e (codes ";\n") rest))

two_text : (b : ℕ) (bs : List ℕ) (k : TokenKind) (op x : ℕ) (xs : List ℕ) (y : ℕ) (ys : List ℕ) (rest : List Part) →
    text_of (two_parts b bs k op x xs y ys rest) ≡ binding (b ∷ bs) ((x ∷ xs) ++ (32 ∷ op ∷ 32 ∷ []) ++ (y ∷ ys)) ++ text_of rest
two_text b bs k op x xs y ys rest =
    line_text b bs ((x ∷ xs) ++ (32 ∷ op ∷ 32 ∷ []) ++ (y ∷ ys)) (text_of rest) (Word kind.Name x xs 0 ∷ Gap (codes " ") ∷ Word k op [] 0 ∷ Gap (codes " ") ∷ Word kind.Name y ys 0 ∷ end_parts rest)
    (sym (three (x ∷ xs) (32 ∷ op ∷ 32 ∷ []) (y ∷ ys) (codes ";\n" ++ text_of rest)))

sum_name_is : (k : ℕ) → sum_name k ≡ sum_letter k ∷ decimal k
sum_name_is zero = refl
sum_name_is (suc k) = refl

sum_text : (k : ℕ) (rest : List Part) → text_of (sum_parts k rest) ≡ sum_line k ++ text_of rest
sum_text zero rest = refl
sum_text (suc k) rest =
    two_text 115 (decimal (suc k)) kind.Plus 43 (sum_letter k) (decimal k) 113 (decimal (suc k)) rest
    ∙ ap (λ w. binding (115 ∷ decimal (suc k)) (w ++ codes " + " ++ (113 ∷ decimal (suc k))) ++ text_of rest) (sym (sum_name_is k))

joined : (a b c d e rest t u v w z : List ℕ) → t ≡ a ++ u → u ≡ b ++ v → v ≡ c ++ w → w ≡ d ++ z → z ≡ e ++ rest → t ≡ a ++ b ++ c ++ d ++ e ++ rest
joined a b c d e rest t u v w z p q r s f =
    p ∙ ap (λ x. a ++ x) (q ∙ ap (λ x. b ++ x) (r ∙ ap (λ x. c ++ x) (s ∙ ap (λ x. d ++ x) f))) ∙ sym (append_assoc (a ++ b ++ c ++ d) e rest ∙ four a b c d (e ++ rest))

coordinate_text : (k : ℕ) (rest : List Part) → text_of (coordinate_parts k rest) ≡ coordinate k ++ text_of rest
coordinate_text k rest =
    let sums = sum_parts k rest in
    let squares = two_parts 113 (decimal k) kind.Star 42 100 (decimal k) 100 (decimal k) sums in
    let differences = two_parts 100 (decimal k) kind.Minus 45 97 (decimal k) 98 (decimal k) squares in
    let seconds = input_parts 98 (decimal k) 98 (codes "ob") differences in
    joined (binding (97 ∷ decimal k) (codes "input(alice)")) (binding (98 ∷ decimal k) (codes "input(bob)")) (binding (100 ∷ decimal k) ((97 ∷ decimal k) ++ codes " - " ++ (98 ∷ decimal k)))
    (binding (113 ∷ decimal k) ((100 ∷ decimal k) ++ codes " * " ++ (100 ∷ decimal k))) (sum_line k) (text_of rest) (text_of (coordinate_parts k rest)) (text_of seconds) (text_of differences) (text_of squares) (text_of sums)
    (line_text 97 (decimal k) (codes "input(alice)") (text_of seconds)
    (word kind.Input (codes "input") ∷ word kind.OpenParen (codes "(") ∷ Word kind.Name 97 (codes "lice") 0 ∷ word kind.CloseParen (codes ")") ∷ end_parts seconds) refl)
    (line_text 98 (decimal k) (codes "input(bob)") (text_of differences)
    (word kind.Input (codes "input") ∷ word kind.OpenParen (codes "(") ∷ Word kind.Name 98 (codes "ob") 0 ∷ word kind.CloseParen (codes ")") ∷ end_parts differences) refl)
    (two_text 100 (decimal k) kind.Minus 45 97 (decimal k) 98 (decimal k) squares) (two_text 113 (decimal k) kind.Star 42 100 (decimal k) 100 (decimal k) sums) (sum_text k rest)

coordinates_text : (a n : ℕ) (rest : List Part) → text_of (coordinates_parts a n rest) ≡ flat_map coordinate (range_with_len a n) ++ text_of rest
coordinates_text a zero rest = refl
coordinates_text a (suc n) rest =
    let next : suc a ≡ a + 1 = omega arith in
    coordinate_text a (coordinates_parts (suc a) n rest) ∙ ap (λ t. coordinate a ++ t) (coordinates_text (suc a) n rest)
    ∙ ap (λ b. coordinate a ++ (flat_map coordinate (range_with_len b n) ++ text_of rest)) next ∙ sym (append_assoc (coordinate a) (flat_map coordinate (range_with_len (a + 1) n)) (text_of rest))

answer_text : (last : ℕ) (rest : List Part) → text_of (answer_parts (sum_letter last) (decimal last) rest) ≡ answer last ++ text_of rest
answer_text last rest =
    line_text 114 [] (codes "declassify(" ++ (sum_letter last ∷ decimal last) ++ codes " < 1000, {A | B})") (text_of rest)
    (word kind.Declassify (codes "declassify") ∷ word kind.OpenParen (codes "(") ∷ Word kind.Name (sum_letter last) (decimal last) 0 ∷ Gap (codes " ") ∷ word kind.Less (codes "<") ∷ Gap (codes " ")
    ∷ Word kind.Number 49 (codes "000") 1000 ∷ word kind.Comma (codes ",") ∷ Gap (codes " ") ∷ word kind.OpenBrace (codes "{") ∷ word kind.Name (codes "A") ∷ Gap (codes " ")
    ∷ word kind.Pipe (codes "|") ∷ Gap (codes " ") ∷ word kind.Name (codes "B") ∷ word kind.CloseBrace (codes "}") ∷ word kind.CloseParen (codes ")") ∷ end_parts rest)
    (sym (three (codes "declassify(") (sum_letter last ∷ decimal last) (codes " < 1000, {A | B})") (codes ";\n" ++ text_of rest)))
    ∙ ap (λ w. binding (codes "r") (codes "declassify(" ++ w ++ codes " < 1000, {A | B})") ++ text_of rest) (sym (sum_name_is last))

pub script_text : (n last : ℕ) → last ≡ n - 1 → text_of (script n last) ≡ generated n
script_text n last e =
    ap (λ t. head ++ t) (coordinates_text 0 n (last_parts last) ∙ ap (λ t. flat_map coordinate (range_with_len 0 n) ++ t) (answer_text last tail_parts))
    ∙ sym (three head (flat_map coordinate (range_with_len 0 n)) (answer last) tail) ∙ ap (λ l. head ++ flat_map coordinate (range_with_len 0 n) ++ answer l ++ tail) e

-- ---- they are lexable

plain_alice : IsPlain 97 (codes "lice")
unfolding keyword_kinds
plain_alice = record { no_space = refl; no_slash = refl; letter = refl; bytes = refl; no_keyword = refl }

plain_bob : IsPlain 98 (codes "ob")
unfolding keyword_kinds
plain_bob = record { no_space = refl; no_slash = refl; letter = refl; bytes = refl; no_keyword = refl }

plain_sum : (k : ℕ) → k < 100 → IsPlain (sum_letter k) (decimal k)
plain_sum zero h = plain_q zero h
plain_sum (suc k) h = plain_s (suc k) h

let_lexable : (b : ℕ) (bs : List ℕ) (more : List Part) → IsPlain b bs → Lexable more → Lexable (let_parts b bs more)
unfolding first_piece keyword_kinds symbol_kinds
let_lexable b bs more plain l = (refl, (refl, (refl, (name_piece b bs 32 _ plain refl, (refl, (refl, (refl, l)))))))

input_lexable : (b : ℕ) (bs : List ℕ) (h : ℕ) (hs : List ℕ) (rest : List Part) → IsPlain b bs → IsPlain h hs → Lexable rest → Lexable (input_parts b bs h hs rest)
unfolding first_piece keyword_kinds symbol_kinds
input_lexable b bs h hs rest plain host l =
    let_lexable b bs (word kind.Input (codes "input") ∷ word kind.OpenParen (codes "(") ∷ Word kind.Name h hs 0 ∷ word kind.CloseParen (codes ")") ∷ end_parts rest) plain
    (refl, (refl, (name_piece h hs 41 _ host refl, (refl, (refl, (refl, l))))))

minus_lexable : (b : ℕ) (bs : List ℕ) (x : ℕ) (xs : List ℕ) (y : ℕ) (ys : List ℕ) (rest : List Part) → IsPlain b bs → IsPlain x xs → IsPlain y ys → Lexable rest →
    Lexable (two_parts b bs kind.Minus 45 x xs y ys rest)
unfolding first_piece keyword_kinds symbol_kinds
minus_lexable b bs x xs y ys rest plain left right l =
    let_lexable b bs (Word kind.Name x xs 0 ∷ Gap (codes " ") ∷ Word kind.Minus 45 [] 0 ∷ Gap (codes " ") ∷ Word kind.Name y ys 0 ∷ end_parts rest) plain
    (name_piece x xs 32 _ left refl, (refl, (refl, (refl, (name_piece y ys 59 _ right refl, (refl, (refl, l)))))))

star_lexable : (b : ℕ) (bs : List ℕ) (x : ℕ) (xs : List ℕ) (y : ℕ) (ys : List ℕ) (rest : List Part) → IsPlain b bs → IsPlain x xs → IsPlain y ys → Lexable rest →
    Lexable (two_parts b bs kind.Star 42 x xs y ys rest)
unfolding first_piece keyword_kinds symbol_kinds
star_lexable b bs x xs y ys rest plain left right l =
    let_lexable b bs (Word kind.Name x xs 0 ∷ Gap (codes " ") ∷ Word kind.Star 42 [] 0 ∷ Gap (codes " ") ∷ Word kind.Name y ys 0 ∷ end_parts rest) plain
    (name_piece x xs 32 _ left refl, (refl, (refl, (refl, (name_piece y ys 59 _ right refl, (refl, (refl, l)))))))

plus_lexable : (b : ℕ) (bs : List ℕ) (x : ℕ) (xs : List ℕ) (y : ℕ) (ys : List ℕ) (rest : List Part) → IsPlain b bs → IsPlain x xs → IsPlain y ys → Lexable rest →
    Lexable (two_parts b bs kind.Plus 43 x xs y ys rest)
unfolding first_piece keyword_kinds symbol_kinds
plus_lexable b bs x xs y ys rest plain left right l =
    let_lexable b bs (Word kind.Name x xs 0 ∷ Gap (codes " ") ∷ Word kind.Plus 43 [] 0 ∷ Gap (codes " ") ∷ Word kind.Name y ys 0 ∷ end_parts rest) plain
    (name_piece x xs 32 _ left refl, (refl, (refl, (refl, (name_piece y ys 59 _ right refl, (refl, (refl, l)))))))

sum_lexable : (k : ℕ) (rest : List Part) → k < 100 → Lexable rest → Lexable (sum_parts k rest)
sum_lexable zero rest h l = l
sum_lexable (suc k) rest h l =
    plus_lexable 115 (decimal (suc k)) (sum_letter k) (decimal k) 113 (decimal (suc k)) rest (plain_s (suc k) h) (plain_sum k (omega (arith, h))) (plain_q (suc k) h) l

coordinate_lexable : (k : ℕ) (rest : List Part) → k < 100 → Lexable rest → Lexable (coordinate_parts k rest)
coordinate_lexable k rest h l =
    let a = plain_a k h in
    let b = plain_b k h in
    let d = plain_d k h in
    let q = plain_q k h in
    let ds = decimal k in
    let sums = sum_parts k rest in
    let squares = two_parts 113 ds kind.Star 42 100 ds 100 ds sums in
    let differences = two_parts 100 ds kind.Minus 45 97 ds 98 ds squares in
    input_lexable 97 ds 97 (codes "lice") (input_parts 98 ds 98 (codes "ob") differences) a plain_alice
    (input_lexable 98 ds 98 (codes "ob") differences b plain_bob
    (minus_lexable 100 ds 97 ds 98 ds squares d a b
    (star_lexable 113 ds 100 ds 100 ds sums q d d (sum_lexable k rest h l))))

coordinates_lexable : (a n : ℕ) (rest : List Part) → a + n ≤ 100 → Lexable rest → Lexable (coordinates_parts a n rest)
coordinates_lexable a zero rest h l = l
coordinates_lexable a (suc n) rest h l =
    coordinate_lexable a (coordinates_parts (suc a) n rest) (omega (arith, h)) (coordinates_lexable (suc a) n rest (omega (arith, h)) l)

tail_lexable : Lexable tail_parts
unfolding first_piece keyword_kinds symbol_kinds
tail_lexable =
    (refl, (refl, (refl, (refl, (refl, (refl, (refl, (refl, (refl, (refl, (refl, (refl, (refl, (refl, (refl, (refl, (refl, (refl, (refl, (refl, (refl, (refl, tt))))))))))))))))))))))

answer_lexable : (x : ℕ) (xs : List ℕ) (rest : List Part) → IsPlain x xs → Lexable rest → Lexable (answer_parts x xs rest)
unfolding first_piece keyword_kinds symbol_kinds
answer_lexable x xs rest plain l = (
  refl,
  (
    refl,
    (
      refl,
      (
        refl,
        (
          refl,
          (
            refl,
            (
              refl,
              (
                refl,
                (
                  refl,
                  (
                    name_piece x xs 32 _ plain refl,
                    (refl, (refl, (refl, (refl, (refl, (refl, (refl, (refl, (refl, (refl, (refl, (refl, (refl, (refl, (refl, (refl, l)))))))))))))))),
                  ),
                ),
              ),
            ),
          ),
        ),
      ),
    ),
  ),
)

head_lexable : (rest : List Part) → Lexable rest → Lexable (head_parts rest)
unfolding first_piece keyword_kinds symbol_kinds
head_lexable rest l =
    (refl, (refl, (refl, (refl, (refl, (refl, (refl, (refl, hosts))))))))
  where
    main_lexable : Lexable (word kind.Main (codes "main") ∷ Gap (codes " ") ∷ word kind.OpenBrace (codes "{") ∷ Gap (codes "\n") ∷ rest)
    main_lexable = (refl, (refl, (refl, (refl, l))))

    second : Lexable (host_parts 98 (codes "ob") 66 (word kind.Main (codes "main") ∷ Gap (codes " ") ∷ word kind.OpenBrace (codes "{") ∷ Gap (codes "\n") ∷ rest))
    second = (refl, (refl, (refl, (refl, (refl, (refl, (refl, (refl, (refl, (refl, (refl, (refl, (refl, (refl, (refl, (refl, (refl, main_lexable)))))))))))))))))

    hosts : Lexable (host_parts 97 (codes "lice") 65 (host_parts 98 (codes "ob") 66 (word kind.Main (codes "main") ∷ Gap (codes " ") ∷ word kind.OpenBrace (codes "{") ∷ Gap (codes "\n") ∷ rest)))
    hosts = (refl, (refl, (refl, (refl, (refl, (refl, (refl, (refl, (refl, (refl, (refl, (refl, (refl, (refl, (refl, (refl, (refl, second)))))))))))))))))

pub script_lexable : (n last : ℕ) → n ≤ 100 → last < 100 → Lexable (script n last)
script_lexable n last most below =
    head_lexable (coordinates_parts 0 n (last_parts last))
    (coordinates_lexable 0 n (last_parts last) (omega (arith, most)) (answer_lexable (sum_letter last) (decimal last) tail_parts (plain_sum last below) tail_lexable))

-- ---- no bracket is too deep

coordinate_shallow : (k : ℕ) (rest : List Part) → shallow 1 (coordinate_parts k rest) ≡ shallow 1 rest
coordinate_shallow zero rest = refl
coordinate_shallow (suc k) rest = refl

coordinates_shallow : (a n : ℕ) (rest : List Part) → shallow 1 (coordinates_parts a n rest) ≡ shallow 1 rest
coordinates_shallow a zero rest = refl
coordinates_shallow a (suc n) rest = coordinate_shallow a (coordinates_parts (suc a) n rest) ∙ coordinates_shallow (suc a) n rest

last_shallow : (last : ℕ) → shallow 1 (last_parts last) ≡ true
last_shallow last = refl

head_shallow : (rest : List Part) → shallow 0 (head_parts rest) ≡ shallow 1 rest
head_shallow rest = refl

pub script_shallow : (n last : ℕ) → shallow 0 (script n last) ≡ true
script_shallow n last = head_shallow (coordinates_parts 0 n (last_parts last)) ∙ coordinates_shallow 0 n (last_parts last) ∙ last_shallow last
