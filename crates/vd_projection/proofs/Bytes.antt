-- How long the text of a program is.
use Rattle.std.proofs.Common.{◌≡◌, ℕ, suc, ◌+◌, ◌*◌, ◌≤◌, Bool, true, false, List, [], ◌∷◌, ◌++◌, length, map, length-append, refl, ap, ◌∙◌, lit≤, lit<, arith}
use Rattle.std.specs.Prelude.{flat_map, codes}
use Rattle.std.specs.List.{AllByRecursion, list_any}
use Rattle.std.proofs.lemmas.Fmt.{length-decimal-le}
use Rattle.std.proofs.lemmas.List.Concat.{flat_map-cons}
use Rattle.vd_base.specs.HostSets.{host}
use Rattle.vd_base.specs.Words.{IsWord}
use Rattle.vd_base_codec.specs.Digits.{hex_byte}
use Rattle.vd_base_codec.specs.Reading.{field}
use Rattle.vd_execution.specs.declared.instructions.Binary.TheVariants as binary
use Rattle.vd_execution.specs.declared.instructions.Action.{Action}
use Rattle.vd_execution.specs.declared.instructions.Action.TheVariants as action
use Rattle.vd_execution.specs.declared.instructions.Instr.{Instr}
use Rattle.vd_execution.specs.declared.instructions.Instr.TheVariants as instr
use Rattle.vd_execution.specs.Code.{Code, Finished, Then, Send, Recv, Choose, Repeat}
use Rattle.vd_execution.specs.Text.{register, text}
use Rattle.vd_hostcode.specs.declared.host_text.words.Word.{Word}
use Rattle.vd_hostcode.specs.declared.host_text.words.Word.TheVariants as word
use Rattle.vd_hostcode.specs.declared.host_text.program.HostProgram.{HostProgram}
use Rattle.vd_hostcode.specs.Words.{spelling, word_of, operands, action_operands, is_array}
use Rattle.vd_hostcode.specs.Text.{line, version, name_field, version_line, names_line, number_line, plan_line, head, program_text}
use Rattle.vd_projection.proofs.Instrs.{AllCanStand}
use Rattle.vd_projection.proofs.Bulk.{code_bulk}

-- ---- one line

field_short : (n : ℕ) → IsWord n → length (field n) ≤ 11
field_short n le = let few = length-decimal-le 10 n (lit< tt) (omega (arith, le)) (omega (arith, le)) in omega (arith, few)

fields_short : (ns : List ℕ) → AllByRecursion IsWord ns → length (flat_map field ns) ≤ 11 * length ns
fields_short [] all = omega arith
fields_short (n ∷ ns) all = sums _ _ _ _ (ap length (flat_map-cons field n ns) ∙ length-append (field n) (flat_map field ns)) (field_short n all.0) (fields_short ns all.1)
  where
    sums : (k a b m : ℕ) → k ≡ a + b → a ≤ 11 → b ≤ 11 * m → k ≤ 11 * suc m
    sums k a b m e p q = omega (arith, e, p, q)

spelling_short : (w : Word) → length (spelling w) ≤ 6
spelling_short word.Const = lit≤ tt
spelling_short word.Copy = lit≤ tt
spelling_short (word.Apply binary.Add) = lit≤ tt
spelling_short (word.Apply binary.Sub) = lit≤ tt
spelling_short (word.Apply binary.Mul) = lit≤ tt
spelling_short (word.Apply binary.Div) = lit≤ tt
spelling_short (word.Apply binary.Rem) = lit≤ tt
spelling_short (word.Apply binary.And) = lit≤ tt
spelling_short (word.Apply binary.Or) = lit≤ tt
spelling_short (word.Apply binary.Xor) = lit≤ tt
spelling_short (word.Apply binary.Eq) = lit≤ tt
spelling_short (word.Apply binary.Ne) = lit≤ tt
spelling_short (word.Apply binary.Lt) = lit≤ tt
spelling_short (word.Apply binary.Le) = lit≤ tt
spelling_short (word.Apply binary.Min) = lit≤ tt
spelling_short (word.Apply binary.Max) = lit≤ tt
spelling_short word.Shl = lit≤ tt
spelling_short word.Shr = lit≤ tt
spelling_short word.Mux = lit≤ tt
spelling_short word.Own = lit≤ tt
spelling_short word.Triple = lit≤ tt
spelling_short word.Bits = lit≤ tt
spelling_short word.Pair = lit≤ tt
spelling_short word.Input = lit≤ tt
spelling_short word.Print = lit≤ tt
spelling_short word.Hash = lit≤ tt
spelling_short word.Same = lit≤ tt
spelling_short word.Zero = lit≤ tt
spelling_short word.Get = lit≤ tt
spelling_short word.Put = lit≤ tt
spelling_short word.Send = lit≤ tt
spelling_short word.Recv = lit≤ tt
spelling_short word.If = lit≤ tt
spelling_short word.Else = lit≤ tt
spelling_short word.For = lit≤ tt
spelling_short word.End = lit≤ tt

line_short : (i : Instr) → AllByRecursion IsWord (operands i) → length (line i) ≤ 7 + 11 * length (operands i)
unfolding line
line_short i all =
    sums _ _ _ _ _ (length-append (spelling (word_of i)) (flat_map field (operands i) ++ 10 ∷ [])) (length-append (flat_map field (operands i)) (10 ∷ [])) (spelling_short (word_of i))
    (fields_short (operands i) all)
  where
    sums : (k a b c m : ℕ) → k ≡ a + b → b ≡ c + 1 → a ≤ 6 → c ≤ 11 * m → k ≤ 7 + 11 * m
    sums k a b c m e f p q = omega (arith, e, f, p, q)

few_operands : (a : Action) → length (action_operands a) ≤ 4
few_operands (action.Const r k) = lit≤ tt
few_operands (action.Copy r x) = lit≤ tt
few_operands (action.Apply o r x y) = lit≤ tt
few_operands (action.Shl r x k) = lit≤ tt
few_operands (action.Shr r x k) = lit≤ tt
few_operands (action.Mux r c x y) = lit≤ tt
few_operands (action.Own r) = lit≤ tt
few_operands (action.Triple p a b c) = lit≤ tt
few_operands (action.Bits p a b c) = lit≤ tt
few_operands (action.Pair p s x) = lit≤ tt
few_operands (action.Input r) = lit≤ tt
few_operands (action.Print r) = lit≤ tt
few_operands (action.Hash d n v) = lit≤ tt
few_operands (action.Same x y) = lit≤ tt
few_operands (action.Zero r count) = lit≤ tt
few_operands (action.Get r x count i) = lit≤ tt
few_operands (action.Put x count i s) = lit≤ tt

-- ---- the lines of a code

abbrev bytes : List Instr → ℕ
bytes is = length (flat_map line is)

one_line : (i : Instr) (is : List Instr) → bytes (i ∷ is) ≡ length (line i) + bytes is
one_line i is = ap length (flat_map-cons line i is) ∙ length-append (line i) (flat_map line is)

-- a line with so many numbers, before others
line_then : (i : Instr) (is : List Instr) (m n : ℕ) → AllByRecursion IsWord (operands i) → length (operands i) ≤ m → bytes is ≤ n → bytes (i ∷ is) ≤ 7 + 11 * m + n
line_then i is m n all few le = sums _ _ _ _ (one_line i is) (line_short i all) few le
  where
    sums : (k a b l : ℕ) → k ≡ a + b → a ≤ 7 + 11 * l → l ≤ m → b ≤ n → k ≤ 7 + 11 * m + n
    sums k a b l e p q r = omega (arith, e, p, q, r)

map_length : {X Y : Type 0} (f : X → Y) (xs : List X) → length (map f xs) ≡ length xs
map_length f [] = refl
map_length f (x ∷ xs) = ap suc (map_length f xs)

module _ (hosts h : ℕ) where
  text_short : (c : Code) (behind : List Instr) → AllCanStand hosts h c → bytes (text c behind) ≤ 51 * code_bulk c + bytes behind
  text_short Finished behind s = omega arith
  text_short (Then a c) behind s =
      sums _ _ _ (line_then (instr.Do a) (text c behind) 4 _ s.0.numbers.words (few_operands a) (text_short c behind s.1))
    where
      sums : (x k b : ℕ) → x ≤ 7 + 11 * 4 + (51 * k + b) → x ≤ 51 * (1 + k) + b
      sums x k b le = omega (arith, le)
  text_short (Send p rs c) behind s =
      sums _ _ _ _ _ (line_then (instr.Send (host p) rs) (text c behind) (length (operands (instr.Send (host p) rs))) _ s.0.numbers.words (omega arith) (text_short c behind s.1))
      (map_length (λ r. r.0) rs) s.0.numbers.enough
    where
      sums : (x k b n l : ℕ) → x ≤ 7 + 11 * suc l + (51 * k + b) → l ≡ n → 2 ≤ suc l → x ≤ 51 * (n + k) + b
      sums x k b n l le e some = omega (arith, le, e, some)
  text_short (Recv p rs c) behind s =
      sums _ _ _ _ _ (line_then (instr.Recv (host p) rs) (text c behind) (length (operands (instr.Recv (host p) rs))) _ s.0.numbers.words (omega arith) (text_short c behind s.1))
      (map_length (λ r. r.0) rs) s.0.numbers.enough
    where
      sums : (x k b n l : ℕ) → x ≤ 7 + 11 * suc l + (51 * k + b) → l ≡ n → 2 ≤ suc l → x ≤ 51 * (n + k) + b
      sums x k b n l le e some = omega (arith, le, e, some)
  text_short (Choose g first other c) behind s =
      let last = line_then instr.End (text c behind) 0 _ tt (lit≤ tt) (text_short c behind s.1.1.1) in
      let two = text_short other (instr.End ∷ text c behind) s.1.1.0 in
      let middle = line_then instr.Else (text other (instr.End ∷ text c behind)) 0 _ tt (lit≤ tt) two in
      let one = text_short first (instr.Else ∷ text other (instr.End ∷ text c behind)) s.1.0 in
      let whole = line_then (instr.If (register g)) (text first (instr.Else ∷ text other (instr.End ∷ text c behind))) 1 _ s.0.numbers.words (lit≤ tt) one in
      sums _ _ _ _ _ _ _ last middle whole
    where
      sums : (x y z a b c d : ℕ) → x ≤ 7 + 11 * 0 + (51 * c + d) → y ≤ 7 + 11 * 0 + (51 * b + x) → z ≤ 7 + 11 * 1 + (51 * a + y) → z ≤ 51 * (3 + (a + (b + c))) + d
      sums x y z a b c d p q r = omega (arith, p, q, r)
  text_short (Repeat r turn count body c) behind s =
      let last = line_then instr.End (text c behind) 0 _ tt (lit≤ tt) (text_short c behind s.1.1) in
      let one = text_short body (instr.End ∷ text c behind) s.1.0 in
      let whole = line_then (instr.For (register r) count) (text body (instr.End ∷ text c behind)) 2 _ s.0.numbers.words (lit≤ tt) one in
      sums _ _ _ _ _ last whole
    where
      sums : (x z a c d : ℕ) → x ≤ 7 + 11 * 0 + (51 * c + d) → z ≤ 7 + 11 * 2 + (51 * a + x) → z ≤ 51 * (2 + (a + c)) + d
      sums x z a c d p r = omega (arith, p, r)

  pub code_short : (c : Code) → AllCanStand hosts h c → bytes (text c []) ≤ 51 * code_bulk c
  code_short c s = let le = text_short c [] s in omega (arith, le)

-- ---- the whole file

version_short : (b : Bool) → length (version b) ≤ 1
unfolding version
version_short true = lit≤ tt
version_short false = lit≤ tt

two_digits : (b : ℕ) → length (hex_byte b) ≡ 2
unfolding hex_byte
two_digits b = refl

digits_short : (bs : List ℕ) → length (flat_map hex_byte bs) ≡ 2 * length bs
digits_short [] = refl
digits_short (b ∷ bs) = sums _ _ _ _ (ap length (flat_map-cons hex_byte b bs) ∙ length-append (hex_byte b) (flat_map hex_byte bs)) (two_digits b) (digits_short bs)
  where
    sums : (k a c m : ℕ) → k ≡ a + c → a ≡ 2 → c ≡ 2 * m → k ≡ 2 * suc m
    sums k a c m e f g = omega (arith, e, f, g)

head_short : (p : HostProgram) → length p.plan.bytes ≡ 32 → IsWord p.me.0 → length (head p) ≤ 105 + length (flat_map name_field p.hosts)
unfolding head
head_short p plan me =
    sums _ _ _ _ _ _ _ _ _ _ _ _ _
    (length-append (version_line p.code) (names_line p.hosts ++ (number_line p.me.0 ++ plan_line p.plan.bytes)))
    (length-append (names_line p.hosts) (number_line p.me.0 ++ plan_line p.plan.bytes))
    (length-append (number_line p.me.0) (plan_line p.plan.bytes))
    (length-append (codes "viaduct-host ") (version (list_any is_array p.code)))
    (length-append (codes "\nhosts") (flat_map name_field p.hosts))
    (length-append (codes "\nme") (field p.me.0))
    (length-append (codes "\nplan ") (flat_map hex_byte p.plan.bytes ++ 10 ∷ []))
    (length-append (flat_map hex_byte p.plan.bytes) (10 ∷ []))
    (version_short (list_any is_array p.code)) (field_short p.me.0 me) (digits_short p.plan.bytes) plan
  where
    sums : (all rest behind a b c d v n f e g m : ℕ) → all ≡ a + rest → rest ≡ b + behind → behind ≡ c + d → a ≡ 13 + v → b ≡ 6 + n → c ≡ 3 + f → d ≡ 6 + e → e ≡ g + 1
        → v ≤ 1 → f ≤ 11 → g ≡ 2 * m → m ≡ 32 → all ≤ 105 + n
    sums all rest behind a b c d v n f e g m p q r s t u w x y z i j = omega (arith, p, q, r, s, t, u, w, x, y, z, i, j)

pub file_short : (p : HostProgram) (n : ℕ) → length p.plan.bytes ≡ 32 → IsWord p.me.0 → length (flat_map name_field p.hosts) ≤ 65536 → bytes p.code ≤ n → length (program_text p) ≤ 65645 + n
file_short p n plan me names code =
    sums _ _ _ _ _ (length-append (head p) (flat_map line p.code ++ codes "end\n")) (length-append (flat_map line p.code) (codes "end\n")) (head_short p plan me) names code
  where
    sums : (all a b c m : ℕ) → all ≡ a + b → b ≡ c + 4 → a ≤ 105 + m → m ≤ 65536 → c ≤ n → all ≤ 65645 + n
    sums all a b c m e f p q r = omega (arith, e, f, p, q, r)
