-- What is read of the lines before the code, and of the whole file.
use Rattle.std.specs.Prelude.{◌==◌, ℕ, zero, suc, ◌-◌, Bool, false, List, [], ◌∷◌, ◌++◌, Option, Some, None, Result, Ok, Err, length, take, drop, codes, if◌then◌else◌}
use Rattle.std.specs.List.{prefix_len}
use Rattle.vd_base.specs.Lexical.{is_letter, is_word_byte}
use Rattle.vd_base_codec.specs.Reading.{Reading, ◌>>=◌, byte_at, literal_at, field_at}
use Rattle.vd_base_codec.specs.Exact.{whole}
use Rattle.vd_base_codec.specs.Digits.{key_at}
use Rattle.vd_hostcode.specs.declared.host_text.blocks.Arrays.{Arrays}
use Rattle.vd_hostcode.specs.declared.host_text.blocks.Arrays.TheVariants as arrays
use Rattle.vd_hostcode.specs.Lines.{start}
use Rattle.vd_hostcode.specs.Reading.{starts_with, lines_at}
use Rattle.vd_hostcode.specs.File.{File, new_name}

-- a byte that stands for a value
abbrev pub with_byte : {X : Type 0} → ℕ → List ℕ → Option X → Reading X
with_byte b bs None = Err (b ∷ bs)
with_byte b bs (Some x) = Ok (x, bs)

abbrev pub one_at : {X : Type 0} → (ℕ → Option X) → List ℕ → Reading X
one_at f [] = Err []
one_at f (b ∷ bs) = with_byte b bs (f b)

abbrev pub version_of : ℕ → Option Arrays
version_of b = if b == 49 then Some arrays.Never else (if b == 50 then Some arrays.Owed else None)

-- ---- names

abbrev pub starts_letter : List ℕ → Bool
starts_letter [] = false
starts_letter (b ∷ bs) = is_letter b

abbrev pub word_run : List ℕ → ℕ
word_run bs = prefix_len is_word_byte bs

-- a name that is none of those before it
unfoldable pub name_at : List (List ℕ) → List ℕ → Reading (List ℕ)
name_at earlier bs =
    if starts_letter bs
    then (if new_name earlier (take (word_run bs) bs) then Ok (take (word_run bs) bs, drop (word_run bs) bs) else Err (drop (word_run bs) bs))
    else Err bs

abbrev pub next_name_at : List (List ℕ) → List ℕ → Reading (List ℕ)
next_name_at earlier bs = byte_at 32 bs >>= λ x. name_at earlier x.1

-- at most so many names, as far as they go
unfoldable pub names_at : ℕ → List (List ℕ) → List ℕ → Reading (List (List ℕ))
names_at zero earlier bs = Ok ([], bs)
names_at (suc n) earlier bs =
    if starts_with 32 bs then (next_name_at earlier bs >>= λ x. (names_at n (earlier ++ x.0 ∷ []) x.1 >>= λ xs. Ok (x.0 ∷ xs.0, xs.1)))
    else Ok ([], bs)

-- one to four names
unfoldable pub hosts_at : List ℕ → Reading (List (List ℕ))
hosts_at bs = next_name_at [] bs >>= λ x. (names_at 3 (x.0 ∷ []) x.1 >>= λ xs. Ok (x.0 ∷ xs.0, xs.1))

-- ---- the whole file

unfoldable pub plan_at : List ℕ → Reading (List ℕ)
plan_at bs = do
  word ← literal_at (codes "\nplan ") bs
  plan ← key_at word.1
  end ← byte_at 10 plan.1
  Ok (plan.0, end.1)

unfoldable pub file_at : List ℕ → Reading File
file_at bs = do
  version ← literal_at (codes "viaduct-host ") bs
  may ← one_at version_of version.1
  line ← literal_at (codes "\nhosts") may.1
  hosts ← hosts_at line.1
  next ← literal_at (codes "\nme") hosts.1
  me ← field_at (length hosts.0 - 1) next.1
  plan ← plan_at me.1
  code ← lines_at (length plan.1) (start may.0) plan.1
  Ok (record { hosts = hosts.0; me = me.0; plan = plan.0; lines = code.0 }, code.1)

abbrev pub file_read : List ℕ → Result File ℕ
file_read bytes = whole bytes (file_at bytes)
