-- Parts of sentences.
use Rattle.std.specs.Prelude.{ℕ, ◌-◌, List, ◌++◌, Option, Some, None, codes, take, drop, map}
use Rattle.std.specs.List.{find}
use Rattle.std.specs.Str.{bytes_eq}
use Rattle.std.specs.Borrow.{Bor}
use Rattle.vd_base.specs.declared.ids.Span.{Span}

-- three parts, one after another
abbrev pub three : List ℕ → List ℕ → List ℕ → List ℕ
three first middle last = first ++ middle ++ last

-- text of a source as it is written
abbrev pub quoted : List ℕ → List ℕ
quoted text = three (codes "`") text (codes "`")

-- the bytes of a span
abbrev pub word_at : List ℕ → Span → List ℕ
word_at bytes span = take (span.end - span.start) (drop span.start bytes)

-- what a table has for a word, or another text
abbrev pub second_or : List ℕ → Option (List ℕ × List ℕ) → List ℕ
second_or other None = other
second_or other (Some entry) = entry.1

abbrev pub in_table : List (List ℕ × List ℕ) → List ℕ → List ℕ → List ℕ
in_table table word other = second_or other (find (λ entry. bytes_eq entry.0 word) table)

-- a table that has its texts behind references
abbrev pub entries : List (Bor (List ℕ) × Bor (List ℕ)) → List (List ℕ × List ℕ)
entries = map (λ entry. (entry.0.now, entry.1.now))
