-- Remarks on a file, and what is printed of them.
use Rattle.std.specs.Prelude.{ℕ, Bool, List, ◌++◌, Option, Some, None, codes}
use Rattle.vd_diag.specs.Excerpts.{excerpt, headline}
use Rattle.vd_diag.specs.Parts.{three}
use Rattle.vd_diag.specs.declared.remark.Remark.{Remark}

abbrev pub at : ℕ → List ℕ → Remark
at offset sentence = record { offset = Some offset; sentence = sentence }

abbrev pub of_file : List ℕ → Remark
of_file sentence = record { offset = None; sentence = sentence }

abbrev pub told_at : Bool → List ℕ → List ℕ → Option ℕ → List ℕ → List ℕ
told_at coloured file bytes None sentence = three file (codes ": ") (sentence ++ codes "\n")
told_at coloured file bytes (Some offset) sentence = excerpt coloured file bytes offset sentence

abbrev pub told : Bool → List ℕ → List ℕ → Remark → List ℕ
told coloured file bytes remark = told_at coloured file bytes remark.offset remark.sentence

-- of a file whose text is shown to nobody
abbrev pub headed_at : Bool → List ℕ → List ℕ → Option ℕ → List ℕ → List ℕ
headed_at coloured file bytes None sentence = three file (codes ": ") (sentence ++ codes "\n")
headed_at coloured file bytes (Some offset) sentence = headline coloured file bytes offset sentence

abbrev pub told_place : Bool → List ℕ → List ℕ → Remark → List ℕ
told_place coloured file bytes remark = headed_at coloured file bytes remark.offset remark.sentence
