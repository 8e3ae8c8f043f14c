-- What a directory in memory holds after a change.
use Rattle.std.proofs.Common.{arith, ◌≡◌, ◌∙◌, ℕ, suc, ◌+◌, Bool, true, false, true≢false, List, ◌∷◌, drop, Option, None, Some, refl, sym, ap, add-one}
use Rattle.std.specs.Str.{bytes_eq}
use Rattle.std.proofs.lemmas.Bool.{cond-true}
use Rattle.std.proofs.lemmas.Slice.Eq.{bytes_eq-Decides}
use Rattle.vd_outside.specs.Files.{Contents, with_content}
use Rattle.vd_edge.specs.Store.{Moves}
use Rattle.vd_fakes.specs.MemDirectory.{held_by}
use Rattle.vd_fakes.specs.declared.mem_directory.Entry.{Entry}
use Rattle.vd_fakes.proofs.Freed.{others_stay}

-- one entry more, and one more that came since the run began
pub one_more_since : (since : ℕ) (entry : Entry) (entries : List Entry) → held_by (drop (since + 1) (entry ∷ entries)) ≡ held_by (drop since entries)
one_more_since since entry entries = rw add-one refl

pub two_more_since : (since : ℕ) (there gone : Entry) (entries : List Entry) → held_by (drop (since + 2) (there ∷ gone ∷ entries)) ≡ held_by (drop since entries)
two_more_since since there gone entries = rw (add-two since) refl
  where
    add-two : (n : ℕ) → n + 2 ≡ suc (suc n)
    add-two n = omega arith

-- what is put at a name stands there
pub stands_there : (before now : Contents) (name : List ℕ) (content : Option (List ℕ)) → now ≡ with_content before name content → now name ≡ content
stands_there before now name content is = ap (λ (c : Contents). c name) is ∙ cond-true (bytes_eq name name) content (before name) ((bytes_eq-Decides name name).1 refl)

turned : (from to : List ℕ) → bytes_eq from to ≡ false → bytes_eq to from ≡ false
turned from to apart = at (bytes_eq to from) refl
  where
    at : (same : Bool) → bytes_eq to from ≡ same → bytes_eq to from ≡ false
    at true e = absurd (true≢false (sym ((bytes_eq-Decides from to).1 (sym ((bytes_eq-Decides to from).0 e))) ∙ apart))
    at false e = e

-- bytes that were given from one name to another
pub moved : (before now : Contents) (from to : List ℕ) (bytes : List ℕ) → before from ≡ Some bytes → now ≡ with_content (with_content before from None) to (Some bytes) → Moves from to before now
moved before now from to bytes stood is = record {
  moved = stands_there (with_content before from None) now to (Some bytes) is ∙ sym stood;
  gone = λ apart. others_stay (with_content before from None) now to from (Some bytes) is (turned from to apart) ∙ stands_there before (with_content before from None) from None refl;
  others = λ other from_other to_other. others_stay (with_content before from None) now to other (Some bytes) is to_other ∙ others_stay before (with_content before from None) from other None refl from_other;
}
