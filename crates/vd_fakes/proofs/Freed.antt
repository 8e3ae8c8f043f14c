-- What stays where a name is made free.
use Rattle.std.proofs.Common.{arith, rules, ◌≡◌, ◌∙◌, ℕ, Bool, false, List, [], ◌∷◌, ◌++◌, Option, None, Ok, ap, if◌then◌else◌, bytes_eq}
use Rattle.vd_outside.specs.Files.{Contents, with_content}
use Rattle.vd_outside.specs.Marks.{Releases}
use Rattle.vd_outside.specs.Places.{mark_at}
use Rattle.vd_outside.specs.declared.outside_marks.marks.MarksCall.TheVariants.{Release}
use Rattle.vd_fakes.specs.Failing.{with_call}
use Rattle.vd_fakes.specs.MemMarks.{marks_view, taken_of}
use Rattle.vd_fakes.specs.declared.failures.Failures.{Failures}
use Rattle.vd_fakes.specs.declared.mem_marks.MemMarks.{MemMarks}

-- what is put at a name leaves all others as they were
pub others_stay : (files now : Contents) (name other : List ℕ) (content : Option (List ℕ)) → now ≡ with_content files name content → bytes_eq name other ≡ false → now other ≡ files other
others_stay files now name other content is differ = ap (λ (m : Contents). m other) is ∙ ap (λ (b : Bool). if b then content else files other) differ

-- a place was made free
pub released : (beside name : List ℕ) (before now : MemMarks) → now.failures ≡ with_call before.failures → now.draws ≡ before.draws → now.asked ≡ before.asked ++ Release (mark_at beside name) ∷ []
    → taken_of now.marks ≡ with_content (taken_of before.marks) (mark_at beside name) None → Releases {T = Unit {0}} beside name (marks_view before) (marks_view now) (Ok tt)
released beside name before now counts draws asked free = record {
  later = let same = ap (λ (f : Failures). f.faults) counts in omega (arith, same);
  failed = tt;
  still_told = λ told. told;
  asked = λ told. asked;
  draws = λ told. draws;
  free = λ told. free;
  others = λ told other differ. others_stay (taken_of before.marks) (taken_of now.marks) (mark_at beside name) other None free differ;
  memory = search rules;
}
