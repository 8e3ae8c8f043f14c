-- Where no list is valid, bounds decide nothing: neither which marks are sound that say so, nor what a checker answers.
use Rattle.std.proofs.Common.{◌≡◌, ℕ, ◌+◌, Bool, true, false, ◌||◌, not, Option, Some, None, Result, Ok, Err, List, [], ◌∷◌, ◌++◌, length, refl, sym, ap, ap₂, ◌∙◌, subst, ℤ, pos}
use Rattle.std.specs.Prelude.{IfSome, ◌==◌, if◌then◌else◌, is_none, is_some}
use Rattle.std.proofs.lemmas.Bool.{true≢false, eqb-true}
use Rattle.vd_search_tree.specs.Trees.{IsEmpty, Tree}
use Rattle.vd_search_tree.specs.declared.search_certificate.certificate.Mark.{Mark}
use Rattle.vd_search_tree.specs.declared.search_certificate.certificate.Mark.TheVariants.{Expanded, Violated, Bounded, Best}
use Rattle.vd_bound.specs.Marks.{AreTrees, IsSound, MarkHolds, opened_by}
use Rattle.vd_bound.specs.Checking.{Proves, checked, first_of, found_at, judge, judge_all, judge_found, misplaced, nothing_read, or_proved, read_mark, read_marks}
use Rattle.vd_bound.specs.declared.checking.CheckFault.{CheckFault}
use Rattle.vd_bound.specs.declared.checking.CheckFault.TheVariants.{NotViolated}
use Rattle.vd_bound.specs.declared.checking.Found.{Found}
use Rattle.vd_bound.specs.declared.checking.Proved.{Proved}
use Rattle.vd_bound.specs.declared.checking.Proved.TheVariants.{Least, Empty}
use Rattle.vd_bound.specs.declared.checking.Reading.{Reading}

module _ (slots choices : ℕ) (valid : List ℕ → Bool) (f g : List ℕ → ℤ) where
  abbrev one : Tree
  one = record { slots = slots; choices = choices; valid = valid; bound = f }

  abbrev two : Tree
  two = record { slots = slots; choices = choices; valid = valid; bound = g }

  -- ---- marks that say that there is no list

  holds_also : (prefix : List ℕ) (mark : Mark) → MarkHolds one None prefix mark → MarkHolds two None prefix mark
  holds_also prefix Expanded holds = holds
  holds_also prefix Violated holds = holds
  holds_also prefix Bounded holds = absurd holds
  holds_also prefix Best holds = absurd holds

  same_opened : (prefix : List ℕ) (mark : Mark) → opened_by one prefix mark ≡ opened_by two prefix mark
  same_opened prefix Expanded = refl
  same_opened prefix Violated = refl
  same_opened prefix Bounded = refl
  same_opened prefix Best = refl

  trees_also : (marks : List Mark) (waiting : List (List ℕ)) → AreTrees one None waiting marks → AreTrees two None waiting marks
  trees_also [] [] trees = tt
  trees_also [] (prefix ∷ waiting) trees = absurd trees
  trees_also (mark ∷ marks) [] trees = absurd trees
  trees_also (mark ∷ marks) (prefix ∷ waiting) trees = (
    holds_also prefix mark trees.0,
    trees_also marks (opened_by two prefix mark ++ waiting) (subst (λ (w : List (List ℕ)). AreTrees one None (w ++ waiting) marks) (same_opened prefix mark) trees.1),
  )

  pub sound_also : (marks : List Mark) → IsSound one None marks → IsSound two None marks
  sound_also marks sound = record { trees = trees_also marks ([] ∷ []) sound.trees; one_best = sound.one_best }

  -- ---- what the checker answers

  -- as far as the marks are read, the best list is the same and not valid, and so are faults where no cost is stated
  record IsAlike (stated : Option ℕ) (r s : Reading) : Type 0 where
    at : r.at ≡ s.at
    best : r.best ≡ s.best
    invalid : IfSome r.best (λ (found : Found). found.valid ≡ false)
    fault : stated ≡ None → r.fault ≡ s.fault

  abbrev AreAlike : Option ℕ → Result Reading ℕ → Result Reading ℕ → Type 0
  AreAlike stated (Ok r) (Ok s) = IsAlike stated r s
  AreAlike stated (Ok r) (Err n) = ⊥
  AreAlike stated (Err m) (Ok s) = ⊥
  AreAlike stated (Err m) (Err n) = m ≡ n

  module _ (empty : IsEmpty one) (stated : Option ℕ) where
    full_invalid : (prefix : List ℕ) → length prefix ≡ slots → (b : Bool) → valid prefix ≡ b → b ≡ false
    full_invalid prefix full true is = absurd (empty prefix (record { full = full; valid = is }))
    full_invalid prefix full false is = refl

    same_misplaced : (placed : Bool) (prefix : List ℕ) (mark : Mark) → misplaced one stated placed prefix mark ≡ misplaced two stated placed prefix mark
    same_misplaced placed prefix Expanded = refl
    same_misplaced placed prefix Violated = refl
    same_misplaced placed prefix Bounded = refl
    same_misplaced placed prefix Best = refl

    abbrev found_with : List ℕ → ℤ → Found
    found_with prefix cost = record { list = prefix; valid = valid prefix; cost = cost }

    no_cost : (b : Bool) (x y : ℤ) → b ≡ false → (if b then x else pos 0) ≡ (if b then y else pos 0)
    no_cost true x y is = absurd (true≢false is)
    no_cost false x y is = refl

    same_found : (prefix : List ℕ) → valid prefix ≡ false → found_at one prefix ≡ found_at two prefix
    same_found prefix invalid = ap (found_with prefix) (no_cost (valid prefix) (f prefix) (g prefix) invalid)

    full_where : (a placed none : Bool) → (not a || placed || none) ≡ false → a ≡ true
    full_where true placed none is = refl
    full_where false placed none is = absurd (true≢false is)

    module _ (r s : Reading) (alike : IsAlike stated r s) (prefix : List ℕ) where
      no_fault : stated ≡ None → first_of r.fault None ≡ first_of s.fault None
      no_fault none = ap (λ (o : Option CheckFault). first_of o None) (alike.fault none)

      next_alike : (mark : Mark) → misplaced one stated (is_some r.best) prefix mark ≡ false → IsAlike stated (read_mark one stated r prefix mark) (read_mark two stated s prefix mark)
      next_alike Expanded placed = record { at = ap (λ n. n + 1) alike.at; best = alike.best; invalid = alike.invalid; fault = no_fault }
      next_alike Violated placed = record {
        at = ap (λ n. n + 1) alike.at;
        best = alike.best;
        invalid = alike.invalid;
        fault = λ none. ap₂ (λ (o : Option CheckFault) (n : ℕ). first_of o (if valid prefix then Some (NotViolated n) else None)) (alike.fault none) alike.at;
      }
      next_alike Bounded placed = record {
        at = ap (λ n. n + 1) alike.at;
        best = alike.best;
        invalid = alike.invalid;
        fault = λ none. absurd (true≢false (sym (ap is_none none) ∙ placed));
      }
      next_alike Best placed =
          let full = eqb-true (length prefix) slots (full_where (length prefix == slots) (is_some r.best) (is_none stated) placed) in
          let invalid = full_invalid prefix full (valid prefix) refl in
          record { at = ap (λ n. n + 1) alike.at; best = ap (λ (found : Found). Some found) (same_found prefix invalid); invalid = invalid; fault = no_fault }

    both_by : (b c : Bool) → b ≡ c → (x y v w : Result Reading ℕ) → AreAlike stated x v → (b ≡ false → AreAlike stated y w) → AreAlike stated (if b then x else y) (if c then v else w)
    both_by true true same x y v w first second = first
    both_by true false same x y v w first second = absurd (true≢false same)
    both_by false true same x y v w first second = absurd (true≢false (sym same))
    both_by false false same x y v w first second = second refl

    where_opened : (r s : Reading) (prefix : List ℕ) (mark : Mark) (waiting : List (List ℕ)) (marks : List Mark)
        → AreAlike stated (read_marks one stated r (opened_by one prefix mark ++ waiting) marks) (read_marks two stated s (opened_by one prefix mark ++ waiting) marks)
        → AreAlike stated (read_marks one stated r (opened_by one prefix mark ++ waiting) marks) (read_marks two stated s (opened_by two prefix mark ++ waiting) marks)
    where_opened r s prefix mark waiting marks alike =
        subst (λ (w : List (List ℕ)). AreAlike stated (read_marks one stated r (opened_by one prefix mark ++ waiting) marks) (read_marks two stated s (w ++ waiting) marks)) (same_opened prefix mark) alike

    marks_alike : (r s : Reading) → IsAlike stated r s → (waiting : List (List ℕ)) (marks : List Mark) → AreAlike stated (read_marks one stated r waiting marks) (read_marks two stated s waiting marks)
    marks_alike r s alike [] [] = alike
    marks_alike r s alike [] (mark ∷ marks) = alike.at
    marks_alike r s alike (prefix ∷ waiting) [] = alike.at
    marks_alike r s alike (prefix ∷ waiting) (mark ∷ marks) =
        both_by (misplaced one stated (is_some r.best) prefix mark) (misplaced two stated (is_some s.best) prefix mark)
        (same_misplaced (is_some r.best) prefix mark ∙ ap (λ (o : Option Found). misplaced two stated (is_some o) prefix mark) alike.best)
        (Err r.at) (read_marks one stated (read_mark one stated r prefix mark) (opened_by one prefix mark ++ waiting) marks)
        (Err s.at) (read_marks two stated (read_mark two stated s prefix mark) (opened_by two prefix mark ++ waiting) marks)
        alike.at
        (λ placed.
        where_opened (read_mark one stated r prefix mark) (read_mark two stated s prefix mark) prefix mark waiting marks
        (marks_alike (read_mark one stated r prefix mark) (read_mark two stated s prefix mark) (next_alike r s alike prefix mark placed) (opened_by one prefix mark ++ waiting) marks))

  same_where : (cost m n : ℕ) (best : Option Found) (x y : Option CheckFault) → m ≡ n → IfSome best (λ (found : Found). found.valid ≡ false) → judge_found cost m best x ≡ judge_found cost n best y
  same_where cost m n None x y same invalid = ap (λ (k : ℕ). judge_found cost k None x) same
  same_where cost m n (Some found) x y same invalid = rw invalid refl

  same_judged : (stated : Option ℕ) (r s : Reading) → IsAlike stated r s → judge stated r ≡ judge stated s
  same_judged None r s alike = ap (λ (o : Option CheckFault). or_proved o Empty) (alike.fault refl)
  same_judged (Some cost) r s alike =
      ap (λ (o : Option Found). judge_found cost r.at o r.fault) alike.best
      ∙ same_where cost r.at s.at s.best r.fault s.fault alike.at (subst (λ (o : Option Found). IfSome o (λ (found : Found). found.valid ≡ false)) alike.best alike.invalid)

  same_all : (stated : Option ℕ) (a b : Result Reading ℕ) → AreAlike stated a b → judge_all stated a ≡ judge_all stated b
  same_all stated (Ok r) (Ok s) alike = same_judged stated r s alike
  same_all stated (Ok r) (Err n) alike = absurd alike
  same_all stated (Err m) (Ok s) alike = absurd alike
  same_all stated (Err m) (Err n) alike = ap (λ (k : ℕ). judge_all stated (Err k)) alike

  pub same_checked : IsEmpty one → (stated : Option ℕ) (marks : List Mark) → checked one stated marks ≡ checked two stated marks
  same_checked empty stated marks =
      same_all stated (read_marks one stated nothing_read ([] ∷ []) marks) (read_marks two stated nothing_read ([] ∷ []) marks)
      (marks_alike empty stated nothing_read nothing_read (record { at = refl; best = refl; invalid = tt; fault = λ none. refl }) ([] ∷ []) marks)

  pub proves_also : IsEmpty one → (proved : Proved) → Proves one proved → Proves two proved
  proves_also empty (Least list cost) proves = absurd (empty list proves.0)
  proves_also empty Empty proves = λ list whole. empty list (record { full = whole.full; valid = whole.valid })
