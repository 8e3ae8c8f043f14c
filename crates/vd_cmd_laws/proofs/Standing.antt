-- Numbered files that were stored stand, each under its own name.
use Rattle.std.proofs.Common.{◌≡◌, ℕ, zero, suc, ◌+◌, ◌<◌, ◌≤◌, false, true≢false, Option, Some, None, List, [], ◌∷◌, ◌++◌, length, refl, sym, ap, ◌∙◌, subst, arith, slice_get}
use Rattle.std.specs.Prelude.{codes, decimal, is_some}
use Rattle.std.specs.Option.{option_map_or}
use Rattle.std.specs.Str.{bytes_eq}
use Rattle.std.proofs.lemmas.Bool.{cond-false, cond-true, false_from_ne_true}
use Rattle.std.proofs.lemmas.Fmt.{decimal_injective}
use Rattle.std.proofs.lemmas.List.{append_cancel_left, append_cancel_right}
use Rattle.std.proofs.lemmas.Slice.Eq.{bytes_eq-Decides}
use Rattle.vd_outside.specs.Files.{Contents, with_content}
use Rattle.vd_outside.specs.declared.stored.Stored.{Stored}
use Rattle.vd_cmd_plan.specs.Deliver.{stored}
use Rattle.vd_cmd_plan.specs.Numbered.{file_name}

module _ (prefix ending : List ℕ) where
  -- a name tells its number
  one_number : (j k : ℕ) → j < 4 → k < 4 → file_name prefix j ending ≡ file_name prefix k ending → j ≡ k
  one_number j k first second same =
      let behind = append_cancel_left prefix (codes "." ++ (decimal j ++ ending)) (codes "." ++ (decimal k ++ ending)) same in
      let number = append_cancel_left (codes ".") (decimal j ++ ending) (decimal k ++ ending) behind in
      decimal_injective j k (omega (arith, first)) (omega (arith, second)) (append_cancel_right (decimal j) (decimal k) ending number)

  other_name : (j k : ℕ) → j < 4 → k < j → bytes_eq (file_name prefix j ending) (file_name prefix k ending) ≡ false
  other_name j k first second =
      false_from_ne_true (bytes_eq (file_name prefix j ending) (file_name prefix k ending)) (λ e.
      let same = one_number j k first (omega (arith, first, second)) ((bytes_eq-Decides (file_name prefix j ending) (file_name prefix k ending)).0 e) in
      omega (arith, same, second))

  module _ {X : Type 0} (content : ℕ → X → List ℕ) where
    -- the files of some things that are numbered from here on
    abbrev pub files_from : ℕ → List X → List Stored
    files_from number [] = []
    files_from number (x ∷ xs) = record { name = file_name prefix number ending; content = content number x } ∷ files_from (number + 1) xs

    -- files with greater numbers leave the file of a number alone
    untouched : (number : ℕ) (xs : List X) (files : Contents) (k : ℕ) → k < number → number + length xs ≤ 4 → stored (files_from number xs) files (file_name prefix k ending) ≡ files (file_name prefix k ending)
    untouched number [] files k low most = refl
    untouched number (x ∷ xs) files k low most =
        let after = with_content files (file_name prefix number ending) (Some (content number x)) in
        untouched (number + 1) xs after k (omega (arith, low)) (omega (arith, most))
        ∙ cond-false (bytes_eq (file_name prefix number ending) (file_name prefix k ending)) (Some (content number x)) (files (file_name prefix k ending)) (other_name number k (omega (arith, most)) low)

    standing_from : (number : ℕ) (xs : List X) (files : Contents) (h : ℕ) (x : X) → slice_get xs h ≡ Some x → number + length xs ≤ 4
        → stored (files_from number xs) files (file_name prefix (number + h) ending) ≡ Some (content (number + h) x)
    standing_from number [] files h x is most = absurd (true≢false (sym (ap is_some is)))
    standing_from number (first ∷ xs) files zero x is most =
        let name = file_name prefix number ending in
        let after = with_content files name (Some (content number first)) in
        let here : number ≡ number + 0 = omega arith in
        subst (λ (n : ℕ). stored (files_from number (first ∷ xs)) files (file_name prefix n ending) ≡ Some (content n x)) here
        (untouched (number + 1) xs after number (omega arith) (omega (arith, most))
        ∙ cond-true (bytes_eq name name) (Some (content number first)) (files name) ((bytes_eq-Decides name name).1 refl)
        ∙ ap (λ (o : Option X). option_map_or (λ y. Some (content number y)) o None) is)
    standing_from number (first ∷ xs) files (suc h) x is most =
        let after = with_content files (file_name prefix number ending) (Some (content number first)) in
        let there : (number + 1) + h ≡ number + suc h = omega arith in
        subst (λ (n : ℕ). stored (files_from number (first ∷ xs)) files (file_name prefix n ending) ≡ Some (content n x)) there
        (standing_from (number + 1) xs after h x is (omega (arith, most)))

    pub standing : (xs : List X) (files : Contents) (h : ℕ) (x : X) → slice_get xs h ≡ Some x → length xs ≤ 4 → stored (files_from 0 xs) files (file_name prefix h ending) ≡ Some (content h x)
    standing xs files h x is most =
        let same : 0 + h ≡ h = omega arith in
        subst (λ (n : ℕ). stored (files_from 0 xs) files (file_name prefix n ending) ≡ Some (content n x)) same (standing_from 0 xs files h x is (omega (arith, most)))
