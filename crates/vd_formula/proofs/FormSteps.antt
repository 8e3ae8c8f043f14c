-- Formulas made by tests, one more part of a conjunction and of a disjunction, and the truth of a form layer by layer.
use Rattle.std.proofs.Common.{◌≡◌, ℕ, ◌+◌, ◌^◌, ◌<◌, Bool, true, false, ◌&&◌, ◌||◌, Some, List, length, get_or, take, map, sym, ap, ◌∙◌}
use Rattle.std.specs.List.{list_any, list_all}
use Rattle.std.specs.Option.{option_map_or}
use Rattle.std.specs.Prelude.{position}
use Rattle.std.specs.Str.{bytes_eq}
use Rattle.std.proofs.lemmas.List.Folds.{list_all_more, list_any_more}
use Rattle.std.proofs.Common.{rules}
use Rattle.vd_base.specs.declared.form.Form.{Form}
use Rattle.vd_base.specs.declared.form.Form.TheVariants as form
use Rattle.vd_base.specs.declared.form.Form.TheFolds.{the_lemmas}
use Rattle.vd_formula.specs.Forms.{truth, formula_of, has_name}
use Rattle.vd_formula.specs.TruthTable.{has, at, word_where, formula_where, both_of, either_of, any_of, never_of, name_of}
use Rattle.vd_formula.proofs.Words.{word_where_lt, has-word_where, same_words}
use Rattle.vd_formula.proofs.Tables.{table, at-formula_where}

-- tests that agree make the same formula
pub same_formula : (n : ℕ) (p q : ℕ → Bool) → ((set : ℕ) → set < 2 ^ n → p set ≡ q set) → formula_where n p ≡ formula_where n q
same_formula n p q same =
    ap (table n) (same_words (2 ^ n) (word_where p (2 ^ n)) (word_where q (2 ^ n)) (word_where_lt p (2 ^ n)) (word_where_lt q (2 ^ n))
    (λ set h. has-word_where p (2 ^ n) set h ∙ same set h ∙ sym (has-word_where q (2 ^ n) set h)))

both-formula_where : (n : ℕ) (p q : ℕ → Bool) → both_of (formula_where n p) (formula_where n q) ≡ formula_where n (λ set. p set && q set)
unfolding both_of
both-formula_where n p q = same_formula n _ _ (λ set h. ap (λ b. b && at (formula_where n q) set) (at-formula_where n p set h) ∙ ap (λ b. p set && b) (at-formula_where n q set h))

either-formula_where : (n : ℕ) (p q : ℕ → Bool) → either_of (formula_where n p) (formula_where n q) ≡ formula_where n (λ set. p set || q set)
unfolding either_of
either-formula_where n p q = same_formula n _ _ (λ set h. ap (λ b. b || at (formula_where n q) set) (at-formula_where n p set h) ∙ ap (λ b. p set || b) (at-formula_where n q set h))

-- one more part of a conjunction and of a disjunction
module _ {X : Type 0} (n : ℕ) (truth : X → ℕ → Bool) (parts : List X) (i : ℕ) (d : X) (h : i < length parts) where
  pub both_more : both_of (formula_where n (λ set. list_all (λ part. truth part set) (take i parts))) (formula_where n (truth (get_or parts i d))) ≡ formula_where n (λ set. list_all (λ part. truth part set) (take (i + 1) parts))
  both_more = both-formula_where n _ _ ∙ same_formula n _ _ (λ set _. sym (list_all_more (λ part. truth part set) parts i d h))

  pub either_more : either_of (formula_where n (λ set. list_any (λ part. truth part set) (take i parts))) (formula_where n (truth (get_or parts i d))) ≡ formula_where n (λ set. list_any (λ part. truth part set) (take (i + 1) parts))
  either_more = either-formula_where n _ _ ∙ same_formula n _ _ (λ set _. sym (list_any_more (λ part. truth part set) parts i d h))

-- ---- a form layer by layer
truth-any : truth form.Any ≡ (λ names set. true)
truth-any = search (rules, the_lemmas)

truth-never : truth form.Never ≡ (λ names set. false)
truth-never = search (rules, the_lemmas)

pub truth-name : (name : List ℕ) → truth (form.Name name) ≡ (λ names set. has_name names name set)
truth-name name = search (rules, the_lemmas)

pub truth-both : (parts : List Form) → truth (form.Both parts) ≡ (λ names set. list_all (λ part. part names set) (map truth parts))
truth-both parts = search (rules, the_lemmas)

pub truth-either : (parts : List Form) → truth (form.Either parts) ≡ (λ names set. list_any (λ part. part names set) (map truth parts))
truth-either parts = search (rules, the_lemmas)

pub formula_of-any : (names : List (List ℕ)) → any_of (length names) ≡ formula_of form.Any names
unfolding any_of formula_of
formula_of-any names = ap (λ t. formula_where (length names) (t names)) (sym truth-any)

pub formula_of-never : (names : List (List ℕ)) → never_of (length names) ≡ formula_of form.Never names
unfolding never_of formula_of
formula_of-never names = ap (λ t. formula_where (length names) (t names)) (sym truth-never)

pub formula_of-name : (names : List (List ℕ)) (name : List ℕ) (place : ℕ) → position (bytes_eq name) names ≡ Some place → name_of place (length names) ≡ formula_of (form.Name name) names
unfolding name_of formula_of
formula_of-name names name place at_place =
    ap (λ o. formula_where (length names) (λ set. option_map_or (has set) o false)) (sym at_place) ∙ ap (λ t. formula_where (length names) (t names)) (sym (truth-name name))
