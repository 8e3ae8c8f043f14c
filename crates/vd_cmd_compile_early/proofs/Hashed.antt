-- The last byte of a printed choice is behind a digit, and that of the word for the other order is not.
use Rattle.std.proofs.Common.{◌≡◌, ℕ, ◌+◌, ◌-◌, ◌<◌, ◌^◌, true, List, [], ◌∷◌, ◌++◌, length, refl, sym, ap, ap₂, ◌∙◌, append_assoc, arith, ◌⊎◌, inl, inr, ⊎_elim}
use Rattle.std.specs.Prelude.{codes}
use Rattle.std.specs.Fmt.{decimal}
use Rattle.std.specs.List.{list_all}
use Rattle.std.proofs.lemmas.Bool.{and_parts}
use Rattle.std.proofs.lemmas.Fmt.{decimal_nonempty, digits_decimal}
use Rattle.std.proofs.lemmas.List.{append_cancel_left, append_cancel_right}
use Rattle.vd_base.specs.Lexical.{is_digit}
use Rattle.vd_core.specs.declared.normal.NormalForm.{NormalForm}
use Rattle.vd_report.specs.ChoiceLines.{slot_lines}
use Rattle.vd_search_stages.specs.declared.optimum.Assignment.{Assignment}
use Rattle.vd_cmd_choice.specs.Choice.{printed_at}
use Rattle.vd_cmd_plan.proofs.Front.{AreDigits, decimal_model, digit_high}
use Rattle.vd_cmd_compile_early.specs.Plans.{PlansTell, RunsOn}

-- ---- the last byte

abbrev last_of : ℕ → List ℕ → ℕ
last_of x [] = x
last_of x (y ∷ ys) = last_of y ys

last_behind : (z : ℕ) (before : List ℕ) (x : ℕ) (xs : List ℕ) → last_of z (before ++ x ∷ xs) ≡ last_of x xs
last_behind z [] x xs = refl
last_behind z (y ∷ before) x xs = last_behind y before x xs

last_digit : (x : ℕ) (xs : List ℕ) → AreDigits (x ∷ xs) → is_digit (last_of x xs) ≡ true
last_digit x [] h = (and_parts (is_digit x) true h).0
last_digit x (y ∷ ys) h = last_digit y ys (and_parts (is_digit x) (list_all is_digit (y ∷ ys)) h).1

not_early : (before other digits : List ℕ) → 0 < length digits → AreDigits digits → before ++ digits ≡ other ++ codes "early by round" → ⊥
not_early before other [] some are e = absurd (omega (arith, some))
not_early before other (x ∷ xs) some are e =
    let last : last_of x xs ≡ 100 = sym (last_behind 0 before x xs) ∙ ap (last_of 0) e
    ∙ last_behind 0 other 101 (97 ∷ 114 ∷ 108 ∷ 121 ∷ 32 ∷ 98 ∷ 121 ∷ 32 ∷ 114 ∷ 111 ∷ 117 ∷ 110 ∷ 100 ∷ []) in
    let high = digit_high (last_of x xs) (last_digit x xs are) in
    omega (arith, last, high)

-- ---- two lists that begin one list

-- both lists, where the two parts before are equally long
both_same : (a b x y : List ℕ) → length a ≡ length b → a ++ x ≡ b ++ y → (a ≡ b) × (x ≡ y)
both_same [] [] x y same e = (refl, e)
both_same [] (q ∷ b) x y same e = absurd (omega (arith, same))
both_same (p ∷ a) [] x y same e = absurd (omega (arith, same))
both_same (p ∷ a) (q ∷ b) x y same e =
    let heads : p ≡ q = cc in
    let tails : a ++ x ≡ b ++ y = cc in
    let rest = both_same a b x y (omega (arith, same)) tails in
    (ap₂ (λ (h : ℕ) (t : List ℕ). h ∷ t) heads rest.0, rest.1)

runs_on : (a x b y : List ℕ) → a ++ x ≡ b ++ y → RunsOn a x b y ⊎ RunsOn b y a x
runs_on [] x b y e = inl (b, refl, e)
runs_on (p ∷ a) x [] y e = inr (p ∷ a, refl, sym e)
runs_on (p ∷ a) x (q ∷ b) y e =
    let heads : p ≡ q = cc in
    let tails : a ++ x ≡ b ++ y = cc in
    ⊎_elim
    (λ (h : RunsOn a x b y). inl (h.0, ap₂ (λ (z : ℕ) (t : List ℕ). z ∷ t) (sym heads) h.1, h.2))
    (λ (h : RunsOn b y a x). inr (h.0, ap₂ (λ (z : ℕ) (t : List ℕ). z ∷ t) heads h.1, h.2))
    (runs_on a x b y tails)

-- what is hashed for an early plan, with its last line behind all else
line_last : (a x b y line : List ℕ) → a ++ (x ++ line) ≡ b ++ (y ++ line) → a ++ x ≡ b ++ y
line_last a x b y line e = append_cancel_right (a ++ x) (b ++ y) line (append_assoc a x line ∙ e ∙ sym (append_assoc b y line))

-- ---- plans

other_order : (program : NormalForm) (a : Assignment) (text other printed : List ℕ) → a.cost < 2 ^ 64 → text ++ printed_at program a ≡ other ++ (printed ++ codes "early by round\n") → ⊥
other_order program a text other printed small e =
    let lines = slot_lines program.hosts 0 program.slots a.protocols in
    not_early (text ++ (lines ++ codes "cost ")) (other ++ printed) (decimal a.cost) (decimal_nonempty a.cost small) (digits_decimal decimal_model a.cost small)
    (append_cancel_right ((text ++ (lines ++ codes "cost ")) ++ decimal a.cost) ((other ++ printed) ++ codes "early by round") (codes "\n") (sym (left lines) ∙ e ∙ right))
  where
    left : (lines : List ℕ) → text ++ (lines ++ (codes "cost " ++ (decimal a.cost ++ codes "\n"))) ≡ ((text ++ (lines ++ codes "cost ")) ++ decimal a.cost) ++ codes "\n"
    left lines =
        ap (λ z. text ++ z) (sym (append_assoc lines (codes "cost ") (decimal a.cost ++ codes "\n")))
        ∙ sym (append_assoc text (lines ++ codes "cost ") (decimal a.cost ++ codes "\n"))
        ∙ sym (append_assoc (text ++ (lines ++ codes "cost ")) (decimal a.cost) (codes "\n"))

    right : other ++ (printed ++ codes "early by round\n") ≡ ((other ++ printed) ++ codes "early by round") ++ codes "\n"
    right = sym (append_assoc other printed (codes "early by round\n")) ∙ sym (append_assoc (other ++ printed) (codes "early by round") (codes "\n"))

pub plans_tell : PlansTell
plans_tell =
    record {
      hashed = λ text printed. text ++ printed;
      early_hashed = λ text printed. text ++ (printed ++ codes "early by round\n");
      plan = λ text printed. refl;
      early_plan = λ text printed. refl;
      choice = λ text printed other e. append_cancel_left text printed other e;
      early_choice = λ text printed other e. append_cancel_right printed other (codes "early by round\n") (append_cancel_left text (printed ++ codes "early by round\n") (other ++ codes "early by round\n") e);
      source = λ text other printed e. append_cancel_right text other printed e;
      early_source = λ text other printed e. append_cancel_right text other (printed ++ codes "early by round\n") e;
      both = λ text printed other others same e. both_same text other printed others same e;
      early_both = λ text printed other others same e.
          both_same text other printed others same (line_last text printed other others (codes "early by round\n") e);
      else_runs_on = λ text printed other others e. runs_on text printed other others e;
      early_else_runs_on = λ text printed other others e.
          runs_on text printed other others (line_last text printed other others (codes "early by round\n") e);
      order = λ program a text other printed small e. other_order program a text other printed small e;
    }
