-- The files of all hosts, one after the other: whatever follows, the plan from here on completes the plan from the start.
use Rattle.std.proofs.Common.{◌≡◌, ℕ, ◌+◌, ◌<◌, ◌≤◌, suc, true, IsTrue, List, [], ◌∷◌, ◌++◌, length, length-append, drop, get_or, Some, Result, Ok, Err, inl, inr, sym, ap, ◌∙◌, subst, arith, add-one, drop-cons}
use Rattle.std.specs.Prelude.{slice_get}
use Rattle.std.proofs.Math.ListN.{drop_of_length-le}
use Rattle.std.proofs.Math.Seq.{get_or-append_seam}
use Rattle.std.proofs.lemmas.Bool.{cases_lt}
use Rattle.std.proofs.lemmas.List.{get_or_append_left}
use Rattle.std.proofs.lemmas.Option.{get_or_from_slice_get, slice_get-get_or, slice_get_within}
use Rattle.vd_outside.specs.Files.{FilesView, Contents}
use Rattle.vd_deal_versions.specs.declared.dealt.Dealt.{Dealt}
use Rattle.vd_deal_versions.specs.Plain.{dealt_with}
use Rattle.vd_cmd_plan.specs.Held.{Finds}
use Rattle.vd_cmd_plan.specs.Plans.{Plan, Executes, ExecutesStep, only, refused}
use Rattle.vd_cmd_plan.specs.declared.answer.Answer.{Answer}
use Rattle.vd_cmd_plan.specs.declared.status.Status.{Status}
use Rattle.vd_cmd_plan.specs.declared.status.Status.TheVariants.{Memory}
use Rattle.vd_cmd_plan.proofs.Front.{any_memory}
use Rattle.vd_cmd_excuse.specs.declared.dealing.Dealing.{Dealing}
use Rattle.vd_cmd_excuse.specs.Dealing.{HoldDealing, HoldsDealt, dealing_from, dealing_then, dealt_then, with_dealt}

-- ---- one behind others

module _ {X : Type 0} (xs : List X) (x y : X) (i : ℕ) (is : slice_get (xs ++ x ∷ []) i ≡ Some y) where
  get_front : i < length xs → slice_get xs i ≡ Some y
  get_front lt = slice_get-get_or xs i y lt ∙ ap (λ (z : X). Some z) (sym (get_or_append_left xs (x ∷ []) y i lt) ∙ get_or_from_slice_get (xs ++ x ∷ []) i y y is)

  get_last : i ≡ length xs → x ≡ y
  get_last last = sym (get_or-append_seam xs x [] y) ∙ ap (λ (n : ℕ). get_or (xs ++ x ∷ []) n y) (sym last) ∙ get_or_from_slice_get (xs ++ x ∷ []) i y y is

module _ (prefix : List ℕ) (names : List (List ℕ)) where
  -- the plan from the host with this number on, behind what is known
  abbrev pub left_then : ℕ → Dealing → (Dealing → Contents → Plan) → Contents → Plan
  left_then number dealing = dealing_from prefix (length names) number (drop number names) dealing

  abbrev pub GoesOn : FilesView → FilesView → ℕ → Dealing → Type 0
  GoesOn before now number dealing =
      (rest : Dealing → Contents → Plan) (last : FilesView) (result : Result Answer Status)
      → Executes true (left_then number dealing rest) now last result → Executes true (dealing_then prefix names rest) before last result

  -- the next file is fetched next
  one_left : (number : ℕ) (name : List ℕ) (dealing : Dealing) (rest : Dealing → Contents → Plan) → number < length names → name ≡ get_or names number name
      → left_then number dealing rest ≡ dealt_then prefix (length names) number name (λ dealt. left_then (number + 1) (with_dealt dealing dealt) rest)
  unfolding dealing_from
  one_left number name dealing rest lt is =
      let more : drop number names ≡ name ∷ drop (number + 1) names = rw (add-one number) (drop-cons names number name lt ∙ ap (λ (x : List ℕ). x ∷ drop (suc number) names) (sym is)) in
      ap (λ (left : List (List ℕ)). dealing_from prefix (length names) number left dealing rest) more

  none_left : (number : ℕ) (dealing : Dealing) (rest : Dealing → Contents → Plan) → length names ≤ number → left_then number dealing rest ≡ rest dealing
  unfolding dealing_from
  none_left number dealing rest le = ap (λ (left : List (List ℕ)). dealing_from prefix (length names) number left dealing rest) (drop_of_length-le names le)

  pub one_more : (before mid now : FilesView) (number : ℕ) (name : List ℕ) (dealing : Dealing) (dealt : Dealt) → number < length names → name ≡ get_or names number name → GoesOn before mid number dealing
      → ExecutesStep (dealt_then prefix (length names) number name) mid now (Ok dealt) → GoesOn before now (number + 1) (with_dealt dealing dealt)
  one_more before mid now number name dealing dealt lt is goes step = λ rest last result then.
      goes rest last result
      (subst (λ (p : Contents → Plan). Executes true p mid last result) (sym (one_left number name dealing rest lt is)) (step (λ d. left_then (number + 1) (with_dealt dealing d) rest) last result then))

  pub stops : (before mid now : FilesView) (number : ℕ) (name : List ℕ) (dealing : Dealing) (status : Status) → number < length names → name ≡ get_or names number name → GoesOn before mid number dealing
      → ExecutesStep {T = Dealt} (dealt_then prefix (length names) number name) mid now (Err status) → ExecutesStep {T = Dealing} (dealing_then prefix names) before now (Err status)
  stops before mid now number name dealing status lt is goes step = λ rest.
      goes rest now (Err status)
      (subst (λ (p : Contents → Plan). Executes true p mid now (Err status)) (sym (one_left number name dealing rest lt is)) (step (λ d. left_then (number + 1) (with_dealt dealing d) rest)))

  pub no_memory : (before now : FilesView) (number : ℕ) (dealing : Dealing) → GoesOn before now number dealing → ExecutesStep {T = Dealing} (dealing_then prefix names) before now (Err Memory)
  no_memory before now number dealing goes = λ rest. goes rest now (Err Memory) (any_memory (left_then number dealing rest) now)

  pub all_there : (before now : FilesView) (number : ℕ) (dealing : Dealing) → length names ≤ number → GoesOn before now number dealing → ExecutesStep (dealing_then prefix names) before now (Ok dealing)
  all_there before now number dealing le goes = λ rest last result then.
      goes rest last result (subst (λ (p : Contents → Plan). Executes true p now last result) (sym (none_left number dealing rest le)) then)

  -- ---- what the files hold

  so_far : (before now : FilesView) (number : ℕ) (dealing : Dealing) → GoesOn before now number dealing → (rest : Dealing → Contents → Plan) → Executes true (dealing_then prefix names rest) before now (Err Memory)
  so_far before now number dealing goes rest = goes rest now (Err Memory) (any_memory (left_then number dealing rest) now)

  -- what one more host's file says
  more_hold : (contents : Contents) (dealing : Dealing) (dealt : Dealt) → length dealing.secrets ≡ length dealing.deals → HoldDealing prefix (length names) contents dealing
      → HoldsDealt prefix (length names) (length dealing.deals) contents dealt → HoldDealing prefix (length names) contents (with_dealt dealing dealt)
  more_hold contents dealing dealt same hold holds number other e f = elim (cases_lt number (length dealing.deals)) [
    | inl lt ↦ hold number other (get_front dealing.deals dealt.deal other.deal number e lt) (get_front dealing.secrets dealt.secrets other.secrets number f (omega (arith, same, lt)))
    | inr le ↦
        let within : number < length (dealing.deals ++ dealt.deal ∷ []) = slice_get_within (dealing.deals ++ dealt.deal ∷ []) number other.deal e in
        let last : number ≡ length dealing.deals = omega (arith, length-append dealing.deals (dealt.deal ∷ [])) in
        let last_too : number ≡ length dealing.secrets = omega (arith, same, last) in
        let deal : dealt.deal ≡ other.deal = get_last dealing.deals dealt.deal other.deal number e last in
        let secrets : dealt.secrets ≡ other.secrets = get_last dealing.secrets dealt.secrets other.secrets number f last_too in
        let both : dealt ≡ other = λ i. dealt_with (deal i) (secrets i) in
        let here : HoldsDealt prefix (length names) (length dealing.deals) contents other = subst (λ (d : Dealt). HoldsDealt prefix (length names) (length dealing.deals) contents d) both holds in
        subst (λ (n : ℕ). HoldsDealt prefix (length names) n contents other) (sym last) here
  ]

  pub one_held : (before mid : FilesView) (number : ℕ) (dealing : Dealing) (dealt : Dealt) → GoesOn before mid number dealing → length dealing.deals ≡ number → length dealing.secrets ≡ number
      → (IsTrue before.told → HoldDealing prefix (length names) before.contents dealing) → Finds mid (Ok dealt) (HoldsDealt prefix (length names) number)
      → IsTrue before.told → HoldDealing prefix (length names) before.contents (with_dealt dealing dealt)
  one_held before mid number dealing dealt goes count both hold found t =
      let done = so_far before mid number dealing goes (λ ds files. only (refused Memory)) in
      let here = subst (λ (files : Contents). HoldsDealt prefix (length names) number files dealt) (done.contents t) (found (done.still_told t)) in
      more_hold before.contents dealing dealt (both ∙ sym count) (hold t) (subst (λ (n : ℕ). HoldsDealt prefix (length names) n before.contents dealt) (sym count) here)
