-- The deals of all hosts, one after the other: whatever follows, the plan from here on completes the plan from the start.
use Rattle.std.proofs.Common.{◌≡◌, ℕ, ◌+◌, ◌<◌, ◌≤◌, suc, true, IsTrue, List, [], ◌∷◌, ◌++◌, length, length-append, drop, get_or, Some, Result, Ok, Err, inl, inr, sym, ap, ◌∙◌, subst, arith, add-one, drop-cons}
use Rattle.std.specs.Prelude.{slice_get}
use Rattle.std.proofs.Math.ListN.{drop_of_length-le}
use Rattle.std.proofs.Math.Seq.{get_or-append_seam}
use Rattle.std.proofs.lemmas.Bool.{cases_lt}
use Rattle.std.proofs.lemmas.List.{get_or_append_left}
use Rattle.std.proofs.lemmas.Option.{get_or_from_slice_get, slice_get-get_or, slice_get_within}
use Rattle.vd_outside.specs.Files.{FilesView, Contents}
use Rattle.vd_tape.specs.declared.deal_items.deal.Deal.{Deal}
use Rattle.vd_cmd_plan.specs.Held.{Finds}
use Rattle.vd_cmd_plan.specs.Plans.{Plan, Executes, ExecutesStep, only, refused}
use Rattle.vd_cmd_plan.specs.declared.answer.Answer.{Answer}
use Rattle.vd_cmd_plan.specs.declared.status.Status.{Status}
use Rattle.vd_cmd_plan.specs.declared.status.Status.TheVariants.{Memory}
use Rattle.vd_cmd_plan.proofs.Front.{any_memory}
use Rattle.vd_cmd_files.specs.Outcomes.{ReplayOutcomes}
use Rattle.vd_cmd_files.proofs.Picked.{some_outcomes}
use Rattle.vd_cmd_files.specs.Deals.{HoldDeals, HoldsDeal, deal_then, deals_from, deals_then}

module _ (prefix : List ℕ) (names : List (List ℕ)) where
  -- the plan from the host with this number on, behind these deals
  abbrev pub left_then : ReplayOutcomes → ℕ → List Deal → (List Deal → Contents → Plan) → Contents → Plan
  left_then outcomes number deals = deals_from outcomes prefix (length names) number (drop number names) deals

  abbrev pub GoesOn : FilesView → FilesView → ℕ → List Deal → Type 0
  GoesOn before now number deals =
      (outcomes : ReplayOutcomes) (rest : List Deal → Contents → Plan) (last : FilesView) (result : Result Answer Status)
      → Executes true (left_then outcomes number deals rest) now last result → Executes true (deals_then outcomes prefix names rest) before last result

  -- the next deal is fetched next
  one_left : (outcomes : ReplayOutcomes) (number : ℕ) (name : List ℕ) (deals : List Deal) (rest : List Deal → Contents → Plan) → number < length names → name ≡ get_or names number name
      → left_then outcomes number deals rest ≡ deal_then outcomes prefix (length names) number name (λ deal. left_then outcomes (number + 1) (deals ++ deal ∷ []) rest)
  unfolding deals_from
  one_left outcomes number name deals rest lt is =
      let more : drop number names ≡ name ∷ drop (number + 1) names = rw (add-one number) (drop-cons names number name lt ∙ ap (λ (x : List ℕ). x ∷ drop (suc number) names) (sym is)) in
      ap (λ (left : List (List ℕ)). deals_from outcomes prefix (length names) number left deals rest) more

  none_left : (outcomes : ReplayOutcomes) (number : ℕ) (deals : List Deal) (rest : List Deal → Contents → Plan) → length names ≤ number → left_then outcomes number deals rest ≡ rest deals
  unfolding deals_from
  none_left outcomes number deals rest le = ap (λ (left : List (List ℕ)). deals_from outcomes prefix (length names) number left deals rest) (drop_of_length-le names le)

  pub one_more : (before mid now : FilesView) (number : ℕ) (name : List ℕ) (deals : List Deal) (deal : Deal) → number < length names → name ≡ get_or names number name → GoesOn before mid number deals
      → ((outcomes : ReplayOutcomes) → ExecutesStep (deal_then outcomes prefix (length names) number name) mid now (Ok deal)) → GoesOn before now (number + 1) (deals ++ deal ∷ [])
  one_more before mid now number name deals deal lt is goes step = λ outcomes rest last result then.
      goes outcomes rest last result
      (subst (λ (p : Contents → Plan). Executes true p mid last result) (sym (one_left outcomes number name deals rest lt is)) (step outcomes (λ d. left_then outcomes (number + 1) (deals ++ d ∷ []) rest) last result then))

  pub stops : (before mid now : FilesView) (number : ℕ) (name : List ℕ) (deals : List Deal) (status : Status) → number < length names → name ≡ get_or names number name → GoesOn before mid number deals
      → ((outcomes : ReplayOutcomes) → ExecutesStep {T = Deal} (deal_then outcomes prefix (length names) number name) mid now (Err status))
      → (outcomes : ReplayOutcomes) → ExecutesStep {T = List Deal} (deals_then outcomes prefix names) before now (Err status)
  stops before mid now number name deals status lt is goes step outcomes = λ rest.
      goes outcomes rest now (Err status)
      (subst (λ (p : Contents → Plan). Executes true p mid now (Err status)) (sym (one_left outcomes number name deals rest lt is)) (step outcomes (λ d. left_then outcomes (number + 1) (deals ++ d ∷ []) rest)))

  pub no_memory : (before now : FilesView) (number : ℕ) (deals : List Deal) → GoesOn before now number deals → (outcomes : ReplayOutcomes) → ExecutesStep {T = List Deal} (deals_then outcomes prefix names) before now (Err Memory)
  no_memory before now number deals goes outcomes = λ rest. goes outcomes rest now (Err Memory) (any_memory (left_then outcomes number deals rest) now)

  pub all_there : (before now : FilesView) (number : ℕ) (deals : List Deal) → length names ≤ number → GoesOn before now number deals
      → (outcomes : ReplayOutcomes) → ExecutesStep (deals_then outcomes prefix names) before now (Ok deals)
  all_there before now number deals le goes outcomes = λ rest last result then.
      goes outcomes rest last result (subst (λ (p : Contents → Plan). Executes true p now last result) (sym (none_left outcomes number deals rest le)) then)

  -- ---- what the files hold

  so_far : (before now : FilesView) (number : ℕ) (deals : List Deal) → GoesOn before now number deals → (rest : List Deal → Contents → Plan) → Executes true (deals_then some_outcomes prefix names rest) before now (Err Memory)
  so_far before now number deals goes rest = goes some_outcomes rest now (Err Memory) (any_memory (left_then some_outcomes number deals rest) now)

  get_front : (ds : List Deal) (d e : Deal) (i : ℕ) → slice_get (ds ++ d ∷ []) i ≡ Some e → i < length ds → slice_get ds i ≡ Some e
  get_front ds d e i is lt =
      slice_get-get_or ds i e lt ∙ ap (λ (x : Deal). Some x) (sym (get_or_append_left ds (d ∷ []) e i lt) ∙ get_or_from_slice_get (ds ++ d ∷ []) i e e is)

  get_last : (ds : List Deal) (d e : Deal) (i : ℕ) → slice_get (ds ++ d ∷ []) i ≡ Some e → i ≡ length ds → d ≡ e
  get_last ds d e i is last =
      sym (get_or-append_seam ds d [] e) ∙ ap (λ (n : ℕ). get_or (ds ++ d ∷ []) n e) (sym last) ∙ get_or_from_slice_get (ds ++ d ∷ []) i e e is

  -- one deal more is what its file says
  more_hold : (contents : Contents) (deals : List Deal) (deal : Deal) → HoldDeals prefix (length names) contents deals → HoldsDeal prefix (length names) (length deals) contents deal
      → HoldDeals prefix (length names) contents (deals ++ deal ∷ [])
  more_hold contents deals deal hold holds number other e = elim (cases_lt number (length deals)) [
    | inl lt ↦ hold number other (get_front deals deal other number e lt)
    | inr le ↦
        let within : number < length (deals ++ deal ∷ []) = slice_get_within (deals ++ deal ∷ []) number other e in
        let last : number ≡ length deals = omega (arith, length-append deals (deal ∷ [])) in
        let here : HoldsDeal prefix (length names) (length deals) contents other = subst (λ (d : Deal). HoldsDeal prefix (length names) (length deals) contents d) (get_last deals deal other number e last) holds in
        subst (λ (n : ℕ). HoldsDeal prefix (length names) n contents other) (sym last) here
  ]

  pub one_held : (before mid : FilesView) (number : ℕ) (deals : List Deal) (deal : Deal) → GoesOn before mid number deals → length deals ≡ number
      → (IsTrue before.told → HoldDeals prefix (length names) before.contents deals) → Finds mid (Ok deal) (HoldsDeal prefix (length names) number)
      → IsTrue before.told → HoldDeals prefix (length names) before.contents (deals ++ deal ∷ [])
  one_held before mid number deals deal goes count hold found t =
      let done = so_far before mid number deals goes (λ ds files. only (refused Memory)) in
      let here = subst (λ (files : Contents). HoldsDeal prefix (length names) number files deal) (done.contents t) (found (done.still_told t)) in
      more_hold before.contents deals deal (hold t) (subst (λ (n : ℕ). HoldsDeal prefix (length names) n before.contents deal) (sym count) here)
