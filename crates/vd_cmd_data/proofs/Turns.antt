-- Lists of results that are made in turn.
use Rattle.std.proofs.Common.{◌≡◌, ℕ, ◌+◌, ◌<◌, ◌≤◌, zero, suc, List, [], ◌∷◌, ◌++◌, length, map, drop, get_or, Result, Ok, Err, refl, sym, ap, subst, ◌∙◌, arith, append-nil, append_assoc, add-one, drop-cons}
use Rattle.std.proofs.Math.ListN.{drop_of_length-le}
use Rattle.std.proofs.lemmas.List.{get_or-map, length-map}
use Rattle.vd_cmd_plan.specs.Plans.{Checks, IsRefusal}
use Rattle.vd_cmd_plan.specs.declared.status.Status.{Status}
use Rattle.vd_cmd_plan.specs.declared.status.Status.TheVariants.{ChildFault, Ended, Host, Memory, NoAssignment, ReadFault, Table, Usage, WriteFault}
use Rattle.vd_cmd_plan.specs.declared.status.TableFault.{TableFault}
use Rattle.vd_cmd_data.specs.Tables.{IsRefusalAt, before_all, each_from}

-- a refusal of the one is a refusal of the other, where the one's is the other's
pub refused_on : {T U : Type 0} (wanted : Result T Status) (other : Result U Status) (status : Status) → (wanted ≡ Err status → other ≡ Err status)
    → IsRefusal wanted status → IsRefusal other status
refused_on wanted other Ended on is = is
refused_on wanted other (NoAssignment labelled) on is = is
refused_on wanted other Memory on is = tt
refused_on wanted other Usage on is = is
refused_on wanted other (ReadFault name) on is = is
refused_on wanted other WriteFault on is = is
refused_on wanted other (Host cause) on is = (is.0, on is.1)
refused_on wanted other (ChildFault hosts fault) on is = is
refused_on wanted other status on is = on is

-- a table is refused where its definition does so
pub refused_there : {T : Type 0} (file : List ℕ) (row column : ℕ) (fault : TableFault) (wanted : Result T Status) (status : Status) → wanted ≡ Err (Table file row column fault)
    → IsRefusalAt file row column fault status → Checks wanted (Err status)
refused_there {T} file row column fault wanted status eq at = record { ok = tt; err = by status at }
  where
    by : (other : Status) → IsRefusalAt file row column fault other → IsRefusal {T = T} wanted other
    by Memory is = tt
    by other is = subst (λ (s : Status). IsRefusal {T = T} wanted s) (sym is) eq

-- values that are there already, before the rest
abbrev pub after : {B : Type 0} → List B → Result (List B) Status → Result (List B) Status
after done (Ok more) = Ok (done ++ more)
after done (Err status) = Err status

after_none : {B : Type 0} (r : Result (List B) Status) → r ≡ after [] r
after_none (Ok more) = refl
after_none (Err status) = refl

after_one : {B : Type 0} (done : List B) (b : B) (r : Result (List B) Status) → after done (before_all (Ok b) r) ≡ after (done ++ b ∷ []) r
after_one done b (Ok more) = ap (λ l. Ok l) (sym (append_assoc done (b ∷ []) more))
after_one done b (Err status) = refl

next_each : {A B : Type 0} (f : ℕ → A → Result B Status) (n : ℕ) (a : A) (more : List A) → each_from f n (a ∷ more) ≡ before_all (f n a) (each_from f (n + 1) more)
unfolding each_from
next_each f n a more = refl

none_each : {A B : Type 0} (f : ℕ → A → Result B Status) (n : ℕ) → each_from f n [] ≡ Ok []
unfolding each_from
none_each f n = refl

same_item : {A : Type 0} (list : List A) (i : ℕ) (d e : A) → i < length list → get_or list i d ≡ get_or list i e
same_item [] i d e lt = absurd (omega (arith, lt))
same_item (a ∷ more) zero d e lt = refl
same_item (a ∷ more) (suc i) d e lt = same_item more i d e (omega (arith, lt))

module _ {A B : Type 0} (f : ℕ → A → Result B Status) (start : ℕ) (list : List A) where
  -- so many are done, and came to these
  abbrev pub Done : ℕ → List B → Type 0
  Done i done = each_from f start list ≡ after done (each_from f (i + start) (drop i list))

  pub none_done : Done 0 []
  none_done = let same : 0 + start ≡ start = omega arith in rw same (after_none (each_from f start list))

  next_is : (i : ℕ) (a : A) → i < length list → a ≡ get_or list i a → drop i list ≡ a ∷ drop (i + 1) list
  next_is i a lt is = rw (add-one i) (drop-cons list i a lt ∙ ap (λ (x : A). x ∷ drop (suc i) list) (sym is))

  next_from : (i : ℕ) (done : List B) (a : A) → i < length list → a ≡ get_or list i a → Done i done
      → each_from f start list ≡ after done (before_all (f (i + start) a) (each_from f (i + start + 1) (drop (i + 1) list)))
  next_from i done a lt is so_far =
      so_far ∙ ap (λ l. after done (each_from f (i + start) l)) (next_is i a lt is) ∙ ap (after done) (next_each f (i + start) a (drop (i + 1) list))

  pub one_done : (i : ℕ) (done : List B) (a : A) (b : B) → i < length list → a ≡ get_or list i a → Done i done → f (i + start) a ≡ Ok b → Done (i + 1) (done ++ b ∷ [])
  one_done i done a b lt is so_far ok =
      let places : i + start + 1 ≡ i + 1 + start = omega arith in
      next_from i done a lt is so_far
      ∙ ap (λ r. after done (before_all r (each_from f (i + start + 1) (drop (i + 1) list)))) ok
      ∙ after_one done b (each_from f (i + start + 1) (drop (i + 1) list))
      ∙ ap (λ n. after (done ++ b ∷ []) (each_from f n (drop (i + 1) list))) places

  pub one_refused : (i : ℕ) (done : List B) (a : A) (status : Status) → i < length list → a ≡ get_or list i a → Done i done → IsRefusal (f (i + start) a) status
      → Checks {T = List B} (each_from f start list) (Err status)
  one_refused i done a status lt is so_far refusal = record {
    ok = tt;
    err = refused_on (f (i + start) a) (each_from f start list) status
        (λ e. next_from i done a lt is so_far ∙ ap (λ r. after done (before_all r (each_from f (i + start + 1) (drop (i + 1) list)))) e) refusal;
  }

  -- the same of the item at a place, whatever stands past the end
  pub next_done : (i : ℕ) (done : List B) (d : A) (b : B) → i < length list → Done i done → f (i + start) (get_or list i d) ≡ Ok b → Done (i + 1) (done ++ b ∷ [])
  next_done i done d b lt so_far ok = one_done i done (get_or list i d) b lt (same_item list i d (get_or list i d) lt) so_far ok

  pub next_refused : (i : ℕ) (done : List B) (d : A) (status : Status) → i < length list → Done i done → IsRefusal (f (i + start) (get_or list i d)) status
      → Checks {T = List B} (each_from f start list) (Err status)
  next_refused i done d status lt so_far refusal = one_refused i done (get_or list i d) status lt (same_item list i d (get_or list i d) lt) so_far refusal

  pub all_done : (i : ℕ) (done : List B) → length list ≤ i → Done i done → Checks (each_from f start list) (Ok done)
  all_done i done le so_far = record {
    ok = so_far ∙ ap (λ l. after done (each_from f (i + start) l)) (drop_of_length-le list le) ∙ ap (after done) (none_each f (i + start)) ∙ ap (λ l. Ok l) (append-nil done);
    err = tt;
  }

-- The same of a list whose items are those of another one, each by a function.
module _ {A B C : Type 0} (f : ℕ → A → Result B Status) (start : ℕ) (g : C → A) (list : List C) where
  fits : (i : ℕ) → i < length list → i < length (map g list)
  fits i lt = let same : length (map g list) ≡ length list = length-map list g in omega (arith, lt, same)

  item_is : (i : ℕ) (c : C) → i < length list → c ≡ get_or list i c → g c ≡ get_or (map g list) i (g c)
  item_is i c lt is = ap g is ∙ sym (get_or-map g list i c (g c) lt)

  pub one_more : (i : ℕ) (done : List B) (c : C) (b : B) → i < length list → c ≡ get_or list i c → Done f start (map g list) i done → f (i + start) (g c) ≡ Ok b
      → Done f start (map g list) (i + 1) (done ++ b ∷ [])
  one_more i done c b lt is so_far ok = one_done f start (map g list) i done (g c) b (fits i lt) (item_is i c lt is) so_far ok

  pub one_stops : (i : ℕ) (done : List B) (c : C) (status : Status) → i < length list → c ≡ get_or list i c → Done f start (map g list) i done → IsRefusal (f (i + start) (g c)) status
      → Checks {T = List B} (each_from f start (map g list)) (Err status)
  one_stops i done c status lt is so_far refusal = one_refused f start (map g list) i done (g c) status (fits i lt) (item_is i c lt is) so_far refusal

  pub all_are : (i : ℕ) (done : List B) → length list ≤ i → Done f start (map g list) i done → Checks (each_from f start (map g list)) (Ok done)
  all_are i done le so_far = all_done f start (map g list) i done (let same : length (map g list) ≡ length list = length-map list g in omega (arith, le, same)) so_far
