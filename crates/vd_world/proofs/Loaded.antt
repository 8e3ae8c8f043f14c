-- Machines that were loaded, host by host.
use Rattle.std.proofs.Common.{◌≡◌, ℕ, zero, suc, ◌<◌, List, [], ◌∷◌, ◌++◌, inl, inr, Option, Some, Result, Ok, Err, length, map, map-id, get_or, refl, sym, ap, ◌∙◌, subst, arith}
use Rattle.std.specs.Prelude.{IfOk, slice_get}
use Rattle.std.specs.List.{zip}
use Rattle.std.specs.Option.{option_map}
use Rattle.std.proofs.lemmas.Option.{slice_get_past, slice_get_cases, slice_get-get_or, slice_get-map, slice_get_within}
use Rattle.std.proofs.lemmas.List.{length-map}
use mathlib.Core.Path.{fun_ext}
use Rattle.vd_tape.specs.declared.deal_items.deal.Deal.{Deal}
use Rattle.vd_tape.specs.Validity.{IsDeal}
use Rattle.vd_execution.specs.declared.instructions.Instr.{Instr}
use Rattle.vd_execution.specs.Code.{Code}
use Rattle.vd_execution.specs.Text.{IsCodeOf}
use Rattle.vd_execution.specs.Joint.{Joint, code_of, started}
use Rattle.vd_execution.specs.Ranges.{IsInRange}
use Rattle.vd_execution.specs.Step.{Source}
use Rattle.vd_machine.specs.declared.lists.Lists.{Lists}
use Rattle.vd_machine.specs.Machines.{items_of}
use Rattle.vd_machine.specs.Kept.{Kept, at_start, state_of}
use Rattle.vd_backend_laws.specs.Whole.{inputs_of}
use Rattle.vd_world.specs.Hosts.{AreLoaded, AreMachines, host_at_start, hosts_at_start, lists_of, supply_of, world_of}
use Rattle.vd_world.proofs.Starting.{starts_as}
use Rattle.vd_world.specs.Supplies.{items_for, lists_for, supply_of_files}
use Rattle.vd_world.specs.Loading.{AreCodesOf, AreForAll, CanLoad, EachLoads, Loads}

-- ---- one host of many

abbrev all_items : Lists → Source → ℕ → Option (List ℕ)
all_items l source i = items_of l source i

-- the machine of host h was loaded with its code, its inputs and its deal
record LoadsAt (codes : List (List Instr)) (inputs : List (List ℕ)) (deals : List Deal) (h : ℕ) (m : Kept) : Type 0 where
  code : List Instr
  deal : Deal
  code_is : slice_get codes h ≡ Some code
  deal_is : slice_get deals h ≡ Some deal
  loads : Loads code (inputs_of inputs h) deal m

loads_at : (codes : List (List Instr)) (inputs : List (List ℕ)) (deals : List Deal) (machines : List Kept) → EachLoads codes inputs deals machines
    → (h : ℕ) (m : Kept) → slice_get machines h ≡ Some m → LoadsAt codes inputs deals h m
loads_at (code ∷ codes) (words ∷ inputs) (deal ∷ deals) (x ∷ machines) all zero m is =
    let same : x ≡ m = cc in
    record { code = code; deal = deal; code_is = refl; deal_is = refl; loads = subst (λ (k : Kept). Loads code words deal k) same all.0 }
loads_at (code ∷ codes) (words ∷ inputs) (deal ∷ deals) (x ∷ machines) all (suc h) m is =
    let at = loads_at codes inputs deals machines all.1 h m is in
    record { code = at.code; deal = at.deal; code_is = at.code_is; deal_is = at.deal_is; loads = at.loads }
loads_at [] [] [] [] all h m is = absurd cc
loads_at codes inputs deals machines all h m is = absurd all

as_many : (codes : List (List Instr)) (inputs : List (List ℕ)) (deals : List Deal) (machines : List Kept) → EachLoads codes inputs deals machines → length machines ≡ length codes
as_many [] [] [] [] all = refl
as_many (code ∷ codes) (words ∷ inputs) (deal ∷ deals) (m ∷ machines) all = ap suc (as_many codes inputs deals machines all.1)
as_many codes inputs deals machines all = absurd all

module _ (codes : List (List Instr)) (inputs : List (List ℕ)) (deals : List Deal) (machines : List Kept) (are : AreForAll codes inputs deals) (all : EachLoads codes inputs deals machines) where
  count : length machines ≡ length deals
  count = as_many codes inputs deals machines all ∙ sym are.all_deals

  -- the machines are those of as many hosts as there are
  pub are_machines : AreMachines machines
  are_machines k d lt =
      let m = get_or machines k d in
      let at = loads_at codes inputs deals machines all k m (slice_get-get_or machines k d lt) in
      ap (λ (x : Deal). x.hosts) at.loads.dealt ∙ (are.are_deals.each k at.deal at.deal_is).2 ∙ sym count

  -- each before the code of its host
  are_loaded : (j : Joint) → AreCodesOf codes j → AreLoaded machines j
  are_loaded j of_joint = record {
    codes = λ h m is. let at = loads_at codes inputs deals machines all h m is in at.loads.pending _ (of_joint.each h at.code at.code_is);
    past = λ h le. let n = as_many codes inputs deals machines all in of_joint.all h (omega (arith, n, le));
  }

  pub starts : (j : Joint) → AreCodesOf codes j → world_of (hosts_at_start machines) ≡ started j
  starts j of_joint = starts_as machines j (are_loaded j of_joint)

  lists_at : (h : ℕ) → lists_of (slice_get (map host_at_start machines) h) ≡ items_for inputs h (slice_get deals h)
  lists_at h = elim ((slice_get_cases machines h).1) [
    | inl some ↦
        let at = loads_at codes inputs deals machines all h some.0 some.2 in
        let lists : some.0.lists ≡ lists_for inputs h at.deal = λ i. record { inputs = at.loads.inputs i; deal = at.loads.dealt i } in
        ap lists_of (slice_get-map host_at_start machines h ∙ ap (option_map host_at_start) some.2)
        ∙ ap all_items lists
        ∙ ap (items_for inputs h) (sym at.deal_is)
    | inr past ↦
        ap lists_of (slice_get-map host_at_start machines h ∙ ap (option_map host_at_start) past.1)
        ∙ ap (items_for inputs h) (sym (slice_get_past deals h (omega (arith, past.0, count))))
  ]

  pub hosts_as_many : length (hosts_at_start machines) ≡ length codes
  hosts_as_many = length-map machines host_at_start ∙ as_many codes inputs deals machines all

  -- and they take items from the files
  pub takes : supply_of (hosts_at_start machines) ≡ supply_of_files inputs deals
  takes = fun_ext lists_at

-- what is said of a machine that is loaded, clause by clause
pub loads_of : {E : Type 0} (code : List Instr) (words : List ℕ) (deal : Deal) (r : Result Kept E) → ((c : Code) → IsCodeOf code c → IfOk r (λ m. state_of m ≡ at_start c))
    → IfOk r (λ m. m.lists.inputs ≡ words) → IfOk r (λ m. m.lists.deal ≡ deal) → IfOk r (Loads code words deal)
loads_of code words deal (Ok m) pending inputs dealt = record { pending = pending; inputs = inputs; dealt = dealt }
loads_of code words deal (Err e) pending inputs dealt = tt

-- ---- a loop over all hosts

-- what a host is loaded with
abbrev pub Load : Type 0
Load = List Instr × (List ℕ × Deal)

abbrev pub Loaded : Load → Kept → Type 0
Loaded x m = Loads x.0 x.1.0 x.1.1 m

abbrev pub AllLoaded : List Load → List Kept → Type 0
AllLoaded [] [] = Unit {0}
AllLoaded (x ∷ xs) (m ∷ machines) = Loaded x m × AllLoaded xs machines
AllLoaded [] (m ∷ machines) = ⊥
AllLoaded (x ∷ xs) [] = ⊥

pub one_more_loaded : (xs : List Load) (machines : List Kept) (x : Load) (m : Kept) → AllLoaded xs machines → Loaded x m → AllLoaded (xs ++ x ∷ []) (machines ++ m ∷ [])
one_more_loaded [] [] x m all one = (one, tt)
one_more_loaded (y ∷ xs) (k ∷ machines) x m all one = (all.0, one_more_loaded xs machines x m all.1 one)
one_more_loaded [] (k ∷ machines) x m all one = absurd all
one_more_loaded (y ∷ xs) [] x m all one = absurd all

each_loads : (codes : List (List Instr)) (inputs : List (List ℕ)) (deals : List Deal) (machines : List Kept) → length inputs ≡ length codes → length deals ≡ length codes
    → AllLoaded (zip codes (zip inputs deals)) machines → EachLoads codes inputs deals machines
each_loads [] [] [] [] e f all = tt
each_loads [] [] [] (m ∷ machines) e f all = absurd all
each_loads (code ∷ codes) (words ∷ inputs) (deal ∷ deals) (m ∷ machines) e f all = (all.0, each_loads codes inputs deals machines (omega (arith, e)) (omega (arith, f)) all.1)
each_loads (code ∷ codes) (words ∷ inputs) (deal ∷ deals) [] e f all = absurd all
each_loads [] (words ∷ inputs) deals machines e f all = absurd (omega (arith, e))
each_loads [] [] (deal ∷ deals) machines e f all = absurd (omega (arith, f))
each_loads (code ∷ codes) [] deals machines e f all = absurd (omega (arith, e))
each_loads (code ∷ codes) (words ∷ inputs) [] machines e f all = absurd (omega (arith, f))

-- the place of an item of three lists side by side
zipped : (codes : List (List Instr)) (inputs : List (List ℕ)) (deals : List Deal) (i : ℕ) (d : Load) → i < length (zip codes (zip inputs deals))
    → (slice_get codes i ≡ Some (get_or (zip codes (zip inputs deals)) i d).0) × (slice_get deals i ≡ Some (get_or (zip codes (zip inputs deals)) i d).1.1)
zipped [] inputs deals i d lt = absurd (omega (arith, lt))
zipped (code ∷ codes) [] deals i d lt = absurd (omega (arith, lt))
zipped (code ∷ codes) (words ∷ inputs) [] i d lt = absurd (omega (arith, lt))
zipped (code ∷ codes) (words ∷ inputs) (deal ∷ deals) zero d lt = (refl, refl)
zipped (code ∷ codes) (words ∷ inputs) (deal ∷ deals) (suc i) d lt = zipped codes inputs deals i d (omega (arith, lt))

can_load : (codes : List (List Instr)) (inputs : List (List ℕ)) (deals : List Deal) (i : ℕ) (x : Load) → AreForAll codes inputs deals → i < length (zip codes (zip inputs deals)) → x ≡ get_or (zip codes (zip inputs deals)) i x
    → (slice_get codes i ≡ Some x.0) × (slice_get deals i ≡ Some x.1.1)
can_load codes inputs deals i x are lt is =
    let at = zipped codes inputs deals i x lt in
    (at.0 ∙ ap (λ (y : Load). Some y.0) (sym is), at.1 ∙ ap (λ (y : Load). Some y.1.1) (sym is))

has_range : (codes : List (List Instr)) (inputs : List (List ℕ)) (deals : List Deal) (i : ℕ) (code : List Instr) (deal : Deal) → AreForAll codes inputs deals → slice_get codes i ≡ Some code → slice_get deals i ≡ Some deal → CanLoad code deal
has_range codes inputs deals i code deal are e f =
    let of_joint = are.are_codes.1 in
    let hosts : length codes ≡ deal.hosts = sym are.all_deals ∙ sym (are.are_deals.each i deal f).2 in
    (_, of_joint.each i code e, subst (λ (n : ℕ). IsInRange n (code_of i are.are_codes.0)) hosts (of_joint.in_range i (slice_get_within codes i code e)))

-- what is said of a value, further
pub then_ok : {X E : Type 0} {P Q : X → Type 0} (r : Result X E) → ((x : X) → P x → Q x) → IfOk r P → IfOk r Q
then_ok (Ok x) further is = further x is
then_ok (Err e) further is = tt

-- what is loaded next can be loaded
pub next_loads : (codes : List (List Instr)) (inputs : List (List ℕ)) (deals : List Deal) (all xs : List Load) (x : Load) → AreForAll codes inputs deals → all ≡ zip codes (zip inputs deals)
    → length xs < length all → x ≡ get_or all (length xs) x → CanLoad x.0 x.1.1 × IsDeal x.1.1
next_loads codes inputs deals all xs x are same lt is =
    let low : length xs < length (zip codes (zip inputs deals)) = subst (λ (l : List Load). length xs < length l) same lt in
    let at = can_load codes inputs deals (length xs) x are low (is ∙ ap (λ (l : List Load). get_or l (length xs) x) same) in
    (has_range codes inputs deals (length xs) x.0 x.1.1 are at.0 at.1, (are.are_deals.each (length xs) x.1.1 at.1).0)

-- and in the end all are loaded
pub all_load : (codes : List (List Instr)) (inputs : List (List ℕ)) (deals : List Deal) (all xs : List Load) (machines : List Kept) → AreForAll codes inputs deals → all ≡ zip codes (zip inputs deals)
    → map (λ (x : Load). x) xs ≡ all → AllLoaded xs machines → EachLoads codes inputs deals machines
all_load codes inputs deals all xs machines are same yields loaded =
    each_loads codes inputs deals machines are.all_inputs are.all_deals (subst (λ (l : List Load). AllLoaded l machines) (sym (map-id xs) ∙ yields ∙ same) loaded)
