-- The hosts of a program as it is stored.
use Rattle.std.proofs.Common.{◌≡◌, ◌⊎◌, inl, inr, ℕ, ◌<◌, ◌≤◌, List, [], length, Option, Some, None, refl, sym, ap, ◌∙◌, subst, arith}
use Rattle.std.proofs.lemmas.Bool.{cases_lt}
use Rattle.std.proofs.lemmas.List.FromFn.{get_or-map-range_with_len}
use Rattle.std.specs.Prelude.{slice_get}
use Rattle.vd_base.specs.declared.protocols.Proto.{Proto}
use Rattle.vd_core.specs.declared.normal.NormalForm.{NormalForm}
use Rattle.vd_tape.specs.declared.deal_items.deal.Deal.{Deal}
use Rattle.vd_execution.specs.declared.instructions.Instr.{Instr}
use Rattle.vd_execution.specs.Code.{Code}
use Rattle.vd_execution.specs.Joint.{Joint, code_of}
use Rattle.vd_execution.specs.Step.{Source}
use Rattle.vd_execution.specs.Text.{IsCodeOf, Reading, text}
use Rattle.vd_execution.specs.World.{Supply}
use Rattle.vd_machine.specs.declared.lists.Lists.{Lists}
use Rattle.vd_machine.specs.Kept.{at_start}
use Rattle.vd_machine.specs.Machines.{items_of}
use Rattle.vd_engine.specs.Drives.{Sessions}
use Rattle.vd_engine.specs.Enough.{IsEnough}
use Rattle.vd_projection.specs.Programs.{joint_of}
use Rattle.vd_projection.proofs.Front.{runnable_over, codes_can_be_loaded, codes_run_well, ended_past}
use Rattle.vd_hostcode.specs.declared.host_text.program.Digest.{Digest}
use Rattle.vd_world.specs.Supplies.{AreFiles, items_for, lists_for, supply_of_files}
use Rattle.vd_world.proofs.Front.{files_are_valid}
use Rattle.vd_projection.specs.Stored.{CanBeStored, stored_program}
use Rattle.vd_projection.proofs.Front.{stored_programs_stand_in_files}
use Rattle.vd_distributed.specs.Linked.{AreOwnHosts, NumbersAreWords}
use Rattle.vd_distributed.proofs.Joined.{own_codes}
use Rattle.vd_distributed.proofs.Numbers.{numbers_small}
use Rattle.vd_distributed.proofs.Running.{no_items, nothing_dealt}
use Rattle.vd_distributed.specs.Serving.{StoredHostsAreServed}
use Rattle.vd_distributed.proofs.Serving.{others_send_enough}

-- a list of instructions has one code
same_reading : (a b : Reading) → ◌≡◌ {A = Option Reading} (Some a) (Some b) → a ≡ b
same_reading a b e = cc e

one_code : (list : List Instr) (a b : Code) → IsCodeOf list a → IsCodeOf list b → a ≡ b
one_code list a b is are = ap (λ (r : Reading). r.code) (same_reading _ _ (sym is ∙ are))

module _ (program : NormalForm) (list : List Proto) (plan : Digest) (inputs : List (List ℕ)) (deals : List Deal) (h : ℕ) (can : CanBeStored program list plan h) (files : AreFiles inputs deals) where
  abbrev n : ℕ
  n = length program.hosts

  abbrev s : Supply
  s = supply_of_files inputs deals

  abbrev j : Joint
  j = joint_of program list

  -- ---- the lists of each host

  abbrev lists_in : ℕ → Option Deal → Lists
  lists_in g None = nothing_dealt
  lists_in g (Some deal) = lists_for inputs g deal

  supplied_in : (g : ℕ) (o : Option Deal) (source : Source) (i : ℕ) → items_for inputs g o source i ≡ items_of (lists_in g o) source i
  supplied_in g None source i = sym (no_items source i)
  supplied_in g (Some deal) source i = refl

  -- ---- the code of each host

  can_be : (g : ℕ) → g < n → CanBeStored program list plan g
  can_be g lt = record { runs = can.runs; digest = can.digest; declared = lt }

  code_is : (g : ℕ) → g < n → (stored_program program list plan g).code ≡ text (code_of g j) []
  code_is g lt = get_or-map-range_with_len (λ k. text (code_of k j) []) 0 n g g [] lt (omega arith)

  is_code : (g : ℕ) → g < n → IsCodeOf (stored_program program list plan g).code (code_of g j)
  is_code g lt = subst (λ (l : List Instr). IsCodeOf l (code_of g j)) (sym (code_is g lt)) (codes_can_be_loaded program list can.runs.made (runnable_over program list can.runs.made can.runs.runnable) g).nested

  numbers : (g : ℕ) → (g < n) ⊎ (n ≤ g) → NumbersAreWords (code_of g j)
  numbers g (inl lt) = numbers_small (stored_program program list plan g).code (code_of g j) _ (stored_programs_stand_in_files program list plan g (can_be g lt)).file.lines (is_code g lt)
  numbers g (inr le) = subst NumbersAreWords (sym (ended_past program list can.runs g le)) tt

  hosts : AreOwnHosts s j
  hosts =
      let valid = files_are_valid inputs deals files in
      record {
        well = codes_run_well program list can.runs inputs files.words s valid.0 valid.1;
        deal = valid.0;
        hastened = own_codes 0 j;
        numbers = λ g. numbers g (cases_lt g n);
      }

  -- ---- from its own code, on its own lists

  own : (deal : Deal) (code : Code) (sessions : Sessions) → slice_get deals h ≡ Some deal → IsCodeOf (stored_program program list plan h).code code
      → IsEnough (lists_in h (slice_get deals h)) (at_start (code_of h j)) sessions → IsEnough (lists_for inputs h deal) (at_start code) sessions
  own deal code sessions dealt is all =
      subst (λ (c : Code). IsEnough (lists_for inputs h deal) (at_start c) sessions) (one_code (stored_program program list plan h).code (code_of h j) code (is_code h can.declared) is)
      (subst (λ (o : Option Deal). IsEnough (lists_in h o) (at_start (code_of h j)) sessions) dealt all)

pub stored_hosts_are_served : StoredHostsAreServed
stored_hosts_are_served program list plan inputs deals h can files enough deal dealt code is sessions brought =
    let of = others_send_enough (supply_of_files inputs deals) (joint_of program list) (λ g. lists_in program list plan inputs deals h can files g (slice_get deals g)) h sessions
    (hosts program list plan inputs deals h can files) enough (λ g source i. supplied_in program list plan inputs deals h can files g (slice_get deals g) source i) brought in
    own program list plan inputs deals h can files deal code sessions dealt is of
