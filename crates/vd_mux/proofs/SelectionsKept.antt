-- A program with selections tells each host what it told.
use Rattle.std.proofs.Common.{◌≡◌, ℕ, Bool, true, false, ◌&&◌, if◌then◌else◌, List, length, refl}
use Rattle.vd_base.specs.declared.ids.SlotId.{SlotId}
use Rattle.vd_core.specs.declared.normal.NormalForm.{NormalForm}
use Rattle.vd_core.specs.Facts.{SlotsInOrder, SlotsMadeBefore}
use Rattle.vd_semantics.specs.World.{world_at_start}
use Rattle.vd_semantics.specs.ProgramMeaning.{program_outputs}
use Rattle.vd_mux.specs.BooleanGuards.{is_truth_slot, keeps_truth, has_boolean_guards, HasBooleanGuards}
use Rattle.vd_mux.specs.Selections.{turned_where_boolean}
use Rattle.vd_rewrite.specs.Rewriting.{kept_let, rewritings, some_changed, is_within}
use Rattle.vd_mux.specs.Selections.{with_selections, turned}
use Rattle.vd_rewrite.proofs.Front.{Laws, outputs_kept, let_grown, let_adds, let_gives}
use Rattle.vd_mux.proofs.Truths.{Truths}
use Rattle.vd_mux.proofs.Guards.{meant, truths_at_start}

pub turn_laws : (hides : SlotId → Bool) (program : NormalForm) → let truth : SlotId → Bool = λ x. is_truth_slot program.slots x.0 in Laws hides (kept_let program.slots) (Unit {0}) (λ n. Unit {0}) (Truths truth) (keeps_truth truth)
turn_laws hides program =
    let truth : SlotId → Bool = λ x. is_truth_slot program.slots x.0 in
    record {
      grown = λ x r block m p. let_grown program.slots x r block m p;
      pure = λ x r block m seen turn s0 pure p known sees. let_adds program.slots x r block m turn s0 pure;
      gives = λ x r block m seen turn s0 s p known sees holds a. let_gives program.slots x r block m seen turn s0 s sees a;
      keeps = λ x met turn s fine holds. meant truth x met turn s holds;
      fine = λ count body met n lt. tt;
      hidden = λ g h. tt;
      guard = λ u g a b offset met s holds. holds.words g met;
    }

selections_keep : (hides : SlotId → Bool) (program : NormalForm) → SlotsInOrder program → SlotsMadeBefore program → HasBooleanGuards program → (inputs : List (List ℕ))
    → program_outputs (with_selections hides program) inputs ≡ program_outputs program inputs
selections_keep hides program order before truths inputs =
    let truth : SlotId → Bool = λ x. is_truth_slot program.slots x.0 in
    outputs_kept hides (kept_let program.slots) (Unit {0}) (λ n. Unit {0}) (Truths truth) (keeps_truth truth) (turn_laws hides program) program order before truths tt inputs
    (truths_at_start truth (world_at_start (length program.hosts) inputs))

pub turned_keeps : (hides : SlotId → Bool) (program : NormalForm) → SlotsInOrder program → SlotsMadeBefore program → HasBooleanGuards program → (inputs : List (List ℕ))
    → program_outputs (turned hides program) inputs ≡ program_outputs program inputs
turned_keeps hides program order before truths inputs = by (some_changed (rewritings hides (kept_let program.slots) program.slots program.body) && is_within (with_selections hides program))
  where
    by : (b : Bool) → program_outputs (if b then with_selections hides program else program) inputs ≡ program_outputs program inputs
    by true = selections_keep hides program order before truths inputs
    by false = refl

pub turning_keeps : (hides : SlotId → Bool) (program : NormalForm) → SlotsInOrder program → SlotsMadeBefore program → (inputs : List (List ℕ))
    → program_outputs (turned_where_boolean hides program) inputs ≡ program_outputs program inputs
turning_keeps hides program order before inputs = by (has_boolean_guards program) refl
  where
    by : (b : Bool) → has_boolean_guards program ≡ b → program_outputs (if b then turned hides program else program) inputs ≡ program_outputs program inputs
    by true e = turned_keeps hides program order before e inputs
    by false e = refl
