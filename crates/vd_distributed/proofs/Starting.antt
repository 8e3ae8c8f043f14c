-- Each host at its start.
use Rattle.std.proofs.Common.{◌≡◌, ◌<◌, ℕ, zero, suc, List, [], ◌∷◌, map, Option, Some, None, slice_index, slice_index_or, refl, sym, ap, ◌∙◌, arith}
use Rattle.std.specs.List.{range_with_len}
use Rattle.vd_execution.specs.declared.instructions.Action.TheVariants as action
use Rattle.vd_execution.specs.Code.{Code, Finished, Then, Send, Recv}
use Rattle.vd_execution.specs.Joint.{Joint, code_of}
use Rattle.vd_execution.specs.Step.{Source, Inputs, OwnWords, Triples, BitTriples, Pairs}
use Rattle.vd_execution.specs.Text.{IsCodeOf, Reading, read, text}
use Rattle.vd_machine.specs.Kept.{at_start, state_of}
use Rattle.vd_machine.specs.Machines.{cursors_of, held}
use Rattle.vd_projection.specs.Stored.{stored_program}
use Rattle.vd_host_session.specs.Starts.{Starts}
use Rattle.vd_backend_laws.specs.Whole.{inputs_of}
use Rattle.vd_distributed.specs.Running.{IsHastenedProgram, StartsAs}
use Rattle.vd_distributed.specs.Instance.{address, deal_of, deals, inputs, list, machine_a, machine_b, plan, register, run, run_a, run_b}
use Rattle.vd_distributed.proofs.Files.{no_word}
use Rattle.vd_distributed.proofs.Program.{joint, joint_is, program}

-- no register is set, and nothing is taken
unset : (j : ℕ) → slice_index (0 ∷ []) j ≡ 0
unset zero = refl
unset (suc j) = no_word j

untaken : (p : ℕ) → slice_index (0 ∷ 0 ∷ []) p ≡ 0
untaken zero = refl
untaken (suc zero) = refl
untaken (suc (suc p)) = no_word p

no_cursor : (s : Source) → cursors_of machine_a.taken s ≡ 0
no_cursor Inputs = refl
no_cursor OwnWords = refl
no_cursor (Triples p) = untaken p
no_cursor (BitTriples p) = untaken p
no_cursor (Pairs p) = untaken p

-- ---- the codes

abbrev tree_a : Code
tree_a = Then (action.Input register) (Send 1 (register ∷ []) Finished)

abbrev tree_b : Code
tree_b = Recv 0 (register ∷ []) (Then (action.Print register) Finished)

abbrev tree_of : Option Reading → Code
tree_of None = Finished
tree_of (Some r) = r.code

read_a : read (stored_program program list plan 0).code ≡ Some (record { code = tree_a; blocks = [] })
read_a = ap (λ (j : Joint). read (slice_index_or (map (λ h. text (code_of h j) []) (range_with_len 0 2)) 0 [])) joint_is

read_b : read (stored_program program list plan 1).code ≡ Some (record { code = tree_b; blocks = [] })
read_b = ap (λ (j : Joint). read (slice_index_or (map (λ h. text (code_of h j) []) (range_with_len 0 2)) 1 [])) joint_is

state_a : state_of machine_a ≡ at_start tree_a
state_a = λ i. record { pending = tree_a; registers = λ j. unset j i; cursors = λ s. no_cursor s i }

state_b : state_of machine_b ≡ at_start tree_b
state_b = λ i. record { pending = tree_b; registers = λ j. unset j i; cursors = λ s. no_cursor s i }

-- ---- the hosts

starts_a : Starts (stored_program program list plan 0) (inputs_of inputs 0) (deal_of 0) (address ∷ []) run_a.ready
starts_a = record {
  me = refl;
  plan = refl;
  addresses_are = refl;
  state = λ code is. state_a ∙ ap at_start (ap tree_of (sym read_a ∙ is));
  inputs_are = refl;
  deal_is = refl;
}

starts_b : Starts (stored_program program list plan 1) (inputs_of inputs 1) (deal_of 1) (address ∷ []) run_b.ready
starts_b = record {
  me = refl;
  plan = refl;
  addresses_are = refl;
  state = λ code is. state_b ∙ ap at_start (ap tree_of (sym read_b ∙ is));
  inputs_are = refl;
  deal_is = refl;
}

-- each runs the program as it is stored
as_stored : (h : ℕ) (c : Code) → IsCodeOf (stored_program program list plan h).code c → IsHastenedProgram (stored_program program list plan h) (stored_program program list plan h)
as_stored h c is = record { hosts = refl; me = refl; plan = refl; old_code = c; new_code = c; old_is = is; new_is = is; hastened = (0, refl) }

pub starts : (h : ℕ) → h < 2 → StartsAs program list plan inputs deals h (run h)
starts zero lt = record { addresses = address ∷ []; deal = deal_of 0; dealt = refl; peers = refl; host = stored_program program list plan 0; hastened = as_stored 0 tree_a read_a; starts = starts_a }
starts (suc zero) lt = record { addresses = address ∷ []; deal = deal_of 1; dealt = refl; peers = refl; host = stored_program program list plan 1; hastened = as_stored 1 tree_b read_b; starts = starts_b }
starts (suc (suc h)) lt = absurd (omega (arith, lt))
