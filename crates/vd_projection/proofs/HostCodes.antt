-- What holds of the code of the hosts.
use Rattle.std.proofs.Common.{◌≡◌, ℕ, zero, suc, ◌^◌, ◌<◌, ◌≤◌, List, [], ◌∷◌, inl, length, map, slice_index, slice_index_or, refl, sym, ap, ap₂, subst, ◌∙◌, arith}
use Rattle.std.specs.List.{All, range_with_len}
use Rattle.std.proofs.lemmas.List.Elements.{All-map}
use Rattle.vd_base.specs.declared.protocols.Proto.{Proto}
use Rattle.vd_base.specs.declared.protocols.Proto.TheVariants.{Local}
use Rattle.vd_base.specs.HostSets.{host}
use Rattle.vd_base.specs.Protocols.{protocols_of}
use Rattle.vd_base.specs.Holders.{proto_in}
use Rattle.vd_base.specs.Words.{InputsAreWords}
use Rattle.vd_core.specs.declared.normal.NormalForm.{NormalForm}
use Rattle.vd_core.specs.Facts.{IsWellMade}
use Rattle.vd_constraints.specs.declared.labels.Labels.{Labels}
use Rattle.vd_constraints.specs.Rules.{label}
use Rattle.vd_space.specs.Reading.{problem_of}
use Rattle.vd_space.specs.Validity.{protocol}
use Rattle.vd_execution.specs.declared.instructions.Instr.{Instr}
use Rattle.vd_execution.specs.Code.{Finished}
use Rattle.vd_execution.specs.Deals.{IsValidDeal}
use Rattle.vd_execution.specs.Joint.{IsTidy, code_of}
use Rattle.vd_execution.specs.Text.{text, flat, pick}
use Rattle.vd_execution.specs.World.{Tape, followed_by_zeros}
use Rattle.vd_execution.proofs.Front.{picks, read_back, unbegun}
use Rattle.vd_backend_laws.specs.Suite.{IsOver, AreGiven}
use Rattle.vd_backend_laws.specs.Given.{zero_deal}
use Rattle.vd_backend_laws.specs.Whole.{inputs_of, CanRun}
use Rattle.vd_backend_laws.proofs.Front.{listed_protocols_are_over, zero_deals_are_valid, code_tells_the_same, code_runs_well}
use Rattle.vd_projection.specs.Assignments.{IsValidFor}
use Rattle.vd_projection.proofs.Chosen.{can_run}
use Rattle.vd_projection.proofs.Programs.{code_is_in_range}
use Rattle.vd_projection.specs.Programs.{IsRunnable, CanRunAt, AreOver, joint_of, host_codes, CodesCanBeLoaded, CodesRunAsTold, CodesRunWell}

or_default : {X : Type 0} (P : X → Type 0) (xs : List X) (d : X) → All P xs → P d → (k : ℕ) → P (slice_index_or xs k d)
or_default P [] d a z k = z
or_default P (x ∷ xs) d a z zero = a 0 d (omega arith)
or_default P (x ∷ xs) d a z (suc k) = or_default P xs d (λ j e lt. a (suc j) e (omega (arith, lt))) z k

length_map : {X Y : Type 0} (f : X → Y) (xs : List X) → length (map f xs) ≡ length xs
length_map f [] = refl
length_map f (x ∷ xs) = ap suc (length_map f xs)

-- the first host alone
first_over : (program : NormalForm) → IsWellMade program → IsOver (length program.hosts) (Local (host 0))
first_over program made = record { some = (0, inl refl); known = (made.limits.some_host, tt); ordered = refl }

-- the protocol of each slot is over the hosts of the program
pub proto_over : (program : NormalForm) (protocols : List Proto) → IsWellMade program → AreOver program protocols → (x : ℕ) → IsOver (length program.hosts) (proto_in protocols x)
proto_over program protocols made over x = or_default (IsOver (length program.hosts)) protocols (Local (host 0)) over (first_over program made) x

-- the problem of a program is over its hosts
hosts_are : (program : NormalForm) (labels : Labels) → IsWellMade program → length (problem_of program labels).hosts ≡ length program.hosts
hosts_are program labels made = length_map (label program) program.labels ∙ made.labels

place_over : (program : NormalForm) (labels : Labels) → IsWellMade program → (p : ℕ) → IsOver (length program.hosts) (protocol (problem_of program labels) p)
place_over program labels made p =
    subst (λ (n : ℕ). IsOver (length program.hosts) (slice_index_or (protocols_of n) p (Local (host 0)))) (sym (hosts_are program labels made))
    (or_default (IsOver (length program.hosts)) (protocols_of (length program.hosts)) (Local (host 0)) (listed_protocols_are_over (length program.hosts) made.limits.hosts) (first_over program made) p)

-- so are the protocols of a valid assignment
pub runnable_over : (program : NormalForm) (protocols : List Proto) → IsWellMade program → IsRunnable program protocols → AreOver program protocols
runnable_over program protocols made is =
    let f : ℕ → Proto = protocol (problem_of program is.labels) in
    subst (All (IsOver (length program.hosts))) (sym is.assignment.named)
    (All-map (IsOver (length program.hosts)) f is.assignment.places (λ k d lt. place_over program is.labels made (slice_index_or is.assignment.places k d)))

pub no_words : (h i : ℕ) → slice_index (inputs_of [] h) i < 2 ^ 32
no_words h i = omega arith

-- so it is valid at those labels
pub valid_for : (program : NormalForm) (protocols : List Proto) → (can : CanRunAt program protocols) → IsValidFor program can.runnable.labels protocols
valid_for program protocols can = record { made = can.made; numbers = can.numbers; assignment = can.runnable.assignment }

module _ (program : NormalForm) (protocols : List Proto) (can : CanRunAt program protocols) where
  pub program_can_run : (inputs : List (List ℕ)) → InputsAreWords inputs → (t : Tape) → IsValidDeal t → AreGiven (inputs_of inputs) t → CanRun program (proto_in protocols) inputs t
  program_can_run inputs words t deal given = can_run program can.runnable.labels protocols (valid_for program protocols can) inputs words t deal given

  pub joint_is_tidy : IsTidy (joint_of program protocols)
  joint_is_tidy =
      let zeros = zero_deals_are_valid (inputs_of []) no_words in
      (code_tells_the_same program (proto_in protocols) [] (zero_deal (inputs_of [])) (program_can_run [] no_words (zero_deal (inputs_of [])) zeros.0 zeros.1)).tidy

  -- the code of each host is its part of the lines
  pub picked_codes : map (λ h. pick h (flat (joint_of program protocols) [])) (range_with_len 0 (length program.hosts)) ≡ host_codes program protocols
  picked_codes = at (range_with_len 0 (length program.hosts))
    where
      at : (hs : List ℕ) → map (λ h. pick h (flat (joint_of program protocols) [])) hs ≡ map (λ h. text (code_of h (joint_of program protocols)) []) hs
      at [] = refl
      at (h ∷ hs) = ap₂ (λ (c : List Instr) (cs : List (List Instr)). c ∷ cs) (picks h (joint_of program protocols) joint_is_tidy []) (at hs)

pub codes_can_be_loaded : CodesCanBeLoaded
codes_can_be_loaded program protocols made over h = record {
  nested = read_back (code_of h (joint_of program protocols)) (unbegun h (joint_of program protocols));
  in_range = code_is_in_range program (proto_in protocols) made (proto_over program protocols made over) h;
}

pub codes_run_as_told : CodesRunAsTold
codes_run_as_told program protocols can inputs words t deal given =
    code_tells_the_same program (proto_in protocols) inputs t (program_can_run program protocols can inputs words t deal given)

pub codes_run_well : CodesRunWell
codes_run_well program protocols can inputs words s deal given =
    code_runs_well program (proto_in protocols) inputs s (program_can_run program protocols can inputs words (followed_by_zeros s) deal given)

-- a host that is not declared has no code
pub ended_past : (program : NormalForm) (protocols : List Proto) → CanRunAt program protocols → (h : ℕ) → length program.hosts ≤ h → code_of h (joint_of program protocols) ≡ Finished
ended_past program protocols can h le =
    let zeros = zero_deals_are_valid (inputs_of []) no_words in
    (codes_run_as_told program protocols can [] no_words (zero_deal (inputs_of [])) zeros.0 zeros.1).hosts h le
