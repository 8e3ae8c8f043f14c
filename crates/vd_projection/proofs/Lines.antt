-- What the splitter makes of the protocols of slots.
use Rattle.std.proofs.Common.{◌≡◌, ℕ, ◌+◌, IsTrue, List, [], ◌∷◌, ◌++◌, length, map, Result, Ok, Err, sym, ap, ap₂, subst, ◌∙◌, arith}
use Rattle.std.specs.Prelude.{IfOk}
use Rattle.std.proofs.lemmas.List.FromFn.{map-range_with_len_more}
use Rattle.std.specs.List.{range_with_len}
use Rattle.vd_base.specs.declared.protocols.Proto.{Proto}
use Rattle.vd_core.specs.declared.normal.NormalForm.{NormalForm}
use Rattle.vd_core.specs.Facts.{all_meet}
use Rattle.vd_execution.specs.declared.instructions.Instr.{Instr}
use Rattle.vd_execution.specs.declared.instructions.Line.{Line}
use Rattle.vd_execution.specs.Text.{flat, pick}
use Rattle.vd_split.specs.Offer.{AreServed, stmt_stands}
use Rattle.vd_split.specs.Places.{program_lines}
use Rattle.vd_backend_laws.specs.Given.{zero_deal}
use Rattle.vd_backend_laws.specs.Parts.{suite_calls}
use Rattle.vd_backend_laws.specs.Whole.{inputs_of}
use Rattle.vd_backend_laws.proofs.Front.{zero_deals_are_valid}
use Rattle.vd_backends.specs.Offered.{IsServed, offer_of}
use Rattle.vd_backends.proofs.Front.{programs_can_be_split}
use Rattle.vd_projection.specs.Programs.{CanRunAt, joint_of, host_codes}
use Rattle.vd_projection.proofs.HostCodes.{proto_over, runnable_over, program_can_run, no_words, picked_codes}

pub record IsServedAt (program : NormalForm) (hosts : ℕ) (protos : List Proto) : Type 0 where
  pub slots : AreServed (offer_of hosts) protos
  pub stands : IsTrue (all_meet (stmt_stands (offer_of hosts) protos) program.body)

module _ (program : NormalForm) (protocols : List Proto) where
  protocols_served : CanRunAt program protocols → IsServed program protocols
  protocols_served is =
      let zeros = zero_deals_are_valid (inputs_of []) no_words in
      let can = program_can_run program protocols is [] no_words (zero_deal (inputs_of [])) zeros.0 zeros.1 in
      programs_can_be_split program protocols
      (record {
        made = is.made;
        over = proto_over program protocols is.made (runnable_over program protocols is.made is.runnable);
        tape = zero_deal (inputs_of []);
        inputs = inputs_of [];
        valid = can.valid;
      })

  -- the same, by the number of hosts that the code has
  pub served : CanRunAt program protocols → (built : ℕ) → built ≡ length program.hosts → IsServedAt program built protocols
  served is built e =
      subst (λ (k : ℕ). IsServedAt program k protocols) (sym e) (let s = protocols_served is in record { slots = s.slots; stands = s.stands })

  pub lines_are : {E : Type 0} (n : ℕ) → n ≡ length program.hosts → (r : Result (List Line) E) → IfOk r (λ lines. lines ≡ program_lines (suite_calls n) protocols program)
      → IfOk r (λ lines. lines ≡ flat (joint_of program protocols) [])
  lines_are n e (Ok lines) is = is ∙ ap (λ (m : ℕ). program_lines (suite_calls m) protocols program) e
  lines_are n e (Err fault) is = tt

  pub codes_are : CanRunAt program protocols → (n : ℕ) (lines seen : List Line) (codes : List (List Instr))
      → n ≡ length program.hosts → lines ≡ flat (joint_of program protocols) [] → seen ≡ lines → codes ≡ map (λ h. pick h seen) (range_with_len 0 n) → codes ≡ host_codes program protocols
  codes_are is n lines seen codes e g s h =
      h
      ∙ ap (λ (l : List Line). map (λ k. pick k l) (range_with_len 0 n)) (s ∙ g)
      ∙ ap (λ (m : ℕ). map (λ k. pick k (flat (joint_of program protocols) [])) (range_with_len 0 m)) e
      ∙ picked_codes program protocols is

-- one more host
pub code_more : {X : Type 0} (f : ℕ → X) (n : ℕ) (items more : List X) (item : X) → items ≡ map f (range_with_len 0 n) → item ≡ f n → more ≡ items ++ item ∷ [] → more ≡ map f (range_with_len 0 (n + 1))
code_more f n items more item so_far is pushed = pushed ∙ ap₂ (λ front last. front ++ last ∷ []) so_far is ∙ sym (map-range_with_len_more f 0 n n (omega arith))
