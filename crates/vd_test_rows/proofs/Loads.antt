-- The code made by hand can be loaded.
use Rattle.std.proofs.Common.{ℕ, zero, suc, ◌<◌, [], ◌∷◌, refl, arith}
use Rattle.std.specs.Prelude.{All}
use Rattle.vd_execution.specs.declared.instructions.Reg.{Reg}
use Rattle.vd_execution.specs.declared.instructions.Binary.TheVariants as binary
use Rattle.vd_execution.specs.declared.instructions.Action.TheVariants as action
use Rattle.vd_execution.specs.Code.{Code, Finished, Then, Send, Recv, Repeat}
use Rattle.vd_execution.specs.Text.{register}
use Rattle.vd_test_rows.specs.Codes.{counting, speaker, listener, CanLoad}

abbrev turn : Code
turn =
    Then (action.Apply binary.Mul (register 1) (register 1) (register 2))
    (Then (action.Apply binary.Add (register 1) (register 1) (register 0))
    (Then (action.Shr (register 3) (register 1) 13)
    (Then (action.Apply binary.Xor (register 1) (register 1) (register 3)) Finished)))

pub counting_loads : (turns : ℕ) → CanLoad (counting turns)
counting_loads turns = (
  Then (action.Const (register 2) 1664525) (Repeat 0 0 turns turn (Then (action.Print (register 1)) Finished)),
  refl,
  record {
    registers = (omega arith, (omega arith, (((omega arith, omega arith, omega arith), ((omega arith, omega arith, omega arith), ((omega arith, omega arith), ((omega arith, omega arith, omega arith), tt)))), (omega arith, tt))));
    packets = (tt, tt);
    blocks = omega arith;
  },
)

one_small : All (λ (r : Reg). r.0 < 2097152) (register 0 ∷ [])
one_small zero d h = omega arith
one_small (suc k) d h = absurd (omega (arith, h))

pub speaker_loads : (turns : ℕ) → CanLoad (speaker turns)
speaker_loads turns = (
  Repeat 0 0 turns (Send 1 (register 0 ∷ []) Finished) Finished,
  refl,
  record {
    registers = (omega arith, ((one_small, tt), tt));
    packets = (((omega arith, omega arith), tt), tt);
    blocks = omega arith;
  },
)

pub listener_loads : (turns : ℕ) → CanLoad (listener turns)
listener_loads turns = (
  Repeat 1 0 turns (Recv 0 (register 0 ∷ []) (Then (action.Apply binary.Add (register 2) (register 2) (register 0)) Finished))
      (Then (action.Print (register 2)) Finished),
  refl,
  record {
    registers = (omega arith, ((one_small, ((omega arith, omega arith, omega arith), tt)), (omega arith, tt)));
    packets = (((omega arith, omega arith), tt), tt);
    blocks = omega arith;
  },
)
