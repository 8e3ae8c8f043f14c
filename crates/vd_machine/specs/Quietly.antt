-- Steps that wait for nothing and that nobody sees.
use Rattle.std.specs.Prelude.{◌≡◌, ℕ, zero, suc, ◌+◌, ◌<◌, ◌++◌, ◌∷◌, length, [], List, Bool, true, false, All}
use Rattle.vd_execution.specs.declared.instructions.Action.{Action}
use Rattle.vd_execution.specs.declared.instructions.Action.TheVariants as action
use Rattle.vd_execution.specs.Registers.{Registers, put}
use Rattle.vd_execution.specs.Step.{State, Cursors, Need, Deed, Quiet, need, deed, next, need_of_action, word_printed, deed_of_print, advanced}
use Rattle.vd_machine.specs.declared.frames.Frame.{Frame}
use Rattle.vd_machine.specs.declared.frames.Frame.TheVariants.{Run, Loop}
use Rattle.vd_machine.specs.declared.frames.LoopFrame.{LoopFrame}
use Rattle.vd_machine.specs.declared.lists.Lists.{Lists}
use Rattle.vd_machine.specs.declared.lists.Taken.{Taken}
use Rattle.vd_machine.specs.declared.ops.Op.{Op}
use Rattle.vd_machine.specs.declared.ops.Op.TheVariants.{Plain as One}
use Rattle.vd_machine.specs.declared.ops.Plain.TheVariants as plain
use Rattle.vd_machine.specs.declared.want.Want.TheVariants as want
use Rattle.vd_machine.specs.Machines.{cursors_of, words_for, SamePeers}
use Rattle.vd_machine.specs.Wants.{want_of}
use Rattle.vd_machine.specs.Kept.{Kept, state_of, action_after, FrameFits, HasRoom, loop_of}

-- what is needed is there, and nobody sees what is done
pub record IsQuietAt (l : Lists) (c : Cursors) (n : Need) (d : Deed) : Type 0 where
  pub wants : want_of l c n ≡ want.Nothing
  pub unseen : d ≡ Quiet

-- the next step waits for nothing, and nobody sees it
abbrev pub IsQuiet : Lists → State → Type 0
IsQuiet l s = IsQuietAt l s.cursors (need s) (deed s)

-- so many quiet steps lead from one state to another
abbrev pub QuietSteps : Lists → ℕ → State → State → Type 0
QuietSteps l zero s t = t ≡ s
QuietSteps l (suc n) s t = IsQuiet l s × QuietSteps l n (next s (words_for l s.cursors [] (need s))) t

-- some quiet steps do, or none
abbrev pub Quietly : Lists → State → State → Type 0
Quietly l s t = (n : ℕ) × QuietSteps l n s t

abbrev pub is_print : Action → Bool
is_print (action.Print r) = true
is_print a = false

-- a quiet action was done: on the registers, and on what was taken
pub record ActsQuietly (l : Lists) (f g : Registers) (t u : Taken) (a : Action) : Type 0 where
  pub quiet : IsQuietAt l (cursors_of t) (need_of_action f a) (deed_of_print (word_printed f a))
  pub value : g ≡ action_after f l t a
  pub cursors : cursors_of u ≡ advanced (cursors_of t) (need_of_action f a)

-- the same of an instruction
pub record OpActsQuietly (l : Lists) (f g : Registers) (t u : Taken) (i : Op) : Type 0 where
  pub what : Action
  pub is : i ≡ One (plain.Do what)
  pub acts : ActsQuietly l f g t u what

abbrev pub kept_as : List Op → Frame → List Frame → List ℕ → Lists → Taken → Kept
kept_as code top below registers lists taken = record { code = code; top = top; below = below; registers = registers; lists = lists; taken = taken }

-- a machine whose frames are parts of its code, of which the top one may be over
pub record IsFitting (m : Kept) : Type 0 where
  pub top : FrameFits (length m.registers) m.code m.top
  pub below : All (λ f. FrameFits (length m.registers) m.code f) m.below
  pub peers : SamePeers m.lists m.taken

-- quiet steps lead from one machine to another, which fits and needs no more room
pub record GoesOn (m k : Kept) : Type 0 where
  pub steps : Quietly m.lists (state_of m) (state_of k)
  pub fits : IsFitting k
  pub room : (n : ℕ) → HasRoom n m.code m.top m.below → HasRoom n k.code k.top k.below

-- the counter of a loop is one of so many registers
abbrev pub CounterFits : ℕ → Frame → Type 0
CounterFits n (Run from to) = Unit {0}
CounterFits n (Loop x turn k from mid to) = x < n

-- the loop on top of the frames below goes on with its next turn, in its place
pub record TurnsInPlace (below below' : List Frame) (top' : Frame) (f g : Registers) : Type 0 where
  pub turning : LoopFrame
  pub front : List Frame
  pub more : turning.turn < turning.turns
  pub was : below ≡ front ++ loop_of turning turning.turn ∷ []
  pub is : below' ≡ front ++ loop_of turning (turning.turn + 1) ∷ []
  pub top : top' ≡ Run turning.from turning.mid
  pub counter : g ≡ put f turning.register turning.turn
