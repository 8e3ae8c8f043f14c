-- The promises of the labels and of the deal together: whatever hosts see that look together could have come from any inputs that agree
-- on what each of them may read, and on what is declassified to each.
use Rattle.std.specs.Prelude.{◌≡◌, ℕ, ◌<◌, ◌^◌, Bool, List}
use Rattle.vd_base.specs.declared.protocols.Proto.{Proto}
use Rattle.vd_core.specs.declared.normal.NormalForm.{NormalForm}
use Rattle.vd_core.specs.Facts.{IsWellMade}
use Rattle.vd_constraints.specs.Satisfies.{Satisfies}
use Rattle.vd_constraints.specs.Rules.{system_of}
use Rattle.vd_constraints.specs.declared.labels.Labels.{Labels}
use Rattle.vd_execution.specs.World.{Tape}
use Rattle.vd_noninter.specs.Reading.{declassified_words, SameInputs}
use Rattle.vd_views.specs.Views.{Coalition, IsIn}
use Rattle.vd_views.specs.Contract.{IsExplained}
use Rattle.vd_noninter_protocols.specs.Told.{IsDealt}
use Rattle.vd_views.specs.Explained.{IsOpen, IsCoalition, plan_of, input_words, AgreeFor}

-- other inputs of words: each host of the coalition has the same, and so have the hosts that it knows, and the words of the
-- declassifications to it are the same
pub record AgreeOn (p : NormalForm) (K : Coalition) (released : ℕ → ℕ → ℕ → Bool) (known : ℕ → ℕ → Bool) (first second : List (List ℕ)) : Type 0 where
  pub words : (g i : ℕ) → input_words second g i < 2 ^ 32
  pub own : (h : ℕ) → IsIn K h → (i : ℕ) → input_words first h i ≡ input_words second h i
  pub same : (h : ℕ) → IsIn K h → SameInputs (known h) first second
  pub declassified : (h : ℕ) → IsIn K h → declassified_words p (released h) first ≡ declassified_words p (released h) second

-- whatever valid assignment is taken in which no host outside is bound to one of the coalition, and whatever was dealt: the second
-- inputs are explained to the coalition
abbrev pub ExplainsOthers : NormalForm → Labels → (ℕ → ℕ → ℕ → Bool) → (ℕ → ℕ → Bool) → Type 0
ExplainsOthers p l released known =
    (protocols : List Proto) (K : Coalition) → IsOpen p l protocols K → IsCoalition p K → (first second : List (List ℕ)) (t : Tape) → IsDealt first t → AgreeOn p K released known first second
    → AgreeFor p l protocols K first second × IsExplained K (plan_of p protocols) t (input_words second)

-- of each program whose labels keep the rules
abbrev pub OfEachProgram : (NormalForm → Labels → Type 0) → Type 0
OfEachProgram P = (p : NormalForm) (l : Labels) → IsWellMade p → Satisfies (system_of p) l → P p l
