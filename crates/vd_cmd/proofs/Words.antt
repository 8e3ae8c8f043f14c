-- Words that have no form by their number, and eight words as a list.
use Rattle.std.proofs.Common.{◌≡◌, ℕ, ◌<◌, ◌≤◌, List, [], ◌∷◌, length, get_or, Option, None, Err, refl, arith}
use Rattle.vd_cmd.specs.Commands.{Reads, fixed_form_of}
use Rattle.vd_cmd.specs.declared.command.Command.{Command}
use Rattle.vd_cmd.specs.declared.command.CommandFault.TheVariants.{Usage}

-- words without a form are refused
pub unformed : (form : Option Command) → form ≡ None → Reads form (Err Usage)
unformed form none = record { command = tt; limits = tt; usage = (λ e. none, λ e. refl) }

-- fewer than two words, and more than eight

pub none_of_few : (words : List (List ℕ)) → length words < 2 → fixed_form_of words ≡ None
none_of_few [] few = refl
none_of_few (w ∷ []) few = refl
none_of_few (w ∷ a ∷ words) few = absurd (omega arith)

pub none_of_many : (words : List (List ℕ)) → 9 ≤ length words → fixed_form_of words ≡ None
none_of_many (a ∷ b ∷ c ∷ d ∷ e ∷ f ∷ g ∷ h ∷ i ∷ words) many = refl
none_of_many words many = absurd (omega arith)

pub eight_are : (words : List (List ℕ)) (w h o m a p k x : List ℕ) → 8 ≤ length words → length words < 9
    → w ≡ get_or words 0 w → h ≡ get_or words 1 h → o ≡ get_or words 2 o → m ≡ get_or words 3 m → a ≡ get_or words 4 a → p ≡ get_or words 5 p → k ≡ get_or words 6 k → x ≡ get_or words 7 x
    → w ∷ h ∷ o ∷ m ∷ a ∷ p ∷ k ∷ x ∷ [] ≡ words
eight_are (w' ∷ h' ∷ o' ∷ m' ∷ a' ∷ p' ∷ k' ∷ x' ∷ []) w h o m a p k x least most ew eh eo em ea ep ek' ex = rw (← ew, ← eh, ← eo, ← em, ← ea, ← ep, ← ek', ← ex) refl
eight_are words w h o m a p k x least most ew eh eo em ea ep ek' ex = absurd (omega arith)
