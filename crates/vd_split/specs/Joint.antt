-- What all hosts do together, as a plan of acts.
use Rattle.std.specs.Prelude.{◌≡◌, ℕ, ◌<◌, nat_eq, Bool, true, false, List, [], ◌∷◌, ◌⊎◌}
use Rattle.vd_execution.specs.Plans.{Plan, Ends, Then, Branch, Loop}
use Rattle.vd_semantics.specs.Turns.{turns}

-- What is needed of an act and of the state of all hosts. A register is named by its host and its number.
pub record Hosts : Type 1 where
  pub Act : Type 0
  pub World : Type 0
  -- what an act does
  pub run : Act → World → World
  -- the word in a register
  pub word : World → ℕ → ℕ → ℕ
  -- what a host has printed, and its inputs that are still to be taken
  pub printed : World → ℕ → List ℕ
  pub waiting : World → ℕ → List ℕ
  -- a turn of a loop begins: the registers get its number
  pub begun : List (ℕ × ℕ) → ℕ → World → World
  -- the act can be taken: the words that it compares are equal
  pub Fine : Act → World → Type 0
  -- the act is well formed, whatever the state
  pub IsTidy : Act → Type 0
  -- the deal is valid, and the two hosts of each pair stand at the same places in their lists
  pub Sound : World → Type 0
  -- the hosts that have an instruction of the act
  pub acts_at : Act → ℕ → Bool

-- acts, and then the rest
abbrev pub acts_then : {A : Type 0} → List A → Plan A → Plan A
acts_then [] j = j
acts_then (x ∷ xs) j = Then x (acts_then xs j)

-- one after the other
abbrev pub and_then : {A : Type 0} → Plan A → Plan A → Plan A
and_then Ends k = k
and_then (Then x r) k = Then x (and_then r k)
and_then (Branch ps t e r) k = Branch ps t e (and_then r k)
and_then (Loop ps n b r) k = Loop ps n b (and_then r k)

abbrev pub choice {ℓ} : {X : Type ℓ} → Bool → X → X → X
choice true x y = x
choice false x y = y

-- a register is in the list
abbrev pub IsIn : List (ℕ × ℕ) → ℕ → ℕ → Type 0
IsIn [] h r = ⊥
IsIn (p ∷ ps) h r = ((h ≡ p.0) × (r ≡ p.1)) ⊎ IsIn ps h r

abbrev pub Each : {X : Type 0} → (X → Type 0) → List X → Type 0
Each P [] = Unit {0}
Each P (x ∷ xs) = P x × Each P xs

module _ (m : Hosts) where
  abbrev pub run_acts : List m.Act → m.World → m.World
  run_acts [] w = w
  run_acts (x ∷ xs) w = run_acts xs (m.run x w)

  -- the first host that takes part decides; where none does, nothing is done
  abbrev pub branch {ℓ} : {X : Type ℓ} → List (ℕ × ℕ) → m.World → X → X → X → X
  branch [] w none t e = none
  branch (p ∷ ps) w none t e = choice (nat_eq (m.word w p.0 p.1) 0) e t

  -- the joint run
  abbrev pub joint : Plan m.Act → m.World → m.World
  joint Ends w = w
  joint (Then x r) w = joint r (m.run x w)
  joint (Branch ps t e r) w = joint r (branch ps w w (joint t w) (joint e w))
  joint (Loop ps n b r) w = joint r (turns n (λ i v. joint b (m.begun ps i v)) w)

  abbrev pub AllFine : List m.Act → m.World → Type 0
  AllFine [] w = Unit {0}
  AllFine (x ∷ xs) w = m.Fine x w × AllFine xs (m.run x w)

  -- all hosts that take part go the same way
  abbrev pub Alike : List (ℕ × ℕ) → m.World → Type 0
  Alike ps w = (b : Bool) × Each (λ q. nat_eq (m.word w q.0 q.1) 0 ≡ b) ps

  -- along the joint run no comparison fails, and the hosts that take part in a branch go the same way
  abbrev pub Goes : Plan m.Act → m.World → Type 0
  Goes Ends w = Unit {0}
  Goes (Then x r) w = m.Fine x w × Goes r (m.run x w)
  Goes (Branch ps t e r) w = Alike ps w × branch ps w (Unit {0}) (Goes t w) (Goes e w) × Goes r (branch ps w w (joint t w) (joint e w))
  Goes (Loop ps n b r) w =
      ((i : ℕ) → i < n → Goes b (m.begun ps i (turns i (λ k v. joint b (m.begun ps k v)) w)))
      × Goes r (turns n (λ k v. joint b (m.begun ps k v)) w)
