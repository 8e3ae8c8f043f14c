-- What is asked of a spawner that tells its calls, in order.
use Rattle.std.specs.Prelude.{◌≡◌, ◌+◌, ◌++◌, ◌∷◌, [], ℕ, suc, List, length, replicate, take, Result, Ok, Err}
use Rattle.vd_outside.specs.Spawner.{SpawnerView}
use Rattle.vd_outside.specs.declared.spawner.SpawnerCall.{SpawnerCall}
use Rattle.vd_outside.specs.declared.spawner.SpawnerCall.TheVariants as call
use Rattle.vd_host_children.specs.declared.fault.ChildrenFault.{ChildrenFault}

-- hosts with these words are started, the first as this child, and the first line of each is read before the next
abbrev pub start_calls : List ℕ → ℕ → List (List (List ℕ)) → List SpawnerCall
start_calls program child [] = []
start_calls program child (words ∷ hosts) = call.Start program words ∷ call.Line child ∷ start_calls program (suc child) hosts

-- so many lines of a child are read, the end of its output among them, and it is finished
abbrev pub end_calls : ℕ → ℕ → List SpawnerCall
end_calls child lines = replicate lines (call.Line child) ++ call.Finish child ∷ []

-- the children that printed these words are read to their ends: the words of each, `ended` and the end of the output
abbrev pub read_calls : ℕ → List (List ℕ) → List SpawnerCall
read_calls child [] = []
read_calls child (words ∷ printed) = end_calls child (length words + 2) ++ read_calls (suc child) printed

-- all hosts are started, and then the children that printed these words are read
abbrev pub run_calls : List ℕ → ℕ → List (List (List ℕ)) → List (List ℕ) → List SpawnerCall
run_calls program child hosts printed = start_calls program child hosts ++ read_calls child printed

-- these calls are the first of those
pub record IsFront (calls all : List SpawnerCall) : Type 0 where
  pub rest : List SpawnerCall
  pub all_are : all ≡ calls ++ rest

-- A run that stops at the start of a host may finish its child, and one that stops at the lines of a child too. Nothing
-- comes after that.
pub data StopsIn (program : List ℕ) (child : ℕ) (hosts : List (List (List ℕ))) (calls : List SpawnerCall) : Type 0 where
  InStart : (place : ℕ) → IsFront calls (start_calls program child (take (suc place) hosts) ++ call.Finish (child + place) ∷ []) → StopsIn program child hosts calls
  InRead : (printed : List (List ℕ)) (lines : ℕ) → IsFront calls (run_calls program child hosts printed ++ end_calls (child + length printed) lines)
      → StopsIn program child hosts calls

-- a run that stops asked for these calls
pub record AsksFront (program : List ℕ) (hosts : List (List (List ℕ))) (before now : SpawnerView) : Type 0 where
  pub calls : List SpawnerCall
  pub asked : now.asked ≡ before.asked ++ calls
  pub stops : StopsIn program before.given hosts calls

-- With Ok the list is whole, and else it is a prefix.
abbrev pub Asks : List ℕ → List (List (List ℕ)) → SpawnerView → SpawnerView → Result (List (List ℕ)) ChildrenFault → Type 0
Asks program hosts before now (Ok printed) = now.asked ≡ before.asked ++ run_calls program before.given hosts printed
Asks program hosts before now (Err cause) = AsksFront program hosts before now
