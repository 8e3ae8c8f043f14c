-- The children of a spawner that tells each of them, where all hosts ended well.
use Rattle.std.specs.Prelude.{◌≡◌, ◌≤◌, ◌++◌, ◌∷◌, [], ℕ, IsTrue, List, length, map, drop, Option, Some}
use Rattle.vd_base.specs.Lexical.{number_of}
use Rattle.vd_outside.specs.Spawner.{SpawnerView, next_child}
use Rattle.vd_outside.specs.declared.child.Child.{Child}
use Rattle.vd_host_children.specs.Lines.{ended, listening, most_words}

-- it tells a child for each that it gave
pub record TellsEach (spawner : SpawnerView) : Type 0 where
  pub told : IsTrue spawner.told
  pub each : length spawner.children ≡ spawner.given

-- The child is a host that prints these words: its lines are `listening`, the words in decimal and `ended`, its status is 0.
pub record IsHost (words : List ℕ) (child : Child) : Type 0 where
  pub numbers : List (List ℕ)
  pub lines_are : child.lines ≡ listening ∷ (numbers ++ ended ∷ [])
  pub words_are : map number_of numbers ≡ map Some words
  pub few : length words ≤ most_words
  pub ends_well : child.status ≡ 0

-- the children are hosts that print these words, one after the other
abbrev pub AreHosts : List (List ℕ) → List Child → Type 0
AreHosts [] [] = Unit {0}
AreHosts [] (child ∷ children) = ⊥
AreHosts (words ∷ printed) [] = ⊥
AreHosts (words ∷ printed) (child ∷ children) = IsHost words child × AreHosts printed children

-- these children are the next that are started, one after the other, where these wait and this one comes behind them
abbrev pub AreNext : List Child → Option Child → List Child → Type 0
AreNext waiting otherwise [] = Unit {0}
AreNext waiting otherwise (child ∷ children) = (next_child waiting otherwise ≡ Some child) × AreNext (drop 1 waiting) otherwise children

-- A child was started for each host, and these are hosts that print these words.
pub record EachEnded (hosts : List (List (List ℕ))) (before : SpawnerView) (printed : List (List ℕ)) : Type 0 where
  pub children : List Child
  pub count : length children ≡ length hosts
  pub next : AreNext before.waiting before.otherwise children
  pub are_hosts : AreHosts printed children
