-- All hosts over gadgets, as the theory of splitting asks for them.
use Rattle.std.specs.Prelude.{ℕ, nat_eq, ◌&&◌, if◌then◌else◌, List, [], ◌∷◌, drop}
use Rattle.vd_execution.specs.Registers.{Registers}
use Rattle.vd_execution.specs.Step.{Inputs}
use Rattle.vd_execution.specs.World.{Tape}
use Rattle.vd_execution.specs.Joint.{Part, Hosts}
use Rattle.vd_execution.specs.Acts.{run_acts, ActsAgree}
use Rattle.vd_execution.specs.Gadgets.{Gadget, acts_of_gadget, GadgetIsTidy, IsSound}
use Rattle.vd_duet.specs.Acting.{acts_in}
use Rattle.vd_split.specs.Joint.{Hosts as AnyHosts}

-- the registers that a host has in a list get the number of the turn
abbrev pub given_turn : List Part → ℕ → ℕ → Registers → Registers
given_turn [] turn h f r = f r
given_turn (p ∷ ps) turn h f r = if nat_eq h p.0 && nat_eq r p.1 then turn else given_turn ps turn h f r

-- the gadgets of all hosts with these items, and these inputs
abbrev pub machine : Tape → (ℕ → List ℕ) → AnyHosts
machine t inputs = record {
  Act = Gadget;
  World = Hosts;
  run = λ g w. run_acts t (acts_of_gadget g) w;
  word = λ w h r. (w h).registers r;
  printed = λ w h. (w h).printed;
  waiting = λ w h. drop ((w h).cursors Inputs) (inputs h);
  begun = λ ps turn w h. record (w h) { registers = given_turn ps turn h (w h).registers };
  Fine = λ g w. ActsAgree t (acts_of_gadget g) w × GadgetIsTidy g;
  IsTidy = GadgetIsTidy;
  Sound = IsSound;
  acts_at = λ g h. acts_in h g;
}
