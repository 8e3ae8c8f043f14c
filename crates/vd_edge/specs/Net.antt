-- What a net over sockets tells as a net.
use Rattle.std.specs.Prelude.{ℕ, false, [], Option, None}
use Rattle.vd_outside.specs.Net.{NetView}

-- how many listeners it gave, how long it waits and how often it has failed, and neither its links nor its calls
abbrev pub net_view : (given : ℕ) → (limit : Option ℕ) → (faults : ℕ) → NetView
net_view given limit faults = record {
  told = false;
  given = given;
  limit = limit;
  listeners = [];
  waiting = [];
  otherwise = None;
  links = 0;
  back = [];
  asked = [];
  faults = faults;
}
