-- Whether what came so far of a stream is the greeting that is awaited.
use Rattle.std.specs.Prelude.{ℕ, Bool, true, false, nat_eq, nat_lt, List, length, Option, None, Some, if◌then◌else◌}
use Rattle.std.specs.List.{starts_with}

-- none so far where it is a prefix of the greeting
abbrev pub is_greeting : (came greeting : List ℕ) → Option Bool
is_greeting came greeting =
    if starts_with nat_eq greeting came then (if nat_lt (length came) (length greeting) then None else Some true) else Some false
