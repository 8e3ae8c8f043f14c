-- The moves of a word: what code goes on with, as the calls of the suite have it.
use Rattle.vd_base.specs.declared.ids.HostId.{HostId}
use Rattle.vd_base.specs.declared.protocols.HostSet.{HostSet}
use Rattle.vd_base.specs.declared.protocols.Proto.{Proto}
use Rattle.vd_base.specs.declared.protocols.Proto.TheVariants.{Rep}
use Rattle.vd_base.specs.Holders.{holders}
use Rattle.vd_duet.specs.Builder.{Builder}
use Rattle.vd_duet.specs.Calls.{Calls, Makes, Places}
use Rattle.vd_duet.specs.Laws.{at_host}
use Rattle.vd_backend_laws.specs.Moves.{moved, shown_each}
use Rattle.vd_backend_laws.specs.Parts.{back_end, route}

-- code goes on with the move of a word from one protocol to another, which gives this
abbrev pub Brings : Proto → Proto → Places → Builder → Places → Builder → Type 0
Brings from onto x b y b' = Makes (moved (route from onto) (back_end from) (back_end onto) x) b y b'

-- with its move to one host
abbrev pub Shows : Calls → HostId → Places → Builder → Places → Builder → Type 0
Shows calls at x b y b' = Makes (λ next. at_host at (calls.show x at next)) b y b'

-- with its move to copies at the hosts of a set
abbrev pub Opens : Calls → HostSet → Places → Builder → Places → Builder → Type 0
Opens calls set x b y b' = Makes (λ next. shown_each (holders (Rep set)) (calls.show_all x next)) b y b'
