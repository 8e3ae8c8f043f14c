-- Which words a drawing shows a host, and which clear words come to it.
use Rattle.std.specs.Prelude.{◌≡◌, ℕ, ◌<◌, ◌^◌, Bool, true, false, ◌&&◌, Some, List, slice_get}
use Rattle.vd_base.specs.declared.ids.HostId.{HostId}
use Rattle.vd_base.specs.declared.ids.SlotId.{SlotId}
use Rattle.vd_base.specs.declared.protocols.Proto.{Proto}
use Rattle.vd_base.specs.declared.protocols.Proto.TheVariants.{Local, Rep}
use Rattle.vd_base.specs.HostSets.{same_host}
use Rattle.vd_base.specs.Moves.{move_at}
use Rattle.vd_noninter_protocols.specs.Hearing.{comes, comes_alone}
use Rattle.vd_noninter_protocols.specs.Learning.{is_new}
use Rattle.vd_draw_rows.specs.declared.row.Arrow.{Arrow}
use Rattle.vd_draw_rows.specs.declared.row.Arrow.TheVariants.{Clear, Checked, Opened, Revealed}
use Rattle.vd_draw_rows.specs.Moves.{arrow_of, is_seen, is_told}

-- by these arrows a host gets a word in clear: the word itself, or from each copy, or its parts, or what was committed
abbrev pub brings : Arrow → Bool
brings Clear = true
brings Checked = true
brings Opened = true
brings Revealed = true
brings other = false

-- an arrow ends at the lane of the host: at each that is told the word, where it goes to copies
abbrev pub ends_at : HostId → Proto → Proto → Bool
ends_at h from (Local k) = same_host k h
ends_at h from (Rep set) = is_told h from (Rep set)
ends_at h from to = false

-- the move is drawn, and its arrow brings the host the word in clear
abbrev pub shows : HostId → Proto → Proto → Bool
shows h from to = ends_at h from to && (is_seen from to && brings (arrow_of from to))

-- copies are at hosts with numbers below 8
abbrev pub IsSmall : Proto → Type 0
IsSmall (Rep set) = set.bits < 2 ^ 8
IsSmall other = Unit {0}

abbrev pub ArrowsShow : Type 0
ArrowsShow = (from to : Proto) (cost : ℕ) → move_at from to ≡ Some cost → IsSmall from → (h : HostId) → h.0 < 8 → shows h from to ≡ is_told h from to

-- that a word is new which is moved from the one slot to the other, and one that is moved to the host alone
pub record ComeAsTold (protocols : List Proto) (h : HostId) (from onto : SlotId) (p q : Proto) : Type 0 where
  pub moved : is_new protocols h (comes protocols h from onto) from ≡ is_told h p q
  pub alone : is_new protocols h (comes_alone protocols h from) from ≡ is_told h p (Local h)

abbrev pub ToldWordsCome : Type 0
ToldWordsCome = (protocols : List Proto) (h : HostId) (from onto : SlotId) (p q : Proto)
    → slice_get protocols from.0 ≡ Some p → slice_get protocols onto.0 ≡ Some q → ComeAsTold protocols h from onto p q
