-- What a stream in both directions tells, and what each call changes of it.
use Rattle.std.specs.Prelude.{◌≡◌, ◌≤◌, ◌<◌, ℕ, Bool, IsTrue, List, [], ◌++◌, length, take, Result, IfOk, OnErr}
use Rattle.vd_outside.specs.Link.{LinkView}

-- the bytes that it took and those still to come, if it tells them
pub record DuplexView : Type 0 where
  pub told : Bool
  pub sent : List ℕ
  pub coming : List ℕ

-- One that tells its bytes after a call told them before it. A call that failed took nothing.
pub record Takes {E : Type 0} (bytes : List ℕ) (before now : DuplexView) (result : Result ℕ E) : Type 0 where
  pub within : IfOk result (λ count. count ≤ length bytes)
  pub was_told : IsTrue now.told → IsTrue before.told
  pub coming : IsTrue now.told → now.coming ≡ before.coming
  pub sent : IsTrue now.told → IfOk result (λ count. now.sent ≡ before.sent ++ take count bytes)
  pub nothing : IsTrue now.told → OnErr result (now.sent ≡ before.sent)

-- `into` is what the piece holds afterwards. No bytes come only at the end. A call that failed gave nothing.
pub record Gives {E : Type 0} (into : List ℕ) (before now : DuplexView) (result : Result ℕ E) : Type 0 where
  pub within : IfOk result (λ count. count ≤ length into)
  pub still_told : now.told ≡ before.told
  pub sent : IsTrue now.told → now.sent ≡ before.sent
  pub coming : IsTrue now.told → IfOk result (λ count. before.coming ≡ take count into ++ now.coming)
  pub all_came : IsTrue now.told → 0 < length into → IfOk result (λ count. count ≡ 0 → before.coming ≡ [])
  pub nothing : IsTrue now.told → OnErr result (now.coming ≡ before.coming)

-- a link over such a stream tells what it tells, whether it has told its end, and how often it has failed
abbrev pub link_view : DuplexView → Bool → ℕ → LinkView
link_view stream ended faults =
    record { told = stream.told; coming = stream.coming; sent = stream.sent; ended = ended; faults = faults }
