-- The first item of two hosts that breaks its identity.
use Rattle.std.specs.Prelude.{◌≡◌, ◌≢◌, ◌⊎◌, ℕ, ◌<◌}
use Rattle.vd_tape.specs.declared.deal_items.deal.Deal.{Deal}
use Rattle.vd_tape.specs.declared.deal_items.deal.DealKind.{DealKind}
use Rattle.vd_tape.specs.declared.deal_items.deal.BadItem.{BadItem}
use Rattle.vd_tape.specs.Validity.{Meets, sides, rank}

-- of one kind
pub record IsFirstBroken (p q : Deal) (kind : DealKind) (bad : BadItem) : Type 0 where
  pub kind_is : bad.kind ≡ kind
  pub first_is : bad.first ≡ p.me
  pub second_is : bad.second ≡ q.me
  pub sides_are : sides p q kind bad.index ≡ (bad.left, bad.right)
  pub differ : bad.left ≢ bad.right
  pub earlier : (i : ℕ) → i < bad.index → Meets p q kind i

-- of all kinds
pub record IsFirstOfTwo (p q : Deal) (bad : BadItem) : Type 0 where
  pub first_is : bad.first ≡ p.me
  pub second_is : bad.second ≡ q.me
  pub sides_are : sides p q bad.kind bad.index ≡ (bad.left, bad.right)
  pub differ : bad.left ≢ bad.right
  pub earlier : (kind : DealKind) (i : ℕ) → (rank kind < rank bad.kind) ⊎ ((rank kind ≡ rank bad.kind) × (i < bad.index)) → Meets p q kind i
