-- Operations that a back end serves.
use Rattle.std.specs.Prelude.{◌≡◌, IsTrue}
use Rattle.vd_base.specs.Arity.{arity}
use Rattle.vd_base.specs.declared.operations.Op.{Op}
use Rattle.vd_duet.specs.Calls.{Calls}

-- the back end serves the operation, which takes two operands
pub record ServesOfTwo (c : Calls) (op : Op) : Type 0 where
  pub serves : IsTrue (c.serves op)
  pub two : arity op ≡ 2
