use Rattle.std.proofs.Common.{◌≡◌, ◌++◌, take, length, flat_map}
use Rattle.vd_base_codec.specs.Reading.{field}
use Rattle.vd_tape.proofs.writing.push_list.Given as goal

abbrev pub invariant-loop-item : goal.invariant-loop-item
invariant-loop-item g l = l.text ≡ l.fn.text ++ (field (length l.items) ++ flat_map g.T.Item.text (take l.item-index l.items))
