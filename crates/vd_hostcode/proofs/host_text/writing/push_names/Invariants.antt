use Rattle.std.proofs.Common.{◌≡◌, ◌++◌, take, flat_map}
use Rattle.std.specs.Prelude.{codes}
use Rattle.vd_hostcode.specs.Text.{name_field}
use Rattle.vd_hostcode.proofs.host_text.writing.push_names.Given as goal

abbrev pub invariant-loop-name : goal.invariant-loop-name
invariant-loop-name l = l.bytes ≡ l.fn.bytes ++ (codes "\nhosts" ++ flat_map name_field (take l.name-index l.names))
