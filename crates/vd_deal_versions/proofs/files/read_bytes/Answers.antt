use Rattle.std.proofs.Common.{arith}
use Rattle.vd_deal_versions.proofs.Outcomes.{left_is_within}
use Rattle.vd_deal_versions.proofs.files.read_bytes.Goals as goal

pub overflow_sub-bytes : goal.overflow_sub-bytes
overflow_sub-bytes c =
    let stopped = rw c.in-Err-Stopped.field-0-is at (c.in-Err-Stopped.ensures {u = tt}) in
    omega (arith, c.len.ensures, left_is_within c.args.hosts c.args.me.0 c.args.bytes.now c.read_file.new.cursor c.requires.few c.requires.declared (rw c.new-cursor.ensures at stopped))
