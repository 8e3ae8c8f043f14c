use Rattle.std.proofs.Common.{arith}
use Rattle.vd_hostcode.proofs.Programs.{left_is_within}
use Rattle.vd_hostcode.proofs.host_text.files.read_bytes.Goals as goal

pub overflow_sub-bytes : goal.overflow_sub-bytes
overflow_sub-bytes c =
    let stopped = rw c.in-Err-Stopped.field-0-is at (c.in-Err-Stopped.ensures {u = tt}) in
    omega (arith, c.len.ensures, left_is_within c.args.bytes.now c.read_file.new.cursor (rw c.new-cursor.ensures at stopped))
