use Rattle.std.proofs.Common.{codes}
use Rattle.std.specs.List.{list_any}
use Rattle.vd_hostcode.specs.Words.{is_array}
use Rattle.vd_hostcode.specs.Text.{version}
use Rattle.vd_hostcode.proofs.Written.{appended}
use Rattle.vd_hostcode.proofs.host_text.writing.push_version.Goals as goal

pub returns : goal.returns
returns c =
    appended c.extend_from_slice-2.result c.args.bytes.now (codes "viaduct-host ") c.extend_from_slice.new.self c.extend_from_slice-2.new.self c.version.result.now (version (list_any is_array c.args.code.now))
    c.in_ok-extend_from_slice.ensures.ok c.version.ensures c.extend_from_slice-2.ensures.ok
