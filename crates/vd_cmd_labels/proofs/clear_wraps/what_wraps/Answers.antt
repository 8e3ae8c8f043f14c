use Rattle.vd_cmd_labels.proofs.Wrapping.{by_tree, by_no_tree}
use Rattle.vd_cmd_labels.proofs.clear_wraps.what_wraps.Goals as goal

pub returns-in-Ok : goal.returns-in-Ok
returns-in-Ok c = by_tree c.args.bytes.now c.args.words.now c.in-Ok.source c.of_source.result c.in-Ok.ensures.exact c.of_source.ensures

pub returns-in-Err : goal.returns-in-Err
returns-in-Err c = by_no_tree c.args.bytes.now c.args.words.now c.in-Err.fault c.of_parse_fault.result c.in-Err.ensures.exact c.of_parse_fault.ensures
