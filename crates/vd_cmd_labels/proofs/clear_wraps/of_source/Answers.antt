use Rattle.vd_cmd_labels.proofs.Wrapping.{by_words, by_no_words}
use Rattle.vd_cmd_labels.proofs.clear_wraps.of_source.Goals as goal

pub returns-in-Ok : goal.returns-in-Ok
returns-in-Ok c = by_words c.args.source.now c.in_ok-names.names c.args.words.now c.in_ok-names.ensures c.in-Ok.inputs c.of_inputs.result c.in-Ok.ensures.given c.of_inputs.ensures

pub returns : goal.returns
returns c = by_no_words c.args.source.now c.in_ok-names.names c.args.words.now c.in_ok-names.ensures c.in-Err.fault c.of_read_fault.result c.in-Err.ensures.given c.of_read_fault.ensures
