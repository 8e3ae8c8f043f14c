use Rattle.vd_report.specs.Inputs.{inputs_read}
use Rattle.vd_report.specs.InputsText.{GivesInputs, IsInputsText}
use Rattle.vd_report.specs.Outcome.{FirstWrong}
use Rattle.vd_report.proofs.Outcomes.{accepts, refuses}
use Rattle.vd_report.proofs.InputsFaults.{follows_grammar}
use Rattle.vd_report.proofs.inputs.read_inputs.Goals as goal

pub returns : goal.returns
returns c =
    let hosts = c.args.hosts.now in
    let bytes = c.args.bytes.now in
    let law = follows_grammar hosts bytes in
    let read = c.read_sections.ensures in
    record {
      given = accepts (inputs_read hosts bytes) (GivesInputs hosts bytes) law.given c.read_sections.result read.ok read.err;
      refused = refuses (inputs_read hosts bytes) (FirstWrong IsInputsText hosts bytes) law.refused c.read_sections.result read.ok read.err;
      ok = read.ok;
      err = read.err;
    }
