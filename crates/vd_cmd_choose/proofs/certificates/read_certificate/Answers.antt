use Rattle.std.proofs.Common.{ap}
use Rattle.vd_cmd_choose.specs.Certifying.{as_certificate}
use Rattle.vd_cmd_choose.proofs.Reading.{from_file}
use Rattle.vd_cmd_choose.proofs.certificates.read_certificate.Goals as goal

pub returns-in-Ok-clause-reads : goal.returns-in-Ok-clause-reads
returns-in-Ok-clause-reads c = λ certificates. record {
  ok = ap as_certificate (c.in-Ok.ensures.outcome (certificates.read c.args.bytes.now) (certificates.read_is c.args.bytes.now));
  err = tt;
}

pub returns-in-Ok-clause-from_file : goal.returns-in-Ok-clause-from_file
returns-in-Ok-clause-from_file c = from_file _ _ c.in-Ok.ensures.given c.requires

pub returns-in-Err-Text-clause-reads : goal.returns-in-Err-Text-clause-reads
returns-in-Err-Text-clause-reads c = λ certificates. record {
  ok = tt;
  err = ap as_certificate ((rw c.in-Err-Text.field-0-is at c.in-Err-Text.ensures.outcome) (certificates.read c.args.bytes.now) (certificates.read_is c.args.bytes.now));
}
