use Rattle.std.proofs.Common.{◌∙◌}
use Rattle.vd_diag_terminal.proofs.Others.{unsaid}
use Rattle.vd_diag_terminal.proofs.alone.alone.Goals as goal

pub returns-in-Usage : goal.returns-in-Usage
returns-in-Usage c = rw c.in-Usage.is c.of_usage.ensures

pub returns-in-CertificateText : goal.returns-in-CertificateText
returns-in-CertificateText c = rw c.in-CertificateText.is c.of_certificate.ensures

pub returns-in-DealText : goal.returns-in-DealText
returns-in-DealText c = rw c.in-DealText.is c.of_deal.ensures

pub returns-in-Host : goal.returns-in-Host
returns-in-Host c = rw c.in-Host.is c.of_host.ensures

pub returns-in_default : goal.returns-in_default
returns-in_default c = c.new.ensures ∙ unsaid c.args.words.now c.args.status.now c.in_default.not-Usage c.in_default.not-CertificateText c.in_default.not-DealText c.in_default.not-Host
