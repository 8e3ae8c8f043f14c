use Rattle.std.proofs.Common.{ℕ, Option, ap, sym}
use Rattle.vd_cmd_excuse.specs.Excusing.{as_free}
use Rattle.vd_cmd_excuse.proofs.Looked.{all_free}
use Rattle.vd_cmd_excuse.proofs.checks.expect_free.Goals as goal

pub returns-in-None-clause-checks : goal.returns-in-None-clause-checks
returns-in-None-clause-checks c = record { ok = ap (λ (o : Option ℕ). as_free o) (sym c.in-None.ensures); err = tt }

pub returns-in-None-clause-free : goal.returns-in-None-clause-free
returns-in-None-clause-free c = λ x. all_free c.args.protocols.now (sym c.in-None.ensures) x

pub returns-in-Some-clause-checks : goal.returns-in-Some-clause-checks
returns-in-Some-clause-checks c = record { ok = tt; err = ap (λ (o : Option ℕ). as_free o) (sym c.in-Some.ensures) }
